-- What a call that makes pages comes to: that state but for bytes, and wholly where these are known; and when there aren't frames
-- for all pages.
use Rattle.std.proofs.Common.{◌≡◌, ℕ, ◌+◌, ◌<◌, ◌≤◌, Bool, true, false, refl, sym, subst, ◌∙◌, inl, inr}
use Rattle.std.specs.Prelude.{Ok, Option, Result}
use Rattle.std.proofs.lemmas.Bool.{cases_lt, false≢true}
use Rattle.boot_plan.specs.Capacity.{capacity}
use Rattle.ledger_model.proofs.Stepping.MakingLemmas.{make_pages}
use Rattle.ledger_model.proofs.Stepping.WritingLemmas.{bare-loans}
use Rattle.ledger_model.specs.Ledger.{Ledger, pages}
use Rattle.ledger_model.specs.Loans.{bare, loans}
use Rattle.ledger_model.specs.Steps.{make}
use Rattle.machine_model.specs.State.Changes.{Outcome, call_settled, settled}
use Rattle.machine_model.specs.State.Machine.{Machine}
use Rattle.process_table.specs.ProcessMap.{change}
use Rattle.process_table.specs.Shown.{processes_of}
use Rattle.process_table.specs.State.{with_heap as heap_set}
use Rattle.process_table.specs.declared.table.Processes.{Processes}
use Rattle.sv32_space.specs.Tie.{Held}
use Rattle.syscall_codec.specs.declared.replies.Reply.{Reply}
use Rattle.vm_memory.proofs.Changing.AnsweringLemmas.{can_answered}
use Rattle.vm_memory.specs.Memory.{capacity_of, frames_for_pages, ledger, processes, room_in, size}
use Rattle.vm_memory.specs.Pages.Making.{after_make, make_answer, page_place}
use Rattle.vm_memory.specs.declared.memory.Memory.{Memory}
use Rattle.xk_ports.specs.declared.store.SwapStore.{Ghosts as SwapStore}
use Rattle.xk_base.specs.Tables.Circle.{is_pid}
use Rattle.xk_base.specs.declared.errors.XousError.{XousError}
use Rattle.xk_base.specs.declared.ids.ThreadId.{ThreadId}
use Rattle.xk_base.specs.declared.ids.Vpn.{Vpn}
use Rattle.xk_base.specs.declared.pages.Right.{Right}
use Rattle.xk_base.specs.declared.windows.Window.{Window}
use Rattle.xk_kernel.specs.Calling.{CrowdsBy, ServesAs, outcome_of}
use Rattle.xk_kernel.specs.Knowing.{ComesTo, IsCrowded}
use Rattle.machine_model.specs.Runs.Isolation.{without_bytes}
use Rattle.xk_kernel.specs.Sound.{IsWhole}
use Rattle.xk_kernel.specs.State.{machine_of}
use Rattle.xk_kernel.specs.declared.kernel.Kernel.{Kernel}
use Rattle.xk_kernel.specs.declared.kernel.calls.CallerFate.{CallerFate}
use Rattle.xk_kernel.specs.declared.kernel.calls.CallerFate.TheVariants.{Answered}
use Rattle.xk_kernel.proofs.Memory.HeapLemmas.{machine_with_parts, on_heap, parts_alike, with_parts}
use Rattle.xk_kernel.proofs.Memory.KeptLoanLemmas.{make_keeps}
use Rattle.xk_kernel.proofs.Memory.KnownLemmas.{comes_same}
use Rattle.xk_kernel.proofs.Memory.MemoryCallLemmas.{machine_with_mem, on_ledger, with_mem}

-- ---- the state

module _ {W : Type 0} (held : W → Held) (k : Kernel W) (mem : Memory W) (l : Ledger) (same : size mem ≡ size k.mem) (rights : bare (ledger held mem) ≡ bare l) where
  made_alike : without_bytes (machine_of held (with_mem mem k)) ≡ without_bytes (on_ledger l (machine_of held k))
  unfolding machine_of
  made_alike = λ i. record (machine_of held k) {
    capacity = capacity (same i).area.frames (same i).procs (same i).slots;
    processes = (same i).procs;
    ledger = rights i;
  }

  -- with the memory alone
  pub made_comes : {known : Type 0} → (known → ledger held mem ≡ l) → ComesTo known (machine_of held (with_mem mem k)) (on_ledger l (machine_of held k))
  made_comes whole = record { alike = made_alike; whole = λ h. machine_with_mem held k mem l same (whole h) }

-- .. and with a new length of the caller's heap
pub grown_comes : {W known : Type 0} (S : SwapStore W) (k : Kernel W) (mem : Memory W) (l : Ledger) → size mem ≡ size k.mem
    → bare (ledger S.held mem) ≡ bare l → IsWhole S k → (procs : Processes) (heap : ℕ)
    → processes_of procs ≡ change k.cursor.pid.0 (heap_set heap) (processes_of k.procs) → (known → ledger S.held mem ≡ l)
    → ComesTo known (machine_of S.held (with_parts mem procs k)) (on_heap heap l (machine_of S.held k))
grown_comes S k mem l same rights sound procs heap set whole = record {
  alike = parts_alike S k sound mem procs l heap same rights set;
  whole = λ h. machine_with_parts S k sound mem procs l heap same (whole h) set;
}

-- a call whose state is known serves as its row
pub serves_by : {known : Type 0} (who : ThreadId) (new : Machine) (outcome : Outcome) (served : Result CallerFate XousError)
    → outcome_of who new served ≡ outcome → ServesAs known who new outcome served
serves_by who new outcome served e = record { target = new; is = e; comes = comes_same new new refl }

-- .. also where its row is told by other words
pub serves_row : {known : Type 0} (who : ThreadId) (new : Machine) (a b : Outcome) (served : Result CallerFate XousError) → a ≡ b
    → ServesAs known who new a served → ServesAs known who new b served
serves_row who new a b served e h = record { target = h.target; is = h.is ∙ e; comes = h.comes }

-- ---- frames for all pages

-- a call is crowded where the state that answers it is
pub crowds_by : {W : Type 0} (held : W → Held) (k : Kernel W) (target : Machine) (reply : Reply) (outcome : Outcome)
    → outcome_of k.cursor target (Ok (Answered reply)) ≡ outcome → IsCrowded k target.ledger → CrowdsBy held k outcome
unfolding call_settled settled
crowds_by held k target reply outcome e crowded = subst (CrowdsBy held k) e crowded

-- a page is out afterwards only where there are more pages than frames
pub too_many : (frames count : ℕ) (b : Bool) → (count ≤ frames → b ≡ true) → b ≡ false → frames < count
too_many frames count b near out = elim (cases_lt frames count) [
  | inl more ↦ more
  | inr few ↦ absurd (false≢true (sym out ∙ near few))
]

module _ {W : Type 0} (held : W → Held) (k : Kernel W) (window : Window) (at : Option Vpn) (n : ℕ) (right : Right) (process : is_pid (processes k.mem) k.cursor.pid.0 ≡ true) where
  abbrev answer : Result Vpn XousError
  answer = make_answer (room_in k.mem) (ledger held k.mem) k.cursor.pid window at n

  -- as many pages more
  pub made_crowded : (first : Vpn) → answer ≡ Ok first → frames_for_pages k.mem < pages (processes k.mem) (ledger held k.mem) + n
      → IsCrowded k (make (page_place k.cursor.pid first) n right (ledger held k.mem))
  made_crowded first e more =
      subst (λ count. frames_for_pages k.mem < count)
      (sym (make_pages (processes k.mem) (capacity_of k.mem) (page_place k.cursor.pid first) n right (ledger held k.mem)
      (can_answered (processes k.mem) (capacity_of k.mem) (ledger held k.mem) k.cursor.pid window at n first process e)))
      more

  -- .. and no other loan
  pub made_loans : (r : Result Vpn XousError) (new : Ledger) → r ≡ answer → bare new ≡ bare (after_make k.cursor.pid n right r (ledger held k.mem))
      → loans new ≡ loans (ledger held k.mem)
  made_loans r new e rights =
      bare-loans (after_make k.cursor.pid n right r (ledger held k.mem)) new rights
      ∙ make_keeps (processes k.mem) (capacity_of k.mem) k.cursor.pid window at n right r (ledger held k.mem) (after_make k.cursor.pid n right r (ledger held k.mem)) process e refl
