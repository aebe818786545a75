-- Memory as the instructions of a process see it, and what is kept besides.
use Rattle.std.specs.Prelude.{◌≡◌, ◌≢◌, ℕ, ◌≤◌, ◌%◌, true, false, not, is_some, Option, Some, None, if◌then◌else◌}
use Rattle.std.specs.Option.{option_map_or}
use Rattle.xk_base.specs.UserMemory.{Memory as SeenMemory, Content, Seen}
use Rattle.xk_base.specs.declared.ids.Pid.{Pid}
use Rattle.xk_base.specs.declared.pages.Access.TheVariants.{Load}
use Rattle.ledger_model.specs.Ledger.{Ledger, Contents, PageName, byte_of, contents_of, has_bytes}
use Rattle.ledger_model.specs.Loans.{bare}
use Rattle.ledger_model.specs.Reach.{reach}
use Rattle.sv32_space.specs.Tie.{Held}
use Rattle.vm_memory.specs.declared.memory.Memory.{Memory}
use Rattle.vm_memory.specs.Using.Access.{contents_reached}
use Rattle.vm_memory.specs.Bytes.{means_bytes, none_out, pages_out, MeansBytes}
use Rattle.xk_ports.specs.declared.store.SwapStore.{Ghosts as SwapStore}
use Rattle.xk_ports.specs.Keeping.{KeepsStore}
use Rattle.xk_base.specs.Numbers.Windows.{page_of}
use Rattle.vm_memory.specs.Memory.{IsUsable, size, processes, ledger, store_of}
use Rattle.vm_memory.specs.Sound.{IsSound}
use Rattle.vm_memory.specs.Tie.{IsTied}

-- what the page holds that the process may load at the address. A page that it may fetch from or store to is one that it
-- may load
abbrev pub contents_seen : ℕ → Ledger → Pid → ℕ → Option Contents
contents_seen procs ledger pid address = contents_reached procs ledger (page_of pid address) Load

-- memory as the process sees it; the timer has no page there
unfoldable pub seen_memory : ℕ → Ledger → Pid → SeenMemory
seen_memory procs ledger pid = record {
  may = λ access address. is_some (reach procs ledger (page_of pid address) access);
  console = λ address. option_map_or (λ contents. not (has_bytes contents)) (contents_seen procs ledger pid address) false;
  byte = λ address. option_map_or (byte_of (address % 4096)) (contents_seen procs ledger pid address) 0;
  timer = None;
}

abbrev pub user_view : {W : Type 0} → (W → Held) → Memory W → Pid → SeenMemory
user_view held m pid = seen_memory (processes m) (ledger held m) pid

-- what stands at each address is told where bytes mean something
abbrev pub user_content : {W : Type 0} → SwapStore W → Memory W → Pid → Content
user_content S m pid = if means_bytes S m then Some (user_view S.held m pid).byte else None

-- what a process is told; its memory has no timer
abbrev pub user_seen : {W : Type 0} → SwapStore W → Memory W → Pid → Seen
user_seen S m pid = record { content = user_content S m pid; timer = None }

-- ---- what is kept besides

-- the process can't load the page anywhere
abbrev pub IsUnseen : ℕ → Ledger → Pid → PageName → Type 0
IsUnseen procs ledger pid name = (address : ℕ) → reach procs ledger (page_of pid address) Load ≢ Some name

-- Whatever the process does by its accesses, this stays of the memory
pub record KeepsRest {W : Type 0} (S : SwapStore W)
    (pid : Pid) (old new : Memory W) : Type 0 where
  -- all rights and loans, and how large it is
  pub rights : bare (ledger S.held new) ≡ bare (ledger S.held old)
  pub sizes : size new ≡ size old
  -- where bytes mean something, they still do, and a page that the process can't load has the same
  pub means : MeansBytes S old → MeansBytes S new
  pub unseen : MeansBytes S old → (name : PageName) → IsUnseen (processes old) (bare (ledger S.held old)) pid name
      → contents_of (ledger S.held new) name ≡ contents_of (ledger S.held old) name
  -- soundness and the tie; and it fails only where a page is out
  pub sound : IsSound S.slot_count old → IsSound S.slot_count new
  pub tie : IsSound S.slot_count old → IsTied S.held new
  pub out : none_out old ≡ true → IsUsable old → IsUsable new
  pub none : none_out old ≡ true → none_out new ≡ true
  -- no more pages are out: one goes out only in place of one that comes in
  pub no_more : pages_out new ≤ pages_out old
  -- where no page is out, the store stays as it is
  pub still : none_out old ≡ true → store_of new ≡ store_of old
  pub store : KeepsStore S (store_of old) (store_of new)
