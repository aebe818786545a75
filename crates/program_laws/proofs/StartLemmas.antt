-- The start of a lawful plan is a state of words, and so one that state bytes spell; so is the state from which a run goes on.
use Rattle.std.proofs.Common.{◌≡◌, ℕ, zero, suc, ◌+◌, ◌-◌, ◌<◌, ◌≤◌, Bool, true, false, List, [], ◌∷◌, length, Option, Some, None, inl, inr, sym, subst, arith}
use Rattle.std.specs.Prelude.{◌==◌, ◌&&◌, All, if◌then◌else◌, map, nat_le, nat_lt, slice_get, slice_index}
use Rattle.std.specs.List.{range_with_len}
use Rattle.std.specs.Option.{option_and_then, option_map}
use Rattle.std.proofs.lemmas.Bool.{lt-ltb}
use Rattle.std.proofs.lemmas.List.Elements.{All-cons, All-head, All-nil, All-tail}
use Rattle.xk_base.specs.declared.ids.ThreadId.{ThreadId}
use Rattle.xk_base.specs.declared.limits.TheConstants.{TID_LIMIT}
use Rattle.xk_base.specs.Tables.Circle.{is_thread_id}
use Rattle.boot_plan.specs.declared.plans.BootPlan.{BootPlan}
use Rattle.boot_plan.specs.declared.plans.PagePlan.{PagePlan}
use Rattle.boot_plan.specs.declared.plans.ProcPlan.{ProcPlan}
use Rattle.boot_plan.specs.Content.{page_byte}
use Rattle.boot_plan.specs.Lawful.{CanStart, IsLawfulPlan}
use Rattle.ledger_model.specs.WholePages.{HasWholePages, IsPage}
use Rattle.ledger_model.proofs.Pages.WholePageLemmas.{WholePage, whole_from}
use Rattle.machine_model.specs.Runs.Matched.{Matched}
use Rattle.machine_model.specs.State.Machine.{Machine, Reservation}
use Rattle.machine_model.specs.State.Threads.{first_handler_thread, first_stack, first_thread, thread_return}
use Rattle.resume_path.specs.Resumable.{CanSplit, resumed_frames}
use Rattle.snapshot_rows.specs.declared.state.State.{State}
use Rattle.suspend_image.specs.Saveable.{IsSpellable}
use Rattle.vm_memory.specs.FirstLedger.{first_ledger, first_page, page_bytes, planned_page, process_of}
use Rattle.vm_memory.proofs.Booting.PlacedPageLemmas.{length-page_bytes}
use Rattle.snapshot_laws.specs.Words.{IsClaimOfWords, IsMachineOfWords, IsServerOfWords, IsThreadOfWords, greatest}
use Rattle.snapshot_laws.proofs.Calling.AnswerWordLemmas.{fresh_are}
use Rattle.snapshot_laws.proofs.Changing.HoldingLemmas.{Holds, if_holds, none_holds, some_holds, then_holds}
use Rattle.snapshot_laws.proofs.Words.RegisterLemmas.{zeros_are}
use Rattle.snapshot_laws.proofs.FileLemmas.{files_spellable}
use Rattle.snapshot_laws.proofs.SaveableLemmas.{saveable_of}
use Rattle.snapshot_laws.proofs.SpellableLemmas.{last_spellable, moments_spellable}
use Rattle.xk_kernel.specs.Start.{first_threads, start, threads_at_start}
use Rattle.xk_kernel.proofs.Starting.FirstLawfulLemmas.{start_of_plan_matched}
use Rattle.xk_kernel.proofs.Starting.UnreservedLemmas.{start_unreserved}
use Rattle.program_laws.specs.Starting.{BeginsSpellable, EveryLastSpellable, EveryStateSpellable, GoesOnFrom, StartsIn}

-- ---- pages

byte_at : (xs : List ℕ) (i : ℕ) → All (λ b. b < 256) xs → slice_index xs i < 256
byte_at [] i h = omega arith
byte_at (x ∷ xs) zero h = All-head (λ b. b < 256) x xs h
byte_at (x ∷ xs) (suc i) h = byte_at xs i (All-tail (λ b. b < 256) x xs h)

module _ (file : List ℕ) (bytes : All (λ b. b < 256) file) where
  byte_fits : (page : PagePlan) (k : ℕ) → page_byte file page k < 256
  byte_fits page k = go (nat_lt k page.len)
    where
      go : (b : Bool) → (if b then slice_index file (page.from + k) else 0) < 256
      go true = byte_at file (page.from + k) bytes
      go false = omega arith

  bytes_fit : (page : PagePlan) (ks : List ℕ) → All (λ b. b < 256) (map (page_byte file page) ks)
  bytes_fit page [] = All-nil (λ b. b < 256)
  bytes_fit page (k ∷ ks) =
      All-cons (λ b. b < 256) (page_byte file page k) (map (page_byte file page) ks) (byte_fits page k) (bytes_fit page ks)

  page_is : (page : PagePlan) → IsPage (page_bytes file page)
  unfolding page_bytes
  page_is page = record { size = length-page_bytes file page; each = bytes_fit page (range_with_len 0 4096) }

  page_whole : (o : Option PagePlan) → WholePage (option_map (first_page file) o)
  page_whole None = tt
  page_whole (Some page) = page_is page

  first_whole : (plan : BootPlan) → HasWholePages (first_ledger plan file)
  unfolding first_ledger
  first_whole plan =
      whole_from (first_ledger plan file) (λ p. page_whole (option_and_then (planned_page p.vpn.0) (process_of plan p.pid.0))) (λ p. tt)

-- ---- threads

module _ {V : Type 0} (P : V → Type 0) where
  get_holds : (xs : List V) (i : ℕ) → All P xs → Holds P (slice_get xs i)
  get_holds [] i h = none_holds P
  get_holds (x ∷ xs) zero h = some_holds P x (All-head P x xs h)
  get_holds (x ∷ xs) (suc i) h = get_holds xs i (All-tail P x xs h)

first_words : (entry : ℕ) → entry ≤ greatest → IsThreadOfWords (first_thread entry)
first_words entry fits = record { pc = fits; regs = fresh_are thread_return first_stack [] (omega arith) (omega arith) tt }

handler_words : IsThreadOfWords first_handler_thread
handler_words = record { pc = omega arith; regs = zeros_are }

threads_fit : (entry tid : ℕ) → entry ≤ greatest → Holds IsThreadOfWords (first_threads entry tid)
threads_fit entry tid fits =
    if_holds IsThreadOfWords (tid == 1) (Some first_handler_thread) (if tid == 2 then Some (first_thread entry) else None)
    (some_holds IsThreadOfWords first_handler_thread handler_words)
    (if_holds IsThreadOfWords (tid == 2) (Some (first_thread entry)) None (some_holds IsThreadOfWords (first_thread entry) (first_words entry fits))
    (none_holds IsThreadOfWords))

abbrev EntersWord : ProcPlan → Type 0
EntersWord process = process.entry ≤ greatest

module _ (plan : BootPlan) (entries : All EntersWord plan.procs) where
  entry_fits : (pid : ℕ) → Holds EntersWord (process_of plan pid)
  entry_fits pid =
      if_holds EntersWord (nat_le 2 pid) (slice_get plan.procs (pid - 2)) None (get_holds EntersWord plan.procs (pid - 2) entries) (none_holds EntersWord)

  start_threads : (id : ThreadId) → Holds IsThreadOfWords (threads_at_start plan id)
  start_threads id =
      then_holds IsThreadOfWords (λ (process : ProcPlan). first_threads process.entry id.tid.0) (process_of plan id.pid.0)
      (λ process e. threads_fit process.entry id.tid.0 (entry_fits id.pid.0 process e))

-- ---- the whole

module _ (plan : BootPlan) (file : List ℕ) (bytes : All (λ b. b < 256) file) (lawful : IsLawfulPlan (length file) plan)
    (can : All CanStart plan.procs) (entries : All EntersWord plan.procs) where
  start_words : IsMachineOfWords (start plan file)
  unfolding start
  start_words = record {
    whole = first_whole file bytes plan;
    threads = start_threads plan entries;
    servers = λ serial. none_holds IsServerOfWords;
    claims = λ number. none_holds IsClaimOfWords;
    compare = none_holds (λ (n : ℕ). n ≤ greatest);
    reserved = none_holds (λ (r : Reservation). r.address ≤ greatest);
  }

  start_room : (start plan file).capacity ≤ 32768
  unfolding start
  start_room =
      let frames : plan.frames ≤ 16384 = lawful.frames in
      let slots : plan.slots ≤ 16384 = lawful.slots in
      omega arith

  start_steps : (start plan file).steps ≤ 4000000000
  unfolding start
  start_steps = omega arith

  start_some : 1 ≤ (start plan file).processes
  unfolding start
  start_some = lawful.some

  start_cursor : is_thread_id (start plan file).processes (start plan file).cursor ≡ true
  unfolding start
  start_cursor =
      let some : 1 ≤ length plan.procs = lawful.some in
      let below : 2 < length plan.procs + 2 = omega arith in
      λ i. (nat_le 2 2 && lt-ltb 2 (length plan.procs + 2) below i) && (nat_le 1 2 && nat_le 2 TID_LIMIT)

  start_spellable : IsSpellable (start plan file)
  start_spellable =
      let matched : Matched (start plan file) = start_of_plan_matched plan file lawful can in
      record {
        matched = matched;
        saveable = saveable_of (start plan file) matched start_steps start_words start_room start_some start_cursor (start_unreserved plan file);
      }

-- ---- what a run begins with

starts_spellable : (m : Machine) → StartsIn m → IsSpellable m
starts_spellable m h = subst IsSpellable (sym h.start) (start_spellable h.plan h.file h.bytes h.lawful h.can h.entries)

-- its frames and its slots are those that a machine may have
few_pages : (state : State) (slots : ℕ) → CanSplit state slots → state.cap ≤ 32768
few_pages state slots split =
    let frames : resumed_frames state slots ≤ 16384 = split.frames in
    let few : slots ≤ 16384 = split.few in
    omega arith

goes_on_spellable : (m : Machine) → GoesOnFrom m → IsSpellable m
goes_on_spellable m h =
    subst IsSpellable (sym h.resumed)
    (files_spellable h.file h.state h.bytes h.resumable.spelled h.resumable.matched (few_pages h.state h.slots h.split))

pub begins_spellable : BeginsSpellable
begins_spellable m (inl h) = starts_spellable m h
begins_spellable m (inr h) = goes_on_spellable m h

-- ---- histories

pub every_state_spellable : EveryStateSpellable
every_state_spellable m h events limit within few i = moments_spellable events limit m (begins_spellable m h) within few i

pub every_last_spellable : EveryLastSpellable
every_last_spellable m h events limit within few = last_spellable events limit m (begins_spellable m h) within few
