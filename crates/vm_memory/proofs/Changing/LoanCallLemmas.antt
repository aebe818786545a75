-- A call on loans does to a memory what it does to entries and owners.
use Rattle.xk_ports.specs.declared.store.SwapStore.{Ghosts as SwapStore}
use Rattle.xk_base.specs.Tables.Circle.{is_pid}
use Rattle.std.proofs.Common.{◌≡◌, ℕ, ◌+◌, ◌-◌, ◌<◌, ◌≤◌, Bool, true, false, Option, Some, None, Result, Ok, Err, refl, sym, ap, subst, ◌∙◌, inl, inr, arith}
use Rattle.std.specs.Prelude.{nat_le, if◌then◌else◌}
use Rattle.std.specs.Option.{option_map_or}
use Rattle.std.proofs.lemmas.Bool.{and_from, cases_eq, le-leb}
use Rattle.xk_base.specs.declared.errors.XousError.{XousError}
use Rattle.xk_base.specs.declared.errors.XousError.TheVariants.{BadAddress, ShareViolation}
use Rattle.xk_base.specs.declared.ids.Number.{Number}
use Rattle.xk_base.specs.declared.ids.Pid.{Pid}
use Rattle.xk_base.specs.declared.ids.Place.{Place}
use Rattle.xk_base.specs.declared.ids.Vpn.{Vpn}
use Rattle.xk_base.specs.Numbers.Windows.{first_page, in_window, last_page}
use Rattle.xk_base.specs.declared.messages.MemKind.{MemKind}
use Rattle.xk_base.specs.declared.messages.MemKind.TheVariants.{Move}
use Rattle.xk_base.specs.declared.pages.LoanKind.{LoanKind}
use Rattle.xk_base.specs.declared.pages.LoanKind.TheVariants.{Shared, Exclusive}
use Rattle.xk_base.specs.declared.windows.Window.{Window}
use Rattle.xk_base.specs.declared.windows.Window.TheVariants.{Message}
use Rattle.phys_pages.specs.declared.infos.Seat.TheVariants.{Slot}
use Rattle.phys_pages.specs.Owners.{OwnerTable, frame_seat, infos}
use Rattle.phys_pages.specs.Ram.{RamBytes}
use Rattle.ledger_model.specs.Conditions.{CanGive, CanLend, CanPass}
use Rattle.ledger_model.specs.Lawful.{IsLawful}
use Rattle.ledger_model.specs.LeastRun.{least_run}
use Rattle.ledger_model.specs.Ledger.{Ledger, pages}
use Rattle.ledger_model.specs.Loans.{IsFresh, LoanRun, Stands, loans}
use Rattle.ledger_model.specs.Places.{in_run}
use Rattle.ledger_model.specs.Reach.{is_free}
use Rattle.ledger_model.specs.RunTests.{any_free, any_not_sent, is_exclusive}
use Rattle.ledger_model.specs.Steps.{end_loan, give, lend, orphan_loan, pass}
use Rattle.ledger_model.proofs.Pages.BareLemmas.{bare-can_give, bare-can_lend, bare-can_pass}
use Rattle.ledger_model.proofs.Runs.LeastRunLemmas.{is_free_run-each, least_run-Some}
use Rattle.ledger_model.proofs.Loans.NumberingLemmas.{is_place_in-user}
use Rattle.ledger_model.proofs.PlaceLemmas.{IsInRun, in_run-index, in_run-true}
use Rattle.ledger_model.proofs.Runs.RunTestLemmas.{sent_may_lend, sent_may_move}
use Rattle.ledger_model.proofs.Stepping.EndingLemmas.{end_loan_lawful, end_loan_pages_lent, end_loan_pages_orphan}
use Rattle.ledger_model.proofs.Stepping.GivingLemmas.{give_lawful, give_pages}
use Rattle.ledger_model.proofs.Stepping.LendingLemmas.{lend_lawful, lend_pages}
use Rattle.ledger_model.proofs.Stepping.OrphaningLemmas.{orphan_loan_lawful, orphan_loan_pages}
use Rattle.ledger_model.proofs.Stepping.PassingLemmas.{pass_lawful, pass_pages}
use Rattle.ledger_model.proofs.Stepping.WritingLemmas.{bare-loans}
use Rattle.sv32_space.specs.declared.sides.Entry.TheVariants.{Free}
use Rattle.sv32_space.specs.Agreement.{EntriesAgree, procs_of}
use Rattle.sv32_space.specs.EntryLedger.{ledger_of}
use Rattle.sv32_space.specs.EntryLoans.{IsUnlent, StandsIn}
use Rattle.sv32_space.specs.SpelledEntries.{entries}
use Rattle.sv32_space.specs.Tie.{Held, agrees, bytes_at}
use Rattle.sv32_space.proofs.Agreeing.LoanStandingLemmas.{fresh_in, in_fresh, in_stands, stands_in}
use Rattle.loan_flags.specs.Keeping.{KeepsPages, IsLedgerStep, tables}
use Rattle.loan_flags.specs.Sending as entry
use Rattle.loan_flags.specs.Sending.{is_mutable, mem_kind}
use Rattle.loan_flags.specs.FreeRuns.{least_free}
use Rattle.loan_flags.proofs.FreeRunLemmas.{least_by_entries}
use Rattle.loan_flags.proofs.SentLedgerLemmas.{missing_is_free, unsendable_is_not_sent}
use Rattle.vm_memory.specs.declared.memory.Memory.{Memory}
use Rattle.vm_memory.specs.Loaning.Loans.{KeepsSeats, orphans_of}
use Rattle.vm_memory.specs.Bytes.{used_frames, used_slots}
use Rattle.vm_memory.specs.Memory.{blank_ledger, capacity_of, frames_for_pages, ledger, processes}
use Rattle.vm_memory.specs.Loaning.Sending.{IsFreeArrival, send_answer}
use Rattle.vm_memory.specs.Sound.{IsSound, KnowsLastFrame}
use Rattle.vm_memory.proofs.Changing.CallLemmas.{means-kept, none_out-kept}
use Rattle.vm_memory.proofs.Changing.ChangedLemmas.{IsChanged, frames_stay, room_kept, step_there}
use Rattle.vm_memory.proofs.Changing.LastFrameLemmas.{last_anew, last_same}
use Rattle.vm_memory.proofs.Changing.PageStepLemmas.{free_entry}
use Rattle.vm_memory.proofs.Changing.SoundMemoryLemmas.{bare-ledger}

-- ---- what a memory's ledger says, its entries and owners say

module _ {W : Type 0} (S : SwapStore W) (m : Memory W) (sound : IsSound S.slot_count m) where
  pub stands_there : (loan : LoanRun) → Stands (loans (ledger S.held m)) loan → StandsIn (entries (processes m) m.ram) (infos m.owners) loan
  unfolding ledger
  stands_there loan s = stands_in (processes m) (entries (processes m) m.ram) (infos m.owners) (bytes_at m.ram (S.held m.store)) sound.agree.entries loan s

  pub stands_here : (loan : LoanRun) → StandsIn (entries (processes m) m.ram) (infos m.owners) loan → Stands (loans (ledger S.held m)) loan
  unfolding ledger
  stands_here loan s = in_stands (processes m) (entries (processes m) m.ram) (infos m.owners) (bytes_at m.ram (S.held m.store)) sound.agree.entries loan s

  pub unlent_there : (number : Number) → IsFresh (loans (ledger S.held m)) number → IsUnlent (infos m.owners) number
  unfolding ledger
  unlent_there number f = fresh_in (processes m) (entries (processes m) m.ram) (infos m.owners) (bytes_at m.ram (S.held m.store)) sound.agree.entries number f

  pub fresh_here : (number : Number) → IsUnlent (infos m.owners) number → IsFresh (loans (ledger S.held m)) number
  unfolding ledger
  fresh_here number f = in_fresh (processes m) (entries (processes m) m.ram) (infos m.owners) (bytes_at m.ram (S.held m.store)) sound.agree.entries number f

  -- the answer of a send
  pub same_answer : (from : Place) (n : ℕ) (kind : MemKind)
      → entry.send_answer (entries (processes m) m.ram) from n kind ≡ send_answer (processes m) (ledger S.held m) from n kind
  unfolding ledger
  same_answer from n kind = λ i.
      if missing_is_free (processes m) (entries (processes m) m.ram) (infos m.owners) (bytes_at m.ram (S.held m.store)) sound.agree.entries from n i then Err BadAddress else (
      if unsendable_is_not_sent (processes m) (entries (processes m) m.ram) (infos m.owners) (bytes_at m.ram (S.held m.store)) sound.agree.entries (is_mutable kind) from n i
      then Err ShareViolation else Ok tt)

  -- the least free run
  pub same_run : (pid : Pid) (window : Window) (n : ℕ)
      → least_free (entries (processes m) m.ram) pid window n ≡ least_run (processes m) (ledger S.held m) pid window n
  unfolding ledger
  same_run pid window n = least_by_entries (processes m) (entries (processes m) m.ram) (infos m.owners) (bytes_at m.ram (S.held m.store)) pid window n sound.agree.entries

  -- the places where pages arrive are free
  pub free_there : (to : Place) (n : ℕ) → IsFreeArrival (processes m) (ledger S.held m) to n
      → (p : Place) → in_run to n p ≡ true → entries (processes m) m.ram p ≡ Some Free
  free_there to n arrival p here =
      free_entry S m sound p (is_place_in-user (processes m) Message p (arrival.lies p here)) (arrival.free p here)

-- ---- what is asked of a step

-- the two tests of an accepted send
abbrev send_tests : Bool → Bool → Result (Unit {0}) XousError
send_tests a b = if a then Err BadAddress else (if b then Err ShareViolation else Ok tt)

both_fail : (a b : Bool) → send_tests a b ≡ Ok tt → (a ≡ false) × (b ≡ false)
both_fail true b e = absurd cc
both_fail false true e = absurd cc
both_fail false false e = (refl, refl)

same_kind : (kind : LoanKind) → is_mutable (mem_kind kind) ≡ is_exclusive kind
same_kind Shared = refl
same_kind Exclusive = refl

module _ (procs : ℕ) (l : Ledger) (from : Place) (n : ℕ) (to : Place) (arrival : IsFreeArrival procs l to n) where
  pub can_lend : (kind : LoanKind) (number : Number) → send_answer procs l from n (mem_kind kind) ≡ Ok tt → IsFresh (loans l) number
      → CanLend procs l from n to kind number
  can_lend kind number may fresh =
      let parts : (any_free procs l from n ≡ false) × (any_not_sent procs l from n (is_mutable (mem_kind kind)) ≡ false) =
      both_fail (any_free procs l from n) (any_not_sent procs l from n (is_mutable (mem_kind kind))) may in
      record {
        pages = sent_may_lend procs l from n kind parts.0 (subst (λ b. any_not_sent procs l from n b ≡ false) (same_kind kind) parts.1);
        free = arrival.free;
        lies = arrival.lies;
        fresh = fresh;
      }

  pub can_give : send_answer procs l from n Move ≡ Ok tt → CanGive procs l from n to
  can_give may =
      let parts : (any_free procs l from n ≡ false) × (any_not_sent procs l from n false ≡ false) =
      both_fail (any_free procs l from n) (any_not_sent procs l from n false) may in
      record {
        pages = sent_may_move procs l from n false parts.0 parts.1;
        free = arrival.free;
        lies = arrival.lies;
      }

-- ---- where pages arrive

-- a run that a search found in the Message window is one where pages may arrive
pub found_arrival : (procs : ℕ) (l : Ledger) (pid : Pid) (n : ℕ) (first : Vpn) → is_pid procs pid.0 ≡ true
    → least_run procs l pid Message n ≡ Some first → IsFreeArrival procs l (record { pid = pid; vpn = first }) n
found_arrival procs l pid n first process e =
    let run = least_run-Some procs l pid Message n first e in
    let to : Place = record { pid = pid; vpn = first } in
    record {
      free = λ p here. let at = in_run-index to n p here in
          ap (is_free procs l) at.1 ∙ is_free_run-each procs l to n run.free (p.vpn.0 - first.0) at.0;
      lies = λ p here. let at : IsInRun to n p = in_run-true to n p here in
          and_from (is_pid procs p.pid.0) (in_window Message p.vpn.0) (ap (is_pid procs) at.pid ∙ process)
          (and_from (nat_le (first_page Message) p.vpn.0) (nat_le p.vpn.0 (last_page Message))
          (le-leb (first_page Message) p.vpn.0 (omega (arith, run.low, at.from)))
          (le-leb p.vpn.0 (last_page Message) (omega (arith, run.high, at.to))));
    }

-- ---- the end of a loan takes its orphans away

module _ {W : Type 0} (S : SwapStore W) (m : Memory W) (sound : IsSound S.slot_count m) (loan : LoanRun)
    (stands : Stands (loans (ledger S.held m)) loan) where
  blank_stands : Stands (loans (blank_ledger m)) loan
  blank_stands = subst (λ x. Stands x loan) (bare-loans (blank_ledger m) (ledger S.held m) (bare-ledger S.held m)) stands

  left_over : (o : Option Place) → loan.lender ≡ o
      → pages (processes m) (end_loan loan.number (blank_ledger m)) + option_map_or (λ from. 0) o loan.count ≡ m.pages
  left_over None alone = end_loan_pages_orphan (processes m) (capacity_of m) (blank_ledger m) loan sound.lawful blank_stands alone ∙ sym sound.pages
  left_over (Some from) lent =
      let same : pages (processes m) (end_loan loan.number (blank_ledger m)) ≡ pages (processes m) (blank_ledger m) =
      end_loan_pages_lent (processes m) (blank_ledger m) loan blank_stands from lent in
      omega (arith, same, sound.pages)

  pub orphans_gone : pages (processes m) (end_loan loan.number (blank_ledger m)) ≡ m.pages - orphans_of loan
  orphans_gone = let left = left_over loan.lender refl in omega (arith, left)

  -- they are pages of the memory
  pub orphans_counted : orphans_of loan ≤ m.pages
  orphans_counted = let left = left_over loan.lender refl in omega (arith, left)

-- ---- THE CALLS

-- the memory has made the step of the ledger, and keeps its seats
pub record DoesStep {W : Type 0} (S : SwapStore W) (m n : Memory W) (step : Ledger → Ledger) : Type 0 where
  pub ledger : ledger S.held n ≡ step (ledger S.held m)
  pub keeps : KeepsSeats S m n

module _ {W : Type 0} (S : SwapStore W) (m : Memory W) (sound : IsSound S.slot_count m)
    (ram : RamBytes) (owners : OwnerTable) (count hand : ℕ)
    (agree : agrees ram owners) (keeps : KeepsPages (tables m.ram m.owners) (tables ram owners)) where
  -- the memory after the call
  abbrev n : Memory W
  n = record m { ram = ram; owners = owners; pages = count; hand = hand }

  same_procs : processes n ≡ processes m
  same_procs = ap procs_of keeps.extent

  changed : IsChanged m n (entries (processes m) ram) (infos owners)
  changed = record {
    entries = refl;
    infos = refl;
    made = λ pid process old. agree.made pid (ap (λ k. is_pid k pid) same_procs ∙ process);
    area = keeps.area;
    extent = keeps.extent;
    store = refl;
    failed = refl;
    procs = refl;
    slots = refl;
  }

  agree_there : EntriesAgree (processes m) (entries (processes m) ram) (infos owners)
  agree_there = subst (λ k. EntriesAgree k (entries k ram) (infos owners)) same_procs agree.entries

  -- Where the step is made from any bytes, and lawful and counted pages follow, the memory makes it.
  pub does_step : (step : Ledger → Ledger) → IsLedgerStep step (tables m.ram m.owners) (tables ram owners)
      → IsLawful (processes m) (capacity_of m) (step (blank_ledger m)) → count ≡ pages (processes m) (step (blank_ledger m))
      → (used_frames owners + used_slots owners ≡ count → KnowsLastFrame n) → DoesStep S m n step
  does_step step steps lawful counted last =
      let there = step_there S m n (entries (processes m) ram) (infos owners) sound changed step agree_there lawful counted
      (λ usable. room_kept m n keeps.extent (λ f free. keeps.free (frame_seat f) free) (sound.room usable)) last
      (frames_stay S m n (entries (processes m) ram) (infos owners) sound changed keeps.pages)
      (λ B. ap (λ k. ledger_of (entries k ram) (infos owners) B) (sym same_procs) ∙ steps B) in
      record {
        ledger = there.ledger;
        keeps = record {
          sound = there.sound;
          tie = there.tie;
          size = λ i. record { procs = procs_of (keeps.extent i); area = keeps.area i; slots = (keeps.extent i).slots };
          store = refl;
          failed = refl;
          seats = keeps.free;
          none = none_out-kept m n (λ s free. keeps.free (Slot s) free);
          means = means-kept S m n refl (none_out-kept m n (λ s free. keeps.free (Slot s) free));
        };
      }

  -- what is known of the frame before that at hand stays where as many pages are left
  known_still : count ≡ m.pages → hand ≡ m.hand → used_frames owners + used_slots owners ≡ count → KnowsLastFrame n
  known_still whole at seats =
      last_same m n (record { hand = at; table = keeps.extent; area = keeps.area }) whole keeps.free sound.seats seats sound.last

  -- .. as a call that keeps the number of pages
  kept : (step : Ledger → Ledger) → IsLedgerStep step (tables m.ram m.owners) (tables ram owners)
      → IsLawful (processes m) (capacity_of m) (step (blank_ledger m)) → pages (processes m) (step (blank_ledger m)) ≡ pages (processes m) (blank_ledger m)
      → count ≡ m.pages → hand ≡ m.hand → DoesStep S m n step
  kept step steps lawful same whole at = does_step step steps lawful (whole ∙ (sound.pages ∙ sym same)) (known_still whole at)

  pub lent : (from : Place) (k : ℕ) (to : Place) (kind : LoanKind) (number : Number)
      → IsLedgerStep (lend from k to kind number) (tables m.ram m.owners) (tables ram owners)
      → CanLend (processes m) (ledger S.held m) from k to kind number → count ≡ m.pages → hand ≡ m.hand
      → DoesStep S m n (lend from k to kind number)
  lent from k to kind number steps can whole at =
      let blank : CanLend (processes m) (blank_ledger m) from k to kind number =
      bare-can_lend (processes m) (ledger S.held m) (blank_ledger m) (sym (bare-ledger S.held m)) from k to kind number can in
      kept (lend from k to kind number) steps
      (lend_lawful (processes m) from k to kind number (blank_ledger m) blank (capacity_of m) sound.lawful)
      (lend_pages (processes m) from k to kind number (blank_ledger m)) whole at

  pub given : (from : Place) (k : ℕ) (to : Place)
      → IsLedgerStep (give from k to) (tables m.ram m.owners) (tables ram owners)
      → CanGive (processes m) (ledger S.held m) from k to → count ≡ m.pages → hand ≡ m.hand
      → DoesStep S m n (give from k to)
  given from k to steps can whole at =
      let blank : CanGive (processes m) (blank_ledger m) from k to =
      bare-can_give (processes m) (ledger S.held m) (blank_ledger m) (sym (bare-ledger S.held m)) from k to can in
      kept (give from k to) steps
      (give_lawful (processes m) from k to (blank_ledger m) blank (capacity_of m) sound.lawful)
      (give_pages (processes m) from k to (blank_ledger m) blank (capacity_of m) sound.lawful) whole at

  pub passed : (loan : LoanRun) (to : Place)
      → IsLedgerStep (pass loan.number loan.holder to) (tables m.ram m.owners) (tables ram owners)
      → CanPass (processes m) (ledger S.held m) loan to → count ≡ m.pages → hand ≡ m.hand
      → DoesStep S m n (pass loan.number loan.holder to)
  passed loan to steps can whole at =
      let blank : CanPass (processes m) (blank_ledger m) loan to =
      bare-can_pass (processes m) (ledger S.held m) (blank_ledger m) (sym (bare-ledger S.held m)) loan to can in
      kept (pass loan.number loan.holder to) steps
      (pass_lawful (processes m) (blank_ledger m) loan to blank (capacity_of m) sound.lawful)
      (pass_pages (processes m) loan.number loan.holder to (blank_ledger m)) whole at

  pub orphaned : (number : Number)
      → IsLedgerStep (orphan_loan (processes m) number) (tables m.ram m.owners) (tables ram owners) → count ≡ m.pages → hand ≡ m.hand
      → DoesStep S m n (orphan_loan (processes m) number)
  orphaned number steps whole at =
      kept (orphan_loan (processes m) number) steps
      (orphan_loan_lawful (processes m) (capacity_of m) number (blank_ledger m) sound.lawful)
      (orphan_loan_pages (processes m) (capacity_of m) number (blank_ledger m) sound.lawful) whole at

  -- the orphans of a loan without a lender go
  pub ended : (loan : LoanRun) → IsLedgerStep (end_loan loan.number) (tables m.ram m.owners) (tables ram owners)
      → Stands (loans (ledger S.held m)) loan → count ≡ m.pages - orphans_of loan
      → (orphans_of loan ≡ 0 → hand ≡ m.hand) → (1 ≤ orphans_of loan → frames_for_pages m < count → hand ≡ 0)
      → DoesStep S m n (end_loan loan.number)
  ended loan steps stands left at anew = does_step (end_loan loan.number) steps
      (end_loan_lawful (processes m) (capacity_of m) loan.number (blank_ledger m) sound.lawful)
      (left ∙ sym (orphans_gone S m sound loan stands))
      (λ seats. elim (cases_eq (orphans_of loan) 0) [
        | inl none ↦ known_still (omega (arith, left, none)) (at none) seats
        | inr some ↦ last_anew m n keeps.extent keeps.area (λ over. anew (omega (arith, some)) over)
      ])
