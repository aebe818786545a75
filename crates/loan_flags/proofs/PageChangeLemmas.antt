-- Changes of one page in the tables of RAM and owners.
use Rattle.std.proofs.Common.{◌≡◌, ◌≢◌, ℕ, ◌≤◌, true, Option, Some, None, refl, sym, ap, subst, ◌∙◌}
use Rattle.std.specs.Prelude.{is_some, IsSome}
use Rattle.std.proofs.lemmas.Bool.{and_parts}
use Rattle.std.proofs.lemmas.Option.{none-some}
use Rattle.xk_base.specs.Tables.Circle.{is_pid}
use Rattle.xk_base.specs.Numbers.Limits.{table_frames}
use Rattle.xk_base.specs.Numbers.Windows.{window_at}
use Rattle.xk_base.specs.declared.ids.Place.{Place}
use Rattle.xk_base.specs.declared.pages.LoanKind.TheVariants.{Exclusive}
use Rattle.xk_base.specs.declared.pages.Right.{Right}
use Rattle.phys_pages.specs.declared.infos.LoanInfo.{LoanInfo}
use Rattle.phys_pages.specs.declared.infos.PageInfo.{PageInfo}
use Rattle.phys_pages.specs.declared.infos.Seat.{Seat}
use Rattle.phys_pages.proofs.OwnerLemmas.{infos-within}
use Rattle.phys_pages.specs.Owners.{HasSeat, OwnerTable, extent, infos}
use Rattle.phys_pages.specs.Ram.{Area, RamBytes, area, pages}
use Rattle.ledger_model.specs.Places.{in_run, is_user_place}
use Rattle.ledger_model.specs.Steps.{give, lend}
use Rattle.sv32_space.specs.Agreement.{Agrees, EntriesAgree, Infos, holder_side, lender_side, on_loan, owned_by, procs_of, right_in, seat_in}
use Rattle.sv32_space.specs.declared.sides.Entry.{Entry}
use Rattle.sv32_space.specs.Entries.{Entries}
use Rattle.sv32_space.specs.EntryLedger.{SeatBytes, ledger_of}
use Rattle.sv32_space.specs.PageChanges.{ended_entries, given_entries, held_at, lent_entries, passed_entries, with_entry, with_info}
use Rattle.sv32_space.specs.PageSteps.{end_at, forget_orphans, orphan_run, pass_run}
use Rattle.sv32_space.specs.declared.sides.Entry.TheVariants.{At, Free}
use Rattle.sv32_space.specs.declared.sides.Side.TheVariants.{Own}
use Rattle.sv32_space.proofs.Agreeing.LoanAgreementLemmas.{end_agrees, forget_agrees, lend_agrees, orphan_agrees, pass_agrees}
use Rattle.sv32_space.proofs.Agreeing.PageAgreementLemmas.{give_agrees}
use Rattle.sv32_space.proofs.Ledgers.LoanLedgerLemmas.{end_ledger, forget_ledger, lend_ledger, orphan_ledger, pass_ledger}
use Rattle.sv32_space.proofs.Ledgers.PageLedgerLemmas.{entry_kept, give_ledger, seat_kept}
use Rattle.sv32_space.specs.Spaces.{IsMade}
use Rattle.sv32_space.specs.SpelledEntries.{entries}
use Rattle.sv32_space.specs.Tie.{agrees}
use Rattle.loan_flags.specs.Keeping.{KeepsPages, IsLedgerStep, Tables, tables, processes, entries_of, ledger_by}
use Rattle.loan_flags.specs.PageLoans.{IsLendable, IsLentFrom, IsOrphaned}

-- ---- the place of an entry

module _ (ram : RamBytes) (owners : OwnerTable) (agree : agrees ram owners) (p : Place) (e : Entry)
    (there : entries_of (tables ram owners) p ≡ Some e) where
  entry_lies : is_user_place (processes (tables ram owners)) p ≡ true
  entry_lies = sym (agree.entries.spelled p) ∙ ap is_some there

  pub entry_process : is_pid (processes (tables ram owners)) p.pid.0 ≡ true
  entry_process = (and_parts (is_pid (processes (tables ram owners)) p.pid.0) (is_some (window_at p.vpn.0)) entry_lies).0

  pub entry_made : IsMade ram p.pid.0
  entry_made = agree.made p.pid.0 entry_process

  pub entry_window : IsSome (window_at p.vpn.0)
  entry_window = (and_parts (is_pid (processes (tables ram owners)) p.pid.0) (is_some (window_at p.vpn.0)) entry_lies).1

-- the seat of a page at its home is one of the table
pub own_seat : (ram : RamBytes) (owners : OwnerTable) → agrees ram owners → (home : Place) (right : Right) (s : Seat)
    → entries_of (tables ram owners) home ≡ Some (At (Own right) s) → HasSeat (extent owners) s
own_seat ram owners agree home right s e = infos-within owners s (owned_by home) (agree.entries.own home right s e)

-- ---- entries and infos that have changed

-- what `set_entry` does
pub record SetsEntry (procs : ℕ) (old new : RamBytes) (at : Place) (entry : Entry) : Type 0 where
  pub entries_are : entries procs new ≡ with_entry (entries procs old) at entry
  pub pages : (f : ℕ) → table_frames procs ≤ f → pages new f ≡ pages old f
  pub made : (pid : ℕ) → IsMade old pid → IsMade new pid
  pub area_is : area new ≡ area old

-- what a change of a page does, but for its step
pub record Rewrites (old new : Tables) (F : Entries) (J : Infos) : Type 0 where
  pub entries_are : entries (processes old) new.ram ≡ F
  pub infos_are : infos new.owners ≡ J
  pub extent_is : extent new.owners ≡ extent old.owners
  pub area_is : area new.ram ≡ area old.ram
  pub made : (pid : ℕ) → IsMade old.ram pid → IsMade new.ram pid
  pub pages : (f : ℕ) → table_frames (processes old) ≤ f → pages new.ram f ≡ pages old.ram f

module _ (old new : Tables) (F : Entries) (J : Infos) (w : Rewrites old new F J) where
  pub entries_after : entries_of new ≡ F
  entries_after = ap (λ t. entries (procs_of t) new.ram) w.extent_is ∙ w.entries_are

  pub agrees_after : agrees old.ram old.owners → EntriesAgree (processes old) F J → agrees new.ram new.owners
  agrees_after agree agreeing =
      subst (λ t. Agrees (IsMade new.ram) (area new.ram).frames (entries (procs_of t) new.ram) t (infos new.owners)) (sym w.extent_is) (record {
        first = agree.first;
        last = agree.last ∙ sym (ap (λ (a : Area). a.frames) w.area_is);
        made = λ pid process. w.made pid (agree.made pid process);
        entries = subst (λ E. EntriesAgree (processes old) E (infos new.owners)) (sym w.entries_are) (subst (EntriesAgree (processes old) F) (sym w.infos_are) agreeing);
      })

  pub ledger_after : (B : SeatBytes) → ledger_by new B ≡ ledger_of F J B
  ledger_after B = λ i. ledger_of (entries_after i) (w.infos_are i) B

  pub keeps_after : ((s : Seat) → infos old.owners s ≡ None → J s ≡ None) → KeepsPages old new
  keeps_after free = record {
    area = w.area_is;
    extent = w.extent_is;
    pages = w.pages;
    free = λ s e. ap (λ (I : Infos). I s) w.infos_are ∙ free s e;
  }

-- a seat that is free isn't one that is used
used_apart : (I : Infos) (s t : Seat) (info : PageInfo) → I s ≡ Some info → I t ≡ None → t ≢ s
used_apart I s t info used free same = none-some info (sym free ∙ (ap I same ∙ used))

-- ---- a page goes on loan

module _ (ram one two : RamBytes) (owners left : OwnerTable) (home : Place) (loan : LoanInfo) (right : Right) (s : Seat)
    (agree : agrees ram owners) (page : IsLendable (entries_of (tables ram owners)) loan.kind home)
    (free : entries_of (tables ram owners) loan.holder ≡ Some Free) (own : entries_of (tables ram owners) home ≡ Some (At (Own right) s))
    (first : SetsEntry (processes (tables ram owners)) ram one home (At (lender_side loan.kind right) s))
    (second : SetsEntry (processes (tables ram owners)) one two loan.holder (At (holder_side loan.kind) s))
    (told : infos left ≡ with_info (infos owners) s (Some (on_loan (Some home) loan))) (same : extent left ≡ extent owners) where
  abbrev E : Entries
  E = entries_of (tables ram owners)

  abbrev I : Infos
  I = infos owners

  lent : Rewrites (tables ram owners) (tables two left) (lent_entries E home right s loan) (with_info I s (Some (on_loan (Some home) loan)))
  lent = record {
    entries_are = second.entries_are ∙ ap (λ F. with_entry F loan.holder (At (holder_side loan.kind) s)) first.entries_are;
    infos_are = told;
    extent_is = same;
    area_is = second.area_is ∙ first.area_is;
    made = λ pid h. second.made pid (first.made pid h);
    pages = λ f low. second.pages f low ∙ first.pages f low;
  }

  writable : loan.kind ≡ Exclusive → right.w ≡ true
  writable k = sym (ap (λ (o : Option Entry). (right_in o).w) own) ∙ page.writable k

  pub lend_page_agrees : agrees two left
  lend_page_agrees = agrees_after (tables ram owners) (tables two left) (lent_entries E home right s loan) (with_info I s (Some (on_loan (Some home) loan))) lent agree
      (lend_agrees (processes (tables ram owners)) E I home right s loan agree.entries own free)

  pub lend_page_steps : IsLedgerStep (lend home 1 loan.holder loan.kind loan.number) (tables ram owners) (tables two left)
  lend_page_steps B = ledger_after (tables ram owners) (tables two left) (lent_entries E home right s loan) (with_info I s (Some (on_loan (Some home) loan))) lent B
      ∙ lend_ledger (processes (tables ram owners)) E I B home right s loan agree.entries own free writable

  pub lend_page_others : (p : Place) → p ≢ home → p ≢ loan.holder → entries_of (tables two left) p ≡ E p
  lend_page_others p apart other =
      ap (λ (F : Entries). F p) (entries_after (tables ram owners) (tables two left) (lent_entries E home right s loan) (with_info I s (Some (on_loan (Some home) loan))) lent)
      ∙ (entry_kept (with_entry E home (At (lender_side loan.kind right) s)) loan.holder p (At (holder_side loan.kind) s) other
      ∙ entry_kept E home p (At (lender_side loan.kind right) s) apart)

  pub lend_page_keeps : KeepsPages (tables ram owners) (tables two left)
  lend_page_keeps = keeps_after (tables ram owners) (tables two left) (lent_entries E home right s loan) (with_info I s (Some (on_loan (Some home) loan))) lent
      (λ t none. seat_kept I s t (Some (on_loan (Some home) loan)) (used_apart I s t (owned_by home) (agree.entries.own home right s own) none) ∙ none)

-- ---- a page on loan

pub info_seat : (ram : RamBytes) (owners : OwnerTable) (home : Place) (loan : LoanInfo)
    → IsLentFrom (entries_of (tables ram owners)) (infos owners) home loan
    → HasSeat (extent owners) (seat_in (entries_of (tables ram owners) home))
info_seat ram owners home loan lent = infos-within owners (seat_in (entries_of (tables ram owners) home)) (on_loan (Some home) loan) lent.info

module _ (ram one two : RamBytes) (owners left : OwnerTable) (home : Place) (loan : LoanInfo) (agree : agrees ram owners) (lent : IsLentFrom (entries_of (tables ram owners)) (infos owners) home loan)
    (first : SetsEntry (processes (tables ram owners)) ram one home (At (Own (right_in (entries_of (tables ram owners) home))) (seat_in (entries_of (tables ram owners) home))))
    (second : SetsEntry (processes (tables ram owners)) one two loan.holder Free)
    (told : infos left ≡ with_info (infos owners) (seat_in (entries_of (tables ram owners) home)) (Some (owned_by home))) (same : extent left ≡ extent owners) where
  end_rewrites : Rewrites (tables ram owners) (tables two left) (ended_entries (entries_of (tables ram owners)) home (right_in (entries_of (tables ram owners) home)) (seat_in (entries_of (tables ram owners) home)) loan.holder) (with_info (infos owners) (seat_in (entries_of (tables ram owners) home)) (Some (owned_by home)))
  end_rewrites = record {
    entries_are = second.entries_are ∙ ap (λ F. with_entry F loan.holder Free) first.entries_are;
    infos_are = told;
    extent_is = same;
    area_is = second.area_is ∙ first.area_is;
    made = λ pid h. second.made pid (first.made pid h);
    pages = λ f low. second.pages f low ∙ first.pages f low;
  }

  pub end_page_agrees : agrees two left
  end_page_agrees = agrees_after (tables ram owners) (tables two left) (ended_entries (entries_of (tables ram owners)) home (right_in (entries_of (tables ram owners) home)) (seat_in (entries_of (tables ram owners) home)) loan.holder) (with_info (infos owners) (seat_in (entries_of (tables ram owners) home)) (Some (owned_by home))) end_rewrites agree
      (end_agrees (processes (tables ram owners)) (entries_of (tables ram owners)) (infos owners) home (right_in (entries_of (tables ram owners) home)) (seat_in (entries_of (tables ram owners) home)) loan agree.entries lent.info)

  pub end_page_steps : IsLedgerStep (end_at (in_run home 1)) (tables ram owners) (tables two left)
  end_page_steps B = ledger_after (tables ram owners) (tables two left) (ended_entries (entries_of (tables ram owners)) home (right_in (entries_of (tables ram owners) home)) (seat_in (entries_of (tables ram owners) home)) loan.holder) (with_info (infos owners) (seat_in (entries_of (tables ram owners) home)) (Some (owned_by home))) end_rewrites B
      ∙ end_ledger (processes (tables ram owners)) (entries_of (tables ram owners)) (infos owners) B home (right_in (entries_of (tables ram owners) home)) (seat_in (entries_of (tables ram owners) home)) loan agree.entries lent.info refl

  pub end_page_others : (p : Place) → p ≢ home → p ≢ loan.holder → entries_of (tables two left) p ≡ entries_of (tables ram owners) p
  end_page_others p apart other =
      ap (λ (F : Entries). F p) (entries_after (tables ram owners) (tables two left) (ended_entries (entries_of (tables ram owners)) home (right_in (entries_of (tables ram owners) home)) (seat_in (entries_of (tables ram owners) home)) loan.holder) (with_info (infos owners) (seat_in (entries_of (tables ram owners) home)) (Some (owned_by home))) end_rewrites)
      ∙ (entry_kept (with_entry (entries_of (tables ram owners)) home (At (Own (right_in (entries_of (tables ram owners) home))) (seat_in (entries_of (tables ram owners) home)))) loan.holder p Free other ∙ entry_kept (entries_of (tables ram owners)) home p (At (Own (right_in (entries_of (tables ram owners) home))) (seat_in (entries_of (tables ram owners) home))) apart)

  pub end_page_infos : (t : Seat) → t ≢ (seat_in (entries_of (tables ram owners) home)) → infos left t ≡ infos owners t
  end_page_infos t ne = ap (λ (I : Infos). I t) told ∙ seat_kept (infos owners) (seat_in (entries_of (tables ram owners) home)) t (Some (owned_by home)) ne

  pub end_page_keeps : KeepsPages (tables ram owners) (tables two left)
  end_page_keeps = keeps_after (tables ram owners) (tables two left) (ended_entries (entries_of (tables ram owners)) home (right_in (entries_of (tables ram owners) home)) (seat_in (entries_of (tables ram owners) home)) loan.holder) (with_info (infos owners) (seat_in (entries_of (tables ram owners) home)) (Some (owned_by home))) end_rewrites
      (λ t none. seat_kept (infos owners) (seat_in (entries_of (tables ram owners) home)) t (Some (owned_by home)) (used_apart (infos owners) (seat_in (entries_of (tables ram owners) home)) t (on_loan (Some home) loan) lent.info none) ∙ none)

module _ (ram one two : RamBytes) (owners left : OwnerTable) (home : Place) (loan : LoanInfo) (to : Place) (agree : agrees ram owners) (lent : IsLentFrom (entries_of (tables ram owners)) (infos owners) home loan) (free : entries_of (tables ram owners) to ≡ Some Free)
    (first : SetsEntry (processes (tables ram owners)) ram one loan.holder Free)
    (second : SetsEntry (processes (tables ram owners)) one two to (At (holder_side loan.kind) (seat_in (entries_of (tables ram owners) home))))
    (told : infos left ≡ with_info (infos owners) (seat_in (entries_of (tables ram owners) home)) (Some (on_loan (Some home) (held_at to loan)))) (same : extent left ≡ extent owners) where
  pass_rewrites : Rewrites (tables ram owners) (tables two left) (passed_entries (entries_of (tables ram owners)) (seat_in (entries_of (tables ram owners) home)) loan to) (with_info (infos owners) (seat_in (entries_of (tables ram owners) home)) (Some (on_loan (Some home) (held_at to loan))))
  pass_rewrites = record {
    entries_are = second.entries_are ∙ ap (λ F. with_entry F to (At (holder_side loan.kind) (seat_in (entries_of (tables ram owners) home)))) first.entries_are;
    infos_are = told;
    extent_is = same;
    area_is = second.area_is ∙ first.area_is;
    made = λ pid h. second.made pid (first.made pid h);
    pages = λ f low. second.pages f low ∙ first.pages f low;
  }

  pub pass_page_agrees : agrees two left
  pass_page_agrees = agrees_after (tables ram owners) (tables two left) (passed_entries (entries_of (tables ram owners)) (seat_in (entries_of (tables ram owners) home)) loan to) (with_info (infos owners) (seat_in (entries_of (tables ram owners) home)) (Some (on_loan (Some home) (held_at to loan)))) pass_rewrites agree
      (pass_agrees (processes (tables ram owners)) (entries_of (tables ram owners)) (infos owners) home (seat_in (entries_of (tables ram owners) home)) loan to agree.entries lent.info free)

  pub pass_page_steps : IsLedgerStep (pass_run home 1 to) (tables ram owners) (tables two left)
  pass_page_steps B = ledger_after (tables ram owners) (tables two left) (passed_entries (entries_of (tables ram owners)) (seat_in (entries_of (tables ram owners) home)) loan to) (with_info (infos owners) (seat_in (entries_of (tables ram owners) home)) (Some (on_loan (Some home) (held_at to loan)))) pass_rewrites B
      ∙ pass_ledger (processes (tables ram owners)) (entries_of (tables ram owners)) (infos owners) B home (seat_in (entries_of (tables ram owners) home)) loan to agree.entries lent.info free

  pub pass_page_others : (p : Place) → p ≢ loan.holder → p ≢ to → entries_of (tables two left) p ≡ entries_of (tables ram owners) p
  pass_page_others p apart other =
      ap (λ (F : Entries). F p) (entries_after (tables ram owners) (tables two left) (passed_entries (entries_of (tables ram owners)) (seat_in (entries_of (tables ram owners) home)) loan to) (with_info (infos owners) (seat_in (entries_of (tables ram owners) home)) (Some (on_loan (Some home) (held_at to loan)))) pass_rewrites)
      ∙ (entry_kept (with_entry (entries_of (tables ram owners)) loan.holder Free) to p (At (holder_side loan.kind) (seat_in (entries_of (tables ram owners) home))) other ∙ entry_kept (entries_of (tables ram owners)) loan.holder p Free apart)

  pub pass_page_infos : (t : Seat) → t ≢ (seat_in (entries_of (tables ram owners) home)) → infos left t ≡ infos owners t
  pass_page_infos t ne = ap (λ (I : Infos). I t) told ∙ seat_kept (infos owners) (seat_in (entries_of (tables ram owners) home)) t (Some (on_loan (Some home) (held_at to loan))) ne

  pub pass_page_keeps : KeepsPages (tables ram owners) (tables two left)
  pass_page_keeps = keeps_after (tables ram owners) (tables two left) (passed_entries (entries_of (tables ram owners)) (seat_in (entries_of (tables ram owners) home)) loan to) (with_info (infos owners) (seat_in (entries_of (tables ram owners) home)) (Some (on_loan (Some home) (held_at to loan)))) pass_rewrites
      (λ t none. seat_kept (infos owners) (seat_in (entries_of (tables ram owners) home)) t (Some (on_loan (Some home) (held_at to loan))) (used_apart (infos owners) (seat_in (entries_of (tables ram owners) home)) t (on_loan (Some home) loan) lent.info none) ∙ none)

module _ (ram one two : RamBytes) (owners left : OwnerTable) (from to : Place) (right : Right) (s : Seat) (agree : agrees ram owners) (own : entries_of (tables ram owners) from ≡ Some (At (Own right) s)) (free : entries_of (tables ram owners) to ≡ Some Free)
    (first : SetsEntry (processes (tables ram owners)) ram one from Free)
    (second : SetsEntry (processes (tables ram owners)) one two to (At (Own right) s))
    (told : infos left ≡ with_info (infos owners) s (Some (owned_by to))) (same : extent left ≡ extent owners) where
  give_rewrites : Rewrites (tables ram owners) (tables two left) (given_entries (entries_of (tables ram owners)) from to right s) (with_info (infos owners) s (Some (owned_by to)))
  give_rewrites = record {
    entries_are = second.entries_are ∙ ap (λ F. with_entry F to (At (Own right) s)) first.entries_are;
    infos_are = told;
    extent_is = same;
    area_is = second.area_is ∙ first.area_is;
    made = λ pid h. second.made pid (first.made pid h);
    pages = λ f low. second.pages f low ∙ first.pages f low;
  }

  pub give_page_agrees : agrees two left
  give_page_agrees = agrees_after (tables ram owners) (tables two left) (given_entries (entries_of (tables ram owners)) from to right s) (with_info (infos owners) s (Some (owned_by to))) give_rewrites agree
      (give_agrees (processes (tables ram owners)) (entries_of (tables ram owners)) (infos owners) from to right s agree.entries own free)

  pub give_page_steps : IsLedgerStep (give from 1 to) (tables ram owners) (tables two left)
  give_page_steps B = ledger_after (tables ram owners) (tables two left) (given_entries (entries_of (tables ram owners)) from to right s) (with_info (infos owners) s (Some (owned_by to))) give_rewrites B
      ∙ give_ledger (processes (tables ram owners)) (entries_of (tables ram owners)) (infos owners) B from to right s agree.entries own free

  pub give_page_others : (p : Place) → p ≢ from → p ≢ to → entries_of (tables two left) p ≡ entries_of (tables ram owners) p
  give_page_others p apart other =
      ap (λ (F : Entries). F p) (entries_after (tables ram owners) (tables two left) (given_entries (entries_of (tables ram owners)) from to right s) (with_info (infos owners) s (Some (owned_by to))) give_rewrites)
      ∙ (entry_kept (with_entry (entries_of (tables ram owners)) from Free) to p (At (Own right) s) other ∙ entry_kept (entries_of (tables ram owners)) from p Free apart)

  pub give_page_infos : (t : Seat) → t ≢ s → infos left t ≡ infos owners t
  give_page_infos t ne = ap (λ (I : Infos). I t) told ∙ seat_kept (infos owners) s t (Some (owned_by to)) ne

  pub give_page_keeps : KeepsPages (tables ram owners) (tables two left)
  give_page_keeps = keeps_after (tables ram owners) (tables two left) (given_entries (entries_of (tables ram owners)) from to right s) (with_info (infos owners) s (Some (owned_by to))) give_rewrites
      (λ t none. seat_kept (infos owners) s t (Some (owned_by to)) (used_apart (infos owners) s t (owned_by from) (agree.entries.own from right s own) none) ∙ none)

module _ (ram one : RamBytes) (owners left : OwnerTable) (home : Place) (loan : LoanInfo) (agree : agrees ram owners) (lent : IsLentFrom (entries_of (tables ram owners)) (infos owners) home loan)
    (first : SetsEntry (processes (tables ram owners)) ram one home Free) (told : infos left ≡ with_info (infos owners) (seat_in (entries_of (tables ram owners) home)) (Some (on_loan None loan))) (same : extent left ≡ extent owners) where
  orphan_rewrites : Rewrites (tables ram owners) (tables one left) (with_entry (entries_of (tables ram owners)) home Free) (with_info (infos owners) (seat_in (entries_of (tables ram owners) home)) (Some (on_loan None loan)))
  orphan_rewrites = record {
    entries_are = first.entries_are;
    infos_are = told;
    extent_is = same;
    area_is = first.area_is;
    made = first.made;
    pages = first.pages;
  }

  pub orphan_page_agrees : agrees one left
  orphan_page_agrees = agrees_after (tables ram owners) (tables one left) (with_entry (entries_of (tables ram owners)) home Free) (with_info (infos owners) (seat_in (entries_of (tables ram owners) home)) (Some (on_loan None loan))) orphan_rewrites agree
      (orphan_agrees (processes (tables ram owners)) (entries_of (tables ram owners)) (infos owners) home (seat_in (entries_of (tables ram owners) home)) loan agree.entries lent.info)

  pub orphan_page_steps : IsLedgerStep (orphan_run home 1 loan.holder) (tables ram owners) (tables one left)
  orphan_page_steps B = ledger_after (tables ram owners) (tables one left) (with_entry (entries_of (tables ram owners)) home Free) (with_info (infos owners) (seat_in (entries_of (tables ram owners) home)) (Some (on_loan None loan))) orphan_rewrites B
      ∙ orphan_ledger (processes (tables ram owners)) (entries_of (tables ram owners)) (infos owners) B home (seat_in (entries_of (tables ram owners) home)) loan agree.entries lent.info

  pub orphan_page_others : (p : Place) → p ≢ home → entries_of (tables one left) p ≡ entries_of (tables ram owners) p
  orphan_page_others p apart = ap (λ (F : Entries). F p) (entries_after (tables ram owners) (tables one left) (with_entry (entries_of (tables ram owners)) home Free) (with_info (infos owners) (seat_in (entries_of (tables ram owners) home)) (Some (on_loan None loan))) orphan_rewrites)
      ∙ entry_kept (entries_of (tables ram owners)) home p Free apart

  pub orphan_page_infos : (t : Seat) → t ≢ (seat_in (entries_of (tables ram owners) home)) → infos left t ≡ infos owners t
  orphan_page_infos t ne = ap (λ (I : Infos). I t) told ∙ seat_kept (infos owners) (seat_in (entries_of (tables ram owners) home)) t (Some (on_loan None loan)) ne

  pub orphan_page_keeps : KeepsPages (tables ram owners) (tables one left)
  orphan_page_keeps = keeps_after (tables ram owners) (tables one left) (with_entry (entries_of (tables ram owners)) home Free) (with_info (infos owners) (seat_in (entries_of (tables ram owners) home)) (Some (on_loan None loan))) orphan_rewrites
      (λ t none. seat_kept (infos owners) (seat_in (entries_of (tables ram owners) home)) t (Some (on_loan None loan)) (used_apart (infos owners) (seat_in (entries_of (tables ram owners) home)) t (on_loan (Some home) loan) lent.info none) ∙ none)

-- ---- an orphan

pub orphan_seat : (ram : RamBytes) (owners : OwnerTable) (loan : LoanInfo) → IsOrphaned (entries_of (tables ram owners)) (infos owners) loan → HasSeat (extent owners) (seat_in (entries_of (tables ram owners) loan.holder))
orphan_seat ram owners loan orphan = infos-within owners (seat_in (entries_of (tables ram owners) loan.holder)) (on_loan None loan) orphan.info

module _ (ram one : RamBytes) (owners left : OwnerTable) (loan : LoanInfo) (agree : agrees ram owners) (orphan : IsOrphaned (entries_of (tables ram owners)) (infos owners) loan)
    (first : SetsEntry (processes (tables ram owners)) ram one loan.holder Free) (told : infos left ≡ with_info (infos owners) (seat_in (entries_of (tables ram owners) loan.holder)) None) (same : extent left ≡ extent owners) where
  forget_rewrites : Rewrites (tables ram owners) (tables one left) (with_entry (entries_of (tables ram owners)) loan.holder Free) (with_info (infos owners) (seat_in (entries_of (tables ram owners) loan.holder)) None)
  forget_rewrites = record {
    entries_are = first.entries_are;
    infos_are = told;
    extent_is = same;
    area_is = first.area_is;
    made = first.made;
    pages = first.pages;
  }

  pub forget_page_agrees : agrees one left
  forget_page_agrees = agrees_after (tables ram owners) (tables one left) (with_entry (entries_of (tables ram owners)) loan.holder Free) (with_info (infos owners) (seat_in (entries_of (tables ram owners) loan.holder)) None) forget_rewrites agree
      (forget_agrees (processes (tables ram owners)) (entries_of (tables ram owners)) (infos owners) (seat_in (entries_of (tables ram owners) loan.holder)) loan agree.entries orphan.info)

  pub forget_page_steps : IsLedgerStep (forget_orphans (in_run loan.holder 1)) (tables ram owners) (tables one left)
  forget_page_steps B = ledger_after (tables ram owners) (tables one left) (with_entry (entries_of (tables ram owners)) loan.holder Free) (with_info (infos owners) (seat_in (entries_of (tables ram owners) loan.holder)) None) forget_rewrites B
      ∙ forget_ledger (processes (tables ram owners)) (entries_of (tables ram owners)) (infos owners) B (seat_in (entries_of (tables ram owners) loan.holder)) loan agree.entries orphan.info

  pub forget_page_others : (p : Place) → p ≢ loan.holder → entries_of (tables one left) p ≡ entries_of (tables ram owners) p
  forget_page_others p apart = ap (λ (F : Entries). F p) (entries_after (tables ram owners) (tables one left) (with_entry (entries_of (tables ram owners)) loan.holder Free) (with_info (infos owners) (seat_in (entries_of (tables ram owners) loan.holder)) None) forget_rewrites)
      ∙ entry_kept (entries_of (tables ram owners)) loan.holder p Free apart

  pub forget_page_infos : (t : Seat) → t ≢ (seat_in (entries_of (tables ram owners) loan.holder)) → infos left t ≡ infos owners t
  forget_page_infos t ne = ap (λ (I : Infos). I t) told ∙ seat_kept (infos owners) (seat_in (entries_of (tables ram owners) loan.holder)) t None ne

  pub forget_page_keeps : KeepsPages (tables ram owners) (tables one left)
  forget_page_keeps = keeps_after (tables ram owners) (tables one left) (with_entry (entries_of (tables ram owners)) loan.holder Free) (with_info (infos owners) (seat_in (entries_of (tables ram owners) loan.holder)) None) forget_rewrites
      (λ t none. seat_kept (infos owners) (seat_in (entries_of (tables ram owners) loan.holder)) t None (used_apart (infos owners) (seat_in (entries_of (tables ram owners) loan.holder)) t (on_loan None loan) orphan.info none) ∙ none)

-- what is known of a page's entry and seat: of an own page, of one with a loan, and of an orphan
pub ruleset own_page_laws = (entry_made, entry_window, own_seat)

pub ruleset loan_page_laws = (entry_made, entry_window, info_seat)

pub ruleset orphan_page_laws = (entry_made, entry_window, orphan_seat)
