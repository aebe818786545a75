-- A page moves to a free seat, in entries and owners.
use Rattle.std.proofs.Common.{◌≡◌, ◌≢◌, ℕ, ◌≤◌, true, Option, Some, None, refl, sym, ap, subst, ◌∙◌, arith}
use Rattle.std.specs.Prelude.{IfSome, IsSome}
use Rattle.std.specs.Option.{option_map}
use Rattle.xk_base.specs.Numbers.Limits.{table_frames}
use Rattle.xk_base.specs.Numbers.Windows.{window_at}
use Rattle.xk_base.specs.Tables.Circle.{is_pid}
use Rattle.xk_base.specs.declared.ids.Place.{Place}
use Rattle.xk_base.specs.declared.pages.LoanKind.{LoanKind}
use Rattle.xk_base.specs.declared.pages.LoanKind.TheVariants.{Shared, Exclusive}
use Rattle.xk_base.specs.declared.pages.Right.{Right}
use Rattle.phys_pages.specs.declared.infos.LoanInfo.{LoanInfo}
use Rattle.phys_pages.specs.declared.infos.PageInfo.{PageInfo}
use Rattle.phys_pages.specs.declared.infos.Seat.{Seat}
use Rattle.phys_pages.specs.Owners.{OwnerTable, extent, infos}
use Rattle.phys_pages.specs.Ram.{RamBytes, area, pages}
use Rattle.sv32_space.specs.Agreement.{Infos, holder_side, lender_side, procs_of, right_in}
use Rattle.sv32_space.specs.declared.sides.Side.{Side}
use Rattle.sv32_space.specs.declared.sides.Side.TheVariants.{Own}
use Rattle.sv32_space.specs.declared.sides.Entry.TheVariants.{At}
use Rattle.sv32_space.specs.Entries.{Entries}
use Rattle.sv32_space.specs.PageChanges.{moved_infos, renamed, with_entry, with_info}
use Rattle.sv32_space.specs.Spaces.{IsMade}
use Rattle.sv32_space.specs.SpelledEntries.{entries}
use Rattle.sv32_space.specs.Tie.{agrees}
use Rattle.sv32_space.proofs.Agreeing.PageAgreementLemmas.{move_agrees}
use Rattle.sv32_space.proofs.Agreeing.RenamingLemmas.{renamed_lent, renamed_orphan, renamed_owned}
use Rattle.sv32_space.proofs.Ledgers.PageLedgerLemmas.{entry_kept}
use Rattle.loan_flags.specs.Keeping.{entries_of, processes, tables}
use Rattle.loan_flags.proofs.PageChangeLemmas.{Rewrites, agrees_after, entries_after, entry_made, entry_process, entry_window}
use Rattle.swap_map.specs.Moving.{KeepsSizes, Moves, Reseats, holder_place}

abbrev page_info : Option Place → Option LoanInfo → PageInfo
page_info home loan = record { home = home; loan = loan }

-- the two sides of a loan differ
sides_differ : (kind : LoanKind) (right : Right) (s : Seat) → Some (At (lender_side kind right) s) ≢ Some (At (holder_side kind) s)
sides_differ Shared right s e = cc
sides_differ Exclusive right s e = cc

module _ (ram : RamBytes) (owners : OwnerTable) (agree : agrees ram owners) (from : Seat) where
  abbrev procs : ℕ
  procs = procs_of (extent owners)

  abbrev E : Entries
  E = entries procs ram

  abbrev I : Infos
  I = infos owners

  -- the entry of the page's home, and that of its loan's holder
  pub home_names : (p : Place) (loan : Option LoanInfo) → I from ≡ Some (page_info (Some p) loan) → (side : Side) × (E p ≡ Some (At side from))
  home_names p None here = (Own (right_in (E p)), agree.entries.home from p here)
  home_names p (Some loan) here = (lender_side loan.kind (right_in (E p)), agree.entries.lender from p loan here)

  pub home_lies : (home : Option Place) (loan : Option LoanInfo) → I from ≡ Some (page_info home loan) → (p : Place) → home ≡ Some p → is_pid procs p.pid.0 ≡ true
  home_lies home loan here p e =
      let names = home_names p loan (here ∙ ap (λ h. Some (page_info h loan)) e) in
      entry_process ram owners agree p (At names.0 from) names.1

  pub holder_lies : (home : Option Place) (loan : Option LoanInfo) → I from ≡ Some (page_info home loan) → (p : Place) → option_map holder_place loan ≡ Some p → is_pid procs p.pid.0 ≡ true
  holder_lies home None here p e = cc
  holder_lies home (Some loan) here p e =
      subst (λ o. IfSome o (λ (q : Place). is_pid procs q.pid.0 ≡ true)) e (entry_process ram owners agree loan.holder (At (holder_side loan.kind) from) (agree.entries.holder from home loan here))

  pub home_made : (home : Option Place) (loan : Option LoanInfo) → I from ≡ Some (page_info home loan) → IfSome home (λ p. IsMade ram p.pid.0)
  home_made None loan here = tt
  home_made (Some p) loan here = let names = home_names p loan here in entry_made ram owners agree p (At names.0 from) names.1

  pub home_window : (home : Option Place) (loan : Option LoanInfo) → I from ≡ Some (page_info home loan) → IfSome home (λ p. IsSome (window_at p.vpn.0))
  home_window None loan here = tt
  home_window (Some p) loan here = let names = home_names p loan here in entry_window ram owners agree p (At names.0 from) names.1

  pub holder_made : (home : Option Place) (loan : Option LoanInfo) → I from ≡ Some (page_info home loan) → IfSome (option_map holder_place loan) (λ p. IsMade ram p.pid.0)
  holder_made home None here = tt
  holder_made home (Some loan) here = entry_made ram owners agree loan.holder (At (holder_side loan.kind) from) (agree.entries.holder from home loan here)

  pub holder_window : (home : Option Place) (loan : Option LoanInfo) → I from ≡ Some (page_info home loan) → IfSome (option_map holder_place loan) (λ p. IsSome (window_at p.vpn.0))
  holder_window home None here = tt
  holder_window home (Some loan) here = entry_window ram owners agree loan.holder (At (holder_side loan.kind) from) (agree.entries.holder from home loan here)

  -- after both are written each entry that named the one seat names the other
  pub both_renamed : (one two : RamBytes) (to : Seat) (home : Option Place) (loan : Option LoanInfo) → I from ≡ Some (page_info home loan)
      → Reseats ram one home to → Reseats one two (option_map holder_place loan) to → entries procs two ≡ renamed from to E
  both_renamed one two to None None here first second = let a = agree.entries.used from in absurd (grind (arith, here))
  both_renamed one two to (Some home) None here first second =
      let names = agree.entries.home from home here in
      let written : entries procs one ≡ with_entry E home (At (Own (right_in (E home))) to) =
      first.entry procs home (Own (right_in (E home))) from refl (entry_process ram owners agree home (At (Own (right_in (E home))) from) names) names in
      ap (entries procs) (second.none refl) ∙ (written ∙ sym (renamed_owned procs E I from to agree.entries home (Own (right_in (E home))) here names))
  both_renamed one two to None (Some loan) here first second =
      let names = agree.entries.holder from None loan here in
      let unchanged : entries procs one ≡ E = ap (entries procs) (first.none refl) in
      let written : entries procs two ≡ with_entry (entries procs one) loan.holder (At (holder_side loan.kind) to) =
      second.entry procs loan.holder (holder_side loan.kind) from refl (entry_process ram owners agree loan.holder (At (holder_side loan.kind) from) names)
      (ap (λ F. F loan.holder) unchanged ∙ names) in
      written ∙ (ap (λ F. with_entry F loan.holder (At (holder_side loan.kind) to)) unchanged
      ∙ sym (renamed_orphan procs E I from to agree.entries loan (holder_side loan.kind) here names))
  both_renamed one two to (Some home) (Some loan) here first second =
      let lender : Side = lender_side loan.kind (right_in (E home)) in
      let named : E home ≡ Some (At lender from) = agree.entries.lender from home loan here in
      let held : E loan.holder ≡ Some (At (holder_side loan.kind) from) = agree.entries.holder from (Some home) loan here in
      let apart : loan.holder ≢ home = λ same. sides_differ loan.kind (right_in (E home)) from (sym named ∙ (ap E (sym same) ∙ held)) in
      let changed : entries procs one ≡ with_entry E home (At lender to) =
      first.entry procs home lender from refl (entry_process ram owners agree home (At lender from) named) named in
      let written : entries procs two ≡ with_entry (entries procs one) loan.holder (At (holder_side loan.kind) to) =
      second.entry procs loan.holder (holder_side loan.kind) from refl (entry_process ram owners agree loan.holder (At (holder_side loan.kind) from) held)
      (ap (λ F. F loan.holder) changed ∙ (entry_kept E home loan.holder (At lender to) apart ∙ held)) in
      written ∙ (ap (λ F. with_entry F loan.holder (At (holder_side loan.kind) to)) changed
      ∙ sym (renamed_lent procs E I from to agree.entries home loan lender (holder_side loan.kind) here named held))

module _ (ram one two : RamBytes) (owners left : OwnerTable) (from to : Seat) (info : PageInfo) (agree : agrees ram owners)
    (here : infos owners from ≡ Some info) (free : infos owners to ≡ None)
    (first : Reseats ram one info.home to) (second : Reseats one two (option_map holder_place info.loan) to)
    (told : infos left ≡ moved_infos (infos owners) from to info) (same : extent left ≡ extent owners) where
  moved : Rewrites (tables ram owners) (tables two left) (renamed from to (entries_of (tables ram owners))) (moved_infos (infos owners) from to info)
  moved = record {
    entries_are = both_renamed ram owners agree from one two to info.home info.loan here first second;
    infos_are = told;
    extent_is = same;
    area_is = second.area ∙ first.area;
    made = λ pid h. second.made pid (first.made pid h);
    pages = λ f low. second.pages (processes (tables ram owners)) f (holder_lies ram owners agree from info.home info.loan here) low
        ∙ first.pages (processes (tables ram owners)) f (home_lies ram owners agree from info.home info.loan here) low;
  }

  pub move_page_agrees : agrees two left
  move_page_agrees = agrees_after (tables ram owners) (tables two left) (renamed from to (entries_of (tables ram owners))) (moved_infos (infos owners) from to info) moved agree
      (move_agrees (processes (tables ram owners)) (entries_of (tables ram owners)) (infos owners) from to info agree.entries here free)

  pub move_page_moves : Moves (tables ram owners) (tables two left) from to
  move_page_moves = record {
    entries = entries_after (tables ram owners) (tables two left) (renamed from to (entries_of (tables ram owners))) (moved_infos (infos owners) from to info) moved;
    infos = told ∙ ap (λ o. with_info (with_info (infos owners) from None) to o) (sym here);
  }

  pub move_page_sizes : KeepsSizes (tables ram owners) (tables two left)
  move_page_sizes = record { area = moved.area_is; extent = same }

  pub move_page_pages : (f : ℕ) → table_frames (processes (tables ram owners)) ≤ f → pages two f ≡ pages ram f
  move_page_pages = moved.pages
