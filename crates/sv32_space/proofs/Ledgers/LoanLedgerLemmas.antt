-- What changes of loans do to the ledger of entries and owners.
use Rattle.std.proofs.Common.{◌≡◌, ◌≢◌, ℕ, true, Option, Some, None, refl, sym, ap, subst, ◌∙◌, inl, inr, arith}
use Rattle.std.specs.Option.{option_and_then, option_map}
use Rattle.xk_base.specs.declared.ids.Place.{Place}
use Rattle.xk_base.specs.declared.pages.LoanKind.{LoanKind}
use Rattle.xk_base.specs.declared.pages.LoanKind.TheVariants.{Shared, Exclusive}
use Rattle.xk_base.specs.declared.pages.Right.{Right}
use Rattle.phys_pages.specs.declared.infos.LoanInfo.{LoanInfo}
use Rattle.phys_pages.specs.declared.infos.PageInfo.{PageInfo}
use Rattle.phys_pages.specs.declared.infos.Seat.{Seat}
use Rattle.ledger_model.specs.Ledger.{Bytes}
use Rattle.ledger_model.specs.Places.{in_run, moved}
use Rattle.ledger_model.specs.Steps.{lend}
use Rattle.ledger_model.proofs.LedgerLemmas.{same_ledger}
use Rattle.ledger_model.proofs.PlaceLemmas.{same_place_tells}
use Rattle.sv32_space.specs.declared.sides.Side.{Side}
use Rattle.sv32_space.specs.declared.sides.Side.TheVariants.{Own}
use Rattle.sv32_space.specs.Agreement.{Infos, EntriesAgree, owned_by, on_loan, lender_side, holder_side, loan_in, right_in}
use Rattle.sv32_space.specs.declared.sides.Entry.{Entry}
use Rattle.sv32_space.specs.declared.sides.Entry.TheVariants.{Free, At}
use Rattle.sv32_space.specs.Entries.{Entries}
use Rattle.sv32_space.specs.EntryLedger.{SeatBytes, ledger_of, page_loan, orphan_of_info}
use Rattle.sv32_space.specs.PageChanges.{with_entry, with_info, lent_entries, ended_entries, passed_entries, held_at}
use Rattle.sv32_space.specs.PageSteps.{end_at, forget_orphans, orphan_run, pass_run}
use Rattle.sv32_space.proofs.Ledgers.EntryLedgerLemmas.{in_one-at, in_one-apart, moved-first, home_at, orphan_at, Stays, home_stays, orphan_stays, names_owned, names_lent, names_orphan, page_of_lender, page_of_holder, orphan_of_lender, orphan_of_holder}
use Rattle.sv32_space.proofs.Ledgers.PageLedgerLemmas.{entry_put, entry_kept, seat_put, seat_kept}

-- ---- lend

pub lend_ledger : (procs : ℕ) (E : Entries) (I : Infos) (B : SeatBytes) (home : Place) (right : Right) (s : Seat) (loan : LoanInfo)
    → EntriesAgree procs E I → E home ≡ Some (At (Own right) s) → E loan.holder ≡ Some Free
    → (loan.kind ≡ Exclusive → right.w ≡ true)
    → ledger_of (lent_entries E home right s loan) (with_info I s (Some (on_loan (Some home) loan))) B
    ≡ lend home 1 loan.holder loan.kind loan.number (ledger_of E I B)
unfolding lend
lend_ledger procs E I B home right s loan agree here free writable =
    same_ledger (ledger_of F J B) (lend home 1 loan.holder loan.kind loan.number (ledger_of E I B)) homes orphans
  where
    F : Entries
    F = lent_entries E home right s loan

    J : Infos
    J = with_info I s (Some (on_loan (Some home) loan))

    kept : (p : Place) → p ≢ home → (side : Side) (t : Seat) → E p ≡ Some (At side t) → Stays I J B B t
    kept p apart side t e =
        let ne : t ≢ s = λ same. apart (names_owned procs E I agree home p side s (agree.own home right s here) (subst (λ u. E p ≡ Some (At side u)) same e)) in
        record { info = seat_kept I s t (Some (on_loan (Some home) loan)) ne; bytes = refl }

    at_holder : (p : Place) → p ≡ loan.holder → F p ≡ Some (At (holder_side loan.kind) s)
    at_holder p e = entry_put (with_entry E home (At (lender_side loan.kind right) s)) loan.holder p (At (holder_side loan.kind) s) e

    at_home : (p : Place) → p ≢ loan.holder → p ≡ home → F p ≡ Some (At (lender_side loan.kind right) s)
    at_home p ne e = entry_kept (with_entry E home (At (lender_side loan.kind right) s)) loan.holder p (At (holder_side loan.kind) s) ne
        ∙ entry_put E home p (At (lender_side loan.kind right) s) e

    elsewhere : (p : Place) → p ≢ loan.holder → p ≢ home → F p ≡ E p
    elsewhere p ne apart = entry_kept (with_entry E home (At (lender_side loan.kind right) s)) loan.holder p (At (holder_side loan.kind) s) ne
        ∙ entry_kept E home p (At (lender_side loan.kind right) s) apart

    told : J s ≡ Some (on_loan (Some home) loan)
    told = seat_put I s (Some (on_loan (Some home) loan))

    -- the holder's place isn't the home: it is free
    holder_apart : home ≢ loan.holder
    holder_apart same = let a = ap E same in grind arith

    homes : (p : Place) → (ledger_of F J B).home p ≡ (lend home 1 loan.holder loan.kind loan.number (ledger_of E I B)).home p
    homes p = elim (same_place_tells p loan.holder) [
      | inl k ↦ let a = home_at F J B p (At (holder_side loan.kind) s) (at_holder p k.1) in let b = page_of_holder loan.kind (J s) (B s) in
          let c = home_at E I B loan.holder Free free in let d = in_one-apart home p (λ same. holder_apart (sym same ∙ k.1)) in
          let e : (ledger_of E I B).home p ≡ (ledger_of E I B).home loan.holder = ap (λ q. (ledger_of E I B).home q) k.1 in grind (arith, k.0)
      | inr k ↦ elim (same_place_tells p home) [
        | inl j ↦ let a = home_at F J B p (At (lender_side loan.kind right) s) (at_home p k.1 j.1) in let b = page_of_lender loan.kind right (J s) (B s) writable in
            let t = told in let c = home_at E I B home (At (Own right) s) here in let d = in_one-at home p j.1 in
            let e : (ledger_of E I B).home p ≡ (ledger_of E I B).home home = ap (λ q. (ledger_of E I B).home q) j.1 in
            let m : moved home loan.holder p ≡ loan.holder = ap (moved home loan.holder) j.1 ∙ moved-first home loan.holder in grind (arith, j.0)
        | inr j ↦ let a = home_stays E F I J B B p (elsewhere p k.1 j.1) (kept p j.1) in let b = in_one-apart home p j.1 in grind (arith, k.0)
      ]
    ]

    orphans : (p : Place) → (ledger_of F J B).orphan p ≡ (lend home 1 loan.holder loan.kind loan.number (ledger_of E I B)).orphan p
    orphans p = elim (same_place_tells p loan.holder) [
      | inl k ↦ let a = orphan_at F J B p (At (holder_side loan.kind) s) (at_holder p k.1) in let b = orphan_of_holder loan.kind (J s) (B s) in
          let t = told in let c = orphan_at E I B p Free (ap E k.1 ∙ free) in grind (arith, k.0)
      | inr k ↦ elim (same_place_tells p home) [
        | inl j ↦ let a = orphan_at F J B p (At (lender_side loan.kind right) s) (at_home p k.1 j.1) in let b = orphan_of_lender loan.kind right (J s) (B s) in
            let c = orphan_at E I B p (At (Own right) s) (ap E j.1 ∙ here) in grind (arith, j.0)
        | inr j ↦ orphan_stays E F I J B B p (elsewhere p k.1 j.1) (kept p j.1)
      ]
    ]

-- ---- a page on loan

-- a lender's entry is no holder's
sides_apart : (kind other : LoanKind) (right : Right) → lender_side kind right ≢ holder_side other
sides_apart Shared Shared right e = cc
sides_apart Shared Exclusive right e = cc
sides_apart Exclusive Shared right e = cc
sides_apart Exclusive Exclusive right e = cc

-- the former right of a page on Exclusive loan has w
writable_in : (kind : LoanKind) (o : Option Entry) (s : Seat) → o ≡ Some (At (lender_side kind (right_in o)) s)
    → kind ≡ Exclusive → (right_in o).w ≡ true
writable_in Shared o s e k = cc
writable_in Exclusive o s e k = ap (λ (x : Option Entry). (right_in x).w) e

-- what the entries and owners say of a page on loan
module _ (procs : ℕ) (E : Entries) (I : Infos) (B : SeatBytes) (home : Place) (s : Seat) (loan : LoanInfo) (agree : EntriesAgree procs E I) (here : I s ≡ Some (on_loan (Some home) loan)) where
  pub lent_home : E home ≡ Some (At (lender_side loan.kind (right_in (E home))) s)
  lent_home = agree.lender s home loan here

  lent_holder : E loan.holder ≡ Some (At (holder_side loan.kind) s)
  lent_holder = agree.holder s (Some home) loan here

  lent_apart : home ≢ loan.holder
  lent_apart same =
      let e : Some (At (lender_side loan.kind (right_in (E home))) s) ≡ Some (At (holder_side loan.kind) s) = sym lent_home ∙ (ap E same ∙ lent_holder) in
      let k = sides_apart loan.kind loan.kind (right_in (E home)) in k cc

  -- its page, and that nothing stands at its holder's place
  pub lent_page : (ledger_of E I B).home home ≡ Some (record { right = right_in (E home); contents = Bytes (B s); loan = Some (page_loan loan) })
  lent_page = home_at E I B home (At (lender_side loan.kind (right_in (E home))) s) lent_home
      ∙ (page_of_lender loan.kind (right_in (E home)) (I s) (B s) (writable_in loan.kind (E home) s lent_home)
      ∙ ap (λ o. Some (record { right = right_in (E home); contents = Bytes (B s); loan = option_map page_loan (loan_in o) })) here)

  no_page_held : (ledger_of E I B).home loan.holder ≡ None
  no_page_held = home_at E I B loan.holder (At (holder_side loan.kind) s) lent_holder ∙ page_of_holder loan.kind (I s) (B s)

  no_orphan_home : (ledger_of E I B).orphan home ≡ None
  no_orphan_home = orphan_at E I B home (At (lender_side loan.kind (right_in (E home))) s) lent_home
      ∙ orphan_of_lender loan.kind (right_in (E home)) (I s) (B s)

  no_orphan_held : (ledger_of E I B).orphan loan.holder ≡ None
  no_orphan_held = orphan_at E I B loan.holder (At (holder_side loan.kind) s) lent_holder
      ∙ (orphan_of_holder loan.kind (I s) (B s) ∙ ap (option_and_then (orphan_of_info (B s))) here)

  -- all else stays where another thing is said of its seat
  lent_kept : (info : Option PageInfo) (p : Place) → p ≢ home → p ≢ loan.holder → (side : Side) (t : Seat) → E p ≡ Some (At side t)
      → Stays I (with_info I s info) B B t
  lent_kept info p apart other side t e =
      let ne : t ≢ s = λ same. other (names_lent procs E I agree home p loan side s here (subst (λ u. E p ≡ Some (At side u)) same e) apart) in
      record { info = seat_kept I s t info ne; bytes = refl }

-- ---- end

pub end_ledger : (procs : ℕ) (E : Entries) (I : Infos) (B : SeatBytes) (home : Place) (right : Right) (s : Seat) (loan : LoanInfo)
    → EntriesAgree procs E I → I s ≡ Some (on_loan (Some home) loan) → right ≡ right_in (E home)
    → ledger_of (ended_entries E home right s loan.holder) (with_info I s (Some (owned_by home))) B
    ≡ end_at (in_run home 1) (ledger_of E I B)
unfolding end_at
end_ledger procs E I B home right s loan agree here former = same_ledger (ledger_of F J B) (end_at (in_run home 1) (ledger_of E I B)) homes orphans
  where
    F : Entries
    F = ended_entries E home right s loan.holder

    J : Infos
    J = with_info I s (Some (owned_by home))

    apart : home ≢ loan.holder
    apart = lent_apart procs E I B home s loan agree here

    at_holder : (p : Place) → p ≡ loan.holder → F p ≡ Some Free
    at_holder p e = entry_put (with_entry E home (At (Own right) s)) loan.holder p Free e

    at_home : (p : Place) → p ≢ loan.holder → p ≡ home → F p ≡ Some (At (Own right) s)
    at_home p ne e = entry_kept (with_entry E home (At (Own right) s)) loan.holder p Free ne ∙ entry_put E home p (At (Own right) s) e

    elsewhere : (p : Place) → p ≢ loan.holder → p ≢ home → F p ≡ E p
    elsewhere p ne other = entry_kept (with_entry E home (At (Own right) s)) loan.holder p Free ne ∙ entry_kept E home p (At (Own right) s) other

    homes : (p : Place) → (ledger_of F J B).home p ≡ (end_at (in_run home 1) (ledger_of E I B)).home p
    homes p = elim (same_place_tells p loan.holder) [
      | inl k ↦ let a = home_at F J B p Free (at_holder p k.1) in let b = no_page_held procs E I B home s loan agree here in
          let d = in_one-apart home p (λ same. apart (sym same ∙ k.1)) in
          let e : (ledger_of E I B).home p ≡ (ledger_of E I B).home loan.holder = ap (λ q. (ledger_of E I B).home q) k.1 in grind (arith, k.0)
      | inr k ↦ elim (same_place_tells p home) [
        | inl j ↦ let a = home_at F J B p (At (Own right) s) (at_home p k.1 j.1) in let b = lent_page procs E I B home s loan agree here in
            let d = in_one-at home p j.1 in
            let e : (ledger_of E I B).home p ≡ (ledger_of E I B).home home = ap (λ q. (ledger_of E I B).home q) j.1 in grind (arith, j.0)
        | inr j ↦ let a = home_stays E F I J B B p (elsewhere p k.1 j.1) (lent_kept procs E I B home s loan agree here (Some (owned_by home)) p j.1 k.1) in
            let b = in_one-apart home p j.1 in grind (arith, k.0)
      ]
    ]

    orphans : (p : Place) → (ledger_of F J B).orphan p ≡ (end_at (in_run home 1) (ledger_of E I B)).orphan p
    orphans p = elim (same_place_tells p loan.holder) [
      | inl k ↦ orphan_at F J B p Free (at_holder p k.1) ∙ sym (ap (λ q. (ledger_of E I B).orphan q) k.1 ∙ no_orphan_held procs E I B home s loan agree here)
      | inr k ↦ elim (same_place_tells p home) [
        | inl j ↦ orphan_at F J B p (At (Own right) s) (at_home p k.1 j.1) ∙ sym (ap (λ q. (ledger_of E I B).orphan q) j.1 ∙ no_orphan_home procs E I B home s loan agree here)
        | inr j ↦ orphan_stays E F I J B B p (elsewhere p k.1 j.1) (lent_kept procs E I B home s loan agree here (Some (owned_by home)) p j.1 k.1)
      ]
    ]

-- ---- pass

pub pass_ledger : (procs : ℕ) (E : Entries) (I : Infos) (B : SeatBytes) (home : Place) (s : Seat) (loan : LoanInfo) (to : Place)
    → EntriesAgree procs E I → I s ≡ Some (on_loan (Some home) loan) → E to ≡ Some Free
    → ledger_of (passed_entries E s loan to) (with_info I s (Some (on_loan (Some home) (held_at to loan)))) B
    ≡ pass_run home 1 to (ledger_of E I B)
unfolding pass_run
pass_ledger procs E I B home s loan to agree here free = same_ledger (ledger_of F J B) (pass_run home 1 to (ledger_of E I B)) homes orphans
  where
    F : Entries
    F = passed_entries E s loan to

    J : Infos
    J = with_info I s (Some (on_loan (Some home) (held_at to loan)))

    told : J s ≡ Some (on_loan (Some home) (held_at to loan))
    told = seat_put I s (Some (on_loan (Some home) (held_at to loan)))

    to_home : home ≢ to
    to_home same = let a = ap E same in let b = lent_home procs E I B home s loan agree here in grind arith

    at_to : (p : Place) → p ≡ to → F p ≡ Some (At (holder_side loan.kind) s)
    at_to p e = entry_put (with_entry E loan.holder Free) to p (At (holder_side loan.kind) s) e

    at_holder : (p : Place) → p ≢ to → p ≡ loan.holder → F p ≡ Some Free
    at_holder p ne e = entry_kept (with_entry E loan.holder Free) to p (At (holder_side loan.kind) s) ne ∙ entry_put E loan.holder p Free e

    elsewhere : (p : Place) → p ≢ to → p ≢ loan.holder → F p ≡ E p
    elsewhere p ne apart = entry_kept (with_entry E loan.holder Free) to p (At (holder_side loan.kind) s) ne ∙ entry_kept E loan.holder p Free apart

    at_home : (p : Place) → p ≢ to → p ≢ loan.holder → p ≡ home → F p ≡ Some (At (lender_side loan.kind (right_in (E home))) s)
    at_home p ne apart e = elsewhere p ne apart ∙ (ap E e ∙ lent_home procs E I B home s loan agree here)

    homes : (p : Place) → (ledger_of F J B).home p ≡ (pass_run home 1 to (ledger_of E I B)).home p
    homes p = elim (same_place_tells p to) [
      | inl k ↦ let a = home_at F J B p (At (holder_side loan.kind) s) (at_to p k.1) in let b = page_of_holder loan.kind (J s) (B s) in
          let c = home_at E I B p Free (ap E k.1 ∙ free) in let d = in_one-apart home p (λ same. to_home (sym same ∙ k.1)) in grind (arith, k.0)
      | inr k ↦ elim (same_place_tells p loan.holder) [
        | inl j ↦ let a = home_at F J B p Free (at_holder p k.1 j.1) in let c = no_page_held procs E I B home s loan agree here in
            let d = in_one-apart home p (λ same. lent_apart procs E I B home s loan agree here (sym same ∙ j.1)) in
            let e : (ledger_of E I B).home p ≡ (ledger_of E I B).home loan.holder = ap (λ q. (ledger_of E I B).home q) j.1 in grind (arith, j.0)
        | inr j ↦ elim (same_place_tells p home) [
          | inl i ↦ let a = home_at F J B p (At (lender_side loan.kind (right_in (E home))) s) (at_home p k.1 j.1 i.1) in
              let b = page_of_lender loan.kind (right_in (E home)) (J s) (B s) (writable_in loan.kind (E home) s (lent_home procs E I B home s loan agree here)) in
              let t = told in let c = lent_page procs E I B home s loan agree here in let d = in_one-at home p i.1 in
              let e : (ledger_of E I B).home p ≡ (ledger_of E I B).home home = ap (λ q. (ledger_of E I B).home q) i.1 in
              let m : moved home to p ≡ to = ap (moved home to) i.1 ∙ moved-first home to in grind (arith, i.0)
          | inr i ↦ let a = home_stays E F I J B B p (elsewhere p k.1 j.1) (lent_kept procs E I B home s loan agree here (Some (on_loan (Some home) (held_at to loan))) p i.1 j.1) in
              let b = in_one-apart home p i.1 in grind (arith, k.0)
        ]
      ]
    ]

    orphans : (p : Place) → (ledger_of F J B).orphan p ≡ (pass_run home 1 to (ledger_of E I B)).orphan p
    orphans p = elim (same_place_tells p to) [
      | inl k ↦ let a = orphan_at F J B p (At (holder_side loan.kind) s) (at_to p k.1) in let b = orphan_of_holder loan.kind (J s) (B s) in
          let t = told in let c = orphan_at E I B p Free (ap E k.1 ∙ free) in grind (arith, k.0)
      | inr k ↦ elim (same_place_tells p loan.holder) [
        | inl j ↦ orphan_at F J B p Free (at_holder p k.1 j.1) ∙ sym (ap (λ q. (ledger_of E I B).orphan q) j.1 ∙ no_orphan_held procs E I B home s loan agree here)
        | inr j ↦ elim (same_place_tells p home) [
          | inl i ↦ let a = orphan_at F J B p (At (lender_side loan.kind (right_in (E home))) s) (at_home p k.1 j.1 i.1) in
              let b = orphan_of_lender loan.kind (right_in (E home)) (J s) (B s) in
              let c = no_orphan_home procs E I B home s loan agree here in
              let e : (ledger_of E I B).orphan p ≡ (ledger_of E I B).orphan home = ap (λ q. (ledger_of E I B).orphan q) i.1 in grind (arith, i.0)
          | inr i ↦ orphan_stays E F I J B B p (elsewhere p k.1 j.1) (lent_kept procs E I B home s loan agree here (Some (on_loan (Some home) (held_at to loan))) p i.1 j.1)
        ]
      ]
    ]

-- ---- orphan

pub orphan_ledger : (procs : ℕ) (E : Entries) (I : Infos) (B : SeatBytes) (home : Place) (s : Seat) (loan : LoanInfo)
    → EntriesAgree procs E I → I s ≡ Some (on_loan (Some home) loan)
    → ledger_of (with_entry E home Free) (with_info I s (Some (on_loan None loan))) B ≡ orphan_run home 1 loan.holder (ledger_of E I B)
unfolding orphan_run
orphan_ledger procs E I B home s loan agree here = same_ledger (ledger_of F J B) (orphan_run home 1 loan.holder (ledger_of E I B)) homes orphans
  where
    F : Entries
    F = with_entry E home Free

    J : Infos
    J = with_info I s (Some (on_loan None loan))

    apart : home ≢ loan.holder
    apart = lent_apart procs E I B home s loan agree here

    at_holder : (p : Place) → p ≢ home → p ≡ loan.holder → F p ≡ Some (At (holder_side loan.kind) s)
    at_holder p ne e = entry_kept E home p Free ne ∙ (ap E e ∙ lent_holder procs E I B home s loan agree here)

    told : J s ≡ Some (on_loan None loan)
    told = seat_put I s (Some (on_loan None loan))

    homes : (p : Place) → (ledger_of F J B).home p ≡ (orphan_run home 1 loan.holder (ledger_of E I B)).home p
    homes p = elim (same_place_tells p home) [
      | inl k ↦ let a = home_at F J B p Free (entry_put E home p Free k.1) in let b = in_one-at home p k.1 in grind (arith, k.0)
      | inr k ↦ elim (same_place_tells p loan.holder) [
        | inl j ↦ let a = home_at F J B p (At (holder_side loan.kind) s) (at_holder p k.1 j.1) in let b = page_of_holder loan.kind (J s) (B s) in
            let c = no_page_held procs E I B home s loan agree here in let d = in_one-apart home p k.1 in
            let e : (ledger_of E I B).home p ≡ (ledger_of E I B).home loan.holder = ap (λ q. (ledger_of E I B).home q) j.1 in grind (arith, j.0)
        | inr j ↦ let a = home_stays E F I J B B p (entry_kept E home p Free k.1) (lent_kept procs E I B home s loan agree here (Some (on_loan None loan)) p k.1 j.1) in
            let b = in_one-apart home p k.1 in grind (arith, k.0)
      ]
    ]

    orphans : (p : Place) → (ledger_of F J B).orphan p ≡ (orphan_run home 1 loan.holder (ledger_of E I B)).orphan p
    orphans p = elim (same_place_tells p home) [
      | inl k ↦ let a = orphan_at F J B p Free (entry_put E home p Free k.1) in let c = no_orphan_home procs E I B home s loan agree here in
          let d = in_one-apart loan.holder p (λ same. apart (sym k.1 ∙ same)) in
          let e : (ledger_of E I B).orphan p ≡ (ledger_of E I B).orphan home = ap (λ q. (ledger_of E I B).orphan q) k.1 in grind (arith, k.0)
      | inr k ↦ elim (same_place_tells p loan.holder) [
        | inl j ↦ let a = orphan_at F J B p (At (holder_side loan.kind) s) (at_holder p k.1 j.1) in let b = orphan_of_holder loan.kind (J s) (B s) in let t = told in
            let c = lent_page procs E I B home s loan agree here in let d = in_one-at loan.holder p j.1 in
            let m : moved loan.holder home p ≡ home = ap (moved loan.holder home) j.1 ∙ moved-first loan.holder home in
            let e : (ledger_of E I B).home (moved loan.holder home p) ≡ (ledger_of E I B).home home = ap (λ q. (ledger_of E I B).home q) m in grind (arith, j.0)
        | inr j ↦ let a = orphan_stays E F I J B B p (entry_kept E home p Free k.1) (lent_kept procs E I B home s loan agree here (Some (on_loan None loan)) p k.1 j.1) in
            let b = in_one-apart loan.holder p j.1 in grind (arith, k.0)
      ]
    ]

-- ---- the end of an orphan

pub forget_ledger : (procs : ℕ) (E : Entries) (I : Infos) (B : SeatBytes) (s : Seat) (loan : LoanInfo)
    → EntriesAgree procs E I → I s ≡ Some (on_loan None loan)
    → ledger_of (with_entry E loan.holder Free) (with_info I s None) B ≡ forget_orphans (in_run loan.holder 1) (ledger_of E I B)
unfolding forget_orphans
forget_ledger procs E I B s loan agree here = same_ledger (ledger_of F J B) (forget_orphans (in_run loan.holder 1) (ledger_of E I B)) homes orphans
  where
    F : Entries
    F = with_entry E loan.holder Free

    J : Infos
    J = with_info I s None

    kept : (p : Place) → p ≢ loan.holder → (side : Side) (t : Seat) → E p ≡ Some (At side t) → Stays I J B B t
    kept p apart side t e =
        let ne : t ≢ s = λ same. apart (names_orphan procs E I agree p loan side s here (subst (λ u. E p ≡ Some (At side u)) same e)) in
        record { info = seat_kept I s t None ne; bytes = refl }

    homes : (p : Place) → (ledger_of F J B).home p ≡ (forget_orphans (in_run loan.holder 1) (ledger_of E I B)).home p
    homes p = elim (same_place_tells p loan.holder) [
      | inl k ↦ home_at F J B p Free (entry_put E loan.holder p Free k.1)
          ∙ sym (home_at E I B p (At (holder_side loan.kind) s) (ap E k.1 ∙ agree.holder s None loan here) ∙ page_of_holder loan.kind (I s) (B s))
      | inr k ↦ home_stays E F I J B B p (entry_kept E loan.holder p Free k.1) (kept p k.1)
    ]

    orphans : (p : Place) → (ledger_of F J B).orphan p ≡ (forget_orphans (in_run loan.holder 1) (ledger_of E I B)).orphan p
    orphans p = elim (same_place_tells p loan.holder) [
      | inl k ↦ let a = orphan_at F J B p Free (entry_put E loan.holder p Free k.1) in let b = in_one-at loan.holder p k.1 in grind (arith, k.0)
      | inr k ↦ let a = orphan_stays E F I J B B p (entry_kept E loan.holder p Free k.1) (kept p k.1) in let b = in_one-apart loan.holder p k.1 in grind (arith, k.0)
    ]
