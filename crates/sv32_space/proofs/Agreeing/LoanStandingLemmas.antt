-- A loan stands in entries and owners exactly where it stands in their ledger, and a number is fresh in both alike.
use Rattle.std.proofs.Common.{◌≡◌, ℕ, ◌-◌, ◌<◌, true, Option, Some, None, refl, sym, ap, subst, ◌∙◌, inl, inr}
use Rattle.std.specs.Option.{option_and_then, option_map}
use Rattle.std.proofs.lemmas.Bool.{cases_Bool}
use Rattle.std.proofs.lemmas.Option.{none-some, same_Some}
use Rattle.xk_base.specs.declared.ids.Number.{Number}
use Rattle.xk_base.specs.declared.ids.Place.{Place}
use Rattle.phys_pages.specs.declared.infos.LoanInfo.{LoanInfo}
use Rattle.phys_pages.specs.declared.infos.PageInfo.{PageInfo}
use Rattle.phys_pages.specs.declared.infos.Seat.{Seat}
use Rattle.ledger_model.specs.Ledger.{Ledger, PageLoan, Orphan, loan_at, loan_of}
use Rattle.ledger_model.specs.Loans.{loans, LoanRun, OrphanLoan, Stands, IsFresh, loan_of_orphan, loan_of_run, of_number, orphan_loan_at, orphan_of_number, orphan_of_run}
use Rattle.ledger_model.specs.Places.{in_run, moved, place_after}
use Rattle.ledger_model.proofs.LedgerLemmas.{cases_Option}
use Rattle.ledger_model.proofs.Loans.OfNumberLemmas.{of_number-Some, of_number-at, orphan_of_number-Some, orphan_of_number-at, loan_of_run-None, loan_of_run-inside, loan_of_run-outside, orphan_of_run-inside, orphan_of_run-lent, orphan_of_run-outside}
use Rattle.ledger_model.proofs.OwnerLemmas.{stands_home_at, stands_orphan_at}
use Rattle.ledger_model.proofs.PlaceLemmas.{in_run-after, in_run-index, moved-after}
use Rattle.sv32_space.specs.Agreement.{Infos, EntriesAgree, holder_side, loan_to, on_loan, seat_in}
use Rattle.sv32_space.specs.declared.sides.Entry.TheVariants.{At}
use Rattle.sv32_space.specs.Entries.{Entries}
use Rattle.sv32_space.specs.EntryLedger.{SeatBytes, ledger_of, orphan_of_info, orphan_of_loan, page_loan}
use Rattle.sv32_space.specs.EntryLoans.{IsUnlent, StandsIn, lender_place, loan_info, loan_seat}
use Rattle.sv32_space.proofs.Agreeing.StandingLemmas.{OrphanTells, loan_held, loan_tells, orphan_tells}
use Rattle.sv32_space.proofs.Ledgers.EntryLedgerLemmas.{orphan_at, orphan_of_holder}
use Rattle.sv32_space.proofs.Ledgers.LoanLedgerLemmas.{lent_page}

-- what a page's loan says, as the owner table says it
abbrev info_of : PageLoan → LoanInfo
info_of loan = record { holder = loan.holder; kind = loan.kind; number = loan.number }

orphan_of : (o : Option Orphan) (k : OrphanLoan) → option_map loan_of_orphan o ≡ Some k → (x : Orphan) × (o ≡ Some x) × (loan_of_orphan x ≡ k)
orphan_of None k e = absurd (none-some k e)
orphan_of (Some x) k e = (x, refl, same_Some (loan_of_orphan x) k e)

module _ (procs : ℕ) (E : Entries) (I : Infos) (B : SeatBytes) (agree : EntriesAgree procs E I) where
  abbrev L : Ledger
  L = ledger_of E I B

  -- ---- what a used seat with a loan tells of the ledger, and back

  lent_at : (s : Seat) (p : Place) (x : LoanInfo) → I s ≡ Some (on_loan (Some p) x) → loan_at L p ≡ Some (page_loan x)
  lent_at s p x i = ap loan_of (lent_page procs E I B p s x agree i)

  orphaned_at : (s : Seat) (x : LoanInfo) → I s ≡ Some (on_loan None x) → L.orphan x.holder ≡ Some (orphan_of_loan (B s) x)
  orphaned_at s x i =
      orphan_at E I B x.holder (At (holder_side x.kind) s) (agree.holder s None x i)
      ∙ (orphan_of_holder x.kind (I s) (B s) ∙ ap (option_and_then (orphan_of_info (B s))) i)

  orphan_loan : (p : Place) (o : Orphan) → L.orphan p ≡ Some o
      → I (seat_in (E p)) ≡ Some (on_loan None (record { holder = p; kind = o.kind; number = o.number }))
  unfolding ledger_of
  orphan_loan p o h =
      let t : OrphanTells procs E I B agree p o = orphan_tells procs E I B agree p o (E p) refl h in
      let x : LoanInfo = loan_to p o.kind (I (seat_in (E p))) in
      let same : orphan_of_loan (B (seat_in (E p))) (loan_to p o.kind (I (seat_in (E p)))) ≡ o =
      same_Some (orphan_of_loan (B (seat_in (E p))) (loan_to p o.kind (I (seat_in (E p))))) o
      (sym (orphan_at E I B p (At (holder_side o.kind) (seat_in (E p))) t.entry
      ∙ (orphan_of_holder o.kind (I (seat_in (E p))) (B (seat_in (E p))) ∙ ap (option_and_then (orphan_of_info (B (seat_in (E p))))) t.loan)) ∙ h) in
      t.loan ∙ ap (λ (a : Orphan). Some (on_loan None (record { holder = p; kind = o.kind; number = a.number }))) same

  -- ---- from the ledger

  module _ (r : LoanRun) (stands : Stands (loans L) r) where
    -- page i of a loan with a lender
    module _ (from : Place) (i : ℕ) (lent : r.lender ≡ Some from) (b : i < r.count) where
      lent_loan : loan_at L (place_after from i) ≡ Some (page_loan (loan_info r i))
      lent_loan = stands_home_at L r from i stands lent b

      lent_held : E (place_after r.holder i) ≡ Some (At (holder_side r.kind) (seat_in (E (place_after from i))))
      lent_held = loan_held procs E I B agree (place_after from i) (page_loan (loan_info r i)) lent_loan

      lent_seat : seat_in (E (place_after from i)) ≡ loan_seat E r i
      lent_seat = sym (ap seat_in lent_held)

      lent_info : I (loan_seat E r i) ≡ Some (on_loan (Some (place_after from i)) (loan_info r i))
      lent_info =
          let t : (l : LoanInfo) × (I (seat_in (E (place_after from i))) ≡ Some (on_loan (Some (place_after from i)) l)) × (page_loan l ≡ page_loan (loan_info r i)) =
          loan_tells procs E I B agree (place_after from i) (page_loan (loan_info r i)) lent_loan in
          ap I (sym lent_seat) ∙ (t.1 ∙ ap (λ x. Some (on_loan (Some (place_after from i)) (info_of x))) t.2)

    -- page i of one without
    module _ (i : ℕ) (alone : r.lender ≡ None) (b : i < r.count) where
      alone_orphan : (o : Orphan) × (L.orphan (place_after r.holder i) ≡ Some o) × (o.kind ≡ r.kind) × (o.number ≡ r.number)
      alone_orphan = stands_orphan_at L r i stands alone b

      alone_held : E (place_after r.holder i) ≡ Some (At (holder_side r.kind) (loan_seat E r i))
      unfolding ledger_of
      alone_held =
          let o : (o : Orphan) × (L.orphan (place_after r.holder i) ≡ Some o) × (o.kind ≡ r.kind) × (o.number ≡ r.number) = alone_orphan in
          let t : OrphanTells procs E I B agree (place_after r.holder i) o.0 = orphan_tells procs E I B agree (place_after r.holder i) o.0 (E (place_after r.holder i)) refl o.1 in
          t.entry ∙ ap (λ k. Some (At (holder_side k) (loan_seat E r i))) o.2

      alone_info : I (loan_seat E r i) ≡ Some (on_loan None (loan_info r i))
      alone_info =
          let o : (o : Orphan) × (L.orphan (place_after r.holder i) ≡ Some o) × (o.kind ≡ r.kind) × (o.number ≡ r.number) = alone_orphan in
          orphan_loan (place_after r.holder i) o.0 o.1
          ∙ (λ j. Some (on_loan None (record { holder = place_after r.holder i; kind = o.2 j; number = o.3 j })))

    lender_is : (i : ℕ) (o : Option Place) → r.lender ≡ o → lender_place r i ≡ option_map (λ from. place_after from i) o
    lender_is i o e = ap (option_map (λ from. place_after from i)) e

    only_from : (s : Seat) (home : Option Place) (x : LoanInfo) → I s ≡ Some (on_loan home x) → x.number ≡ r.number
        → (i : ℕ) × (i < r.count) × (s ≡ loan_seat E r i)
    unfolding loans
    only_from s (Some p) x e n =
        let found : loan_of_run r p ≡ Some (page_loan x) =
        sym (stands.homes p) ∙ (ap (of_number r.number) (lent_at s p x e) ∙ of_number-at r.number (page_loan x) n) in
        elim (cases_Option r.lender) [
          | inl none ↦ absurd (none-some (page_loan x) (sym (loan_of_run-None r p none) ∙ found))
          | inr from ↦ elim (cases_Bool (in_run from.0 r.count p)) [
            | inr f ↦ absurd (none-some (page_loan x) (sym (loan_of_run-outside r from.0 p from.1 f) ∙ found))
            | inl t ↦
                let same : record { holder = moved from.0 r.holder p; kind = r.kind; number = r.number } ≡ page_loan x =
                same_Some (record { holder = moved from.0 r.holder p; kind = r.kind; number = r.number }) (page_loan x) (sym (loan_of_run-inside r from.0 p from.1 t) ∙ found) in (
                  p.vpn.0 - from.0.vpn.0,
                  (in_run-index from.0 r.count p t).0,
                  sym (ap seat_in (agree.holder s (Some p) x e)) ∙ sym (ap (λ (l : PageLoan). seat_in (E l.holder)) same),
                )
          ]
        ]
    only_from s None x e n =
        let found : orphan_of_run r x.holder ≡ Some (loan_of_orphan (orphan_of_loan (B s) x)) =
        sym (stands.orphans x.holder) ∙ (ap (λ o. orphan_of_number r.number (option_map loan_of_orphan o)) (orphaned_at s x e)
        ∙ orphan_of_number-at r.number (loan_of_orphan (orphan_of_loan (B s) x)) n) in
        elim (cases_Bool (in_run r.holder r.count x.holder)) [
          | inr f ↦ absurd (none-some (loan_of_orphan (orphan_of_loan (B s) x)) (sym (orphan_of_run-outside r x.holder f) ∙ found))
          | inl t ↦
              let k : (x.holder.vpn.0 - r.holder.vpn.0 < r.count) × (x.holder ≡ place_after r.holder (x.holder.vpn.0 - r.holder.vpn.0)) = in_run-index r.holder r.count x.holder t in
              (x.holder.vpn.0 - r.holder.vpn.0, k.0, sym (ap seat_in (agree.holder s None x e)) ∙ ap (λ q. seat_in (E q)) k.1)
        ]

    pub stands_in : StandsIn E I r
    stands_in = record {
      holder = λ i b. elim (cases_Option r.lender) [
        | inl none ↦ alone_held i none b
        | inr from ↦ lent_held from.0 i from.1 b ∙ ap (λ s. Some (At (holder_side r.kind) s)) (lent_seat from.0 i from.1 b)
      ];
      lender = λ from i lent b. agree.lender (loan_seat E r i) (place_after from i) (loan_info r i) (lent_info from i lent b);
      info = λ i b. elim (cases_Option r.lender) [
        | inl none ↦ alone_info i none b ∙ ap (λ h. Some (on_loan h (loan_info r i))) (sym (lender_is i None none))
        | inr from ↦ lent_info from.0 i from.1 b ∙ ap (λ h. Some (on_loan h (loan_info r i))) (sym (lender_is i (Some from.0) from.1))
      ];
      only = only_from;
    }

  -- ---- to the ledger

  module _ (r : LoanRun) (stand : StandsIn E I r) where
    -- the loan that a seat tells with this number is that of a page of the run
    told_at : (s : Seat) (home : Option Place) (x : LoanInfo) → I s ≡ Some (on_loan home x) → x.number ≡ r.number
        → (i : ℕ) × (i < r.count) × (lender_place r i ≡ home) × (loan_info r i ≡ x)
    told_at s home x e n =
        let k : (i : ℕ) × (i < r.count) × (s ≡ loan_seat E r i) = stand.only s home x e n in
        let same : on_loan (lender_place r k.0) (loan_info r k.0) ≡ on_loan home x =
        same_Some (on_loan (lender_place r k.0) (loan_info r k.0)) (on_loan home x) (sym (stand.info k.0 k.1) ∙ (ap I (sym k.2) ∙ e)) in
        (k.0, k.1, ap (λ (a : PageInfo). a.home) same, same_Some (loan_info r k.0) x (ap (λ (a : PageInfo). a.loan) same))

    home_told : (p : Place) (y : PageLoan) → loan_at L p ≡ Some y → y.number ≡ r.number → loan_of_run r p ≡ Some y
    home_told p y at n =
        let t : (l : LoanInfo) × (I (seat_in (E p)) ≡ Some (on_loan (Some p) l)) × (page_loan l ≡ y) = loan_tells procs E I B agree p y at in
        let k : (i : ℕ) × (i < r.count) × (lender_place r i ≡ Some p) × (loan_info r i ≡ t.0) =
        told_at (seat_in (E p)) (Some p) t.0 t.1 (ap (λ (a : PageLoan). a.number) t.2 ∙ n) in
        elim (cases_Option r.lender) [
          | inl none ↦ absurd (none-some p (sym (ap (option_map (λ from. place_after from k.0)) none) ∙ k.2))
          | inr from ↦
              let here : place_after from.0 k.0 ≡ p = same_Some (place_after from.0 k.0) p (sym (ap (option_map (λ q. place_after q k.0)) from.1) ∙ k.2) in
              loan_of_run-inside r from.0 p from.1 (subst (λ q. in_run from.0 r.count q ≡ true) here (in_run-after from.0 r.count k.0 k.1))
              ∙ (ap (λ q. Some (record { holder = q; kind = r.kind; number = r.number })) (ap (moved from.0 r.holder) (sym here) ∙ moved-after from.0 r.holder k.0)
              ∙ ap Some (ap page_loan k.3 ∙ t.2))
        ]

    home_there : (p from : Place) → r.lender ≡ Some from → in_run from r.count p ≡ true → (y : PageLoan) × (of_number r.number (loan_at L p) ≡ Some y)
    home_there p from lent t =
        let k : (p.vpn.0 - from.vpn.0 < r.count) × (p ≡ place_after from (p.vpn.0 - from.vpn.0)) = in_run-index from r.count p t in
        let i : ℕ = p.vpn.0 - from.vpn.0 in
        let x : LoanInfo = loan_info r (p.vpn.0 - from.vpn.0) in (
          page_loan (loan_info r (p.vpn.0 - from.vpn.0)),
          ap (of_number r.number) (lent_at (loan_seat E r (p.vpn.0 - from.vpn.0)) p (loan_info r (p.vpn.0 - from.vpn.0))
              (stand.info (p.vpn.0 - from.vpn.0) k.0
              ∙ ap (λ h. Some (on_loan h (loan_info r (p.vpn.0 - from.vpn.0)))) (ap (option_map (λ q. place_after q (p.vpn.0 - from.vpn.0))) lent ∙ ap Some (sym k.1))))
              ∙ of_number-at r.number (page_loan (loan_info r (p.vpn.0 - from.vpn.0))) refl,
        )

    homes : (p : Place) → of_number r.number (loan_at L p) ≡ loan_of_run r p
    homes p = elim (cases_Option (of_number r.number (loan_at L p))) [
      | inr y ↦ let h : (loan_at L p ≡ Some y.0) × (y.0.number ≡ r.number) = of_number-Some r.number (loan_at L p) y.0 y.1 in
          y.1 ∙ sym (home_told p y.0 h.0 h.1)
      | inl none ↦ none ∙ sym (elim (cases_Option r.lender) [
        | inl alone ↦ loan_of_run-None r p alone
        | inr from ↦ elim (cases_Bool (in_run from.0 r.count p)) [
          | inr f ↦ loan_of_run-outside r from.0 p from.1 f
          | inl t ↦ let y : (y : PageLoan) × (of_number r.number (loan_at L p) ≡ Some y) = home_there p from.0 from.1 t in absurd (none-some y.0 (sym none ∙ y.1))
        ]
      ])
    ]

    orphan_told : (q : Place) (k : OrphanLoan) → orphan_loan_at L q ≡ Some k → k.number ≡ r.number → orphan_of_run r q ≡ Some k
    orphan_told q k at n =
        let o : (x : Orphan) × (L.orphan q ≡ Some x) × (loan_of_orphan x ≡ k) = orphan_of (L.orphan q) k at in
        let t : (i : ℕ) × (i < r.count) × (lender_place r i ≡ None) × (loan_info r i ≡ record { holder = q; kind = o.0.kind; number = o.0.number }) =
        told_at (seat_in (E q)) None (record { holder = q; kind = o.0.kind; number = o.0.number }) (orphan_loan q o.0 o.1) (ap (λ (a : OrphanLoan). a.number) o.2 ∙ n) in
        elim (cases_Option r.lender) [
          | inr from ↦ absurd (none-some (place_after from.0 t.0) (sym t.2 ∙ ap (option_map (λ p. place_after p t.0)) from.1))
          | inl alone ↦
              orphan_of_run-inside r q alone (subst (λ p. in_run r.holder r.count p ≡ true) (ap (λ (l : LoanInfo). l.holder) t.3) (in_run-after r.holder r.count t.0 t.1))
              ∙ (ap (λ (l : LoanInfo). Some (record { kind = l.kind; number = l.number })) t.3 ∙ ap Some o.2)
        ]

    orphan_there : (q : Place) → r.lender ≡ None → in_run r.holder r.count q ≡ true → (k : OrphanLoan) × (orphan_of_number r.number (orphan_loan_at L q) ≡ Some k)
    orphan_there q alone t =
        let k : (q.vpn.0 - r.holder.vpn.0 < r.count) × (q ≡ place_after r.holder (q.vpn.0 - r.holder.vpn.0)) = in_run-index r.holder r.count q t in
        let x : LoanInfo = loan_info r (q.vpn.0 - r.holder.vpn.0) in (
          record { kind = r.kind; number = r.number },
          ap (λ p. orphan_of_number r.number (orphan_loan_at L p)) k.1
              ∙ (ap (λ o. orphan_of_number r.number (option_map loan_of_orphan o)) (orphaned_at (loan_seat E r (q.vpn.0 - r.holder.vpn.0)) (loan_info r (q.vpn.0 - r.holder.vpn.0))
              (stand.info (q.vpn.0 - r.holder.vpn.0) k.0
              ∙ ap (λ h. Some (on_loan h (loan_info r (q.vpn.0 - r.holder.vpn.0)))) (ap (option_map (λ p. place_after p (q.vpn.0 - r.holder.vpn.0))) alone)))
              ∙ orphan_of_number-at r.number (record { kind = r.kind; number = r.number }) refl),
        )

    orphans : (q : Place) → orphan_of_number r.number (orphan_loan_at L q) ≡ orphan_of_run r q
    orphans q = elim (cases_Option (orphan_of_number r.number (orphan_loan_at L q))) [
      | inr k ↦ let h : (orphan_loan_at L q ≡ Some k.0) × (k.0.number ≡ r.number) = orphan_of_number-Some r.number (orphan_loan_at L q) k.0 k.1 in
          k.1 ∙ sym (orphan_told q k.0 h.0 h.1)
      | inl none ↦ none ∙ sym (elim (cases_Option r.lender) [
        | inr from ↦ orphan_of_run-lent r from.0 q from.1
        | inl alone ↦ elim (cases_Bool (in_run r.holder r.count q)) [
          | inr f ↦ orphan_of_run-outside r q f
          | inl t ↦ let k : (k : OrphanLoan) × (orphan_of_number r.number (orphan_loan_at L q) ≡ Some k) = orphan_there q alone t in absurd (none-some k.0 (sym none ∙ k.1))
        ]
      ])
    ]

    pub in_stands : Stands (loans L) r
    unfolding loans
    in_stands = record { homes = homes; orphans = orphans }

  -- ---- fresh numbers

  pub fresh_in : (number : Number) → IsFresh (loans L) number → IsUnlent I number
  unfolding loans
  fresh_in number fresh = record { none = unlent }
    where
      unlent : (s : Seat) (home : Option Place) (x : LoanInfo) → I s ≡ Some (on_loan home x) → x.number ≡ number → ⊥
      unlent s (Some p) x e n = none-some (page_loan x) (sym (fresh.homes p) ∙ (ap (of_number number) (lent_at s p x e) ∙ of_number-at number (page_loan x) n))
      unlent s None x e n = none-some (loan_of_orphan (orphan_of_loan (B s) x)) (sym (fresh.orphans x.holder)
          ∙ (ap (λ o. orphan_of_number number (option_map loan_of_orphan o)) (orphaned_at s x e) ∙ orphan_of_number-at number (loan_of_orphan (orphan_of_loan (B s) x)) n))

  pub in_fresh : (number : Number) → IsUnlent I number → IsFresh (loans L) number
  unfolding loans
  in_fresh number unlent = record {
    homes = λ p. elim (cases_Option (of_number number (loan_at L p))) [
      | inl none ↦ none
      | inr y ↦
          let h : (loan_at L p ≡ Some y.0) × (y.0.number ≡ number) = of_number-Some number (loan_at L p) y.0 y.1 in
          let t : (l : LoanInfo) × (I (seat_in (E p)) ≡ Some (on_loan (Some p) l)) × (page_loan l ≡ y.0) = loan_tells procs E I B agree p y.0 h.0 in
          absurd (unlent.none (seat_in (E p)) (Some p) t.0 t.1 (ap (λ (a : PageLoan). a.number) t.2 ∙ h.1))
    ];
    orphans = λ q. elim (cases_Option (orphan_of_number number (orphan_loan_at L q))) [
      | inl none ↦ none
      | inr k ↦
          let h : (orphan_loan_at L q ≡ Some k.0) × (k.0.number ≡ number) = orphan_of_number-Some number (orphan_loan_at L q) k.0 k.1 in
          let o : (x : Orphan) × (L.orphan q ≡ Some x) × (loan_of_orphan x ≡ k.0) = orphan_of (L.orphan q) k.0 h.0 in
          absurd (unlent.none (seat_in (E q)) None (record { holder = q; kind = o.0.kind; number = o.0.number }) (orphan_loan q o.0 o.1) (ap (λ (a : OrphanLoan). a.number) o.2 ∙ h.1))
    ];
  }
