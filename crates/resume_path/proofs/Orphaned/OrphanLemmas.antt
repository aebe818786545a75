-- Pages that are lent and lose their lender become the orphans of the run to which they were lent.
use Rattle.std.proofs.Common.{◌≡◌, ℕ, true, false, List, [], Some, None, refl, sym, ap, subst, ◌∙◌, inl, inr}
use Rattle.std.specs.Prelude.{if◌then◌else◌}
use Rattle.std.specs.Option.{option_map}
use Rattle.std.proofs.lemmas.Bool.{both_ways, cases_Bool, cond-false, cond-true}
use Rattle.std.proofs.lemmas.Option.{none-some, same_Some}
use Rattle.ledger_model.proofs.LedgerLemmas.{same_ledger}
use Rattle.ledger_model.proofs.PlaceLemmas.{moved-back, moved-in_run}
use Rattle.ledger_model.proofs.Stepping.OrphaningLemmas.{Source, made, made-at, none_made, orphan_loan_home, orphan_loan_kept, orphan_loan_made, page_without-gone}
use Rattle.ledger_model.specs.Lawful.{IsLawful}
use Rattle.ledger_model.specs.Ledger.{Bytes, Console, Contents, Ledger, Orphan, Page, PageLoan}
use Rattle.ledger_model.specs.Places.{in_run, moved}
use Rattle.ledger_model.specs.Steps.{lend, orphan_loan, page_without, with_loan}
use Rattle.xk_base.specs.declared.ids.Number.{Number}
use Rattle.xk_base.specs.declared.ids.Place.{Place}
use Rattle.xk_base.specs.declared.pages.LoanKind.{LoanKind}
use Rattle.resume_path.specs.Standing.{filling_right, page_of_orphan, with_orphan_pages, with_orphans}

-- the orphan that stands at a place, of that kind and number
pub record IsOrphanOf (whole : Ledger) (kind : LoanKind) (number : Number) (p : Place) : Type 0 where
  pub orphan : Orphan
  pub there : whole.orphan p ≡ Some orphan
  pub its_kind : orphan.kind ≡ kind
  pub its_number : orphan.number ≡ number

bytes_in : Contents → List ℕ
bytes_in Console = []
bytes_in (Bytes bytes) = bytes

same_bytes : (a b : List ℕ) → Bytes a ≡ Bytes b → a ≡ b
unfolding bytes_in
same_bytes a b e = ap bytes_in e

module _ (procs capacity : ℕ) (whole now : Ledger) (from : Place) (n : ℕ) (to : Place) (kind : LoanKind) (number : Number)
    (no_homes : (p : Place) → now.home p ≡ None) (all : (p : Place) → in_run to n p ≡ true → IsOrphanOf whole kind number p) where
  abbrev lent : Ledger
  lent = lend from n to kind number (with_orphan_pages whole from n to now)

  abbrev loan_to : Place → PageLoan
  loan_to p = record { holder = moved from to p; kind = kind; number = number }

  abbrev lent_page : Place → Orphan → Page
  lent_page p orphan = record { right = filling_right; contents = Bytes orphan.bytes; loan = Some (loan_to p) }

  lent_inside : (p : Place) (orphan : Orphan) → in_run from n p ≡ true → whole.orphan (moved from to p) ≡ Some orphan → lent.home p ≡ Some (lent_page p orphan)
  unfolding lend with_orphan_pages
  lent_inside p orphan inside is =
      ap (λ b. if b then option_map (with_loan (loan_to p)) (if b then option_map page_of_orphan (whole.orphan (moved from to p)) else now.home p)
      else (if b then option_map page_of_orphan (whole.orphan (moved from to p)) else now.home p)) inside
      ∙ ap (λ o. option_map (with_loan (loan_to p)) (option_map page_of_orphan o)) is

  lent_outside : (p : Place) → in_run from n p ≡ false → lent.home p ≡ None
  unfolding lend with_orphan_pages
  lent_outside p outside =
      ap (λ b. if b then option_map (with_loan (loan_to p)) (if b then option_map page_of_orphan (whole.orphan (moved from to p)) else now.home p)
      else (if b then option_map page_of_orphan (whole.orphan (moved from to p)) else now.home p)) outside
      ∙ no_homes p

  lent_orphan : (q : Place) → lent.orphan q ≡ now.orphan q
  unfolding lend with_orphan_pages
  lent_orphan q = refl

  module _ (lawful : IsLawful procs capacity lent) where
    no_home_left : (p : Place) → (orphan_loan procs number lent).home p ≡ None
    no_home_left p = orphan_loan_home procs number lent p ∙ elim (cases_Bool (in_run from n p)) [
      | inl inside ↦
          let o = all (moved from to p) (moved-in_run from to p n inside) in
          ap (page_without number) (lent_inside p o.orphan inside o.there) ∙ page_without-gone number (lent_page p o.orphan) (loan_to p) refl refl
      | inr outside ↦ ap (page_without number) (lent_outside p outside)
    ]

    new_orphan : (q : Place) → in_run to n q ≡ true → (orphan_loan procs number lent).orphan q ≡ whole.orphan q
    new_orphan q inside =
        let o = all q inside in
        let here : in_run from n (moved to from q) ≡ true = moved-in_run to from q n inside in
        let back : moved from to (moved to from q) ≡ q = moved-back to from q n inside in
        let home = lent_inside (moved to from q) o.orphan here (ap whole.orphan back ∙ o.there) in
        let one = made-at procs capacity number lent (moved to from q) (lent_page (moved to from q) o.orphan) (loan_to (moved to from q)) lawful home refl refl in
        let there : made procs number lent q ≡ Some one.0 = subst (λ (p : Place). made procs number lent p ≡ Some one.0) back one.1 in
        orphan_loan_made procs number lent q one.0 there
        ∙ ((λ i. Some (record {
          kind = (one.2 ∙ sym o.its_kind) i;
          bytes = sym (same_bytes o.orphan.bytes one.0.bytes one.4) i;
          number = (one.3 ∙ sym o.its_number) i;
        })) ∙ sym o.there)

    old_orphan : (q : Place) → in_run to n q ≡ false → (orphan_loan procs number lent).orphan q ≡ now.orphan q
    old_orphan q outside = orphan_loan_kept procs number lent q (none_made procs number lent q no_source) ∙ lent_orphan q
      where
        no_source : (o : Orphan) → Source lent number q o → ⊥
        no_source o s = elim (cases_Bool (in_run from n s.home)) [
          | inl inside ↦
              let it = all (moved from to s.home) (moved-in_run from to s.home n inside) in
              let same : lent_page s.home it.orphan ≡ s.page = same_Some (lent_page s.home it.orphan) s.page (sym (lent_inside s.home it.orphan inside it.there) ∙ s.at) in
              let loan : loan_to s.home ≡ s.loan = same_Some (loan_to s.home) s.loan (ap (λ (x : Page). x.loan) same ∙ s.lent) in
              let place : moved from to s.home ≡ q = ap (λ (x : PageLoan). x.holder) loan ∙ s.held in
              both_ways (in_run to n q) outside (subst (λ (p : Place). in_run to n p ≡ true) place (moved-in_run from to s.home n inside))
          | inr away ↦ absurd (none-some s.page (sym (lent_outside s.home away) ∙ s.at))
        ]

    -- THE ORPHANS are those of the run, and no page is left
    pub orphans_lent : orphan_loan procs number lent ≡ with_orphans whole to n now
    unfolding with_orphans
    orphans_lent = same_ledger (orphan_loan procs number lent) (with_orphans whole to n now) no_home_left (λ q. elim (cases_Bool (in_run to n q)) [
      | inl inside ↦ new_orphan q inside ∙ sym (cond-true (in_run to n q) (whole.orphan q) (now.orphan q) inside)
      | inr outside ↦ old_orphan q outside ∙ sym (cond-false (in_run to n q) (whole.orphan q) (now.orphan q) outside)
    ])
