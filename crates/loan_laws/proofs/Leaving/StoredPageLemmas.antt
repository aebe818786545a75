-- What a store to one page does to a loan: who stores to a page of the loan is its holder, under Exclusive; all else of the loan stays.
use Rattle.std.proofs.Common.{◌≡◌, ◌≢◌, ℕ, ◌<◌, Bool, true, false, List, Option, Some, None, refl, sym, ap, ◌∙◌, ◌⊎◌, inl, inr}
use Rattle.std.specs.Prelude.{if◌then◌else◌}
use Rattle.std.specs.Option.{option_map, option_map_or}
use Rattle.std.proofs.lemmas.Bool.{false≢true}
use Rattle.std.proofs.lemmas.Option.{none-some, same_Some}
use Rattle.xk_base.specs.declared.ids.Place.{Place}
use Rattle.xk_base.specs.declared.pages.Access.TheVariants.{Store}
use Rattle.xk_base.specs.declared.pages.LoanKind.{LoanKind}
use Rattle.xk_base.specs.declared.pages.LoanKind.TheVariants.{Shared, Exclusive}
use Rattle.xk_base.specs.declared.pages.Right.{Right}
use Rattle.ledger_model.specs.Lawful.{IsLawful}
use Rattle.ledger_model.specs.Ledger.{Ledger, Orphan, Page, PageLoan, PageName, Homed, Orphaned, loan_at}
use Rattle.ledger_model.specs.Loans.{LoanRun, Stands, bare, bare_page, loans}
use Rattle.ledger_model.specs.Places.{place_after}
use Rattle.ledger_model.specs.Reach.{holder_may, home_may, lender_may, reach}
use Rattle.ledger_model.specs.Steps.{write}
use Rattle.ledger_model.proofs.LedgerLemmas.{cases_Option, loan_at-page}
use Rattle.ledger_model.proofs.OwnerLemmas.{reached_from, stands_home_at, stands_orphan_at}
use Rattle.ledger_model.proofs.PlaceLemmas.{same_place_tells}
use Rattle.ledger_model.proofs.ReachingLemmas.{reach-holder, reach-home, reach-orphan}
use Rattle.ledger_model.proofs.Stepping.WritingLemmas.{write_bare}
use Rattle.machine_model.specs.Runs.LoanSpan.{page_name, right_of_name}

-- ---- names

is_homed : PageName → Bool
is_homed (Homed p) = true
is_homed (Orphaned p) = false

place_of : PageName → Place
place_of (Homed p) = p
place_of (Orphaned p) = p

pub names_tell : (a b : PageName) → (a ≡ b) ⊎ (a ≢ b)
unfolding is_homed place_of
names_tell (Homed p) (Homed q) = elim (same_place_tells p q) [
  | inl t ↦ inl (ap Homed t.1)
  | inr f ↦ inr (λ e. f.1 (ap place_of e))
]
names_tell (Homed p) (Orphaned q) = inr (λ e. false≢true (sym (ap is_homed e)))
names_tell (Orphaned p) (Homed q) = inr (λ e. false≢true (ap is_homed e))
names_tell (Orphaned p) (Orphaned q) = elim (same_place_tells p q) [
  | inl t ↦ inl (ap Orphaned t.1)
  | inr f ↦ inr (λ e. f.1 (ap place_of e))
]

apart_names : {A : Type 0} → (p q : Place) → Homed p ≡ Orphaned q → A
unfolding is_homed
apart_names p q e = absurd (false≢true (sym (ap is_homed e)))

same_homes : (p q : Place) → Homed p ≡ Homed q → p ≡ q
unfolding place_of
same_homes p q e = ap place_of e

same_orphans : (p q : Place) → Orphaned p ≡ Orphaned q → p ≡ q
unfolding place_of
same_orphans p q e = ap place_of e

-- ---- rights stay

right_of_bare : (l : Ledger) (name : PageName) → right_of_name (bare l) name ≡ right_of_name l name
unfolding bare
right_of_bare l (Homed p) = go (l.home p)
  where
    go : (o : Option Page) → option_map (λ page. page.right) (option_map bare_page o) ≡ option_map (λ page. page.right) o
    go None = refl
    go (Some page) = refl
right_of_bare l (Orphaned p) = refl

pub right_written : (name other : PageName) (offset : ℕ) (bytes : List ℕ) (l : Ledger)
    → right_of_name (write name offset bytes l) other ≡ right_of_name l other
right_written name other offset bytes l =
    sym (right_of_bare (write name offset bytes l) other)
    ∙ (ap (λ k. right_of_name k other) (write_bare name offset bytes l) ∙ right_of_bare l other)

-- ---- who stores

holder_stores : (kind : LoanKind) (name other : PageName) → (if holder_may kind Store then Some name else None) ≡ Some other → kind ≡ Exclusive
holder_stores Shared name other e = absurd (none-some other e)
holder_stores Exclusive name other e = refl

lender_stores_not : (kind : LoanKind) (right : Right) (name other : PageName) → (if lender_may kind right Store then Some name else None) ≡ Some other → ⊥
lender_stores_not Shared right name other e = none-some other e
lender_stores_not Exclusive right name other e = none-some other e

-- the page of the loan that is stored to at the place is one under Exclusive, and the place is one of its holder
pub record IsHolders (a : LoanRun) (place : Place) : Type 0 where
  pub kind : a.kind ≡ Exclusive
  pub own : place.pid ≡ a.holder.pid

module _ (procs capacity : ℕ) (l : Ledger) (lawful : IsLawful procs capacity l) (a : LoanRun) (stands : Stands (loans l) a)
    (k : ℕ) (low : k < a.count) (place : Place) where
  module _ (from : Place) (e : a.lender ≡ Some from) (r : reach procs l place Store ≡ Some (Homed (place_after from k))) where
    abbrev loan : PageLoan
    loan = record { holder = place_after a.holder k; kind = a.kind; number = a.number }

    lent : loan_at l (place_after from k) ≡ Some loan
    lent = stands_home_at l a from k stands e low

    at_home : Homed (place_after from k) ≡ Homed place → IsHolders a place
    at_home same =
        let here : place_after from k ≡ place = same_homes (place_after from k) place same in
        let page : (page : Page) × (l.home (place_after from k) ≡ Some page) × (page.loan ≡ Some loan) = loan_at-page l (place_after from k) loan lent in
        absurd (lender_stores_not a.kind page.0.right (Homed place) (Homed (place_after from k))
        (sym (ap (λ o. if home_may_of page.0.right o then Some (Homed place) else None) page.2)
        ∙ (sym (reach-home procs l place page.0 Store (ap l.home (sym here) ∙ page.1)) ∙ r)))
      where
        home_may_of : Right → Option PageLoan → Bool
        home_may_of right o = home_may right o Store

    at_holder : (q : Place) (x : PageLoan) → loan_at l q ≡ Some x → x.holder ≡ place → Homed (place_after from k) ≡ Homed q → IsHolders a place
    at_holder q x there held same =
        let here : place_after from k ≡ q = same_homes (place_after from k) q same in
        let one : loan ≡ x = same_Some loan x (sym lent ∙ (ap (loan_at l) here ∙ there)) in
        record {
          kind = ap (λ (y : PageLoan). y.kind) one
              ∙ holder_stores x.kind (Homed q) (Homed (place_after from k))
              (sym (reach-holder procs capacity l q x Store lawful there) ∙ (ap (λ p. reach procs l p Store) held ∙ r));
          own = sym (ap (λ (p : Place). p.pid) held) ∙ sym (ap (λ (y : PageLoan). y.holder.pid) one);
        }

    by_home : IsHolders a place
    by_home = elim (reached_from procs l place Store (Homed (place_after from k)) r) [
      | inl home ↦ at_home home
      | inr others ↦ elim others [
        | inl orphan ↦ apart_names (place_after from k) place orphan
        | inr held ↦ at_holder held.0 held.1 held.2 held.3 held.4
      ]
    ]

  by_orphan : a.lender ≡ None → reach procs l place Store ≡ Some (Orphaned (place_after a.holder k)) → IsHolders a place
  by_orphan e r =
      let there : (orphan : Orphan) × (l.orphan (place_after a.holder k) ≡ Some orphan) × (orphan.kind ≡ a.kind) × (orphan.number ≡ a.number) =
      stands_orphan_at l a k stands e low in
      elim (reached_from procs l place Store (Orphaned (place_after a.holder k)) r) [
        | inl home ↦ apart_names place (place_after a.holder k) (sym home)
        | inr others ↦ elim others [
          | inl orphan ↦
              let here : place_after a.holder k ≡ place = same_orphans (place_after a.holder k) place orphan in
              record {
                kind = sym there.2
                    ∙ holder_stores there.0.kind (Orphaned place) (Orphaned (place_after a.holder k))
                    (sym (reach-orphan procs capacity l place there.0 Store lawful (ap l.orphan (sym here) ∙ there.1)) ∙ r);
                own = sym (ap (λ (p : Place). p.pid) here);
              }
          | inr held ↦ apart_names held.0 (place_after a.holder k) (sym held.4)
        ]
      ]

  pub stored_by : reach procs l place Store ≡ Some (page_name a k) → IsHolders a place
  stored_by r = elim (cases_Option a.lender) [
    | inl none ↦ by_orphan none (r ∙ ap (λ o. Some (option_map_or (λ from. Homed (place_after from k)) o (Orphaned (place_after a.holder k)))) none)
    | inr from ↦ by_home from.0 from.1 (r ∙ ap (λ o. Some (option_map_or (λ from. Homed (place_after from k)) o (Orphaned (place_after a.holder k)))) from.1)
  ]
