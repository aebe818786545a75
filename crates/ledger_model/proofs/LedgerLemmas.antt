-- Laws of the ledger's maps, of loans and of roles (specs/Ledger.antt, Loans.antt, Reach.antt).
use Rattle.std.proofs.Common.{◌≡◌, ◌≢◌, ℕ, Bool, true, false, Option, Some, None, refl, ap, ◌∙◌, ◌⊎◌, inl, inr}
use Rattle.std.specs.Prelude.{if◌then◌else◌}
use Rattle.std.proofs.lemmas.Bool.{both_ways, false_from_ne_true, eqb-true, eq-eqb, false≢true}
use Rattle.std.proofs.lemmas.Option.{none-some}
use Rattle.xk_base.specs.declared.ids.Number.{Number}
use Rattle.xk_base.specs.declared.ids.Place.{Place}
use Rattle.xk_base.specs.declared.pages.Access.{Access}
use Rattle.ledger_model.specs.Places.{is_user_place}
use Rattle.ledger_model.specs.Ledger.{Ledger, Page, PageLoan, Orphan, loan_at, loan_of}
use Rattle.ledger_model.specs.Lawful.{IsLawful}
use Rattle.ledger_model.specs.Loans.{same_number}
use Rattle.ledger_model.specs.Reach.{is_held_at, lender_of, Role, FreePlace, HomePlace, HolderPlace, OrphanPlace, lent_role, role_at, may, page_at_role, reach, is_free, is_free_role}
use Rattle.ledger_model.proofs.PlaceLemmas.{same_place-true, same_place-at}
use Rattle.ledger_model.proofs.Loans.NumberingLemmas.{first_place-passes, first_place-only, first_place-none, first_place-None}

-- ledgers that agree at every place are equal
pub same_ledger : (a b : Ledger) → ((p : Place) → a.home p ≡ b.home p) → ((p : Place) → a.orphan p ≡ b.orphan p)
    → a ≡ b
same_ledger a b homes orphans = λ i. record { home = λ p. homes p i; orphan = λ p. orphans p i }

-- an Option is None or has a value
pub cases_Option : {T : Type 0} (o : Option T) → (o ≡ None) ⊎ ((x : T) × (o ≡ Some x))
cases_Option None = inl refl
cases_Option (Some x) = inr (x, refl)

-- what a function says of both choices, it says of the choice
pub if_same : {A B : Type 0} (b : Bool) (f : A → B) (x y : A) → f x ≡ f y → f (if b then x else y) ≡ f y
if_same true f x y e = e
if_same false f x y e = refl

-- ---- numbers

pub same_number-true : (a b : Number) → same_number a b ≡ true → a ≡ b
same_number-true a b e = let q : a.0 ≡ b.0 = eqb-true a.0 b.0 e in λ i. record { 0 = q i }

pub same_number-at : (a b : Number) → a ≡ b → same_number a b ≡ true
same_number-at a b e = eq-eqb a.0 b.0 (ap (λ (n : Number). n.0) e)

pub same_number-apart : (a b : Number) → a ≢ b → same_number a b ≡ false
same_number-apart a b ne = false_from_ne_true (same_number a b) (λ t. ne (same_number-true a b t))

pub same_number-false : (a b : Number) → same_number a b ≡ false → a ≢ b
same_number-false a b f e = both_ways (same_number a b) f (same_number-at a b e)

-- ---- loans at homes

-- a loan at a place is the loan of a page there
pub loan_at-page : (l : Ledger) (p : Place) (loan : PageLoan) → loan_at l p ≡ Some loan
    → (page : Page) × (l.home p ≡ Some page) × (page.loan ≡ Some loan)
loan_at-page l p loan e = from (l.home p) refl e
  where
    from : (o : Option Page) → l.home p ≡ o → loan_of o ≡ Some loan
        → (page : Page) × (l.home p ≡ Some page) × (page.loan ≡ Some loan)
    from None q h = absurd (none-some loan h)
    from (Some page) q h = (page, q, h)

pub loan_at-home : (l : Ledger) (p : Place) (page : Page) → l.home p ≡ Some page → loan_at l p ≡ page.loan
loan_at-home l p page e = ap (loan_of) e

pub loan_at-None : (l : Ledger) (p : Place) → l.home p ≡ None → loan_at l p ≡ None
loan_at-None l p e = ap (loan_of) e

-- ---- the lender of a place

pub is_held_at-true : (p : Place) (o : Option PageLoan) → is_held_at p o ≡ true
    → (loan : PageLoan) × (o ≡ Some loan) × (loan.holder ≡ p)
is_held_at-true p None e = absurd (false≢true e)
is_held_at-true p (Some loan) e = (loan, refl, same_place-true loan.holder p e)

pub is_held_at-Some : (p : Place) (o : Option PageLoan) (loan : PageLoan) → o ≡ Some loan → loan.holder ≡ p
    → is_held_at p o ≡ true
is_held_at-Some p o loan e h = ap (is_held_at p) e ∙ same_place-at loan.holder p h

pub lender_of-loan : (procs : ℕ) (l : Ledger) (p q : Place) → lender_of procs l p ≡ Some q
    → (loan : PageLoan) × (loan_at l q ≡ Some loan) × (loan.holder ≡ p)
unfolding lender_of
lender_of-loan procs l p q e = is_held_at-true p (loan_at l q) (first_place-passes procs (λ r. is_held_at p (loan_at l r)) q e)

-- where no place has two loans, the lender of a loan's holder place is the home of its page
pub lender_of-holder : (procs capacity : ℕ) (l : Ledger) (q : Place) (loan : PageLoan) → IsLawful procs capacity l
    → loan_at l q ≡ Some loan → lender_of procs l loan.holder ≡ Some q
unfolding lender_of
lender_of-holder procs capacity l q loan lawful e =
    let home : (page : Page) × (l.home q ≡ Some page) × (page.loan ≡ Some loan) = loan_at-page l q loan e in
    first_place-only procs (λ r. is_held_at loan.holder (loan_at l r)) q (lawful.home_lies q home.0 home.1)
    (is_held_at-Some loan.holder (loan_at l q) loan e refl)
    (λ r h. let other : (b : PageLoan) × (loan_at l r ≡ Some b) × (b.holder ≡ loan.holder) = is_held_at-true loan.holder (loan_at l r) h in
    lawful.holders_differ r q other.0 loan other.1 e other.2)

-- where there is no lender, no user place has a loan to that place
pub lender_of-none : (procs : ℕ) (l : Ledger) (p q : Place) (loan : PageLoan) → lender_of procs l p ≡ None
    → is_user_place procs q ≡ true → loan_at l q ≡ Some loan → loan.holder ≢ p
unfolding lender_of
lender_of-none procs l p q loan e lies h same =
    both_ways (is_held_at p (loan_at l q)) (first_place-none procs (λ r. is_held_at p (loan_at l r)) e q lies) (is_held_at-Some p (loan_at l q) loan h same)

pub lender_of-None : (procs : ℕ) (l : Ledger) (p : Place)
    → ((q : Place) (loan : PageLoan) → loan_at l q ≡ Some loan → loan.holder ≢ p) → lender_of procs l p ≡ None
unfolding lender_of
lender_of-None procs l p h = first_place-None procs (λ r. is_held_at p (loan_at l r)) (λ q lies. false_from_ne_true (is_held_at p (loan_at l q))
    (λ t. let held : (loan : PageLoan) × (loan_at l q ≡ Some loan) × (loan.holder ≡ p) = is_held_at-true p (loan_at l q) t in h q held.0 held.1 held.2))

-- ---- the role of a place

pub role_at-home : (procs : ℕ) (l : Ledger) (p : Place) (page : Page) → l.home p ≡ Some page
    → role_at procs l p ≡ HomePlace page
unfolding role_at
role_at-home procs l p page e = rw e refl

pub role_at-orphan : (procs : ℕ) (l : Ledger) (p : Place) (orphan : Orphan) → l.home p ≡ None
    → l.orphan p ≡ Some orphan → role_at procs l p ≡ OrphanPlace orphan
unfolding role_at
role_at-orphan procs l p orphan h e = rw (h, e) refl

pub role_at-lender : (procs : ℕ) (l : Ledger) (p q : Place) (loan : PageLoan) → l.home p ≡ None → l.orphan p ≡ None
    → lender_of procs l p ≡ Some q → loan_at l q ≡ Some loan → role_at procs l p ≡ HolderPlace q loan
unfolding role_at
role_at-lender procs l p q loan h o e a = rw (h, o, e) (ap (lent_role q) a)

pub role_at-holder : (procs capacity : ℕ) (l : Ledger) (q : Place) (loan : PageLoan) → IsLawful procs capacity l
    → loan_at l q ≡ Some loan → role_at procs l loan.holder ≡ HolderPlace q loan
role_at-holder procs capacity l q loan lawful e =
    role_at-lender procs l loan.holder q loan (lawful.holder_no_home q loan e) (lawful.holder_no_orphan q loan e)
    (lender_of-holder procs capacity l q loan lawful e) e

pub role_at-free : (procs : ℕ) (l : Ledger) (p : Place) → l.home p ≡ None → l.orphan p ≡ None
    → lender_of procs l p ≡ None → role_at procs l p ≡ FreePlace
unfolding role_at
role_at-free procs l p h o e = rw (h, o, e) refl

-- what a free place is
pub record IsFreeAt (procs : ℕ) (l : Ledger) (p : Place) : Type 0 where
  pub home : l.home p ≡ None
  pub orphan : l.orphan p ≡ None
  pub lender : lender_of procs l p ≡ None

not_free : (procs : ℕ) (l : Ledger) (p : Place) (role : Role) → is_free procs l p ≡ true → is_free_role role ≡ false
    → role_at procs l p ≡ role → ⊥
unfolding is_free
not_free procs l p role e f same = both_ways (is_free procs l p) (ap is_free_role same ∙ f) e

pub is_free-true : (procs : ℕ) (l : Ledger) (p : Place) → is_free procs l p ≡ true → IsFreeAt procs l p
is_free-true procs l p e = elim (cases_Option (l.home p)) [
  | inr a ↦ absurd (not_free procs l p (HomePlace a.0) e refl (role_at-home procs l p a.0 a.1))
  | inl h ↦ elim (cases_Option (l.orphan p)) [
    | inr b ↦ absurd (not_free procs l p (OrphanPlace b.0) e refl (role_at-orphan procs l p b.0 h b.1))
    | inl o ↦ elim (cases_Option (lender_of procs l p)) [
      | inr c ↦ let held : (loan : PageLoan) × (loan_at l c.0 ≡ Some loan) × (loan.holder ≡ p) = lender_of-loan procs l p c.0 c.1 in
          absurd (not_free procs l p (HolderPlace c.0 held.0) e refl (role_at-lender procs l p c.0 held.0 h o c.1 held.1))
      | inl n ↦ record { home = h; orphan = o; lender = n }
    ]
  ]
]

pub is_free-from : (procs : ℕ) (l : Ledger) (p : Place) → IsFreeAt procs l p → is_free procs l p ≡ true
unfolding is_free
is_free-from procs l p h = ap is_free_role (role_at-free procs l p h.home h.orphan h.lender)

-- ---- reach by the role of the place

pub reach-role : (procs : ℕ) (l : Ledger) (p : Place) (access : Access) (role : Role) → role_at procs l p ≡ role
    → reach procs l p access ≡ (if may role access then page_at_role p role else None)
unfolding reach
reach-role procs l p access role e = rw e refl
