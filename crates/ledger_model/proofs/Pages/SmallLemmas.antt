-- A small ledger, given as two lists of entries, has the roles that a search of the lists finds.
use Rattle.std.proofs.Common.{◌≡◌, ℕ, Bool, true, ◌&&◌, List, [], ◌∷◌, Option, Some, None, refl, sym, ap, subst, ◌∙◌, ◌⊎◌, inl, inr}
use Rattle.std.specs.List.{find}
use Rattle.std.specs.Option.{option_map}
use Rattle.std.proofs.lemmas.Bool.{cases_Bool, and_parts, both_ways, false_from_ne_true, false≢true, cond-true, cond-false}
use Rattle.std.proofs.lemmas.Option.{none-some, same_Some}
use Rattle.xk_base.specs.declared.ids.Place.{Place}
use Rattle.ledger_model.specs.declared.small.LoanEntry.{LoanEntry}
use Rattle.ledger_model.specs.declared.small.OrphanEntry.{OrphanEntry}
use Rattle.ledger_model.specs.declared.small.PageEntry.{PageEntry}
use Rattle.ledger_model.specs.Ledger.{loan_at, loan_of}
use Rattle.ledger_model.specs.Places.{same_place, is_before, is_user_place}
use Rattle.ledger_model.specs.Reach.{is_held_at, lender_of, role_at, FreePlace, HomePlace, HolderPlace, OrphanPlace}
use Rattle.ledger_model.specs.Small.{loan_of_entry, page_of_entry, orphan_of_entry, ledger_of, is_before_first, is_listed}
use Rattle.ledger_model.proofs.LedgerLemmas.{role_at-home, role_at-orphan, role_at-lender, role_at-free}
use Rattle.ledger_model.proofs.Loans.NumberingLemmas.{first_place-least, first_place-None}
use Rattle.ledger_model.proofs.PlaceLemmas.{same_place-true, same_place-at, same_place-apart, is_before-apart, is_before-trans}

-- whether the page of an entry is on loan to a place
abbrev pub holds : Place → PageEntry → Bool
holds place e = is_held_at place (option_map loan_of_entry e.loan)

find-passes : {X : Type 0} (test : X → Bool) (xs : List X) (x : X) → find test xs ≡ Some x → test x ≡ true
find-passes test [] x e = absurd (none-some x e)
find-passes test (y ∷ ys) x e = elim (cases_Bool (test y)) [
  | inl t ↦ subst (λ z. test z ≡ true) (same_Some y x (sym (cond-true (test y) (Some y) (find test ys) t) ∙ e)) t
  | inr f ↦ find-passes test ys x (sym (cond-false (test y) (Some y) (find test ys) f) ∙ e)
]

-- ---- what is found in a list of ascending homes

record Listed (procs : ℕ) (x : PageEntry) (xs : List PageEntry) : Type 0 where
  lies : is_user_place procs x.home ≡ true
  first : is_before_first x.home xs ≡ true
  rest : is_listed procs xs ≡ true

listed_parts : (procs : ℕ) (x : PageEntry) (xs : List PageEntry) → is_listed procs (x ∷ xs) ≡ true → Listed procs x xs
listed_parts procs x xs e =
    let a : (is_user_place procs x.home ≡ true) × (is_before_first x.home xs && is_listed procs xs ≡ true) =
    and_parts (is_user_place procs x.home) (is_before_first x.home xs && is_listed procs xs) e in
    let b : (is_before_first x.home xs ≡ true) × (is_listed procs xs ≡ true) =
    and_parts (is_before_first x.home xs) (is_listed procs xs) a.1 in
    record { lies = a.0; first = b.0; rest = b.1 }

-- an entry that is found lies in a window
found_lies : (procs : ℕ) (test : PageEntry → Bool) (xs : List PageEntry) (e : PageEntry) → is_listed procs xs ≡ true
    → find test xs ≡ Some e → is_user_place procs e.home ≡ true
found_lies procs test [] e h f = absurd (none-some e f)
found_lies procs test (x ∷ xs) e h f =
    let parts : Listed procs x xs = listed_parts procs x xs h in
    elim (cases_Bool (test x)) [
      | inl t ↦ subst (λ (y : PageEntry). is_user_place procs y.home ≡ true) (same_Some x e (sym (cond-true (test x) (Some x) (find test xs) t) ∙ f)) parts.lies
      | inr g ↦ found_lies procs test xs e parts.rest (sym (cond-false (test x) (Some x) (find test xs) g) ∙ f)
    ]

-- the first home is before that of each later entry
first_before : (procs : ℕ) (test : PageEntry → Bool) (p : Place) (xs : List PageEntry) (e : PageEntry)
    → is_before_first p xs ≡ true → is_listed procs xs ≡ true → find test xs ≡ Some e → is_before p e.home ≡ true
first_before procs test p [] e b h f = absurd (none-some e f)
first_before procs test p (x ∷ xs) e b h f =
    let parts : Listed procs x xs = listed_parts procs x xs h in
    elim (cases_Bool (test x)) [
      | inl t ↦ subst (λ (y : PageEntry). is_before p y.home ≡ true) (same_Some x e (sym (cond-true (test x) (Some x) (find test xs) t) ∙ f)) b
      | inr g ↦ is_before-trans p x.home e.home b (first_before procs test x.home xs e parts.first parts.rest (sym (cond-false (test x) (Some x) (find test xs) g) ∙ f))
    ]

-- the entry that is found is the one with its home
found_at_home : (procs : ℕ) (test : PageEntry → Bool) (xs : List PageEntry) (e : PageEntry)
    → is_listed procs xs ≡ true → find test xs ≡ Some e → find (λ x. same_place x.home e.home) xs ≡ Some e
found_at_home procs test [] e h f = absurd (none-some e f)
found_at_home procs test (x ∷ xs) e h f =
    let parts : Listed procs x xs = listed_parts procs x xs h in
    elim (cases_Bool (test x)) [
      | inl t ↦
          let same : x ≡ e = same_Some x e (sym (cond-true (test x) (Some x) (find test xs) t) ∙ f) in
          cond-true (same_place x.home e.home) (Some x) (find (λ y. same_place y.home e.home) xs) (same_place-at x.home e.home (ap (λ (y : PageEntry). y.home) same)) ∙ ap Some same
      | inr g ↦
          let later : find test xs ≡ Some e = sym (cond-false (test x) (Some x) (find test xs) g) ∙ f in
          let before : is_before x.home e.home ≡ true =
          first_before procs test x.home xs e parts.first parts.rest later in
          cond-false (same_place x.home e.home) (Some x) (find (λ y. same_place y.home e.home) xs) (same_place-apart x.home e.home (is_before-apart x.home e.home before))
          ∙ found_at_home procs test xs e parts.rest later
    ]

-- where the entry at a home passes, the first entry that passes is that one or stands before it
first_or_before : (procs : ℕ) (test : PageEntry → Bool) (q : Place) (xs : List PageEntry) (x' : PageEntry)
    → is_listed procs xs ≡ true → find (λ x. same_place x.home q) xs ≡ Some x' → test x' ≡ true
    → (e : PageEntry) × (find test xs ≡ Some e) × ((e.home ≡ q) ⊎ (is_before e.home q ≡ true))
first_or_before procs test q [] x' h f t = absurd (none-some x' f)
first_or_before procs test q (x ∷ xs) x' h f t =
    let parts : Listed procs x xs = listed_parts procs x xs h in
    elim (cases_Bool (test x)) [
      | inl u ↦ (
        x,
        cond-true (test x) (Some x) (find test xs) u,
        elim (cases_Bool (same_place x.home q)) [
          | inl s ↦ inl (same_place-true x.home q s)
          | inr n ↦
              let later : find (λ y. same_place y.home q) xs ≡ Some x' =
              sym (cond-false (same_place x.home q) (Some x) (find (λ y. same_place y.home q) xs) n) ∙ f in
              let at : x'.home ≡ q = same_place-true x'.home q (find-passes (λ y. same_place y.home q) xs x' later) in
              inr (subst (λ p. is_before x.home p ≡ true) at (first_before procs (λ y. same_place y.home q) x.home xs x' parts.first parts.rest later))
        ],
      )
      | inr g ↦ elim (cases_Bool (same_place x.home q)) [
        | inl s ↦ absurd (both_ways (test x) g (subst (λ y. test y ≡ true) (sym (same_Some x x' (sym (cond-true (same_place x.home q) (Some x) (find (λ y. same_place y.home q) xs) s) ∙ f))) t))
        | inr n ↦
            let rest : (e : PageEntry) × (find test xs ≡ Some e) × ((e.home ≡ q) ⊎ (is_before e.home q ≡ true)) =
            first_or_before procs test q xs x' parts.rest (sym (cond-false (same_place x.home q) (Some x) (find (λ y. same_place y.home q) xs) n) ∙ f) t in
            (rest.0, cond-false (test x) (Some x) (find test xs) g ∙ rest.1, rest.2)
      ]
    ]

-- ---- the lender of a place

small_loan : (pages : List PageEntry) (orphans : List OrphanEntry) (q : Place)
    → loan_at (ledger_of pages orphans) q ≡ loan_of (option_map page_of_entry (find (λ e. same_place e.home q) pages))
unfolding ledger_of
small_loan pages orphans q = refl

-- an entry at q whose page is on loan to the place
held_entry : (place : Place) (o : Option PageEntry) → is_held_at place (loan_of (option_map page_of_entry o)) ≡ true
    → (e : PageEntry) × (o ≡ Some e) × (holds place e ≡ true)
held_entry place None e = absurd (false≢true e)
held_entry place (Some x) e = (x, refl, e)

small_held : (pages : List PageEntry) (orphans : List OrphanEntry) (place q : Place)
    → is_held_at place (loan_at (ledger_of pages orphans) q) ≡ true
    → (e : PageEntry) × (find (λ x. same_place x.home q) pages ≡ Some e) × (holds place e ≡ true)
small_held pages orphans place q t =
    held_entry place (find (λ x. same_place x.home q) pages) (sym (ap (is_held_at place) (small_loan pages orphans q)) ∙ t)

small_lender-none : (procs : ℕ) (pages : List PageEntry) (orphans : List OrphanEntry) (place : Place)
    → is_listed procs pages ≡ true → find (holds place) pages ≡ None
    → lender_of procs (ledger_of pages orphans) place ≡ None
unfolding lender_of
small_lender-none procs pages orphans place h none =
    first_place-None procs (λ q. is_held_at place (loan_at (ledger_of pages orphans) q)) (λ q lies. false_from_ne_true (is_held_at place (loan_at (ledger_of pages orphans) q)) (λ t.
    let held : (e : PageEntry) × (find (λ x. same_place x.home q) pages ≡ Some e) × (holds place e ≡ true) =
    small_held pages orphans place q t in
    let found : (e : PageEntry) × (find (holds place) pages ≡ Some e) × ((e.home ≡ q) ⊎ (is_before e.home q ≡ true)) =
    first_or_before procs (holds place) q pages held.0 h held.1 held.2 in
    none-some found.0 (sym none ∙ found.1)))

small_lender : (procs : ℕ) (pages : List PageEntry) (orphans : List OrphanEntry) (place : Place) (e : PageEntry)
    → is_listed procs pages ≡ true → find (holds place) pages ≡ Some e
    → lender_of procs (ledger_of pages orphans) place ≡ Some e.home
unfolding lender_of
small_lender procs pages orphans place e h f =
    first_place-least procs (λ q. is_held_at place (loan_at (ledger_of pages orphans) q)) e.home (found_lies procs (holds place) pages e h f)
    (ap (is_held_at place) (small_loan pages orphans e.home)
    ∙ (ap (λ o. is_held_at place (loan_of (option_map page_of_entry o))) (found_at_home procs (holds place) pages e h f) ∙ find-passes (holds place) pages e f))
    (λ q before. false_from_ne_true (is_held_at place (loan_at (ledger_of pages orphans) q)) (λ t.
    let held : (x : PageEntry) × (find (λ x. same_place x.home q) pages ≡ Some x) × (holds place x ≡ true) =
    small_held pages orphans place q t in
    let found : (x : PageEntry) × (find (holds place) pages ≡ Some x)
    × ((x.home ≡ q) ⊎ (is_before x.home q ≡ true)) =
    first_or_before procs (holds place) q pages held.0 h held.1 held.2 in
    let same : found.0 ≡ e = same_Some found.0 e (sym found.1 ∙ f) in
    elim found.2 [
      | inl at ↦ is_before-apart q e.home before (sym at ∙ ap (λ (x : PageEntry). x.home) same)
      | inr first ↦ is_before-apart found.0.home found.0.home
          (is_before-trans found.0.home q found.0.home first (subst (λ (x : PageEntry). is_before q x.home ≡ true) (sym same) before)) refl
    ]))

-- ---- the role of a place

pub small_home : (procs : ℕ) (pages : List PageEntry) (orphans : List OrphanEntry) (place : Place) (e : PageEntry)
    → find (λ x. same_place x.home place) pages ≡ Some e
    → role_at procs (ledger_of pages orphans) place ≡ HomePlace (page_of_entry e)
unfolding ledger_of
small_home procs pages orphans place e f = role_at-home procs (ledger_of pages orphans) place (page_of_entry e) (ap (option_map page_of_entry) f)

pub small_orphan : (procs : ℕ) (pages : List PageEntry) (orphans : List OrphanEntry) (place : Place) (o : OrphanEntry)
    → find (λ x. same_place x.home place) pages ≡ None
    → find (λ x. same_place x.holder place) orphans ≡ Some o → role_at procs (ledger_of pages orphans) place ≡ OrphanPlace (orphan_of_entry o)
unfolding ledger_of
small_orphan procs pages orphans place o none f =
    role_at-orphan procs (ledger_of pages orphans) place (orphan_of_entry o) (ap (option_map page_of_entry) none) (ap (option_map orphan_of_entry) f)

pub small_holder : (procs : ℕ) (pages : List PageEntry) (orphans : List OrphanEntry) (place : Place) (e : PageEntry) (loan : LoanEntry)
    → is_listed procs pages ≡ true
    → find (λ x. same_place x.home place) pages ≡ None → find (λ x. same_place x.holder place) orphans ≡ None → find (holds place) pages ≡ Some e → e.loan ≡ Some loan
    → role_at procs (ledger_of pages orphans) place ≡ HolderPlace e.home (loan_of_entry loan)
unfolding ledger_of
small_holder procs pages orphans place e loan h none no_orphan f g =
    role_at-lender procs (ledger_of pages orphans) place e.home (loan_of_entry loan) (ap (option_map page_of_entry) none) (ap (option_map orphan_of_entry) no_orphan)
    (small_lender procs pages orphans place e h f)
    (ap (λ o. loan_of (option_map page_of_entry o)) (found_at_home procs (holds place) pages e h f) ∙ ap (option_map loan_of_entry) g)

pub small_free : (procs : ℕ) (pages : List PageEntry) (orphans : List OrphanEntry) (place : Place)
    → is_listed procs pages ≡ true
    → find (λ x. same_place x.home place) pages ≡ None → find (λ x. same_place x.holder place) orphans ≡ None → find (holds place) pages ≡ None
    → role_at procs (ledger_of pages orphans) place ≡ FreePlace
unfolding ledger_of
small_free procs pages orphans place h none no_orphan f =
    role_at-free procs (ledger_of pages orphans) place (ap (option_map page_of_entry) none) (ap (option_map orphan_of_entry) no_orphan) (small_lender-none procs pages orphans place h f)

-- an entry that holds the place has a loan
pub held_has_loan : (pages : List PageEntry) (place : Place) (e : PageEntry) → find (holds place) pages ≡ Some e
    → e.loan ≡ None → ⊥
held_has_loan pages place e f g = both_ways (holds place e) (ap (λ o. is_held_at place (option_map loan_of_entry o)) g) (find-passes (holds place) pages e f)
