-- The home of the first page of a state that is on loan by a message is that from which the loan goes.
use Rattle.std.proofs.Common.{◌≡◌, ℕ, suc, ◌+◌, ◌≤◌, ◌<◌, Bool, true, false, cond, ◌&&◌, List, [], ◌∷◌, length, get_or, Option, Some, None, refl, sym, ap, subst, ◌∙◌, arith, inl, inr}
use Rattle.std.specs.Prelude.{◌==◌, not, nat_le, nat_lt, if◌then◌else◌}
use Rattle.std.specs.List.{find}
use Rattle.std.specs.Option.{option_and_then, option_map}
use Rattle.std.proofs.lemmas.Bool.{and_from, and_parts, cases_Bool, cond-false, cond-true, eq-eqb, eqb-true, leb-true}
use Rattle.std.proofs.lemmas.Bool.Decides.{nat_tests}
use Rattle.std.proofs.lemmas.Option.{cond_some, none-some, same_Some}
use Rattle.ledger_model.proofs.Loans.OfNumberLemmas.{stands-home}
use Rattle.ledger_model.specs.Ledger.{Ledger, PageLoan, loan_at, loan_of}
use Rattle.ledger_model.specs.Loans.{LoanRun, Stands, lent_from, loan_of_run, loans, of_number, same_number}
use Rattle.ledger_model.specs.Places.{in_run, moved}
use Rattle.snapshot_rows.proofs.KeyLemmas.{Less, key_above, less_apart, less_behind, less_through, pair_is, pair_own, some, some_same}
use Rattle.suspend_image.proofs.OrderLemmas.{pages_ascend}
use Rattle.snapshot_rows.specs.Order.{AreInOrder, least_first, least_second, page_key}
use Rattle.snapshot_rows.specs.Machines.{ledger_page, loan_kind_of, place_at}
use Rattle.snapshot_rows.specs.declared.state.PageRow.{PageRow}
use Rattle.snapshot_rows.specs.declared.state.State.{State}
use Rattle.xk_base.specs.declared.ids.Place.{Place}
use Rattle.resume_path.proofs.Homes.StandingLemmas.{row_there}
use Rattle.resume_path.specs.Messages.{first_lent, is_lent_by}
use Rattle.resume_path.specs.Resumable.{IsResumable, state_ledger}

-- ---- the first row that passes a test

found_test : {A : Type 0} (test : A → Bool) (rows : List A) (x : A) → find test rows ≡ Some x → test x ≡ true
found_test test [] x e = absurd (none-some x e)
found_test {A = A} test (y ∷ rows) x e = elim (cases_Bool (test y)) [
  | inl does ↦
      let here : some y ≡ some x = sym (ap (λ (b : Bool). cond b (some y) (find test rows)) does) ∙ e in
      subst (λ (z : A). test z ≡ true) (some_same y x here) does
  | inr doesnt ↦ found_test test rows x (sym (ap (λ (b : Bool). cond b (some y) (find test rows)) doesnt) ∙ e)
]

module _ {A K : Type 0} (key : A → K) (test : K → A → Bool) (less : K → K → Type 0) (form : Option K → A → Type 0)
    (behind : (before : K) (x : A) → form (Some before) x → less before (key x)) (is_key : (k : K) (x : A) → test k x ≡ true → key x ≡ k)
    (own : (x : A) → test (key x) x ≡ true) (apart : (k : K) → less k k → ⊥) (through : (a b c : K) → less a b → less b c → less a c) where
  -- a row that passes is the first that does, where none with a lower key does
  least_found : (good : A → Bool) (x : A) (before : Option K) (rows : List A) → AreInOrder form key before rows → find (test (key x)) rows ≡ Some x
      → good x ≡ true
      → ((j : ℕ) (d : A) → j < length rows → good (get_or rows j d) ≡ true → less (key (get_or rows j d)) (key x) → ⊥) → find good rows ≡ Some x
  least_found good x before [] forms there is none = absurd (none-some x there)
  least_found good x before (y ∷ rows) forms there is none = elim (cases_Bool (test (key x) y)) [
    | inl does ↦
        let same : y ≡ x = some_same y x (sym (ap (λ (b : Bool). cond b (some y) (find (test (key x)) rows)) does) ∙ there) in
        ap (λ (b : Bool). cond b (some y) (find good rows)) (subst (λ (z : A). good z ≡ true) (sym same) is) ∙ ap some same
    | inr doesnt ↦
        let rest : find (test (key x)) rows ≡ Some x = sym (ap (λ (b : Bool). cond b (some y) (find (test (key x)) rows)) doesnt) ∙ there in
        elim (cases_Bool (good y)) [
          | inl first ↦
              absurd (none 0 y (omega arith) first (key_above key test less form behind is_key own apart through (key y) (key x) rows x forms.1 rest))
          | inr other ↦
              ap (λ (b : Bool). cond b (some y) (find good rows)) other
              ∙ least_found good x (Some (key y)) rows forms.1 rest is (λ j d low passes l. none (suc j) d (omega (arith, low)) passes l)
        ]
  ]

-- ---- the first page of a loan

abbrev pub test_of : ℕ × ℕ → PageRow → Bool
test_of key row = row.pid == key.0 && row.page == key.1

lent_where : (b : Bool) (l loan : PageLoan) → (if b then None else Some l) ≡ Some loan → (b ≡ false) × (l ≡ loan)
lent_where true l loan e = absurd (none-some loan e)
lent_where false l loan e = (refl, same_Some l loan e)

module _ (file : List ℕ) (s : State) (h : IsResumable file s) (r : LoanRun) (from : Place) (lender : r.lender ≡ Some from)
    (stands : Stands (loans (state_ledger file s)) r) (many : 1 ≤ r.count) where
  abbrev whole : Ledger
  whole = state_ledger file s

  abbrev own_loan : PageLoan
  own_loan = record { holder = moved from r.holder from; kind = r.kind; number = r.number }

  -- the row of the home at which the run begins
  abbrev IsFirst : PageRow → Type 0
  IsFirst x = (find (test_of (from.pid.0, from.vpn.0)) s.pages ≡ Some x) × (is_lent_by r.number.0 x ≡ true)

  first_row : (x : PageRow) × IsFirst x
  unfolding loans
  first_row = go (find (test_of (from.pid.0, from.vpn.0)) s.pages) refl (stands-home (loans whole) r from from stands lender at_home)
    where
      at_home : in_run from r.count from ≡ true
      at_home = grind (arith, nat_tests, many)

      go : (o : Option PageRow) → find (test_of (from.pid.0, from.vpn.0)) s.pages ≡ o → loan_of (option_map (ledger_page file) o) ≡ Some own_loan
          → (x : PageRow) × IsFirst x
      go None e is = absurd (none-some own_loan is)
      go (Some x) e is =
          let lent = lent_where (x.kind == 0)
          (record { holder = place_at x.holder_pid x.holder_page; kind = loan_kind_of x.kind; number = record { 0 = x.number } })
          own_loan is in (
            x,
            (
              e,
              and_from (not (x.kind == 0)) (x.number == r.number.0) (ap not lent.0)
                  (eq-eqb x.number r.number.0 (ap (λ (l : PageLoan). l.number.0) lent.1)),
            ),
          )

  -- each row of the loan has its home in the run
  in_its_run : (j : ℕ) (d : PageRow) → j < length s.pages → is_lent_by r.number.0 (get_or s.pages j d) ≡ true
      → in_run from r.count (place_at (get_or s.pages j d).pid (get_or s.pages j d).page) ≡ true
  unfolding loans
  in_its_run j d low passes =
      let row : PageRow = get_or s.pages j d in
      let at : Place = place_at row.pid row.page in
      let both = and_parts (not (row.kind == 0)) (row.number == r.number.0) passes in
      let its : PageLoan = record { holder = place_at row.holder_pid row.holder_page; kind = loan_kind_of row.kind; number = record { 0 = row.number } } in
      let there : loan_at whole at ≡ Some its = ap loan_of (row_there file s h j d low) ∙ cond-false (row.kind == 0) None (Some its)
      (not_true (row.kind == 0) both.0) in
      let numbered : of_number r.number (Some its) ≡ Some its = cond-true (same_number its.number r.number) (Some its) None both.1 in
      let of_run : loan_of_run r at ≡ Some its = sym (stands.homes at) ∙ (ap (of_number r.number) there ∙ numbered) in
      let lent : lent_from r from at ≡ Some its = sym (ap (option_and_then (λ f. lent_from r f at)) lender) ∙ of_run in
      (cond_some (in_run from r.count at) (record { holder = moved from r.holder at; kind = r.kind; number = r.number }) its lent).0
    where
      not_true : (b : Bool) → not b ≡ true → b ≡ false
      not_true true e = absurd cc
      not_true false e = refl

  pub first_is : first_lent s.pages r.number.0 ≡ Some from
  first_is =
      ap (option_map (λ (page : PageRow). place_at page.pid page.page))
      (least_found page_key test_of Less (λ before x. (least_first 0 before ≤ (page_key x).0) × (least_second 0 before (page_key x).0 ≤ (page_key x).1)) behind
      (pair_is page_key) (pair_own page_key) less_apart less_through (is_lent_by r.number.0) first_row.0 None s.pages (pages_ascend file s h.spelled) found
      first_row.1.1 none)
      ∙ ap (λ (key : ℕ × ℕ). Some (place_at key.0 key.1)) key_is
    where
      behind : (before : ℕ × ℕ) (x : PageRow) → (least_first 0 (Some before) ≤ x.pid) × (least_second 0 (Some before) x.pid ≤ x.page) → Less before (page_key x)
      behind before x is = less_behind 0 0 before (page_key x) is.0 is.1

      key_is : page_key first_row.0 ≡ (from.pid.0, from.vpn.0)
      key_is = pair_is page_key (from.pid.0, from.vpn.0) first_row.0 (found_test (test_of (from.pid.0, from.vpn.0)) s.pages first_row.0 first_row.1.0)

      found : find (test_of (page_key first_row.0)) s.pages ≡ Some first_row.0
      found = subst (λ (key : ℕ × ℕ). find (test_of key) s.pages ≡ Some first_row.0) (sym key_is) first_row.1.0

      none : (j : ℕ) (d : PageRow) → j < length s.pages → is_lent_by r.number.0 (get_or s.pages j d) ≡ true
          → Less (page_key (get_or s.pages j d)) (page_key first_row.0) → ⊥
      none j d low passes before =
          let row : PageRow = get_or s.pages j d in
          let inside = and_parts (row.pid == from.pid.0) (nat_le from.vpn.0 row.page && nat_lt row.page (from.vpn.0 + r.count)) (in_its_run j d low passes) in
          let above = leb-true from.vpn.0 row.page (and_parts (nat_le from.vpn.0 row.page) (nat_lt row.page (from.vpn.0 + r.count)) inside.1).0 in
          apart (page_key row) (eqb-true row.pid from.pid.0 inside.0) above (subst (λ (key : ℕ × ℕ). Less (page_key row) key) key_is before)
        where
          apart : (key : ℕ × ℕ) → key.0 ≡ from.pid.0 → from.vpn.0 ≤ key.1 → Less key (from.pid.0, from.vpn.0) → ⊥
          apart key same above (inl low) = omega arith
          apart key same above (inr low) = let below = low.1 in omega arith
