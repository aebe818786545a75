-- The pages of each number are one run exactly where no number is that of two runs of the rows.
use Rattle.std.proofs.Common.{◌≡◌, ℕ, ◌+◌, ◌-◌, ◌≤◌, ◌<◌, Bool, true, false, cond, eqb, List, Option, Some, None, refl, sym, ap, subst, ◌∙◌, arith, inl, inr, ◌⊎◌, ◌↔◌}
use Rattle.std.specs.List.{find, count_by, AllByRecursion}
use Rattle.std.specs.Option.{option_map}
use Rattle.std.proofs.lemmas.Bool.{cases_Bool, eqb-true, eqb-false}
use Rattle.xk_base.specs.declared.ids.Number.{Number}
use Rattle.xk_base.specs.declared.ids.Place.{Place}
use Rattle.xk_base.specs.declared.pages.LoanKind.{LoanKind}
use Rattle.xk_base.specs.declared.pages.LoanKind.TheVariants.{Shared, Exclusive}
use Rattle.ledger_model.specs.Ledger.{PageLoan}
use Rattle.ledger_model.specs.Loans.{Loans, OrphanLoan, LoanRun, of_number, orphan_of_number, loan_of_run, orphan_of_run, Stands, IsFresh}
use Rattle.ledger_model.specs.Places.{in_run, moved, place_after}
use Rattle.ledger_model.proofs.PlaceLemmas.{in_run-true, in_run-from, in_run-after}
use Rattle.ledger_model.proofs.Loans.OfNumberLemmas.{of_number-at, of_number-apart, orphan_of_number-at, orphan_of_number-apart, orphan_of_number-Some, loan_of_run-inside, loan_of_run-outside, loan_of_run-None, orphan_of_run-lent, orphan_of_run-inside, orphan_of_run-outside, stands-home}
use Rattle.snapshot_rows.specs.declared.runs.Run.{Run}
use Rattle.snapshot_rows.specs.Machines.{place_at}
use Rattle.snapshot_rows.specs.RunParts.{joined, is_run_of, AreNumbersApart}
use Rattle.snapshot_rows.proofs.KeyLemmas.{some, some_same, mapped}
use Rattle.snapshot_rows.proofs.LoanRuns.OneRunLemmas.{among_has, among_counted, among_one, one_or_none, HasNoPage, Span, IsInside, IsSpan}
use Rattle.snapshot_rows.proofs.LoanRuns.OneRunLemmas.{counted_none, counted_once, IsRunAt, run_at, run_over}
use Rattle.snapshot_rows.proofs.LoanRuns.RunLemmas.{is_run, Ascending, run_found, found_has, IsSingle, IsIn, Among, each_in}
use Rattle.snapshot_rows.proofs.LoanRuns.SaidLemmas.{kind_said, loan_said, orphan_said, key_of, IsAlone, Says}

-- ---- runs of rows as loans

abbrev pub number_of : ℕ → Number
number_of n = record { 0 = n }

abbrev pub home_of : Run → Place
home_of r = place_at r.pid r.page

abbrev pub holder_of : Run → Place
holder_of r = place_at r.holder_pid r.holder_page

abbrev pub lent_run : Run → LoanRun
lent_run r = record {
  lender = Some (home_of r);
  holder = holder_of r;
  count = r.end - r.holder_page;
  kind = kind_said r;
  number = number_of r.number;
}

-- .. and where the lender died
abbrev pub left_run : Run → LoanRun
left_run r = record (lent_run r) { lender = None }

no_none : {A B : Type 0} (x : A) → some x ≡ None → B
no_none x e = absurd cc

-- ---- nothing of a number

-- no run is of the number, so no page is
pub no_page : (rows : List Run) (n : ℕ) → Ascending None rows → AllByRecursion IsSingle rows → count_by (is_run_of n) (joined rows) ≡ 0 → HasNoPage rows n
no_page rows n forms single none k e found is =
    let over = run_over rows forms single k e found in
    let some = among_counted n (joined rows) over.0 over.1 (over.2 ∙ is) in
    omega arith

none_lent : (rows : List Run) (number : Number) (k : ℕ × ℕ) → HasNoPage rows number.0 → of_number number (option_map loan_said (find (is_run k) rows)) ≡ None
none_lent rows number k none = go (find (is_run k) rows) refl
  where
    go : (o : Option Run) → find (is_run k) rows ≡ o → of_number number (option_map loan_said o) ≡ None
    go None e = refl
    go (Some r) e = of_number-apart number (loan_said r) (λ is. none k r e (ap (λ (z : Number). z.0) is))

none_left : (rows : List Run) (number : Number) (k : ℕ × ℕ) → HasNoPage rows number.0
    → orphan_of_number number (option_map orphan_said (find (is_run k) rows)) ≡ None
none_left rows number k none = go (find (is_run k) rows) refl
  where
    go : (o : Option Run) → find (is_run k) rows ≡ o → orphan_of_number number (option_map orphan_said o) ≡ None
    go None e = refl
    go (Some r) e = orphan_of_number-apart number (orphan_said r) (λ is. none k r e (ap (λ (z : Number). z.0) is))

-- ---- the one run of a number stands

-- what is at a place of a run
pub at_place : (rows : List Run) (r : Run) → Ascending None rows → AllByRecursion IsSingle rows → Among (joined rows) r
    → count_by (is_run_of r.number) (joined rows) ≤ 1
    → (k : ℕ × ℕ) (e : Run) → find (is_run k) rows ≡ Some e → e.number ≡ r.number → (at : IsRunAt rows r k) × (at.page ≡ e)
at_place rows r forms single among few k e found is =
    let over = run_over rows forms single k e found in
    let same : over.0 ≡ r = among_one r.number (joined rows) over.0 r over.1 among (over.2 ∙ is) refl few in
    let at : IsRunAt rows r k = subst (λ (z : Run). IsRunAt rows z k) same over.3 in
    (at, some_same at.page e (sym at.found ∙ found))

loan_same : (a b : PageLoan) → a.holder.pid.0 ≡ b.holder.pid.0 → a.holder.vpn.0 ≡ b.holder.vpn.0 → a.kind ≡ b.kind → a.number.0 ≡ b.number.0 → a ≡ b
loan_same a b pid page kind number =
    ap (λ (n : ℕ). record a { holder = place_at n a.holder.vpn.0 }) pid ∙ ap (λ (n : ℕ). record a { holder = place_at b.holder.pid.0 n }) page
    ∙ ap (λ (k : LoanKind). record a { holder = b.holder; kind = k }) kind ∙ ap (λ (n : ℕ). record b { number = number_of n }) number

orphan_same : (a b : OrphanLoan) → a.kind ≡ b.kind → a.number.0 ≡ b.number.0 → a ≡ b
orphan_same a b kind number = ap (λ (k : LoanKind). record a { kind = k }) kind ∙ ap (λ (n : ℕ). record b { number = number_of n }) number

kind_same : (r s : Run) → r.shared ≡ s.shared → kind_said r ≡ kind_said s
kind_same r s e = ap (λ (b : Bool). cond b Shared Exclusive) e

pub loans_stand : (all : Loans) (homes left : List Run) → Says all homes left → (r : Run) → Among (joined homes) r
    → count_by (is_run_of r.number) (joined homes) ≤ 1 → HasNoPage left r.number → Stands all (lent_run r)
loans_stand all homes left says r among few none = record {
  homes = λ p. ap (of_number (number_of r.number)) (says.home p) ∙ go p (find (is_run (key_of p)) homes) refl;
  orphans = λ p. ap (orphan_of_number (number_of r.number)) (says.orphan p) ∙ none_left left (number_of r.number) (key_of p) none;
}
  where
    own : IsIn homes r
    own = among_has (IsIn homes) (joined homes) r (each_in None homes says.homes_ascend says.homes_single) among

    go : (p : Place) (o : Option Run) → find (is_run (key_of p)) homes ≡ o
        → of_number (number_of r.number) (option_map loan_said o) ≡ loan_of_run (lent_run r) p
    go p None e = elim (cases_Bool (in_run (home_of r) (r.end - r.holder_page) p)) [
      | inl inside ↦ (
          let h = in_run-true (home_of r) (r.end - r.holder_page) p inside in
          let at = run_at homes r own (key_of p) h.pid h.from h.to in
          no_none at.page (sym at.found ∙ e)
          )
      | inr outside ↦ sym (loan_of_run-outside (lent_run r) (home_of r) p refl outside)
    ]
    go p (Some e) found = elim (cases_Bool (eqb e.number r.number)) [
      | inl is ↦ (
          let number = eqb-true e.number r.number is in
          let here = at_place homes r says.homes_ascend says.homes_single among few (key_of p) e found number in
          let at = here.0 in
          let inside = in_run-from (home_of r) (r.end - r.holder_page) p (record { pid = at.pid; from = at.from; to = at.to }) in
          let holder_pid = subst (λ (z : Run). z.holder_pid ≡ r.holder_pid) here.1 at.holder_pid in
          let holder_page = subst (λ (z : Run). z.holder_page ≡ r.holder_page + (p.vpn.0 - r.page)) here.1 at.holder_page in
          let shared = subst (λ (z : Run). z.shared ≡ r.shared) here.1 at.shared in
          of_number-at (number_of r.number) (loan_said e) (ap number_of number)
          ∙ ap (λ (l : PageLoan). some l)
          (loan_same (loan_said e) (record {
            holder = moved (home_of r)
                (holder_of r) p;
            kind = kind_said r;
            number = number_of r.number;
          }) holder_pid holder_page (kind_same e r shared) number)
          ∙ sym (loan_of_run-inside (lent_run r) (home_of r) p refl inside)
          )
      | inr isnt ↦ (
          of_number-apart (number_of r.number) (loan_said e) (λ same. eqb-false e.number r.number isnt (ap (λ (z : Number). z.0) same))
          ∙ (elim (cases_Bool (in_run (home_of r) (r.end - r.holder_page) p)) [
            | inl inside ↦ (
                let h = in_run-true (home_of r) (r.end - r.holder_page) p inside in
                let at = run_at homes r own (key_of p) h.pid h.from h.to in
                let same = some_same at.page e (sym at.found ∙ found) in
                absurd (eqb-false e.number r.number isnt (sym (ap (λ (z : Run). z.number) same) ∙ at.number))
                )
            | inr outside ↦ sym (loan_of_run-outside (lent_run r) (home_of r) p refl outside)
          ])
          )
    ]

-- a run of orphans is at its holder's place alone
pub run_alone : (all : Loans) (homes left : List Run) → Says all homes left → (r : Run) → Among (joined left) r → IsAlone r
run_alone all homes left says r among =
    let own = among_has (IsIn left) (joined left) r (each_in None left says.left_ascend says.left_single) among in
    let some = own.some in
    let at = own.at 0 (omega arith) in
    let key = run_found (r.pid, r.page + 0) left at.page at.found in
    let alone = found_has IsAlone (r.pid, r.page + 0) left at.page says.left_alone at.found in
    let page = alone.page in
    let holder = at.holder_page in
    let own_page : at.page.page ≡ r.page + 0 = ap (λ (z : ℕ × ℕ). z.1) key in
    record { pid = sym at.holder_pid ∙ alone.pid ∙ ap (λ (z : ℕ × ℕ). z.0) key; page = omega arith }

pub orphans_stand : (all : Loans) (homes left : List Run) → Says all homes left → (r : Run) → Among (joined left) r
    → count_by (is_run_of r.number) (joined left) ≤ 1 → HasNoPage homes r.number → Stands all (left_run r)
orphans_stand all homes left says r among few none = record {
  homes = λ p. ap (of_number (number_of r.number)) (says.home p) ∙ none_lent homes (number_of r.number) (key_of p) none;
  orphans = λ p. ap (orphan_of_number (number_of r.number)) (says.orphan p) ∙ go p (find (is_run (key_of p)) left) refl;
}
  where
    own : IsIn left r
    own = among_has (IsIn left) (joined left) r (each_in None left says.left_ascend says.left_single) among

    alone : IsAlone r
    alone = run_alone all homes left says r among

    inside_at : (p : Place) → in_run (holder_of r) (r.end - r.holder_page) p ≡ true → IsRunAt left r (key_of p)
    inside_at p inside =
        let h = in_run-true (holder_of r) (r.end - r.holder_page) p inside in
        let page = alone.page in
        let from = h.from in
        let to = h.to in
        run_at left r own (key_of p) (h.pid ∙ alone.pid) (omega arith) (omega arith)

    go : (p : Place) (o : Option Run) → find (is_run (key_of p)) left ≡ o
        → orphan_of_number (number_of r.number) (option_map orphan_said o) ≡ orphan_of_run (left_run r) p
    go p None e = elim (cases_Bool (in_run (holder_of r) (r.end - r.holder_page) p)) [
      | inl inside ↦ (let at = inside_at p inside in no_none at.page (sym at.found ∙ e))
      | inr outside ↦ sym (orphan_of_run-outside (left_run r) p outside)
    ]
    go p (Some e) found = elim (cases_Bool (eqb e.number r.number)) [
      | inl is ↦ (
          let number = eqb-true e.number r.number is in
          let here = at_place left r says.left_ascend says.left_single among few (key_of p) e found number in
          let at = here.0 in
          let page = alone.page in
          let from = at.from in
          let to = at.to in
          let inside = in_run-from (holder_of r) (r.end - r.holder_page) p (record { pid = at.pid ∙ sym alone.pid; from = omega arith; to = omega arith }) in
          let shared = subst (λ (z : Run). z.shared ≡ r.shared) here.1 at.shared in
          orphan_of_number-at (number_of r.number) (orphan_said e) (ap number_of number)
          ∙ ap (λ (l : OrphanLoan). some l) (orphan_same (orphan_said e) (orphan_said r) (kind_same e r shared) number)
          ∙ sym (orphan_of_run-inside (left_run r) p refl inside)
          )
      | inr isnt ↦ (
          orphan_of_number-apart (number_of r.number) (orphan_said e) (λ same. eqb-false e.number r.number isnt (ap (λ (z : Number). z.0) same))
          ∙ (elim (cases_Bool (in_run (holder_of r) (r.end - r.holder_page) p)) [
            | inl inside ↦ (
                let at = inside_at p inside in
                let same = some_same at.page e (sym at.found ∙ found) in
                absurd (eqb-false e.number r.number isnt (sym (ap (λ (z : Run). z.number) same) ∙ at.number))
                )
            | inr outside ↦ sym (orphan_of_run-outside (left_run r) p outside)
          ])
          )
    ]

-- ---- the pages of a loan that stands

abbrev pub shared_of : LoanKind → Bool
shared_of Shared = true
shared_of Exclusive = false

shared_said : (r : Run) (kind : LoanKind) → kind_said r ≡ kind → r.shared ≡ shared_of kind
shared_said r kind e = own r.shared ∙ ap shared_of e
  where
    own : (b : Bool) → b ≡ shared_of (cond b Shared Exclusive)
    own true = refl
    own false = refl

abbrev pub span_of : Place → Place → LoanRun → Span
span_of first holder r = record {
  pid = first.pid.0;
  page = first.vpn.0;
  count = r.count;
  holder_pid = holder.pid.0;
  holder_page = holder.vpn.0;
  shared = shared_of r.kind;
}

module _ (all : Loans) (homes left : List Run) (says : Says all homes left) (r : LoanRun) (stands : Stands all r) where
  -- a page at a home is one of the loan
  pub of_lender : (from : Place) → r.lender ≡ Some from → IsSpan homes r.number.0 (span_of from r.holder r)
  of_lender from lender = record { inside = inside; there = there }
    where
      inside : (k : ℕ × ℕ) (e : Run) → find (is_run k) homes ≡ Some e → e.number ≡ r.number.0 → IsInside (span_of from r.holder r) k e
      inside k e found is =
          let p : Place = place_at k.0 k.1 in
          let here : all.home p ≡ Some (loan_said e) = says.home p ∙ ap (option_map loan_said) found in
          let own : some (loan_said e) ≡ loan_of_run r p = sym (of_number-at r.number (loan_said e) (ap number_of is))
          ∙ sym (ap (of_number r.number) here) ∙ stands.homes p in
          elim (cases_Bool (in_run from r.count p)) [
            | inl at ↦ (
                let h = in_run-true from r.count p at in
                let same = some_same (loan_said e) (record { holder = moved from r.holder p; kind = r.kind; number = r.number })
                (own ∙ loan_of_run-inside r from p lender at) in
                let low = h.from in
                let page : e.holder_page ≡ r.holder.vpn.0 + (k.1 - from.vpn.0) = ap (λ (l : PageLoan). l.holder.vpn.0) same in
                record {
                  pid = h.pid;
                  from = h.from;
                  to = h.to;
                  holder_pid = ap (λ (l : PageLoan). l.holder.pid.0) same;
                  holder_page = omega arith;
                  shared = shared_said e r.kind (ap (λ (l : PageLoan). l.kind) same);
                }
                )
            | inr out ↦ no_none (loan_said e) (own ∙ loan_of_run-outside r from p lender out)
          ]

      there : (i : ℕ) → i < r.count → (e : Run) × (find (is_run (from.pid.0, from.vpn.0 + i)) homes ≡ Some e) × (e.number ≡ r.number.0)
      there i low =
          let p = place_after from i in
          let own = stands-home all r from p stands lender (in_run-after from r.count i low) in
          let m = mapped loan_said (find (is_run (key_of p)) homes) (record { holder = moved from r.holder p; kind = r.kind; number = r.number })
          (sym (says.home p) ∙ own) in
          (m.0, m.1, ap (λ (l : PageLoan). l.number.0) m.2)

  no_orphan_of_lender : (from : Place) → r.lender ≡ Some from → HasNoPage left r.number.0
  no_orphan_of_lender from lender k e found is =
      let p : Place = place_at k.0 k.1 in
      let here : all.orphan p ≡ Some (orphan_said e) = says.orphan p ∙ ap (option_map orphan_said) found in
      no_none (orphan_said e) (sym (orphan_of_number-at r.number (orphan_said e) (ap number_of is)) ∙ sym (ap (orphan_of_number r.number) here)
      ∙ stands.orphans p ∙ orphan_of_run-lent r from p lender)

  -- an orphan is one of the loan
  pub of_dead : r.lender ≡ None → IsSpan left r.number.0 (span_of r.holder r.holder r)
  of_dead dead = record { inside = inside; there = there }
    where
      inside : (k : ℕ × ℕ) (e : Run) → find (is_run k) left ≡ Some e → e.number ≡ r.number.0 → IsInside (span_of r.holder r.holder r) k e
      inside k e found is =
          let p : Place = place_at k.0 k.1 in
          let here : all.orphan p ≡ Some (orphan_said e) = says.orphan p ∙ ap (option_map orphan_said) found in
          let own : some (orphan_said e) ≡ orphan_of_run r p =
          sym (orphan_of_number-at r.number (orphan_said e) (ap number_of is)) ∙ sym (ap (orphan_of_number r.number) here) ∙ stands.orphans p in
          let alone = found_has IsAlone k left e says.left_alone found in
          let key = run_found k left e found in
          let page = alone.page in
          let own_page : e.page ≡ k.1 = ap (λ (z : ℕ × ℕ). z.1) key in
          elim (cases_Bool (in_run r.holder r.count p)) [
            | inl at ↦ (
                let h = in_run-true r.holder r.count p at in
                let same = some_same (orphan_said e) (record { kind = r.kind; number = r.number }) (own ∙ orphan_of_run-inside r p dead at) in
                record {
                  pid = h.pid;
                  from = h.from;
                  to = h.to;
                  holder_pid = alone.pid ∙ ap (λ (z : ℕ × ℕ). z.0) key ∙ h.pid;
                  holder_page = omega arith;
                  shared = shared_said e r.kind (ap (λ (l : OrphanLoan). l.kind) same);
                }
                )
            | inr out ↦ no_none (orphan_said e) (own ∙ orphan_of_run-outside r p out)
          ]

      there : (i : ℕ) → i < r.count → (e : Run) × (find (is_run (r.holder.pid.0, r.holder.vpn.0 + i)) left ≡ Some e) × (e.number ≡ r.number.0)
      there i low =
          let p = place_after r.holder i in
          let own = orphan_of_number-Some r.number (all.orphan p) (record { kind = r.kind; number = r.number })
          (stands.orphans p ∙ orphan_of_run-inside r p dead (in_run-after r.holder r.count i low)) in
          let m = mapped orphan_said (find (is_run (key_of p)) left) (record { kind = r.kind; number = r.number }) (sym (says.orphan p) ∙ own.0) in
          (m.0, m.1, ap (λ (l : OrphanLoan). l.number.0) m.2)

  no_loan_of_dead : r.lender ≡ None → HasNoPage homes r.number.0
  no_loan_of_dead dead k e found is =
      let p : Place = place_at k.0 k.1 in
      let here : all.home p ≡ Some (loan_said e) = says.home p ∙ ap (option_map loan_said) found in
      no_none (loan_said e) (sym (of_number-at r.number (loan_said e) (ap number_of is)) ∙ sym (ap (of_number r.number) here) ∙ stands.homes p
      ∙ loan_of_run-None r p dead)

  -- one run at most is of its number
  pub stands_once : count_by (is_run_of r.number.0) (joined homes) + count_by (is_run_of r.number.0) (joined left) ≤ 1
  stands_once = go r.lender refl
    where
      go : (lender : Option Place) → r.lender ≡ lender → count_by (is_run_of r.number.0) (joined homes) + count_by (is_run_of r.number.0) (joined left) ≤ 1
      go (Some from) is =
          let few = counted_once homes r.number.0 (span_of from r.holder r) says.homes_ascend says.homes_single (of_lender from is) in
          let none = counted_none left r.number.0 says.left_ascend says.left_single (no_orphan_of_lender from is) in
          omega arith
      go None is =
          let few = counted_once left r.number.0 (span_of r.holder r.holder r) says.left_ascend says.left_single (of_dead is) in
          let none = counted_none homes r.number.0 says.homes_ascend says.homes_single (no_loan_of_dead is) in
          omega arith

-- ---- all numbers

abbrev pub IsOne : Loans → Number → Type 0
IsOne all number = IsFresh all number ⊎ ((r : LoanRun) × (r.number ≡ number) × Stands all r)

module _ (all : Loans) (homes left : List Run) (says : Says all homes left) where
  pub fresh_of : (number : Number) → HasNoPage homes number.0 → HasNoPage left number.0 → IsFresh all number
  fresh_of number no_loan no_orphan = record {
    homes = λ p. ap (of_number number) (says.home p) ∙ none_lent homes number (key_of p) no_loan;
    orphans = λ p. ap (orphan_of_number number) (says.orphan p) ∙ none_left left number (key_of p) no_orphan;
  }

  pub one_of_apart : AreNumbersApart (joined homes) (joined left) → (number : Number) → IsOne all number
  one_of_apart apart number =
      let few = apart number.0 in
      elim (one_or_none number.0 (joined homes)) [
        | inl r ↦ (
            let some = among_counted number.0 (joined homes) r.0 r.1 r.2 in
            let none = no_page left number.0 says.left_ascend says.left_single (omega arith) in
            let once : count_by (is_run_of number.0) (joined homes) ≤ 1 = omega arith in
            inr (
              lent_run r.0,
              ap number_of r.2,
              loans_stand all homes left says r.0 r.1
                  (subst (λ (n : ℕ). count_by (is_run_of n) (joined homes) ≤ 1) (sym r.2) once) (subst (HasNoPage left) (sym r.2) none),
            )
            )
        | inr no_loan ↦ (
            elim (one_or_none number.0 (joined left)) [
              | inl r ↦ (
                  let none = no_page homes number.0 says.homes_ascend says.homes_single no_loan in
                  let once : count_by (is_run_of number.0) (joined left) ≤ 1 = omega arith in
                  inr (
                    left_run r.0,
                    ap number_of r.2,
                    orphans_stand all homes left says r.0 r.1
                        (subst (λ (n : ℕ). count_by (is_run_of n) (joined left) ≤ 1) (sym r.2) once) (subst (HasNoPage homes) (sym r.2) none),
                  )
                  )
              | inr no_orphan ↦ (
                  inl (fresh_of number (no_page homes number.0 says.homes_ascend says.homes_single no_loan)
                  (no_page left number.0 says.left_ascend says.left_single no_orphan))
                  )
            ]
            )
      ]

  fresh_none : (number : Number) → IsFresh all number → count_by (is_run_of number.0) (joined homes) + count_by (is_run_of number.0) (joined left) ≤ 1
  fresh_none number fresh =
      let no_loan = counted_none homes number.0 says.homes_ascend says.homes_single (λ k e found is. (
      let p : Place = place_at k.0 k.1 in
      let here : all.home p ≡ Some (loan_said e) = says.home p ∙ ap (option_map loan_said) found in
      no_none (loan_said e) (sym (of_number-at number (loan_said e) (ap number_of is)) ∙ sym (ap (of_number number) here) ∙ fresh.homes p)
      )) in
      let no_orphan = counted_none left number.0 says.left_ascend says.left_single (λ k e found is. (
      let p : Place = place_at k.0 k.1 in
      let here : all.orphan p ≡ Some (orphan_said e) = says.orphan p ∙ ap (option_map orphan_said) found in
      no_none (orphan_said e) (sym (orphan_of_number-at number (orphan_said e) (ap number_of is)) ∙ sym (ap (orphan_of_number number) here) ∙ fresh.orphans p)
      )) in
      omega arith

  pub apart_of_one : ((number : Number) → IsOne all number) → AreNumbersApart (joined homes) (joined left)
  apart_of_one one n = elim (one (number_of n)) [
    | inl fresh ↦ fresh_none (number_of n) fresh
    | inr r ↦ (
        subst (λ (m : ℕ). count_by (is_run_of m) (joined homes) + count_by (is_run_of m) (joined left) ≤ 1) (ap (λ (z : Number). z.0) r.1)
        (stands_once all homes left says r.0 r.2)
        )
  ]

  pub one_run_told : AreNumbersApart (joined homes) (joined left) ↔ ((number : Number) → IsOne all number)
  one_run_told = (one_of_apart, apart_of_one)
