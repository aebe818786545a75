-- Runs of a loan that are at the same places with the same kind are the same, so that a number has one loan in one state.
use Rattle.std.proofs.Common.{◌≡◌, ℕ, ◌+◌, ◌<◌, ◌≤◌, Bool, true, false, Some, None, refl, sym, ap, ◌∙◌, arith, inl, inr}
use Rattle.std.specs.Prelude.{◌-◌, is_some, if◌then◌else◌}
use Rattle.std.specs.Option.{option_map}
use Rattle.std.proofs.lemmas.Option.{none-some, same_Some}
use Rattle.xk_base.specs.declared.ids.Number.{Number}
use Rattle.xk_base.specs.declared.ids.Place.{Place}
use Rattle.ledger_model.specs.Ledger.{PageLoan}
use Rattle.ledger_model.specs.Loans.{LoanRun, OrphanLoan, loan_of_run, loans, of_number, orphan_of_number, orphan_of_run}
use Rattle.ledger_model.specs.Places.{in_run, moved}
use Rattle.ledger_model.proofs.LedgerLemmas.{cases_Option}
use Rattle.ledger_model.proofs.Loans.OfNumberLemmas.{loan_of_run-None, loan_of_run-inside, loan_of_run-outside, orphan_of_run-inside, orphan_of_run-outside}
use Rattle.ledger_model.proofs.PlaceLemmas.{in_run-from, in_run-true, place_from}
use Rattle.machine_model.specs.Runs.LoanSpan.{IsOut}
use Rattle.machine_model.specs.State.Machine.{Machine}

pub first_in_run : (h : Place) (n : ℕ) → 1 ≤ n → in_run h n h ≡ true
first_in_run h n l = in_run-from h n h (record { pid = refl; from = omega arith; to = omega arith })

-- a run with all places of another begins no later, and ends no earlier
run_within : (h g : Place) (n k : ℕ) → 1 ≤ n → ((p : Place) → in_run h n p ≡ true → in_run g k p ≡ true)
    → (h.pid.0 ≡ g.pid.0) × (g.vpn.0 ≤ h.vpn.0) × (h.vpn.0 + n ≤ g.vpn.0 + k)
run_within h g n k some within =
    let first = in_run-true g k h (within h (first_in_run h n some)) in
    let end : Place = record { pid = h.pid; vpn = record { 0 = h.vpn.0 + n - 1 } } in
    let last = in_run-true g k end (within end (in_run-from h n end (record { pid = refl; from = omega arith; to = omega arith }))) in
    let to : h.vpn.0 + n - 1 < g.vpn.0 + k = last.to in
    (first.pid, first.from, omega arith)

same_places : (h g : Place) (n k : ℕ) → 1 ≤ n → 1 ≤ k → ((p : Place) → in_run h n p ≡ in_run g k p) → (h ≡ g) × (n ≡ k)
same_places h g n k a b same =
    let there = run_within h g n k a (λ p t. sym (same p) ∙ t) in
    let back = run_within g h k n b (λ p t. same p ∙ t) in
    let t1 : g.vpn.0 ≤ h.vpn.0 = there.1 in
    let t2 : h.vpn.0 + n ≤ g.vpn.0 + k = there.2 in
    let b1 : h.vpn.0 ≤ g.vpn.0 = back.1 in
    let b2 : g.vpn.0 + k ≤ h.vpn.0 + n = back.2 in
    (place_from h g there.0 (omega arith), omega arith)

-- ---- runs of loans

pub record SameRun (a b : LoanRun) : Type 0 where
  pub lender : a.lender ≡ b.lender
  pub count : a.count ≡ b.count
  pub kind : a.kind ≡ b.kind
  pub orphaned : a.lender ≡ None → a.holder ≡ b.holder

module _ (a b : LoanRun) (some_a : 1 ≤ a.count) (some_b : 1 ≤ b.count)
    (homes : (p : Place) → option_map (λ loan. loan.kind) (loan_of_run a p) ≡ option_map (λ loan. loan.kind) (loan_of_run b p))
    (orphans : (p : Place) → orphan_of_run a p ≡ orphan_of_run b p) where
  -- where a run with a lender has a page, told by its kind
  by_kind : (r : LoanRun) (from p : Place) → r.lender ≡ Some from
      → option_map (λ loan. loan.kind) (loan_of_run r p) ≡ (if in_run from r.count p then Some r.kind else None)
  by_kind r from p e = go (in_run from r.count p) refl
    where
      go : (c : Bool) → in_run from r.count p ≡ c → option_map (λ loan. loan.kind) (loan_of_run r p) ≡ (if c then Some r.kind else None)
      go true t = ap (option_map (λ loan. loan.kind)) (loan_of_run-inside r from p e t)
      go false f = ap (option_map (λ loan. loan.kind)) (loan_of_run-outside r from p e f)

  some_if : {A : Type 0} → (x : A) (c : Bool) → is_some (if c then Some x else None) ≡ c
  some_if x true = refl
  some_if x false = refl

  lent_both : (h g : Place) → a.lender ≡ Some h → b.lender ≡ Some g → SameRun a b
  lent_both h g e f =
      let told : (p : Place) → (if in_run h a.count p then Some a.kind else None) ≡ (if in_run g b.count p then Some b.kind else None) =
      λ p. sym (by_kind a h p e) ∙ (homes p ∙ by_kind b g p f) in
      let same : (h ≡ g) × (a.count ≡ b.count) =
      same_places h g a.count b.count some_a some_b
      (λ p. sym (some_if a.kind (in_run h a.count p)) ∙ (ap is_some (told p) ∙ some_if b.kind (in_run g b.count p))) in
      record {
        lender = e ∙ (ap Some same.0 ∙ sym f);
        count = same.1;
        kind = kinds (in_run h a.count h) (in_run g b.count h) (first_in_run h a.count some_a)
            (told h);
        orphaned = λ none. absurd (none-some h (sym none ∙ e));
      }
    where
      kinds : (c d : Bool) → c ≡ true → (if c then Some a.kind else None) ≡ (if d then Some b.kind else None) → a.kind ≡ b.kind
      kinds c true t q = same_Some a.kind b.kind (ap (λ b. if b then Some a.kind else None) (sym t) ∙ q)
      kinds c false t q = absurd (none-some a.kind (sym q ∙ ap (λ b. if b then Some a.kind else None) t))

  lent_one : (h : Place) → a.lender ≡ Some h → b.lender ≡ None → SameRun a b
  lent_one h e none =
      absurd (none-some a.kind (ap (option_map (λ loan. loan.kind)) (sym (loan_of_run-None b h none)) ∙ (sym (homes h)
      ∙ (by_kind a h h e ∙ ap (λ c. if c then Some a.kind else None) (first_in_run h a.count some_a)))))

  lent_other : (g : Place) → a.lender ≡ None → b.lender ≡ Some g → SameRun a b
  lent_other g none f =
      absurd (none-some b.kind (ap (option_map (λ loan. loan.kind)) (sym (loan_of_run-None a g none)) ∙ (homes g
      ∙ (by_kind b g g f ∙ ap (λ c. if c then Some b.kind else None) (first_in_run g b.count some_b)))))

  by_orphan : (r : LoanRun) (p : Place) → r.lender ≡ None
      → option_map (λ (loan : OrphanLoan). loan.kind) (orphan_of_run r p) ≡ (if in_run r.holder r.count p then Some r.kind else None)
  by_orphan r p none = go (in_run r.holder r.count p) refl
    where
      go : (c : Bool) → in_run r.holder r.count p ≡ c
          → option_map (λ (loan : OrphanLoan). loan.kind) (orphan_of_run r p) ≡ (if c then Some r.kind else None)
      go true t = ap (option_map (λ (loan : OrphanLoan). loan.kind)) (orphan_of_run-inside r p none t)
      go false f = ap (option_map (λ (loan : OrphanLoan). loan.kind)) (orphan_of_run-outside r p f)

  orphaned_both : a.lender ≡ None → b.lender ≡ None → SameRun a b
  orphaned_both e f =
      let told : (p : Place) → (if in_run a.holder a.count p then Some a.kind else None) ≡ (if in_run b.holder b.count p then Some b.kind else None) =
      λ p. sym (by_orphan a p e) ∙ (ap (option_map (λ (loan : OrphanLoan). loan.kind)) (orphans p) ∙ by_orphan b p f) in
      let same : (a.holder ≡ b.holder) × (a.count ≡ b.count) =
      same_places a.holder b.holder a.count b.count some_a some_b
      (λ p. sym (some_if a.kind (in_run a.holder a.count p)) ∙ (ap is_some (told p) ∙ some_if b.kind (in_run b.holder b.count p))) in
      record {
        lender = e ∙ sym f;
        count = same.1;
        kind = kinds (in_run a.holder a.count a.holder) (in_run b.holder b.count a.holder) (first_in_run a.holder a.count some_a) (told a.holder);
        orphaned = λ none. same.0;
      }
    where
      kinds : (c d : Bool) → c ≡ true → (if c then Some a.kind else None) ≡ (if d then Some b.kind else None) → a.kind ≡ b.kind
      kinds c true t q = same_Some a.kind b.kind (ap (λ b. if b then Some a.kind else None) (sym t) ∙ q)
      kinds c false t q = absurd (none-some a.kind (sym q ∙ ap (λ b. if b then Some a.kind else None) t))

  pub same_run : SameRun a b
  same_run = elim (cases_Option a.lender) [
    | inl none ↦ elim (cases_Option b.lender) [
      | inl nobody ↦ orphaned_both none nobody
      | inr g ↦ lent_other g.0 none g.1
    ]
    | inr h ↦ elim (cases_Option b.lender) [
      | inl nobody ↦ lent_one h.0 h.1 nobody
      | inr g ↦ lent_both h.0 g.0 h.1 g.1
    ]
  ]

-- ---- one loan in one state

module _ (m : Machine) (number : Number) (a b : LoanRun) (x : IsOut number m a) (y : IsOut number m b) where
  homes_same : (p : Place) → loan_of_run a p ≡ loan_of_run b p
  homes_same p =
      sym (x.stands.homes p)
      ∙ (ap (λ n. of_number n ((loans m.ledger).home p)) (x.numbered ∙ sym y.numbered) ∙ y.stands.homes p)

  orphans_same : (p : Place) → orphan_of_run a p ≡ orphan_of_run b p
  orphans_same p =
      sym (x.stands.orphans p)
      ∙ (ap (λ n. orphan_of_number n ((loans m.ledger).orphan p)) (x.numbered ∙ sym y.numbered) ∙ y.stands.orphans p)

  same : SameRun a b
  same = same_run a b x.some y.some (λ p. ap (option_map (λ loan. loan.kind)) (homes_same p)) orphans_same

  holder_moved : (p : Place) (r : LoanRun) → moved p r.holder p ≡ r.holder
  holder_moved p r = place_from (moved p r.holder p) r.holder refl (omega arith)

  same_holder : a.holder ≡ b.holder
  same_holder = elim (cases_Option a.lender) [
    | inl none ↦ same.orphaned none
    | inr h ↦
        let here : Some (record { holder = moved h.0 a.holder h.0; kind = a.kind; number = a.number })
        ≡ Some (record { holder = moved h.0 b.holder h.0; kind = b.kind; number = b.number }) =
        sym (loan_of_run-inside a h.0 h.0 h.1 (first_in_run h.0 a.count x.some))
        ∙ (homes_same h.0 ∙ loan_of_run-inside b h.0 h.0 (sym same.lender ∙ h.1) (first_in_run h.0 b.count y.some)) in
        sym (holder_moved h.0 a)
        ∙ (ap (λ (loan : PageLoan). loan.holder)
        (same_Some (record { holder = moved h.0 a.holder h.0; kind = a.kind; number = a.number })
        (record { holder = moved h.0 b.holder h.0; kind = b.kind; number = b.number }) here)
        ∙ holder_moved h.0 b)
  ]

  pub one_loan : a ≡ b
  one_loan = λ i. record {
    lender = same.lender i;
    holder = same_holder i;
    count = same.count i;
    kind = same.kind i;
    number = (x.numbered ∙ sym y.numbered) i;
  }
