-- From the fates of single steps to a stretch of states: a loan that is out before and after is out between, and is kept.
use Rattle.std.proofs.Common.{◌≡◌, ℕ, zero, suc, ◌+◌, ◌-◌, ◌<◌, ◌≤◌, Bool, true, false, Some, refl, sym, ap, ◌∙◌, arith, inl, inr, subst}
use Rattle.std.proofs.lemmas.Bool.{cases_lt, false≢true}
use Rattle.xk_base.specs.declared.ids.Number.{Number}
use Rattle.xk_base.specs.declared.ids.Place.{Place}
use Rattle.xk_base.specs.declared.pages.LoanKind.{LoanKind}
use Rattle.xk_base.specs.declared.pages.LoanKind.TheVariants.{Exclusive, Shared}
use Rattle.ledger_model.specs.Loans.{LoanRun}
use Rattle.machine_model.specs.Runs.LoanSpan.{IsIn, IsOut, Opens, page_bytes, page_right}
use Rattle.machine_model.specs.Runs.Matched.{Matched}
use Rattle.machine_model.specs.Runs.Moments.{Moment}
use Rattle.machine_model.specs.State.Machine.{Machine}
use Rattle.machine_model.proofs.Matching.MatchedLemmas.{number_is_fresh}
use Rattle.machine_model.proofs.Runs.SpanLemmas.{not_both, out_or_in}
use Rattle.loan_laws.specs.Fates.{Fate, IsKept}
use Rattle.loan_laws.proofs.Leaving.SameRunLemmas.{one_loan}

-- ---- a number that is out was taken

pub out_is_low : (m : Machine) (number : Number) (a : LoanRun) → Matched m → IsOut number m a → number.0 < m.next_number
out_is_low m number a h out = elim (cases_lt number.0 m.next_number) [
  | inl low ↦ low
  | inr high ↦ absurd (not_both m number a (number_is_fresh m h number high) out)
]

-- ---- what stays of a loan from one state to another

pub record IsSpanned (m n : Machine) (a b : LoanRun) : Type 0 where
  pub kind : a.kind ≡ b.kind
  pub count : a.count ≡ b.count
  pub lender : (home : Place) → b.lender ≡ Some home → a.lender ≡ Some home
  pub rights : (home : Place) (k : ℕ) → b.lender ≡ Some home → k < a.count → page_right m a k ≡ page_right n b k
  pub bytes : (k : ℕ) → a.kind ≡ Shared → k < a.count → page_bytes m a k ≡ page_bytes n b k

is_shared : LoanKind → Bool
is_shared Shared = true
is_shared Exclusive = false

not_exclusive : {A : Type 0} → (kind : LoanKind) → kind ≡ Shared → kind ≡ Exclusive → A
unfolding is_shared
not_exclusive kind e f = absurd (false≢true (sym (ap is_shared f) ∙ ap is_shared e))

spanned_itself : (m : Machine) (a : LoanRun) → IsSpanned m m a a
spanned_itself m a = record { kind = refl; count = refl; lender = λ home e. e; rights = λ home k e low. refl; bytes = λ k e low. refl }

spanned_both : (m n o : Machine) (a b c : LoanRun) → IsSpanned m n a b → IsSpanned n o b c → IsSpanned m o a c
spanned_both m n o a b c x y = record {
  kind = x.kind ∙ y.kind;
  count = x.count ∙ y.count;
  lender = λ home e. x.lender home (y.lender home e);
  rights = λ home k e low. x.rights home k (y.lender home e) low ∙ y.rights home k e (let same : a.count ≡ b.count = x.count in omega arith);
  bytes = λ k e low. x.bytes k e low ∙ y.bytes k (sym x.kind ∙ e) (let same : a.count ≡ b.count = x.count in omega arith);
}

kept_spans : (number : Number) (m : Machine) (moment : Moment) (a b : LoanRun) → IsKept number m moment a b → IsSpanned m moment.machine a b
kept_spans number m moment a b kept = record {
  kind = kept.kind;
  count = kept.count;
  lender = kept.lender;
  rights = kept.rights;
  bytes = λ k e low. elim (kept.bytes k low) [
    | inl same ↦ same
    | inr other ↦ not_exclusive a.kind e other.0
  ];
}

-- ---- a stretch of states

-- what leads from a state to the next
pub record HasNext (number : Number) (m n : Machine) : Type 0 where
  pub moment : Moment
  pub leads : moment.machine ≡ n
  pub fate : Fate number m moment

module _ (number : Number) (s : ℕ → Machine) (len : ℕ) (matched : (i : ℕ) → Matched (s i))
    (next : (i : ℕ) → i < len → HasNext number (s i) (s (suc i))) where
  -- the next number never falls
  one_climbs : (i : ℕ) → i < len → (s i).next_number ≤ (s (suc i)).next_number
  one_climbs i low = let at = next i low in subst (λ (m : Machine). (s i).next_number ≤ m.next_number) at.leads at.fate.climbs

  climbs : (i n : ℕ) → i + n ≤ len → (s i).next_number ≤ (s (i + n)).next_number
  climbs i zero low = subst (λ j. (s i).next_number ≤ (s j).next_number) (same_sum i) (at_least (s i).next_number)
    where
      same_sum : (i : ℕ) → i ≡ i + 0
      same_sum i = omega arith

      at_least : (a : ℕ) → a ≤ a
      at_least a = omega arith
  climbs i (suc n) low =
      let before : (s i).next_number ≤ (s (i + n)).next_number = climbs i n (omega arith) in
      let step : (s (i + n)).next_number ≤ (s (suc (i + n))).next_number = one_climbs (i + n) (omega arith) in
      subst (λ j. (s i).next_number ≤ (s j).next_number) (next_sum i n) (omega (arith, before, step))
    where
      next_sum : (i n : ℕ) → suc (i + n) ≡ i + suc n
      next_sum i n = omega arith

  climbs_to : (i j : ℕ) → i ≤ j → j ≤ len → (s i).next_number ≤ (s j).next_number
  climbs_to i j low high = subst (λ k. (s i).next_number ≤ (s k).next_number) (there i j low) (climbs i (j - i) (omega arith))
    where
      there : (i j : ℕ) → i ≤ j → i + (j - i) ≡ j
      there i j low = omega arith

  -- a number that was taken and is in stays in
  one_stays_in : (i : ℕ) → i < len → number.0 < (s i).next_number → IsIn number (s i) → IsIn number (s (suc i))
  one_stays_in i low taken fresh = elim (out_or_in (s (suc i)) number (matched (suc i))) [
    | inl stays ↦ stays
    | inr out ↦
        let at = next i low in
        let opened : Opens number out.0 (s i) at.moment =
        at.fate.opens out.0 fresh (subst (λ m. IsOut number m out.0) (sym at.leads) out.1) in
        let same : number.0 ≡ (s i).next_number = ap (λ (k : Number). k.0) opened.number_taken in
        absurd (omega arith)
  ]

  stays_in : (i n : ℕ) → i + n ≤ len → number.0 < (s i).next_number → IsIn number (s i) → IsIn number (s (i + n))
  stays_in i zero low taken fresh = subst (λ j. IsIn number (s j)) (same_sum i) fresh
    where
      same_sum : (i : ℕ) → i ≡ i + 0
      same_sum i = omega arith
  stays_in i (suc n) low taken fresh =
      let up : (s i).next_number ≤ (s (i + n)).next_number = climbs i n (omega arith) in
      subst (λ j. IsIn number (s j)) (next_sum i n)
      (one_stays_in (i + n) (omega arith) (omega arith) (stays_in i n (omega arith) taken fresh))
    where
      next_sum : (i n : ℕ) → suc (i + n) ≡ i + suc n
      next_sum i n = omega arith

  -- so that it is out between two states in which it is out
  pub out_between : (i j k : ℕ) (a c : LoanRun) → i ≤ j → j ≤ k → k ≤ len → IsOut number (s i) a → IsOut number (s k) c
      → (b : LoanRun) × IsOut number (s j) b
  out_between i j k a c low high end x y = elim (out_or_in (s j) number (matched j)) [
    | inr out ↦ out
    | inl fresh ↦
        let taken : number.0 < (s i).next_number = out_is_low (s i) number a (matched i) x in
        let up : (s i).next_number ≤ (s j).next_number = climbs_to i j low (omega arith) in
        absurd (not_both (s k) number c
        (subst (λ l. IsIn number (s l)) (there j k high) (stays_in j (k - j) (omega arith) (omega arith) fresh)) y)
  ]
    where
      there : (j k : ℕ) → j ≤ k → j + (k - j) ≡ k
      there j k high = omega arith

  -- ---- and is kept between them

  one_spans : (i : ℕ) → i < len → (a b : LoanRun) → IsOut number (s i) a → IsOut number (s (suc i)) b → IsSpanned (s i) (s (suc i)) a b
  one_spans i low a b x y =
      let at = next i low in
      subst (λ m. IsSpanned (s i) m a b) at.leads
      (kept_spans number (s i) at.moment a b (at.fate.keeps a b x (subst (λ m. IsOut number m b) (sym at.leads) y)))

  spans : (i n : ℕ) → i + n ≤ len → (a b : LoanRun) → IsOut number (s i) a → IsOut number (s (i + n)) b → IsSpanned (s i) (s (i + n)) a b
  spans i zero low a b x y =
      subst (λ j. IsOut number (s j) b → IsSpanned (s i) (s j) a b) (same_sum i)
      (λ z. subst (λ r. IsSpanned (s i) (s i) a r) (one_loan (s i) number a b x z) (spanned_itself (s i) a)) y
    where
      same_sum : (i : ℕ) → i ≡ i + 0
      same_sum i = omega arith
  spans i (suc n) low a b x y =
      let c = out_between i (i + n) (i + suc n) a b (omega arith) (omega arith) low x y in
      let z : IsOut number (s (suc (i + n))) b = subst (λ j. IsOut number (s j) b) (sum_next i n) y in
      subst (λ j. IsSpanned (s i) (s j) a b) (sym (sum_next i n))
      (spanned_both (s i) (s (i + n)) (s (suc (i + n))) a c.0 b (spans i n (omega arith) a c.0 x c.1) (one_spans (i + n) (omega arith) c.0 b c.1 z))
    where
      sum_next : (i n : ℕ) → i + suc n ≡ suc (i + n)
      sum_next i n = omega arith

  pub spans_to : (i j : ℕ) (a b : LoanRun) → i ≤ j → j ≤ len → IsOut number (s i) a → IsOut number (s j) b → IsSpanned (s i) (s j) a b
  spans_to i j a b low high x y =
      subst (λ k. IsOut number (s k) b → IsSpanned (s i) (s k) a b) (there i j low)
      (λ z. spans i (j - i) (omega arith) a b x z) y
    where
      there : (i j : ℕ) → i ≤ j → i + (j - i) ≡ j
      there i j low = omega arith
