-- Every number of a run from a matched state has its span, where each cause keeps the machine matched and each number has its fate.
use Rattle.std.proofs.Common.{◌≡◌, ℕ, zero, suc, ◌<◌, ◌≤◌, ◌⊎◌, true, List, [], ◌∷◌, get_or, length, Some, sym, ap, ◌∙◌, arith, inl, inr, subst}
use Rattle.std.specs.Prelude.{slice_get}
use Rattle.std.specs.Option.{option_map, option_map_or}
use Rattle.std.proofs.lemmas.Bool.{cases_lt}
use Rattle.std.proofs.lemmas.Option.{none-some, same_Some, slice_get-get_or, slice_get_past}
use Rattle.xk_base.specs.declared.ids.Number.{Number}
use Rattle.xk_base.specs.declared.ids.Place.{Place}
use Rattle.xk_base.specs.declared.pages.LoanKind.TheVariants.{Exclusive, Shared}
use Rattle.ledger_model.specs.Ledger.{Homed, Ledger, Orphaned, Page, PageLoan, contents_of}
use Rattle.ledger_model.specs.Loans.{LoanRun}
use Rattle.ledger_model.specs.Places.{place_after}
use Rattle.ledger_model.proofs.LedgerLemmas.{loan_at-page}
use Rattle.ledger_model.proofs.OwnerLemmas.{stands_home_at}
use Rattle.machine_model.specs.Runs.Kept.{AllKeepMatched}
use Rattle.machine_model.specs.Runs.LoanSpan.{IsIn, IsInstructionOf, IsOut, LoanSpan, Opens, SpansHold, page_bytes, page_name, page_right, right_of_name, unlent}
use Rattle.machine_model.specs.Runs.Matched.{Matched, is_living}
use Rattle.machine_model.specs.Runs.Moments.{ByTurn, IsRun, Moment, caused, state_at}
use Rattle.machine_model.specs.State.Machine.{Machine}
use Rattle.machine_model.proofs.Runs.KeptLemmas.{run_keeps}
use Rattle.machine_model.proofs.Runs.SpanLemmas.{not_both, out_or_in}
use Rattle.loan_laws.specs.Fates.{AllHaveFates, Fate}
use Rattle.loan_laws.proofs.Spans.SpanInductionLemmas.{HasNext, IsSpanned, out_between, spans_to}

-- ---- the states of a run

-- what a moment of a run is
record IsMoment (start : Machine) (moments : List Moment) (i : ℕ) (moment : Moment) : Type 0 where
  now : state_at start moments (suc i) ≡ moment.machine
  leads : moment.machine ≡ caused moment.cause (state_at start moments i)
  low : i < length moments

is_moment : (start : Machine) (moments : List Moment) (i : ℕ) (moment : Moment) → IsRun start moments → slice_get moments i ≡ Some moment
    → IsMoment start moments i moment
unfolding IsRun state_at
is_moment start [] i moment run e = absurd (none-some moment (sym (slice_get_past [] i (omega arith)) ∙ e))
is_moment start (first ∷ moments) zero moment run e =
    let same : first ≡ moment = same_Some first moment e in
    record {
      now = ap (λ (m : Moment). m.machine) same;
      leads = subst (λ (m : Moment). m.machine ≡ caused m.cause start) same run.0;
      low = omega arith;
    }
is_moment start (first ∷ moments) (suc i) moment run e =
    let later : IsMoment first.machine moments i moment = is_moment first.machine moments i moment run.1 e in
    let low : i < length moments = later.low in
    record { now = later.now; leads = later.leads; low = omega arith }

-- ---- a page of a loan in one state

-- the page that stands at its home
page_there : (m : Machine) (number : Number) (a : LoanRun) (home : Place) (k : ℕ) → IsOut number m a → a.lender ≡ Some home → k < a.count
    → (page : Page) × (m.ledger.home (place_after home k) ≡ Some page)
page_there m number a home k out lender low =
    let loan : PageLoan = record { holder = place_after a.holder k; kind = a.kind; number = a.number } in
    let page = loan_at-page m.ledger (place_after home k) loan (stands_home_at m.ledger a home k out.stands lender low) in
    (page.0, page.1)

at_home : (a : LoanRun) (home : Place) (k : ℕ) → a.lender ≡ Some home → page_name a k ≡ Homed (place_after home k)
at_home a home k e = ap (λ o. option_map_or (λ from. Homed (place_after from k)) o (Orphaned (place_after a.holder k))) e

bytes_there : (l : Ledger) (a : LoanRun) (home : Place) (k : ℕ) (page : Page) → a.lender ≡ Some home → l.home (place_after home k) ≡ Some page
    → contents_of l (page_name a k) ≡ Some page.contents
bytes_there l a home k page e there = ap (contents_of l) (at_home a home k e) ∙ ap (option_map (λ page. page.contents)) there

right_there : (l : Ledger) (a : LoanRun) (home : Place) (k : ℕ) (page : Page) → a.lender ≡ Some home → l.home (place_after home k) ≡ Some page
    → right_of_name l (page_name a k) ≡ Some page.right
right_there l a home k page e there = ap (right_of_name l) (at_home a home k e) ∙ ap (option_map (λ page. page.right)) there

-- just before a loan opens each of its pages has the same bytes and the same right
record IsAsOpened (m n : Machine) (a : LoanRun) (k : ℕ) : Type 0 where
  bytes : page_bytes m a k ≡ page_bytes n a k
  right : page_right m a k ≡ page_right n a k

as_opened : (number : Number) (m : Machine) (moment : Moment) (a : LoanRun) (k : ℕ) → Opens number a m moment → IsOut number moment.machine a
    → k < a.count → IsAsOpened m moment.machine a k
as_opened number m moment a k opened out low =
    let page = page_there moment.machine number a opened.home k out opened.lender low in
    let before : m.ledger.home (place_after opened.home k) ≡ Some (unlent page.0) = opened.pages k page.0 low page.1 in
    record {
      bytes = bytes_there m.ledger a opened.home k (unlent page.0) opened.lender before
          ∙ sym (bytes_there moment.machine.ledger a opened.home k page.0 opened.lender page.1);
      right = right_there m.ledger a opened.home k (unlent page.0) opened.lender before
          ∙ sym (right_there moment.machine.ledger a opened.home k page.0 opened.lender page.1);
    }

-- ---- the span

module _ (keeps : AllKeepMatched) (fates : AllHaveFates) (start : Machine) (moments : List Moment) (number : Number) (h : Matched start)
    (run : IsRun start moments) where
  abbrev s : ℕ → Machine
  s i = state_at start moments i

  matched : (i : ℕ) → Matched (s i)
  matched i = run_keeps keeps start moments h run i

  moment_at : (i : ℕ) (moment : Moment) → slice_get moments i ≡ Some moment → IsMoment start moments i moment
  moment_at i moment e = is_moment start moments i moment run e

  fate_at : (i : ℕ) (moment : Moment) → slice_get moments i ≡ Some moment → Fate number (s i) moment
  fate_at i moment e =
      let at = moment_at i moment e in
      subst (λ (x : Moment). Fate number (s i) x) (λ j. record { cause = moment.cause; machine = sym at.leads j })
      (fates moment.cause (s i) number (matched i))

  next : (i : ℕ) → i < length moments → HasNext number (s i) (s (suc i))
  next i low =
      let moment : Moment = get_or moments i (record { cause = ByTurn; machine = start }) in
      let there : slice_get moments i ≡ Some moment = slice_get-get_or moments i (record { cause = ByTurn; machine = start }) low in
      record { moment = moment; leads = sym (moment_at i moment there).now; fate = fate_at i moment there }

  unbroken_span : (i j k : ℕ) (a c : LoanRun) → i ≤ j → j ≤ k → k ≤ length moments → IsOut number (s i) a → IsOut number (s k) c
      → (b : LoanRun) × IsOut number (s j) b
  unbroken_span i j k a c low high end x y = out_between number s (length moments) matched next i j k a c low high end x y

  spanned : (i j : ℕ) (a b : LoanRun) → i ≤ j → j ≤ length moments → IsOut number (s i) a → IsOut number (s j) b → IsSpanned (s i) (s j) a b
  spanned i j a b low high x y = spans_to number s (length moments) matched next i j a b low high x y

  -- the first of two states is before the other or not
  either_order : (i j : ℕ) → (i ≤ j) ⊎ (j ≤ i)
  either_order i j = elim (cases_lt i j) [
    | inl low ↦ inl (omega arith)
    | inr high ↦ inr high
  ]

  kind_stays : (i j : ℕ) (a b : LoanRun) → i ≤ length moments → j ≤ length moments → IsOut number (s i) a → IsOut number (s j) b
      → (a.kind ≡ b.kind) × (a.count ≡ b.count)
  kind_stays i j a b le lf x y = elim (either_order i j) [
    | inl low ↦ let kept = spanned i j a b low lf x y in (kept.kind, kept.count)
    | inr low ↦ let kept = spanned j i b a low le y x in (sym kept.kind, sym kept.count)
  ]

  homes_stay : (i j : ℕ) (a b : LoanRun) (p q : Place) → i ≤ length moments → j ≤ length moments → IsOut number (s i) a → IsOut number (s j) b
      → a.lender ≡ Some p → b.lender ≡ Some q → p ≡ q
  homes_stay i j a b p q le lf x y e f = elim (either_order i j) [
    | inl low ↦ same_Some p q (sym e ∙ (spanned i j a b low lf x y).lender q f)
    | inr low ↦ same_Some p q (sym ((spanned j i b a low le y x).lender p e) ∙ f)
  ]

  rights_stay : (i j k : ℕ) (a b : LoanRun) (p q : Place) → i ≤ length moments → j ≤ length moments → IsOut number (s i) a
      → IsOut number (s j) b → a.lender ≡ Some p → b.lender ≡ Some q → k < a.count → page_right (s i) a k ≡ page_right (s j) b k
  rights_stay i j k a b p q le lf x y e f small = elim (either_order i j) [
    | inl low ↦ (spanned i j a b low lf x y).rights q k f small
    | inr low ↦
        let kept = spanned j i b a low le y x in
        let count : b.count ≡ a.count = kept.count in
        sym (kept.rights p k e (omega (arith, count, small)))
  ]

  shared_stays : (i j k : ℕ) (a b : LoanRun) → i ≤ length moments → j ≤ length moments → IsOut number (s i) a → IsOut number (s j) b
      → a.kind ≡ Shared → k < a.count → page_bytes (s i) a k ≡ page_bytes (s j) b k
  shared_stays i j k a b le lf x y e small = elim (either_order i j) [
    | inl low ↦ (spanned i j a b low lf x y).bytes k e small
    | inr low ↦
        let kept = spanned j i b a low le y x in
        let count : b.count ≡ a.count = kept.count in
        sym (kept.bytes k (kept.kind ∙ e) (omega (arith, count, small)))
  ]

  -- the state after a moment
  after : (i : ℕ) (moment : Moment) (a : LoanRun) → slice_get moments i ≡ Some moment → IsOut number moment.machine a → IsOut number (s (suc i)) a
  after i moment a e out = subst (λ m. IsOut number m a) (sym (moment_at i moment e).now) out

  opened_at : (i k : ℕ) (first : Moment) (a : LoanRun) → slice_get moments i ≡ Some first → IsIn number (s i) → IsOut number first.machine a
      → k < a.count → IsAsOpened (s i) (s (suc i)) a k
  opened_at i k first a e fresh out low =
      subst (λ m. IsAsOpened (s i) m a k) (sym (moment_at i first e).now)
      (as_opened number (s i) first a k ((fate_at i first e).opens a fresh out) out low)

  shared_as_before : (i j k : ℕ) (first : Moment) (a b : LoanRun) → slice_get moments i ≡ Some first → j ≤ length moments
      → IsIn number (s i) → IsOut number first.machine a → IsOut number (s j) b → a.kind ≡ Shared → k < a.count
      → page_bytes (s i) a k ≡ page_bytes (s j) b k
  shared_as_before i j k first a b there high fresh out y e low =
      let small : i < length moments = (moment_at i first there).low in
      (opened_at i k first a there fresh out low).bytes
      ∙ shared_stays (suc i) j k a b (omega arith) high (after i first a there out) y e low

  exclusive_by_holder : (i k : ℕ) (moment : Moment) (a b : LoanRun) → slice_get moments i ≡ Some moment → IsOut number (s i) a
      → IsOut number moment.machine b → a.kind ≡ Exclusive → k < a.count
      → (page_bytes (s i) a k ≡ page_bytes moment.machine b k) ⊎ IsInstructionOf a.holder.pid (s i) moment
  exclusive_by_holder i k moment a b there x y e low = elim (((fate_at i moment there).keeps a b x y).bytes k low) [
    | inl same ↦ inl same
    | inr other ↦ inr other.1
  ]

  right_given_back : (i j k : ℕ) (first last : Moment) (a b : LoanRun) (home : Place) → slice_get moments i ≡ Some first
      → IsIn number (s i) → IsOut number first.machine a → slice_get moments j ≡ Some last → IsOut number (s j) b → IsIn number last.machine
      → b.lender ≡ Some home → is_living last.machine home.pid ≡ true → k < b.count
      → page_right last.machine b k ≡ page_right (s i) b k
  right_given_back i j k first last a b home there fresh opened ends y gone lender lives low = elim (cases_lt i j) [
    | inl early ↦ by_span (omega arith)
    | inr late ↦
        let small : i < length moments = (moment_at i first there).low in
        let between = unbroken_span j i (suc i) b a late (omega arith) (omega arith) y (after i first a there opened) in
        absurd (not_both (s i) number between.0 fresh between.1)
  ]
    where
      by_span : suc i ≤ j → page_right last.machine b k ≡ page_right (s i) b k
      by_span early =
          let high : j < length moments = (moment_at j last ends).low in
          let kept = spanned (suc i) j a b early (omega arith) (after i first a there opened) y in
          let count : a.count ≡ b.count = kept.count in
          let small : k < a.count = omega arith in
          let was : a.lender ≡ Some home = kept.lender home lender in
          let page = page_there (s j) number b home k y lender low in
          let back : last.machine.ledger.home (place_after home k) ≡ Some (unlent page.0) =
          (fate_at j last ends).gives_back b y gone home k page.0 lender lives low page.1 in
          right_there last.machine.ledger b home k (unlent page.0) lender back
          ∙ (sym (right_there (s j).ledger b home k page.0 lender page.1)
          ∙ (sym (kept.rights home k lender small)
          ∙ (sym (opened_at i k first a there fresh opened small).right
          ∙ (ap (right_of_name (s i).ledger) (at_home a home k was) ∙ sym (ap (right_of_name (s i).ledger) (at_home b home k lender))))))

  pub loan_span : LoanSpan start moments number
  loan_span = record {
    in_or_out = λ i low. out_or_in (s i) number (matched i);
    unbroken = unbroken_span;
    opens = λ i moment loan there fresh out. (fate_at i moment there).opens loan fresh out;
    kind = kind_stays;
    homes = homes_stay;
    rights = rights_stay;
    holders = λ i moment a b there x y. ((fate_at i moment there).keeps a b x y).holder;
    shared = shared_stays;
    as_before = shared_as_before;
    exclusive = exclusive_by_holder;
    ends = λ i moment loan there out gone. (fate_at i moment there).ends loan out gone;
    gives_back = λ i k last loan home page there out gone lender lives low at.
        (fate_at i last there).gives_back loan out gone home k page lender lives low at;
    right_back = right_given_back;
  }

pub spans_hold : AllKeepMatched → AllHaveFates → SpansHold
spans_hold keeps fates start moments number h run = loan_span keeps fates start moments number h run
