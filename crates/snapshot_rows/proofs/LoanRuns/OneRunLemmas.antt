-- Where the pages of a number are one run, one run is of that number; and where at most one run is, its pages are one run.
use Rattle.std.proofs.Common.{◌≡◌, ℕ, ◌+◌, ◌-◌, ◌≤◌, ◌<◌, Bool, false, List, [], ◌∷◌, Option, Some, None, refl, sym, ap, subst, ◌∙◌, arith, inl, inr, ◌⊎◌}
use Rattle.std.specs.List.{find, count_by, AllByRecursion}
use Rattle.std.proofs.lemmas.Bool.{cases_Bool, eqb-true, eq-eqb}
use Rattle.snapshot_rows.specs.declared.runs.Run.{Run}
use Rattle.snapshot_rows.specs.RunParts.{joined, is_run_of}
use Rattle.snapshot_rows.proofs.Keys.CountLemmas.{count_yes, count_no, count_none}
use Rattle.snapshot_rows.proofs.KeyLemmas.{Less, less_through, less_behind, some_same}
use Rattle.snapshot_rows.proofs.LoanRuns.RunLemmas.{run_key, is_run, Ascending, IsSingle, IsIn, IsFirst, Among, each_in, each_first}
use Rattle.snapshot_rows.proofs.LoanRuns.RunLemmas.{each_covered, runs_ascend}

-- ---- runs of a list

pub among_has : (P : Run → Type 0) (runs : List Run) (r : Run) → AllByRecursion P runs → Among runs r → P r
among_has P [] r all in_none = absurd in_none
among_has P (s ∷ runs) r all (inl same) = subst P same all.0
among_has P (s ∷ runs) r all (inr later) = among_has P runs r all.1 later

pub among_counted : (n : ℕ) (runs : List Run) (r : Run) → Among runs r → r.number ≡ n → 1 ≤ count_by (is_run_of n) runs
among_counted n [] r in_none is = absurd in_none
among_counted n (s ∷ runs) r (inl same) is =
    let one = count_yes (is_run_of n) s runs (eq-eqb s.number n (ap (λ (z : Run). z.number) same ∙ is)) in
    omega arith
among_counted n (s ∷ runs) r (inr later) is =
    let some = among_counted n runs r later is in
    elim (cases_Bool (is_run_of n s)) [
      | inl does ↦ (let one = count_yes (is_run_of n) s runs does in omega arith)
      | inr doesnt ↦ (let same = count_no (is_run_of n) s runs doesnt in omega arith)
    ]

-- of those of a number there is one
pub among_one : (n : ℕ) (runs : List Run) (a b : Run) → Among runs a → Among runs b → a.number ≡ n → b.number ≡ n → count_by (is_run_of n) runs ≤ 1 → a ≡ b
among_one n [] a b in_none other p q few = absurd in_none
among_one n (s ∷ runs) a b (inl one) (inl two) p q few = sym one ∙ two
among_one n (s ∷ runs) a b (inl one) (inr two) p q few =
    let first = count_yes (is_run_of n) s runs (eq-eqb s.number n (ap (λ (z : Run). z.number) one ∙ p)) in
    let more = among_counted n runs b two q in
    absurd (omega arith)
among_one n (s ∷ runs) a b (inr one) (inl two) p q few =
    let first = count_yes (is_run_of n) s runs (eq-eqb s.number n (ap (λ (z : Run). z.number) two ∙ q)) in
    let more = among_counted n runs a one p in
    absurd (omega arith)
among_one n (s ∷ runs) a b (inr one) (inr two) p q few =
    among_one n runs a b one two p q (elim (cases_Bool (is_run_of n s)) [
      | inl does ↦ (let first = count_yes (is_run_of n) s runs does in omega arith)
      | inr doesnt ↦ (let same = count_no (is_run_of n) s runs doesnt in omega arith)
    ])

-- one is of the number, or none is
pub one_or_none : (n : ℕ) (runs : List Run) → ((r : Run) × Among runs r × (r.number ≡ n)) ⊎ (count_by (is_run_of n) runs ≡ 0)
one_or_none n [] = inr refl
one_or_none n (s ∷ runs) = elim (cases_Bool (is_run_of n s)) [
  | inl does ↦ inl (s, inl refl, eqb-true s.number n does)
  | inr doesnt ↦ elim (one_or_none n runs) [
    | inl r ↦ inl (r.0, inr r.1, r.2)
    | inr none ↦ inr (count_no (is_run_of n) s runs doesnt ∙ none)
  ]
]

-- ---- the pages of a number

abbrev pub HasNoPage : List Run → ℕ → Type 0
HasNoPage rows n = (k : ℕ × ℕ) (e : Run) → find (is_run k) rows ≡ Some e → e.number ≡ n → ⊥

-- the places of a run, and what stands at one of them
pub record Span : Type 0 where
  pub pid : ℕ
  pub page : ℕ
  pub count : ℕ
  pub holder_pid : ℕ
  pub holder_page : ℕ
  pub shared : Bool

pub record IsInside (s : Span) (k : ℕ × ℕ) (e : Run) : Type 0 where
  pub pid : k.0 ≡ s.pid
  pub from : s.page ≤ k.1
  pub to : k.1 < s.page + s.count
  pub holder_pid : e.holder_pid ≡ s.holder_pid
  pub holder_page : e.holder_page + s.page ≡ s.holder_page + k.1
  pub shared : e.shared ≡ s.shared

pub record IsSpan (rows : List Run) (n : ℕ) (s : Span) : Type 0 where
  pub inside : (k : ℕ × ℕ) (e : Run) → find (is_run k) rows ≡ Some e → e.number ≡ n → IsInside s k e
  pub there : (i : ℕ) → i < s.count → (e : Run) × (find (is_run (s.pid, s.page + i)) rows ≡ Some e) × (e.number ≡ n)

-- ---- where there is no page, no run is of the number

no_run : (rows : List Run) (n : ℕ) → HasNoPage rows n → (runs : List Run) → AllByRecursion (IsIn rows) runs → AllByRecursion (λ r. is_run_of n r ≡ false) runs
no_run rows n none [] own = tt
no_run rows n none (r ∷ runs) own = (
  elim (cases_Bool (is_run_of n r)) [
    | inl does ↦ (
        let some = own.0.some in
        let a = own.0.at 0 (omega arith) in
        absurd (none (r.pid, r.page + 0) a.page a.found (a.number ∙ eqb-true r.number n does))
        )
    | inr doesnt ↦ doesnt
  ],
  no_run rows n none runs own.1,
)

pub counted_none : (rows : List Run) (n : ℕ) → Ascending None rows → AllByRecursion IsSingle rows → HasNoPage rows n → count_by (is_run_of n) (joined rows) ≡ 0
counted_none rows n forms single none = count_none (is_run_of n) (joined rows) (no_run rows n none (joined rows) (each_in None rows forms single))

-- ---- where the pages are a span, at most one run is of the number

clash : (rows : List Run) (n : ℕ) (s : Span) (a b : Run) → IsSpan rows n s → IsIn rows a → IsIn rows b → IsFirst rows b → a.number ≡ n → b.number ≡ n
    → Less (run_key a) (run_key b) → ⊥
clash rows n s a b span in_a in_b first p q low =
    let some_a = in_a.some in
    let some_b = in_b.some in
    let at_a = in_a.at 0 (omega arith) in
    let at_b = in_b.at 0 (omega arith) in
    let one = span.inside (a.pid, a.page + 0) at_a.page at_a.found (at_a.number ∙ p) in
    let two = span.inside (b.pid, b.page + 0) at_b.page at_b.found (at_b.number ∙ q) in
    let pid_a = one.pid in
    let pid_b = two.pid in
    let from_a = one.from in
    let to_b = two.to in
    elim low [
      | inl less ↦ omega arith
      | inr less ↦ (
          let below = less.1 in
          let i : ℕ = b.page - 1 - s.page in
          let t = span.there i (omega arith) in
          let at : s.page + i ≡ b.page - 1 = omega arith in
          let key : (s.pid, s.page + i) ≡ (b.pid, b.page - 1) = ap (λ (m : ℕ). (m, s.page + i)) (sym pid_b) ∙ ap (λ (m : ℕ). (b.pid, m)) at in
          let found : find (is_run (b.pid, b.page - 1)) rows ≡ Some t.0 = subst (λ (k : ℕ × ℕ). find (is_run k) rows ≡ Some t.0) key t.1 in
          let here = span.inside (b.pid, b.page - 1) t.0 found t.2 in
          let holder = here.holder_page in
          let holder_b = two.holder_page in
          let page_b = at_b.holder_page in
          first (b.page - 1) t.0 found (omega arith) (record {
            holder_pid = here.holder_pid ∙ sym two.holder_pid ∙ at_b.holder_pid;
            holder_page = omega arith;
            shared = here.shared ∙ sym two.shared ∙ at_b.shared;
            number = t.2 ∙ sym q;
          })
          )
    ]

none_behind : (rows : List Run) (n : ℕ) (s : Span) → IsSpan rows n s → (a : Run) → IsIn rows a → a.number ≡ n → (k : ℕ × ℕ) (runs : List Run)
    → ((b : Run) → Less k (run_key b) → Less (run_key a) (run_key b)) → Ascending (Some k) runs → AllByRecursion (IsIn rows) runs
    → AllByRecursion (IsFirst rows) runs
    → AllByRecursion (λ r. is_run_of n r ≡ false) runs
none_behind rows n s span a in_a p k [] low forms own first = tt
none_behind rows n s span a in_a p k (b ∷ runs) low forms own first =
    let less = less_behind 0 0 k (run_key b) forms.0.0 forms.0.1 in (
      elim (cases_Bool (is_run_of n b)) [
        | inl does ↦ absurd (clash rows n s a b span in_a own.0 first.0 p (eqb-true b.number n does) (low b less))
        | inr doesnt ↦ doesnt
      ],
      none_behind rows n s span a in_a p (run_key b) runs (λ c next. less_through (run_key a) (run_key b) (run_key c) (low b less) next) forms.1 own.1 first.1,
    )

once : (rows : List Run) (n : ℕ) (s : Span) → IsSpan rows n s → (before : Option (ℕ × ℕ)) (runs : List Run) → Ascending before runs
    → AllByRecursion (IsIn rows) runs → AllByRecursion (IsFirst rows) runs → count_by (is_run_of n) runs ≤ 1
once rows n s span before [] forms own first = omega arith
once rows n s span before (a ∷ runs) forms own first = elim (cases_Bool (is_run_of n a)) [
  | inl does ↦ (
      let none = count_none (is_run_of n) runs
      (none_behind rows n s span a own.0 (eqb-true a.number n does) (run_key a) runs (λ b low. low) forms.1 own.1 first.1) in
      let one = count_yes (is_run_of n) a runs does in
      omega arith
      )
  | inr doesnt ↦ (
      let few = once rows n s span (Some (run_key a)) runs forms.1 own.1 first.1 in
      let same = count_no (is_run_of n) a runs doesnt in
      omega arith
      )
]

pub counted_once : (rows : List Run) (n : ℕ) (s : Span) → Ascending None rows → AllByRecursion IsSingle rows → IsSpan rows n s
    → count_by (is_run_of n) (joined rows) ≤ 1
counted_once rows n s forms single span =
    once rows n s span None (joined rows) (runs_ascend None rows forms) (each_in None rows forms single) (each_first None rows forms single)

-- ---- where one run is of the number, the pages are its own

-- the page at a place is the one of the run there
pub record IsRunAt (rows : List Run) (r : Run) (k : ℕ × ℕ) : Type 0 where
  pub page : Run
  pub found : find (is_run k) rows ≡ Some page
  pub pid : k.0 ≡ r.pid
  pub from : r.page ≤ k.1
  pub to : k.1 < r.page + (r.end - r.holder_page)
  pub holder_pid : page.holder_pid ≡ r.holder_pid
  pub holder_page : page.holder_page ≡ r.holder_page + (k.1 - r.page)
  pub shared : page.shared ≡ r.shared
  pub number : page.number ≡ r.number

-- a place of the run has its page
pub run_at : (rows : List Run) (r : Run) → IsIn rows r → (k : ℕ × ℕ) → k.0 ≡ r.pid → r.page ≤ k.1 → k.1 < r.page + (r.end - r.holder_page) → IsRunAt rows r k
run_at rows r own k pid from to =
    let some = own.some in
    let i : ℕ = k.1 - r.page in
    let a = own.at i (omega arith) in
    let at : r.page + i ≡ k.1 = omega arith in
    let key : (r.pid, r.page + i) ≡ k = ap (λ (m : ℕ). (m, r.page + i)) (sym pid) ∙ ap (λ (m : ℕ). (k.0, m)) at in
    record {
      page = a.page;
      found = subst (λ (z : ℕ × ℕ). find (is_run z) rows ≡ Some a.page) key a.found;
      pid = pid;
      from = from;
      to = to;
      holder_pid = a.holder_pid;
      holder_page = a.holder_page;
      shared = a.shared;
      number = a.number;
    }

-- each page is of a run of its number
pub run_over : (rows : List Run) → Ascending None rows → AllByRecursion IsSingle rows → (k : ℕ × ℕ) (e : Run) → find (is_run k) rows ≡ Some e
    → (r : Run) × Among (joined rows) r × (r.number ≡ e.number) × IsRunAt rows r k
run_over rows forms single k e found =
    let c = each_covered None rows forms single k e found in
    let own = among_has (IsIn rows) (joined rows) c.run (each_in None rows forms single) c.among in
    let within = c.within in
    let page = c.page in
    let at = run_at rows c.run own k (sym c.pid) (omega arith) (omega arith) in
    let same : at.page ≡ e = some_same at.page e (sym at.found ∙ found) in
    (c.run, c.among, sym at.number ∙ ap (λ (z : Run). z.number) same, at)
