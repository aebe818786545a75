-- Runs of pages on loan by their places: which pages they have, and that none goes on before its first.
use Rattle.std.proofs.Common.{◌≡◌, ℕ, zero, suc, ◌+◌, ◌≤◌, ◌<◌, Bool, true, false, cond, eqb, List, [], ◌∷◌, Option, Some, None, refl, sym, ap, subst, ◌∙◌, arith, inl, inr, ◌⊎◌}
use Rattle.std.specs.Prelude.{◌&&◌}
use Rattle.std.specs.List.{find, AllByRecursion}
use Rattle.std.proofs.lemmas.Bool.{cases_Bool, and_parts, eqb-true, eq-eqb}
use Rattle.std.specs.Bool.{beq}
use Rattle.snapshot_rows.specs.declared.runs.Run.{Run}
use Rattle.snapshot_rows.specs.Order.{least_first, least_second, AreInOrder}
use Rattle.snapshot_rows.specs.RunParts.{is_followed_by, join, joined}
use Rattle.snapshot_rows.proofs.KeyLemmas.{some, some_same, key_above as above_of, found_behind as behind_of, Less, pair_is, pair_own}
use Rattle.snapshot_rows.proofs.KeyLemmas.{less_apart, less_through, less_behind}

-- ---- runs by their first places

abbrev pub run_key : Run → ℕ × ℕ
run_key r = (r.pid, r.page)

abbrev pub RunForm : Option (ℕ × ℕ) → Run → Type 0
RunForm before r = (least_first 0 before ≤ (run_key r).0) × (least_second 0 before (run_key r).0 ≤ (run_key r).1)

abbrev pub is_run : ℕ × ℕ → Run → Bool
is_run k r = eqb (run_key r).0 k.0 && eqb (run_key r).1 k.1

abbrev pub Ascending : Option (ℕ × ℕ) → List Run → Type 0
Ascending before rows = AreInOrder RunForm run_key before rows

form_behind : (before : ℕ × ℕ) (r : Run) → RunForm (Some before) r → Less before (run_key r)
form_behind before r form = less_behind 0 0 before (run_key r) form.0 form.1

form_of : (a : ℕ × ℕ) (r : Run) → Less a (run_key r) → RunForm (Some a) r
form_of a r (inl low) = (
  omega arith,
  elim (cases_Bool (eqb a.0 r.pid)) [
    | inl same ↦ (let is = eqb-true a.0 r.pid same in absurd (omega arith))
    | inr other ↦ subst (λ (b : Bool). cond b (a.1 + 1) 0 ≤ r.page) (sym other) (omega arith)
  ],
)
form_of a r (inr same) = (
  (let is = same.0 in omega arith),
  (let low = same.1 in subst (λ (b : Bool). cond b (a.1 + 1) 0 ≤ r.page) (sym (eq-eqb a.0 r.pid same.0)) (omega arith)),
)

-- what stands behind a key stands behind each that is below
pub lower : (a b : ℕ × ℕ) (rows : List Run) → Less a b → Ascending (Some b) rows → Ascending (Some a) rows
lower a b [] low forms = tt
lower a b (r ∷ rows) low forms = (form_of a r (less_through a b (run_key r) low (form_behind b r forms.0)), forms.1)

pub lower_first : (before : Option (ℕ × ℕ)) (r : Run) (rows : List Run) → RunForm before r → Ascending (Some (run_key r)) rows → Ascending before rows
lower_first before r [] form forms = tt
lower_first None r (s ∷ rows) form forms = ((omega arith, omega arith), forms.1)
lower_first (Some a) r (s ∷ rows) form forms = lower a (run_key r) (s ∷ rows) (form_behind a r form) forms

pub run_above : (before k : ℕ × ℕ) (rows : List Run) (r : Run) → Ascending (Some before) rows → find (is_run k) rows ≡ Some r → Less before k
run_above before k rows r forms e = above_of run_key is_run Less RunForm form_behind (pair_is run_key)
    (pair_own run_key) less_apart less_through before k rows r forms e

pub run_behind : (k : ℕ × ℕ) (s : Run) (rows : List Run) (r : Run) → Ascending (Some (run_key s)) rows → find (is_run k) rows ≡ Some r
    → find (is_run k) (s ∷ rows) ≡ Some r
run_behind k s rows r forms e = behind_of run_key is_run Less RunForm form_behind (pair_is run_key)
    (pair_own run_key) less_apart less_through k s rows r forms e

pub run_first : (r : Run) (rows : List Run) → find (is_run (run_key r)) (r ∷ rows) ≡ Some r
run_first r rows = ap (λ (b : Bool). cond b (some r) (find (is_run (run_key r)) rows)) (pair_own run_key r)

here : (k : ℕ × ℕ) (s : Run) (rows : List Run) (r : Run) → is_run k s ≡ true → find (is_run k) (s ∷ rows) ≡ Some r → s ≡ r
here k s rows r is e = some_same s r (sym (ap (λ (b : Bool). cond b (some s) (find (is_run k) rows)) is) ∙ e)

rest : (k : ℕ × ℕ) (s : Run) (rows : List Run) (r : Run) → is_run k s ≡ false → find (is_run k) (s ∷ rows) ≡ Some r → find (is_run k) rows ≡ Some r
rest k s rows r isnt e = sym (ap (λ (b : Bool). cond b (some s) (find (is_run k) rows)) isnt) ∙ e

-- the page that was found has the place
pub run_found : (k : ℕ × ℕ) (rows : List Run) (r : Run) → find (is_run k) rows ≡ Some r → run_key r ≡ k
run_found k [] r e = absurd cc
run_found k (s ∷ rows) r e = elim (cases_Bool (is_run k s)) [
  | inl is ↦ subst (λ (z : Run). run_key z ≡ k) (here k s rows r is e) (pair_is run_key k s is)
  | inr isnt ↦ run_found k rows r (rest k s rows r isnt e)
]

-- .. and what each has
pub found_has : (P : Run → Type 0) (k : ℕ × ℕ) (rows : List Run) (r : Run) → AllByRecursion P rows → find (is_run k) rows ≡ Some r → P r
found_has P k [] r all e = absurd cc
found_has P k (s ∷ rows) r all e = elim (cases_Bool (is_run k s)) [
  | inl is ↦ subst P (here k s rows r is e) all.0
  | inr isnt ↦ found_has P k rows r all.1 (rest k s rows r isnt e)
]

-- ---- a page before a run

abbrev pub IsSingle : Run → Type 0
IsSingle r = r.end ≡ r.holder_page + 1

pub record Follows (r s : Run) : Type 0 where
  pub pid : r.pid ≡ s.pid
  pub page : r.page + 1 ≡ s.page
  pub holder_pid : r.holder_pid ≡ s.holder_pid
  pub holder_page : r.end ≡ s.holder_page
  pub shared : r.shared ≡ s.shared
  pub number : r.number ≡ s.number

pub beq_true : (a b : Bool) → beq a b ≡ true → a ≡ b
beq_true true true e = refl
beq_true true false e = absurd cc
beq_true false true e = absurd cc
beq_true false false e = refl

pub beq_same : (a b : Bool) → a ≡ b → beq a b ≡ true
beq_same true true e = refl
beq_same true false e = absurd cc
beq_same false true e = absurd cc
beq_same false false e = refl

followed : (r s : Run) → is_followed_by r s ≡ true → Follows r s
followed r s is =
    let all = and_parts (eqb r.pid s.pid && eqb (r.page + 1) s.page) _ is in
    let homes = and_parts (eqb r.pid s.pid) (eqb (r.page + 1) s.page) all.0 in
    let others = and_parts (eqb r.holder_pid s.holder_pid && eqb r.end s.holder_page) (beq r.shared s.shared && eqb r.number s.number) all.1 in
    let holders = and_parts (eqb r.holder_pid s.holder_pid) (eqb r.end s.holder_page) others.0 in
    let loan = and_parts (beq r.shared s.shared) (eqb r.number s.number) others.1 in
    record {
      pid = eqb-true r.pid s.pid homes.0;
      page = eqb-true (r.page + 1) s.page homes.1;
      holder_pid = eqb-true r.holder_pid s.holder_pid holders.0;
      holder_page = eqb-true r.end s.holder_page holders.1;
      shared = beq_true r.shared s.shared loan.0;
      number = eqb-true r.number s.number loan.1;
    }

all_six : (a b c d e f : Bool) → a ≡ true → b ≡ true → c ≡ true → d ≡ true → e ≡ true → f ≡ true → ((a && b) && ((c && d) && (e && f))) ≡ true
all_six a b c d e f p q r s t u = rw (p, q, r, s, t, u) refl

follows : (r s : Run) → Follows r s → is_followed_by r s ≡ true
follows r s f =
    all_six _ _ _ _ _ _ (eq-eqb r.pid s.pid f.pid) (eq-eqb (r.page + 1) s.page f.page) (eq-eqb r.holder_pid s.holder_pid f.holder_pid)
    (eq-eqb r.end s.holder_page f.holder_page)
    (beq_same r.shared s.shared f.shared) (eq-eqb r.number s.number f.number)

-- a run with the page in front
abbrev grown : Run → Run → Run
grown r s = record r { end = s.end }

-- what holds of the runs that a page begins: alone, or before one that follows it
abbrev JoinOf : Run → Run → List Run → Bool → List Run
JoinOf r s ss b = cond b (grown r s ∷ ss) (r ∷ s ∷ ss)

-- ---- the pages of a run

-- the i-th page of a run is there
pub record IsAt (rows : List Run) (r : Run) (i : ℕ) : Type 0 where
  pub page : Run
  pub found : find (is_run (r.pid, r.page + i)) rows ≡ Some page
  pub holder_pid : page.holder_pid ≡ r.holder_pid
  pub holder_page : page.holder_page ≡ r.holder_page + i
  pub shared : page.shared ≡ r.shared
  pub number : page.number ≡ r.number

pub record IsIn (rows : List Run) (r : Run) : Type 0 where
  pub some : r.holder_page < r.end
  pub at : (i : ℕ) → r.holder_page + i < r.end → IsAt rows r i

first_at : (r : Run) (end : ℕ) (rows : List Run) → IsAt (r ∷ rows) (record r { end = end }) zero
first_at r end rows =
    let none : r.page ≡ r.page + 0 = omega arith in
    record {
      page = r;
      found = subst (λ (n : ℕ). find (is_run (r.pid, n)) (r ∷ rows) ≡ Some r) none (run_first r rows);
      holder_pid = refl;
      holder_page = omega arith;
      shared = refl;
      number = refl;
    }

alone_in : (r : Run) (rows : List Run) → IsSingle r → IsIn (r ∷ rows) r
alone_in r rows single = record {
  some = omega arith;
  at = λ i low. (let none : zero ≡ i = omega arith in subst (λ (n : ℕ). IsAt (r ∷ rows) r n) none (first_at r r.end rows));
}

grown_in : (r s : Run) (rows : List Run) → IsSingle r → Ascending (Some (run_key r)) rows → Follows r s → IsIn rows s → IsIn (r ∷ rows) (grown r s)
grown_in r s rows single forms f own =
    let some = own.some in
    let end = f.holder_page in
    record { some = omega arith; at = go }
  where
    go : (i : ℕ) → r.holder_page + i < s.end → IsAt (r ∷ rows) (grown r s) i
    go zero low = first_at r s.end rows
    go (suc i) low =
        let end = f.holder_page in
        let next = f.page in
        let a = own.at i (omega (arith, low)) in
        let behind = a.holder_page in
        let at : s.page + i ≡ r.page + suc i = omega arith in
        let key : (s.pid, s.page + i) ≡ (r.pid, r.page + suc i) = ap (λ (n : ℕ). (n, s.page + i)) (sym f.pid) ∙ ap (λ (n : ℕ). (r.pid, n)) at in
        record {
          page = a.page;
          found = run_behind (r.pid, r.page + suc i) r rows a.page forms (subst (λ (k : ℕ × ℕ). find (is_run k) rows ≡ Some a.page) key a.found);
          holder_pid = a.holder_pid ∙ sym f.holder_pid;
          holder_page = omega arith;
          shared = a.shared ∙ sym f.shared;
          number = a.number ∙ sym f.number;
        }

behind_in : (r : Run) (rows : List Run) → Ascending (Some (run_key r)) rows → (runs : List Run) → AllByRecursion (IsIn rows) runs
    → AllByRecursion (IsIn (r ∷ rows)) runs
behind_in r rows forms [] all = tt
behind_in r rows forms (s ∷ runs) all = (
  record {
    some = all.0.some;
    at = λ i low. (
        let a = all.0.at i low in
        record {
          page = a.page;
          found = run_behind (s.pid, s.page + i) r rows a.page forms a.found;
          holder_pid = a.holder_pid;
          holder_page = a.holder_page;
          shared = a.shared;
          number = a.number;
        }
        );
  },
  behind_in r rows forms runs all.1,
)

pub each_in : (before : Option (ℕ × ℕ)) (rows : List Run) → Ascending before rows → AllByRecursion IsSingle rows → AllByRecursion (IsIn rows) (joined rows)
each_in before [] forms single = tt
each_in before (r ∷ rows) forms single = go (joined rows) (each_in (Some (run_key r)) rows forms.1 single.1)
  where
    go : (runs : List Run) → AllByRecursion (IsIn rows) runs → AllByRecursion (IsIn (r ∷ rows)) (join r runs)
    go [] own = (alone_in r rows single.0, tt)
    go (s ∷ ss) own = elim (cases_Bool (is_followed_by r s)) [
      | inl is ↦ (
          subst (λ (b : Bool). AllByRecursion (IsIn (r ∷ rows)) (JoinOf r s ss b)) (sym is)
          (grown_in r s rows single.0 forms.1 (followed r s is) own.0, behind_in r rows forms.1 ss own.1)
          )
      | inr isnt ↦ (
          subst (λ (b : Bool). AllByRecursion (IsIn (r ∷ rows)) (JoinOf r s ss b)) (sym isnt)
          (alone_in r rows single.0, behind_in r rows forms.1 (s ∷ ss) own)
          )
    ]

-- ---- runs stand in order

pub runs_ascend : (before : Option (ℕ × ℕ)) (rows : List Run) → Ascending before rows → Ascending before (joined rows)
runs_ascend before [] forms = tt
runs_ascend before (r ∷ rows) forms = go (joined rows) (runs_ascend (Some (run_key r)) rows forms.1)
  where
    go : (runs : List Run) → Ascending (Some (run_key r)) runs → Ascending before (join r runs)
    go [] own = (forms.0, tt)
    go (s ∷ ss) own = elim (cases_Bool (is_followed_by r s)) [
      | inl is ↦ (
          subst (λ (b : Bool). Ascending before (JoinOf r s ss b)) (sym is)
          (forms.0, lower (run_key r) (run_key s) ss (form_behind (run_key r) s own.0) own.1)
          )
      | inr isnt ↦ subst (λ (b : Bool). Ascending before (JoinOf r s ss b)) (sym isnt) (forms.0, own)
    ]

-- ---- each page is of a run

abbrev pub Among : List Run → Run → Type 0
Among [] r = ⊥
Among (s ∷ runs) r = (s ≡ r) ⊎ Among runs r

pub record IsCovered (runs : List Run) (k : ℕ × ℕ) : Type 0 where
  pub run : Run
  pub among : Among runs run
  pub index : ℕ
  pub within : run.holder_page + index < run.end
  pub pid : run.pid ≡ k.0
  pub page : run.page + index ≡ k.1

first_covered : (r : Run) (end : ℕ) (runs : List Run) (k : ℕ × ℕ) → r.holder_page < end → run_key r ≡ k → IsCovered (record r { end = end } ∷ runs) k
first_covered r end runs k low is =
    let page : r.page ≡ k.1 = ap (λ (z : ℕ × ℕ). z.1) is in
    record {
      run = record r { end = end };
      among = inl refl;
      index = 0;
      within = omega arith;
      pid = ap (λ (z : ℕ × ℕ). z.0) is;
      page = omega arith;
    }

later_covered : (s : Run) (runs : List Run) (k : ℕ × ℕ) → IsCovered runs k → IsCovered (s ∷ runs) k
later_covered s runs k c = record { run = c.run; among = inr c.among; index = c.index; within = c.within; pid = c.pid; page = c.page }

join_covered : (r s : Run) (ss : List Run) (k : ℕ × ℕ) → IsSingle r → Follows r s → IsCovered (s ∷ ss) k → IsCovered (grown r s ∷ ss) k
join_covered r s ss k single f c = elim c.among [
  | inl same ↦ (
      let within = subst (λ (z : Run). z.holder_page + c.index < z.end) (sym same) c.within in
      let page = subst (λ (z : Run). z.page + c.index ≡ k.1) (sym same) c.page in
      let pid = subst (λ (z : Run). z.pid ≡ k.0) (sym same) c.pid in
      let end = f.holder_page in
      let next = f.page in
      record {
        run = grown r s;
        among = inl refl;
        index = suc c.index;
        within = omega arith;
        pid = f.pid ∙ pid;
        page = omega arith;
      }
      )
  | inr later ↦ record { run = c.run; among = inr later; index = c.index; within = c.within; pid = c.pid; page = c.page }
]

pub each_covered : (before : Option (ℕ × ℕ)) (rows : List Run) → Ascending before rows → AllByRecursion IsSingle rows → (k : ℕ × ℕ) (e : Run)
    → find (is_run k) rows ≡ Some e → IsCovered (joined rows) k
each_covered before [] forms single k e found = absurd cc
each_covered before (r ∷ rows) forms single k e found =
    elim (cases_Bool (is_run k r)) [
      | inl is ↦ head (pair_is run_key k r is) (joined rows) (each_in (Some (run_key r)) rows forms.1 single.1)
      | inr isnt ↦ tail (joined rows) (each_covered (Some (run_key r)) rows forms.1 single.1 k e (rest k r rows e isnt found))
    ]
  where
    head : run_key r ≡ k → (runs : List Run) → AllByRecursion (IsIn rows) runs → IsCovered (join r runs) k
    head is [] own = (let one = single.0 in first_covered r r.end [] k (omega arith) is)
    head is (s ∷ ss) own = elim (cases_Bool (is_followed_by r s)) [
      | inl does ↦ (
          let one = single.0 in
          let end = (followed r s does).holder_page in
          let some = own.0.some in
          subst (λ (b : Bool). IsCovered (JoinOf r s ss b) k) (sym does) (first_covered r s.end ss k (omega arith) is)
          )
      | inr doesnt ↦ (let one = single.0 in subst (λ (b : Bool). IsCovered (JoinOf r s ss b) k) (sym doesnt)
          (first_covered r r.end (s ∷ ss) k (omega arith) is))
    ]

    tail : (runs : List Run) → IsCovered runs k → IsCovered (join r runs) k
    tail [] c = absurd c.among
    tail (s ∷ ss) c = elim (cases_Bool (is_followed_by r s)) [
      | inl does ↦ subst (λ (b : Bool). IsCovered (JoinOf r s ss b) k) (sym does) (join_covered r s ss k single.0 (followed r s does) c)
      | inr doesnt ↦ subst (λ (b : Bool). IsCovered (JoinOf r s ss b) k) (sym doesnt) (later_covered r (s ∷ ss) k c)
    ]

-- ---- nothing goes on before the first page of a run

pub record Precedes (e r : Run) : Type 0 where
  pub holder_pid : e.holder_pid ≡ r.holder_pid
  pub holder_page : e.holder_page + 1 ≡ r.holder_page
  pub shared : e.shared ≡ r.shared
  pub number : e.number ≡ r.number

abbrev pub IsFirst : List Run → Run → Type 0
IsFirst rows r = (q : ℕ) (e : Run) → find (is_run (r.pid, q)) rows ≡ Some e → q + 1 ≡ r.page → Precedes e r → ⊥

begins_first : (r : Run) (end : ℕ) (rows : List Run) → Ascending (Some (run_key r)) rows → IsFirst (r ∷ rows) (record r { end = end })
begins_first r end rows forms q e found next p =
    elim (cases_Bool (is_run (r.pid, q) r)) [
      | inl is ↦ (let same : r.page ≡ q = ap (λ (z : ℕ × ℕ). z.1) (pair_is run_key (r.pid, q) r is) in omega arith)
      | inr isnt ↦ elim (run_above (run_key r) (r.pid, q) rows e forms (rest (r.pid, q) r rows e isnt found)) [
        | inl low ↦ omega arith
        | inr same ↦ (let low = same.1 in omega arith)
      ]
    ]

-- a run that doesn't stand right behind a page keeps its first page
IsFar : Run → Run → Type 0
IsFar r s = r.pid ≡ s.pid → r.page + 1 ≡ s.page → ⊥

far_first : (r s : Run) (rows : List Run) → IsFar r s → IsFirst rows s → IsFirst (r ∷ rows) s
unfolding IsFar
far_first r s rows far own q e found next p =
    elim (cases_Bool (is_run (s.pid, q) r)) [
      | inl is ↦ (
          let key = pair_is run_key (s.pid, q) r is in
          let page : r.page ≡ q = ap (λ (z : ℕ × ℕ). z.1) key in
          far (ap (λ (z : ℕ × ℕ). z.0) key) (omega arith)
          )
      | inr isnt ↦ own q e (rest (s.pid, q) r rows e isnt found) next p
    ]

not_first : (r s : Run) (rows : List Run) → IsSingle r → is_followed_by r s ≡ false → IsFirst rows s → IsFirst (r ∷ rows) s
not_first r s rows single doesnt own q e found next p =
    elim (cases_Bool (is_run (s.pid, q) r)) [
      | inl is ↦ (
          let key = pair_is run_key (s.pid, q) r is in
          let page : r.page ≡ q = ap (λ (z : ℕ × ℕ). z.1) key in
          let same = here (s.pid, q) r rows e is found in
          let before = subst (λ (z : Run). Precedes z s) (sym same) p in
          let holder = before.holder_page in
          let does = follows r s (record {
            pid = ap (λ (z : ℕ × ℕ). z.0) key;
            page = omega arith;
            holder_pid = before.holder_pid;
            holder_page = omega arith;
            shared = before.shared;
            number = before.number;
          }) in
          differ (is_followed_by r s) doesnt does
          )
      | inr isnt ↦ own q e (rest (s.pid, q) r rows e isnt found) next p
    ]
  where
    differ : (b : Bool) → b ≡ false → b ≡ true → ⊥
    differ true e f = absurd cc
    differ false e f = absurd cc

far_away : (r : Run) (a : ℕ × ℕ) (s : Run) → Less (run_key r) a → Less a (run_key s) → IsFar r s
unfolding IsFar
far_away r a s (inl low) (inl next) pid page = omega arith
far_away r a s (inl low) (inr next) pid page = (let same = next.0 in omega arith)
far_away r a s (inr low) (inl next) pid page = (let same = low.0 in omega arith)
far_away r a s (inr low) (inr next) pid page = (let one = low.1 in let two = next.1 in omega arith)

far_firsts : (r : Run) (rows : List Run) (a : ℕ × ℕ) (runs : List Run) → Less (run_key r) a → Ascending (Some a) runs → AllByRecursion (IsFirst rows) runs
    → AllByRecursion (IsFirst (r ∷ rows)) runs
far_firsts r rows a [] low forms own = tt
far_firsts r rows a (s ∷ runs) low forms own =
    let behind = form_behind a s forms.0 in
    (far_first r s rows (far_away r a s low behind) own.0, far_firsts r rows (run_key s) runs (less_through (run_key r) a (run_key s) low behind) forms.1 own.1)

pub each_first : (before : Option (ℕ × ℕ)) (rows : List Run) → Ascending before rows → AllByRecursion IsSingle rows
    → AllByRecursion (IsFirst rows) (joined rows)
each_first before [] forms single = tt
each_first before (r ∷ rows) forms single =
    go (joined rows) (runs_ascend (Some (run_key r)) rows forms.1) (each_first (Some (run_key r)) rows forms.1 single.1)
  where
    go : (runs : List Run) → Ascending (Some (run_key r)) runs → AllByRecursion (IsFirst rows) runs → AllByRecursion (IsFirst (r ∷ rows)) (join r runs)
    go [] asc own = (begins_first r r.end rows forms.1, tt)
    go (s ∷ ss) asc own =
        let behind = form_behind (run_key r) s asc.0 in
        let others = far_firsts r rows (run_key s) ss behind asc.1 own.1 in
        elim (cases_Bool (is_followed_by r s)) [
          | inl does ↦ subst (λ (b : Bool). AllByRecursion (IsFirst (r ∷ rows)) (JoinOf r s ss b)) (sym does) (begins_first r s.end rows forms.1, others)
          | inr doesnt ↦ (
              subst (λ (b : Bool). AllByRecursion (IsFirst (r ∷ rows)) (JoinOf r s ss b)) (sym doesnt)
              (begins_first r r.end rows forms.1, (not_first r s rows single.0 doesnt own.0, others))
              )
        ]
