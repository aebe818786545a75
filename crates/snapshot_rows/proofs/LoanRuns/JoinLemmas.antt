-- Runs are made from the last page to the first, and their numbers are compared as keys.
use Rattle.std.proofs.Common.{◌≡◌, ℕ, ◌+◌, Bool, cond, List, [], ◌∷◌, ◌++◌, reverse, refl, sym, ap, ◌∙◌, arith, ◌↔◌}
use Rattle.std.specs.Prelude.{IsTrue}
use Rattle.std.specs.List.{count_by, IsDistinct}
use Rattle.std.proofs.lemmas.List.Sorted.{IsPermutation-reverse, sum_by-IsPermutation}
use Rattle.std.proofs.lemmas.List.Sums.{sum_by-append}
use Rattle.snapshot_rows.specs.declared.runs.Run.{Run}
use Rattle.snapshot_rows.specs.PageParts.{same_key}
use Rattle.snapshot_rows.specs.RunParts.{join, joined, is_run_of, run_keys, AreNumbersApart}
use Rattle.snapshot_rows.proofs.Keys.CountLemmas.{is_key, distinct_told}
use Rattle.snapshot_rows.proofs.Keys.NumberLemmas.{keys_counted, keys_few}

-- ---- pages in front of runs

abbrev pub joined_onto : List Run → List Run → List Run
joined_onto [] runs = runs
joined_onto (r ∷ rows) runs = join r (joined_onto rows runs)

pub onto_last : (rows : List Run) (r : Run) (runs : List Run) → joined_onto (rows ++ r ∷ []) runs ≡ joined_onto rows (join r runs)
onto_last [] r runs = refl
onto_last (s ∷ rows) r runs = ap (join s) (onto_last rows r runs)

pub onto_none : (rows : List Run) → joined_onto rows [] ≡ joined rows
onto_none [] = refl
onto_none (r ∷ rows) = ap (join r) (onto_none rows)

-- ---- numbers as keys

abbrev run_number : Run → ℕ
run_number r = r.number

both_counted : (k : ℕ × ℕ) (loans left : List Run)
    → count_by (is_key k) (run_keys loans ++ run_keys left) ≡ count_by (is_key k) (run_keys loans) + count_by (is_key k) (run_keys left)
both_counted k loans left = sum_by-append (λ a. cond (is_key k a) 1 0) (run_keys loans) (run_keys left)

pub apart_told : (loans left : List Run) (told : Bool) → IsTrue told ↔ IsDistinct same_key (run_keys loans ++ run_keys left)
    → IsTrue told ↔ AreNumbersApart loans left
apart_told loans left told is =
    let once = distinct_told (run_keys loans ++ run_keys left) in (
      λ holds n. (
          let few = once.0 (is.0 holds) (n, 0) in
          let all = both_counted (n, 0) loans left in
          let one = keys_counted run_number n loans in
          let two = keys_counted run_number n left in
          omega arith
          ),
      λ apart.
          is.1 (once.1 (λ k. (
          let few = apart k.0 in
          let all = both_counted k loans left in
          let one = keys_few run_number k loans in
          let two = keys_few run_number k left in
          omega arith
          ))),
    )

-- ---- in either order

counted_back : (n : ℕ) (runs rows : List Run) → reverse runs ≡ rows → count_by (is_run_of n) rows ≡ count_by (is_run_of n) runs
counted_back n runs rows e =
    ap (count_by (is_run_of n)) (sym e) ∙ sum_by-IsPermutation (λ r. cond (is_run_of n r) 1 0) runs (reverse runs) (IsPermutation-reverse runs)

pub apart_back : (loans left one two : List Run) → reverse loans ≡ one → reverse left ≡ two → AreNumbersApart loans left ↔ AreNumbersApart one two
apart_back loans left one two p q = (
  λ apart n. (let few = apart n in let a = counted_back n loans one p in let b = counted_back n left two q in omega arith),
  λ apart n. (let few = apart n in let a = counted_back n loans one p in let b = counted_back n left two q in omega arith),
)
