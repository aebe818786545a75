-- Where the lender of a loan is known, its first page is looked for from the first page of that process on.
use Rattle.std.proofs.Common.{◌≡◌, ℕ, zero, suc, ◌-◌, ◌≤◌, ◌<◌, Bool, true, false, cond, ltb, List, [], ◌∷◌, length, drop, take, get_or, Some, None, refl, sym, ap, ◌∙◌, arith, inl, inr}
use Rattle.std.specs.List.{find}
use Rattle.std.specs.List.Sorted.{IsPartitionedBy, IsPartitionPoint}
use Rattle.std.specs.Option.{option_map}
use Rattle.std.proofs.lemmas.Bool.{cases_Bool, cases_lt, lt-ltb, ltb-true}
use Rattle.std.proofs.lemmas.List.{length-drop, take_all}
use Rattle.snapshot_rows.proofs.KeyLemmas.{Less, less_apart, less_behind, less_through, pair_is}
use Rattle.snapshot_rows.specs.Machines.{place_at}
use Rattle.snapshot_rows.specs.Order.{AscendInTwo, least_first, least_second, page_key}
use Rattle.snapshot_rows.specs.declared.state.PageRow.{PageRow}
use Rattle.xk_base.specs.declared.ids.Place.{Place}
use Rattle.resume_path.proofs.Lending.FirstLentLemmas.{test_of}
use Rattle.resume_path.proofs.Rows.RowLemmas.{less_at}
use Rattle.resume_path.specs.Messages.{first_lent, is_lent_by}

-- ---- the first row that passes

-- one that passes stands at or behind the first that does
found_before : {A : Type 0} (test : A → Bool) (rows : List A) (i : ℕ) (d : A) → i < length rows → test (get_or rows i d) ≡ true
    → (j : ℕ) × (j ≤ i) × (find test rows ≡ Some (get_or rows j d))
found_before test [] i d within passes = absurd (omega (arith, within))
found_before test (x ∷ rows) zero d within passes = (0, omega arith, ap (λ (b : Bool). cond b (Some x) (find test rows)) passes)
found_before test (x ∷ rows) (suc i) d within passes = elim (cases_Bool (test x)) [
  | inl does ↦ (0, omega arith, ap (λ (b : Bool). cond b (Some x) (find test rows)) does)
  | inr doesnt ↦
      let rest = found_before test rows i d (omega (arith, within)) passes in
      let low = rest.1 in
      (suc rest.0, omega arith, ap (λ (b : Bool). cond b (Some x) (find test rows)) doesnt ∙ rest.2)
]

-- rows that don't pass may be left out
find_behind : {A : Type 0} (test : A → Bool) (n : ℕ) (rows : List A) → ((i : ℕ) (d : A) → i < n → i < length rows → test (get_or rows i d) ≡ false)
    → find test (drop n rows) ≡ find test rows
find_behind test zero rows fails = refl
find_behind test (suc n) [] fails = refl
find_behind test (suc n) (x ∷ rows) fails =
    find_behind test n rows (λ i d low within. fails (suc i) d (omega (arith, low)) (omega (arith, within)))
    ∙ sym (ap (λ (b : Bool). cond b (Some x) (find test rows)) (fails 0 x (omega arith) (omega arith)))

-- ---- pages

abbrev pub is_below : ℕ → PageRow → Bool
is_below pid page = ltb page.pid pid

-- the rest of a list, as a part of it
pub rest_is : {A : Type 0} (xs : List A) (n : ℕ) → take (length xs - n) (drop n xs) ≡ drop n xs
rest_is xs n = take_all (length xs - n) (drop n xs) (let long = length-drop n xs in omega arith)

module _ (pages : List PageRow) (pid number first : ℕ) (ascend : AscendInTwo page_key pages) (bound : first ≤ length pages) where
  pids_rise : (i j : ℕ) (d : PageRow) → i < j → j < length pages → (get_or pages i d).pid ≤ (get_or pages j d).pid
  pids_rise i j d low within =
      rise (page_key (get_or pages i d)) (page_key (get_or pages j d))
      (less_at page_key test_of Less (λ before x. (least_first 0 before ≤ (page_key x).0) × (least_second 0 before (page_key x).0 ≤ (page_key x).1))
      (λ before x forms. less_behind 0 0 before (page_key x) forms.0 forms.1) (pair_is page_key) less_apart less_through None pages i j d ascend low within)
    where
      rise : (a b : ℕ × ℕ) → Less a b → a.0 ≤ b.0
      rise a b (inl below) = omega arith
      rise a b (inr same) = let e = same.0 in omega arith

  pub pids_parted : IsPartitionedBy (is_below pid) pages
  pids_parted i j d le within below = elim (cases_lt i j) [
    | inl low ↦
        let rise = pids_rise i j d low within in
        let less = ltb-true (get_or pages j d).pid pid below in
        lt-ltb (get_or pages i d).pid pid (omega arith)
    | inr high ↦
        let same : j ≡ i = omega arith in
        ap (λ (n : ℕ). is_below pid (get_or pages n d)) (sym same) ∙ below
  ]

  pub lent_behind : IsPartitionPoint (λ y. is_below pid y ≡ true) (λ y. is_below pid y ≡ false) pages first
      → ((at : Place) → first_lent pages number ≡ Some at → at.pid.0 ≡ pid) → first_lent (drop first pages) number ≡ first_lent pages number
  lent_behind parted lender =
      ap (option_map (λ (page : PageRow). place_at page.pid page.page)) (find_behind (is_lent_by number) first pages fails)
    where
      fails : (i : ℕ) (d : PageRow) → i < first → i < length pages → is_lent_by number (get_or pages i d) ≡ false
      fails i d low within = elim (cases_Bool (is_lent_by number (get_or pages i d))) [
        | inl does ↦
            let found = found_before (is_lent_by number) pages i d within does in
            let x = get_or pages found.0 d in
            let early = found.1 in
            let below = ltb-true x.pid pid (parted.0 found.0 d (omega arith) (omega arith)) in
            let own : x.pid ≡ pid = lender (place_at x.pid x.page) (ap (option_map (λ (page : PageRow). place_at page.pid page.page)) found.2) in
            absurd (omega arith)
        | inr doesnt ↦ doesnt
      ]
