-- A page that is filled from a file.
use Rattle.std.proofs.Common.{◌≡◌, ℕ, ◌+◌, ◌-◌, ◌<◌, ◌≤◌, nat_lt, true, false, List, ◌++◌, take, drop, length, get_or, slice_range, replicate, sym, ap, ◌∙◌, inl, inr, arith, length-take, length-append, length-drop}
use Rattle.std.specs.Prelude.{slice_index, map}
use Rattle.std.specs.List.{range_with_len}
use Rattle.std.proofs.lemmas.Bool.{cases_lt, cond-true, cond-false}
use Rattle.std.proofs.lemmas.Bool.Decides.{nat_tests}
use Rattle.std.proofs.lemmas.List.{ext_get_or, get_or_append_left, get_or-append_right, get_or-take, get_or-drop, length-replicate}
use Rattle.std.proofs.lemmas.List.FromFn.{length-map-range_with_len, get_or-map-range_with_len}
use Rattle.std.proofs.lemmas.Slice.{between_is}
use Rattle.phys_pages.proofs.PageLemmas.{slice_index-zeros}
use Rattle.boot_plan.specs.Content.{page_byte}
use Rattle.boot_plan.specs.declared.plans.PagePlan.{PagePlan}
use Rattle.vm_memory.specs.FirstLedger.{page_bytes}

module _ (file : List ℕ) (plan : PagePlan) (short : plan.len ≤ 4096) (within : plan.from + plan.len ≤ length file) where
  abbrev front : List ℕ
  front = slice_range file plan.from (plan.from + plan.len)

  front_is : front ≡ drop plan.from (take (plan.from + plan.len) file)
  front_is = between_is file plan.from (plan.from + plan.len)

  front_size : length front ≡ plan.len
  front_size = ap length front_is ∙ simp (length-drop, length-take) (omega arith)

  filled_at : (i : ℕ) → i < 4096 → get_or (front ++ replicate (4096 - plan.len) 0) i 0 ≡ page_byte file plan i
  filled_at i low = elim (cases_lt i plan.len) [
    | inl inside ↦
        let test : nat_lt i plan.len ≡ true = grind (arith, nat_tests) in
        get_or_append_left front (replicate (4096 - plan.len) 0) 0 i (omega (arith, front_size))
        ∙ ap (λ xs. get_or xs i 0) front_is
        ∙ get_or-drop plan.from (take (plan.from + plan.len) file) i 0
        ∙ get_or-take (plan.from + plan.len) file (plan.from + i) 0 (omega arith)
        ∙ sym (cond-true (nat_lt i plan.len) (slice_index file (plan.from + i)) 0 test)
    | inr behind ↦
        let test : nat_lt i plan.len ≡ false = grind (arith, nat_tests) in
        get_or-append_right front (replicate (4096 - plan.len) 0) plan.len i 0 front_size behind
        ∙ slice_index-zeros (4096 - plan.len) (i - plan.len)
        ∙ sym (cond-false (nat_lt i plan.len) (slice_index file (plan.from + i)) 0 test)
  ]

  -- the bytes of the file, then zeros
  pub filled_page : front ++ replicate (4096 - plan.len) 0 ≡ page_bytes file plan
  unfolding page_bytes
  filled_page = ext_get_or 0 (front ++ replicate (4096 - plan.len) 0) (map (page_byte file plan) (range_with_len 0 4096))
      (size ∙ sym (length-map-range_with_len (page_byte file plan) 0 4096))
      (λ i l. let low : i < 4096 = omega (arith, size) in
      filled_at i low ∙ sym (get_or-map-range_with_len (page_byte file plan) 0 4096 i i 0 low (omega arith)))
    where
      size : length (front ++ replicate (4096 - plan.len) 0) ≡ 4096
      size = simp (length-append, length-replicate) (omega (arith, front_size))

  -- .. as they are written
  pub filled_from : (xs ys : List ℕ) (n : ℕ) → xs ≡ front → ys ≡ replicate n 0 → length ys ≡ 4096 - plan.len → xs ++ ys ≡ page_bytes file plan
  filled_from xs ys n a b size =
      let count : n ≡ 4096 - plan.len = sym (length-replicate {A = ℕ} n 0) ∙ (ap length (sym b) ∙ size) in
      (λ i. a i ++ (b ∙ ap (λ k. replicate k 0) count) i) ∙ filled_page
