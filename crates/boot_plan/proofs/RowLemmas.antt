-- A row of pages that grows by one.
use Rattle.std.proofs.Common.{◌≡◌, ◌∙◌, ap, sym, ℕ, ◌+◌, List, [], ◌∷◌, ◌++◌, map, append_assoc}
use Rattle.std.specs.List.{range_with_len}
use Rattle.std.proofs.lemmas.List.FromFn.{map-range_with_len_more}
use Rattle.boot_plan.specs.declared.plans.PagePlan.{PagePlan}
use Rattle.boot_plan.specs.FirstPages.{zero_page, stack_pages, interrupt_page}

pub one_more : (f : ℕ → PagePlan) (a n j : ℕ) (base rows new : List PagePlan) (page : PagePlan)
    → rows ≡ base ++ map f (range_with_len a n) → new ≡ rows ++ page ∷ [] → page ≡ f j → a + n ≡ j
    → new ≡ base ++ map f (range_with_len a (n + 1))
one_more f a n j base rows new page so_far pushed is at =
    pushed
    ∙ ap (λ xs. xs ++ page ∷ []) so_far
    ∙ append_assoc base (map f (range_with_len a n)) (page ∷ [])
    ∙ ap (λ p. base ++ (map f (range_with_len a n) ++ p ∷ [])) is
    ∙ ap (λ xs. base ++ xs) (sym (map-range_with_len_more f a n j at))

pub last_page : (i : ℕ) (base rows new : List PagePlan) (page : PagePlan)
    → rows ≡ base ++ map zero_page (range_with_len 0x7FFF8 i) → i ≡ 8 → new ≡ rows ++ page ∷ [] → page ≡ zero_page interrupt_page
    → new ≡ base ++ map zero_page (stack_pages ++ interrupt_page ∷ [])
last_page i base rows new page so_far all pushed is =
    pushed
    ∙ ap (λ xs. xs ++ page ∷ []) (so_far ∙ ap (λ n. base ++ map zero_page (range_with_len 0x7FFF8 n)) all)
    ∙ append_assoc base (map zero_page stack_pages) (page ∷ [])
    ∙ ap (λ p. base ++ (map zero_page stack_pages ++ p ∷ [])) is
