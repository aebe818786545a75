-- The pages of the sections of a process without fault differ.
use Rattle.std.proofs.Common.{◌≡◌, ◌≢◌, ◌∙◌, sym, subst, refl, ℕ, ◌+◌, ◌/◌, ◌<◌, Bool, true, false, ◌||◌, nat_eq, List, [], ◌∷◌, ◌++◌, map, length, arith, All, AllPairs}
use Rattle.std.specs.List.{list_any, range_with_len}
use Rattle.std.proofs.lemmas.List.Elements.{All-nil, All-append, All-weaker}
use Rattle.std.proofs.lemmas.List.FromFn.{length-range_with_len, get_or-range_with_len}
use Rattle.std.proofs.lemmas.List.Folds.{list_any-append}
use Rattle.std.proofs.lemmas.Bool.Decides.{nat_tests}
use Rattle.kernel_args.specs.declared.args.Section.{Section}
use Rattle.boot_plan.specs.declared.plans.PagePlan.{PagePlan}
use Rattle.kernel_args.specs.Loads.{file_size}
use Rattle.boot_plan.specs.Sections.{page_count, section_pages, has_page, shares_page}
use Rattle.boot_plan.specs.FirstPages.{section_page, sections_pages}
use Rattle.boot_plan.proofs.RangeLemmas.{in_run_is}
use Rattle.boot_plan.proofs.ListLemmas.{All-made, AllPairs-made, AllPairs-append, none_at}
use Rattle.boot_plan.proofs.NoFaultLemmas.{ArePlaced}

abbrev pub Differ : PagePlan → PagePlan → Type 0
Differ a b = a.vpn.0 ≢ b.vpn.0

-- none of these sections has the page
abbrev pub IsPageOfNone : List Section → PagePlan → Type 0
IsPageOfNone sections page = list_any (has_page page.vpn.0) sections ≡ false

pub neither : (b c : Bool) → (b || c) ≡ false → (b ≡ false) × (c ≡ false)
neither true c h = cc
neither false c h = (refl, h)

either_false : (b c : Bool) → b ≡ false → c ≡ false → (b || c) ≡ false
either_false b c h k = cc

not_shared : (s : Section) (i : ℕ) → i < page_count s.size → (ts : List Section) → list_any (shares_page s) ts ≡ false → list_any (has_page (s.addr / 4096 + i)) ts ≡ false
not_shared s i below [] h = refl
not_shared s i below (t ∷ ts) h =
    let v = s.addr / 4096 + i in
    let parts = neither (shares_page s t) (list_any (shares_page s) ts) h in
    let within : i < length (section_pages s) = omega (arith, length-range_with_len (s.addr / 4096) (page_count s.size)) in
    let here = none_at (λ vpn. has_page vpn t) (section_pages s) i 0 within parts.0 in
    let same = get_or-range_with_len (s.addr / 4096) (page_count s.size) i 0 below in
    either_false (has_page v t) (list_any (has_page v) ts) (subst (λ vpn. has_page vpn t ≡ false) same here) (not_shared s i below ts parts.1)

pub sections_apart : (offset : ℕ) (earlier ss : List Section) → ArePlaced earlier ss → All (IsPageOfNone earlier) (sections_pages offset ss)
sections_apart offset earlier [] placed = All-nil (IsPageOfNone earlier)
sections_apart offset earlier (s ∷ ss) placed =
    All-append (IsPageOfNone earlier) _ _
    (All-made (IsPageOfNone earlier) (section_page offset s) 0 (page_count s.size)
    (λ i below. subst (λ k. IsPageOfNone earlier (section_page offset s k)) (omega arith) (not_shared s i below earlier placed.0.apart)))
    (All-weaker (IsPageOfNone (earlier ++ s ∷ [])) (IsPageOfNone earlier)
    (λ page h. (neither (list_any (has_page page.vpn.0) earlier) (list_any (has_page page.vpn.0) (s ∷ [])) (sym (list_any-append (has_page page.vpn.0) earlier (s ∷ [])) ∙ h)).0)
    (sections_pages (offset + file_size s) ss)
    (sections_apart (offset + file_size s) (earlier ++ s ∷ []) ss placed.1))

not_in_run : (v a n i : ℕ) → list_any (nat_eq v) (range_with_len a n) ≡ false → i < n → a + i ≡ v → ⊥
not_in_run v a n i h below same = grind (arith, nat_tests, in_run_is v a n)

-- a page that none of these sections has isn't one of the last
not_last : (offset : ℕ) (earlier : List Section) (s : Section) (i : ℕ) → i < page_count s.size → (page : PagePlan) → IsPageOfNone (earlier ++ s ∷ []) page → Differ (section_page offset s i) page
not_last offset earlier s i below page h same =
    let v = page.vpn.0 in
    let parts = neither (list_any (has_page v) earlier) (list_any (has_page v) (s ∷ [])) (sym (list_any-append (has_page v) earlier (s ∷ [])) ∙ h) in
    not_in_run v (s.addr / 4096) (page_count s.size) i (neither (has_page v s) false parts.1).0 below same

pub sections_differ : (offset : ℕ) (earlier ss : List Section) → ArePlaced earlier ss → AllPairs Differ (sections_pages offset ss)
sections_differ offset earlier [] placed = λ i j d less within. absurd (omega arith)
sections_differ offset earlier (s ∷ ss) placed =
    let rest = sections_pages (offset + file_size s) ss in
    AllPairs-append Differ (map (section_page offset s) (range_with_len 0 (page_count s.size))) rest
    (AllPairs-made Differ (section_page offset s) 0 (page_count s.size) (λ i j less same. omega arith))
    (sections_differ (offset + file_size s) (earlier ++ s ∷ []) ss placed.1)
    (All-made (λ page. All (Differ page) rest) (section_page offset s) 0 (page_count s.size)
    (λ i below. All-weaker (IsPageOfNone (earlier ++ s ∷ [])) (Differ (section_page offset s (0 + i)))
    (λ page h. not_last offset earlier s (0 + i) (omega arith) page h) rest
    (sections_apart (offset + file_size s) (earlier ++ s ∷ []) ss placed.1)))
