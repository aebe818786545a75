-- The sections of a process stand in its first pages.
use Rattle.std.proofs.Common.{◌≡◌, ◌∙◌, ap, subst, refl, ℕ, zero, suc, ◌+◌, ◌-◌, ◌*◌, ◌/◌, ◌%◌, ◌<◌, min, Bool, true, false, cond, nat_lt, List, [], ◌∷◌, ◌++◌, map, length, take, get_or, slice_index_or, arith, Any}
use Rattle.std.specs.List.{flat_map, range_with_len}
use Rattle.std.proofs.lemmas.List.{map-append}
use Rattle.std.proofs.lemmas.List.FromFn.{length-map-range_with_len, get_or-map-range_with_len}
use Rattle.std.proofs.lemmas.List.Sums.{sum_by-cons}
use Rattle.std.proofs.lemmas.Bool.Decides.{nat_tests}
use Rattle.kernel_args.specs.declared.args.ProcArgs.{ProcArgs}
use Rattle.kernel_args.specs.declared.args.Section.{Section}
use Rattle.boot_plan.specs.declared.plans.PagePlan.{PagePlan}
use Rattle.kernel_args.specs.Loads.{is_zero_filled, file_size, file_sizes}
use Rattle.boot_plan.specs.Sections.{page_count, section_pages}
use Rattle.boot_plan.specs.FirstPages.{section_page, sections_pages, zero_page, stack_pages, interrupt_page, process_pages}
use Rattle.boot_plan.specs.Content.{page_byte, HoldsByte}
use Rattle.boot_plan.proofs.ListLemmas.{Any-left, Any-right}

-- ---- the page numbers

abbrev vpn_of : PagePlan → ℕ
vpn_of page = page.vpn.0

section_vpns : (offset : ℕ) (s : Section) (i n : ℕ) → map vpn_of (map (section_page offset s) (range_with_len i n)) ≡ range_with_len (s.addr / 4096 + i) n
section_vpns offset s i zero = refl
section_vpns offset s i (suc n) =
    ap (λ xs. (s.addr / 4096 + i) ∷ xs) (section_vpns offset s (i + 1) n ∙ ap (λ a. range_with_len a n) (omega arith))

sections_vpns : (offset : ℕ) (ss : List Section) → map vpn_of (sections_pages offset ss) ≡ flat_map section_pages ss
sections_vpns offset [] = refl
sections_vpns offset (s ∷ ss) =
    map-append vpn_of (map (section_page offset s) (range_with_len 0 (page_count s.size))) (sections_pages (offset + file_size s) ss)
    ∙ ap (λ xs. xs ++ map vpn_of (sections_pages (offset + file_size s) ss))
    (section_vpns offset s 0 (page_count s.size) ∙ ap (λ a. range_with_len a (page_count s.size)) (omega arith))
    ∙ ap (λ xs. section_pages s ++ xs) (sections_vpns (offset + file_size s) ss)

pub process_vpns : (p : ProcArgs) → map (λ page. page.vpn.0) (process_pages p) ≡ flat_map section_pages p.sections ++ (stack_pages ++ interrupt_page ∷ [])
process_vpns p =
    map-append vpn_of (sections_pages p.load p.sections) (map zero_page (stack_pages ++ interrupt_page ∷ []))
    ∙ ap (λ xs. xs ++ (stack_pages ++ interrupt_page ∷ [])) (sections_vpns p.load p.sections)

-- ---- the bytes

-- byte k of a section, as the byte of page k / 4096 at k % 4096
byte_in_page : (file : List ℕ) (zero_filled : Bool) (offset size k : ℕ)
    → cond (nat_lt (k % 4096) (min 4096 (cond zero_filled 0 size - 4096 * (k / 4096)))) (slice_index_or file (cond zero_filled 0 (offset + 4096 * (k / 4096)) + k % 4096) 0) 0
    ≡ cond (nat_lt k (cond zero_filled 0 size)) (slice_index_or file (offset + k) 0) 0
byte_in_page file true offset size k = grind (arith, nat_tests)
byte_in_page file false offset size k =
    let at : offset + 4096 * (k / 4096) + k % 4096 ≡ offset + k = omega arith in
    let test : nat_lt (k % 4096) (min 4096 (size - 4096 * (k / 4096))) ≡ nat_lt k size = grind (arith, nat_tests) in
    cc

page_holds : (file : List ℕ) (offset : ℕ) (s : Section) (k : ℕ) → s.addr % 4096 ≡ 0 → HoldsByte file offset s k (section_page offset s (k / 4096))
page_holds file offset s k aligned =
    let within : (s.addr + k) % 4096 ≡ k % 4096 = omega arith in
    record {
      vpn = omega arith;
      byte = ap (page_byte file (section_page offset s (k / 4096))) within ∙ byte_in_page file (is_zero_filled s) offset s.size k;
      w = refl;
      x = refl;
    }

section_holds : (file : List ℕ) (offset : ℕ) (s : Section) (k : ℕ) → s.addr % 4096 ≡ 0 → k < 4096 * page_count s.size
    → Any (HoldsByte file offset s k) (map (section_page offset s) (range_with_len 0 (page_count s.size)))
section_holds file offset s k aligned below =
    let n = page_count s.size in
    let i = k / 4096 in
    let at : i < n = omega arith in
    let page = section_page offset s i in (
      i,
      page,
      omega (arith, at, length-map-range_with_len (section_page offset s) 0 n),
      get_or-map-range_with_len (section_page offset s) 0 n i i page at (omega arith),
      page_holds file offset s k aligned,
    )

sections_hold : (file : List ℕ) (offset : ℕ) (ss : List Section) (i k : ℕ) (d : Section) → i < length ss
    → (get_or ss i d).addr % 4096 ≡ 0 → k < 4096 * page_count (get_or ss i d).size
    → Any (HoldsByte file (offset + file_sizes (take i ss)) (get_or ss i d) k) (sections_pages offset ss)
sections_hold file offset [] i k d within aligned below = absurd (omega arith)
sections_hold file offset (s ∷ ss) zero k d within aligned below =
    let pages = map (section_page offset s) (range_with_len 0 (page_count s.size)) in
    let start : offset ≡ offset + 0 = omega arith in
    Any-left (HoldsByte file (offset + 0) s k) pages (sections_pages (offset + file_size s) ss)
    (subst (λ o. Any (HoldsByte file o s k) pages) start (section_holds file offset s k aligned below))
sections_hold file offset (s ∷ ss) (suc i) k d within aligned below =
    let sizes = sum_by-cons file_size s (take i ss) in
    let start : offset + file_size s + file_sizes (take i ss) ≡ offset + file_sizes (s ∷ take i ss) = omega arith in
    Any-right (HoldsByte file (offset + file_sizes (s ∷ take i ss)) (get_or ss i d) k)
    (map (section_page offset s) (range_with_len 0 (page_count s.size))) (sections_pages (offset + file_size s) ss)
    (subst (λ o. Any (HoldsByte file o (get_or ss i d) k) (sections_pages (offset + file_size s) ss)) start
    (sections_hold file (offset + file_size s) ss i k d (omega arith) aligned below))

pub process_holds : (file : List ℕ) (p : ProcArgs) (i k : ℕ) (d : Section) → i < length p.sections
    → (slice_index_or p.sections i d).addr % 4096 ≡ 0 → k < 4096 * page_count (slice_index_or p.sections i d).size
    → Any (HoldsByte file (p.load + file_sizes (take i p.sections)) (slice_index_or p.sections i d) k) (process_pages p)
process_holds file p i k d within aligned below =
    Any-left (HoldsByte file (p.load + file_sizes (take i p.sections)) (slice_index_or p.sections i d) k)
    (sections_pages p.load p.sections) (map zero_page (stack_pages ++ interrupt_page ∷ []))
    (sections_hold file p.load p.sections i k d within aligned below)
