-- The pages of a process without fault: where they lie, what they hold, and that they differ.
use Rattle.std.proofs.Common.{◌≡◌, ◌∙◌, ap, sym, subst, ℕ, ◌+◌, ◌-◌, ◌*◌, ◌/◌, ◌<◌, ◌≤◌, min, Bool, true, false, ◌&&◌, ◌||◌, nat_lt, cond, List, [], ◌∷◌, ◌++◌, Some, is_some, arith, lit≤, All}
use Rattle.std.proofs.lemmas.List.Elements.{All-nil, All-append}
use Rattle.std.proofs.lemmas.List.Sums.{sum_by-cons}
use Rattle.std.proofs.lemmas.Bool.Decides.{nat_tests}
use Rattle.xk_base.specs.Numbers.Windows.{window_at}
use Rattle.xk_base.specs.declared.windows.Window.TheVariants.{Image}
use Rattle.kernel_args.specs.declared.args.Section.{Section}
use Rattle.boot_plan.specs.declared.plans.PagePlan.{PagePlan}
use Rattle.kernel_args.specs.Loads.{is_zero_filled, file_size, file_sizes}
use Rattle.boot_plan.specs.Sections.{page_count}
use Rattle.boot_plan.specs.FirstPages.{section_page, sections_pages}
use Rattle.boot_plan.specs.Lawful.{IsLawfulPage}
use Rattle.boot_plan.proofs.RangeLemmas.{outside_is}
use Rattle.boot_plan.proofs.ListLemmas.{All-made}
use Rattle.boot_plan.proofs.NoFaultLemmas.{IsPlaced, ArePlaced}

-- a page from 0x10 to 0xFFF lies in the Image window
image_window : (v : ℕ) → 0x10 ≤ v → v ≤ 0xFFF → window_at v ≡ Some Image
image_window v low high = grind (arith, nat_tests)

-- a run that doesn't leave the window
within_window : (a n i : ℕ) → (nat_lt 0 n && (nat_lt a 0x10 || nat_lt 0xFFF (a + n - 1))) ≡ false → i < n → (0x10 ≤ a + i) × (a + i ≤ 0xFFF)
within_window a n i h below = grind (arith, nat_tests)

in_image : (earlier : List Section) (s : Section) (i : ℕ) → IsPlaced earlier s → i < page_count s.size → window_at (s.addr / 4096 + i) ≡ Some Image
in_image earlier s i h below =
    let a = s.addr / 4096 in
    let n = page_count s.size in
    let w = within_window a n i (sym (outside_is 0x10 0xFFF a n (lit≤ tt)) ∙ h.inside) below in
    image_window (a + i) w.0 w.1

-- the bytes of page i of a section stand in the file
bytes_within : (zero_filled : Bool) (offset size i : ℕ) → i < page_count size
    → cond zero_filled 0 (offset + 4096 * i) + min 4096 (cond zero_filled 0 size - 4096 * i) ≤ offset + cond zero_filled 0 size
bytes_within true offset size i below = omega arith
bytes_within false offset size i below = omega arith

section_lawful : (file_len offset : ℕ) (earlier : List Section) (s : Section) → IsPlaced earlier s → offset + file_size s ≤ file_len
    → (i : ℕ) → i < page_count s.size → IsLawfulPage file_len (section_page offset s i)
section_lawful file_len offset earlier s placed fits i below =
    let within = bytes_within (is_zero_filled s) offset s.size i below in
    record {
      in_window = ap (λ w. is_some w) (in_image earlier s i placed below);
      len = omega arith;
      within = omega arith;
    }

pub sections_lawful : (file_len offset : ℕ) (earlier ss : List Section) → ArePlaced earlier ss → offset + file_sizes ss ≤ file_len
    → All (IsLawfulPage file_len) (sections_pages offset ss)
sections_lawful file_len offset earlier [] placed fits = All-nil (IsLawfulPage file_len)
sections_lawful file_len offset earlier (s ∷ ss) placed fits =
    let sizes = sum_by-cons file_size s ss in
    All-append (IsLawfulPage file_len) _ _
    (All-made (IsLawfulPage file_len) (section_page offset s) 0 (page_count s.size)
    (λ i below. subst (λ k. IsLawfulPage file_len (section_page offset s k)) (omega arith) (section_lawful file_len offset earlier s placed.0 (omega arith) i below)))
    (sections_lawful file_len (offset + file_size s) (earlier ++ s ∷ []) ss placed.1 (omega arith))

abbrev pub InImage : PagePlan → Type 0
InImage page = window_at page.vpn.0 ≡ Some Image

pub sections_in_image : (offset : ℕ) (earlier ss : List Section) → ArePlaced earlier ss → All InImage (sections_pages offset ss)
sections_in_image offset earlier [] placed = All-nil InImage
sections_in_image offset earlier (s ∷ ss) placed =
    All-append InImage _ _
    (All-made InImage (section_page offset s) 0 (page_count s.size)
    (λ i below. subst (λ k. InImage (section_page offset s k)) (omega arith) (in_image earlier s i placed.0 below)))
    (sections_in_image (offset + file_size s) (earlier ++ s ∷ []) ss placed.1)
