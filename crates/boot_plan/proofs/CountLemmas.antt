-- How many pages a process starts with.
use Rattle.std.proofs.Common.{◌≡◌, ◌∙◌, ap, sym, refl, ℕ, ◌+◌, List, [], ◌∷◌, ◌++◌, map, length, sum_by, length-append, take, ◌≤◌}
use Rattle.std.specs.List.{range_with_len}
use Rattle.std.proofs.lemmas.List.{take_all}
use Rattle.std.proofs.lemmas.List.FromFn.{length-map-range_with_len}
use Rattle.std.proofs.lemmas.List.Sums.{sum_by-cons}
use Rattle.kernel_args.specs.declared.args.ProcArgs.{ProcArgs}
use Rattle.kernel_args.specs.declared.args.Section.{Section}
use Rattle.kernel_args.specs.Loads.{file_size}
use Rattle.boot_plan.specs.Sections.{page_count}
use Rattle.boot_plan.specs.FirstPages.{section_page, sections_pages, zero_page, stack_pages, interrupt_page, process_pages}

pub length-sections_pages : (offset : ℕ) (ss : List Section) → length (sections_pages offset ss) ≡ sum_by (λ s. page_count s.size) ss
length-sections_pages offset [] = refl
length-sections_pages offset (s ∷ ss) =
    length-append (map (section_page offset s) (range_with_len 0 (page_count s.size))) (sections_pages (offset + file_size s) ss)
    ∙ ap (λ n. n + length (sections_pages (offset + file_size s) ss)) (length-map-range_with_len (section_page offset s) 0 (page_count s.size))
    ∙ ap (λ n. page_count s.size + n) (length-sections_pages (offset + file_size s) ss)
    ∙ sym (sum_by-cons (λ t. page_count t.size) s ss)

pub length_process_pages : (p : ProcArgs) → length (process_pages p) ≡ sum_by (λ s. page_count s.size) p.sections + 9
length_process_pages p =
    length-append (sections_pages p.load p.sections) (map zero_page (stack_pages ++ interrupt_page ∷ []))
    ∙ ap (λ n. n + 9) (length-sections_pages p.load p.sections)

-- the pages counted along all sections
pub counted : (p : ProcArgs) (ss : List Section) (n count : ℕ) → ss ≡ p.sections → length ss ≤ n → count ≡ sum_by (λ s. page_count s.size) (take n ss) + 9 → count ≡ length (process_pages p)
counted p ss n count same all counts =
    counts
    ∙ ap (λ xs. sum_by (λ s. page_count s.size) xs + 9) (take_all n ss all ∙ same)
    ∙ sym (length_process_pages p)
