-- A plan without fault is lawful, and a kernel can start it.
use Rattle.std.proofs.Common.{◌≡◌, ◌≢◌, ◌∙◌, ap, sym, subst, refl, ℕ, ◌+◌, ◌-◌, ◌*◌, ◌/◌, ◌%◌, ◌<◌, ◌≤◌, Bool, true, false, not, ◌&&◌, ◌||◌, ◌==◌, nat_eq, nat_lt, List, [], ◌∷◌, ◌++◌, map, length, Option, Some, None, unwrap_or, IfSome, is_some, IsTrue, arith, ◌⊎◌, inl, inr, All, AllPairs, Any}
use Rattle.std.specs.List.{list_any, range_with_len}
use Rattle.std.specs.Option.{option_or}
use Rattle.std.proofs.lemmas.List.{length-map}
use Rattle.std.proofs.lemmas.List.Elements.{All-nil, All-cons, All-append, All-weaker, All-map, All-from_recursion}
use Rattle.std.proofs.lemmas.List.FromFn.{length-map-range_with_len, get_or-map-range_with_len}
use Rattle.std.proofs.lemmas.Bool.Decides.{nat_tests}
use Rattle.xk_base.specs.Numbers.Windows.{window_at}
use Rattle.xk_base.specs.declared.windows.Window.TheVariants.{Image, Stack, Heap}
use Rattle.kernel_args.specs.declared.args.Args.{Args}
use Rattle.kernel_args.specs.declared.args.ProcArgs.{ProcArgs}
use Rattle.kernel_args.specs.declared.args.Section.{Section}
use Rattle.kernel_args.specs.Image.{IsSoundArgs, process_limit}
use Rattle.boot_plan.specs.declared.plans.PagePlan.{PagePlan}
use Rattle.kernel_args.specs.Loads.{file_size, file_sizes}
use Rattle.boot_plan.specs.Sections.{page_count, has_page, is_executable}
use Rattle.xk_base.specs.Numbers.Limits.{table_frames}
use Rattle.boot_plan.specs.Capacity.{capacity}
use Rattle.boot_plan.specs.FirstPages.{section_page, sections_pages, zero_page, stack_pages, interrupt_page, process_plan, plan_of, planned_pages}
use Rattle.boot_plan.specs.Faults.{plan_fault}
use Rattle.boot_plan.specs.Slots.{slots_used}
use Rattle.boot_plan.specs.Lawful.{IsLawfulPage, IsLawfulProcess, IsLawfulPlan, CanStart, EntersExecutable}
use Rattle.boot_plan.proofs.RangeLemmas.{in_run_is}
use Rattle.boot_plan.proofs.ListLemmas.{All-made, AllPairs-made, AllPairs-append, Any-left, Any-right}
use Rattle.boot_plan.proofs.NoFaultLemmas.{IsFaultless, all_faultless, enough_ram}
use Rattle.boot_plan.proofs.LawfulPageLemmas.{InImage, sections_lawful, sections_in_image}
use Rattle.boot_plan.proofs.DifferentPageLemmas.{Differ, sections_differ}

-- ---- the stack and the interrupt page

abbrev InStack : PagePlan → Type 0
InStack page = window_at page.vpn.0 ≡ Some Stack

abbrev zero_pages : List PagePlan
zero_pages = map zero_page (stack_pages ++ interrupt_page ∷ [])

zeros_in_stack : All InStack zero_pages
zeros_in_stack = All-from_recursion InStack zero_pages (refl, (refl, (refl, (refl, (refl, (refl, (refl, (refl, (refl, tt)))))))))

zero_lawful : (file_len vpn : ℕ) → window_at vpn ≡ Some Stack → IsLawfulPage file_len (zero_page vpn)
zero_lawful file_len vpn h = record { in_window = ap (λ w. is_some w) h; len = omega arith; within = omega arith }

zeros_lawful : (file_len : ℕ) → All (IsLawfulPage file_len) zero_pages
zeros_lawful file_len =
    let z = λ (vpn : ℕ) (h : window_at vpn ≡ Some Stack). zero_lawful file_len vpn h in
    All-from_recursion (IsLawfulPage file_len) zero_pages
    (z 0x7FFF8 refl, (z 0x7FFF9 refl, (z 0x7FFFA refl, (z 0x7FFFB refl, (z 0x7FFFC refl, (z 0x7FFFD refl, (z 0x7FFFE refl, (z 0x7FFFF refl, (z 0x7F000 refl, tt)))))))))

zeros_differ : AllPairs Differ zero_pages
zeros_differ =
    AllPairs-append Differ (map zero_page (range_with_len 0x7FFF8 8)) (zero_page interrupt_page ∷ [])
    (AllPairs-made Differ zero_page 0x7FFF8 8 (λ i j less same. omega arith))
    (λ i j d less within. absurd (omega arith))
    (All-made (λ page. All (Differ page) (zero_page interrupt_page ∷ [])) zero_page 0x7FFF8 8
    (λ i below. All-cons (Differ (zero_page (0x7FFF8 + i))) (zero_page interrupt_page) [] (λ same. omega arith) (All-nil (Differ (zero_page (0x7FFF8 + i))))))

-- ---- one process

apart : (a b : PagePlan) → InImage a → InStack b → Differ a b
apart a b h k same = let here : Some Image ≡ Some Stack = sym h ∙ ap (λ v. window_at v) same ∙ k in cc

load_within : (load words file_len sizes : ℕ) → (nat_lt load (4 * words) || nat_lt file_len (load + sizes)) ≡ false → load + sizes ≤ file_len
load_within load words file_len sizes h = grind (arith, nat_tests)

pub load_fits : (words : ℕ) (file : List ℕ) (p : ProcArgs) → IsFaultless words file p → p.load + file_sizes p.sections ≤ length file
load_fits words file p h = load_within p.load words (length file) (file_sizes p.sections) h.load

pub lawful_process : (words : ℕ) (file : List ℕ) (p : ProcArgs) → IsFaultless words file p → IsLawfulProcess (length file) (process_plan p)
lawful_process words file p h =
    let sections = sections_pages p.load p.sections in
    record {
      pages = All-append (IsLawfulPage (length file)) sections zero_pages
          (sections_lawful (length file) p.load [] p.sections h.sections (load_fits words file p h)) (zeros_lawful (length file));
      different = AllPairs-append Differ sections zero_pages
          (sections_differ p.load [] p.sections h.sections) zeros_differ
          (All-weaker InImage (λ a. All (Differ a) zero_pages)
          (λ a in_image. All-weaker InStack (Differ a) (λ b in_stack. apart a b in_image in_stack) zero_pages zeros_in_stack)
          sections (sections_in_image p.load [] p.sections h.sections));
    }

entry_parts : (aligned code : Bool) → (not aligned || not code) ≡ false → (aligned ≡ true) × (code ≡ true)
entry_parts true true h = (refl, refl)
entry_parts true false h = cc
entry_parts false code h = cc

aligned_is : (n : ℕ) → nat_eq n 0 ≡ true → n ≡ 0
aligned_is n h = grind (arith, nat_tests)

not_heap_in_image : (page : PagePlan) → InImage page → window_at page.vpn.0 ≢ Some Heap
not_heap_in_image page h k = let here : Some Image ≡ Some Heap = sym h ∙ k in cc

not_heap_in_stack : (page : PagePlan) → InStack page → window_at page.vpn.0 ≢ Some Heap
not_heap_in_stack page h k = let here : Some Stack ≡ Some Heap = sym h ∙ k in cc

abbrev NoHeap : PagePlan → Type 0
NoHeap page = window_at page.vpn.0 ≢ Some Heap

pub can_start : (words : ℕ) (file : List ℕ) (p : ProcArgs) → IsFaultless words file p → CanStart (process_plan p)
can_start words file p h =
    let sections = sections_pages p.load p.sections in
    record {
      entry = aligned_is (p.entry % 4) (entry_parts (p.entry % 4 == 0) _ h.entry).0;
      no_heap = All-append NoHeap sections zero_pages
          (All-weaker InImage NoHeap not_heap_in_image sections (sections_in_image p.load [] p.sections h.sections))
          (All-weaker InStack NoHeap not_heap_in_stack zero_pages zeros_in_stack);
    }

-- ---- the page of the entry

abbrev IsCode : ℕ → PagePlan → Type 0
IsCode vpn page = (page.vpn.0 ≡ vpn) × IsTrue page.right.x

both : (b c : Bool) → (b && c) ≡ true → (b ≡ true) × (c ≡ true)
both true c h = (refl, h)
both false c h = cc

one_of : (b c : Bool) → (b || c) ≡ true → (b ≡ true) ⊎ (c ≡ true)
one_of true c h = inl refl
one_of false c h = inr h

in_run : (v a n : ℕ) → list_any (nat_eq v) (range_with_len a n) ≡ true → (v - a < n) × (a + (v - a) ≡ v)
in_run v a n h = grind (arith, nat_tests, in_run_is v a n)

section_code : (offset vpn : ℕ) (s : Section) → (is_executable s && has_page vpn s) ≡ true → Any (IsCode vpn) (map (section_page offset s) (range_with_len 0 (page_count s.size)))
section_code offset vpn s h =
    let parts = both (is_executable s) (has_page vpn s) h in
    let here = in_run vpn (s.addr / 4096) (page_count s.size) parts.1 in
    let i = vpn - s.addr / 4096 in
    let page = section_page offset s i in (
      i,
      page,
      omega (arith, here.0, length-map-range_with_len (section_page offset s) 0 (page_count s.size)),
      get_or-map-range_with_len (section_page offset s) 0 (page_count s.size) i i page here.0 (omega arith),
      (here.1, parts.0),
    )

sections_code : (offset vpn : ℕ) (ss : List Section) → list_any (λ s. is_executable s && has_page vpn s) ss ≡ true → Any (IsCode vpn) (sections_pages offset ss)
sections_code offset vpn [] h = cc
sections_code offset vpn (s ∷ ss) h =
    let pages = map (section_page offset s) (range_with_len 0 (page_count s.size)) in
    let rest = sections_pages (offset + file_size s) ss in
    elim (one_of (is_executable s && has_page vpn s) (list_any (λ t. is_executable t && has_page vpn t) ss) h) [
      | inl here ↦ Any-left (IsCode vpn) pages rest (section_code offset vpn s here)
      | inr later ↦ Any-right (IsCode vpn) pages rest (sections_code (offset + file_size s) vpn ss later)
    ]

pub enters_executable : (words : ℕ) (file : List ℕ) (p : ProcArgs) → IsFaultless words file p → EntersExecutable (process_plan p)
enters_executable words file p h =
    let code = (entry_parts (p.entry % 4 == 0) (list_any (λ s. is_executable s && has_page (p.entry / 4096) s) p.sections) h.entry).1 in
    Any-left (IsCode (p.entry / 4096)) (sections_pages p.load p.sections) zero_pages (sections_code p.load (p.entry / 4096) p.sections code)

-- ---- the whole plan

ram_parts : (frames tables room pages : ℕ) → (nat_lt frames (tables + 2) || nat_lt room pages) ≡ false → (tables + 2 ≤ frames) × (pages ≤ room)
ram_parts frames tables room pages h = grind (arith, nat_tests)

few_processes : (version : ℕ) → process_limit version ≤ 64
few_processes version = grind (arith, nat_tests)

few_slots : (args : Args) (asked : Option ℕ) → IsSoundArgs args → IfSome asked (λ n. n ≤ 16384) → slots_used args asked ≤ 16384
few_slots args asked sound few = go asked args.slots few sound.slots
  where
    go : (one other : Option ℕ) → IfSome one (λ n. n ≤ 16384) → IfSome other (λ n. (args.version ≡ 2) × (n ≤ 16384)) → unwrap_or (option_or one other) 0 ≤ 16384
    go (Some n) other few own = few
    go None (Some n) few own = own.1
    go None None few own = omega arith

pub lawful_plan : (args : Args) (file : List ℕ) (asked : Option ℕ) → IsSoundArgs args → IfSome asked (λ n. n ≤ 16384) → plan_fault args file asked ≡ None
    → IsLawfulPlan (length file) (plan_of args asked)
lawful_plan args file asked sound few h =
    let n = length args.procs in
    let frames = args.ram_size / 4096 in
    let slots = slots_used args asked in
    let same : length (map process_plan args.procs) ≡ n = length-map args.procs process_plan in
    let room = ram_parts frames (table_frames n) (capacity frames n slots) (planned_pages (plan_of args asked)) (enough_ram args file asked h) in
    record {
      some = omega (arith, sound.some);
      few = omega (arith, sound.few, few_processes args.version);
      tables = omega (arith, room.0);
      frames = omega (arith, sound.ram.few);
      start_whole = sound.ram.start_whole;
      below = omega (arith, sound.ram.below);
      slots = few_slots args asked sound few;
      procs = All-map (IsLawfulProcess (length file)) process_plan args.procs
          (All-weaker (IsFaultless args.words file) (λ p. IsLawfulProcess (length file) (process_plan p)) (λ p q. lawful_process args.words file p q) args.procs (all_faultless args file asked h));
      fits = subst (λ k. planned_pages (plan_of args asked) ≤ capacity frames k slots) (sym same) room.1;
    }

pub plan_can_start : (args : Args) (file : List ℕ) (asked : Option ℕ) → plan_fault args file asked ≡ None → All CanStart (map process_plan args.procs)
plan_can_start args file asked h =
    All-map CanStart process_plan args.procs
    (All-weaker (IsFaultless args.words file) (λ p. CanStart (process_plan p)) (λ p q. can_start args.words file p q) args.procs (all_faultless args file asked h))

pub plan_enters_executable : (args : Args) (file : List ℕ) (asked : Option ℕ) → plan_fault args file asked ≡ None → All EntersExecutable (map process_plan args.procs)
plan_enters_executable args file asked h =
    All-map EntersExecutable process_plan args.procs
    (All-weaker (IsFaultless args.words file) (λ p. EntersExecutable (process_plan p)) (λ p q. enters_executable args.words file p q) args.procs (all_faultless args file asked h))

pub loads_fit : (args : Args) (file : List ℕ) (asked : Option ℕ) → plan_fault args file asked ≡ None → All (λ p. p.load + file_sizes p.sections ≤ length file) args.procs
loads_fit args file asked h =
    All-weaker (IsFaultless args.words file) (λ p. p.load + file_sizes p.sections ≤ length file) (λ p q. load_fits args.words file p q) args.procs (all_faultless args file asked h)
