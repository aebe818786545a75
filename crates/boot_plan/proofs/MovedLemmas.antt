-- A file whose first bytes were exchanged for others: what stood behind them has moved, and a process that is told so
-- has the same plan, but for the places of its bytes.
use Rattle.std.proofs.Common.{◌≡◌, ◌∙◌, ap, sym, subst, refl, ℕ, ◌+◌, ◌-◌, ◌*◌, ◌/◌, ◌<◌, ◌≤◌, min, Bool, true, false, not, cond, ◌||◌, ◌==◌, nat_lt, List, [], ◌∷◌, ◌++◌, map, length, take, drop, get_or, slice_index_or, Option, Some, None, sum_by, unwrap_or, arith}
use Rattle.std.specs.List.{range_with_len, AllByRecursion}
use Rattle.std.specs.Option.{option_or}
use Rattle.std.proofs.lemmas.List.{drop-drop, get_or-drop, length-drop, length-map}
use Rattle.std.proofs.lemmas.List.Sums.{sum_by-cons}
use Rattle.std.proofs.lemmas.Bool.Decides.{nat_tests}
use Rattle.kernel_args.specs.declared.args.Args.{Args}
use Rattle.kernel_args.specs.declared.args.ProcArgs.{ProcArgs}
use Rattle.kernel_args.specs.declared.args.Section.{Section}
use Rattle.kernel_args.specs.declared.faults.ArgFault.{ArgFault}
use Rattle.kernel_args.specs.CheckNumber.{check_number}
use Rattle.kernel_args.specs.Faults.{Check, ◌⇒◌at◌, first_fault}
use Rattle.boot_plan.specs.FaultNumbers.{load_outside, bad_load, entry_outside, ram_too_small}
use Rattle.kernel_args.specs.Loads.{is_zero_filled, file_size, file_sizes, loaded_bytes, is_load_outside}
use Rattle.boot_plan.specs.Sections.{page_count}
use Rattle.xk_base.specs.Numbers.Limits.{table_frames}
use Rattle.boot_plan.specs.Capacity.{capacity}
use Rattle.boot_plan.specs.declared.plans.ProcPlan.{ProcPlan}
use Rattle.boot_plan.specs.Slots.{slots_used}
use Rattle.boot_plan.specs.FirstPages.{section_page, sections_pages, process_pages, process_plan, plan_of, planned_pages}
use Rattle.boot_plan.specs.Faults.{sections_faults, is_bad_check, is_bad_load, is_entry_outside, process_faults, processes_faults, is_ram_too_small, plan_fault}
use Rattle.boot_plan.specs.declared.plans.PagePlan.{PagePlan}
use Rattle.boot_plan.specs.Content.{page_byte}
use Rattle.boot_plan.proofs.CountLemmas.{length_process_pages}
use Rattle.boot_plan.proofs.FirstFaultLemmas.{first_fault_append}
use Rattle.boot_plan.proofs.NoFaultLemmas.{enough_ram, faultless_left, faultless_right}

-- what stands in the file from `before` on stands in the other from `after` on
pub record HasMoved (file moved : List ℕ) (before after : ℕ) : Type 0 where
  pub within : before ≤ length file
  pub within_moved : after ≤ length moved
  pub rest : drop after moved ≡ drop before file

-- the same process, whose bytes stand in the file from `before` on and have moved so; it has their check word
pub record IsMoved (file : List ℕ) (before after : ℕ) (p q : ProcArgs) : Type 0 where
  pub behind : before ≤ p.load
  pub load : q.load + before ≡ p.load + after
  pub entry : q.entry ≡ p.entry
  pub sections : q.sections ≡ p.sections
  pub check : q.check ≡ Some (check_number (loaded_bytes file p))

-- ---- bytes

moved_length : (file moved : List ℕ) (before after : ℕ) → HasMoved file moved before after → length moved + before ≡ length file + after
moved_length file moved before after h =
    let rest = ap (λ (xs : List ℕ). length xs) h.rest in
    omega (arith, h.within, h.within_moved, length-drop after moved, length-drop before file)

moved_rest : (file moved : List ℕ) (before after here there : ℕ) → HasMoved file moved before after → before ≤ here → there + before ≡ here + after
    → drop there moved ≡ drop here file
moved_rest file moved before after here there h behind same =
    let k = here - before in
    let left : before + k ≡ here = omega arith in
    let right : after + k ≡ there = omega arith in
    ap (λ n. drop n moved) (sym right)
    ∙ sym (drop-drop k after moved)
    ∙ ap (drop k) h.rest
    ∙ drop-drop k before file
    ∙ ap (λ n. drop n file) left

pub moved_byte : (file moved : List ℕ) (before after here there : ℕ) → HasMoved file moved before after → before ≤ here → there + before ≡ here + after
    → slice_index_or moved there 0 ≡ slice_index_or file here 0
moved_byte file moved before after here there h behind same =
    let zero_on : (n : ℕ) (xs : List ℕ) → get_or (drop n xs) 0 0 ≡ get_or xs n 0 = λ n xs. get_or-drop n xs 0 0 ∙ ap (λ k. get_or xs k 0) (omega arith) in
    sym (zero_on there moved) ∙ ap (λ (xs : List ℕ). get_or xs 0 0) (moved_rest file moved before after here there h behind same) ∙ zero_on here file

loaded_moved : (file moved : List ℕ) (before after : ℕ) (p q : ProcArgs) → HasMoved file moved before after → IsMoved file before after p q
    → loaded_bytes moved q ≡ loaded_bytes file p
loaded_moved file moved before after p q h m =
    ap (λ (ss : List Section). take (file_sizes ss) (drop q.load moved)) m.sections
    ∙ ap (take (file_sizes p.sections)) (moved_rest file moved before after p.load q.load h m.behind m.load)

-- ---- the faults of a process

none_of_both : (a b : Option ArgFault) → a ≡ None → b ≡ None → option_or a b ≡ None
none_of_both a b p q = ap (λ o. option_or o b) p ∙ q

joined_none : (xs ys : List Check) → first_fault xs ≡ None → first_fault ys ≡ None → first_fault (xs ++ ys) ≡ None
joined_none xs ys p q = first_fault_append xs ys ∙ none_of_both (first_fault xs) (first_fault ys) p q

not_both : (b : Bool) (f : ArgFault) (o : Option ArgFault) → cond b (Some f) o ≡ None → (b ≡ false) × (o ≡ None)
not_both true f o h = cc
not_both false f o h = (refl, h)

one_more : (b : Bool) (f : ArgFault) (o : Option ArgFault) → b ≡ false → o ≡ None → cond b (Some f) o ≡ None
one_more true f o p q = cc
one_more false f o p q = q

right_check : (bytes : List ℕ) → is_bad_check (Some (check_number bytes)) bytes ≡ false
right_check bytes = grind (arith, nat_tests)

still_inside : (load there sizes before after len moved : ℕ) → (nat_lt load before || nat_lt len (load + sizes)) ≡ false → there + before ≡ load + after
    → moved + before ≡ len + after → (nat_lt there after || nat_lt moved (there + sizes)) ≡ false
still_inside load there sizes before after len moved h same size = grind (arith, nat_tests)

moved_process : (words there pid : ℕ) (file moved : List ℕ) (p q : ProcArgs) → HasMoved file moved (4 * words) (4 * there) → IsMoved file (4 * words) (4 * there) p q
    → first_fault (process_faults words file pid p) ≡ None → first_fault (process_faults there moved pid q) ≡ None
moved_process words there pid file moved p q h m none =
    let ends = (is_load_outside words (length file) p ⇒ load_outside at pid) ∷ (is_bad_load file p ⇒ bad_load at pid) ∷ (is_entry_outside p ⇒ entry_outside at pid) ∷ [] in
    let sections = faultless_left (sections_faults pid [] p.sections) ends none in
    let load = not_both (is_load_outside words (length file) p) _ _ (faultless_right (sections_faults pid [] p.sections) ends none) in
    let check = not_both (is_bad_load file p) _ _ load.1 in
    let entry = not_both (is_entry_outside p) _ _ check.1 in
    let inside : is_load_outside there (length moved) q ≡ false =
    ap (λ (ss : List Section). nat_lt q.load (4 * there) || nat_lt (length moved) (q.load + file_sizes ss)) m.sections
    ∙ still_inside p.load q.load (file_sizes p.sections) (4 * words) (4 * there) (length file) (length moved) load.0 m.load (moved_length file moved (4 * words) (4 * there) h) in
    let right : is_bad_load moved q ≡ false =
    ap (λ c. is_bad_check c (loaded_bytes moved q)) m.check
    ∙ ap (is_bad_check (Some (check_number (loaded_bytes file p)))) (loaded_moved file moved (4 * words) (4 * there) p q h m)
    ∙ right_check (loaded_bytes file p) in
    let enters : is_entry_outside q ≡ false = subst (λ ss. is_entry_outside (record q { sections = ss }) ≡ false) (sym m.sections) (subst (λ e. is_entry_outside (record q { sections = p.sections; entry = e }) ≡ false) (sym m.entry) entry.0) in
    joined_none (sections_faults pid [] q.sections)
    ((is_load_outside there (length moved) q ⇒ load_outside at pid) ∷ (is_bad_load moved q ⇒ bad_load at pid) ∷ (is_entry_outside q ⇒ entry_outside at pid) ∷ [])
    (subst (λ ss. first_fault (sections_faults pid [] ss) ≡ None) (sym m.sections) sections)
    (one_more (is_load_outside there (length moved) q) _ _ inside
    (one_more (is_bad_load moved q) _ _ right (one_more (is_entry_outside q) _ _ enters refl)))

-- ---- the faults of a plan

module _ (file moved : List ℕ) (words there : ℕ) (h : HasMoved file moved (4 * words) (4 * there)) (f : ProcArgs → ProcArgs) where
  moved_processes : (pid : ℕ) (ps : List ProcArgs) → AllByRecursion (λ p. IsMoved file (4 * words) (4 * there) p (f p)) ps
      → first_fault (processes_faults words file pid ps) ≡ None → first_fault (processes_faults there moved pid (map f ps)) ≡ None
  moved_processes pid [] m none = refl
  moved_processes pid (p ∷ ps) m none =
      joined_none (process_faults there moved pid (f p)) (processes_faults there moved (pid + 1) (map f ps))
      (moved_process words there pid file moved p (f p) h m.0 (faultless_left (process_faults words file pid p) (processes_faults words file (pid + 1) ps) none))
      (moved_processes (pid + 1) ps m.1 (faultless_right (process_faults words file pid p) (processes_faults words file (pid + 1) ps) none))

-- ---- the plan

same_count : (p q : ProcArgs) → q.sections ≡ p.sections → length (process_pages q) ≡ length (process_pages p)
same_count p q same =
    length_process_pages q ∙ ap (λ (ss : List Section). sum_by (λ s. page_count s.size) ss + 9) same ∙ sym (length_process_pages p)

same_counts : (f : ProcArgs → ProcArgs) (ps : List ProcArgs) → AllByRecursion (λ p. (f p).sections ≡ p.sections) ps
    → sum_by (λ p. length p.pages) (map process_plan (map f ps)) ≡ sum_by (λ p. length p.pages) (map process_plan ps)
same_counts f [] same = refl
same_counts f (p ∷ ps) same =
    sum_by-cons (λ r. length r.pages) (process_plan (f p)) (map process_plan (map f ps))
    ∙ ap (λ n. n + sum_by (λ r. length r.pages) (map process_plan (map f ps))) (same_count p (f p) same.0)
    ∙ ap (λ n. length (process_pages p) + n) (same_counts f ps same.1)
    ∙ sym (sum_by-cons (λ r. length r.pages) (process_plan p) (map process_plan ps))

-- the arguments of an image, and those of one whose row of tags was exchanged for another
pub record IsMovedImage (file moved : List ℕ) (args other : Args) : Type 0 where
  pub bytes : HasMoved file moved (4 * args.words) (4 * other.words)
  pub ram_start : other.ram_start ≡ args.ram_start
  pub ram_size : other.ram_size ≡ args.ram_size
  pub slots : other.slots ≡ args.slots
  pub change : ProcArgs → ProcArgs
  pub procs : other.procs ≡ map change args.procs
  pub each : AllByRecursion (λ p. IsMoved file (4 * args.words) (4 * other.words) p (change p)) args.procs

each_same : (file : List ℕ) (before after : ℕ) (f : ProcArgs → ProcArgs) (ps : List ProcArgs) → AllByRecursion (λ p. IsMoved file before after p (f p)) ps
    → AllByRecursion (λ p. (f p).sections ≡ p.sections) ps
each_same file before after f [] m = tt
each_same file before after f (p ∷ ps) m = (m.0.sections, each_same file before after f ps m.1)

-- whether RAM is too small, by what it depends on
abbrev too_small : Option ℕ → ℕ → ℕ → Option ℕ → ℕ → Bool
too_small asked size n slots pages =
    nat_lt (size / 4096) (table_frames n + 2) || nat_lt (capacity (size / 4096) n (unwrap_or (option_or asked slots) 0)) pages

pub moved_plan : (file moved : List ℕ) (args other : Args) (asked : Option ℕ) → IsMovedImage file moved args other
    → plan_fault args file asked ≡ None → plan_fault other moved asked ≡ None
moved_plan file moved args other asked m none =
    let f = m.change in
    let ps = args.procs in
    let pages = λ (qs : List ProcArgs). sum_by (λ (p : ProcPlan). length p.pages) (map process_plan qs) in
    let room : is_ram_too_small other asked ≡ is_ram_too_small args asked =
    ap (λ size. too_small asked size (length other.procs) other.slots (pages other.procs)) m.ram_size
    ∙ ap (λ slots. too_small asked args.ram_size (length other.procs) slots (pages other.procs)) m.slots
    ∙ ap (λ (qs : List ProcArgs). too_small asked args.ram_size (length qs) args.slots (pages qs)) m.procs
    ∙ ap (λ n. too_small asked args.ram_size n args.slots (pages (map f ps))) (length-map ps f)
    ∙ ap (λ n. too_small asked args.ram_size (length ps) args.slots n) (same_counts f ps (each_same file (4 * args.words) (4 * other.words) f ps m.each)) in
    let processes = faultless_left (processes_faults args.words file 2 ps) ((is_ram_too_small args asked ⇒ ram_too_small at 0) ∷ []) none in
    joined_none (processes_faults other.words moved 2 other.procs) ((is_ram_too_small other asked ⇒ ram_too_small at 0) ∷ [])
    (subst (λ (qs : List ProcArgs). first_fault (processes_faults other.words moved 2 qs) ≡ None) (sym m.procs)
    (moved_processes file moved args.words other.words m.bytes f 2 ps m.each processes))
    (one_more (is_ram_too_small other asked) _ _ (room ∙ enough_ram args file asked none) refl)

-- ---- the pages

-- a page as memory has it at the start: its number, what may be done there, and its bytes
pub record IsSamePage (file moved : List ℕ) (page other : PagePlan) : Type 0 where
  pub vpn : other.vpn ≡ page.vpn
  pub right : other.right ≡ page.right
  pub byte : (k : ℕ) → page_byte moved other k ≡ page_byte file page k

-- a byte of a page, by whether its section is zero-filled
page_byte_moved : (zero_filled : Bool) (file moved : List ℕ) (before after offset there size i k : ℕ) → HasMoved file moved before after
    → before ≤ offset → there + before ≡ offset + after
    → cond (nat_lt k (min 4096 (cond zero_filled 0 size - 4096 * i))) (slice_index_or moved (cond zero_filled 0 (there + 4096 * i) + k) 0) 0
    ≡ cond (nat_lt k (min 4096 (cond zero_filled 0 size - 4096 * i))) (slice_index_or file (cond zero_filled 0 (offset + 4096 * i) + k) 0) 0
page_byte_moved true file moved before after offset there size i k h behind same = grind (arith, nat_tests)
page_byte_moved false file moved before after offset there size i k h behind same =
    ap (λ b. cond (nat_lt k (min 4096 (size - 4096 * i))) b 0)
    (moved_byte file moved before after (offset + 4096 * i + k) (there + 4096 * i + k) h (omega arith) (omega arith))

same_page : (file moved : List ℕ) (before after offset there : ℕ) (s : Section) (i : ℕ) → HasMoved file moved before after → before ≤ offset → there + before ≡ offset + after
    → IsSamePage file moved (section_page offset s i) (section_page there s i)
same_page file moved before after offset there s i h behind same = record {
  vpn = refl;
  right = refl;
  byte = λ k. page_byte_moved (is_zero_filled s) file moved before after offset there s.size i k h behind same;
}
