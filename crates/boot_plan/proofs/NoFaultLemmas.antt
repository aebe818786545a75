-- What a plan without fault has.
use Rattle.std.proofs.Common.{◌≡◌, ◌∙◌, sym, refl, ℕ, ◌+◌, ◌%◌, Bool, true, false, cond, not, ◌==◌, List, [], ◌∷◌, ◌++◌, length, Option, Some, None, All}
use Rattle.std.specs.Option.{option_or}
use Rattle.std.specs.List.{list_any, AllByRecursion}
use Rattle.std.proofs.lemmas.List.Elements.{All-from_recursion}
use Rattle.xk_base.specs.Numbers.Windows.{in_window}
use Rattle.xk_base.specs.declared.windows.Window.TheVariants.{Image}
use Rattle.kernel_args.specs.declared.args.ProcArgs.{ProcArgs}
use Rattle.kernel_args.specs.declared.args.Section.{Section}
use Rattle.kernel_args.specs.declared.args.Args.{Args}
use Rattle.kernel_args.specs.declared.faults.ArgFault.{ArgFault}
use Rattle.kernel_args.specs.Faults.{Check, ◌⇒◌at◌, first_fault}
use Rattle.boot_plan.specs.FaultNumbers.{load_outside, bad_load, entry_outside, ram_too_small}
use Rattle.boot_plan.specs.Sections.{section_pages, shares_page}
use Rattle.kernel_args.specs.Loads.{is_load_outside}
use Rattle.boot_plan.specs.Faults.{section_faults, sections_faults, is_bad_load, is_entry_outside, process_faults, processes_faults, is_ram_too_small, plan_fault}
use Rattle.boot_plan.proofs.FirstFaultLemmas.{first_fault_append}

-- a section that has no fault behind these earlier ones
pub record IsPlaced (earlier : List Section) (s : Section) : Type 0 where
  pub inside : list_any (λ vpn. not (in_window Image vpn)) (section_pages s) ≡ false
  pub apart : list_any (shares_page s) earlier ≡ false

abbrev pub ArePlaced : List Section → List Section → Type 0
ArePlaced earlier [] = Unit {0}
ArePlaced earlier (s ∷ ss) = IsPlaced earlier s × ArePlaced (earlier ++ s ∷ []) ss

-- a process that has no fault
pub record IsFaultless (words : ℕ) (file : List ℕ) (p : ProcArgs) : Type 0 where
  pub sections : ArePlaced [] p.sections
  pub load : is_load_outside words (length file) p ≡ false
  pub check : is_bad_load file p ≡ false
  pub entry : is_entry_outside p ≡ false

none_left : (o p : Option ArgFault) → option_or o p ≡ None → o ≡ None
none_left None p h = refl
none_left (Some f) p h = cc

none_right : (o p : Option ArgFault) → option_or o p ≡ None → p ≡ None
none_right None p h = h
none_right (Some f) p h = cc

pub faultless_left : (xs ys : List Check) → first_fault (xs ++ ys) ≡ None → first_fault xs ≡ None
faultless_left xs ys h = none_left (first_fault xs) (first_fault ys) (sym (first_fault_append xs ys) ∙ h)

pub faultless_right : (xs ys : List Check) → first_fault (xs ++ ys) ≡ None → first_fault ys ≡ None
faultless_right xs ys h = none_right (first_fault xs) (first_fault ys) (sym (first_fault_append xs ys) ∙ h)

passed : (b : Bool) (f : ArgFault) (o : Option ArgFault) → cond b (Some f) o ≡ None → (b ≡ false) × (o ≡ None)
passed true f o h = cc
passed false f o h = (refl, h)

placed : (pid : ℕ) (earlier : List Section) (s : Section) → first_fault (section_faults pid earlier s) ≡ None → IsPlaced earlier s
placed pid earlier s h =
    let aligned = passed (not (s.addr % 4096 == 0)) _ _ h in
    let inside = passed (list_any (λ vpn. not (in_window Image vpn)) (section_pages s)) _ _ aligned.1 in
    let apart = passed (list_any (shares_page s) earlier) _ _ inside.1 in
    record { inside = inside.0; apart = apart.0 }

all_placed : (pid : ℕ) (earlier ss : List Section) → first_fault (sections_faults pid earlier ss) ≡ None → ArePlaced earlier ss
all_placed pid earlier [] h = tt
all_placed pid earlier (s ∷ ss) h = (
  placed pid earlier s (faultless_left (section_faults pid earlier s) (sections_faults pid (earlier ++ s ∷ []) ss) h),
  all_placed pid (earlier ++ s ∷ []) ss (faultless_right (section_faults pid earlier s) (sections_faults pid (earlier ++ s ∷ []) ss) h),
)

pub process_faultless : (words : ℕ) (file : List ℕ) (pid : ℕ) (p : ProcArgs) → first_fault (process_faults words file pid p) ≡ None → IsFaultless words file p
process_faultless words file pid p h =
    let ends = (is_load_outside words (length file) p ⇒ load_outside at pid) ∷ (is_bad_load file p ⇒ bad_load at pid) ∷ (is_entry_outside p ⇒ entry_outside at pid) ∷ [] in
    let load = passed (is_load_outside words (length file) p) _ _ (faultless_right (sections_faults pid [] p.sections) ends h) in
    let check = passed (is_bad_load file p) _ _ load.1 in
    let entry = passed (is_entry_outside p) _ _ check.1 in
    record {
      sections = all_placed pid [] p.sections (faultless_left (sections_faults pid [] p.sections) ends h);
      load = load.0;
      check = check.0;
      entry = entry.0;
    }

each_faultless : (words : ℕ) (file : List ℕ) (pid : ℕ) (ps : List ProcArgs) → first_fault (processes_faults words file pid ps) ≡ None → AllByRecursion (IsFaultless words file) ps
each_faultless words file pid [] h = tt
each_faultless words file pid (p ∷ ps) h = (
  process_faultless words file pid p (faultless_left (process_faults words file pid p) (processes_faults words file (pid + 1) ps) h),
  each_faultless words file (pid + 1) ps (faultless_right (process_faults words file pid p) (processes_faults words file (pid + 1) ps) h),
)

abbrev ram_check : Args → Option ℕ → List Check
ram_check args asked = (is_ram_too_small args asked ⇒ ram_too_small at 0) ∷ []

pub all_faultless : (args : Args) (file : List ℕ) (asked : Option ℕ) → plan_fault args file asked ≡ None → All (IsFaultless args.words file) args.procs
all_faultless args file asked h =
    All-from_recursion (IsFaultless args.words file) args.procs
    (each_faultless args.words file 2 args.procs (faultless_left (processes_faults args.words file 2 args.procs) (ram_check args asked) h))

pub enough_ram : (args : Args) (file : List ℕ) (asked : Option ℕ) → plan_fault args file asked ≡ None → is_ram_too_small args asked ≡ false
enough_ram args file asked h =
    (passed (is_ram_too_small args asked) _ _ (faultless_right (processes_faults args.words file 2 args.procs) (ram_check args asked) h)).0
