-- A machine that an image boots is matched: its plan is lawful, as the image has no fault.
use Rattle.std.proofs.Common.{◌≡◌, ◌≤◌, ◌∙◌, ap, sym, subst, ℕ, Bool, true, false, nat_lt, List, length, Option, Some, None, MatchBool, MatchOption, IfSome}
use Rattle.std.proofs.lemmas.Option.{none-some}
use Rattle.boot_plan.specs.FaultNumbers.{too_long}
use Rattle.boot_plan.specs.Faults.{plan_fault}
use Rattle.boot_plan.specs.FirstPages.{plan_of}
use Rattle.boot_plan.specs.ImageFault.{IsImageFault}
use Rattle.boot_plan.proofs.LawfulPlanLemmas.{lawful_plan, plan_can_start}
use Rattle.kernel_args.specs.declared.args.Args.{Args}
use Rattle.kernel_args.specs.declared.faults.ArgFault.{ArgFault}
use Rattle.kernel_args.specs.Faults.{args_fault}
use Rattle.kernel_args.specs.Image.{Spells}
use Rattle.kernel_args.proofs.ImageLemmas.{spelled_once}
use Rattle.machine_model.specs.Runs.Matched.{Matched}
use Rattle.machine_model.specs.State.Machine.{Machine}
use Rattle.xk_base.specs.declared.limits.TheConstants.{SLOT_LIMIT}
use Rattle.xk_kernel.proofs.Starting.FirstLawfulLemmas.{start_of_plan_matched}
use Rattle.xous_program.specs.Outcome.Images.{Boots}

-- the cases of an image's fault
abbrev pub Cases : List ℕ → Option ℕ → Option ArgFault → Bool → Option ArgFault → Type 0
Cases image asked fault long in_args =
    MatchBool long (fault ≡ Some (record { what = too_long; at = 0 }))
    (MatchOption in_args ((args : Args) × Spells image args × (fault ≡ plan_fault args image asked)) (λ f. fault ≡ Some f))

-- where it has none, the plan of its arguments has none
pub no_plan_fault : (image : List ℕ) (asked : Option ℕ) (args : Args) → Spells image args → IsImageFault image asked None → plan_fault args image asked ≡ None
no_plan_fault image asked args spelled = go (nat_lt 67108864 (length image)) (args_fault image)
  where
    go : (long : Bool) (in_args : Option ArgFault) → Cases image asked None long in_args → plan_fault args image asked ≡ None
    go true in_args h = absurd (none-some _ h)
    go false None h =
        let same : h.0 ≡ args = spelled_once image h.0 args h.1 spelled in
        ap (λ (a : Args). plan_fault a image asked) (sym same) ∙ sym h.2
    go false (Some f) h = absurd (none-some f h)

pub booted_matched : (image : List ℕ) (asked : Option ℕ) (machine : Machine) → IfSome asked (λ n. n ≤ SLOT_LIMIT) → Boots image asked machine → Matched machine
booted_matched image asked machine few boots =
    let args : Args = boots.args in
    let no_fault : plan_fault args image asked ≡ None = no_plan_fault image asked args boots.sound.spelled boots.sound.no_fault in
    subst Matched (sym boots.start)
    (start_of_plan_matched (plan_of args asked) image
    (lawful_plan args image asked boots.sound.spelled.sound few no_fault)
    (plan_can_start args image asked no_fault))
