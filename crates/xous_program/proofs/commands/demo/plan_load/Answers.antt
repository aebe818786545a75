use Rattle.std.proofs.Common.{◌≡◌, ℕ, List, length, None, Some, ap, ◌∙◌, subst, arith}
use Rattle.kernel_args.specs.declared.args.Args.{Args}
use Rattle.boot_plan.specs.Faults.{IsPlanFault, plan_fault}
use Rattle.boot_plan.specs.declared.faults.PlanError.{PlanError}
use Rattle.demo_load.specs.Image.{load_args, load_image}
use Rattle.demo_load.proofs.LoadImageLemmas.{length-load_image, load_plan_has_no_fault}
use Rattle.xous_program.proofs.commands.demo.plan_load.Goals as goal

pub plan-requires-clause-size : goal.plan-requires-clause-size
plan-requires-clause-size c =
    let size = length-load_image c.args.clients in
    let few = c.requires in
    let made : length c.as_slice.result.now ≡ length (load_image c.args.clients) = ap (λ (l : List ℕ). length l) (c.as_slice.ensures ∙ c.in_ok-args.ensures.image) in
    omega (arith, size, made, few)

pub unreachable-requires : goal.unreachable-requires
unreachable-requires c =
    let file = c.as_slice.result.now in
    let F : PlanError → Type 0 = λ e. IsPlanFault c.in_ok-args.args file None e in
    let fault : plan_fault c.in_ok-args.args file None ≡ Some c.in-Err-Fault.field-0-0 =
    subst F c.in-Err-Fault.field-0-is c.in-Err-Fault.ensures.fault in
    let none : plan_fault c.in_ok-args.args file None ≡ None =
    ap (λ (a : Args). plan_fault a file None) c.in_ok-args.ensures.arguments
    ∙ (ap (λ (l : List ℕ). plan_fault (load_args c.args.clients) l None) (c.as_slice.ensures ∙ c.in_ok-args.ensures.image)
    ∙ load_plan_has_no_fault c.args.clients c.requires) in
    absurd cc
