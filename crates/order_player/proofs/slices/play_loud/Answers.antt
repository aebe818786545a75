use Rattle.std.proofs.Common.{sym, subst, ◌∙◌}
use Rattle.xk_kernel.specs.Knowing.{KnowsBytes}
use Rattle.xk_kernel.specs.Stepping.{CountsStep, DoesStep}
use Rattle.xk_kernel.specs.declared.kernel.Kernel.{Kernel}
use Rattle.xk_kernel.specs.declared.kernel.Stepped.{Stepped}
use Rattle.xk_kernel.specs.declared.kernel.Stepped.TheVariants.{Idle}
use Rattle.xk_kernel.proofs.Memory.KnownLemmas.{trusted_knows}
use Rattle.order_player.specs.Played.{shown}
use Rattle.order_player.specs.Steps.{AreSteps, Shown}
use Rattle.order_player.proofs.StepLemmas.{idle_plays, loud_some, none_there, silent_some, some_there}
use Rattle.order_player.proofs.slices.play_loud.Goals as goal

pub returns-in-Ok-Idle-clause-plays : goal.returns-in-Ok-Idle-clause-plays
returns-in-Ok-Idle-clause-plays g c trusted =
    let old : Shown = shown g.W.SwapStore c.args.kernel.now c.args.trail.now in
    let C : Stepped → Type 0 = λ s. CountsStep g.W.SwapStore.held c.args.kernel.now c.step.new.self s in
    let counts : C Idle = subst C c.in-Ok-Idle.field-0-is c.in-Ok-Idle.ensures.counts in
    let P : Kernel _ → Type 0 = λ k. AreSteps c.args.keeps c.args.left old c.args.left (shown g.W.SwapStore k c.args.trail.now) in
    subst P (sym counts.1) (idle_plays c.args.keeps c.args.left old counts.0)

pub returns-then-is_empty-clause-plays : goal.returns-then-is_empty-clause-plays
returns-then-is_empty-clause-plays g c trusted =
    let old : Shown = shown g.W.SwapStore c.args.kernel.now c.args.trail.now in
    let new : Shown = shown g.W.SwapStore c.step.new.self c.push_told.new.trail in
    let D : Stepped → Type 0 = λ s. KnowsBytes g.W.SwapStore c.args.kernel.now c.step.new.self → DoesStep g.W.SwapStore.held c.args.kernel.now c.step.new.self s in
    let does = subst D c.in-Ok-Did.field-0-is c.in-Ok-Did.ensures.does (trusted_knows g.W.SwapStore c.args.kernel.now c.step.new.self trusted c.step.ensures.keeps) in
    let none = none_there c.last-2.result.now (sym c.is_empty.ensures ∙ c.if-is_empty.true) in
    silent_some c.args.keeps c.args.left old new c.last.result.now c.requires.some does.0 does.1.machine (c.last.ensures ∙ does.1.records) c.in-Ok.ensures.told
    (c.last.ensures ∙ (sym c.last-2.ensures ∙ none))

pub returns-clause-plays : goal.returns-clause-plays
returns-clause-plays g c trusted =
    let old : Shown = shown g.W.SwapStore c.args.kernel.now c.args.trail.now in
    let new : Shown = shown g.W.SwapStore c.step.new.self c.push_told.new.trail in
    let D : Stepped → Type 0 = λ s. KnowsBytes g.W.SwapStore c.args.kernel.now c.step.new.self → DoesStep g.W.SwapStore.held c.args.kernel.now c.step.new.self s in
    let does = subst D c.in-Ok-Did.field-0-is c.in-Ok-Did.ensures.does (trusted_knows g.W.SwapStore c.args.kernel.now c.step.new.self trusted c.step.ensures.keeps) in
    let one = some_there c.last-2.result.now (sym c.is_empty.ensures ∙ c.if-is_empty.false) in
    loud_some c.args.keeps c.args.left old new c.last.result.now c.requires.some does.0 does.1.machine (c.last.ensures ∙ does.1.records) c.in-Ok.ensures.told
    one.first one.others (c.last.ensures ∙ (sym c.last-2.ensures ∙ one.is))
