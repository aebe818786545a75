use Rattle.std.proofs.Common.{◌≡◌, refl, subst, ◌∙◌, arith}
use Rattle.std.proofs.lemmas.Result.{IfOk-weaker}
use Rattle.xk_kernel.specs.Quiet.{GoesQuietly}
use Rattle.xk_kernel.proofs.Memory.KnownLemmas.{stays_trusted, trusted_knows}
use Rattle.order_player.specs.Played.{IsFewer, PlaysSome, shown}
use Rattle.order_player.specs.Steps.{Shown}
use Rattle.order_player.proofs.KeptLemmas.{steps_shown}
use Rattle.order_player.proofs.QuietLemmas.{fewer_later, quiet_all, quiet_some}
use Rattle.order_player.proofs.slices.play_some.Goals as goal

pub returns-then-quiet-most-clause-plays : goal.returns-then-quiet-most-clause-plays
returns-then-quiet-most-clause-plays g c trusted =
    let old : Shown = shown g.W.SwapStore c.args.kernel.now c.args.trail.now in
    let mid : Shown = shown g.W.SwapStore c.run_quiet.new.self c.args.trail.now in
    let runs = c.in-Ok.ensures.runs (trusted_knows g.W.SwapStore c.args.kernel.now c.run_quiet.new.self trusted c.run_quiet.ensures.keeps) in
    let same : c.in-Ok.quiet ≡ c.args.most = omega (arith, c.if-quiet-most.true) in
    quiet_all c.args.keeps c.args.most old mid (subst (λ n. GoesQuietly n old.machine mid.machine) same runs.steps) refl

pub play_loud-requires-clause-few : goal.play_loud-requires-clause-few
play_loud-requires-clause-few g c =
    let old_steps = steps_shown g.W.SwapStore.held c.args.kernel.now in
    let new_steps = steps_shown g.W.SwapStore.held c.run_quiet.new.self in
    omega (arith, old_steps, new_steps, c.in-Ok.ensures.counts, c.in-Ok.ensures.most, c.if-quiet-most.false, c.requires.few)

pub returns-clause-plays : goal.returns-clause-plays
returns-clause-plays g c trusted =
    let old : Shown = shown g.W.SwapStore c.args.kernel.now c.args.trail.now in
    let mid : Shown = shown g.W.SwapStore c.run_quiet.new.self c.args.trail.now in
    let new : Shown = shown g.W.SwapStore c.play_loud.new.kernel c.play_loud.new.trail in
    let runs = c.in-Ok.ensures.runs (trusted_knows g.W.SwapStore c.args.kernel.now c.run_quiet.new.self trusted c.run_quiet.ensures.keeps) in
    let still = stays_trusted g.W.SwapStore c.args.kernel.now c.run_quiet.new.self c.run_quiet.ensures.keeps ∙ trusted in
    IfOk-weaker c.play_loud.result _ (PlaysSome c.args.keeps c.args.most old new)
    (λ part plays. quiet_some c.args.keeps c.in-Ok.quiet c.args.most part old mid new runs.steps c.in-Ok.ensures.most refl plays) (c.play_loud.ensures.plays still)

pub returns-clause-fewer : goal.returns-clause-fewer
returns-clause-fewer g c =
    IfOk-weaker c.play_loud.result _ (IsFewer c.args.most) (λ part less. fewer_later c.in-Ok.quiet c.args.most part c.in-Ok.ensures.most less) c.play_loud.ensures.fewer
