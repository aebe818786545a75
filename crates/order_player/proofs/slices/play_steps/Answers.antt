use Rattle.std.proofs.Common.{◌≡◌, ◌≤◌, ◌+◌, subst, ◌∙◌, arith}
use Rattle.xk_kernel.proofs.Memory.KnownLemmas.{stays_trusted}
use Rattle.order_player.specs.declared.slices.Part.{Part}
use Rattle.order_player.specs.declared.slices.Part.TheVariants.{On, Over}
use Rattle.order_player.specs.Played.{IsFewer, PlaysSome, part_left, shown}
use Rattle.order_player.specs.Steps.{AreSteps, Shown}
use Rattle.order_player.proofs.KeptLemmas.{kept_after, steps_shown}
use Rattle.order_player.proofs.StepLemmas.{none_left}
use Rattle.order_player.proofs.slices.play_steps.Goals as goal

pub play_some-requires-clause-few : goal.play_some-requires-clause-few
play_some-requires-clause-few g c =
    let old_steps = steps_shown g.W.SwapStore.held c.args.kernel.now in
    let new_steps = steps_shown g.W.SwapStore.held c.steps.kernel in
    omega (arith, old_steps, new_steps, c.steps.invariant.few, c.requires.few)

pub steps-preserved : goal.steps-preserved
steps-preserved g c =
    let mid : Shown = shown g.W.SwapStore c.steps.kernel c.steps.trail in
    let new : Shown = shown g.W.SwapStore c.play_some.new.kernel c.play_some.new.trail in
    let P : Part → Type 0 = λ part. PlaysSome c.args.keeps c.steps.left mid new part in
    let F : Part → Type 0 = λ part. IsFewer c.steps.left part in
    let C : Part → Type 0 = λ part. part_left part + c.play_some.new.kernel.steps ≤ c.steps.left + c.steps.kernel.steps in
    let less : F (On c.in-On.rest) = subst F c.in-On.is c.in_ok-rest.ensures.fewer in
    let counts : C (On c.in-On.rest) = subst C c.in-On.is c.in_ok-rest.ensures.counts in
    record {
      plays = λ trusted left last plays.
          let still = stays_trusted g.W.SwapStore c.args.kernel.now c.steps.kernel c.steps.invariant.keeps ∙ trusted in
          let some : P (On c.in-On.rest) = subst P c.in-On.is (c.in_ok-rest.ensures.plays still) in
          c.steps.invariant.plays trusted left last (some.1 left last plays);
      fewer = omega (arith, less, c.steps.invariant.fewer);
      few = omega (arith, counts, c.steps.invariant.few);
      sound = c.play_some.ensures.sound;
      usable = c.in_ok-rest.ensures.usable;
      moves = record {
        came = c.play_some.ensures.moves.came ∙ c.steps.invariant.moves.came;
        preempted = c.play_some.ensures.moves.preempted ∙ c.steps.invariant.moves.preempted;
      };
      keeps = kept_after g.W.SwapStore c.args.kernel.now c.steps.kernel c.play_some.new.kernel c.steps.invariant.keeps c.play_some.ensures.keeps;
    }

pub returns-in-Over-clause-plays : goal.returns-in-Over-clause-plays
returns-in-Over-clause-plays g c trusted =
    let mid : Shown = shown g.W.SwapStore c.steps.kernel c.steps.trail in
    let new : Shown = shown g.W.SwapStore c.play_some.new.kernel c.play_some.new.trail in
    let P : Part → Type 0 = λ part. PlaysSome c.args.keeps c.steps.left mid new part in
    let still = stays_trusted g.W.SwapStore c.args.kernel.now c.steps.kernel c.steps.invariant.keeps ∙ trusted in
    let over : P (Over c.in-Over.rest) = subst P c.in-Over.is (c.in_ok-rest.ensures.plays still) in
    c.steps.invariant.plays trusted c.in-Over.rest new over

pub returns-clause-plays : goal.returns-clause-plays
returns-clause-plays g c trusted =
    let mid : Shown = shown g.W.SwapStore c.steps.kernel c.steps.trail in
    let none : 0 ≡ c.steps.left = omega (arith, c.steps-test.false) in
    c.steps.invariant.plays trusted 0 mid (subst (λ n. AreSteps c.args.keeps n mid 0 mid) none (none_left c.args.keeps mid))
