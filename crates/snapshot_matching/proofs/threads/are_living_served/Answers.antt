use Rattle.std.proofs.Common.{◌+◌, refl, sym, ◌∙◌, arith}
use Rattle.snapshot_matching.proofs.ThreadRows.ServedLemmas.{served_right, served_all}
use Rattle.snapshot_matching.proofs.threads.are_living_served.Goals as goal

pub returns-then-not-is_served : goal.returns-then-not-is_served
returns-then-not-is_served c =
    (λ holds. absurd cc, λ served. sym c.if-not-is_served.true ∙ c.is_served.ensures ∙ served_all c.args.procs.now c.args.threads.now served (c.loop-i.i + 2))

pub returns : goal.returns
returns c =
    (λ holds. served_right c.args.procs.now c.args.threads.now c.requires.threads (λ i within. c.loop-i.invariant i (omega (arith, c.loop-i-test.false))), λ served. refl)
