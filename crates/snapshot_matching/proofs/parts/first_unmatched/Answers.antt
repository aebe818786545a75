use Rattle.std.proofs.Common.{◌≡◌, ℕ, sym, subst, ◌∙◌, arith}
use Rattle.snapshot_rows.specs.Machines.{machine_of}
use Rattle.snapshot_matching.proofs.FirstLemmas.{HoldBelow, hold_none, hold_more, first_of, all_of}
use Rattle.snapshot_matching.proofs.parts.first_unmatched.Goals as goal

pub loop-number-init : goal.loop-number-init
loop-number-init c file = hold_none (machine_of file c.args.state.now)

pub returns-then-not-branch : goal.returns-then-not-branch
returns-then-not-branch c file =
    first_of (machine_of file c.args.state.now) c.part_at-part.result c.loop-number.number c.part_at-part.ensures (c.loop-number.invariant file)
    (λ holds. (let told = sym c.if-not-branch.true ∙ (c.in_ok-is_part_matched.ensures file).1 holds in absurd cc))

pub loop-number-preserved : goal.loop-number-preserved
loop-number-preserved c file =
    hold_more (machine_of file c.args.state.now) c.part_at-part.result c.loop-number.number c.part_at-part.ensures
    ((c.in_ok-is_part_matched.ensures file).0 c.if-not-branch.false) (c.loop-number.invariant file)

pub returns : goal.returns
returns c file =
    all_of (machine_of file c.args.state.now)
    (let ten : c.loop-number.number ≡ 10 = omega arith in subst (λ (n : ℕ). HoldBelow (machine_of file c.args.state.now) n) ten (c.loop-number.invariant file))
