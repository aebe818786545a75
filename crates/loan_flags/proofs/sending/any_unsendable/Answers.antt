use Rattle.std.proofs.Common.{ap, arith, sym, ◌∙◌}
use Rattle.sv32_space.specs.SpelledEntries.{entries}
use Rattle.loan_flags.specs.Sending.{is_unsendable}
use Rattle.loan_flags.proofs.SendingLemmas.{none_unsendable, unsendable_found}
use Rattle.loan_flags.proofs.sending.any_unsendable.Goals as goal

pub returns-then-unsendable : goal.returns-then-unsendable
returns-then-unsendable c = λ procs process. unsendable_found c.args.mutably (entries procs c.args.ram.now) c.args.from c.args.n c.loop-i.i c.loop-i-test.true
    (ap (is_unsendable c.args.mutably) (c.entry_above.ensures procs process) ∙ (sym c.unsendable.ensures ∙ c.if-unsendable.true))

pub returns : goal.returns
returns c = λ procs process. none_unsendable c.args.mutably (entries procs c.args.ram.now) c.args.from c.args.n (λ i low. c.loop-i.invariant procs process i (omega (arith, low, c.loop-i-test.false)))
