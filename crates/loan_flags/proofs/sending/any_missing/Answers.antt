use Rattle.std.proofs.Common.{ap, arith, sym, ◌∙◌}
use Rattle.sv32_space.specs.EntryLedger.{is_free_entry}
use Rattle.sv32_space.specs.SpelledEntries.{entries}
use Rattle.loan_flags.proofs.SendingLemmas.{missing_found, none_missing}
use Rattle.loan_flags.proofs.sending.any_missing.Goals as goal

pub returns-then-is_missing : goal.returns-then-is_missing
returns-then-is_missing c = λ procs process. missing_found (entries procs c.args.ram.now) c.args.from c.args.n c.loop-i.i c.loop-i-test.true
    (ap is_free_entry (c.entry_above.ensures procs process) ∙ (sym c.is_missing.ensures ∙ c.if-is_missing.true))

pub returns : goal.returns
returns c = λ procs process. none_missing (entries procs c.args.ram.now) c.args.from c.args.n (λ i low. c.loop-i.invariant procs process i (omega (arith, low, c.loop-i-test.false)))
