use Rattle.std.proofs.Common.{refl, arith}
use Rattle.std.specs.Prelude.{slice_index}
use Rattle.resume_path.proofs.Rows.ThreadRowLemmas.{all_set, next_set, none_set}
use Rattle.resume_path.proofs.threads.registers.Goals as goal

-- src/threads.rt
pub words-init : goal.words-init
words-init c = none_set c.args.words.now c.new-regs.result c.new-regs.ensures

pub words-preserved : goal.words-preserved
words-preserved c =
    next_set c.args.words.now c.words.regs c.set.new.self c.words.k (slice_index c.args.words.now c.words.k) (omega arith) c.words.invariant refl c.set.ensures.value

pub returns : goal.returns
returns c = all_set c.args.words.now c.words.regs c.words.k c.told-words c.words-test.false c.words.invariant
