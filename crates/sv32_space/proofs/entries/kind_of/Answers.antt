use Rattle.std.proofs.Common.{◌∙◌}
use Rattle.sv32_space.proofs.SpellingLemmas.{kind_at_only}
use Rattle.sv32_space.proofs.entries.kind_of.Goals as goal

pub returns-clause-only : goal.returns-clause-only
returns-clause-only c = λ k spelled. c.kind_by_bits.ensures ∙ kind_at_only c.args.word k spelled
