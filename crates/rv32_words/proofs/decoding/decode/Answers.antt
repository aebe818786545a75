use Rattle.std.proofs.Common.{◌∙◌}
use Rattle.rv32_words.proofs.FoundLemmas.{found_or_none}
use Rattle.rv32_words.proofs.OnlyLemmas.{insn_at-spelled}
use Rattle.rv32_words.proofs.decoding.decode.Goals as goal

pub returns-clause-found : goal.returns-clause-found
returns-clause-found c = found_or_none c.by_opcode.result c.args.word c.ranges.word.fits c.by_opcode.ensures

pub returns-clause-only : goal.returns-clause-only
returns-clause-only c = λ i h. c.by_opcode.ensures ∙ insn_at-spelled i c.args.word h
