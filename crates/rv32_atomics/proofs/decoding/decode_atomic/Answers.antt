use Rattle.std.proofs.Common.{◌∙◌, ap}
use Rattle.std.specs.Option.{option_map}
use Rattle.rv32_atomics.specs.Meaning.{meaning}
use Rattle.rv32_atomics.proofs.ReadingLemmas.{found_or_none, reading-means, reading-spelled}
use Rattle.rv32_atomics.proofs.decoding.decode_atomic.Goals as goal

pub returns-clause-found : goal.returns-clause-found
returns-clause-found c = found_or_none c.read.result c.args.word c.ranges.word.fits c.read.ensures

pub returns-clause-only : goal.returns-clause-only
returns-clause-only c = λ a h. c.read.ensures ∙ reading-spelled a c.args.word h

pub returns-clause-means : goal.returns-clause-means
returns-clause-means c = ap (option_map meaning) c.read.ensures ∙ reading-means c.args.word
