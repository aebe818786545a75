use Rattle.std.proofs.Common.{◌≡◌, map, take}
use Rattle.order_words.specs.Arguments.{argument_in, names_in}
use Rattle.order_words.proofs.said.names.Given as goal

abbrev pub invariant-loop-argument : goal.invariant-loop-argument
invariant-loop-argument l = map (λ name. name.now) l.names.items ≡ names_in (map argument_in (take l.argument-index l.arguments))
