use Rattle.std.proofs.Common.{◌≡◌, map, take}
use Rattle.order_words.specs.Arguments.{argument_in, values_in}
use Rattle.order_words.proofs.said.values.Given as goal

abbrev pub invariant-loop-argument : goal.invariant-loop-argument
invariant-loop-argument l =
    map (λ value. value.now) l.values.items ≡ values_in l.option (map argument_in (take l.argument-index l.arguments))
