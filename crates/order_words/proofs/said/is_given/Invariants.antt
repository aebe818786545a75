use Rattle.std.proofs.Common.{◌≡◌, false, map, take}
use Rattle.order_words.specs.Arguments.{argument_in, is_given}
use Rattle.order_words.proofs.said.is_given.Given as goal

abbrev pub invariant-loop-argument : goal.invariant-loop-argument
invariant-loop-argument l = is_given l.option (map argument_in (take l.argument-index l.arguments)) ≡ false
