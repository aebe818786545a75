use Rattle.std.proofs.Common.{◌≡◌, map, take, Some}
use Rattle.order_words.specs.Arguments.{argument_in}
use Rattle.order_words.specs.Values.{events_in}
use Rattle.order_words.proofs.asked.events_of.Given as goal

abbrev pub invariant-loop-argument : goal.invariant-loop-argument
invariant-loop-argument l = map Some l.once.items ≡ events_in (map argument_in (take l.argument-index l.arguments))
