use Rattle.std.proofs.Common.{◌≡◌, ◌++◌, length, map}
use Rattle.std.specs.List.{AllByRecursion, flat_map}
use Rattle.order_words.specs.Arguments.{IsArgument, argument_in, spelled, texts}
use Rattle.order_words.proofs.arguments.arguments_of.Given as goal

-- the arguments so far are the words so far
abbrev pub invariant-loop-word : goal.invariant-loop-word
invariant-loop-word l = record {
  each : AllByRecursion IsArgument (map argument_in l.arguments.items);
  words : texts l.words ≡ flat_map spelled (map argument_in l.arguments.items) ++ texts l.rest;
}

abbrev pub decreases-loop-word : goal.decreases-loop-word
decreases-loop-word l = length l.rest
