use Rattle.std.proofs.Common.{◌≡◌, map, take, true}
use Rattle.std.specs.List.{list_all}
use Rattle.order_words.specs.Arguments.{is_one_of}
use Rattle.order_words.specs.Values.{sight_words}
use Rattle.order_words.proofs.sight_words.are_sights.Given as goal

abbrev pub invariant-loop-part : goal.invariant-loop-part
invariant-loop-part l = list_all (is_one_of sight_words) (map (λ part. part.now) (take l.part-index l.parts)) ≡ true
