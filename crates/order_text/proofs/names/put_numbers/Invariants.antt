use Rattle.std.proofs.Common.{◌≡◌, ◌++◌, take}
use Rattle.std.specs.List.{flat_map}
use Rattle.std.specs.Prelude.{codes}
use Rattle.order_text.specs.Names.{hexadecimal}
use Rattle.order_text.proofs.names.put_numbers.Given as goal

-- the words before, each behind a point
abbrev pub invariant-loop-word : goal.invariant-loop-word
invariant-loop-word l =
    l.text.items ≡ l.initial.text.items ++ flat_map (λ word. codes "." ++ hexadecimal word) (take l.word-index l.others)
