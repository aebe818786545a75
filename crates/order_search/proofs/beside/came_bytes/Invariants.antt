use Rattle.std.proofs.Common.{◌≡◌, take}
use Rattle.std.specs.Prelude.{map}
use Rattle.order_search.specs.Keys.{came_byte}
use Rattle.order_search.proofs.beside.came_bytes.Given as goal

abbrev pub invariant-loop-it_came : goal.invariant-loop-it_came
invariant-loop-it_came l = l.bytes.items ≡ map came_byte (take l.it_came-index l.came)
