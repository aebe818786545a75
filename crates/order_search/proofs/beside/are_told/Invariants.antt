use Rattle.std.proofs.Common.{All, take}
use Rattle.order_search.specs.Spelled.{IsEndOfWords}
use Rattle.order_search.proofs.beside.are_told.Given as goal

-- those before
abbrev pub invariant-loop-end : goal.invariant-loop-end
invariant-loop-end l = All IsEndOfWords (take l.end-index l.ends)
