use Rattle.std.proofs.Common.{◌≡◌, ◌++◌, take}
use Rattle.std.specs.List.{flat_map}
use Rattle.order_search.specs.Marks.{block_bytes}
use Rattle.order_search.proofs.marks.push_blocks.Given as goal

-- the blocks so far
abbrev pub invariant-loop-block : goal.invariant-loop-block
invariant-loop-block l = l.bytes.items ≡ l.fn.bytes.items ++ flat_map block_bytes (take l.block-index l.blocks)
