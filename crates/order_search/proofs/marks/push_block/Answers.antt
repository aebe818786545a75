use Rattle.order_search.proofs.MarkLemmas.{some_bytes, zero_bytes}
use Rattle.order_search.proofs.marks.push_block.Goals as goal

pub returns-then-is_zeros : goal.returns-then-is_zeros
returns-then-is_zeros c =
    zero_bytes c.args.block.now c.args.bytes.now.items c.push.new.self.items c.is_zeros.result c.is_zeros.ensures c.if-is_zeros.true
    c.in_ok-push.ensures.items

pub returns : goal.returns
returns c =
    some_bytes c.args.block.now c.args.bytes.now.items c.push-2.new.self.items c.extend_from_slice.new.self.items c.is_zeros.result
    c.is_zeros.ensures c.if-is_zeros.false c.in_ok-push-2.ensures.items c.in_ok-extend_from_slice.ensures.items
