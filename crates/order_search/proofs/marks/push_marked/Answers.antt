use Rattle.order_search.proofs.MarkLemmas.{all_bytes}
use Rattle.order_search.proofs.marks.push_marked.Goals as goal

pub returns : goal.returns
returns c =
    all_bytes c.args.told.now c.args.bytes.now.items c.push_blocks.new.bytes.items c.extend_from_slice.new.self.items _ _ c.as_chunks.ensures.front
    c.as_chunks.ensures.back c.in_ok-push_blocks.ensures c.in_ok-extend_from_slice.ensures.items
