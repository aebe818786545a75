use Rattle.std.proofs.Common.{◌≡◌, take}
use Rattle.event_text.specs.Held.{with_bytes}
use Rattle.event_text.proofs.reader.EventReader.feed.Given as goal

abbrev pub invariant-loop-byte : goal.invariant-loop-byte
invariant-loop-byte l = record {
  count : l.taken ≡ l.byte-index;
  held : l.self ≡ with_bytes l.fn.self (take l.taken l.piece);
}
