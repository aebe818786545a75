use Rattle.std.proofs.Common.{◌≡◌, take}
use Rattle.event_text.specs.Spelling.{AreAskable}
use Rattle.order_model.specs.Moves.{Asked, events_of}
use Rattle.xousorders.proofs.files.events_of.Given as goal

abbrev pub invariant-loop-next : goal.invariant-loop-next
invariant-loop-next l = record {
  events : (asked : Asked) → asked.once ≡ l.once → l.events.items ≡ events_of asked (take l.next-index l.order);
  askable : AreAskable l.once → AreAskable l.events.items;
}
