-- What an iterator over messages shows: those that are left.
use Rattle.std.specs.Prelude.{List}
use Rattle.xk_base.specs.declared.messages.Message.{Message}
use Rattle.msg_queue.specs.Listings.{IsListing, listed}
use Rattle.msg_queue.specs.declared.messages.Messages.TheInside.{Inside}

abbrev pub left : Inside → List Message
left a = listed a.slots.now a.words.now a.slot

abbrev pub IsSoundWalk : Inside → Type 0
IsSoundWalk a = IsListing a.slots.now a.words.now a.slot
