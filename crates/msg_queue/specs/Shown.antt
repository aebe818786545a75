-- What a ring shows: two lists of messages, found by following its chains.
use Rattle.std.specs.Prelude.{ℕ, List, Option}
use Rattle.std.specs.List.{filter_map}
use Rattle.xk_base.specs.Tables.RowMap.{row_map}
use Rattle.msg_queue.specs.Chains.{chain}
use Rattle.msg_queue.specs.Rings.{Links, IsRing}
use Rattle.msg_queue.specs.Seats.{Seat}
use Rattle.msg_queue.specs.declared.held.Held.{Held}
use Rattle.msg_queue.specs.declared.ring.Ring.TheInside.{Inside}

-- the messages in these slots, in their order
abbrev pub messages : List (Option Held) → List ℕ → List Held
messages slots chosen = filter_map (row_map slots) chosen

-- the messages of the queued chain and those of the held chain
abbrev pub seat_shown : List (Option Held) → Links → Seat
seat_shown slots links = record {
  queued = messages slots (chain links.next links.queued);
  held = messages slots (chain links.next links.held);
}

-- ---- of the fields

abbrev pub links_of : Inside → Links
links_of a = record {
  next = a.next.items;
  free = a.free;
  queued = a.queued;
  last_queued = a.last_queued;
  held = a.held;
  last_held = a.last_held;
}

abbrev pub shown : Inside → Seat
shown a = seat_shown a.slots.items (links_of a)

abbrev pub IsSound : Inside → Type 0
IsSound a = IsRing a.slots.items (links_of a)
