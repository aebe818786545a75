-- The held chain: what is said of the queued chain holds of it, since a ring may have the two in each other's place.
use Rattle.std.proofs.Common.{ℕ, ◌<◌, List, length, take, get_or, set, Option, Some, None, ap, arith}
use Rattle.msg_queue.specs.Chains.{no_slot, chain, last_from}
use Rattle.msg_queue.specs.Rings.{Links, IsRing}
use Rattle.msg_queue.specs.Seats.{Seat, used_of, with_held, with_held_at, without_held_at}
use Rattle.msg_queue.specs.Shown.{seat_shown}
use Rattle.msg_queue.specs.declared.held.Held.{Held}
use Rattle.msg_queue.proofs.Rings.RingLemmas.{exchanged, chains_exchanged, occupied, vacated}
use Rattle.msg_queue.proofs.Seats.FilledLemmas.{filled_exchanged}
use Rattle.msg_queue.proofs.Seats.SeatLemmas.{IsRingOf, seat_occupied, seat_put, seat_vacated}

abbrev pub seat_exchanged : Seat → Seat
seat_exchanged seat = record { queued = seat.held; held = seat.queued }

ring_exchanged : (slots : List (Option Held)) (l : Links) → IsRing slots l → IsRing slots (exchanged l)
ring_exchanged slots l r = record {
  chains = chains_exchanged l (chain l.next l.free) (chain l.next l.queued) (chain l.next l.held) r.chains;
  filled = filled_exchanged slots (chain l.next l.free) (chain l.next l.queued) (chain l.next l.held) r.filled;
}

of_exchanged : (slots : List (Option Held)) (l : Links) (seat : Seat) → IsRingOf slots l seat → IsRingOf slots (exchanged l) (seat_exchanged seat)
of_exchanged slots l seat r = record { sound = ring_exchanged slots l r.sound; shows = ap seat_exchanged r.shows }

room_exchanged : (slots : List (Option Held)) (l : Links) → used_of (seat_shown slots l) < 128 → used_of (seat_shown slots (exchanged l)) < 128
room_exchanged slots l room = omega arith

pub seat_held_at : (slots : List (Option Held)) (l : Links) (i : ℕ) (m : Held) → IsRing slots l → used_of (seat_shown slots l) < 128
    → IsRingOf (set slots l.free (Some m)) (exchanged (occupied (exchanged l) (last_from no_slot (take i (chain l.next l.held))))) (with_held_at i m (seat_shown slots l))
seat_held_at slots l i m r room = of_exchanged _ _ _ (seat_occupied slots (exchanged l) i m (ring_exchanged slots l r) (room_exchanged slots l room))

pub seat_held : (slots : List (Option Held)) (l : Links) (m : Held) → IsRing slots l → used_of (seat_shown slots l) < 128
    → IsRingOf (set slots l.free (Some m)) (exchanged (occupied (exchanged l) l.last_held)) (with_held m (seat_shown slots l))
seat_held slots l m r room = of_exchanged _ _ _ (seat_put slots (exchanged l) m (ring_exchanged slots l r) (room_exchanged slots l room))

pub held_vacated : (slots : List (Option Held)) (l : Links) (i : ℕ) → IsRing slots l → i < length (chain l.next l.held)
    → IsRingOf (set slots (get_or (chain l.next l.held) i no_slot) None)
    (exchanged (vacated (exchanged l) (last_from no_slot (take i (chain l.next l.held))) (get_or (chain l.next l.held) i no_slot)))
    (without_held_at i (seat_shown slots l))
held_vacated slots l i r within = of_exchanged _ _ _ (seat_vacated slots (exchanged l) i (ring_exchanged slots l r) within)
