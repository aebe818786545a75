-- A ring by its fields after a call that put a message in or took one out.
use Rattle.std.proofs.Common.{◌≡◌, ℕ, ◌<◌, ◌≤◌, List, length, take, get_or, set, Option, Some, None, ap, sym, ◌∙◌}
use Rattle.msg_queue.specs.Chains.{no_slot, chain, last_from}
use Rattle.msg_queue.specs.Linking.{linked_words, linked_first, linked_last, unlinked_words, unlinked_first, unlinked_last}
use Rattle.msg_queue.specs.Rings.{Links, IsRing}
use Rattle.msg_queue.specs.Seats.{Seat, used_of, with_queued, with_held, with_held_at, without_queued_at, without_held_at}
use Rattle.msg_queue.specs.Shown.{seat_shown}
use Rattle.msg_queue.specs.Spots.{spot_in}
use Rattle.msg_queue.specs.declared.held.Held.{Held}
use Rattle.msg_queue.specs.declared.walks.Spot.{Spot}
use Rattle.msg_queue.proofs.Rings.RingLemmas.{exchanged, occupied, vacated}
use Rattle.msg_queue.proofs.Seats.SeatLemmas.{IsRingOf, seat_put}
use Rattle.msg_queue.proofs.Seats.HeldLemmas.{seat_held, seat_held_at}
use Rattle.msg_queue.proofs.CallLemmas.{ring_same, queued_taken, held_taken, chain_past, remove_past}

-- the link words after a call that changed the free chain and one of the others
abbrev pub with_queued_words : Links → List ℕ → ℕ → ℕ → ℕ → Links
with_queued_words l next free first last = record { next = next; free = free; queued = first; last_queued = last; held = l.held; last_held = l.last_held }

abbrev pub with_held_words : Links → List ℕ → ℕ → ℕ → ℕ → Links
with_held_words l next free first last = record { next = next; free = free; queued = l.queued; last_queued = l.last_queued; held = first; last_held = last }

-- what a call that puts a message in says of the words: of a chain from `first` to `last`
pub record IsPutIn (l : Links) (first last before : ℕ) (next' : List ℕ) (free' first' last' : ℕ) : Type 0 where
  pub words : next' ≡ linked_words l.next first before l.free
  pub free : free' ≡ get_or l.next l.free 0
  pub front : first' ≡ linked_first first before l.free
  pub back : last' ≡ linked_last last before l.free

pub queued_put_in : (l : Links) (before : ℕ) (next' : List ℕ) (free' first' last' : ℕ) → IsPutIn l l.queued l.last_queued before next' free' first' last'
    → with_queued_words l next' free' first' last' ≡ occupied l before
queued_put_in l before next' free' first' last' h = let a = h.words in let b = h.free in let d = h.front in let e = h.back in cc

pub held_put_in : (l : Links) (before : ℕ) (next' : List ℕ) (free' first' last' : ℕ) → IsPutIn l l.held l.last_held before next' free' first' last'
    → with_held_words l next' free' first' last' ≡ exchanged (occupied (exchanged l) before)
held_put_in l before next' free' first' last' h = let a = h.words in let b = h.free in let d = h.front in let e = h.back in cc

pub after_put : (slots slots' : List (Option Held)) (l l' : Links) (m : Held) → IsRing slots l → used_of (seat_shown slots l) < 128
    → slots' ≡ set slots l.free (Some m) → l' ≡ occupied l l.last_queued → IsRingOf slots' l' (with_queued m (seat_shown slots l))
after_put slots slots' l l' m r room es el = ring_same _ slots' _ l' _ es el (seat_put slots l m r room)

pub after_hold : (slots slots' : List (Option Held)) (l l' : Links) (m : Held) → IsRing slots l → used_of (seat_shown slots l) < 128
    → slots' ≡ set slots l.free (Some m) → l' ≡ exchanged (occupied (exchanged l) l.last_held) → IsRingOf slots' l' (with_held m (seat_shown slots l))
after_hold slots slots' l l' m r room es el = ring_same _ slots' _ l' _ es el (seat_held slots l m r room)

pub after_hold_at : (slots slots' : List (Option Held)) (l l' : Links) (i before : ℕ) (m : Held) → IsRing slots l → used_of (seat_shown slots l) < 128
    → before ≡ last_from no_slot (take i (chain l.next l.held))
    → slots' ≡ set slots l.free (Some m) → l' ≡ exchanged (occupied (exchanged l) before) → IsRingOf slots' l' (with_held_at i m (seat_shown slots l))
after_hold_at slots slots' l l' i before m r room eb es el =
    ring_same _ slots' _ l' _ es (el ∙ ap (λ b. exchanged (occupied (exchanged l) b)) eb) (seat_held_at slots l i m r room)

-- what a call that takes a message out says of the words
pub record IsTakenOut (l : Links) (first last : ℕ) (spot : Spot) (next' : List ℕ) (free' first' last' : ℕ) : Type 0 where
  pub words : next' ≡ set (unlinked_words l.next spot.before spot.slot) spot.slot l.free
  pub free : free' ≡ spot.slot
  pub front : first' ≡ unlinked_first l.next first spot.before spot.slot
  pub back : last' ≡ unlinked_last last spot.before spot.slot

pub queued_taken_out : (l : Links) (spot : Spot) (next' : List ℕ) (free' first' last' : ℕ) → IsTakenOut l l.queued l.last_queued spot next' free' first' last'
    → with_queued_words l next' free' first' last' ≡ vacated l spot.before spot.slot
queued_taken_out l spot next' free' first' last' h = let a = h.words in let b = h.free in let d = h.front in let e = h.back in cc

pub held_taken_out : (l : Links) (spot : Spot) (next' : List ℕ) (free' first' last' : ℕ) → IsTakenOut l l.held l.last_held spot next' free' first' last'
    → with_held_words l next' free' first' last' ≡ exchanged (vacated (exchanged l) spot.before spot.slot)
held_taken_out l spot next' free' first' last' h = let a = h.words in let b = h.free in let d = h.front in let e = h.back in cc

-- ---- a call that takes out what stands at place i, or nothing past the end

-- the spot of place i in the queued chain is the one past its end: nothing stands there, and nothing changes
pub none_queued : (slots : List (Option Held)) (l : Links) (i : ℕ) (spot : Spot) → IsRing slots l → spot ≡ spot_in (chain l.next l.queued) i → spot.slot ≡ no_slot
    → length (seat_shown slots l).queued ≤ i
none_queued slots l i spot r e none =
    chain_past slots (chain l.next l.queued) i r.filled.queued_slots r.chains.queued_chain.within (sym (ap (λ s. s.slot) e) ∙ none)

pub none_held : (slots : List (Option Held)) (l : Links) (i : ℕ) (spot : Spot) → IsRing slots l → spot ≡ spot_in (chain l.next l.held) i → spot.slot ≡ no_slot
    → length (seat_shown slots l).held ≤ i
none_held slots l i spot r e none =
    chain_past slots (chain l.next l.held) i r.filled.held_slots r.chains.held_chain.within (sym (ap (λ s. s.slot) e) ∙ none)

-- without what stands past the end a list is as it was
pub queued_as_it_was : (seat : Seat) (i : ℕ) → length seat.queued ≤ i → seat ≡ without_queued_at i seat
queued_as_it_was seat i past = sym (ap (λ xs. record seat { queued = xs }) (remove_past seat.queued i past))

pub held_as_it_was : (seat : Seat) (i : ℕ) → length seat.held ≤ i → seat ≡ without_held_at i seat
held_as_it_was seat i past = sym (ap (λ xs. record seat { held = xs }) (remove_past seat.held i past))

pub after_take_queued : (slots slots' : List (Option Held)) (l l' : Links) (i : ℕ) (spot : Spot) → IsRing slots l → spot ≡ spot_in (chain l.next l.queued) i
    → (spot.slot ≡ no_slot → ⊥) → slots' ≡ set slots spot.slot None → l' ≡ vacated l spot.before spot.slot
    → IsRingOf slots' l' (without_queued_at i (seat_shown slots l))
after_take_queued slots slots' l l' i spot r e some es el = ring_same _ slots' _ l' _ es el (queued_taken slots l i spot r e some).ring

pub after_take_held : (slots slots' : List (Option Held)) (l l' : Links) (i : ℕ) (spot : Spot) → IsRing slots l → spot ≡ spot_in (chain l.next l.held) i
    → (spot.slot ≡ no_slot → ⊥) → slots' ≡ set slots spot.slot None → l' ≡ exchanged (vacated (exchanged l) spot.before spot.slot)
    → IsRingOf slots' l' (without_held_at i (seat_shown slots l))
after_take_held slots slots' l l' i spot r e some es el = ring_same _ slots' _ l' _ es el (held_taken slots l i spot r e some).ring
