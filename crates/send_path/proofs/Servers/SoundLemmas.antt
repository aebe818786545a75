-- Seats stay sound where one of them changes.
use Rattle.std.proofs.Common.{◌≡◌, ℕ, suc, ◌+◌, ◌<◌, ◌≤◌, Bool, true, false, List, [], ◌∷◌, ◌++◌, length, map, Some, None, refl, sym, ap, subst, ◌∙◌, arith, append_assoc, set}
use Rattle.std.specs.Prelude.{All, nat_eq, slice_get, if◌then◌else◌}
use Rattle.std.specs.List.{remove}
use Rattle.std.proofs.lemmas.Bool.{eqb-true, eq-eqb, false≢true}
use Rattle.std.proofs.lemmas.List.{length-map, set-get_or}
use Rattle.std.proofs.lemmas.List.Elements.{All-push}
use Rattle.std.proofs.lemmas.Option.{none-some, same_Some}
use Rattle.msg_queue.specs.Seats.{Seat, changed_at, empty_seat, message_of, seat_of, used_of, with_held, without_queued_at}
use Rattle.msg_queue.specs.declared.held.Held.{Held}
use Rattle.server_table.specs.ServersOf.{servers_of}
use Rattle.server_table.specs.declared.table.Servers.{Servers}
use Rattle.xk_base.specs.Calls.Kinds.{is_answered}
use Rattle.xk_base.specs.declared.ids.ThreadId.{ThreadId}
use Rattle.xk_parts.specs.Seats.{HasLoanIfLend, IsSeatOf, messages_at}
use Rattle.send_path.proofs.Taken.{CallTables, without_memory}
use Rattle.xk_parts.specs.Shown.{server_with}
use Rattle.xk_parts.specs.Sound.{AreSeatsSound, AreSound}
use Rattle.send_path.proofs.Servers.SeatLemmas.{seat_changed, seat_is_there, seat_other, seats_counted, server_there}
use Rattle.xk_parts.specs.Parts.{machine_at, no_store}

pub seats_changed : (servers : Servers) (seats : List Seat) (serial k : ℕ) → AreSeatsSound (servers_of servers) seats
    → IsSeatOf (servers_of servers) serial k → (f : Seat → Seat) → All HasLoanIfLend (messages_at (f (seat_of seats k)))
    → AreSeatsSound (servers_of servers) (changed_at k f seats)
seats_changed servers seats serial k h its f lent = record {
  all = seats_counted seats k f ∙ h.all;
  empty = λ j low none. seat_other seats k j f (λ same. none serial its.server its.live (its.its ∙ sym same)) ∙ h.empty j low none;
  loans = λ j. at j (nat_eq j k) refl;
}
  where
    at : (j : ℕ) (b : Bool) → nat_eq j k ≡ b → All HasLoanIfLend (messages_at (seat_of (changed_at k f seats) j))
    at j true e =
        subst (λ seat. All HasLoanIfLend (messages_at seat))
        (sym (ap (seat_of (changed_at k f seats)) (eqb-true j k e) ∙ seat_changed seats k f (seat_is_there servers seats serial k its h.all))) lent
    at j false e =
        subst (λ seat. All HasLoanIfLend (messages_at seat))
        (sym (seat_other seats k j f (λ same. false≢true (sym e ∙ eq-eqb j k same)))) (h.loans j)

-- a change that leaves the seat leaves all
pub unchanged_at : (seats : List Seat) (k : ℕ) (f : Seat → Seat) → f (seat_of seats k) ≡ seat_of seats k → changed_at k f seats ≡ seats
unchanged_at seats k f same = ap (λ seat. set seats k seat) same ∙ set-get_or seats k empty_seat

-- ---- the oldest queued is taken out

pub nothing_taken : (seat : Seat) → slice_get seat.queued 0 ≡ None → without_queued_at 0 seat ≡ seat
nothing_taken seat none = λ i. record seat { queued = go seat.queued none i }
  where
    go : (xs : List Held) → slice_get xs 0 ≡ None → remove xs 0 ≡ xs
    go [] e = refl
    go (x ∷ xs) e = absurd (none-some x (sym e))

pub one_fewer : (seat : Seat) (h : Held) → slice_get seat.queued 0 ≡ Some h
    → length (map message_of seat.queued) + length (map message_of seat.held) ≤ 128 → used_of (without_queued_at 0 seat) < 128
one_fewer seat h first few = go seat.queued first few
  where
    go : (xs : List Held) → slice_get xs 0 ≡ Some h → length (map message_of xs) + length (map message_of seat.held) ≤ 128
        → length (remove xs 0) + length seat.held < 128
    go [] e l = absurd (none-some h e)
    go (x ∷ xs) e l =
        let queued : length (map message_of xs) ≡ length xs = length-map xs message_of in
        let held : length (map message_of seat.held) ≡ length seat.held = length-map seat.held message_of in
        omega arith

-- what holds of all messages of the seat holds of it, and of those that stay
pub oldest_too : (P : Held → Type 0) (seat : Seat) (h : Held) → slice_get seat.queued 0 ≡ Some h → All P (messages_at seat) → P h
oldest_too P seat h first all = go seat.queued first all
  where
    go : (xs : List Held) → slice_get xs 0 ≡ Some h → All P (xs ++ seat.held) → P h
    go [] e a = absurd (none-some h e)
    go (x ∷ xs) e a = subst P (same_Some x h e) (a 0 h (omega arith))

others_too : (P : Held → Type 0) (seat : Seat) → All P (messages_at seat) → All P (messages_at (without_queued_at 0 seat))
others_too P seat all = go seat.queued all
  where
    go : (xs : List Held) → All P (xs ++ seat.held) → All P (remove xs 0 ++ seat.held)
    go [] a = a
    go (x ∷ xs) a = λ k d l. let low : k < length (xs ++ seat.held) = l in a (suc k) d (omega arith)

held_too : (P : Held → Type 0) (seat : Seat) (h : Held) → P h → All P (messages_at seat) → All P (messages_at (with_held h seat))
held_too P seat h its all =
    subst (All P) (append_assoc seat.queued seat.held (h ∷ [])) (All-push P (messages_at seat) h all its)

-- it is taken out, and held where it is to be answered
abbrev pub taken : Held → Seat → Seat
taken h seat = if is_answered h.msg.kind then with_held h (without_queued_at 0 seat) else without_queued_at 0 seat

pub taken_all : (P : Held → Type 0) (h : Held) (seat : Seat) → slice_get seat.queued 0 ≡ Some h → All P (messages_at seat)
    → All P (messages_at (taken h seat))
taken_all P h seat first all = go (is_answered h.msg.kind)
  where
    go : (b : Bool) → All P (messages_at (if b then with_held h (without_queued_at 0 seat) else without_queued_at 0 seat))
    go true = held_too P (without_queued_at 0 seat) h (oldest_too P seat h first all) (others_too P seat all)
    go false = others_too P seat all

-- a server's messages are few
pub slots_few : (who : ThreadId) (parts : CallTables) (serial k : ℕ) → AreSound no_store who (without_memory parts) → IsSeatOf (servers_of parts.servers) serial k
    → length (map message_of (seat_of parts.queues k).queued) + length (map message_of (seat_of parts.queues k).held) ≤ 128
unfolding machine_at
slots_few who parts serial k sound its =
    sound.matched.body.servers.slots serial (server_with (seat_of parts.queues k) its.server)
    (server_there parts.servers parts.queues serial k its sound.seats.all)
