-- The table after a new server, and after the end of one.
use Rattle.std.proofs.Common.{◌≡◌, ℕ, ◌+◌, ◌<◌, List, length, set, Option, Some, None, nat_eq, is_none, ap, sym, ◌∙◌, refl, arith}
use Rattle.std.proofs.lemmas.List.{length-set}
use Rattle.xk_base.specs.declared.ids.Pid.{Pid}
use Rattle.xk_base.specs.declared.ids.Sid.{Sid}
use Rattle.xk_base.specs.declared.limits.TheConstants.{SERVER_LIMIT}
use Rattle.xk_base.specs.Tables.Counting.{least_below, put_at}
use Rattle.xk_base.specs.Tables.RowMap.{row_map}
use Rattle.xk_base.specs.Tables.Sids.{serial_of}
use Rattle.server_table.specs.declared.table.ServerSeat.{ServerSeat}
use Rattle.server_table.specs.Seats.{server_of, by_serial, seat_with, AreApart, AreCounted}
use Rattle.server_table.specs.ServerState.{with_sid, with_server, without_server, free_seat}
use Rattle.server_table.proofs.AnsweredLemmas.{state, fresh_sid, fresh_sid', free_seat_is, empty_is}
use Rattle.server_table.proofs.ChangeLemmas.{apart_made, by_serial_made, apart_removed, by_serial_removed, nothing_removed, counted_apart}
use Rattle.server_table.proofs.SerialLemmas.{seat_with_found, by_serial_none}

-- what is put at the seat of a new server
abbrev pub new_seat : Sid → ℕ → Pid → ServerSeat
new_seat sid next pid = record { sid = sid; serial = serial_of next; pid = pid }

pub made_apart : (xs : List (Option ServerSeat)) (next i : ℕ) (sid : Sid) (pid : Pid) → AreApart xs next → length xs ≡ SERVER_LIMIT → i < SERVER_LIMIT
    → with_sid sid (state xs next) ≡ None → AreApart (set xs i (Some (new_seat sid next pid))) (next + 1)
made_apart xs next i sid pid apart size l new =
    apart_made xs next i (new_seat sid next pid) apart (omega arith) refl (fresh_sid xs next sid apart size new) (fresh_sid' xs next sid apart size new)

made_map : (xs : List (Option ServerSeat)) (next i : ℕ) (sid : Sid) (pid : Pid) → AreApart xs next → length xs ≡ SERVER_LIMIT → i < SERVER_LIMIT
    → with_sid sid (state xs next) ≡ None → least_below SERVER_LIMIT (λ j. is_none (row_map xs j)) ≡ Some i
    → by_serial (set xs i (Some (new_seat sid next pid))) ≡ put_at nat_eq (by_serial xs) next (Some (server_of i (new_seat sid next pid)))
made_map xs next i sid pid apart size l new empty =
    by_serial_made xs next i (new_seat sid next pid) (made_apart xs next i sid pid apart size l new) size (omega arith) (empty_is xs i empty) refl

pub made_counted : (xs : List (Option ServerSeat)) (next i : ℕ) (sid : Sid) (pid : Pid) → AreApart xs next → length xs ≡ SERVER_LIMIT → i < SERVER_LIMIT
    → with_sid sid (state xs next) ≡ None → AreCounted (set xs i (Some (new_seat sid next pid))) (next + 1)
made_counted xs next i sid pid apart size l new =
    counted_apart (set xs i (Some (new_seat sid next pid))) (next + 1) (made_apart xs next i sid pid apart size l new)
    (length-set xs i (Some (new_seat sid next pid)) ∙ size)

pub made_state : (xs : List (Option ServerSeat)) (next i : ℕ) (sid : Sid) (pid : Pid) → AreApart xs next → length xs ≡ SERVER_LIMIT → i < SERVER_LIMIT
    → with_sid sid (state xs next) ≡ None → least_below SERVER_LIMIT (λ j. is_none (row_map xs j)) ≡ Some i
    → state (set xs i (Some (new_seat sid next pid))) (next + 1) ≡ with_server sid pid (free_seat (state xs next)) (state xs next)
made_state xs next i sid pid apart size l new empty =
    (λ k. record { next = next + 1; live = made_map xs next i sid pid apart size l new empty k })
    ∙ sym (ap (λ o. with_server sid pid o (state xs next)) (free_seat_is xs next apart size ∙ empty))

-- ---- the end of a server

pub removed_apart : (xs : List (Option ServerSeat)) (next i : ℕ) → AreApart xs next → length xs ≡ SERVER_LIMIT → i < SERVER_LIMIT → AreApart (set xs i None) next
removed_apart xs next i apart size l = apart_removed xs next i apart (omega arith)

removed_map : (xs : List (Option ServerSeat)) (next n i : ℕ) → AreApart xs next → length xs ≡ SERVER_LIMIT → i < SERVER_LIMIT → seat_with xs n ≡ Some i
    → by_serial (set xs i None) ≡ put_at nat_eq (by_serial xs) n None
removed_map xs next n i apart size l at =
    let here : (e : ServerSeat) × (row_map xs i ≡ Some e) × (e.serial.0 ≡ n) = seat_with_found xs n i at in
    by_serial_removed xs next i here.0 apart (omega arith) here.1 ∙ ap (λ m. put_at nat_eq (by_serial xs) m None) here.2

pub removed_counted : (xs : List (Option ServerSeat)) (next i : ℕ) → AreApart xs next → length xs ≡ SERVER_LIMIT → i < SERVER_LIMIT
    → AreCounted (set xs i None) next
removed_counted xs next i apart size l =
    counted_apart (set xs i None) next (removed_apart xs next i apart size l) (length-set xs i None ∙ size)

pub removed_state : (xs : List (Option ServerSeat)) (next n i : ℕ) → AreApart xs next → length xs ≡ SERVER_LIMIT → i < SERVER_LIMIT → seat_with xs n ≡ Some i
    → state (set xs i None) next ≡ without_server n (state xs next)
removed_state xs next n i apart size l at = λ k. record { next = next; live = removed_map xs next n i apart size l at k }

pub unknown_state : (xs : List (Option ServerSeat)) (next n : ℕ) → seat_with xs n ≡ None → state xs next ≡ without_server n (state xs next)
unknown_state xs next n none = λ k. record { next = next; live = nothing_removed xs n (by_serial_none xs n none) k }
