-- What holds of the servers of every table.
use Rattle.std.proofs.Common.{◌≡◌, ◌<◌, ℕ, length, Some, true, is_some, ap, sym, ◌∙◌, arith}
use Rattle.std.specs.List.{All, Contains}
use Rattle.std.specs.List.Sorted.{IsStrictlyIncreasing}
use Rattle.std.proofs.lemmas.Option.{same_Some}
use Rattle.xk_base.specs.declared.limits.TheConstants.{SERVER_LIMIT}
use Rattle.xk_base.specs.Tables.RowMap.{row_map}
use Rattle.xk_base.proofs.CountingLemmas.{listed_below-ascends, listed_below-passes, listed_below-contains}
use Rattle.server_table.specs.declared.table.ServerSeat.{ServerSeat}
use Rattle.server_table.specs.declared.table.Servers.{Servers}
use Rattle.server_table.specs.Seats.{server_of}
use Rattle.server_table.specs.ServersOf.{servers_of}
use Rattle.xk_base.specs.Tables.Sids.{same_sid}
use Rattle.server_table.specs.ServerState.{Server, ServerState, live_serials}
use Rattle.server_table.proofs.SerialLemmas.{within, by_serial_found}

-- a serial that finds a server is one that was given
pub live_below : (t : Servers) (n : ℕ) (v : Server) → (servers_of t).live n ≡ Some v → n < (servers_of t).next
unfolding servers_of
live_below t n v h =
    let at : (i : ℕ) × (e : ServerSeat) × (row_map t.seats.items i ≡ Some e) × (e.serial.0 ≡ n) × (server_of i e ≡ v) = by_serial_found t.seats.items n v h in
    let low : at.1.serial.0 < t.next = t.apart.below at.0 at.1 at.2 in
    let same : at.1.serial.0 ≡ n = at.3 in
    omega arith

-- a server sits at one of the seats ..
pub seat_within : (t : Servers) (n : ℕ) (v : Server) → (servers_of t).live n ≡ Some v → v.seat < SERVER_LIMIT
unfolding servers_of
seat_within t n v h =
    let at : (i : ℕ) × (e : ServerSeat) × (row_map t.seats.items i ≡ Some e) × (e.serial.0 ≡ n) × (server_of i e ≡ v) = by_serial_found t.seats.items n v h in
    let l : at.0 < length t.seats.items = within t.seats.items at.0 at.1 at.2 in
    let same : at.0 ≡ v.seat = ap (λ x. x.seat) at.4 in
    let size : length t.seats.items ≡ SERVER_LIMIT = omega arith in
    omega arith

-- .. alone ..
pub seats_differ : (t : Servers) (m n : ℕ) (a b : Server) → (servers_of t).live m ≡ Some a → (servers_of t).live n ≡ Some b → a.seat ≡ b.seat → m ≡ n
unfolding servers_of
seats_differ t m n a b g h s =
    let x : (i : ℕ) × (e : ServerSeat) × (row_map t.seats.items i ≡ Some e) × (e.serial.0 ≡ m) × (server_of i e ≡ a) = by_serial_found t.seats.items m a g in
    let y : (i : ℕ) × (e : ServerSeat) × (row_map t.seats.items i ≡ Some e) × (e.serial.0 ≡ n) × (server_of i e ≡ b) = by_serial_found t.seats.items n b h in
    let one : x.0 ≡ y.0 = ap (λ v. v.seat) x.4 ∙ s ∙ sym (ap (λ v. v.seat) y.4) in
    let same : Some x.1 ≡ Some y.1 = sym x.2 ∙ ap (row_map t.seats.items) one ∙ y.2 in
    sym x.3 ∙ ap (λ e. e.serial.0) (same_Some x.1 y.1 same) ∙ y.3

-- .. and no two have one identifier
pub sids_differ : (t : Servers) (m n : ℕ) (a b : Server) → (servers_of t).live m ≡ Some a → (servers_of t).live n ≡ Some b → same_sid a.sid b.sid ≡ true → m ≡ n
unfolding servers_of
sids_differ t m n a b g h s =
    let x : (i : ℕ) × (e : ServerSeat) × (row_map t.seats.items i ≡ Some e) × (e.serial.0 ≡ m) × (server_of i e ≡ a) = by_serial_found t.seats.items m a g in
    let y : (i : ℕ) × (e : ServerSeat) × (row_map t.seats.items i ≡ Some e) × (e.serial.0 ≡ n) × (server_of i e ≡ b) = by_serial_found t.seats.items n b h in
    let alike : same_sid x.1.sid y.1.sid ≡ true = ap (λ v. same_sid v.sid y.1.sid) x.4 ∙ ap (λ v. same_sid a.sid v.sid) y.4 ∙ s in
    let one : x.0 ≡ y.0 = t.apart.sids x.0 y.0 x.1 y.1 x.2 y.2 alike in
    let same : Some x.1 ≡ Some y.1 = sym x.2 ∙ ap (row_map t.seats.items) one ∙ y.2 in
    sym x.3 ∙ ap (λ e. e.serial.0) (same_Some x.1 y.1 same) ∙ y.3

-- ---- the table as a list

-- it ascends, so that it has each serial once
pub live_serials-ascends : (s : ServerState) → IsStrictlyIncreasing (live_serials s)
live_serials-ascends s = listed_below-ascends s.next (λ n. is_some (s.live n))

-- it has living servers alone ..
pub live_serials-live : (s : ServerState) → All (λ n. (n < s.next) × (is_some (s.live n) ≡ true)) (live_serials s)
live_serials-live s = listed_below-passes s.next (λ n. is_some (s.live n))

-- .. and each of them
pub live_serials-contains : (t : Servers) (n : ℕ) (v : Server) → (servers_of t).live n ≡ Some v → Contains (live_serials (servers_of t)) n
live_serials-contains t n v h =
    listed_below-contains (servers_of t).next n (λ k. is_some ((servers_of t).live k)) (live_below t n v h) (ap is_some h)
