-- The search for the server with the next serial, seat by seat.
use Rattle.std.proofs.Common.{◌≡◌, ℕ, ◌+◌, ◌≤◌, ◌<◌, Bool, true, false, leb, ltb, Option, Some, None, refl, sym, ap, ◌∙◌, arith}
use Rattle.std.proofs.lemmas.Bool.{leb-true, leb-false, ltb-true, ltb-false}
use Rattle.std.proofs.lemmas.Option.{none-some, same_Some}
use Rattle.server_table.proofs.SeatSearchLemmas.{found_seat, seat_found}
use Rattle.server_table.proofs.Lemmas.{seat_within}
use Rattle.server_table.specs.ServerState.{Server, at_seat, seat_view}
use Rattle.server_table.specs.ServersOf.{servers_of}
use Rattle.server_table.specs.declared.table.ServerSeat.{ServerSeat}
use Rattle.server_table.specs.declared.table.Servers.{Servers}
use Rattle.save_path.specs.Servers.{IsNextServer, lower_of, lower_seated, table_server}
use Rattle.save_path.specs.declared.servers.Seated.{Seated}

-- of the servers at seats below k with a serial from this one on, the one with the least
pub record IsLeast (servers : Servers) (low k : ℕ) (s : Seated) : Type 0 where
  pub live : (servers_of servers).live s.server.serial.0 ≡ Some (table_server s)
  pub behind : low ≤ s.server.serial.0
  pub least : (n : ℕ) (v : Server) → (servers_of servers).live n ≡ Some v → low ≤ n → v.seat < k → s.server.serial.0 ≤ n
  pub seat : s.seat < 64

abbrev pub IsLeastSeated : Servers → ℕ → ℕ → Option Seated → Type 0
IsLeastSeated servers low k None = (n : ℕ) (v : Server) → (servers_of servers).live n ≡ Some v → low ≤ n → k ≤ v.seat
IsLeastSeated servers low k (Some s) = IsLeast servers low k s

module _ (servers : Servers) (low : ℕ) where
  pub least_none : IsLeastSeated servers low 0 None
  least_none n v live le = omega arith

  -- ---- an empty seat

  none_at : (k : ℕ) → at_seat k (servers_of servers) ≡ None → (n : ℕ) (v : Server) → (servers_of servers).live n ≡ Some v → v.seat ≡ k → {A : Type 0} → A
  none_at k none n v live at =
      absurd (none-some (seat_view n v) (sym none ∙ ap (λ j. at_seat j (servers_of servers)) (sym at) ∙ seat_found servers n v live))

  past_empty : (k : ℕ) → at_seat k (servers_of servers) ≡ None → (least : Option Seated) → IsLeastSeated servers low k least
      → IsLeastSeated servers low (k + 1) least
  past_empty k none None h = λ n v live le. above n v live le (leb (k + 1) v.seat) refl
    where
      above : (n : ℕ) (v : Server) → (servers_of servers).live n ≡ Some v → low ≤ n → (b : Bool) → leb (k + 1) v.seat ≡ b → k + 1 ≤ v.seat
      above n v live le true e = leb-true (k + 1) v.seat e
      above n v live le false e =
          let low_seat = h n v live le in
          let high = leb-false (k + 1) v.seat e in
          none_at k none n v live (omega arith)
  past_empty k none (Some s) h = record {
    live = h.live;
    behind = h.behind;
    least = λ n v live le seat. below n v live le seat (ltb v.seat k) refl;
    seat = h.seat;
  }
    where
      below : (n : ℕ) (v : Server) → (servers_of servers).live n ≡ Some v → low ≤ n → v.seat < k + 1 → (b : Bool) → ltb v.seat k ≡ b → s.server.serial.0 ≤ n
      below n v live le seat true e = h.least n v live le (ltb-true v.seat k e)
      below n v live le seat false e = let high = ltb-false v.seat k e in none_at k none n v live (omega arith)

  -- ---- a server at the seat

  record IsAt (k : ℕ) (e : ServerSeat) : Type 0 where
    live : (servers_of servers).live e.serial.0 ≡ Some (table_server (record { seat = k; server = e }))
    only : (n : ℕ) (v : Server) → (servers_of servers).live n ≡ Some v → v.seat ≡ k → n ≡ e.serial.0

  is_at : (k : ℕ) (e : ServerSeat) → at_seat k (servers_of servers) ≡ Some e → IsAt k e
  is_at k e found =
      let at = found_seat servers k e found in
      let same = seen e.serial.0 at.server at.live at.its in
      record {
        live = at.live ∙ λ i. Some (record { sid = (same i).sid; pid = (same i).pid; seat = at.its i });
        only = λ n v live seat. ap (λ (x : ServerSeat). x.serial.0) (seen n v live seat);
      }
    where
      -- what stands at the seat is what is found there
      seen : (n : ℕ) (v : Server) → (servers_of servers).live n ≡ Some v → v.seat ≡ k → seat_view n v ≡ e
      seen n v live seat = same_Some (seat_view n v) e (sym (seat_found servers n v live) ∙ ap (λ j. at_seat j (servers_of servers)) seat ∙ found)

  -- one that doesn't count
  past_low : (k : ℕ) (e : ServerSeat) → IsAt k e → e.serial.0 < low → (least : Option Seated) → IsLeastSeated servers low k least
      → IsLeastSeated servers low (k + 1) least
  past_low k e at under None h = λ n v live le. above n v live le (leb (k + 1) v.seat) refl
    where
      above : (n : ℕ) (v : Server) → (servers_of servers).live n ≡ Some v → low ≤ n → (b : Bool) → leb (k + 1) v.seat ≡ b → k + 1 ≤ v.seat
      above n v live le true q = leb-true (k + 1) v.seat q
      above n v live le false q =
          let low_seat = h n v live le in
          let high = leb-false (k + 1) v.seat q in
          let same = at.only n v live (omega arith) in
          absurd (omega arith)
  past_low k e at under (Some s) h = record {
    live = h.live;
    behind = h.behind;
    least = λ n v live le seat. below n v live le seat (ltb v.seat k) refl;
    seat = h.seat;
  }
    where
      below : (n : ℕ) (v : Server) → (servers_of servers).live n ≡ Some v → low ≤ n → v.seat < k + 1 → (b : Bool) → ltb v.seat k ≡ b → s.server.serial.0 ≤ n
      below n v live le seat true q = h.least n v live le (ltb-true v.seat k q)
      below n v live le seat false q =
          let high = ltb-false v.seat k q in
          let same = at.only n v live (omega arith) in
          absurd (omega arith)

  -- the lower of the least so far and one that counts
  with_lower : (k : ℕ) (e : ServerSeat) → k < 64 → IsAt k e → low ≤ e.serial.0 → (least : Option Seated) → IsLeastSeated servers low k least
      → IsLeastSeated servers low (k + 1) (lower_of least (record { seat = k; server = e }))
  with_lower k e small at above None h = record {
    live = at.live;
    behind = above;
    least = λ n v live le seat.
        let low_seat = h n v live le in
        let same = at.only n v live (omega arith) in
        omega arith;
    seat = small;
  }
  with_lower k e small at above (Some s) h = go (leb s.server.serial.0 e.serial.0) refl
    where
      stays : s.server.serial.0 ≤ e.serial.0 → IsLeast servers low (k + 1) s
      stays le = record {
        live = h.live;
        behind = h.behind;
        least = λ n v live behind seat. below n v live behind seat (ltb v.seat k) refl;
        seat = h.seat;
      }
        where
          below : (n : ℕ) (v : Server) → (servers_of servers).live n ≡ Some v → low ≤ n → v.seat < k + 1 → (b : Bool) → ltb v.seat k ≡ b → s.server.serial.0 ≤ n
          below n v live behind seat true q = h.least n v live behind (ltb-true v.seat k q)
          below n v live behind seat false q =
              let high = ltb-false v.seat k q in
              let same = at.only n v live (omega arith) in
              omega arith

      falls : e.serial.0 < s.server.serial.0 → IsLeast servers low (k + 1) (record { seat = k; server = e })
      falls lt = record {
        live = at.live;
        behind = above;
        least = λ n v live behind seat. below n v live behind seat (ltb v.seat k) refl;
        seat = small;
      }
        where
          below : (n : ℕ) (v : Server) → (servers_of servers).live n ≡ Some v → low ≤ n → v.seat < k + 1 → (b : Bool) → ltb v.seat k ≡ b → e.serial.0 ≤ n
          below n v live behind seat true q =
              let first = h.least n v live behind (ltb-true v.seat k q) in
              omega arith
          below n v live behind seat false q =
              let high = ltb-false v.seat k q in
              let same = at.only n v live (omega arith) in
              omega arith

      go : (b : Bool) → leb s.server.serial.0 e.serial.0 ≡ b → IsLeastSeated servers low (k + 1) (lower_of (Some s) (record { seat = k; server = e }))
      go true q = rw q (stays (leb-true s.server.serial.0 e.serial.0 q))
      go false q = let lt = leb-false s.server.serial.0 e.serial.0 q in rw q (falls (omega arith))

  -- ONE SEAT more
  pub least_next : (k : ℕ) (least : Option Seated) (o : Option ServerSeat) → k < 64 → o ≡ at_seat k (servers_of servers) → IsLeastSeated servers low k least
      → IsLeastSeated servers low (k + 1) (lower_seated least k o low)
  least_next k least None small is h = past_empty k (sym is) least h
  least_next k least (Some e) small is h = go (ltb e.serial.0 low) refl
    where
      go : (b : Bool) → ltb e.serial.0 low ≡ b → IsLeastSeated servers low (k + 1) (lower_seated least k (Some e) low)
      go true q = rw q (past_low k e (is_at k e (sym is)) (ltb-true e.serial.0 low q) least h)
      go false q = rw q (with_lower k e small (is_at k e (sym is)) (ltb-false e.serial.0 low q) least h)

  -- ALL SEATS
  none_live : (n : ℕ) → ((v : Server) → (servers_of servers).live n ≡ Some v → ⊥) → (servers_of servers).live n ≡ None
  none_live n never = go ((servers_of servers).live n) refl
    where
      go : (o : Option Server) → (servers_of servers).live n ≡ o → (servers_of servers).live n ≡ None
      go None e = e
      go (Some v) e = absurd (never v e)

  pub least_all : (k : ℕ) (least : Option Seated) → 64 ≤ k → IsLeastSeated servers low k least → IsNextServer (servers_of servers) low least
  least_all k None all h = λ n le. none_live n (λ v live.
      let seat = h n v live le in
      let within = seat_within servers n v live in
      omega arith)
  least_all k (Some s) all h = record {
    live = h.live;
    behind = h.behind;
    least = λ n le under. none_live n (λ v live.
        let within = seat_within servers n v live in
        let first = h.least n v live le (omega arith) in
        omega arith);
    seat = h.seat;
  }
