-- The server at a seat, by its serial.
use Rattle.std.proofs.Common.{◌≡◌, ℕ, ◌<◌, Bool, true, false, Option, Some, None, refl, sym, ap, ◌∙◌, arith}
use Rattle.std.specs.Prelude.{◌==◌}
use Rattle.std.specs.Option.{option_and_then, option_map}
use Rattle.std.proofs.lemmas.Bool.{eq-eqb, eqb-true}
use Rattle.std.proofs.lemmas.Option.{none-some, same_Some}
use Rattle.server_table.proofs.Lemmas.{live_below, seats_differ}
use Rattle.server_table.specs.ServersOf.{servers_of}
use Rattle.server_table.specs.ServerState.{Server, at_seat, has_seat, least_serial, seat_view}
use Rattle.server_table.specs.declared.table.ServerSeat.{ServerSeat}
use Rattle.server_table.specs.declared.table.Servers.{Servers}
use Rattle.xk_base.proofs.CountingLemmas.{least_below-Some, least_below-passes}

module _ (servers : Servers) where
  -- a live server is found at its seat
  pub seat_found : (n : ℕ) (v : Server) → (servers_of servers).live n ≡ Some v → at_seat v.seat (servers_of servers) ≡ Some (seat_view n v)
  seat_found n v live =
      ap (option_and_then (λ k. option_map (seat_view k) ((servers_of servers).live k)))
      (least_below-Some (servers_of servers).next (λ k. has_seat v.seat ((servers_of servers).live k)) n (live_below servers n v live)
      (ap (has_seat v.seat) live ∙ eq-eqb v.seat v.seat refl) (λ j l. lower j l ((servers_of servers).live j) refl))
      ∙ ap (option_map (seat_view n)) live
    where
      lower : (j : ℕ) → j < n → (o : Option Server) → (servers_of servers).live j ≡ o → has_seat v.seat o ≡ false
      lower j l None e = refl
      lower j l (Some w) e = go (w.seat == v.seat) refl
        where
          go : (b : Bool) → (w.seat == v.seat) ≡ b → b ≡ false
          go false q = refl
          go true q = let same : j ≡ n = seats_differ servers j n w v e live (eqb-true w.seat v.seat q) in absurd (omega arith)

  -- what is found at a seat is a live server of that seat
  pub record FoundAt (seat : ℕ) (e : ServerSeat) : Type 0 where
    pub server : Server
    pub live : (servers_of servers).live e.serial.0 ≡ Some server
    pub its : server.seat ≡ seat
    pub pid : server.pid ≡ e.pid

  pub found_seat : (seat : ℕ) (e : ServerSeat) → at_seat seat (servers_of servers) ≡ Some e → FoundAt seat e
  found_seat seat e found = by_serial (least_serial (has_seat seat) (servers_of servers)) refl found
    where
      by_server : (n : ℕ) → has_seat seat ((servers_of servers).live n) ≡ true → (o : Option Server) → (servers_of servers).live n ≡ o
          → option_map (seat_view n) o ≡ Some e → FoundAt seat e
      by_server n passes None q r = absurd (none-some e r)
      by_server n passes (Some v) q r =
          let same : seat_view n v ≡ e = same_Some (seat_view n v) e r in
          record {
            server = v;
            live = ap (servers_of servers).live (sym (ap (λ (x : ServerSeat). x.serial.0) same)) ∙ q;
            its = eqb-true v.seat seat (sym (ap (has_seat seat) q) ∙ passes);
            pid = ap (λ (x : ServerSeat). x.pid) same;
          }

      by_serial : (o : Option ℕ) → least_serial (has_seat seat) (servers_of servers) ≡ o
          → option_and_then (λ n. option_map (seat_view n) ((servers_of servers).live n)) o ≡ Some e → FoundAt seat e
      by_serial None p q = absurd (none-some e q)
      by_serial (Some n) p q =
          by_server n (least_below-passes (servers_of servers).next (λ k. has_seat seat ((servers_of servers).live k)) n p)
          ((servers_of servers).live n) refl q
