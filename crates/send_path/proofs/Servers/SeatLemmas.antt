-- What a change of one seat does to the servers of the machine.
use Rattle.std.proofs.Common.{◌≡◌, ℕ, zero, suc, ◌<◌, Bool, true, false, List, [], ◌∷◌, ◌++◌, length, drop, set, Option, Some, None, map, refl, sym, ap, subst, ◌∙◌}
use Rattle.std.specs.Prelude.{◌≢◌, nat_eq, if◌then◌else◌}
use Rattle.std.specs.List.{remove}
use Rattle.std.specs.Option.{option_map}
use Rattle.std.proofs.lemmas.Bool.{eqb-true, eq-eqb, false≢true}
use Rattle.std.proofs.lemmas.List.{get_or-set_same, get_or-set_other, length-set, map-append}
use Rattle.machine_model.specs.State.Machine.{Server}
use Rattle.msg_queue.specs.Seats.{Seat, changed_at, empty_seat, message_of, seat_of}
use Rattle.msg_queue.specs.declared.held.Held.{Held}
use Rattle.server_table.proofs.Lemmas.{seat_within, seats_differ}
use Rattle.server_table.specs.ServersOf.{servers_of}
use Rattle.server_table.specs.ServerState.{Server as TableServer}
use Rattle.server_table.specs.declared.table.Servers.{Servers}
use Rattle.xk_base.specs.Tables.Counting.{put_at}
use Rattle.xk_base.specs.declared.limits.TheConstants.{SERVER_LIMIT}
use Rattle.xk_parts.specs.Shown.{server_of, server_with, servers_shown}
use Rattle.xk_parts.specs.Seats.{IsSeatOf}

-- ---- one seat

pub seat_changed : (seats : List Seat) (k : ℕ) (f : Seat → Seat) → k < length seats → seat_of (changed_at k f seats) k ≡ f (seat_of seats k)
seat_changed seats k f l = get_or-set_same seats k (f (seat_of seats k)) empty_seat l

pub seat_other : (seats : List Seat) (k j : ℕ) (f : Seat → Seat) → j ≢ k → seat_of (changed_at k f seats) j ≡ seat_of seats j
seat_other seats k j f ne = get_or-set_other seats k j (f (seat_of seats k)) empty_seat ne

pub seats_counted : (seats : List Seat) (k : ℕ) (f : Seat → Seat) → length (changed_at k f seats) ≡ length seats
seats_counted seats k f = length-set seats k (f (seat_of seats k))

set_twice : (seats : List Seat) (k : ℕ) (a b : Seat) → set (set seats k a) k b ≡ set seats k b
set_twice [] k a b = refl
set_twice (x ∷ xs) zero a b = refl
set_twice (x ∷ xs) (suc k) a b = ap (λ ys. x ∷ ys) (set_twice xs k a b)

-- a seat changed twice is changed once
pub changed_twice : (seats : List Seat) (k : ℕ) (f g : Seat → Seat) → k < length seats
    → changed_at k g (changed_at k f seats) ≡ changed_at k (λ seat. g (f seat)) seats
changed_twice seats k f g l =
    ap (λ seat. set (changed_at k f seats) k (g seat)) (seat_changed seats k f l) ∙ set_twice seats k (f (seat_of seats k)) (g (f (seat_of seats k)))

-- ---- the servers

module _ (servers : Servers) (seats : List Seat) (serial k : ℕ) (its : IsSeatOf (servers_of servers) serial k) (all : length seats ≡ SERVER_LIMIT) where
  pub seat_is_there : k < length seats
  seat_is_there =
      subst (λ n. k < n) (sym all) (subst (λ j. j < SERVER_LIMIT) its.its (seat_within servers serial its.server its.live))

  pub seat_in_limit : k < SERVER_LIMIT
  seat_in_limit = subst (λ j. j < SERVER_LIMIT) its.its (seat_within servers serial its.server its.live)

  -- the server with the messages of its seat
  pub server_there : servers_shown servers seats serial ≡ Some (server_with (seat_of seats k) its.server)
  server_there =
      ap (option_map (server_of seats)) its.live ∙ ap (λ j. Some (server_with (seat_of seats j) its.server)) its.its

  pub server_changed : (f : Seat → Seat) (g : Server → Server)
      → server_with (f (seat_of seats k)) its.server ≡ g (server_with (seat_of seats k) its.server)
      → servers_shown servers (changed_at k f seats) ≡ put_at nat_eq (servers_shown servers seats) serial (option_map g (servers_shown servers seats serial))
  server_changed f g is = λ i n. at n (nat_eq n serial) refl i
    where
      here : servers_shown servers (changed_at k f seats) serial ≡ option_map g (servers_shown servers seats serial)
      here =
          ap (option_map (server_of (changed_at k f seats))) its.live
          ∙ ap (λ j. Some (server_with (seat_of (changed_at k f seats) j) its.server)) its.its
          ∙ ap (λ seat. Some (server_with seat its.server)) (seat_changed seats k f seat_is_there)
          ∙ ap Some is
          ∙ sym (ap (option_map g) server_there)

      other : (n : ℕ) → n ≢ serial → (o : Option TableServer) → (servers_of servers).live n ≡ o
          → option_map (server_of (changed_at k f seats)) o ≡ option_map (server_of seats) o
      other n ne None e = refl
      other n ne (Some v) e =
          ap (λ seat. Some (server_with seat v))
          (seat_other seats k v.seat f (λ same. ne (seats_differ servers n serial v its.server e its.live (same ∙ sym its.its))))

      at : (n : ℕ) (b : Bool) → nat_eq n serial ≡ b
          → servers_shown servers (changed_at k f seats) n
          ≡ (if b then option_map g (servers_shown servers seats serial) else servers_shown servers seats n)
      at n true e = ap (servers_shown servers (changed_at k f seats)) (eqb-true n serial e) ∙ here
      at n false e = other n (λ same. false≢true (sym e ∙ eq-eqb n serial same)) ((servers_of servers).live n) refl

-- ---- lists of messages

pub oldest_left : (xs : List Held) → map message_of (remove xs 0) ≡ drop 1 (map message_of xs)
oldest_left [] = refl
oldest_left (x ∷ xs) = refl

pub one_more : (xs : List Held) (h : Held) → map message_of (xs ++ h ∷ []) ≡ map message_of xs ++ h.msg ∷ []
one_more xs h = map-append message_of xs (h ∷ [])
