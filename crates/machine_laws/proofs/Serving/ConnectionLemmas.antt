-- Other connections of processes: the machine that has them stays matched. One process is connected to one server more.
use Rattle.std.proofs.Common.{◌≡◌, ℕ, zero, suc, ◌+◌, ◌<◌, ◌≤◌, Bool, true, false, List, [], ◌∷◌, ◌++◌, get_or, length, Some, None, refl, sym, ap, ◌∙◌, arith, subst}
use Rattle.std.specs.Prelude.{◌==◌, ◌||◌, cond, if◌then◌else◌, is_some, nat_eq, nat_lt, IsFalse}
use Rattle.std.specs.List.{All, AllPairs, position_or_len}
use Rattle.std.specs.Option.{option_map}
use Rattle.std.proofs.lemmas.Bool.{eqb-true, false≢true, ltb-false, ltb-true}
use Rattle.std.proofs.lemmas.List.{length-append}
use Rattle.std.proofs.lemmas.List.Elements.{All-append, All-cons, All-nil}
use Rattle.std.proofs.lemmas.List.Kept.{AllPairs-cons}
use Rattle.std.proofs.lemmas.List.Sums.{fails_before_first}
use Rattle.xk_base.specs.declared.ids.Pid.{Pid}
use Rattle.xk_base.specs.declared.ids.Serial.{Serial}
use Rattle.xk_base.specs.declared.limits.TheConstants.{CONNECTION_LIMIT}
use Rattle.xk_base.specs.Tables.Connections.{cid_to, connected, has_room}
use Rattle.machine_model.specs.State.Connections.{connect_caller, own_connections}
use Rattle.machine_model.specs.State.Machine.{Machine, Process}
use Rattle.machine_model.specs.Runs.Matched.{Matched, is_alive, is_living}

-- ---- all connections

-- what the connections of the processes must be: to serials below the next, no two to one, few, and none of the dead
pub record AreFitConnections (next : ℕ) (process : ℕ → Process) (c : ℕ → List Serial) : Type 0 where
  pub apart : (pid : Pid) → AllPairs (λ a b. IsFalse (a.0 == b.0)) (c pid.0)
  pub few : (pid : Pid) → length (c pid.0) ≤ CONNECTION_LIMIT
  pub none : (pid : Pid) → IsFalse (is_alive process pid) → c pid.0 ≡ []
  pub below : (pid : Pid) → All (λ connection. connection.0 < next) (c pid.0)

abbrev pub with_connections : (ℕ → List Serial) → Machine → Machine
with_connections c m = record m { process = λ q. record (m.process q) { connections = c q } }

pub connections_matched : (m : Machine) → Matched m → (c : ℕ → List Serial) → AreFitConnections m.next_serial m.process c
    → Matched (with_connections c m)
connections_matched m h c fit = record {
  body = record {
    ledger = record {
      lawful = h.body.ledger.lawful;
      homes_live = h.body.ledger.homes_live;
      holders_live = h.body.ledger.holders_live;
      orphans_live = h.body.ledger.orphans_live;
    };
    loans = h.body.loans;
    senders = h.body.senders;
    receivers = h.body.receivers;
    joiners = h.body.joiners;
    threads = record {
      handler = h.body.threads.handler;
      above = h.body.threads.above;
      idle = h.body.threads.idle;
      pcs = h.body.threads.pcs;
    };
    heaps = record { whole = h.body.heaps.whole; within = h.body.heaps.within; below = h.body.heaps.below };
    ids = record { known = h.body.ids.known; living = h.body.ids.living };
    pages = h.body.pages;
    processes = record {
      few = h.body.processes.few;
      pids = h.body.processes.pids;
      apart = fit.apart;
      connections = fit.few;
      no_connection = fit.none;
      no_heap = h.body.processes.no_heap;
    };
    servers = record {
      living = h.body.servers.living;
      sids = h.body.servers.sids;
      numbers = h.body.servers.numbers;
      few = h.body.servers.few;
      slots = h.body.servers.slots;
    };
  };
  rest = record {
    handlers = h.rest.handlers;
    claims = record {
      living = h.rest.claims.living;
      numbers = h.rest.claims.numbers;
      pending_claimed = h.rest.claims.pending_claimed;
    };
    above = record { numbers = h.rest.above.numbers; serials = h.rest.above.serials; connections = fit.below };
    stepped = h.rest.stepped;
    timer = h.rest.timer;
  };
}

-- ---- one connection more

AllPairs-push : (R : Serial → Serial → Type 0) (xs : List Serial) (x : Serial) → AllPairs R xs → All (λ a. R a x) xs → AllPairs R (xs ++ x ∷ [])
AllPairs-push R [] x pairs all = λ i j d before within. absurd (omega arith)
AllPairs-push R (y ∷ xs) x pairs all =
    AllPairs-cons R y (xs ++ x ∷ [])
    (All-append (R y) xs (x ∷ []) (λ k d within. pairs zero (suc k) d (omega arith) (omega arith))
    (All-cons (R y) x [] (all zero y (omega arith)) (All-nil (R y))))
    (AllPairs-push R xs x (λ i j d before within. pairs (suc i) (suc j) d (omega arith) (omega arith))
    (λ k d within. all (suc k) d (omega arith)))

-- to a server without a connection none leads
not_connected : (serial : Serial) (xs : List Serial) → is_some (cid_to serial xs) ≡ false → All (λ a. (a.0 == serial.0) ≡ false) xs
not_connected serial xs e k d within = go (nat_lt (position_or_len test xs) (length xs)) refl e
  where
    test : Serial → Bool
    test s = s.0 == serial.0

    go : (b : Bool) → nat_lt (position_or_len test xs) (length xs) ≡ b
        → is_some (option_map (λ k. k + 2) (cond b (Some (position_or_len test xs)) None)) ≡ false → test (get_or xs k d) ≡ false
    go true q r = absurd (false≢true (sym r))
    go false q r =
        let all : length xs ≤ position_or_len test xs = ltb-false (position_or_len test xs) (length xs) q in
        fails_before_first test xs k d (omega arith)

-- a list of connections that may be one process's
pub record IsFitList (next : ℕ) (xs : List Serial) : Type 0 where
  pub apart : AllPairs (λ a b. IsFalse (a.0 == b.0)) xs
  pub few : length xs ≤ CONNECTION_LIMIT
  pub below : All (λ connection. connection.0 < next) xs

connected_fits : (next : ℕ) (serial : Serial) (xs : List Serial) → IsFitList next xs → serial.0 < next → has_room serial xs ≡ true
    → IsFitList next (connected serial xs)
connected_fits next serial xs fit low room = go (is_some (cid_to serial xs)) refl room
  where
    go : (b : Bool) → is_some (cid_to serial xs) ≡ b → (b || nat_lt (length xs) CONNECTION_LIMIT) ≡ true
        → IsFitList next (if b then xs else xs ++ serial ∷ [])
    go true q r = fit
    go false q r =
        let less : length xs < CONNECTION_LIMIT = ltb-true (length xs) CONNECTION_LIMIT r in
        let long : length (xs ++ serial ∷ []) ≡ length xs + 1 = length-append xs (serial ∷ []) in
        record {
          apart = AllPairs-push (λ a b. IsFalse (a.0 == b.0)) xs serial fit.apart (not_connected serial xs q);
          few = omega arith;
          below = All-append (λ connection. connection.0 < next) xs (serial ∷ []) fit.below
              (All-cons (λ connection. connection.0 < next) serial [] low (All-nil (λ connection. connection.0 < next)));
        }

-- a server to which the caller's process may be connected: its serial is below the next, and there is room
pub record MayConnect (m : Machine) (serial : Serial) : Type 0 where
  pub low : serial.0 < m.next_serial
  pub room : has_room serial (own_connections m) ≡ true

module _ (m : Machine) (h : Matched m) (live : is_living m m.cursor.pid ≡ true) (serial : Serial) (may : MayConnect m serial) where
  abbrev caller : ℕ
  caller = m.cursor.pid.0

  abbrev lists : ℕ → List Serial
  lists q = if nat_eq q caller then connected serial (own_connections m) else (m.process q).connections

  own_fits : IsFitList m.next_serial (connected serial (own_connections m))
  own_fits = connected_fits m.next_serial serial (own_connections m) (record {
    apart = h.body.processes.apart m.cursor.pid;
    few = h.body.processes.connections m.cursor.pid;
    below = h.rest.above.connections m.cursor.pid;
  }) may.low may.room

  list_at : (P : List Serial → Type 0) (pid : Pid) (b : Bool) → P (connected serial (own_connections m)) → P (m.process pid.0).connections
      → P (if b then connected serial (own_connections m) else (m.process pid.0).connections)
  list_at P pid true own other = own
  list_at P pid false own other = other

  all_fit : AreFitConnections m.next_serial m.process lists
  all_fit = record {
    apart = λ pid. list_at (AllPairs (λ a b. IsFalse (a.0 == b.0))) pid (nat_eq pid.0 caller) own_fits.apart (h.body.processes.apart pid);
    few = λ pid. list_at (λ xs. length xs ≤ CONNECTION_LIMIT) pid (nat_eq pid.0 caller) own_fits.few (h.body.processes.connections pid);
    none = λ pid dead. none_at pid dead (nat_eq pid.0 caller) refl;
    below = λ pid. list_at (All (λ connection. connection.0 < m.next_serial)) pid (nat_eq pid.0 caller) own_fits.below (h.rest.above.connections pid);
  }
    where
      none_at : (pid : Pid) → is_living m pid ≡ false → (b : Bool) → nat_eq pid.0 caller ≡ b
          → (if b then connected serial (own_connections m) else (m.process pid.0).connections) ≡ []
      none_at pid dead true q = absurd (false≢true (sym dead ∙ ap (λ k. (m.process k).alive) (eqb-true pid.0 caller q) ∙ live))
      none_at pid dead false q = h.body.processes.no_connection pid dead

  same_process : (q : ℕ) (b : Bool) → nat_eq q caller ≡ b
      → record (m.process q) { connections = if b then connected serial (own_connections m) else (m.process q).connections }
      ≡ (if b then record (m.process caller) { connections = connected serial (own_connections m) } else m.process q)
  same_process q true e = ap (λ k. record (m.process k) { connections = connected serial (own_connections m) }) (eqb-true q caller e)
  same_process q false e = refl

  pub caller_connected : Matched (connect_caller serial m)
  caller_connected =
      subst (λ p. Matched (record m { process = p })) (λ i q. same_process q (nat_eq q caller) refl i) (connections_matched m h lists all_fit)
