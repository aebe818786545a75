-- Servers that close one after another.
use Rattle.std.proofs.Common.{◌≡◌, ℕ, zero, suc, ◌+◌, ◌<◌, Bool, true, false, List, Option, Some, None, refl, sym, ap, subst, ◌∙◌, arith}
use Rattle.std.specs.Prelude.{◌≢◌, ◌==◌, ◌||◌, ◌&&◌, IsSome, if◌then◌else◌, is_none, is_some}
use Rattle.std.specs.List.{list_any}
use Rattle.std.specs.Option.{option_map, option_or}
use Rattle.std.proofs.lemmas.Bool.{eq-eqb, eqb-true, false≢true}
use Rattle.std.proofs.lemmas.Option.{none-some, same_Some}
use Rattle.machine_laws.proofs.Messaging.AnyServerLemmas.{no_server}
use Rattle.machine_model.proofs.Messaging.LoanSetLemmas.{both_end, none_ends}
use Rattle.machine_model.specs.Ending.Closing.{any_server, is_message_at, is_sender_at, server_passes}
use Rattle.machine_model.specs.Messaging.LoanSets.{end_loans}
use Rattle.machine_model.specs.Messaging.Messages.{is_of_number, is_sent_by}
use Rattle.machine_model.specs.State.Machine.{Machine, Server}
use Rattle.machine_model.specs.State.Servers.{is_server_of, messages_of}
use Rattle.msg_queue.specs.Seats.{Seat}
use Rattle.send_path.proofs.Servers.MachineLemmas.{same_owner_test}
use Rattle.xk_parts.specs.Shown.{servers_shown}
use Rattle.server_table.proofs.Lemmas.{live_below}
use Rattle.server_table.specs.ServersOf.{servers_of}
use Rattle.server_table.specs.ServerState.{Server as TableServer, is_of, least_of}
use Rattle.server_table.specs.declared.table.Servers.{Servers}
use Rattle.xk_base.proofs.CountingLemmas.{count_below-one, least_below-none, least_below-passes}
use Rattle.xk_base.specs.Tables.Counting.{count_below, least_below}
use Rattle.xk_base.specs.Tables.Sids.{serial_of}
use Rattle.xk_base.specs.declared.ids.Pid.{Pid}
use Rattle.xk_base.specs.declared.ids.Serial.{Serial}
use Rattle.kill_path.specs.Closing.{AreClosed, Closable, with_servers}

-- ---- none closes

or_false : (b : Bool) → b ≡ (b || false)
or_false true = refl
or_false false = refl

pub nothing_closed : (which : ℕ → Bool) (a : Closable) → ((n : ℕ) → which n ≡ false) → AreClosed which a a
nothing_closed which a none = record {
  ledger = λ m. sym (none_ends (is_message_at which (with_servers a m)) (λ number. nothing m (λ server. list_any (is_of_number number) (messages_of server))) a.ledger);
  noted = λ m id. or_false (a.noted id) ∙ ap (λ b. a.noted id || b) (sym (nothing m (λ server. list_any (is_sent_by id) (messages_of server))));
  servers = λ n. sym (ap (λ b. if b then None else servers_shown a.servers a.seats n) (none n));
  next = refl;
}
  where
    nothing : (m : Machine) (test : Server → Bool) → any_server (with_servers a m) (λ n server. which n && test server) ≡ false
    nothing m test = no_server (with_servers a m) (λ n server. which n && test server) (λ n server e. ap (λ b. b && test server) (none n))

-- ---- some close, and then others

found_or : (o : Option ℕ) (b : Bool) (n : ℕ) → is_some (option_or o (if b then Some n else None)) ≡ (is_some o || b)
found_or None true n = refl
found_or None false n = refl
found_or (Some k) b n = refl

swapped : (a b c d : Bool) → ((a || b) || (c || d)) ≡ ((a || c) || (b || d))
swapped true b true d = refl
swapped true b false d = refl
swapped false true true d = refl
swapped false true false d = refl
swapped false false c d = refl

-- one below passes one of two tests
below_or : (n : ℕ) (f g h : ℕ → Bool) → ((k : ℕ) → f k ≡ (g k || h k))
    → is_some (least_below n f) ≡ (is_some (least_below n g) || is_some (least_below n h))
unfolding least_below
below_or zero f g h e = refl
below_or (suc n) f g h e =
    found_or (least_below n f) (f n) n
    ∙ (λ i. below_or n f g h e i || e n i)
    ∙ swapped (is_some (least_below n g)) (is_some (least_below n h)) (g n) (h n)
    ∙ sym (λ i. found_or (least_below n g) (g n) n i || found_or (least_below n h) (h n) n i)

passes_or : (test : Server → Bool) (o : Option Server) (a b : Bool)
    → server_passes (λ server. (a || b) && test server) o
    ≡ (server_passes (λ server. a && test server) o || server_passes (λ server. b && test server) (if a then None else o))
passes_or test None true b = refl
passes_or test None false b = refl
passes_or test (Some server) true b = or_false (test server)
passes_or test (Some server) false b = refl

or_or : (a b c : Bool) → ((a || b) || c) ≡ (a || (b || c))
or_or true b c = refl
or_or false b c = refl

module _ (p q : ℕ → Bool) (a b c : Closable) (first : AreClosed p a b) (second : AreClosed q b c) where
  -- a server of either that passes is one of the first, or one of the second that the first left
  any_either : (m : Machine) (test : Server → Bool) → any_server (with_servers a m) (λ n server. (p n || q n) && test server)
      ≡ (any_server (with_servers a m) (λ n server. p n && test server) || any_server (with_servers b m) (λ n server. q n && test server))
  unfolding any_server
  any_either m test =
      below_or (servers_of a.servers).next
      (λ n. server_passes (λ server. (p n || q n) && test server) (servers_shown a.servers a.seats n))
      (λ n. server_passes (λ server. p n && test server) (servers_shown a.servers a.seats n))
      (λ n. server_passes (λ server. q n && test server) (if p n then None else servers_shown a.servers a.seats n))
      (λ n. passes_or test (servers_shown a.servers a.seats n) (p n) (q n))
      ∙ (λ i. is_some (least_below (servers_of a.servers).next (λ n. server_passes (λ server. p n && test server) (servers_shown a.servers a.seats n)))
      || is_some (least_below (sym first.next i) (λ n. server_passes (λ server. q n && test server) (sym (first.servers n) i))))

  gone_or : (o : Option Server) (x y : Bool) → (if y then None else (if x then None else o)) ≡ (if x || y then None else o)
  gone_or o true true = refl
  gone_or o true false = refl
  gone_or o false y = refl

  pub both_closed : AreClosed (λ n. p n || q n) a c
  both_closed = record {
    ledger = λ m. second.ledger m ∙ ap (end_loans (is_message_at q (with_servers b m))) (first.ledger m)
        ∙ both_end (is_message_at p (with_servers a m)) (is_message_at q (with_servers b m)) a.ledger
        ∙ (λ i. end_loans (λ number. sym (any_either m (λ server. list_any (is_of_number number) (messages_of server))) i) a.ledger);
    noted = λ m id. second.noted m id ∙ ap (λ x. x || is_sender_at q (with_servers b m) id) (first.noted m id)
        ∙ or_or (a.noted id) (is_sender_at p (with_servers a m) id) (is_sender_at q (with_servers b m) id)
        ∙ ap (λ x. a.noted id || x) (sym (any_either m (λ server. list_any (is_sent_by id) (messages_of server))));
    servers = λ n. second.servers n ∙ ap (λ o. if q n then None else o) (first.servers n) ∙ gone_or (servers_shown a.servers a.seats n) (p n) (q n);
    next = second.next ∙ first.next;
  }

-- ---- of a process, all that are gone so far

abbrev pub owned : Pid → Closable → ℕ → Bool
owned pid a n = is_server_of pid (servers_shown a.servers a.seats n)

abbrev pub gone_so_far : Pid → Closable → Closable → ℕ → Bool
gone_so_far pid a b n = owned pid a n && is_none (servers_shown b.servers b.seats n)

none_owned : (pid : Pid) (o : Option Server) → (is_server_of pid o && is_none o) ≡ false
none_owned pid None = refl
none_owned pid (Some server) = go (is_server_of pid (Some server))
  where
    go : (b : Bool) → (b && false) ≡ false
    go true = refl
    go false = refl

pub none_so_far : (pid : Pid) (a : Closable) → AreClosed (gone_so_far pid a a) a a
none_so_far pid a = nothing_closed (gone_so_far pid a a) a (λ n. none_owned pid (servers_shown a.servers a.seats n))

pub one_more_gone : (pid : Pid) (s : Serial) (a b c : Closable) → AreClosed (gone_so_far pid a b) a b → AreClosed (λ n. n == s.0) b c
    → owned pid b s.0 ≡ true → AreClosed (gone_so_far pid a c) a c
one_more_gone pid s a b c first second own =
    subst (λ (set : ℕ → Bool). AreClosed set a c) (λ i n. same n (n == s.0) refl i) (both_closed (gone_so_far pid a b) (λ n. n == s.0) a b c first second)
  where
    was_owned : owned pid a s.0 ≡ true
    was_owned = go (gone_so_far pid a b s.0) (sym (ap (is_server_of pid) (first.servers s.0)) ∙ own)
      where
        go : (x : Bool) → is_server_of pid (if x then None else servers_shown a.servers a.seats s.0) ≡ true → owned pid a s.0 ≡ true
        go true e = absurd (false≢true e)
        go false e = e

    same : (n : ℕ) (x : Bool) → (n == s.0) ≡ x → (gone_so_far pid a b n || x) ≡ gone_so_far pid a c n
    same n true e =
        or_true (gone_so_far pid a b n)
        ∙ sym (ap (λ k. gone_so_far pid a c k) (eqb-true n s.0 e)
        ∙ (λ i. was_owned i && is_none (second.servers s.0 i))
        ∙ ap (λ y. is_none {T = Server} (if y then None else servers_shown b.servers b.seats s.0)) (eq-eqb s.0 s.0 refl))
      where
        or_true : (y : Bool) → (y || true) ≡ true
        or_true true = refl
        or_true false = refl
    same n false e =
        sym (or_false (gone_so_far pid a b n))
        ∙ ap (λ o. owned pid a n && is_none o) (sym (second.servers n ∙ ap (λ y. if y then None else servers_shown b.servers b.seats n) e))

pub all_gone : (pid : Pid) (a b : Closable) → AreClosed (gone_so_far pid a b) a b → ((n : ℕ) → owned pid b n ≡ false)
    → AreClosed (owned pid a) a b
all_gone pid a b so_far none = subst (λ (set : ℕ → Bool). AreClosed set a b) (λ i n. same n (gone_so_far pid a b n) refl i) so_far
  where
    same : (n : ℕ) (x : Bool) → gone_so_far pid a b n ≡ x → gone_so_far pid a b n ≡ owned pid a n
    same n true e = e ∙ sym (left_true (owned pid a n) (is_none (servers_shown b.servers b.seats n)) e)
      where
        left_true : (p q : Bool) → (p && q) ≡ true → p ≡ true
        left_true true q r = refl
        left_true false q r = r
    same n false e =
        e ∙ sym (none n) ∙ ap (is_server_of pid) (so_far.servers n)
        ∙ ap (λ y. is_server_of pid (if y then None else servers_shown a.servers a.seats n)) e

-- ---- the least server of a process

pub least_is_of : (servers : Servers) (pid : Pid) (serial : Serial) → least_of pid (servers_of servers) ≡ Some serial
    → is_of pid ((servers_of servers).live serial.0) ≡ true
least_is_of servers pid serial e =
    go (least_below (servers_of servers).next (λ n. is_of pid ((servers_of servers).live n))) refl e
  where
    go : (o : Option ℕ) → least_below (servers_of servers).next (λ n. is_of pid ((servers_of servers).live n)) ≡ o → option_map serial_of o ≡ Some serial
        → is_of pid ((servers_of servers).live serial.0) ≡ true
    go None q r = absurd (none-some serial r)
    go (Some k) q r =
        ap (λ (x : Serial). is_of pid ((servers_of servers).live x.0)) (sym (same_Some (serial_of k) serial r))
        ∙ least_below-passes (servers_of servers).next (λ n. is_of pid ((servers_of servers).live n)) k q

pub least_is_owned : (servers : Servers) (seats : List Seat) (pid : Pid) (serial : Serial) → least_of pid (servers_of servers) ≡ Some serial
    → is_server_of pid (servers_shown servers seats serial.0) ≡ true
least_is_owned servers seats pid serial e = same_owner_test pid seats ((servers_of servers).live serial.0) ∙ least_is_of servers pid serial e

pub owned_lives : (pid : Pid) (o : Option TableServer) → is_of pid o ≡ true → IsSome o
owned_lives pid None e = absurd (false≢true e)
owned_lives pid (Some v) e = refl

pub none_is_owned : (servers : Servers) (seats : List Seat) (pid : Pid) → least_of pid (servers_of servers) ≡ None
    → (n : ℕ) → is_server_of pid (servers_shown servers seats n) ≡ false
none_is_owned servers seats pid e n = same_owner_test pid seats ((servers_of servers).live n) ∙ go (least_below (servers_of servers).next (λ k. is_of pid ((servers_of servers).live k))) refl e
  where
    by_live : (o : Option TableServer) → (servers_of servers).live n ≡ o → least_below (servers_of servers).next (λ k. is_of pid ((servers_of servers).live k)) ≡ None
        → is_of pid o ≡ false
    by_live None q r = refl
    by_live (Some v) q r =
        ap (is_of pid) (sym q)
        ∙ least_below-none (servers_of servers).next (λ k. is_of pid ((servers_of servers).live k)) r n (live_below servers n v q)

    go : (o : Option ℕ) → least_below (servers_of servers).next (λ k. is_of pid ((servers_of servers).live k)) ≡ o → option_map serial_of o ≡ None
        → is_of pid ((servers_of servers).live n) ≡ false
    go None q r = by_live ((servers_of servers).live n) refl q
    go (Some k) q r = absurd (none-some (serial_of k) (sym r))

-- fewer of its servers are left
pub fewer_owned : (pid : Pid) (s : ℕ) (b c : Closable) → AreClosed (λ n. n == s) b c → owned pid b s ≡ true → s < (servers_of b.servers).next
    → count_below (servers_of c.servers).next (owned pid c) < count_below (servers_of b.servers).next (owned pid b)
fewer_owned pid s b c second own low =
    let one : count_below (servers_of b.servers).next (owned pid b) ≡ count_below (servers_of b.servers).next (owned pid c) + 1 =
    count_below-one (servers_of b.servers).next s (owned pid b) (owned pid c) low own gone others in
    let same : count_below (servers_of c.servers).next (owned pid c) ≡ count_below (servers_of b.servers).next (owned pid c) =
    ap (λ n. count_below n (owned pid c)) second.next in
    omega arith
  where
    gone : owned pid c s ≡ false
    gone = ap (is_server_of pid) (second.servers s) ∙ ap (λ x. is_server_of pid (if x then None else servers_shown b.servers b.seats s)) (eq-eqb s s refl)

    apart : (j : ℕ) → j ≢ s → (j == s) ≡ false
    apart j ne = go (j == s) refl
      where
        go : (x : Bool) → (j == s) ≡ x → x ≡ false
        go true q = absurd (ne (eqb-true j s q))
        go false q = refl

    others : (j : ℕ) → j < (servers_of b.servers).next → (j ≡ s → ⊥) → owned pid b j ≡ owned pid c j
    others j low ne =
        sym (ap (is_server_of pid) (second.servers j) ∙ ap (λ x. is_server_of pid (if x then None else servers_shown b.servers b.seats j)) (apart j ne))
