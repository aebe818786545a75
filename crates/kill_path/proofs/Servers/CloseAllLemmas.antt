-- All servers close: what is left then.
use Rattle.std.proofs.Common.{◌≡◌, ℕ, ◌+◌, ◌<◌, ◌≤◌, Bool, true, false, get_or, length, Option, Some, None, refl, sym, ap, subst, ◌∙◌, arith}
use Rattle.std.specs.Prelude.{◌≢◌, ◌||◌, ◌&&◌, All, if◌then◌else◌, is_none, is_some}
use Rattle.std.specs.List.{list_any}
use Rattle.std.specs.Option.{option_map}
use Rattle.std.proofs.lemmas.Bool.{and_parts, eq-eqb, false≢true}
use Rattle.std.proofs.lemmas.List.{get_or_default}
use Rattle.std.proofs.lemmas.Option.{none-some, same_Some}
use Rattle.ledger_model.proofs.Loans.OfNumberLemmas.{fresh_still}
use Rattle.ledger_model.specs.Ledger.{Ledger, PageLoan}
use Rattle.ledger_model.specs.Loans.{IsFresh, OrphanLoan, loans, of_number, orphan_of_number, same_number}
use Rattle.ledger_model.proofs.LedgerLemmas.{same_number-true}
use Rattle.machine_laws.proofs.Messaging.AnyServerLemmas.{a_server}
use Rattle.machine_laws.proofs.Messaging.ListedLemmas.{at_listed}
use Rattle.machine_model.proofs.Ending.CloseManyLemmas.{ended_is_fresh}
use Rattle.machine_model.proofs.Matching.CountLemmas.{first_in}
use Rattle.machine_model.proofs.Matching.OneMessageLemmas.{HasServer, one_server}
use Rattle.machine_model.specs.Ending.Closing.{is_message_at}
use Rattle.machine_model.specs.Ending.Ends.{dead_process}
use Rattle.machine_model.specs.Messaging.LoanSets.{end_loans}
use Rattle.machine_model.specs.Messaging.MessageCounts.{HasOne}
use Rattle.machine_model.specs.Messaging.Messages.{is_lend, is_lend_of, is_of_number}
use Rattle.machine_model.specs.State.Machine.{Machine, Server}
use Rattle.machine_model.specs.State.Servers.{is_server_of, messages_of}
use Rattle.msg_queue.specs.Seats.{empty_seat, used_of}
use Rattle.xk_parts.specs.Shown.{server_of, servers_shown}
use Rattle.server_table.proofs.Lemmas.{live_below}
use Rattle.server_table.specs.ServersOf.{servers_of}
use Rattle.server_table.specs.ServerState.{Server as TableServer}
use Rattle.xk_base.proofs.CircleLemmas.{is_pid-bounds}
use Rattle.xk_base.specs.Tables.Circle.{is_pid}
use Rattle.xk_base.specs.declared.ids.Number.{Number}
use Rattle.xk_base.specs.declared.ids.Pid.{Pid}
use Rattle.xk_base.specs.declared.ids.Place.{Place}
use Rattle.xk_base.specs.declared.messages.Message.{Message}
use Rattle.kill_path.specs.Closing.{AreClosed, Closable, with_servers}
use Rattle.xk_parts.specs.Sound.{AreOpen, AreServersSound}
use Rattle.kill_path.proofs.Servers.CloseLemmas.{both_closed, nothing_closed, owned}
use Rattle.kill_path.proofs.Servers.OpenLemmas.{ended_same}

-- a machine with that ledger and nothing else: what closes is the same in every machine
abbrev machine_with : Ledger → Machine
machine_with l = record {
  capacity = 0;
  processes = 0;
  ledger = l;
  steps = 0;
  cursor = record { pid = record { 0 = 0 }; tid = record { 0 = 0 } };
  threads = λ id. None;
  process = λ pid. dead_process;
  servers = λ n. None;
  claims = λ k. None;
  pending = λ k. false;
  next_number = 0;
  next_serial = 0;
  compare = None;
  reserved = None;
}

-- ---- those that are gone

-- the servers that were there and aren't any more
abbrev pub gone : Closable → Closable → ℕ → Bool
gone a b n = is_some (servers_shown a.servers a.seats n) && is_none (servers_shown b.servers b.seats n)

pub none_gone : (a : Closable) → AreClosed (gone a a) a a
none_gone a = nothing_closed (gone a a) a (λ n. go (servers_shown a.servers a.seats n))
  where
    go : (o : Option Server) → (is_some o && is_none o) ≡ false
    go None = refl
    go (Some server) = refl

-- .. more of them after those of a process closed too
pub more_gone : (pid : Pid) (a b c : Closable) → AreClosed (gone a b) a b → AreClosed (owned pid b) b c → AreClosed (gone a c) a c
more_gone pid a b c first second =
    subst (λ (set : ℕ → Bool). AreClosed set a c)
    (λ i n. same (servers_shown a.servers a.seats n) (servers_shown b.servers b.seats n) (servers_shown c.servers c.seats n) (gone a b n) (owned pid b n) refl
    (first.servers n) refl (second.servers n) i)
    (both_closed (gone a b) (owned pid b) a b c first second)
  where
    same : (x y z : Option Server) (g o : Bool) → (is_some x && is_none y) ≡ g → y ≡ (if g then None else x) → is_server_of pid y ≡ o
        → z ≡ (if o then None else y) → (g || o) ≡ (is_some x && is_none z)
    same None y z true true e f own h = absurd (false≢true e)
    same None y z false true e f own h = absurd (false≢true (ap (is_server_of pid) (sym f) ∙ own))
    same None y z g false e f own h = ap (λ b. b || false) (sym e)
    same (Some s) y z true true e f own h = sym (ap is_none h)
    same (Some s) y z true false e f own h = sym (ap is_none (h ∙ f))
    same (Some s) y z false true e f own h = sym (ap is_none h)
    same (Some s) y z false false e f own h = sym (ap is_none (h ∙ f))

-- ---- those that are left

-- none is of a pid below that one
abbrev pub AreFrom : ℕ → Closable → Type 0
AreFrom low a = (n : ℕ) (server : Server) → servers_shown a.servers a.seats n ≡ Some server → low ≤ server.pid.0

pub left_from : (pid : Pid) (low next : ℕ) (b c : Closable) → AreClosed (owned pid b) b c → pid.0 ≡ low → next ≡ low + 1 → AreFrom low b → AreFrom next c
left_from pid low next b c closed is more from n server e = go (servers_shown b.servers b.seats n) refl (owned pid b n) refl (sym (closed.servers n) ∙ e)
  where
    go : (o : Option Server) → servers_shown b.servers b.seats n ≡ o → (own : Bool) → owned pid b n ≡ own
        → (if own then None else servers_shown b.servers b.seats n) ≡ Some server → next ≤ server.pid.0
    go o q true r f = absurd (none-some server f)
    go o q false r f =
        let high : low ≤ server.pid.0 = from n server f in
        let apart : server.pid.0 ≢ low = λ same. false≢true (sym (ap (is_server_of pid) (sym f) ∙ r)
        ∙ eq-eqb server.pid.0 pid.0 (same ∙ sym is)) in
        omega (arith, apart)

module _ (procs : ℕ) (a : Closable) (sound : AreServersSound procs (loans a.ledger) a.servers a.seats) where
  owner_bounds : (n : ℕ) (server : Server) → servers_shown a.servers a.seats n ≡ Some server → (2 ≤ server.pid.0) × (server.pid.0 < procs + 2)
  owner_bounds n server e = go ((servers_of a.servers).live n) refl e
    where
      go : (o : Option TableServer) → (servers_of a.servers).live n ≡ o → option_map (server_of a.seats) o ≡ Some server
          → (2 ≤ server.pid.0) × (server.pid.0 < procs + 2)
      go None q f = absurd (none-some server f)
      go (Some v) q f =
          is_pid-bounds procs server.pid.0
          (ap (λ (s : Server). is_pid procs s.pid.0) (sym (same_Some (server_of a.seats v) server f)) ∙ sound.owners n v q)

  pub all_from : AreFrom 2 a
  all_from n server e = (owner_bounds n server e).0

  module _ (b : Closable) (few : procs ≤ 64) (closed : AreClosed (gone a b) a b) (left : AreOpen (loans b.ledger) b.servers b.seats) (from : AreFrom 66 b) where
    none_left : (n : ℕ) → servers_shown b.servers b.seats n ≡ None
    none_left n = go (servers_shown b.servers b.seats n) refl (gone a b n) (sym (closed.servers n))
      where
        go : (o : Option Server) → servers_shown b.servers b.seats n ≡ o → (g : Bool) → (if g then None else servers_shown a.servers a.seats n) ≡ servers_shown b.servers b.seats n
            → servers_shown b.servers b.seats n ≡ None
        go None q g f = q
        go (Some server) q true f = sym f
        go (Some server) q false f =
            let high : 66 ≤ server.pid.0 = from n server q in
            let low : server.pid.0 < procs + 2 = (owner_bounds n server (f ∙ q)).1 in
            absurd (omega arith)

    none_live : (n : ℕ) → (servers_of b.servers).live n ≡ None
    none_live n = go ((servers_of b.servers).live n) refl (none_left n)
      where
        go : (o : Option TableServer) → (servers_of b.servers).live n ≡ o → option_map (server_of b.seats) o ≡ None → (servers_of b.servers).live n ≡ None
        go None q f = q
        go (Some v) q f = absurd (none-some (server_of b.seats v) (sym f))

    -- no message is left at a seat
    pub all_empty : All (λ seat. used_of seat ≡ 0) b.seats
    all_empty j d low =
        ap used_of (get_or_default b.seats j d empty_seat low
        ∙ left.seats.empty j (let all : length b.seats ≡ 64 = left.seats.all in omega arith)
        (λ serial v e at. none-some v (sym (none_live serial) ∙ e)))

    -- the numbers of all messages ended
    abbrev ended : Number → Bool
    ended = is_message_at (gone a b) (with_servers a (machine_with a.ledger))

    was_there : (n : ℕ) (server : Server) → servers_shown a.servers a.seats n ≡ Some server → gone a b n ≡ true
    was_there n server e = λ i. is_some (e i) && is_none (none_left n i)

    is_below : (n : ℕ) (server : Server) → servers_shown a.servers a.seats n ≡ Some server → n < (servers_of a.servers).next
    is_below n server e = go ((servers_of a.servers).live n) refl e
      where
        go : (o : Option TableServer) → (servers_of a.servers).live n ≡ o → option_map (server_of a.seats) o ≡ Some server → n < (servers_of a.servers).next
        go None q f = absurd (none-some server f)
        go (Some v) q f = live_below a.servers n v q

    sent_ended : (number : Number) → HasOne (servers_shown a.servers a.seats) (is_lend_of number) → ended number ≡ true
    sent_ended number one =
        a_server (with_servers a (machine_with a.ledger)) (λ n server. gone a b n && list_any (is_of_number number) (messages_of server)) at.serial at.server at.live
        (is_below at.serial at.server at.live)
        (λ i. was_there at.serial at.server at.live i && at_listed (is_of_number number) (messages_of at.server) found.0 found.1 found.2
        (and_parts (is_of_number number (get_or (messages_of at.server) found.0 found.1)) (is_lend (get_or (messages_of at.server) found.0 found.1).kind) found.3).0 i)
      where
        at : HasServer (servers_shown a.servers a.seats) (is_lend_of number)
        at = one_server (servers_shown a.servers a.seats) (is_lend_of number) one

        found : (j : ℕ) × (d : Message) × (j < length (messages_of at.server)) × (is_lend_of number (get_or (messages_of at.server) j d) ≡ true)
        found = first_in (is_lend_of number) (messages_of at.server) at.some

    -- a number that didn't end was that of no loan
    was_fresh : (number : Number) → ended number ≡ false → IsFresh (loans a.ledger) number
    was_fresh number e = record {
      homes = λ p. by_home p ((loans a.ledger).home p) refl;
      orphans = λ p. by_orphan p ((loans a.ledger).orphan p) refl;
    }
      where
        strange : (other : Number) → HasOne (servers_shown a.servers a.seats) (is_lend_of other) → same_number other number ≡ false
        strange other one = go (same_number other number) refl
          where
            go : (x : Bool) → same_number other number ≡ x → x ≡ false
            go false q = refl
            go true q = absurd (false≢true (sym e ∙ ap ended (sym (same_number-true other number q)) ∙ sent_ended other one))

        by_home : (p : Place) (o : Option PageLoan) → (loans a.ledger).home p ≡ o → of_number number o ≡ None
        by_home p None q = refl
        by_home p (Some loan) q = ap (λ x. if x then Some loan else None) (strange loan.number (sound.loans.loans_sent p loan q))

        by_orphan : (p : Place) (o : Option OrphanLoan) → (loans a.ledger).orphan p ≡ o → orphan_of_number number o ≡ None
        by_orphan p None q = refl
        by_orphan p (Some orphan) q = ap (λ x. if x then Some orphan else None) (strange orphan.number (sound.loans.orphans_sent p orphan q))

    -- no loan is left
    pub all_fresh : (number : Number) → IsFresh (loans b.ledger) number
    all_fresh number = subst (λ (l : Ledger). IsFresh (loans l) number) (sym (closed.ledger (machine_with a.ledger))) (go (ended number) refl)
      where
        go : (x : Bool) → ended number ≡ x → IsFresh (loans (end_loans ended a.ledger)) number
        go true e = ended_is_fresh ended number a.ledger e
        go false e =
            fresh_still (loans a.ledger) (loans (end_loans ended a.ledger)) number (ended_same ended number a.ledger e) (was_fresh number e)
