-- To forget a process keeps the machine matched, where it has no server, none of its threads is Waiting, and nothing is lent by it or
-- held at its places.
use Rattle.std.proofs.Common.{◌≡◌, ℕ, ◌≤◌, ◌<◌, Bool, true, false, [], length, Option, Some, None, refl, sym, ap, ◌∙◌, arith, subst, AllPairs}
use Rattle.std.specs.Prelude.{◌%◌, ◌==◌, ◌&&◌, not, nat_eq, is_some, if◌then◌else◌}
use Rattle.std.specs.List.{All}
use Rattle.std.proofs.lemmas.Bool.{false≢true}
use Rattle.std.proofs.lemmas.Option.{none-some}
use Rattle.std.proofs.lemmas.List.Elements.{All-nil}
use Rattle.xk_base.specs.declared.ids.Number.{Number}
use Rattle.xk_base.specs.declared.ids.Pid.{Pid}
use Rattle.xk_base.specs.declared.ids.Place.{Place}
use Rattle.xk_base.specs.declared.ids.Serial.{Serial}
use Rattle.xk_base.specs.declared.ids.ThreadId.{ThreadId}
use Rattle.xk_base.specs.declared.limits.TheConstants.{PAGE_SIZE, CONNECTION_LIMIT, TIMER_INTERRUPT}
use Rattle.xk_base.specs.Tables.Counting.{put_at}
use Rattle.ledger_model.specs.Conditions.{CanForget}
use Rattle.ledger_model.specs.Ledger.{Page, PageLoan, Orphan, loan_at, loan_of}
use Rattle.ledger_model.specs.Loans.{loans}
use Rattle.ledger_model.specs.Steps.{forget}
use Rattle.ledger_model.proofs.Stepping.RemovingLemmas.{forget_lawful, forget_loans}
use Rattle.machine_model.specs.Ending.Ends.{forgotten, dead_process}
use Rattle.machine_model.specs.Stepping.Interrupts.{disarmed_if, is_claim_of}
use Rattle.machine_model.specs.State.Machine.{Machine, Process, Thread, Server, Claim}
use Rattle.machine_model.specs.Runs.Matched.{Matched, IsLedgerMatched, AreLoansMatched, AreSendersMatched, AreReceiversMatched, AreJoinersMatched, AreThreadsMatched, AreHeapsMatched, AreProcessesMatched, AreServersMatched, AreClaimsMatched, AreNextAbove, IsTimerMatched, HasHandlerThread, HasThreadAbove, is_living, is_sent_as}
use Rattle.machine_model.specs.Calling.MemoryCalls.{heap_limit}
use Rattle.machine_model.specs.Messaging.MessageCounts.{HasIf}
use Rattle.machine_laws.proofs.Threading.ThreadPutLemmas.{waits_at}

pub record IsForgettable (m : Machine) (pid : Pid) : Type 0 where
  pub can : CanForget m.ledger pid
  pub holders : (p : Place) (loan : PageLoan) → loan_at m.ledger p ≡ Some loan → (loan.holder.pid.0 == pid.0) ≡ false
  pub orphans : (p : Place) (orphan : Orphan) → m.ledger.orphan p ≡ Some orphan → (p.pid.0 == pid.0) ≡ false
  pub servers : (n : ℕ) (server : Server) → m.servers n ≡ Some server → (server.pid.0 == pid.0) ≡ false
  pub waits : (id : ThreadId) (number : Number) → (id.pid.0 == pid.0) ≡ true → waits_at number (m.threads id) ≡ false

-- what is left where a test takes away
pub left_if : {A : Type 0} → (b : Bool) (o : Option A) (x : A) → (if b then None else o) ≡ Some x → (b ≡ false) × (o ≡ Some x)
left_if true o x e = absurd (none-some x e)
left_if false o x e = (refl, e)

module _ (m : Machine) (h : Matched m) (pid : Pid) (f : IsForgettable m pid) where
  abbrev is_of : Pid → Bool
  is_of q = q.0 == pid.0

  abbrev next : Machine
  next = record m {
    ledger = forget pid m.ledger;
    threads = λ id. if id.pid.0 == pid.0 then None else m.threads id;
    process = put_at nat_eq m.process pid.0 dead_process;
    claims = λ k. if is_claim_of pid (m.claims k) then None else m.claims k;
    pending = λ k. m.pending k && not (is_claim_of pid (m.claims k));
    compare = disarmed_if (is_claim_of pid (m.claims TIMER_INTERRUPT)) m.compare;
  }

  -- ---- who lives

  lives_on : (q : Pid) → is_of q ≡ false → is_living m q ≡ true → is_living next q ≡ true
  lives_on q e l = ap (λ b. (if b then dead_process else m.process q.0).alive) e ∙ l

  lived : (q : Pid) → is_living next q ≡ true → (is_of q ≡ false) × (is_living m q ≡ true)
  lived q l = go (is_of q) refl l
    where
      go : (b : Bool) → is_of q ≡ b → (if b then dead_process else m.process q.0).alive ≡ true → (is_of q ≡ false) × (is_living m q ≡ true)
      go true e l = absurd (false≢true l)
      go false e l = (e, l)

  -- ---- the ledger

  home_left : (p : Place) (page : Page) → (forget pid m.ledger).home p ≡ Some page → (is_of p.pid ≡ false) × (m.ledger.home p ≡ Some page)
  unfolding forget
  home_left p page e = left_if (p.pid.0 == pid.0) (m.ledger.home p) page e

  loan_left : (p : Place) (loan : PageLoan) → loan_at (forget pid m.ledger) p ≡ Some loan → loan_at m.ledger p ≡ Some loan
  unfolding forget
  loan_left p loan e = go (p.pid.0 == pid.0) e
    where
      go : (b : Bool) → loan_of (if b then None else m.ledger.home p) ≡ Some loan → loan_at m.ledger p ≡ Some loan
      go true e = absurd (none-some loan e)
      go false e = e

  orphan_left : (p : Place) → (forget pid m.ledger).orphan p ≡ m.ledger.orphan p
  unfolding forget
  orphan_left p = refl

  ledger_forgot : IsLedgerMatched m.processes m.capacity next.process next.ledger
  ledger_forgot = record {
    lawful = forget_lawful m.processes m.capacity pid m.ledger h.body.ledger.lawful f.can;
    homes_live = λ p page e.
        let left : (is_of p.pid ≡ false) × (m.ledger.home p ≡ Some page) = home_left p page e in
        lives_on p.pid left.0 (h.body.ledger.homes_live p page left.1);
    holders_live = λ p loan e.
        lives_on loan.holder.pid (f.holders p loan (loan_left p loan e)) (h.body.ledger.holders_live p loan (loan_left p loan e));
    orphans_live = λ p orphan e.
        let there : m.ledger.orphan p ≡ Some orphan = sym (orphan_left p) ∙ e in
        lives_on p.pid (f.orphans p orphan there) (h.body.ledger.orphans_live p orphan there);
  }

  -- ---- loans

  same_loans : loans m.ledger ≡ loans (forget pid m.ledger)
  same_loans = sym (forget_loans pid m.ledger f.can)

  loans_forgot : AreLoansMatched (loans next.ledger) m.servers
  loans_forgot = subst (λ all. AreLoansMatched all m.servers) same_loans h.body.loans

  -- ---- senders

  waits_forgot : (who : ThreadId) (number : Number) → waits_at number (m.threads who) ≡ waits_at number (next.threads who)
  waits_forgot who number = go (who.pid.0 == pid.0) refl
    where
      go : (b : Bool) → (who.pid.0 == pid.0) ≡ b → waits_at number (m.threads who) ≡ waits_at number (if b then None else m.threads who)
      go true e = f.waits who number e
      go false e = refl

  senders_forgot : AreSendersMatched next.threads m.servers
  senders_forgot = record {
    senders = λ who number. subst (λ b. HasIf b m.servers (is_sent_as who number)) (waits_forgot who number) (h.body.senders.senders who number);
    queued = h.body.senders.queued;
    held = h.body.senders.held;
    sized = h.body.senders.sized;
  }

  -- ---- threads

  thread_left : (id : ThreadId) (t : Thread) → next.threads id ≡ Some t → (is_of id.pid ≡ false) × (m.threads id ≡ Some t)
  thread_left id t e = left_if (id.pid.0 == pid.0) (m.threads id) t e

  receivers_forgot : AreReceiversMatched next.threads m.servers
  receivers_forgot id t serial e s = h.body.receivers id t serial (thread_left id t e).1 s

  joiners_forgot : AreJoinersMatched next.threads
  joiners_forgot id t tid e s =
      let left : (is_of id.pid ≡ false) × (m.threads id ≡ Some t) = thread_left id t e in
      let w = h.body.joiners id t tid left.1 s in
      record { live = rw left.0 w.live; other = w.other; above = w.above }

  claim_left : (k : ℕ) (claim : Claim) → next.claims k ≡ Some claim → (is_claim_of pid (m.claims k) ≡ false) × (m.claims k ≡ Some claim)
  claim_left k claim e = left_if (is_claim_of pid (m.claims k)) (m.claims k) claim e

  threads_forgot : AreThreadsMatched next.process next.threads
  threads_forgot = record {
    handler = λ q l.
        let old : (is_of q ≡ false) × (is_living m q ≡ true) = lived q l in
        let there : HasHandlerThread m.threads q = h.body.threads.handler q old.1 in
        (there.0, rw old.0 there.1, there.2);
    above = λ q l.
        let old : (is_of q ≡ false) × (is_living m q ≡ true) = lived q l in
        let there : HasThreadAbove m.threads q = h.body.threads.above q old.1 in
        (there.0, there.1, rw old.0 there.2);
    idle = λ id t e s.
        let left : (is_of id.pid ≡ false) × (m.threads id ≡ Some t) = thread_left id t e in
        let old : (id.tid.0 ≡ 1) × (is_living m id.pid ≡ true) = h.body.threads.idle id t left.1 s in
        (old.0, lives_on id.pid left.0 old.1);
    pcs = λ id t e. h.body.threads.pcs id t (thread_left id t e).1;
  }

  -- ---- heaps

  by_process : (P : Process → Type 0) (q : Pid) → P dead_process → P (m.process q.0) → P (next.process q.0)
  by_process P q d l = go (q.0 == pid.0)
    where
      go : (b : Bool) → P (if b then dead_process else m.process q.0)
      go true = d
      go false = l

  heaps_forgot : AreHeapsMatched next.process next.ledger
  heaps_forgot = record {
    whole = λ q. by_process (λ x. x.heap % PAGE_SIZE ≡ 0) q refl (h.body.heaps.whole q);
    within = λ q. by_process (λ x. x.heap ≤ heap_limit) q (omega arith) (h.body.heaps.within q);
    below = λ p page e w.
        let left : (is_of p.pid ≡ false) × (m.ledger.home p ≡ Some page) = home_left p page e in
        rw left.0 (h.body.heaps.below p page left.1 w);
  }

  -- ---- keys

  no_pairs : AllPairs (λ (a b : Serial). (a.0 == b.0) ≡ false) []
  no_pairs i j d l below = absurd (omega arith)

  processes_forgot : AreProcessesMatched m.processes next.process
  processes_forgot = record {
    few = h.body.processes.few;
    pids = λ q l. h.body.processes.pids q (lived q l).1;
    apart = λ q. by_process (λ x. AllPairs (λ a b. (a.0 == b.0) ≡ false) x.connections) q no_pairs (h.body.processes.apart q);
    connections = λ q. by_process (λ x. length x.connections ≤ CONNECTION_LIMIT) q (omega arith) (h.body.processes.connections q);
    no_connection = λ q. by_process (λ x. x.alive ≡ false → x.connections ≡ []) q (λ dead. refl) (h.body.processes.no_connection q);
    no_heap = λ q. by_process (λ x. x.alive ≡ false → x.heap ≡ 0) q (λ dead. refl) (h.body.processes.no_heap q);
  }

  servers_forgot : AreServersMatched next.process m.servers
  servers_forgot = record {
    living = λ n server e. lives_on server.pid (f.servers n server e) (h.body.servers.living n server e);
    sids = h.body.servers.sids;
    numbers = h.body.servers.numbers;
    few = h.body.servers.few;
    slots = h.body.servers.slots;
  }

  above_forgot : AreNextAbove m.next_number m.next_serial next.process m.servers
  above_forgot = record {
    numbers = h.rest.above.numbers;
    serials = h.rest.above.serials;
    connections = λ q. by_process (λ x. All (λ serial. serial.0 < m.next_serial) x.connections) q (All-nil (λ serial. serial.0 < m.next_serial))
        (h.rest.above.connections q);
  }

  pending_forgot : (k : ℕ) → next.pending k ≡ true → is_some (next.claims k) ≡ true
  pending_forgot k e = go (m.pending k) (is_claim_of pid (m.claims k)) refl e
    where
      go : (a b : Bool) → m.pending k ≡ a → (a && not b) ≡ true → is_some (if b then None else m.claims k) ≡ true
      go false b q p = absurd (false≢true p)
      go true true q p = absurd (false≢true p)
      go true false q p = h.rest.claims.pending_claimed k q

  claims_forgot : AreClaimsMatched next.process next.claims next.pending
  claims_forgot = record {
    living = λ k claim e.
        let left : (is_claim_of pid (m.claims k) ≡ false) × (m.claims k ≡ Some claim) = claim_left k claim e in
        lives_on claim.pid (sym (ap (is_claim_of pid) left.1) ∙ left.0) (h.rest.claims.living k claim left.1);
    numbers = λ k claim e. h.rest.claims.numbers k claim (claim_left k claim e).1;
    pending_claimed = pending_forgot;
  }

  timer_forgot : IsTimerMatched next.compare next.claims
  timer_forgot e = go (is_claim_of pid (m.claims TIMER_INTERRUPT)) m.compare refl e
    where
      go : (b : Bool) (o : Option ℕ) → m.compare ≡ o → is_some (disarmed_if b o) ≡ true
          → is_some (if b then None else m.claims TIMER_INTERRUPT) ≡ true
      go b None q s = absurd (false≢true s)
      go true (Some compare) q s = absurd (false≢true s)
      go false (Some compare) q s = h.rest.timer (ap is_some q)

  pub forgotten_matched : Matched (forgotten pid m)
  unfolding forgotten
  forgotten_matched = record {
    body = record {
      ledger = ledger_forgot;
      loans = loans_forgot;
      senders = senders_forgot;
      receivers = receivers_forgot;
      joiners = joiners_forgot;
      threads = threads_forgot;
      heaps = heaps_forgot;
      ids = record {
        known = λ id t e. h.body.ids.known id t (thread_left id t e).1;
        living = λ id t e.
            let left : (is_of id.pid ≡ false) × (m.threads id ≡ Some t) = thread_left id t e in
            lives_on id.pid left.0 (h.body.ids.living id t left.1);
      };
      pages = ledger_forgot.homes_live;
      processes = processes_forgot;
      servers = servers_forgot;
    };
    rest = record {
      handlers = λ k claim e. h.rest.handlers k claim (claim_left k claim e).1;
      claims = claims_forgot;
      above = above_forgot;
      stepped = h.rest.stepped;
      timer = timer_forgot;
    };
  }
