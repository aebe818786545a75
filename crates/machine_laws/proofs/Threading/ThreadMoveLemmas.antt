-- A machine whose threads, cursor and count of steps changed, or whose claims, pending interrupts and timer did, or whose reservation
-- did, and nothing else: what the invariant asks of the change.
use Rattle.std.proofs.Common.{◌≡◌, ℕ, ◌+◌, ◌≤◌, Bool, Option, refl, arith, subst}
use Rattle.xk_base.specs.declared.ids.Number.{Number}
use Rattle.xk_base.specs.declared.ids.ThreadId.{ThreadId}
use Rattle.machine_model.specs.State.Machine.{Machine, Process, Thread, Claim, Reservation}
use Rattle.machine_model.specs.Messaging.MessageCounts.{HasIf}
use Rattle.machine_model.specs.Runs.Matched.{Matched, IsBodyMatched, AreSendersMatched, AreReceiversMatched, AreJoinersMatched, AreThreadsMatched, AreThreadIdsMatched, AreHandlersMatched, AreClaimsMatched, AreNextStepped, IsTimerMatched, is_sent_as, waits_for}

-- what the threads must keep
pub record KeepsThreads (m : Machine) (new : ThreadId → Option Thread) : Type 0 where
  pub waits : (who : ThreadId) (number : Number) → waits_for m.threads who number ≡ waits_for new who number
  pub receivers : AreReceiversMatched new m.servers
  pub joiners : AreJoinersMatched new
  pub threads : AreThreadsMatched m.process new
  pub ids : AreThreadIdsMatched m.processes m.process new

-- what the claims, the pending interrupts and the timer must keep
pub record KeepsClaims (process : ℕ → Process) (c : ℕ → Option Claim) (p : ℕ → Bool) (t : Option ℕ) : Type 0 where
  pub handlers : AreHandlersMatched c
  pub claims : AreClaimsMatched process c p
  pub timer : IsTimerMatched t c

pub stepped_later : (number serial steps later : ℕ) → steps ≤ later → AreNextStepped number serial steps → AreNextStepped number serial later
stepped_later number serial steps later le h =
    let numbers : number ≤ steps + 1 = h.number_steps in
    let serials : serial ≤ steps + 1 = h.serial_steps in
    record { number_steps = omega arith; serial_steps = omega arith }

module _ (m : Machine) (h : Matched m) where
  senders_moved : (new : ThreadId → Option Thread) → KeepsThreads m new → AreSendersMatched new m.servers
  senders_moved new k = record {
    senders = λ who number.
        subst (λ b. HasIf b m.servers (is_sent_as who number)) (k.waits who number) (h.body.senders.senders who number);
    queued = h.body.senders.queued;
    held = h.body.senders.held;
    sized = h.body.senders.sized;
  }

  body_moved : (new : ThreadId → Option Thread) → KeepsThreads m new
      → IsBodyMatched m.processes m.capacity m.ledger new m.process m.servers
  body_moved new k = record {
    ledger = h.body.ledger;
    loans = h.body.loans;
    senders = senders_moved new k;
    receivers = k.receivers;
    joiners = k.joiners;
    threads = k.threads;
    heaps = h.body.heaps;
    ids = k.ids;
    pages = h.body.pages;
    processes = h.body.processes;
    servers = h.body.servers;
  }

  -- other threads, another cursor and a later count of steps
  pub matched_moved : (s : ℕ) (c : ThreadId) (new : ThreadId → Option Thread) → m.steps ≤ s → KeepsThreads m new
      → Matched (record m { steps = s; cursor = c; threads = new })
  matched_moved s c new later k = record {
    body = body_moved new k;
    rest = record {
      handlers = h.rest.handlers;
      claims = h.rest.claims;
      above = h.rest.above;
      stepped = stepped_later m.next_number m.next_serial m.steps s later h.rest.stepped;
      timer = h.rest.timer;
    };
  }

  -- other claims, pending interrupts and compare value
  pub matched_claimed : (claims : ℕ → Option Claim) (pending : ℕ → Bool) (compare : Option ℕ) → KeepsClaims m.process claims pending compare
      → Matched (record m { claims = claims; pending = pending; compare = compare })
  matched_claimed claims pending compare k = record {
    body = h.body;
    rest = record {
      handlers = k.handlers;
      claims = k.claims;
      above = h.rest.above;
      stepped = h.rest.stepped;
      timer = k.timer;
    };
  }

  -- the invariant doesn't speak of the reservation
  pub matched_reserved : (reserved : Option Reservation) → Matched (record m { reserved = reserved })
  matched_reserved reserved = record {
    body = h.body;
    rest = record {
      handlers = h.rest.handlers;
      claims = h.rest.claims;
      above = h.rest.above;
      stepped = h.rest.stepped;
      timer = h.rest.timer;
    };
  }

  -- ---- what didn't change

  pub same_threads : KeepsThreads m m.threads
  same_threads = record {
    waits = λ who number. refl;
    receivers = h.body.receivers;
    joiners = h.body.joiners;
    threads = h.body.threads;
    ids = h.body.ids;
  }

  -- a step counts
  pub matched_later : (s : ℕ) → m.steps ≤ s → Matched (record m { steps = s })
  matched_later s later = matched_moved s m.cursor m.threads later same_threads
