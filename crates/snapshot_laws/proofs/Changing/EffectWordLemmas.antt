-- Each effect of a call keeps the numbers of the machine words, where those that it names are.
use Rattle.std.proofs.Common.{ℕ, Bool, true, false, List, [], ◌∷◌, ◌++◌, Option, Some, None}
use Rattle.std.specs.Prelude.{◌==◌, ◌≤◌, All, nat_eq, not, filter, map, drop, if◌then◌else◌}
use Rattle.std.specs.List.{AllByRecursion}
use Rattle.std.specs.Option.{option_map}
use Rattle.std.specs.Bool.{⊤}
use Rattle.std.proofs.lemmas.List.Elements.{All-append, All-drop, All-filter, All-map, All-nil, All-cons, All-weaker}
use Rattle.xk_base.specs.declared.ids.Pid.{Pid}
use Rattle.xk_base.specs.declared.ids.ThreadId.{ThreadId}
use Rattle.xk_base.specs.declared.limits.TheConstants.{TIMER_INTERRUPT}
use Rattle.xk_base.specs.declared.messages.Message.{Message}
use Rattle.xk_base.specs.Calls.Kinds.{is_answered}
use Rattle.xk_base.specs.Tables.Circle.{same_thread}
use Rattle.xk_base.specs.Tables.Counting.{put_at}
use Rattle.ledger_model.proofs.Pages.WholePageLemmas.{forget_whole}
use Rattle.machine_model.specs.Ending.Closing.{closed, is_message_at, is_held_from, is_queued_from, senderless_from, senders_held_gone, senders_queued_gone, with_senderless_from, without_queued_from}
use Rattle.machine_model.specs.Ending.Ends.{forgotten}
use Rattle.machine_model.specs.Messaging.Messages.{is_of_number, is_sent_from}
use Rattle.machine_model.specs.State.Machine.{Machine, Server, Thread, ThreadState, Waiting}
use Rattle.machine_model.specs.State.Order.{turn}
use Rattle.machine_model.specs.State.Threads.{with_state}
use Rattle.machine_model.specs.Stepping.Interrupts.{disarmed_if, is_claim_of}
use Rattle.call_effects.specs.Effects.{Effect, Pages, HasHeap, Starts, Waits, Awaits, EndsTurn, Founds, Connects, TakesNumber, Serves, ClosesServers, Unqueues, Orphans, Forgets, Claims, Frees, MessageStep, Queued, Received, Taken, Returned, apply, at_server, run}
use Rattle.snapshot_laws.specs.Words.{IsClaimOfWords, IsMachineOfWords, IsMessageOfWords, IsServerOfWords, IsThreadOfWords, greatest}
use Rattle.snapshot_laws.proofs.Changing.HoldingLemmas.{Holds, if_holds, left_all, map_holds, none_holds, put_holds, right_all, some_holds}
use Rattle.snapshot_laws.proofs.Changing.PageWordLemmas.{end_loans_whole, orphan_loans_whole, paged_whole}

-- ---- parts of the machine

pub threads_are : (m : Machine) (threads : ThreadId → Option Thread) → IsMachineOfWords m
    → ((id : ThreadId) → Holds IsThreadOfWords (threads id)) → IsMachineOfWords (record m { threads = threads })
threads_are m threads h t = record {
  whole = h.whole;
  threads = t;
  servers = h.servers;
  claims = h.claims;
  compare = h.compare;
  reserved = h.reserved;
}

servers_are : (m : Machine) (servers : ℕ → Option Server) → IsMachineOfWords m
    → ((n : ℕ) → Holds IsServerOfWords (servers n)) → IsMachineOfWords (record m { servers = servers })
servers_are m servers h s = record {
  whole = h.whole;
  threads = h.threads;
  servers = s;
  claims = h.claims;
  compare = h.compare;
  reserved = h.reserved;
}

-- a change of one thread
pub change_are : (m : Machine) (who : ThreadId) (change : Thread → Thread) → IsMachineOfWords m
    → ((t : Thread) → IsThreadOfWords t → IsThreadOfWords (change t))
    → IsMachineOfWords (record m { threads = put_at same_thread m.threads who (option_map change (m.threads who)) })
change_are m who change h keep =
    threads_are m (put_at same_thread m.threads who (option_map change (m.threads who))) h
    (put_holds IsThreadOfWords same_thread m.threads who (option_map change (m.threads who))
    (map_holds IsThreadOfWords change (m.threads who) (λ t e. keep t (h.threads who t e))) h.threads)

pub waits_are : (state : ThreadState) (t : Thread) → IsThreadOfWords t → IsThreadOfWords (with_state state t)
waits_are state t h = record { pc = h.pc; regs = h.regs }

-- ---- servers

-- what a message step names
abbrev pub IsMessageStepOfWords : MessageStep → Type 0
IsMessageStepOfWords (Queued message) = IsMessageOfWords message
IsMessageStepOfWords (Received message) = IsMessageOfWords message
IsMessageStepOfWords (Taken message) = IsMessageOfWords message
IsMessageStepOfWords (Returned number) = ⊤

module _ (s : Server) (h : IsServerOfWords s) where
  queued : All IsMessageOfWords s.queued
  queued = left_all IsMessageOfWords s.queued s.held h.messages

  held : All IsMessageOfWords s.held
  held = right_all IsMessageOfWords s.queued s.held h.messages

  of_lists : (some others : List Message) → All IsMessageOfWords some → All IsMessageOfWords others
      → IsServerOfWords (record s { queued = some; held = others })
  of_lists some others f g = record { sid = h.sid; messages = All-append IsMessageOfWords some others f g }

  one : (message : Message) → IsMessageOfWords message → All IsMessageOfWords (message ∷ [])
  one message f = All-cons IsMessageOfWords message [] f (All-nil IsMessageOfWords)

  received_held : (b : Bool) (message : Message) → IsMessageOfWords message → All IsMessageOfWords (if b then s.held ++ message ∷ [] else s.held)
  received_held true message f = All-append IsMessageOfWords s.held (message ∷ []) held (one message f)
  received_held false message f = held

  served : (step : MessageStep) → IsMessageStepOfWords step → IsServerOfWords (at_server step s)
  served (Queued message) f =
      of_lists (s.queued ++ message ∷ []) s.held (All-append IsMessageOfWords s.queued (message ∷ []) queued (one message f)) held
  served (Received message) f =
      of_lists s.queued (if is_answered message.kind then s.held ++ message ∷ [] else s.held) queued (received_held (is_answered message.kind) message f)
  served (Taken message) f =
      of_lists (drop 1 s.queued) (if is_answered message.kind then s.held ++ message ∷ [] else s.held) (All-drop IsMessageOfWords 1 s.queued queued)
      (received_held (is_answered message.kind) message f)
  served (Returned number) f =
      of_lists s.queued (filter (λ message. not (is_of_number number message)) s.held) queued
      (All-filter (λ message. not (is_of_number number message)) IsMessageOfWords s.held held)

  unqueued : (pid : Pid) → IsServerOfWords (record s { queued = filter (λ x. not (is_sent_from pid x)) s.queued })
  unqueued pid =
      of_lists (filter (λ x. not (is_sent_from pid x)) s.queued) s.held
      (All-filter (λ x. not (is_sent_from pid x)) IsMessageOfWords s.queued queued) held

  senderless : (pid : Pid) (message : Message) → IsMessageOfWords message → IsMessageOfWords (senderless_from pid message)
  senderless pid message f = record { number = f.number; id = f.id; words = f.words; first = f.first; count = f.count }

  orphaned : (pid : Pid) → IsServerOfWords (record s { held = map (senderless_from pid) s.held })
  orphaned pid =
      of_lists s.queued (map (senderless_from pid) s.held) queued
      (All-map IsMessageOfWords (senderless_from pid) s.held
      (All-weaker IsMessageOfWords (λ message. IsMessageOfWords (senderless_from pid message)) (senderless pid) s.held held))

-- ---- effects

-- what an effect names
abbrev pub IsEffectOfWords : Effect → Type 0
IsEffectOfWords (Pages step) = ⊤
IsEffectOfWords (HasHeap n) = ⊤
IsEffectOfWords (Starts who thread) = IsThreadOfWords thread
IsEffectOfWords (Waits who state) = ⊤
IsEffectOfWords (Awaits waits number) = ⊤
IsEffectOfWords EndsTurn = ⊤
IsEffectOfWords (Founds server) = IsServerOfWords server
IsEffectOfWords (Connects serial) = ⊤
IsEffectOfWords TakesNumber = ⊤
IsEffectOfWords (Serves serial step) = IsMessageStepOfWords step
IsEffectOfWords (ClosesServers which) = ⊤
IsEffectOfWords (Unqueues pid) = ⊤
IsEffectOfWords (Orphans pid) = ⊤
IsEffectOfWords (Forgets pid) = ⊤
IsEffectOfWords (Claims k claim) = IsClaimOfWords claim
IsEffectOfWords (Frees k) = ⊤

disarmed_are : (ended : Bool) (o : Option ℕ) → Holds (λ n. n ≤ greatest) o → Holds (λ n. n ≤ greatest) (disarmed_if ended o)
disarmed_are ended None h = none_holds (λ n. n ≤ greatest)
disarmed_are true (Some n) h = none_holds (λ n. n ≤ greatest)
disarmed_are false (Some n) h = h

pub apply_keeps : (effect : Effect) (m : Machine) → IsEffectOfWords effect → IsMachineOfWords m → IsMachineOfWords (apply effect m)
unfolding turn closed senders_queued_gone senders_held_gone forgotten
apply_keeps (Pages step) m f h = record {
  whole = paged_whole step m.ledger h.whole;
  threads = h.threads;
  servers = h.servers;
  claims = h.claims;
  compare = h.compare;
  reserved = h.reserved;
}
apply_keeps (HasHeap n) m f h = record {
  whole = h.whole;
  threads = h.threads;
  servers = h.servers;
  claims = h.claims;
  compare = h.compare;
  reserved = h.reserved;
}
apply_keeps (Starts who thread) m f h =
    threads_are m (put_at same_thread m.threads who (Some thread)) h
    (put_holds IsThreadOfWords same_thread m.threads who (Some thread) (some_holds IsThreadOfWords thread f) h.threads)
apply_keeps (Waits who state) m f h = change_are m who (with_state state) h (waits_are state)
apply_keeps (Awaits true number) m f h = change_are m m.cursor (with_state (Waiting number)) h (waits_are (Waiting number))
apply_keeps (Awaits false number) m f h = h
apply_keeps EndsTurn m f h = record {
  whole = h.whole;
  threads = h.threads;
  servers = h.servers;
  claims = h.claims;
  compare = h.compare;
  reserved = h.reserved;
}
apply_keeps (Founds server) m f h = record {
  whole = h.whole;
  threads = h.threads;
  servers = put_holds IsServerOfWords nat_eq m.servers m.next_serial (Some server) (some_holds IsServerOfWords server f) h.servers;
  claims = h.claims;
  compare = h.compare;
  reserved = h.reserved;
}
apply_keeps (Connects serial) m f h = record {
  whole = h.whole;
  threads = h.threads;
  servers = h.servers;
  claims = h.claims;
  compare = h.compare;
  reserved = h.reserved;
}
apply_keeps TakesNumber m f h = record {
  whole = h.whole;
  threads = h.threads;
  servers = h.servers;
  claims = h.claims;
  compare = h.compare;
  reserved = h.reserved;
}
apply_keeps (Serves serial step) m f h =
    servers_are m (put_at nat_eq m.servers serial.0 (option_map (at_server step) (m.servers serial.0))) h
    (put_holds IsServerOfWords nat_eq m.servers serial.0 (option_map (at_server step) (m.servers serial.0))
    (map_holds IsServerOfWords (at_server step) (m.servers serial.0) (λ s e. served s (h.servers serial.0 s e) step f)) h.servers)
apply_keeps (ClosesServers which) m f h = record {
  whole = end_loans_whole (is_message_at which m) m.ledger h.whole;
  threads = h.threads;
  servers = λ n. if_holds IsServerOfWords (which n) None (m.servers n) (none_holds IsServerOfWords) (h.servers n);
  claims = h.claims;
  compare = h.compare;
  reserved = h.reserved;
}
apply_keeps (Unqueues pid) m f h = record {
  whole = end_loans_whole (is_queued_from pid m) m.ledger h.whole;
  threads = h.threads;
  servers = λ n. map_holds IsServerOfWords (without_queued_from pid) (m.servers n) (λ s e. unqueued s (h.servers n s e) pid);
  claims = h.claims;
  compare = h.compare;
  reserved = h.reserved;
}
apply_keeps (Orphans pid) m f h = record {
  whole = orphan_loans_whole (is_held_from pid m) m.ledger h.whole m.processes;
  threads = h.threads;
  servers = λ n. map_holds IsServerOfWords (with_senderless_from pid) (m.servers n) (λ s e. orphaned s (h.servers n s e) pid);
  claims = h.claims;
  compare = h.compare;
  reserved = h.reserved;
}
apply_keeps (Forgets pid) m f h = record {
  whole = forget_whole pid m.ledger h.whole;
  threads = λ id. if_holds IsThreadOfWords (id.pid.0 == pid.0) None (m.threads id) (none_holds IsThreadOfWords) (h.threads id);
  servers = h.servers;
  claims = λ k. if_holds IsClaimOfWords (is_claim_of pid (m.claims k)) None (m.claims k) (none_holds IsClaimOfWords) (h.claims k);
  compare = disarmed_are (is_claim_of pid (m.claims TIMER_INTERRUPT)) m.compare h.compare;
  reserved = h.reserved;
}
apply_keeps (Claims k claim) m f h = record {
  whole = h.whole;
  threads = h.threads;
  servers = h.servers;
  claims = put_holds IsClaimOfWords nat_eq m.claims k (Some claim) (some_holds IsClaimOfWords claim f) h.claims;
  compare = h.compare;
  reserved = h.reserved;
}
apply_keeps (Frees k) m f h = record {
  whole = h.whole;
  threads = h.threads;
  servers = h.servers;
  claims = put_holds IsClaimOfWords nat_eq m.claims k None (none_holds IsClaimOfWords) h.claims;
  compare = disarmed_are (k == TIMER_INTERRUPT) m.compare h.compare;
  reserved = h.reserved;
}

-- ---- several effects

pub run_keeps : (effects : List Effect) (m : Machine) → AllByRecursion IsEffectOfWords effects → IsMachineOfWords m
    → IsMachineOfWords (run effects m)
run_keeps [] m f h = h
run_keeps (effect ∷ effects) m f h = run_keeps effects (apply effect m) f.1 (apply_keeps effect m f.0 h)
