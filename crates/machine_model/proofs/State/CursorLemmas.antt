-- The cursor stays the id of a thread of the processes.
use Rattle.std.proofs.Common.{◌≡◌, ℕ, Bool, true, false, Option, Some, None, refl}
use Rattle.std.specs.Prelude.{if◌then◌else◌, unwrap_or, nat_eq}
use Rattle.std.specs.Option.{option_map_or}
use Rattle.std.proofs.lemmas.Bool.{false≢true}
use Rattle.xk_base.specs.declared.ids.Pid.{Pid}
use Rattle.xk_base.specs.declared.ids.ThreadId.{ThreadId}
use Rattle.xk_base.specs.Tables.Circle.{is_pid, is_thread_id}
use Rattle.xk_base.specs.Tables.Counting.{put_at}
use Rattle.xk_base.proofs.CircleLemmas.{next_id-valid}
use Rattle.machine_model.specs.State.Changes.{settled}
use Rattle.machine_model.specs.Ending.Closing.{closed, servers_closed, senders_queued_gone, senders_held_gone}
use Rattle.machine_model.specs.Ending.Ends.{death, forgotten}
use Rattle.machine_model.specs.Stepping.Events.{picked, raised, raised_if, killed, killed_if}
use Rattle.machine_model.specs.Stepping.Interrupts.{delivered, delivered_lowest, handler_started, is_free_for_interrupt, lowest_pending, with_handler_next}
use Rattle.machine_model.specs.Stepping.Reservations.{unreserved}
use Rattle.machine_model.specs.Runs.Kept.{KeepsCursor, AllKeepCursor}
use Rattle.machine_model.specs.State.Machine.{Machine, Thread, Claim}
use Rattle.machine_model.specs.Runs.Matched.{Matched}
use Rattle.machine_model.specs.Runs.Moments.{ByStep, ByPick, ByIrq, ByKill, ByTurn}
use Rattle.machine_model.specs.State.Order.{is_ready, ready_at, next_ready, turn}

-- the cursor of a machine is the id of a thread of its processes
abbrev Stands : Machine → Type 0
Stands m = is_thread_id m.processes m.cursor ≡ true

turn_keeps : KeepsCursor ByTurn
unfolding turn next_ready
turn_keeps m h c = go (next_ready m m.cursor) refl
  where
    go : (o : Option ThreadId) → next_ready m m.cursor ≡ o → is_thread_id m.processes (unwrap_or o m.cursor) ≡ true
    go None e = c
    go (Some d) e = next_id-valid m.processes (ready_at m) m.cursor d e

ready_is_known : (m : Machine) (who : ThreadId) → Matched m → ready_at m who ≡ true → is_thread_id m.processes who ≡ true
ready_is_known m who h e = go (m.threads who) refl e
  where
    go : (o : Option Thread) → m.threads who ≡ o → option_map_or (λ t. is_ready t.state) o false ≡ true → is_thread_id m.processes who ≡ true
    go None q r = absurd (false≢true r)
    go (Some t) q r = h.body.ids.known who t q

pick_keeps : (who : ThreadId) → KeepsCursor (ByPick who)
unfolding picked
pick_keeps who m h c = go (ready_at m who) refl
  where
    go : (b : Bool) → ready_at m who ≡ b → is_thread_id m.processes (if b then who else m.cursor) ≡ true
    go true e = ready_is_known m who h e
    go false e = c

kill_keeps : (pid : Pid) → KeepsCursor (ByKill pid)
unfolding killed settled death servers_closed closed senders_queued_gone senders_held_gone forgotten
kill_keeps pid m h c = go (m.process pid.0).alive
  where
    go : (b : Bool) → Stands (killed_if b pid (unreserved m)).machine
    go true = c
    go false = c

claimer_is_pid : (m : Machine) (k : ℕ) (claim : Claim) → Matched m → m.claims k ≡ Some claim → is_pid m.processes claim.pid.0 ≡ true
claimer_is_pid m k claim h e = h.body.processes.pids claim.pid (h.rest.claims.living k claim e)

module _ (m : Machine) (c : Stands m) (pid : Pid) (p : is_pid m.processes pid.0 ≡ true) where
  handler_known : (k : ℕ) (o : Option Claim) → Stands (with_handler_next (handler_started m pid k o)).machine
  handler_known k None = c
  handler_known k (Some claim) = rw p refl

  lowest_known : (o : Option ℕ) → Stands (with_handler_next (delivered_lowest m pid o)).machine
  lowest_known None = c
  lowest_known (Some k) = handler_known k (m.claims k)

  delivery_known : Stands (with_handler_next (delivered pid m)).machine
  unfolding delivered
  delivery_known = lowest_known (if is_free_for_interrupt m pid then lowest_pending m pid else None)

irq_keeps : (k : ℕ) → KeepsCursor (ByIrq k)
unfolding raised settled
irq_keeps k m h c = go (m.claims k) refl
  where
    go : (o : Option Claim) → m.claims k ≡ o → Stands (raised_if k o (unreserved m)).machine
    go None e = c
    go (Some claim) e =
        delivery_known (record (unreserved m) { pending = put_at nat_eq m.pending k true }) c claim.pid (claimer_is_pid m k claim h e)

pub all_keep_cursor : KeepsCursor ByStep → AllKeepCursor
all_keep_cursor step ByStep = step
all_keep_cursor step (ByPick who) = pick_keeps who
all_keep_cursor step (ByIrq k) = irq_keeps k
all_keep_cursor step (ByKill pid) = kill_keeps pid
all_keep_cursor step ByTurn = turn_keeps
