-- Changes that deliver no interrupt and make no number pending.
use Rattle.std.proofs.Common.{◌≡◌, ℕ, Bool, true, false, List, Option, None, refl}
use Rattle.std.specs.Prelude.{not}
use Rattle.std.proofs.lemmas.Bool.{and_parts}
use Rattle.xk_base.specs.declared.ids.Pid.{Pid}
use Rattle.xk_base.specs.declared.ids.ThreadId.{ThreadId}
use Rattle.machine_model.specs.Ending.Closing.{closed, senders_held_gone, senders_queued_gone, servers_closed}
use Rattle.machine_model.specs.Ending.Ends.{death, end_with_last_thread, forgotten, has_threads, thread_ended}
use Rattle.machine_model.specs.State.Changes.{Call, Change, Delivery, Outcome}
use Rattle.machine_model.specs.State.Machine.{Machine}
use Rattle.machine_model.specs.State.Threads.{put_thread}
use Rattle.call_effects.proofs.LeadingLemmas.{Leads}
use Rattle.machine_model.specs.Stepping.Interrupts.{is_claim_of}

-- no number is pending that wasn't
abbrev pub LeavesPending : Machine → Machine → Type 0
LeavesPending m n = (k : ℕ) → n.pending k ≡ true → m.pending k ≡ true

-- .. and none is delivered
abbrev pub IsQuiet : Machine → Change → Type 0
IsQuiet m change = LeavesPending m change.machine × (change.delivery ≡ None)

pub nothing : (m : Machine) → LeavesPending m m × (◌≡◌ {A = Option Delivery} None None)
nothing m = (λ k e. e, refl)

-- ---- what comes of a call

abbrev pub OutcomeQuiet : Machine → Outcome → Type 0
OutcomeQuiet = Leads LeavesPending

abbrev pub CallQuiet : Call → Type 0
CallQuiet served = (m : Machine) (w : List ℕ) → OutcomeQuiet m (served m w)

-- ---- deaths and ends

pub death_quiet : (pid : Pid) (m : Machine) → IsQuiet m (death pid m)
unfolding death servers_closed closed senders_queued_gone senders_held_gone forgotten
death_quiet pid m = (λ k e. (and_parts (m.pending k) (not (is_claim_of pid (m.claims k))) e).0, refl)

pub thread_end_quiet : (who : ThreadId) (a0 : ℕ) (m : Machine) → IsQuiet m (thread_ended who a0 m)
unfolding thread_ended death servers_closed closed senders_queued_gone senders_held_gone forgotten
thread_end_quiet who a0 m = go (has_threads (put_thread who None m) who.pid)
  where
    go : (b : Bool) → IsQuiet m (end_with_last_thread b who.pid (put_thread who None m))
    go true = nothing m
    go false = (λ k e. (and_parts (m.pending k) (not (is_claim_of who.pid (m.claims k))) e).0, refl)
