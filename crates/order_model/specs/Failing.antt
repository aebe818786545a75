-- What makes an ending a failure, of the point where an order ended.
use Rattle.std.specs.Prelude.{ℕ, ◌+◌, ◌==◌, ◌&&◌, Bool, true, false, not, nat_eq, is_some, List, drop, length, slice_get, Option}
use Rattle.std.specs.List.{starts_with}
use Rattle.std.specs.Option.{option_map_or}
use Rattle.xk_base.specs.declared.ids.ThreadId.{ThreadId}
use Rattle.xk_base.specs.Tables.Circle.{id_at, same_thread, thread_ids}
use Rattle.xk_base.specs.Tables.Counting.{least_below}
use Rattle.machine_model.specs.State.Machine.{Idle, Joining, Machine, Ready, Receiving, ThreadState, Waiting}
use Rattle.order_model.specs.declared.exits.Exit.{Exit as Exited}
use Rattle.order_model.specs.declared.exits.Exit.TheVariants.{Exited as WithWord, Faulted, Killed}
use Rattle.order_model.specs.declared.failing.Badly.{Badly}
use Rattle.order_model.specs.declared.failing.Badly.TheVariants.{ByFault, ByWord}
use Rattle.order_model.specs.declared.failing.Failing.{Failing}
use Rattle.order_model.specs.declared.failing.Failing.TheVariants.{Console, ConsoleNot, Exit, Fault, Waits}
use Rattle.order_model.specs.declared.failing.Waiter.{Waiter}
use Rattle.order_model.specs.declared.failing.Waiter.TheVariants.{Any, Process, Thread}
use Rattle.order_model.specs.Moves.{Point}

-- some number below n passes the test
abbrev pub some_below : ℕ → (ℕ → Bool) → Bool
some_below n test = is_some (least_below n test)

-- ---- processes

-- a process that ended so ended badly: with a word other than 0, or by a fault
abbrev pub is_bad : Badly → Exited → Bool
is_bad ByWord (WithWord word) = not (word == 0)
is_bad ByWord (Faulted cause value) = false
is_bad ByWord Killed = false
is_bad ByFault (WithWord word) = false
is_bad ByFault (Faulted cause value) = true
is_bad ByFault Killed = false

-- one of n processes ended badly
abbrev pub some_ended : Badly → ℕ → (ℕ → Option Exited) → Bool
some_ended how n exits = some_below n (λ k. option_map_or (is_bad how) (exits (k + 2)) false)

-- ---- threads

-- a thread waits for an answer, or joins another; one that receives doesn't
abbrev pub is_stuck : ThreadState → Bool
is_stuck (Waiting number) = true
is_stuck (Joining tid) = true
is_stuck (Receiving serial) = false
is_stuck Ready = false
is_stuck Idle = false

-- the thread is asked about
abbrev pub is_asked : Waiter → ThreadId → Bool
is_asked Any id = true
is_asked (Process pid) id = id.pid.0 == pid.0
is_asked (Thread who) id = same_thread id who

-- there is a thread of this id, and it does
abbrev pub is_stuck_at : Machine → ThreadId → Bool
is_stuck_at m id = option_map_or (λ thread. is_stuck thread.state) (m.threads id) false

-- one of the threads that are asked about does
abbrev pub some_stuck : Waiter → Machine → Bool
some_stuck who m = some_below (thread_ids m.processes) (λ k. is_asked who (id_at k) && is_stuck_at m (id_at k))

-- ---- the console

-- the text stands somewhere in the bytes
abbrev pub has_text : List ℕ → List ℕ → Bool
has_text bytes text = some_below (length bytes + 1) (λ start. starts_with nat_eq (drop start bytes) text)

-- ---- endings

-- **What an ending fails of**: a process ended with a word other than 0, or by a fault; a thread waits for an answer, or joins another; the
-- console's bytes contain those of the text, or don't.
unfoldable pub fails_of : Failing → Point → Bool
fails_of Exit p = some_ended ByWord p.state.processes p.exits
fails_of Fault p = some_ended ByFault p.state.processes p.exits
fails_of (Waits who) p = some_stuck who p.state
fails_of (Console text) p = has_text p.console text.now
fails_of (ConsoleNot text) p = not (has_text p.console text.now)

-- the ending fails of what stands at this place
abbrev pub fails_at : List Failing → Point → ℕ → Bool
fails_at list p place = option_map_or (λ failing. fails_of failing p) (slice_get list place) false

-- the place of the first of these of which the ending fails
abbrev pub first_failing : List Failing → Point → Option ℕ
first_failing list p = least_below (length list) (fails_at list p)
