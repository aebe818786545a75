-- The interrupt thread in the table and in the machine that it stands for.
use Rattle.std.proofs.Common.{◌≡◌, Bool, true, false, Option, Some, None, IsSome, refl, ap, ◌∙◌}
use Rattle.std.specs.Prelude.{if◌then◌else◌}
use Rattle.std.specs.Option.{option_map, option_map_or}
use Rattle.std.proofs.lemmas.Bool.{false≢true}
use Rattle.machine_model.specs.State.Machine.{Machine, Thread}
use Rattle.machine_model.specs.State.Threads.{thread_id}
use Rattle.machine_model.specs.Stepping.Interrupts.{is_free_for_interrupt, is_idle}
use Rattle.thread_table.specs.Shown.{threads_of}
use Rattle.thread_table.specs.declared.table.Threads.{Threads}
use Rattle.thread_table.specs.declared.thread.Thread.{Thread as TableThread}
use Rattle.thread_table.specs.declared.thread.ThreadState.{ThreadState as TableState}
use Rattle.thread_table.specs.declared.thread.ThreadState.TheVariants as table
use Rattle.xk_base.specs.Tables.Circle.{same_thread}
use Rattle.xk_base.specs.Tables.Counting.{put_at}
use Rattle.xk_base.specs.declared.ids.Pid.{Pid}
use Rattle.xk_base.specs.declared.ids.ThreadId.{ThreadId}
use Rattle.xk_parts.specs.Shown.{state_of, thread_of, threads_shown}

-- ---- one thread put into the table, or taken out

put_each : (b : Bool) (t o : Option TableThread) → option_map thread_of (if b then t else o) ≡ (if b then option_map thread_of t else option_map thread_of o)
put_each true t o = refl
put_each false t o = refl

-- .. is put into the machine, or taken out
pub threads_put : (old new : Threads) (id : ThreadId) (t : Option TableThread) → threads_of new ≡ put_at same_thread (threads_of old) id t
    → threads_shown new ≡ put_at same_thread (threads_shown old) id (option_map thread_of t)
threads_put old new id t e = λ i q. (ap (λ (f : ThreadId → Option TableThread). option_map thread_of (f q)) e ∙ put_each (same_thread q id) t (threads_of old q)) i

-- ---- whether the interrupt thread runs a handler

module _ (threads : Threads) (pid : Pid) (m : Machine) where
  -- the machine with the threads of the table
  abbrev pub shown : Machine
  shown = record m { threads = threads_shown threads }

  abbrev of_table : Option TableThread → Bool
  of_table o = option_map_or (λ (t : Thread). is_idle t.state) (option_map thread_of o) false

  pub idle_found : (t : TableThread) → threads_of threads (thread_id pid 1) ≡ Some t → is_free_for_interrupt shown pid ≡ is_idle (state_of t.state)
  idle_found t e = ap of_table e

  pub idle_missing : threads_of threads (thread_id pid 1) ≡ None → is_free_for_interrupt shown pid ≡ false
  idle_missing e = ap of_table e

  -- a free interrupt thread is there
  pub free_is_there : is_free_for_interrupt shown pid ≡ true → IsSome (threads_of threads (thread_id pid 1))
  free_is_there e = go (threads_of threads (thread_id pid 1)) e
    where
      go : (o : Option TableThread) → of_table o ≡ true → IsSome o
      go None q = absurd (false≢true q)
      go (Some t) q = refl

-- no other state is Idle
pub not_idle : (s : TableState) → (s ≡ table.Idle → ⊥) → is_idle (state_of s) ≡ false
not_idle table.Ready f = refl
not_idle (table.Receiving serial) f = refl
not_idle (table.Waiting number) f = refl
not_idle (table.Joining tid) f = refl
not_idle table.Idle f = absurd (f refl)
