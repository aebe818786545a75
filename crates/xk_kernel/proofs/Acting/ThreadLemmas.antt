-- The threads of the table and those of the machine that it stands for.
use Rattle.std.proofs.Common.{◌≡◌, Bor, Bool, true, false, ℕ, Option, Some, None, IsSome, is_some, refl, sym, ap, subst, ◌∙◌}
use Rattle.std.specs.Prelude.{if◌then◌else◌, IsTrue}
use Rattle.std.specs.Option.{option_map, option_copied}
use Rattle.std.proofs.lemmas.Bool.{false≢true}
use Rattle.xk_base.specs.Tables.Circle.{is_thread_id, same_thread}
use Rattle.xk_base.specs.Tables.Counting.{put_at}
use Rattle.xk_base.specs.Log.{LogState}
use Rattle.xk_base.specs.declared.ids.ThreadId.{ThreadId}
use Rattle.machine_model.specs.State.Machine.{Machine, Thread}
use Rattle.machine_model.specs.State.Threads.{change_thread, put_thread}
use Rattle.sv32_space.specs.Tie.{Held}
use Rattle.thread_table.specs.Shown.{process_count, threads_of}
use Rattle.thread_table.specs.declared.table.Threads.{Threads}
use Rattle.thread_table.specs.declared.thread.Thread.{Thread as TableThread}
use Rattle.thread_table.proofs.PlaceLemmas.{same_thread-true, same_thread-self, thread_map_valid}
use Rattle.xk_parts.specs.Shown.{thread_of}
use Rattle.irq_path.proofs.ThreadLemmas.{threads_put}
use Rattle.xk_kernel.specs.State.{machine_of}
use Rattle.xk_kernel.specs.declared.kernel.Kernel.{Kernel}

-- ---- one thread, in the table and in the machine

some_before : (o : Option TableThread) → IsSome (option_map thread_of o) → IsSome o
some_before None h = h
some_before (Some t) h = refl

some_after : (o : Option TableThread) → IsSome o → IsSome (option_map thread_of o)
some_after None h = h
some_after (Some t) h = refl

none_before : (o : Option TableThread) → option_map thread_of o ≡ None → o ≡ None
none_before None h = refl
none_before (Some t) h = cc

module _ {W : Type 0} (held : W → Held) (k : Kernel W) (id : ThreadId) where
  -- the machine's thread of an id is that of the table
  pub thread_is : (machine_of held k).threads id ≡ option_map thread_of (threads_of k.threads id)
  unfolding machine_of
  thread_is = refl

  pub thread_found : (t : TableThread) → threads_of k.threads id ≡ Some t → (machine_of held k).threads id ≡ Some (thread_of t)
  thread_found t e = thread_is ∙ ap (option_map thread_of) e

  pub thread_missing : threads_of k.threads id ≡ None → (machine_of held k).threads id ≡ None
  thread_missing e = thread_is ∙ ap (option_map thread_of) e

  -- it is there in the one exactly where it is in the other
  pub in_table : IsSome ((machine_of held k).threads id) → IsSome (threads_of k.threads id)
  in_table h = some_before (threads_of k.threads id) (ap is_some (sym thread_is) ∙ h)

  pub in_machine : IsSome (threads_of k.threads id) → IsSome ((machine_of held k).threads id)
  in_machine h = ap is_some thread_is ∙ some_after (threads_of k.threads id) h

  pub not_in_table : (machine_of held k).threads id ≡ None → threads_of k.threads id ≡ None
  not_in_table e = none_before (threads_of k.threads id) (sym thread_is ∙ e)

  -- the same of what the table answers: the thread that it lends ..
  pub thread_lent : (o : Option (Bor TableThread)) (t : Bor TableThread) → option_copied o ≡ threads_of k.threads id → o ≡ Some t
      → (machine_of held k).threads id ≡ Some (thread_of t.now)
  thread_lent o t e is = thread_found t.now (sym e ∙ ap option_copied is)

  -- .. or none
  pub not_lent : (o : Option (Bor TableThread)) → option_copied o ≡ threads_of k.threads id → o ≡ None → (machine_of held k).threads id ≡ None
  not_lent o e is = thread_missing (sym e ∙ ap option_copied is)

  pub there_is_one : (o : Option (Bor TableThread)) → option_copied o ≡ threads_of k.threads id → o ≡ None
      → IsSome ((machine_of held k).threads id) → ⊥
  there_is_one o e is h = false≢true (ap is_some (sym (not_lent o e is)) ∙ h)

-- what has a thread is the id of one of the processes that the table was made for
valid_in_table : (t : Threads) (id : ThreadId) → IsSome (threads_of t id) → is_thread_id (process_count t) id ≡ true
unfolding threads_of process_count
valid_in_table t id h = thread_map_valid t.procs t.by_place.items id h

pub is_id : {W : Type 0} (held : W → Held) (k : Kernel W) (n : ℕ) (id : ThreadId) → process_count k.threads ≡ n
    → IsSome ((machine_of held k).threads id) → IsTrue (is_thread_id n id)
is_id held k n id e h = subst (λ n. is_thread_id n id ≡ true) e (valid_in_table k.threads id (in_table held k id h))

-- ---- a change of one thread

-- one thread put into the table, or taken out, is put into the machine, or taken out
pub machine_put : {W : Type 0} (held : W → Held) (k : Kernel W) (new : Threads) (id : ThreadId) (t : Option TableThread)
    → threads_of new ≡ put_at same_thread (threads_of k.threads) id t
    → machine_of held (record k { threads = new }) ≡ put_thread id (option_map thread_of t) (machine_of held k)
unfolding machine_of
machine_put held k new id t e = λ i. record (machine_of held k) {
  threads = threads_put k.threads new id t e i;
}

-- the log is no part of the machine
pub machine_of_log : {W : Type 0} (held : W → Held) (k : Kernel W) (log : LogState) → machine_of held (record k { log = log }) ≡ machine_of held k
unfolding machine_of
machine_of_log held k log = refl

-- ---- machines

-- the thread that was put is there
pub put_there : (m : Machine) (id : ThreadId) (t : Option Thread) → (put_thread id t m).threads id ≡ t
put_there m id t = go (same_thread id id) (same_thread-self id)
  where
    go : (b : Bool) → b ≡ true → (if b then t else m.threads id) ≡ t
    go true e = refl
    go false e = absurd (false≢true e)

-- the thread that is there in its own place changes nothing
pub put_same : (m : Machine) (id : ThreadId) (t : Thread) → m.threads id ≡ Some t → put_thread id (Some t) m ≡ m
put_same m id t e = λ i. record m { threads = λ q. at q (same_thread q id) refl i }
  where
    at : (q : ThreadId) (b : Bool) → same_thread q id ≡ b → (if b then Some t else m.threads q) ≡ m.threads q
    at q true s = sym (ap m.threads (same_thread-true q id s) ∙ e)
    at q false s = refl

-- a change of a thread that is there
pub change_there : (m : Machine) (id : ThreadId) (change : Thread → Thread) (t : Thread) → m.threads id ≡ Some t
    → put_thread id (Some (change t)) m ≡ change_thread id change m
change_there m id change t e = ap (λ o. put_thread id (option_map change o) m) (sym e)
