-- The threads of the table and those of the machine that it stands for.
use Rattle.std.proofs.Common.{◌≡◌, Bool, true, false, List, ℕ, Option, Some, None, IsSome, refl, sym, ap, ◌∙◌}
use Rattle.std.specs.Prelude.{if◌then◌else◌}
use Rattle.std.specs.Option.{option_map, option_map_or}
use Rattle.std.proofs.lemmas.Bool.{false≢true}
use Rattle.machine_model.specs.State.Machine.{Thread}
use Rattle.machine_model.specs.State.Order.{is_ready}
use Rattle.machine_model.specs.State.Threads.{answer_to, with_answer}
use Rattle.thread_table.proofs.PlaceLemmas.{same_thread-true, thread_map_valid}
use Rattle.thread_table.specs.States.{is_ready_state}
use Rattle.thread_table.specs.ThreadMap.{is_ready as is_table_ready}
use Rattle.thread_table.specs.Shown.{process_count, threads_of}
use Rattle.thread_table.specs.declared.table.Threads.{Threads}
use Rattle.thread_table.specs.declared.thread.Thread.{Thread as TableThread}
use Rattle.thread_table.specs.declared.thread.ThreadState.{ThreadState as TableState}
use Rattle.thread_table.specs.declared.thread.ThreadState.TheVariants as table
use Rattle.xk_base.specs.Tables.Circle.{is_thread_id, same_thread}
use Rattle.xk_base.specs.Tables.Counting.{put_at}
use Rattle.xk_base.specs.declared.ids.ThreadId.{ThreadId}
use Rattle.xk_parts.specs.Shown.{state_of, thread_of, threads_shown}
use Rattle.xk_parts.specs.Threads.{ThreadMap, answered, changed_thread}

-- ---- one thread changed

-- a thread that isn't answered stays
pub unanswered : (o : Option Thread) → o ≡ option_map (with_answer None) o
unanswered None = refl
unanswered (Some t) = refl

-- an answer to one thread changes that thread
pub answered_one : (threads : ThreadMap) (id : ThreadId) (words : List ℕ)
    → changed_thread id (with_answer (Some words)) threads ≡ answered (answer_to id words) threads
answered_one threads id words = λ i q. at q (same_thread q id) refl i
  where
    at : (q : ThreadId) (b : Bool) → same_thread q id ≡ b
        → (if b then option_map (with_answer (Some words)) (threads id) else threads q)
        ≡ option_map (with_answer (if b then Some words else None)) (threads q)
    at q true s = sym (ap (λ x. option_map (with_answer (Some words)) (threads x)) (same_thread-true q id s))
    at q false s = unanswered (threads q)

-- a thread put into the table is put into the machine
pub put_shown : (old new : Threads) (id : ThreadId) (t after : TableThread) (change : Thread → Thread) → threads_of old id ≡ Some t
    → thread_of after ≡ change (thread_of t) → threads_of new ≡ put_at same_thread (threads_of old) id (Some after)
    → threads_shown new ≡ changed_thread id change (threads_shown old)
put_shown old new id t after change there is put =
    λ i q. (ap (λ (f : ThreadId → Option TableThread). option_map thread_of (f q)) put ∙ at q (same_thread q id)) i
  where
    at : (q : ThreadId) (b : Bool) → option_map thread_of (if b then Some after else threads_of old q)
        ≡ (if b then option_map change (option_map thread_of (threads_of old id)) else option_map thread_of (threads_of old q))
    at q true = ap Some is ∙ sym (ap (λ o. option_map change (option_map thread_of o)) there)
    at q false = refl

-- ---- a thread that is Ready

ready_shown : (s : TableState) → is_ready (state_of s) ≡ is_ready_state s
ready_shown table.Ready = refl
ready_shown (table.Receiving serial) = refl
ready_shown (table.Waiting number) = refl
ready_shown (table.Joining tid) = refl
ready_shown table.Idle = refl

pub ready_there : (o : Option TableThread) → is_table_ready o ≡ true → option_map_or (λ (t : Thread). is_ready t.state) (option_map thread_of o) false ≡ true
ready_there None e = absurd (false≢true e)
ready_there (Some t) e = ready_shown t.state ∙ e

some_ready : (o : Option TableThread) → is_table_ready o ≡ true → IsSome o
some_ready None e = absurd (false≢true e)
some_ready (Some t) e = refl

-- it has the id of a thread of these processes
pub ready_id : (threads : Threads) (who : ThreadId) → is_table_ready (threads_of threads who) ≡ true → is_thread_id (process_count threads) who ≡ true
unfolding threads_of process_count
ready_id threads who e = thread_map_valid threads.procs threads.by_place.items who (some_ready (threads_of threads who) e)
