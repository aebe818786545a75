-- A message arrives at a server: who receives it, and what is told where nobody is answered.
use Rattle.std.proofs.Common.{◌≡◌, ℕ, Bool, true, false, [], Option, Some, None, IsSome, refl, sym, ap, ◌∙◌, append-nil}
use Rattle.std.specs.Prelude.{IfSome}
use Rattle.std.specs.Option.{option_map, option_map_or}
use Rattle.std.proofs.lemmas.Bool.{false≢true}
use Rattle.std.proofs.lemmas.Option.{none-some, same_Some}
use Rattle.machine_laws.proofs.Threading.ThreadPutLemmas.{alike}
use Rattle.machine_model.specs.Messaging.Receivers.{is_receiving, receiver}
use Rattle.machine_model.specs.State.Machine.{Machine, Thread}
use Rattle.thread_table.proofs.PlaceLemmas.{thread_map_valid}
use Rattle.thread_table.specs.States.{is_ready_state, is_receiving_state}
use Rattle.thread_table.specs.ThreadMap.{is_ready as is_table_ready, is_receiving as is_table_receiving, receiver as table_receiver}
use Rattle.thread_table.specs.Shown.{process_count, threads_of}
use Rattle.thread_table.specs.declared.table.Threads.{Threads}
use Rattle.thread_table.specs.declared.thread.Thread.{Thread as TableThread}
use Rattle.thread_table.specs.declared.thread.ThreadState.{ThreadState as TableState}
use Rattle.thread_table.specs.declared.thread.ThreadState.TheVariants as table
use Rattle.xk_base.proofs.CountingLemmas.{least_below-passes}
use Rattle.xk_base.specs.Log.{LogState}
use Rattle.xk_base.specs.Tables.Circle.{id_by_tid, is_thread_id, same_thread, thread_ids}
use Rattle.xk_base.specs.Tables.Counting.{least_below}
use Rattle.xk_base.specs.declared.ids.Serial.{Serial}
use Rattle.xk_base.specs.declared.ids.ThreadId.{ThreadId}
use Rattle.send_path.proofs.Taken.{CallTables, without_memory}
use Rattle.xk_parts.specs.Shown.{state_of, thread_of}
use Rattle.send_path.specs.Rows.{log_with}
use Rattle.xk_parts.specs.Parts.{machine_at, no_store}

-- ---- the receiver

receiving_shown : (serial : Serial) (s : TableState) → is_receiving serial (state_of s) ≡ is_receiving_state serial s
receiving_shown serial table.Ready = refl
receiving_shown serial (table.Receiving other) = refl
receiving_shown serial (table.Waiting number) = refl
receiving_shown serial (table.Joining tid) = refl
receiving_shown serial table.Idle = refl

receives_alike : (serial : Serial) (o : Option TableThread)
    → option_map_or (λ (t : Thread). is_receiving serial t.state) (option_map thread_of o) false ≡ is_table_receiving serial o
receives_alike serial None = refl
receives_alike serial (Some t) = receiving_shown serial t.state

-- the receiver of the machine is that of the table
pub receiver_alike : (who : ThreadId) (parts : CallTables) (m : Machine) (serial : Serial)
    → receiver (machine_at no_store.held who (without_memory parts) m) serial ≡ table_receiver (process_count parts.threads) serial (threads_of parts.threads)
unfolding receiver machine_at
receiver_alike who parts m serial = λ i.
    option_map (id_by_tid (process_count parts.threads))
    (least_below (thread_ids (process_count parts.threads))
    (λ k. receives_alike serial (threads_of parts.threads (id_by_tid (process_count parts.threads) k)) i))

-- a thread that is Receiving isn't Ready
receiving_not_ready : (serial : Serial) (o : Option TableThread) → is_table_receiving serial o ≡ true → is_table_ready o ≡ true → ⊥
receiving_not_ready serial None e f = false≢true e
receiving_not_ready serial (Some t) e f = go t.state e f
  where
    go : (s : TableState) → is_receiving_state serial s ≡ true → is_ready_state s ≡ true → ⊥
    go table.Ready p q = false≢true p
    go (table.Receiving other) p q = false≢true q
    go (table.Waiting number) p q = false≢true q
    go (table.Joining tid) p q = false≢true q
    go table.Idle p q = false≢true q

receiving_there : (serial : Serial) (o : Option TableThread) → is_table_receiving serial o ≡ true → IsSome o
receiving_there serial None e = absurd (false≢true e)
receiving_there serial (Some t) e = refl

module _ (threads : Threads) (who : ThreadId) (ready : is_table_ready (threads_of threads who) ≡ true) (serial : Serial) where
  abbrev n : ℕ
  n = process_count threads

  abbrev receives : ℕ → Bool
  receives k = is_table_receiving serial (threads_of threads (id_by_tid n k))

  -- it is a thread of these processes, and not the caller
  pub receiver_fits : (o : Option ThreadId) → table_receiver n serial (threads_of threads) ≡ o
      → IfSome o (λ id. (is_thread_id n id ≡ true) × (same_thread id who ≡ false))
  unfolding threads_of process_count
  receiver_fits None e = tt
  receiver_fits (Some id) e = go (least_below (thread_ids n) receives) refl e
    where
      by : is_table_receiving serial (threads_of threads id) ≡ true → (is_thread_id n id ≡ true) × (same_thread id who ≡ false)
      by found = (thread_map_valid threads.procs threads.by_place.items id (receiving_there serial (threads_of threads id) found), apart (same_thread id who) refl)
        where
          apart : (b : Bool) → same_thread id who ≡ b → b ≡ false
          apart false q = refl
          apart true q =
              absurd (receiving_not_ready serial (threads_of threads who)
              (sym (ap (λ x. is_table_receiving serial (threads_of threads x)) (alike id who q)) ∙ found) ready)

      go : (k : Option ℕ) → least_below (thread_ids n) receives ≡ k → option_map (id_by_tid n) k ≡ Some id
          → (is_thread_id n id ≡ true) × (same_thread id who ≡ false)
      go None q r = absurd (none-some id r)
      go (Some k) q r =
          by (ap (λ x. is_table_receiving serial (threads_of threads x)) (sym (same_Some (id_by_tid n k) id r)) ∙ least_below-passes (thread_ids n) receives k q)

-- ---- answers

pub none_told : (log : LogState) → log ≡ log_with [] log
none_told log = λ i. record log { records = sym (append-nil log.records) i }
