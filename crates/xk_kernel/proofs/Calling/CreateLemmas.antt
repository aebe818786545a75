-- CreateThread: a new thread at the least free tid.
use Rattle.std.proofs.Common.{◌≡◌, ℕ, true, List, Option, Some, None, sym, ap, ◌∙◌}
use Rattle.std.specs.Prelude.{◌%◌, ◌==◌, not, is_none, unwrap_or, if◌then◌else◌}
use Rattle.std.specs.Option.{option_map}
use Rattle.std.proofs.lemmas.Bool.{eq-eqb}
use Rattle.xk_base.specs.declared.errors.XousError.TheVariants.{BadAlignment, ThreadNotAvailable}
use Rattle.xk_base.specs.declared.ids.Tid.{Tid}
use Rattle.xk_base.specs.Tables.Circle.{same_thread}
use Rattle.xk_base.specs.Tables.Counting.{put_at}
use Rattle.syscall_codec.specs.ReplyWords.{thread_words}
use Rattle.machine_model.specs.State.Changes.{Outcome, Refused, Served, answering, refused_or, unless_refused}
use Rattle.machine_model.specs.State.Machine.{Machine}
use Rattle.machine_model.specs.Calling.ThreadCalls.{create_refusals, create_served, free_tid}
use Rattle.machine_model.specs.State.Threads.{answer_to, new_thread, put_thread, thread_id}
use Rattle.sv32_space.specs.Tie.{Held}
use Rattle.thread_table.specs.ThreadMap.{free_tid as table_free_tid}
use Rattle.thread_table.specs.Shown.{threads_of}
use Rattle.thread_table.specs.declared.table.Threads.{Threads}
use Rattle.thread_table.specs.declared.thread.Thread.{Thread as TableThread}
use Rattle.xk_parts.specs.Shown.{thread_of}
use Rattle.xk_kernel.specs.State.{machine_of}
use Rattle.xk_kernel.specs.declared.kernel.Kernel.{Kernel}
use Rattle.xk_kernel.proofs.Acting.ThreadLemmas.{machine_put}
use Rattle.xk_kernel.proofs.Acting.TidLemmas.{free_is}

module _ (m : Machine) (entry sp : ℕ) (arguments : List ℕ) (aligned : (entry % 4 == 0) ≡ true) where
  abbrev row : Outcome
  row = unless_refused (create_refusals m entry) (Served (create_served m entry sp arguments))

  -- the row by the least free tid
  abbrev row_at : Option ℕ → Outcome
  row_at o =
      refused_or (if is_none o then Some ThreadNotAvailable else None)
      (Served (answering (answer_to m.cursor (thread_words (unwrap_or o 0))) (put_thread (thread_id m.cursor.pid (unwrap_or o 0)) (Some (new_thread entry sp arguments)) m)))

  row_is : (o : Option ℕ) → free_tid m m.cursor.pid ≡ o → row ≡ row_at o
  row_is o e = λ i.
      refused_or (if not (aligned i) then Some BadAlignment else (if is_none (e i) then Some ThreadNotAvailable else None))
      (Served (answering (answer_to m.cursor (thread_words (unwrap_or (e i) 0))) (put_thread (thread_id m.cursor.pid (unwrap_or (e i) 0)) (Some (new_thread entry sp arguments)) m)))

module _ {W : Type 0} (held : W → Held) (k : Kernel W) (entry sp : ℕ) (arguments : List ℕ) (aligned : entry % 4 ≡ 0) where
  found : (o : Option Tid) → table_free_tid k.cursor.pid (threads_of k.threads) ≡ o → free_tid (machine_of held k) k.cursor.pid ≡ option_map (λ (t : Tid). t.0) o
  found o e = free_is held k k.cursor.pid ∙ ap (option_map (λ (t : Tid). t.0)) e

  pub create_finds_none : table_free_tid k.cursor.pid (threads_of k.threads) ≡ None
      → Refused ThreadNotAvailable ≡ unless_refused (create_refusals (machine_of held k) entry) (Served (create_served (machine_of held k) entry sp arguments))
  unfolding machine_of
  create_finds_none e = sym (row_is (machine_of held k) entry sp arguments (eq-eqb (entry % 4) 0 aligned) None (found None e))

  pub create_starts : (t : Threads) (tid : Tid) (thread : TableThread) → table_free_tid k.cursor.pid (threads_of k.threads) ≡ Some tid
      → threads_of t ≡ put_at same_thread (threads_of k.threads) (record { pid = k.cursor.pid; tid = tid }) (Some thread)
      → thread_of thread ≡ new_thread entry sp arguments
      → Served (answering (answer_to k.cursor (thread_words tid.0)) (machine_of held (record k { threads = t })))
      ≡ unless_refused (create_refusals (machine_of held k) entry) (Served (create_served (machine_of held k) entry sp arguments))
  unfolding machine_of
  create_starts t tid thread e after is =
      ap (λ x. Served (answering (answer_to k.cursor (thread_words tid.0)) x)) (machine_put held k t (record { pid = k.cursor.pid; tid = tid }) (Some thread) after)
      ∙ ap (λ x. Served (answering (answer_to k.cursor (thread_words tid.0)) (put_thread (record { pid = k.cursor.pid; tid = tid }) (Some x) (machine_of held k)))) is
      ∙ sym (row_is (machine_of held k) entry sp arguments (eq-eqb (entry % 4) 0 aligned) (Some tid.0) (found (Some tid) e))
