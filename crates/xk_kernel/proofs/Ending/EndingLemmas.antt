-- A thread ends, and another one of its process lives on: those who joined it are answered.
use Rattle.std.proofs.Common.{◌≡◌, ℕ, Bool, true, false, [], ◌∷◌, Option, Some, None, refl, sym, ap, ◌∙◌}
use Rattle.std.specs.Prelude.{◌==◌, ◌&&◌, IsSome, if◌then◌else◌}
use Rattle.std.specs.Option.{option_map_or}
use Rattle.std.proofs.lemmas.Bool.{false≢true}
use Rattle.machine_laws.proofs.Threading.ThreadAnswerLemmas.{IsReadyThread, ready_thread}
use Rattle.machine_model.specs.State.Changes.{Change, Told, answering, settled}
use Rattle.machine_model.specs.Ending.Ends.{end_with_last_thread, has_threads, is_joining, joiners_answered, thread_ended, waits_for_end}
use Rattle.machine_model.specs.State.Machine.{Machine, Thread}
use Rattle.machine_model.specs.State.Order.{is_ready, ready_at}
use Rattle.machine_model.specs.Stepping.Step.{after}
use Rattle.machine_model.specs.State.Threads.{Answers, both_answers, put_thread}
use Rattle.sv32_space.specs.Tie.{Held}
use Rattle.thread_table.proofs.PlaceLemmas.{same_thread-true}
use Rattle.thread_table.specs.Shown.{threads_of}
use Rattle.thread_table.specs.declared.table.Threads.{Threads}
use Rattle.xk_base.specs.Tables.Circle.{same_thread}
use Rattle.xk_base.specs.Tables.Counting.{put_at}
use Rattle.xk_base.specs.Log.{LogState}
use Rattle.syscall_codec.specs.ReplyWords.{scalar1_words}
use Rattle.xk_base.specs.declared.ids.ThreadId.{ThreadId}
use Rattle.xk_base.specs.declared.records.What.TheVariants.{End}
use Rattle.xk_kernel.specs.State.{machine_of}
use Rattle.xk_kernel.specs.Telling.{Tells, log_with}
use Rattle.xk_kernel.specs.declared.kernel.Kernel.{Kernel}
use Rattle.xk_kernel.proofs.Calling.LogLemmas.{log_with-next}
use Rattle.xk_kernel.proofs.Calling.ReplyLemmas.{both_with_none}
use Rattle.xk_kernel.proofs.Acting.ThreadLemmas.{in_table, machine_of_log, machine_put}

-- ---- the end in the machine

module _ (m : Machine) (who : ThreadId) (a0 : ℕ) where
  abbrev without : Machine
  without = put_thread who None m

  abbrev joiners : Answers
  joiners = joiners_answered m who a0

  abbrev with_joiners : Change → Change
  with_joiners left = record left { answers = both_answers joiners left.answers }

  and_false : (b : Bool) → (b && false) ≡ false
  and_false true = refl
  and_false false = refl

  -- the thread itself, which is Ready, waits for no end
  module _ (ready : ready_at m who ≡ true) where
    waits_not : waits_for_end who who (m.threads who) ≡ false
    waits_not =
        let r : IsReadyThread m who = ready_thread m who ready in
        ap (waits_for_end who who) r.there ∙ ap (λ s. (who.pid.0 == who.pid.0) && is_joining who.tid s) r.ready ∙ and_false (who.pid.0 == who.pid.0)

    waits_same : (id : ThreadId) → waits_for_end who id (without.threads id) ≡ waits_for_end who id (m.threads id)
    waits_same id = go (same_thread id who) refl
      where
        go : (b : Bool) → same_thread id who ≡ b → waits_for_end who id (if b then None else m.threads id) ≡ waits_for_end who id (m.threads id)
        go false e = refl
        go true e = sym (ap (λ q. waits_for_end who q (m.threads q)) (same_thread-true id who e) ∙ waits_not)

    joiners_same : joiners_answered without who a0 ≡ joiners
    joiners_same = λ i id. if waits_same id i then Some (scalar1_words a0) else None

  ended_others : has_threads without who.pid ≡ true → settled (thread_ended who a0 m) ≡ settled (answering joiners without)
  unfolding thread_ended
  ended_others e =
      ap (λ b. settled (with_joiners (end_with_last_thread b who.pid without))) e
      ∙ ap (λ a. settled (answering a without)) (both_with_none joiners)

-- ---- the end in the kernel

module _ {W : Type 0} (held : W → Held) (old : Kernel W) (first : LogState) (threads : Threads) (who : ThreadId) (a0 : ℕ) where
  abbrev m : Machine
  m = machine_of held old

  -- the kernel without the thread
  abbrev left : Kernel W
  left = record old { log = first; threads = threads }

  -- what happened up to the answers to those who joined it
  pub record HasEnded (new : Kernel W) : Type 0 where
    pub ready : ready_at m who ≡ true
    pub pushed : first ≡ log_with (End who ∷ []) old.log
    pub ended : threads_of threads ≡ put_at same_thread (threads_of old.threads) who None
    pub tells : Tells held left new (settled (answering (joiners_answered (machine_of held left) who a0) (machine_of held left)))

  module _ (new : Kernel W) (h : HasEnded new) where
    left_is : machine_of held left ≡ put_thread who None m
    left_is = machine_put held (record old { log = first }) threads who None h.ended ∙ ap (put_thread who None) (machine_of_log held old first)

    abbrev answered : Told
    answered = settled (answering (joiners_answered m who a0) (put_thread who None m))

    answered_is : settled (answering (joiners_answered (machine_of held left) who a0) (machine_of held left)) ≡ answered
    answered_is =
        ap (λ x. settled (answering (joiners_answered x who a0) x)) left_is
        ∙ ap (λ a. settled (answering a (put_thread who None m))) (joiners_same m who a0 h.ready)

    machine_is : machine_of held new ≡ answered.machine
    machine_is = h.tells.machine ∙ ap (λ (t : Told). t.machine) answered_is

    log_is : new.log ≡ log_with (End who ∷ answered.told) old.log
    log_is =
        log_with-next (End who ∷ []) _ old.log first new.log h.pushed h.tells.log
        ∙ ap (λ (t : Told). log_with (End who ∷ t.told) old.log) answered_is

    pub end_with_others : has_threads (put_thread who None m) who.pid ≡ true → Tells held old new (after (End who) (settled (thread_ended who a0 m)))
    end_with_others others =
        let e : settled (thread_ended who a0 m) ≡ answered = ended_others m who a0 others in
        record {
          machine = machine_is ∙ sym (ap (λ (t : Told). t.machine) e);
          log = log_is ∙ sym (ap (λ (t : Told). log_with (End who ∷ t.told) old.log) e);
        }

-- ---- the thread whose turn it is

some_where : (o : Option Thread) → option_map_or (λ t. is_ready t.state) o false ≡ true → IsSome o
some_where None e = absurd (false≢true e)
some_where (Some t) e = refl

pub ready_is_there : {W : Type 0} (held : W → Held) (k : Kernel W) (id : ThreadId) → ready_at (machine_of held k) id ≡ true → IsSome (threads_of k.threads id)
ready_is_there held k id e = in_table held k id (some_where ((machine_of held k).threads id) e)
