-- The kernel answers those who joined a thread.
use Rattle.xk_ports.specs.declared.store.SwapStore.{Ghosts as SwapStore}
use Rattle.std.proofs.Common.{◌≡◌, ℕ, ◌+◌, ◌-◌, ◌*◌, ◌<◌, ◌≤◌, Bool, true, false, List, [], ◌∷◌, length, Option, Some, None, refl, sym, ap, ◌∙◌, arith, append-nil, IsTrue, subst}
use Rattle.std.specs.Prelude.{◌&&◌, is_some}
use Rattle.std.specs.Option.{option_map, option_map_or}
use Rattle.std.proofs.lemmas.Bool.{eq-eqb}
use Rattle.machine_model.specs.State.Changes.{answering, replies, settled}
use Rattle.machine_model.specs.Ending.Ends.{is_joining, joiners_answered, waits_for_end}
use Rattle.machine_model.specs.State.Machine.{Machine, Thread}
use Rattle.machine_model.specs.State.Threads.{answer_to, give_answers, thread_id, with_answer}
use Rattle.vm_memory.specs.Memory.{processes}
use Rattle.xk_base.proofs.CircleLemmas.{is_pid-bounds}
use Rattle.xk_base.specs.Tables.Circle.{is_pid, thread_ids}
use Rattle.syscall_codec.specs.ReplyWords.{scalar1_words}
use Rattle.xk_base.specs.declared.ids.ThreadId.{ThreadId}
use Rattle.xk_base.specs.declared.records.What.TheVariants.{Reply}
use Rattle.xk_kernel.specs.Sound.{IsWhole}
use Rattle.xk_kernel.specs.State.{machine_of}
use Rattle.xk_kernel.specs.Telling.{Tells, log_with}
use Rattle.xk_kernel.specs.declared.kernel.Kernel.{Kernel}
use Rattle.xk_kernel.proofs.Calling.JoinerLemmas.{HasThreadIds, all_at_last, all_told_last, first_place, joiners_until, none_at_first, none_more, none_told, none_told_first, not_yet, one_more, one_told}
use Rattle.xk_kernel.proofs.Calling.LogLemmas.{log_with-next}
use Rattle.xk_kernel.proofs.Calling.TellingLemmas.{told_length, told_nothing}
use Rattle.xk_kernel.proofs.Acting.ThreadLemmas.{is_id}
use Rattle.xk_kernel.proofs.Calling.ReplyLemmas.{replies_until, unanswered}

-- ---- the ids of the table

pub thread_ids_known : {W : Type 0} (S : SwapStore W) (k : Kernel W) → IsWhole S k → HasThreadIds (machine_of S.held k)
unfolding machine_of
thread_ids_known S k whole = record { known = λ id t e. is_id S.held k (processes k.mem) id whole.threads (ap is_some e) }

-- ---- the loop over the tids

-- The kernel has answered those with the first k tids.
pub record HasAnswered {W : Type 0} (S : SwapStore W) (old new : Kernel W) (who : ThreadId) (a0 k : ℕ) : Type 0 where
  pub whole : IsWhole S new
  pub machine : machine_of S.held new ≡ give_answers (joiners_until (machine_of S.held old) who a0 k) (machine_of S.held old)
  pub log : new.log ≡ log_with (replies_until (first_place who + k) (joiners_answered (machine_of S.held old) who a0)) old.log
  pub mem : new.mem ≡ old.mem
  pub few : length new.log.records ≤ length old.log.records + k

as_joined : (who : ThreadId) (j : ℕ) (o : Option Thread) → option_map_or (λ t. is_joining who.tid t.state) o false ≡ waits_for_end who (thread_id who.pid j) o
as_joined who j None = refl
as_joined who j (Some t) = sym (ap (λ b. b && is_joining who.tid t.state) (eq-eqb who.pid.0 who.pid.0 refl))

module _ {W : Type 0} (S : SwapStore W) (old : Kernel W) (who : ThreadId) (a0 : ℕ) where
  abbrev m : Machine
  m = machine_of S.held old

  pub answered_none : IsWhole S old → 2 ≤ who.pid.0 → HasAnswered S old old who a0 0
  answered_none whole high = record {
    whole = whole;
    machine = none_at_first m who a0 (thread_ids_known S old whole);
    log =
        sym (ap (λ told. log_with told old.log) (none_told_first m who a0 high) ∙ told_nothing old.log);
    mem = refl;
    few = omega arith;
  }

  module _ (k : ℕ) (new : Kernel W) (h : HasAnswered S old new who a0 k) (high : 2 ≤ who.pid.0) (low : k < 31) where
    abbrev its_id : ThreadId
    its_id = thread_id who.pid (k + 1)

    abbrev is_joined : Bool
    is_joined = waits_for_end who its_id (m.threads its_id)

    abbrev joins_now : Bool
    joins_now = option_map_or (λ t. is_joining who.tid t.state) ((machine_of S.held new).threads its_id) false

    as_before : (machine_of S.held new).threads its_id ≡ m.threads its_id
    as_before =
        ap (λ (x : Machine). x.threads its_id) h.machine
        ∙ ap (λ x. option_map (with_answer x) (m.threads its_id)) (not_yet m who a0 k)
        ∙ unanswered (m.threads its_id)

    now_is : joins_now ≡ is_joined
    now_is = ap (λ o. option_map_or (λ t. is_joining who.tid t.state) o false) as_before ∙ as_joined who (k + 1) (m.threads its_id)

    pub answered_not : joins_now ≡ false → HasAnswered S old new who a0 (k + 1)
    answered_not e = record {
      whole = h.whole;
      machine = h.machine ∙ none_more m who a0 k (sym now_is ∙ e);
      log = h.log ∙ sym (ap (λ told. log_with told old.log) (none_told m who a0 high k low (sym now_is ∙ e)));
      mem = h.mem;
      few = let f : length new.log.records ≤ length old.log.records + k = h.few in omega arith;
    }

    -- what an answer with these words tells
    abbrev answered_so : Kernel W → List ℕ → Type 0
    answered_so next words =
        Tells S.held new next (record { machine = give_answers (answer_to its_id words) (machine_of S.held new); told = Reply its_id words ∷ [] })

    pub answered_one : (next : Kernel W) (words : List ℕ) → joins_now ≡ true → words ≡ scalar1_words a0 → IsWhole S next
        → answered_so next words → next.mem ≡ new.mem → HasAnswered S old next who a0 (k + 1)
    answered_one next words e are whole told mem =
        let tells : answered_so next (scalar1_words a0) = subst (answered_so next) are told in
        record {
          whole = whole;
          machine = tells.machine ∙ ap (give_answers (answer_to its_id (scalar1_words a0))) h.machine ∙ one_more m who a0 k (sym now_is ∙ e);
          log =
              log_with-next (replies_until (first_place who + k) (joiners_answered m who a0)) (Reply its_id (scalar1_words a0) ∷ []) old.log new.log next.log h.log tells.log
              ∙ sym (ap (λ told. log_with told old.log) (one_told m who a0 high k low (sym now_is ∙ e)));
          mem = mem ∙ h.mem;
          few =
              let f : length new.log.records ≤ length old.log.records + k = h.few in
              let one : length next.log.records ≡ length new.log.records + 1 = told_length new.log next.log (Reply its_id (scalar1_words a0) ∷ []) tells.log in
              omega arith;
        }

  last_place : (n pid : ℕ) → is_pid n pid ≡ true → (pid - 2) * 31 + 31 ≤ n * 31
  last_place n pid h = let b : (2 ≤ pid) × (pid < n + 2) = is_pid-bounds n pid h in omega (arith, b.0, b.1)

  within : IsTrue (is_pid (processes old.mem) who.pid.0) → first_place who + 31 ≤ thread_ids m.processes
  unfolding machine_of
  within h = last_place (processes old.mem) who.pid.0 h

  pub answered_all : (new : Kernel W) → IsWhole S old → IsTrue (is_pid (processes old.mem) who.pid.0) → HasAnswered S old new who a0 31
      → Tells S.held old new (settled (answering (joiners_answered m who a0) m))
  unfolding settled
  answered_all new whole pid h =
      let b : (2 ≤ who.pid.0) × (who.pid.0 < processes old.mem + 2) = is_pid-bounds (processes old.mem) who.pid.0 pid in
      record {
        machine = h.machine ∙ all_at_last m who a0 (thread_ids_known S old whole);
        log =
            h.log
            ∙ ap (λ told. log_with told old.log)
            (all_told_last m who a0 b.0 (within pid) ∙ sym (append-nil (replies m.processes (joiners_answered m who a0))));
      }
