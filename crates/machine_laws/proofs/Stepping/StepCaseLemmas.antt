-- A step is an instruction, a call, a trap or an end: where each of the others keeps the machine matched, every step does.
use Rattle.std.proofs.Common.{◌≡◌, ℕ, Bool, true, false, List, Option, Some, None, refl, sym, ap, ◌∙◌, subst}
use Rattle.std.specs.Prelude.{◌==◌, nat_lt}
use Rattle.std.proofs.lemmas.Bool.{and_parts, eqb-true, ltb-true}
use Rattle.xk_base.proofs.CircleLemmas.{same_ids}
use Rattle.xk_base.specs.declared.ids.Pid.{Pid}
use Rattle.xk_base.specs.declared.ids.ThreadId.{ThreadId}
use Rattle.xk_base.specs.Calls.Registers.{arguments_of, reg_at}
use Rattle.machine_model.specs.Stepping.Acts.{call_by, executes}
use Rattle.machine_model.specs.State.Changes.{Told, settled}
use Rattle.machine_model.specs.Ending.Ends.{death, handler_ended, has_threads, thread_ended}
use Rattle.machine_model.specs.Hart.Instructions.{Executed, Next, Stores, StoresToConsole, StoresToTimer, CallsKernel, Traps}
use Rattle.machine_model.specs.Runs.Kept.{Settles, StepKeepsMatched}
use Rattle.machine_model.specs.State.Machine.{Machine, Thread}
use Rattle.machine_model.specs.Runs.Matched.{Matched, is_living}
use Rattle.machine_model.specs.State.Order.{actor, ready_at}
use Rattle.machine_model.specs.State.Threads.{handler_return, put_thread, thread_id, thread_return}
use Rattle.machine_model.specs.Stepping.Step.{acted, step, ends_thread, ends_handler, executed}
use Rattle.machine_model.proofs.Runs.KeptLemmas.{matched_at}
use Rattle.machine_model.proofs.StepLemmas.{no_step}
use Rattle.machine_laws.proofs.Dying.DeathLemmas.{death_keeps}
use Rattle.machine_laws.proofs.Dying.DeathStepLemmas.{last_keeps}
use Rattle.machine_laws.proofs.Interrupting.IrqHandlerLemmas.{handler_end_keeps}
use Rattle.machine_laws.proofs.Threading.EndThreadLemmas.{thread_end_keeps}
use Rattle.machine_laws.proofs.Executing.InstructionStepLemmas.{instruction_matched}
use Rattle.machine_laws.proofs.Stepping.CauseCaseLemmas.{ActCase, EndsHandler, EndsThread, Instructs, act_of}
use Rattle.machine_laws.proofs.Stepping.StepKindLemmas.{is_call, is_done}
use Rattle.machine_laws.proofs.Threading.ThreadAnswerLemmas.{ready_lives}
use Rattle.machine_laws.proofs.Threading.ThreadStepLemmas.{actor_ready, step_keeps, turned_to}

abbrev pub CallsKeep : Type 0
CallsKeep = (m : Machine) (who : ThreadId) (words : List ℕ) → Matched m → actor m ≡ Some who → call_by m who ≡ Some words → Matched (step m).machine

abbrev pub DeathsKeep : Type 0
DeathsKeep = (m : Machine) (pid : Pid) → Matched m → is_living m pid ≡ true → Settles m (settled (death pid m)).machine

abbrev pub ThreadEndsKeep : Type 0
ThreadEndsKeep =
    (m : Machine) (who : ThreadId) (value : ℕ) (t : Thread) → Matched m → ready_at m who ≡ true → m.threads who ≡ Some t
    → ends_thread who t.pc ≡ true
    → Settles m (settled (thread_ended who value m)).machine

abbrev pub HandlerEndsKeep : Type 0
HandlerEndsKeep =
    (m : Machine) (who : ThreadId) (t : Thread) → Matched m → ready_at m who ≡ true → m.threads who ≡ Some t
    → ends_handler who t.pc ≡ true
    → Settles m (settled (handler_ended who.pid m)).machine

module _ (calls : CallsKeep) (deaths : DeathsKeep) (ends : ThreadEndsKeep) (handlers : HandlerEndsKeep)
    (m : Machine) (who : ThreadId) (h : Matched m) (acts : actor m ≡ Some who) where
  abbrev n : Machine
  n = turned_to who m

  there : Matched n
  there = matched_at who m h

  ready : ready_at m who ≡ true
  ready = actor_ready m who acts

  executed_case : (t : Thread) → m.threads who ≡ Some t → (x : Executed) → executes m who t ≡ Some x
      → (Settles m (executed n t x).machine → Matched (step m).machine) → Matched (step m).machine
  executed_case t q (Next regs pc) e settle = instruction_matched m who h acts (is_done m who t q (Next regs pc) e refl)
  executed_case t q (Stores address width value regs pc) e settle =
      instruction_matched m who h acts (is_done m who t q (Stores address width value regs pc) e refl)
  executed_case t q (StoresToConsole offset value regs pc) e settle =
      instruction_matched m who h acts (is_done m who t q (StoresToConsole offset value regs pc) e refl)
  executed_case t q (StoresToTimer offset width value regs pc) e settle =
      instruction_matched m who h acts (is_done m who t q (StoresToTimer offset width value regs pc) e refl)
  executed_case t q CallsKernel e settle = calls m who (arguments_of t.regs) h acts (is_call m who t q e)
  executed_case t q (Traps cause value) e settle = settle (deaths n who.pid there (ready_lives n there who ready))

  act_case : (t : Thread) → m.threads who ≡ Some t → (done : Told) → (Settles m done.machine → Matched (step m).machine)
      → ActCase m who t done → Matched (step m).machine
  act_case t q _ settle (Instructs x e) = executed_case t q x e settle
  act_case t q _ settle (EndsThread e) = settle (ends n who (reg_at t.regs 10) t there ready q e)
  act_case t q _ settle (EndsHandler e) = settle (handlers n who t there ready q e)

  acts_case : Matched (step m).machine
  acts_case =
      let act = act_of m who acts in
      act_case act.thread act.there (acted n act.thread) (step_keeps m who act.thread acts act.there) act.case

pub all_steps_keep : CallsKeep → DeathsKeep → ThreadEndsKeep → HandlerEndsKeep → StepKeepsMatched
all_steps_keep calls deaths ends handlers m h = go (actor m) refl
  where
    go : (o : Option ThreadId) → actor m ≡ o → Matched (step m).machine
    go None e = subst (λ s. Matched s.machine) (sym (no_step m e)) h
    go (Some who) e = acts_case calls deaths ends handlers m who h e

-- ---- where calls do

deaths_keep : DeathsKeep
deaths_keep m pid h alive = death_keeps m h pid

ends_keep : ThreadEndsKeep
ends_keep m who value t h is_ready at ends = go (has_threads (put_thread who None m) who.pid) refl
  where
    above : nat_lt 1 who.tid.0 ≡ true
    above = (and_parts (nat_lt 1 who.tid.0) (t.pc == thread_return) ends).0

    go : (b : Bool) → has_threads (put_thread who None m) who.pid ≡ b → Settles m (settled (thread_ended who value m)).machine
    go true others = thread_end_keeps m h who value is_ready (ltb-true 1 who.tid.0 above) others
    go false last = last_keeps m who value last (death_keeps m h who.pid)

handlers_keep : HandlerEndsKeep
handlers_keep m who t h is_ready at ends =
    let parts : ((who.tid.0 == 1) ≡ true) × ((t.pc == handler_return) ≡ true) = and_parts (who.tid.0 == 1) (t.pc == handler_return) ends in
    let same : who ≡ thread_id who.pid 1 = same_ids who (thread_id who.pid 1) refl (eqb-true who.tid.0 1 parts.0) in
    handler_end_keeps m h who.pid (sym (ap (ready_at m) same) ∙ is_ready)

pub steps_keep : CallsKeep → StepKeepsMatched
steps_keep calls = all_steps_keep calls deaths_keep ends_keep handlers_keep
