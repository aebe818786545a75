-- What others do, and what comes by no process, leads from two states that differ in the sum alone to two that hold the same but for it.
use Rattle.std.proofs.Common.{◌≡◌, ℕ, Bool, true, false, List, Option, Some, None, refl, sym, ap, ◌∙◌, subst}
use Rattle.std.specs.Prelude.{◌%◌}
use Rattle.xk_base.specs.declared.ids.Pid.{Pid}
use Rattle.xk_base.specs.declared.ids.Place.{Place}
use Rattle.xk_base.specs.declared.ids.ThreadId.{ThreadId}
use Rattle.xk_base.specs.declared.pages.Access.TheVariants.{Load, Store}
use Rattle.xk_base.specs.Calls.Registers.{arguments_of, reg_at}
use Rattle.xk_base.specs.Numbers.Windows.{page_of}
use Rattle.xk_base.specs.UserMemory.{low_bytes}
use Rattle.ledger_model.specs.Ledger.{Ledger, Page, PageName, contents_of}
use Rattle.ledger_model.specs.Reach.{reach}
use Rattle.ledger_model.proofs.ReachingLemmas.{reached_contents}
use Rattle.machine_model.specs.Calling.Calls.{call}
use Rattle.machine_model.specs.Ending.Ends.{handler_ended}
use Rattle.machine_model.specs.Hart.Atomics.{Performed}
use Rattle.machine_model.specs.Hart.Instructions.{CallsKernel, Executed, Next, Stores, StoresToConsole, StoresToTimer, Traps}
use Rattle.machine_model.specs.Runs.Isolation.{IsSameFor, without_bytes}
use Rattle.machine_model.specs.Runs.Matched.{Matched}
use Rattle.machine_model.specs.State.Changes.{settled}
use Rattle.machine_model.specs.State.Machine.{Machine, Thread}
use Rattle.machine_model.specs.State.Order.{actor}
use Rattle.machine_model.specs.State.Views.{page_reached, stored, timer_set, write_to}
use Rattle.machine_model.specs.Stepping.Events.{killed, killed_if}
use Rattle.machine_model.specs.Stepping.Reservations.{unreserved}
use Rattle.machine_model.specs.Stepping.Step.{ends_handler, ends_thread, performed, step}
use Rattle.machine_model.proofs.Runs.KeptLemmas.{matched_at}
use Rattle.machine_laws.proofs.Threading.ThreadAnswerLemmas.{IsReadyThread, ready_thread}
use Rattle.machine_laws.proofs.Threading.ThreadStepLemmas.{actor_ready, step_ledger, turned_to}
use Rattle.confidentiality_laws.proofs.Isolating.SeenMemoryLemmas.{reached_alike}
use Rattle.confidentiality_laws.proofs.Isolating.StepLemmas.{actor_alike, acts, performed_alike}
use Rattle.confidentiality_laws.proofs.Keeping.CallLemmas.{settled_ledger}
use Rattle.confidentiality_laws.proofs.Ledgers.OtherBytesLemmas.{alike_through}
use Rattle.confidentiality_laws.proofs.Spreading.StepLemmas.{handler_ledger}
use Rattle.confidentiality_laws.proofs.Spreading.WrittenPageLemmas.{stored_is_loaded}
use Rattle.noninterference_laws.specs.SecretSum.{HoldSameBut}
use Rattle.noninterference_laws.proofs.Seeing.SeenLemmas.{both_written}
use Rattle.noninterference_laws.proofs.Unwound.ApartLemmas.{call_hold, death_hold, ended_hold}

module _ (place : Place) (m n : Machine) (h : Matched m) (e : without_bytes m ≡ without_bytes n) (same : HoldSameBut place m.ledger n.ledger)
    (old : Page) (stood : m.ledger.home place ≡ Some old) where
  -- ledgers that stay
  pub left_hold : (one other : Ledger) → one ≡ m.ledger → other ≡ n.ledger → HoldSameBut place one other
  left_hold one other p q page apart =
      ap (λ l. contents_of l page) p ∙ (same page apart ∙ sym (ap (λ l. contents_of l page) q))

  -- ---- a step of a process that can load no page that differs

  module _ (who : ThreadId) (same_for : IsSameFor who.pid m n) where
    turned : without_bytes (turned_to who m) ≡ without_bytes (turned_to who n)
    turned = ap (turned_to who) e

    written_hold : (address : ℕ) (bytes : List ℕ) (o : Option PageName) → page_reached m who.pid Store address ≡ o
        → HoldSameBut place (write_to o (address % 4096) bytes m.ledger) (write_to o (address % 4096) bytes n.ledger)
    written_hold address bytes None q = same
    written_hold address bytes (Some name) q = λ page apart.
        let at : Place = page_of who.pid address in
        let loads : reach m.processes m.ledger at Load ≡ Some name = stored_is_loaded m.processes m.ledger at name q in
        let held = reached_contents m.processes m.ledger at Load name loads in
        both_written m.ledger n.ledger name page (address % 4096) bytes held.0 held.1 (same_for.loaded at name refl loads) (λ no. same page apart)

    stored_hold : (address : ℕ) (bytes : List ℕ)
        → HoldSameBut place (write_to (page_reached m who.pid Store address) (address % 4096) bytes m.ledger)
        (write_to (page_reached n who.pid Store address) (address % 4096) bytes n.ledger)
    stored_hold address bytes =
        subst (λ o. HoldSameBut place (write_to (page_reached m who.pid Store address) (address % 4096) bytes m.ledger)
        (write_to o (address % 4096) bytes n.ledger))
        (reached_alike who.pid m n same_for Store address) (written_hold address bytes (page_reached m who.pid Store address) refl)

    acts_hold : (t : Thread) (a b : Bool) (x : Executed) (now : Page) → (acts m who t a b x).machine.ledger.home place ≡ Some now
        → HoldSameBut place (acts m who t a b x).machine.ledger (acts n who t a b x).machine.ledger
    unfolding settled stored timer_set
    acts_hold t true b x now stands =
        ended_hold place (turned_to who m) (turned_to who n) turned same old stood h.body.ledger.lawful who (reg_at t.regs 10) now stands
    acts_hold t false true x now stands =
        left_hold (handler_ended who.pid (turned_to who m)).machine.ledger (handler_ended who.pid (turned_to who n)).machine.ledger
        (handler_ledger who.pid (turned_to who m)) (handler_ledger who.pid (turned_to who n))
    acts_hold t false false (Next regs pc) now stands = same
    acts_hold t false false (Stores address width value regs pc) now stands = stored_hold address (low_bytes width value)
    acts_hold t false false (StoresToConsole offset value regs pc) now stands = same
    acts_hold t false false (StoresToTimer offset width value regs pc) now stands = same
    acts_hold t false false CallsKernel now stands = λ page apart.
        ap (λ l. contents_of l page) (settled_ledger (turned_to who m) (call (turned_to who m) (arguments_of t.regs)))
        ∙ (call_hold place (turned_to who m) (turned_to who n) turned same old stood (matched_at who m h) (arguments_of t.regs) now
        (sym (ap (λ (l : Ledger). l.home place) (settled_ledger (turned_to who m) (call (turned_to who m) (arguments_of t.regs)))) ∙ stands) page apart
        ∙ sym (ap (λ l. contents_of l page) (settled_ledger (turned_to who n) (call (turned_to who n) (arguments_of t.regs)))))
    acts_hold t false false (Traps cause value) now stands =
        death_hold place (turned_to who m) (turned_to who n) turned same old stood h.body.ledger.lawful who.pid now stands

    pub step_hold : actor m ≡ Some who → (now : Page) → (step m).machine.ledger.home place ≡ Some now
        → HoldSameBut place (step m).machine.ledger (step n).machine.ledger
    step_hold turn now stands page apart =
        ap (λ l. contents_of l page) is
        ∙ (acts_hold t (ends_thread who t.pc) (ends_handler who t.pc) x now (sym (ap (λ (l : Ledger). l.home place) is) ∙ stands) page apart
        ∙ sym (ap (λ l. contents_of l page) its))
      where
        ready : IsReadyThread m who
        ready = ready_thread m who (actor_ready m who turn)

        t : Thread
        t = ready.thread

        there_too : n.threads who ≡ Some t
        there_too = ap (λ (y : Machine). y.threads who) (sym e) ∙ ready.there

        x : Executed
        x = (performed (turned_to who m) who t).executed

        is : (step m).machine.ledger ≡ (acts m who t (ends_thread who t.pc) (ends_handler who t.pc) x).machine.ledger
        is = step_ledger m who t turn ready.there

        its : (step n).machine.ledger ≡ (acts n who t (ends_thread who t.pc) (ends_handler who t.pc) x).machine.ledger
        its =
            step_ledger n who t (sym (actor_alike m n (alike_through m n e)) ∙ turn) there_too
            ∙ ap (λ (p : Performed). (acts n who t (ends_thread who t.pc) (ends_handler who t.pc) p.executed).machine.ledger)
            (sym (performed_alike m n who same_for t))

  -- ---- a kill

  killed_hold : (alive : Bool) (pid : Pid) (now : Page) → (killed_if alive pid (unreserved m)).machine.ledger.home place ≡ Some now
      → HoldSameBut place (killed_if alive pid (unreserved m)).machine.ledger (killed_if alive pid (unreserved n)).machine.ledger
  unfolding settled
  killed_hold false pid now stands = same
  killed_hold true pid now stands =
      death_hold place (unreserved m) (unreserved n) (ap unreserved e) same old stood h.body.ledger.lawful pid now stands

  pub kill_hold : (pid : Pid) (now : Page) → (killed pid m).machine.ledger.home place ≡ Some now
      → HoldSameBut place (killed pid m).machine.ledger (killed pid n).machine.ledger
  unfolding killed
  kill_hold pid now stands =
      subst (λ b. HoldSameBut place (killed_if (m.process pid.0).alive pid (unreserved m)).machine.ledger
      (killed_if b pid (unreserved n)).machine.ledger)
      (ap (λ (x : Machine). (x.process pid.0).alive) e) (killed_hold (m.process pid.0).alive pid now stands)
