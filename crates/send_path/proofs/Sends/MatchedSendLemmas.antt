-- The machine in which a send takes place is matched, and so is what an accepted send leaves. What the calls of a send need of it.
use Rattle.xk_ports.specs.declared.store.SwapStore.{Ghosts as SwapStore}
use Rattle.std.proofs.Common.{◌≡◌, ℕ, ◌+◌, ◌≤◌, Bool, true, false, List, sym, ap, subst, ◌∙◌, arith}
use Rattle.std.specs.Prelude.{◌==◌, ◌&&◌}
use Rattle.std.specs.Option.{option_map_or}
use Rattle.machine_laws.proofs.Sending.SendStepLemmas.{MayWait, send_keeps}
use Rattle.machine_model.proofs.Matching.MatchedLemmas.{number_is_fresh}
use Rattle.machine_model.specs.Messaging.SendCalls.{send_call}
use Rattle.machine_model.specs.Runs.Matched.{Matched}
use Rattle.machine_model.specs.State.Machine.{Machine}
use Rattle.machine_model.specs.State.Order.{ready_at}
use Rattle.ledger_model.specs.Loans.{IsFresh, loans}
use Rattle.process_table.specs.declared.table.Processes.{Processes}
use Rattle.thread_table.specs.ThreadMap.{is_ready as is_table_ready}
use Rattle.thread_table.specs.Shown.{threads_of}
use Rattle.vm_memory.specs.Memory.{ledger}
use Rattle.syscall_codec.specs.CallWords.{send_kind}
use Rattle.xk_base.specs.Calls.Kinds.{is_answered, is_waiting_kind}
use Rattle.xk_base.specs.declared.ids.Number.{Number}
use Rattle.xk_base.specs.declared.ids.ThreadId.{ThreadId}
use Rattle.xk_parts.specs.Sound.{AreSound}
use Rattle.send_path.proofs.Taken.{CallParts, over, with_next, with_processes, taken}
use Rattle.send_path.specs.Rows.{IsServed}
use Rattle.send_path.specs.Sending.{IsAboveMessages}
use Rattle.xk_parts.proofs.ThreadLemmas.{ready_there}
use Rattle.xk_parts.specs.Parts.{machine_at}

module _ {W : Type 0} (S : SwapStore W) (who : ThreadId) (procs : Processes) (number : Number) (old : CallParts W)
    (sound : AreSound S who (over procs old)) (above : IsAboveMessages number old.tables.servers old.tables.queues) where
  -- the rest of a machine of these parts, late enough for the number
  abbrev pub rest : Machine
  rest = record (with_processes procs sound.machine) { steps = sound.machine.steps + number.0 }

  abbrev pub m0 : Machine
  m0 = machine_at S.held who (taken old) (with_next procs number.0 rest)

  pub matched : Matched m0
  unfolding machine_at
  matched =
      let was = sound.matched in
      let first : sound.machine.next_number ≤ sound.machine.steps + 1 = was.rest.stepped.number_steps in
      record {
        body = was.body;
        rest = record {
          handlers = was.rest.handlers;
          claims = was.rest.claims;
          above = record { numbers = above; serials = was.rest.above.serials; connections = was.rest.above.connections };
          stepped = record {
            number_steps = omega arith;
            serial_steps =
                let serial : m0.next_serial ≤ sound.machine.steps + 1 = was.rest.stepped.serial_steps in
                let later : m0.next_serial ≤ sound.machine.steps + number.0 + 1 = omega (arith, serial) in
                later;
          };
          timer = was.rest.timer;
        };
      }

  pub fresh : IsFresh (loans (ledger S.held old.mem)) number
  unfolding machine_at
  fresh = number_is_fresh m0 matched number (let low : number.0 ≤ number.0 = omega arith in low)

  module _ (ready : is_table_ready (threads_of old.tables.threads who) ≡ true) (w : List ℕ)
      (no_wait : (is_waiting_kind (send_kind w) && (who.tid.0 == 1)) ≡ false) where
    is_ready : ready_at m0 m0.cursor ≡ true
    unfolding machine_at
    is_ready = ready_there (threads_of old.tables.threads who) ready

    may_wait : MayWait m0 matched is_ready w
    unfolding machine_at
    may_wait kind named answered = go (who.tid.0 == 1) (sym (ap (λ b. b && (who.tid.0 == 1)) waiting) ∙ no_wait)
      where
        waiting : is_waiting_kind (send_kind w) ≡ true
        waiting = ap (λ o. option_map_or is_answered o false) named ∙ answered

        go : (b : Bool) → (true && b) ≡ false → b ≡ false
        go b e = e

    pub sent_matched : (new : CallParts W)
        → IsServed (send_call m0 w) m0 (machine_at S.held who (taken new) (with_next procs (number.0 + 1) rest)) old.tables.log new.tables.log
        → Matched (machine_at S.held who (taken new) (record (with_next procs (number.0 + 1) rest) { steps = rest.steps + 1 }))
    unfolding machine_at
    sent_matched new served =
        subst (λ (x : Machine). Matched (record x { steps = rest.steps + 1 })) (sym served.machine)
        (send_keeps m0 matched is_ready w may_wait)
