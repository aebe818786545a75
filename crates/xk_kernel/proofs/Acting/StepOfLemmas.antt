-- A step that was done is counted, and is that of the machine.
use Rattle.xk_ports.specs.declared.store.SwapStore.{Ghosts as SwapStore}
use Rattle.std.proofs.Common.{◌≡◌, ℕ, ◌+◌, ◌<◌, ◌≤◌, ◌⊎◌, true, false, List, length, map, All, Option, Some, sym, ap, subst, ◌∙◌, arith, inl, inr}
use Rattle.std.specs.Prelude.{is_some}
use Rattle.std.specs.Option.{option_map}
use Rattle.std.proofs.lemmas.Bool.{false≢true}
use Rattle.std.proofs.lemmas.List.{length-map}
use Rattle.machine_laws.proofs.Interrupting.TimedLemmas.{timed_matched}
use Rattle.machine_laws.proofs.Threading.ThreadMoveLemmas.{matched_reserved}
use Rattle.machine_model.specs.State.Machine.{Machine}
use Rattle.machine_model.specs.Runs.Kept.{Settles}
use Rattle.machine_model.specs.Runs.Matched.{Matched}
use Rattle.machine_model.specs.State.Order.{actor}
use Rattle.machine_model.specs.Stepping.Reservations.{reservation_of}
use Rattle.machine_model.specs.Stepping.Step.{Recorded, counted, record_of, step, step_by, step_by_if}
use Rattle.machine_model.specs.State.Changes.{Told}
use Rattle.machine_model.proofs.Runs.TimerLemmas.{timed_raised}
use Rattle.machine_model.specs.Stepping.Timer.{timed}
use Rattle.sv32_space.specs.Tie.{Held}
use Rattle.vm_memory.specs.Memory.{has_failed, processes}
use Rattle.xk_base.specs.Log.{LogState}
use Rattle.xk_base.specs.Tables.Circle.{thread_ids}
use Rattle.xk_base.specs.declared.ids.ThreadId.{ThreadId}
use Rattle.xk_base.specs.declared.limits.TheConstants.{RECORD_LIMIT, TIMER_INTERRUPT}
use Rattle.xk_base.specs.declared.records.Rec.{Rec}
use Rattle.xk_base.specs.declared.records.What.{What}
use Rattle.vm_memory.specs.Bytes.{none_out}
use Rattle.xk_kernel.specs.Acting.{Acts, TellsFew, told_by}
use Rattle.xk_kernel.specs.Knowing.{IsCrowded}
use Rattle.xk_kernel.specs.Ringing.{IsTimersClaimThere, LogTells, Rings, so_far}
use Rattle.xk_kernel.specs.Sound.{IsSound, IsWhole}
use Rattle.xk_kernel.specs.State.{as_reservation, machine_of}
use Rattle.xk_kernel.specs.Stepping.{Becomes, DoesStep, MayExchange}
use Rattle.xk_kernel.specs.declared.kernel.Kernel.{Kernel}
use Rattle.xk_kernel.specs.declared.kernel.Stepped.TheVariants.{Did}
use Rattle.xk_kernel.proofs.Ringing.RingLemmas.{all_of_step}

-- what its actor did, counted, with the reservation that it leaves
abbrev pub counted_by : ThreadId → Machine → Told
counted_by who m = counted (record m { cursor = who }) (m.threads who) (told_by who m)

abbrev pub stepped_to : ℕ → Told → Recorded
stepped_to number done = record { machine = done.machine; records = map (record_of number) done.told }

-- the step is that of its actor, and then the timer
pub step_is : (m : Machine) (who : ThreadId) → actor m ≡ Some who → step m ≡ stepped_to (m.steps + 1) (timed (counted_by who m))
unfolding step step_by
step_is m who acts = ap (λ a. step_by_if a m) acts

-- the timer leaves the ledger, so that the step leaves what its actor did
step_leaves : (m : Machine) (who : ThreadId) → actor m ≡ Some who → (step m).machine.ledger ≡ (told_by who m).machine.ledger
step_leaves m who acts =
    ap (λ (s : Recorded). s.machine.ledger) (step_is m who acts)
    ∙ ap (λ (x : Machine). x.ledger) (timed_raised (counted_by who m)).is

-- pages may move in the step where they may in what its actor does
pub may_exchange : {W : Type 0} (held : W → Held) (old : Kernel W) (who : ThreadId) → actor (machine_of held old) ≡ Some who
    → (none_out old.mem ≡ false) ⊎ IsCrowded old (told_by who (machine_of held old)).machine.ledger → MayExchange held old
may_exchange held old who acts (inl out) = inl out
may_exchange held old who acts (inr crowded) = inr (subst (IsCrowded old) (sym (step_leaves (machine_of held old) who acts)) crowded)

module _ {W : Type 0} (S : SwapStore W) (old new : Kernel W) (who : ThreadId) (acts : actor (machine_of S.held old) ≡ Some who) where
  module _ (address : Option ℕ) (kept : Option (ThreadId × ℕ)) (same : option_map as_reservation kept ≡ reservation_of who address) where
    -- the kernel once the step is counted, with the reservation that it leaves
    abbrev counting : Kernel W
    counting = record new { steps = old.steps + 1; reserved = kept }

    pub counting_whole : IsWhole S new → IsWhole S counting
    counting_whole h = record {
      mem = h.mem;
      threads = h.threads;
      procs = h.procs;
      cursor = h.cursor;
      room = h.room;
      servers = h.servers;
    }

    -- what the log tells so far
    module _ (few : TellsFew old new) where
      its_step : new.log.step ≡ old.steps + 1
      its_step = ap (λ (l : LogState). l.step) few.log

      pub tells : LogTells new.log few.told
      tells = ap (λ (l : LogState). l.records) few.log ∙ (λ i. map (record_of (sym its_step i)) few.told)

      pub of_its_step : All (λ (rec : Rec). rec.step ≡ new.log.step) new.log.records
      of_its_step =
          subst (λ xs. All (λ (rec : Rec). rec.step ≡ new.log.step) xs) (sym tells) (all_of_step new.log.step few.told)

      pub few_records : IsWhole S old → length new.log.records < RECORD_LIMIT
      few_records whole =
          let long : length new.log.records ≡ length few.told = ap length tells ∙ length-map few.told (record_of new.log.step) in
          let told : length few.told ≤ thread_ids (processes old.mem) + 3 = few.few in
          let procs : processes old.mem ≤ 64 = whole.mem.few in
          omega (arith, long, told, procs)

      -- what the timer makes of it
      raised : (timed (so_far (machine_of S.held counting) few.told)).machine ≡ record (machine_of S.held counting) {
        cursor = (timed_raised (so_far (machine_of S.held counting) few.told)).cursor;
        threads = (timed_raised (so_far (machine_of S.held counting) few.told)).threads;
        pending = (timed_raised (so_far (machine_of S.held counting) few.told)).pending;
        compare = (timed_raised (so_far (machine_of S.held counting) few.told)).compare;
      }
      raised = (timed_raised (so_far (machine_of S.held counting) few.told)).is

      -- it counts one
      pub counts_one : (rung : Kernel W) → ((told : List What) → LogTells new.log told → Rings S.held counting rung told) → rung.steps ≡ old.steps + 1
      unfolding machine_of
      counts_one rung rings = ap (λ (m : Machine). m.steps) ((rings few.told tells).machine ∙ raised)

      -- .. and stays sound, whatever bytes the pages have
      module _ (settles : Settles (machine_of S.held old) (machine_of S.held new)) where
        counted_matched : Matched (machine_of S.held counting)
        unfolding machine_of
        counted_matched = matched_reserved (record (machine_of S.held new) { steps = old.steps + 1 }) settles (option_map as_reservation kept)

        -- who has claimed the timer's interrupt is there
        pub claim_there : IsTimersClaimThere (machine_of S.held counting)
        claim_there claim e = counted_matched.body.processes.pids claim.pid (counted_matched.rest.claims.living TIMER_INTERRUPT claim e)

        pub did_sound : (rung : Kernel W) → IsWhole S rung → ((told : List What) → LogTells new.log told → Rings S.held counting rung told)
            → IsSound S rung
        did_sound rung whole rings = record {
          whole = whole;
          matched = λ _. subst Matched (sym (rings few.told tells).machine) (timed_matched (so_far (machine_of S.held counting) few.told) counted_matched);
        }

    -- where what the thread did is known, the step is
    module _ (h : Acts S.held old new who address) where
      -- what the thread did
      abbrev did_tell : List What
      did_tell = (told_by who (machine_of S.held old)).told

      -- before the timer it is what the thread did, counted
      counted_is : so_far (machine_of S.held counting) did_tell ≡ counted_by who (machine_of S.held old)
      unfolding machine_of
      counted_is = λ i. record {
        machine = record (h.done.machine i) { steps = old.steps + 1; reserved = (same ∙ h.leaves) i };
        told = did_tell;
      }

      done_step : new.log.step ≡ old.steps + 1
      done_step = ap (λ (l : LogState). l.step) h.done.log

      done_tells : LogTells new.log did_tell
      done_tells = ap (λ (l : LogState). l.records) h.done.log ∙ (λ i. map (record_of (sym done_step i)) did_tell)

      step_done : (rung : Kernel W) → Rings S.held counting rung did_tell → Becomes S.held rung (step (machine_of S.held old))
      unfolding machine_of
      step_done rung rings = record {
        machine =
            rings.machine ∙ ap (λ (t : Told). (timed t).machine) counted_is
            ∙ sym (ap (λ (s : Recorded). s.machine) (step_is (machine_of S.held old) who acts));
        records =
            ap (λ (l : LogState). l.records) rings.log
            ∙ (λ i. map (record_of (done_step i)) (timed (counted_is i)).told)
            ∙ sym (ap (λ (s : Recorded). s.records) (step_is (machine_of S.held old) who acts));
      }

      pub did : (rung : Kernel W) → ((told : List What) → LogTells new.log told → Rings S.held counting rung told) → DoesStep S.held old rung Did
      did rung rings = (ap is_some acts, step_done rung (rings did_tell done_tells))

-- a kernel that failed is sound where it is whole
pub failed_sound : {W : Type 0} (S : SwapStore W) (k : Kernel W) → IsWhole S k → has_failed k.mem ≡ true → IsSound S k
failed_sound S k whole failed = record { whole = whole; matched = λ usable. absurd (false≢true (sym usable ∙ failed)) }
