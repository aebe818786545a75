-- What is done to a machine is the same but for bytes and what is hidden from machines that are the same but for these.
use Rattle.std.proofs.Common.{◌≡◌, ℕ, List, sym, ap, ◌∙◌}
use Rattle.xk_base.specs.declared.ids.Pid.{Pid}
use Rattle.xk_base.specs.declared.ids.ThreadId.{ThreadId}
use Rattle.machine_model.specs.Calling.Calls.{call}
use Rattle.machine_model.specs.Ending.Ends.{death, handler_ended, thread_ended}
use Rattle.machine_model.specs.Hart.Instructions.{Executed}
use Rattle.machine_model.specs.State.Changes.{Change, Told, call_settled, settled}
use Rattle.machine_model.specs.State.Machine.{Machine, Thread}
use Rattle.machine_model.specs.State.Order.{actor, turn}
use Rattle.machine_model.specs.Stepping.Events.{killed, picked, raised}
use Rattle.machine_model.specs.Stepping.Step.{Recorded, executed}
use Rattle.machine_model.specs.Stepping.Timer.{timed}
use Rattle.confidentiality_laws.proofs.Carrying.CallTableLemmas.{call_blind}
use Rattle.confidentiality_laws.proofs.Carrying.ChangeLemmas.{call_settled_through, change_through, settled_through, told_through}
use Rattle.confidentiality_laws.proofs.Carrying.EndLemmas.{death_through, handler_ended_through, thread_ended_through}
use Rattle.confidentiality_laws.proofs.Carrying.InterruptLemmas.{timed_through}
use Rattle.confidentiality_laws.proofs.Isolating.EventLemmas.{killed_bare, picked_bare, raised_bare, turn_bare}
use Rattle.confidentiality_laws.proofs.Isolating.InstructionLemmas.{executed_alike}
use Rattle.confidentiality_laws.proofs.Isolating.StepLemmas.{actor_alike, bare_recorded}
use Rattle.confidentiality_laws.proofs.Ledgers.OtherBytesLemmas.{alike_without, bare_is, machine_through, no_bytes}
use Rattle.noninterference_laws.specs.Inside.{Group, outside}
use Rattle.noninterference_laws.proofs.Veiling.EffectLemmas.{called_veil, change_veil, settled_alike, told_veil}
use Rattle.noninterference_laws.proofs.Veiling.EndLemmas.{death_veil, executed_veil, handler_ended_veil, irq_veil, kill_veil, picked_veil}
use Rattle.noninterference_laws.proofs.Veiling.EndLemmas.{recorded_veil, thread_ended_veil, timed_veil, turned_veil}
use Rattle.noninterference_laws.proofs.Veiling.VeilLemmas.{actor_veil, veil}

-- a machine without bytes and what is hidden
abbrev pub shade : Group → Machine → Machine
shade group m = machine_through no_bytes (veil group m)

abbrev pub told_shade : Group → Told → Told
told_shade group told = record told { machine = shade group told.machine }

abbrev pub recorded_shade : Group → Recorded → Recorded
recorded_shade group r = record r { machine = shade group r.machine }

-- ---- it is the outside

pub shade_is : (group : Group) (m : Machine) → outside group m ≡ shade group m
shade_is group m = ap (λ l. record (veil group m) { ledger = l }) (bare_is m.ledger)

pub shaded : (group : Group) (m n : Machine) → outside group m ≡ outside group n → shade group m ≡ shade group n
shaded group m n e = sym (shade_is group m) ∙ (e ∙ shade_is group n)

pub unshaded : (group : Group) (m n : Machine) → shade group m ≡ shade group n → outside group m ≡ outside group n
unshaded group m n e = shade_is group m ∙ (e ∙ sym (shade_is group n))

-- ---- what is done

-- the same of a hidden machine, and the same of machines that are the same but for bytes: then the same of machines that are the same
-- but for both
both_ways : (group : Group) (f : Machine → Told) → ((m : Machine) → told_veil group (f m) ≡ told_veil group (f (veil group m)))
    → ((m n : Machine) → machine_through no_bytes m ≡ machine_through no_bytes n → told_through no_bytes (f m) ≡ told_through no_bytes (f n))
    → (m n : Machine) → shade group m ≡ shade group n → told_shade group (f m) ≡ told_shade group (f n)
both_ways group f hidden bytes m n e =
    ap (told_through no_bytes) (hidden m)
    ∙ (ap (told_veil group) (bytes (veil group m) (veil group n) e) ∙ sym (ap (told_through no_bytes) (hidden n)))

module _ (group : Group) where
  pub executed_shade : (t : Thread) (x : Executed) (m n : Machine) → shade group m ≡ shade group n
      → told_shade group (executed m t x) ≡ told_shade group (executed n t x)
  executed_shade t x =
      both_ways group (λ m. executed m t x) (λ m. executed_veil group m t x) (λ m n e. executed_alike m n e t x)

  pub called_shade : (w : List ℕ) (m n : Machine) → shade group m ≡ shade group n
      → told_shade group (call_settled m (call m w)) ≡ told_shade group (call_settled n (call n w))
  called_shade w = both_ways group (λ m. call_settled m (call m w)) (λ m. called_veil group m w) bytes
    where
      bytes : (m n : Machine) → machine_through no_bytes m ≡ machine_through no_bytes n
          → told_through no_bytes (call_settled m (call m w)) ≡ told_through no_bytes (call_settled n (call n w))
      bytes m n e =
          call_settled_through no_bytes m (call m w)
          ∙ ((λ i. call_settled (e i) (call_blind m n w (alike_without m n e) i)) ∙ sym (call_settled_through no_bytes n (call n w)))

  settled_shade : (f : Machine → Change) → ((m : Machine) → change_through no_bytes (f m) ≡ f (machine_through no_bytes m))
      → ((m : Machine) → change_veil group (f m) ≡ change_veil group (f (veil group m))) → (m n : Machine)
      → shade group m ≡ shade group n → told_shade group (settled (f m)) ≡ told_shade group (settled (f n))
  settled_shade f carries hidden =
      both_ways group (λ m. settled (f m)) (λ m. settled_alike group (f m) (f (veil group m)) (hidden m)) bytes
    where
      bytes : (m n : Machine) → machine_through no_bytes m ≡ machine_through no_bytes n
          → told_through no_bytes (settled (f m)) ≡ told_through no_bytes (settled (f n))
      bytes m n e =
          settled_through no_bytes (f m)
          ∙ (ap settled (carries m ∙ (ap f e ∙ sym (carries n))) ∙ sym (settled_through no_bytes (f n)))

  pub death_shade : (pid : Pid) (m n : Machine) → shade group m ≡ shade group n
      → told_shade group (settled (death pid m)) ≡ told_shade group (settled (death pid n))
  death_shade pid = settled_shade (death pid) (death_through no_bytes pid) (death_veil group pid)

  pub ended_shade : (who : ThreadId) (a0 : ℕ) (m n : Machine) → shade group m ≡ shade group n
      → told_shade group (settled (thread_ended who a0 m)) ≡ told_shade group (settled (thread_ended who a0 n))
  ended_shade who a0 = settled_shade (thread_ended who a0) (thread_ended_through no_bytes who a0) (thread_ended_veil group who a0)

  pub handled_shade : (pid : Pid) (m n : Machine) → shade group m ≡ shade group n
      → told_shade group (settled (handler_ended pid m)) ≡ told_shade group (settled (handler_ended pid n))
  handled_shade pid = settled_shade (handler_ended pid) (handler_ended_through no_bytes pid) (handler_ended_veil group pid)

  -- the timer looks at nothing that is hidden
  pub timed_shade : (done : Told) → told_shade group (timed done) ≡ told_veil group (timed (told_shade group done))
  timed_shade done =
      ap (told_through no_bytes) (timed_veil group done) ∙ ap (told_veil group) (timed_through no_bytes (told_veil group done))

  -- ---- whose turn it is, and events

  pub actor_shade : (m n : Machine) → shade group m ≡ shade group n → actor m ≡ actor n
  actor_shade m n e = sym (actor_veil group m) ∙ (actor_alike (veil group m) (veil group n) e ∙ actor_veil group n)

  event_shade : (f : Machine → Recorded) → ((m : Machine) → bare_recorded (f m) ≡ f (machine_through no_bytes m))
      → ((m : Machine) → recorded_veil group (f m) ≡ recorded_veil group (f (veil group m))) → (m n : Machine)
      → shade group m ≡ shade group n → recorded_shade group (f m) ≡ recorded_shade group (f n)
  event_shade f carries hidden m n e =
      ap bare_recorded (hidden m)
      ∙ (ap (recorded_veil group) (carries (veil group m) ∙ (ap f e ∙ sym (carries (veil group n)))) ∙ sym (ap bare_recorded (hidden n)))

  pub picked_shade : (who : ThreadId) (m n : Machine) → shade group m ≡ shade group n
      → recorded_shade group (picked who m) ≡ recorded_shade group (picked who n)
  picked_shade who = event_shade (picked who) (picked_bare who) (picked_veil group who)

  pub irq_shade : (k : ℕ) (m n : Machine) → shade group m ≡ shade group n → recorded_shade group (raised k m) ≡ recorded_shade group (raised k n)
  irq_shade k = event_shade (raised k) (raised_bare k) (irq_veil group k)

  pub kill_shade : (pid : Pid) (m n : Machine) → shade group m ≡ shade group n
      → recorded_shade group (killed pid m) ≡ recorded_shade group (killed pid n)
  kill_shade pid = event_shade (killed pid) (killed_bare pid) (kill_veil group pid)

  pub turn_shade : (m n : Machine) → shade group m ≡ shade group n → shade group (turn m) ≡ shade group (turn n)
  turn_shade m n e =
      ap (machine_through no_bytes) (turned_veil group m)
      ∙ (ap (veil group) (turn_bare (veil group m) ∙ (ap turn e ∙ sym (turn_bare (veil group n))))
      ∙ sym (ap (machine_through no_bytes) (turned_veil group n)))
