-- Events and the ends of turns know no byte: their records, and the state that they lead to but for bytes, are the same from
-- states that are the same but for bytes.
use Rattle.std.proofs.Common.{◌≡◌, ℕ, Bool, true, false, Option, Some, None, refl, ap, ◌∙◌}
use Rattle.xk_base.specs.declared.ids.Pid.{Pid}
use Rattle.xk_base.specs.declared.ids.ThreadId.{ThreadId}
use Rattle.machine_model.specs.Ending.Ends.{death}
use Rattle.machine_model.specs.State.Changes.{settled}
use Rattle.machine_model.specs.State.Machine.{Claim, Machine}
use Rattle.machine_model.specs.State.Order.{next_ready, turn}
use Rattle.machine_model.specs.Stepping.Events.{at_event, killed, killed_if, picked, raised, raised_if}
use Rattle.machine_model.specs.Stepping.Interrupts.{pended}
use Rattle.machine_model.specs.Stepping.Reservations.{unreserved}
use Rattle.confidentiality_laws.proofs.Carrying.ChangeLemmas.{settled_through}
use Rattle.confidentiality_laws.proofs.Carrying.EndLemmas.{death_through}
use Rattle.confidentiality_laws.proofs.Carrying.InterruptLemmas.{pended_through}
use Rattle.confidentiality_laws.proofs.Isolating.StepLemmas.{bare_recorded}
use Rattle.confidentiality_laws.proofs.Ledgers.OtherBytesLemmas.{machine_through, no_bytes}

pub picked_bare : (who : ThreadId) (m : Machine) → bare_recorded (picked who m) ≡ picked who (machine_through no_bytes m)
unfolding picked
picked_bare who m = refl

pub turn_bare : (m : Machine) → machine_through no_bytes (turn m) ≡ turn (machine_through no_bytes m)
unfolding turn next_ready
turn_bare m = refl

raised_if_bare : (k : ℕ) (o : Option Claim) (m : Machine)
    → bare_recorded (raised_if k o m) ≡ raised_if k o (machine_through no_bytes m)
raised_if_bare k None m = refl
raised_if_bare k (Some claim) m =
    ap (at_event m.steps) (settled_through no_bytes (pended k claim m) ∙ ap settled (pended_through no_bytes k claim m))

pub raised_bare : (k : ℕ) (m : Machine) → bare_recorded (raised k m) ≡ raised k (machine_through no_bytes m)
unfolding raised
raised_bare k m = raised_if_bare k (m.claims k) (unreserved m)

killed_if_bare : (alive : Bool) (pid : Pid) (m : Machine)
    → bare_recorded (killed_if alive pid m) ≡ killed_if alive pid (machine_through no_bytes m)
killed_if_bare false pid m = refl
killed_if_bare true pid m =
    ap (at_event m.steps) (settled_through no_bytes (death pid m) ∙ ap settled (death_through no_bytes pid m))

pub killed_bare : (pid : Pid) (m : Machine) → bare_recorded (killed pid m) ≡ killed pid (machine_through no_bytes m)
unfolding killed
killed_bare pid m = killed_if_bare (m.process pid.0).alive pid (unreserved m)
