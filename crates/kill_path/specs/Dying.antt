-- The death of a process over the parts: which change of the machine it is.
use Rattle.std.specs.Prelude.{◌≡◌, false, Option}
use Rattle.std.specs.Option.{option_map_or}
use Rattle.irq_claims.specs.declared.claims.Claims.{Claims}
use Rattle.machine_model.specs.Ending.Ends.{death}
use Rattle.machine_model.specs.State.Changes.{replies, settled}
use Rattle.machine_model.specs.State.Machine.{Machine}
use Rattle.machine_model.specs.Stepping.Interrupts.{disarmed_if, is_claim_of}
use Rattle.send_path.specs.Rows.{log_with}
use Rattle.sv32_space.specs.Tie.{Held}
use Rattle.xk_base.specs.Log.{LogState}
use Rattle.xk_base.specs.declared.ids.Pid.{Pid}
use Rattle.xk_base.specs.declared.limits.TheConstants.{TIMER_INTERRUPT}
use Rattle.xk_parts.specs.Parts.{Parts, machine_at}
use Rattle.xk_parts.specs.Shown.{claims_shown}

-- The second machine is what the death of the process makes of the first, and exactly the replies of it were added to the log. The
-- record that the process is gone isn't among them.
pub record IsDeath (pid : Pid) (before after : Machine) (log_before log_after : LogState) : Type 0 where
  pub machine : after ≡ (settled (death pid before)).machine
  pub replies : log_after ≡ log_with (replies before.processes (death pid before).answers) log_before

-- the machine with its timer disarmed, where the process had claimed the interrupt
abbrev pub disarmed_with : Pid → Option Claims → Machine → Machine
disarmed_with pid claims m = record m {
  compare = disarmed_if (option_map_or (λ all. is_claim_of pid (claims_shown all TIMER_INTERRUPT)) claims false) m.compare;
}

-- The process dies, whatever the rest of the machine is. The timer is no part: it is disarmed beside them.
abbrev pub Dies : {W : Type 0} → (W → Held) → Pid → Parts W → Parts W → Type 0
Dies held pid old new =
    (m : Machine) →
    let before = machine_at held m.cursor old m in
    let after = machine_at held m.cursor new (disarmed_with pid old.claims m) in
    IsDeath pid before after old.log new.log
