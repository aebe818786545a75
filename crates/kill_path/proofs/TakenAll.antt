-- The parts of a death as lemmas take them.
use Rattle.std.proofs.Common.{Some}
use Rattle.irq_claims.specs.declared.claims.Claims.{Claims}
use Rattle.machine_model.specs.State.Machine.{Machine}
use Rattle.process_table.specs.declared.table.Processes.{Processes}
use Rattle.send_path.proofs.Taken.{CallParts, taken}
use Rattle.sv32_space.specs.Tie.{Held}
use Rattle.xk_parts.specs.Parts.{Parts, machine_at}

-- those of a call on messages, the processes, and the claims
pub record DeathParts (W : Type 0) : Type 0 where
  pub parts : CallParts W
  pub procs : Processes
  pub claims : Claims

abbrev pub all_taken : {W : Type 0} → DeathParts W → Parts W
all_taken all = record (taken all.parts) { procs = Some all.procs; claims = Some all.claims }

-- the machine of the parts laid over another, at whose turn it is there
abbrev pub at_its_turn : {W : Type 0} → (W → Held) → Parts W → Machine → Machine
at_its_turn held parts m = machine_at held m.cursor parts m
