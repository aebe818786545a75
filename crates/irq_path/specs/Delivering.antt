-- The delivery of interrupts over the parts: which change of the machine it is.
use Rattle.std.specs.Prelude.{◌≡◌, Bool, is_some, Some}
use Rattle.irq_claims.specs.declared.claims.Claims.{Claims}
use Rattle.machine_model.specs.State.Changes.{settled}
use Rattle.machine_model.specs.State.Machine.{Machine}
use Rattle.machine_model.specs.Stepping.Interrupts.{delivered}
use Rattle.send_path.specs.Rows.{log_with}
use Rattle.thread_table.specs.declared.table.Threads.{Threads}
use Rattle.xk_base.specs.Log.{LogState}
use Rattle.xk_base.specs.declared.ids.Pid.{Pid}
use Rattle.xk_parts.specs.Parts.{Tables, machine_over, no_store}

-- the parts that a delivery takes
pub record Taken : Type 0 where
  pub threads : Threads
  pub claims : Claims
  pub log : LogState

abbrev pub taken : Threads → Claims → LogState → Taken
taken threads claims log = record { threads = threads; claims = claims; log = log }

-- the parts with these
abbrev pub with_taken : Taken → Tables → Tables
with_taken t parts = record parts { threads = t.threads; claims = Some t.claims; log = t.log }

-- The second machine is what a try to deliver to the process makes of the first, exactly the records of it were added to the log, and
-- the answer is whether a handler starts.
pub record IsDelivery (pid : Pid) (before after : Machine) (log_before log_after : LogState) (starts : Bool) : Type 0 where
  pub machine : after ≡ (settled (delivered pid before)).machine
  pub log : log_after ≡ log_with (settled (delivered pid before)).told log_before
  pub answer : starts ≡ is_some (delivered pid before).delivery

-- Delivery is tried for the process, whatever the other parts and the rest of the machine are.
abbrev pub Delivers : Pid → Taken → Taken → Bool → Type 0
Delivers pid old new starts =
    (parts : Tables) (m : Machine) →
    let before = machine_over no_store.held (with_taken old parts) m in
    let after = machine_over no_store.held (with_taken new parts) m in
    IsDelivery pid before after old.log new.log starts
