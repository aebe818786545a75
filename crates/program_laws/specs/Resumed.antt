-- A run that is suspended after some events, and goes on from the bytes of the state to which they lead.
use Rattle.std.specs.Prelude.{◌≡◌, ℕ, false, List, ◌++◌}
use Rattle.xk_base.specs.declared.events.Event.{Event}
use Rattle.machine_model.specs.State.Machine.{Machine}
use Rattle.snapshot_rows.specs.declared.state.State.{State}
use Rattle.suspend_image.specs.StateBytes.{saved_bytes}
use Rattle.machine_laws.specs.History.{History, history}
use Rattle.resume_path.specs.Resumable.{IsResumable}

-- The events don't meet the limit, the file has the state bytes of the state to which they lead, and this is the state that is read of it.
pub record IsCut (before : List Event) (limit : ℕ) (start : Machine) (file : List ℕ) (state : State) : Type 0 where
  pub unmet : (history before limit start).met ≡ false
  pub saved : file ≡ saved_bytes (history before limit start).machine
  pub read : IsResumable file state

-- A history is a first one and then a second: it has the records of both in that order, and the second's last state, with its steps, and
-- answer on the limit.
pub record IsJoined (whole first second : History) : Type 0 where
  pub records : whole.records ≡ first.records ++ second.records
  pub last : whole.machine ≡ second.machine
  pub met : whole.met ≡ second.met
