-- Which send each message number is of: a number is given to one accepted send, and to nothing else.
use Rattle.std.specs.Prelude.{◌≡◌, ℕ, ◌+◌, ◌<◌, ◌≤◌, ◌⊎◌, true, List, length, slice_get, Some}
use Rattle.xk_base.specs.declared.ids.Number.{Number}
use Rattle.xk_base.specs.declared.ids.Pid.{Pid}
use Rattle.syscall_codec.specs.CallWords.{call_number}
use Rattle.machine_model.specs.Messaging.Messages.{new_number}
use Rattle.machine_model.specs.Runs.LoanSpan.{IsServedCallOf, is_send}
use Rattle.machine_model.specs.Runs.Moments.{Moment, state_at}
use Rattle.machine_model.specs.State.Machine.{Machine}

-- the moment is a send that is served, and its message gets the number
pub record Accepts (number : Number) (before : Machine) (moment : Moment) : Type 0 where
  pub pid : Pid
  pub words : List ℕ
  pub served : IsServedCallOf pid words before moment
  pub sends : is_send (call_number words) ≡ true
  pub taken : number ≡ new_number before

-- moment i of the run accepts the message of that number
pub record AcceptsAt (number : Number) (start : Machine) (moments : List Moment) (i : ℕ) : Type 0 where
  pub moment : Moment
  pub there : slice_get moments i ≡ Some moment
  pub accepts : Accepts number (state_at start moments i) moment

-- ---- one moment

-- an accepted send takes the next number, so that the one after it is next; nothing else moves it
pub record GivesNumbers (before : Machine) (moment : Moment) : Type 0 where
  pub given : (number : Number) → Accepts number before moment → moment.machine.next_number ≡ before.next_number + 1
  pub kept : (moment.machine.next_number ≡ before.next_number) ⊎ Accepts (new_number before) before moment

-- ---- a run

pub record AcceptedOnce (start : Machine) (moments : List Moment) : Type 0 where
  -- what is accepted later has a greater number
  pub ascending : (first second : Number) (i j : ℕ) → AcceptsAt first start moments i → AcceptsAt second start moments j → i < j
      → first.0 < second.0
  -- a number is that of at most one accepted send
  pub once : (number : Number) (i j : ℕ) → AcceptsAt number start moments i → AcceptsAt number start moments j → i ≡ j
  -- each number that was given in the run is that of one
  pub each : (number : Number) → start.next_number ≤ number.0 → number.0 < (state_at start moments (length moments)).next_number
      → (i : ℕ) × AcceptsAt number start moments i
