-- The room for pages in RAM, and runs that have more pages than there is room for.
use Rattle.std.specs.Prelude.{◌<◌, ℕ, List}
use Rattle.ledger_model.specs.Ledger.{pages}
use Rattle.machine_model.specs.Runs.Moments.{Moment, state_at}
use Rattle.machine_model.specs.State.Machine.{Machine}

-- the room for pages in RAM: how many frames there are for them, of a memory for so many processes
pub record Room : Type 0 where
  pub frames : ℕ
  pub processes : ℕ

-- the state has more pages than there are frames for
abbrev pub IsFull : Room → Machine → Type 0
IsFull room machine = room.frames < pages room.processes machine.ledger

-- some state of a run has: its start, or the state after one of its moments
abbrev pub ComesFull : Room → Machine → List Moment → Type 0
ComesFull room start moments = (i : ℕ) × IsFull room (state_at start moments i)
