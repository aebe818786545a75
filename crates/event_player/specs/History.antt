-- The history of an event file: the kernel's history of its events, and why it ended there.
use Rattle.std.specs.Prelude.{◌≡◌, ℕ, List, Option, Some, None, if◌then◌else◌}
use Rattle.event_text.specs.EventFile.{Input, input_of}
use Rattle.xk_base.specs.declared.records.Rec.{Rec}
use Rattle.machine_model.specs.State.Machine.{Machine}
use Rattle.event_player.specs.declared.ending.Ending.{Ending}
use Rattle.event_player.specs.declared.ending.Ending.TheVariants.{Played, LimitMet, BadLine}
use Rattle.machine_laws.specs.History as kernel

-- the records in order, the last state, and why it ended there
pub record History : Type 0 where
  pub records : List Rec
  pub machine : Machine
  pub ending : Ending

-- the kernel's history, which ends at the limit where that is met, and else in this way
abbrev pub with_ending : Ending → kernel.History → History
with_ending last h = record { records = h.records; machine = h.machine; ending = if h.met then LimitMet else last }

-- how a file ends: with all its lines, or at its first bad line
abbrev pub end_of : Option ℕ → Ending
end_of None = Played
end_of (Some line) = BadLine line

-- How a run over a file may end, whatever its events do: with all lines, where none is bad; at its first bad line; or at the step limit.
abbrev pub MayEnd : Input → Ending → Type 0
MayEnd input Played = input.bad ≡ None
MayEnd input (BadLine line) = input.bad ≡ Some line
MayEnd input LimitMet = Unit {0}

-- an event file: the history of the events before its first bad line, which ends at that line, or with the last event where there is none
abbrev pub history_of : Input → ℕ → Machine → History
history_of input limit m = with_ending (end_of input.bad) (kernel.history input.events limit m)

-- the history of a machine over the events of a file, up to a step limit
abbrev pub run_of : ℕ → Machine → List ℕ → History
run_of limit machine events = history_of (input_of events) limit machine
