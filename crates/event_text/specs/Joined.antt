-- Two event files behind one another.
use Rattle.std.specs.Prelude.{◌≡◌, ◌≤◌, ℕ, ◌+◌, List, ◌++◌, length, None}
use Rattle.std.specs.Option.{option_map}
use Rattle.xk_base.specs.declared.limits.TheConstants.{EVENT_FILE_LIMIT}
use Rattle.event_text.specs.EventFile.{Input, input_of}
use Rattle.event_text.specs.Lines.{lines_of, whole_lines}
use Rattle.event_text.specs.Plays.{with_events}

-- the same with the number of the bad line counted on behind so many lines
abbrev pub counted_on : ℕ → Input → Input
counted_on lines input = record { events = input.events; bad = option_map (λ line. line + lines) input.bad }

-- The bytes of the first are whole lines, and together the two aren't longer than an event file may be.
pub record CanJoin (before after : List ℕ) : Type 0 where
  pub whole : whole_lines before ≡ before
  pub short : length (before ++ after) ≤ EVENT_FILE_LIMIT

-- where the first has no bad line, they ask for the events of the first, and then for what the second asks for
abbrev pub JoinedAsk : Type 0
JoinedAsk =
    (before after : List ℕ) → CanJoin before after → (input_of before).bad ≡ None
    → input_of (before ++ after) ≡ with_events (input_of before).events (counted_on (length (lines_of before)) (input_of after))
