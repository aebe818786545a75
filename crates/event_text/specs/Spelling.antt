-- The lines of events.
use Rattle.std.specs.Prelude.{◌≡◌, ◌≤◌, ◌<◌, ◌^◌, ℕ, ◌++◌, List, [], ◌∷◌, None, codes, decimal, length}
use Rattle.std.specs.Bool.{⊤}
use Rattle.std.specs.List.{flat_map}
use Rattle.xk_base.specs.declared.events.Event.{Event}
use Rattle.xk_base.specs.declared.events.Event.TheVariants.{Tick, Pick, Irq, Kill}
use Rattle.xk_base.specs.declared.limits.TheConstants.{EVENT_FILE_LIMIT}
use Rattle.event_text.specs.EventFile.{input_of}

-- a space and a number
abbrev pub spaced : ℕ → List ℕ
spaced n = 32 ∷ decimal n

-- the text of the line of an event
abbrev pub event_text : Event → List ℕ
event_text (Tick n) = codes "tick" ++ spaced n
event_text (Pick pid tid) = codes "pick" ++ (spaced pid.0 ++ spaced tid.0)
event_text (Irq k) = codes "irq" ++ spaced k
event_text (Kill pid) = codes "kill" ++ spaced pid.0

-- .. and the line
abbrev pub event_line : Event → List ℕ
event_line event = event_text event ++ 10 ∷ []

abbrev pub event_lines : List Event → List ℕ
event_lines events = flat_map event_line events

-- A line can ask for the event: an interrupt has a number of 0 to 31, and the numbers fit.
abbrev pub IsAskable : Event → Type 0
IsAskable (Tick n) = n < 2 ^ 32
IsAskable (Pick pid tid) = (pid.0 < 2 ^ 8) × (tid.0 < 2 ^ 8)
IsAskable (Irq k) = k ≤ 31
IsAskable (Kill pid) = pid.0 < 2 ^ 8

unfoldable pub AreAskable : List Event → Type 0
AreAskable [] = ⊤
AreAskable (event ∷ events) = IsAskable event × AreAskable events

-- the file asks for exactly these events
abbrev pub AsksFor : List ℕ → List Event → Type 0
AsksFor bytes events = input_of bytes ≡ record { events = events; bad = None }

-- **Lines of events are read as these events**, in a file that isn't too long.
abbrev pub LinesAreRead : Type 0
LinesAreRead = (events : List Event) → AreAskable events → length (event_lines events) ≤ EVENT_FILE_LIMIT → AsksFor (event_lines events) events
