-- The events of an event file.
use Rattle.std.specs.Prelude.{ℕ, ◌+◌, ◌==◌, ◌&&◌, ◌||◌, nat_eq, nat_lt, Bool, List, [], ◌∷◌, length, Option, Some, None, if◌then◌else◌}
use Rattle.std.specs.Prelude.{codes, slice_index}
use Rattle.std.specs.Cmp.Lexicographic.{pointwise}
use Rattle.std.specs.Option.{option_map}
use Rattle.xk_base.specs.declared.limits.TheConstants.{EVENT_LINE_LIMIT, EVENT_FILE_LIMIT}
use Rattle.xk_base.specs.declared.events.Event.{Event}
use Rattle.xk_base.specs.declared.events.Event.TheVariants.{Tick, Pick, Irq, Kill}
use Rattle.event_text.specs.declared.event.Line.{Line}
use Rattle.event_text.specs.declared.event.Line.TheVariants.{Blank, Asks, Bad}
use Rattle.event_text.specs.Lines.{lines_of, without_last, text_of, words_of, number_up_to}

-- the number of the only word, if it is at most `most`
abbrev pub only_number : ℕ → List (List ℕ) → Option ℕ
only_number most [] = None
only_number most (word ∷ []) = number_up_to most word
only_number most (word ∷ other ∷ words) = None

-- a pid and a tid
abbrev pub pick_by : Option ℕ → Option ℕ → Option Event
pick_by None tid = None
pick_by (Some pid) None = None
pick_by (Some pid) (Some tid) = Some (Pick (record { 0 = pid }) (record { 0 = tid }))

-- two words, each a number of 0 to 255
abbrev pub pick_of : List (List ℕ) → Option Event
pick_of [] = None
pick_of (pid ∷ []) = None
pick_of (pid ∷ tid ∷ []) = pick_by (number_up_to 255 pid) (number_up_to 255 tid)
pick_of (pid ∷ tid ∷ other ∷ words) = None

-- The event that a first word and the words after it ask for: `tick N`, `pick P T`, `irq K` or `kill P`. N is at most
-- 4294967295, P and T at most 255, and K at most 31.
unfoldable pub event_of : List ℕ → List (List ℕ) → Option Event
event_of word words =
    if pointwise nat_eq word (codes "tick") then option_map Tick (only_number 4294967295 words)
    else if pointwise nat_eq word (codes "pick") then pick_of words
    else if pointwise nat_eq word (codes "irq") then option_map Irq (only_number 31 words)
    else if pointwise nat_eq word (codes "kill") then option_map (λ pid. Kill (record { 0 = pid })) (only_number 255 words)
    else None

-- a line by the event that it asks for: bad where it asks for none
abbrev pub line_by : Option Event → Line
line_by None = Bad
line_by (Some event) = Asks event

-- A line without words is good and no event, and so is one whose first byte after spaces is `#` (35). Any other line
-- asks for an event, or is bad.
abbrev pub line_of_words : List (List ℕ) → Line
line_of_words [] = Blank
line_of_words (word ∷ words) = if slice_index word 0 == 35 then Blank else line_by (event_of word words)

-- what the line with this text is
abbrev pub line_of_text : List ℕ → Line
line_of_text text = line_of_words (words_of text)

-- more than 64 bytes before the line feed, or before the end of the file; a carriage return counts
abbrev pub is_long : List ℕ → Bool
is_long line = nat_lt EVENT_LINE_LIMIT (length (without_last 10 line))

-- one of the bytes, the line feed among them, has an offset of 1,073,741,824 or more in the file
abbrev pub is_far : ℕ → List ℕ → Bool
is_far start line = nat_lt 0 (length line) && nat_lt EVENT_FILE_LIMIT (start + length line)

-- a line is bad by its length or by an offset
abbrev pub is_over : ℕ → List ℕ → Bool
is_over start line = is_long line || is_far start line

-- what the line is whose first byte has the offset `start` in the file
unfoldable pub line_at : ℕ → List ℕ → Line
line_at start line = if is_over start line then Bad else line_of_text (text_of line)

-- what a file asks for: the events up to the first bad line, and the number of that line or none
pub record Input : Type 0 where
  pub events : List Event
  pub bad : Option ℕ

-- what a line and those after it ask for, by what the line is and by its number
abbrev pub after_line : Line → ℕ → Input → Input
after_line Blank number rest = rest
after_line (Asks event) number rest = record { events = event ∷ rest.events; bad = rest.bad }
after_line Bad number rest = record { events = []; bad = Some number }

-- what lines ask for, the first of which has this offset and this number
unfoldable pub input_from : ℕ → ℕ → List (List ℕ) → Input
input_from start number [] = record { events = []; bad = None }
input_from start number (line ∷ lines) =
    after_line (line_at start line) number (input_from (start + length line) (number + 1) lines)

-- what a whole file asks for; its lines are numbered from 1
abbrev pub input_of : List ℕ → Input
input_of bytes = input_from 0 1 (lines_of bytes)
