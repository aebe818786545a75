-- A reader of an event file, as contracts see it, and what it answers.
use Rattle.std.specs.Prelude.{◌≡◌, ℕ, ◌+◌, ◌≤◌, ◌==◌, ◌||◌, ◌&&◌, nat_lt, not, Bool, true, false, List, [], ◌∷◌, ◌++◌, length, drop, Option}
use Rattle.std.specs.Prelude.{Some, None, if◌then◌else◌}
use Rattle.xk_base.specs.declared.limits.TheConstants.{EVENT_FILE_LIMIT, EVENT_LINE_LIMIT}
use Rattle.std.specs.List.{list_any}
use Rattle.event_text.specs.declared.event.Line.{Line}
use Rattle.event_text.specs.declared.event.Line.TheVariants as kind
use Rattle.event_text.specs.declared.event.NextEvent.{NextEvent}
use Rattle.event_text.specs.declared.event.NextEvent.TheVariants as answer
use Rattle.event_text.specs.Lines.{lines_of, is_last}
use Rattle.event_text.specs.EventFile.{line_at, is_over}

-- the number of lines done, the offset of the first byte held, the bytes held, and whether the end of the file was said;
-- the first bad line, where one is known, follows from these (`known_bad`)
pub record Reader : Type 0 where
  pub lines_done : ℕ
  pub start : ℕ
  pub held : List ℕ
  pub finished : Bool

-- a reader at the start of a file
abbrev pub new_reader : Reader
new_reader = record { lines_done = 0; start = 0; held = []; finished = false }

-- the reader that holds these bytes too
abbrev pub with_bytes : Reader → List ℕ → Reader
with_bytes r bytes = record { lines_done = r.lines_done; start = r.start; held = r.held ++ bytes; finished = r.finished }

-- the first of the lines, and nothing where there is none
abbrev pub first_of : List (List ℕ) → List ℕ
first_of [] = []
first_of (line ∷ lines) = line

-- the first line held, as far as it is held
unfoldable pub first_line : List ℕ → List ℕ
first_line held = first_of (lines_of held)

-- one of the bytes is a line feed (10)
abbrev pub has_feed : List ℕ → Bool
has_feed line = list_any (λ byte. byte == 10) line

-- The line held can have one byte more: it has no line feed yet, and at most 64 bytes.
abbrev pub can_grow : Reader → Bool
can_grow r = nat_lt (length r.held) (EVENT_LINE_LIMIT + 1) && not (is_last 10 r.held)

-- A line is whole where its line feed is held, and where some of it is held and the file has ended.
abbrev pub is_whole : Bool → List ℕ → Bool
is_whole finished [] = false
is_whole finished (byte ∷ bytes) = finished || has_feed (byte ∷ bytes)

-- What is known of the line that begins so: of a whole line, what it is; of a line that isn't whole, that it is bad
-- where it is too long already or has a byte too far in the file.
unfoldable pub known_line : Bool → ℕ → List ℕ → Option Line
known_line finished start held =
    if is_whole finished held then Some (line_at start held)
    else if is_over start held then Some kind.Bad
    else None

-- what is known of the first line held
unfoldable pub front_of : Reader → Option Line
front_of r = known_line r.finished r.start (first_line r.held)

-- a whole line that is good
abbrev pub is_good : Option Line → Bool
is_good None = false
is_good (Some kind.Blank) = true
is_good (Some (kind.Asks event)) = true
is_good (Some kind.Bad) = false

-- the number of the first bad line, where it is known
abbrev pub bad_by : Option Line → ℕ → Option ℕ
bad_by None number = None
bad_by (Some kind.Blank) number = None
bad_by (Some (kind.Asks event)) number = None
bad_by (Some kind.Bad) number = Some number

-- the number of the first line held, where it is known to be bad
abbrev pub known_bad : Reader → Option ℕ
known_bad r = bad_by (front_of r) (r.lines_done + 1)

-- A reader that can't answer: no whole line is held, no bad line is known, and the end of the file wasn't said.
abbrev pub IsWaiting : Reader → Type 0
IsWaiting r = (front_of r ≡ None) × (r.finished ≡ false)

-- the reader behind the first line held
abbrev pub past_line : Reader → Reader
past_line r = record {
  lines_done = r.lines_done + 1;
  start = r.start + length (first_line r.held);
  held = drop (length (first_line r.held)) r.held;
  finished = r.finished;
}

-- one reader where a good line that is no event is known, and the other where it isn't
abbrev pub if_blank : Option Line → Reader → Reader → Reader
if_blank None past here = here
if_blank (Some kind.Blank) past here = past
if_blank (Some (kind.Asks event)) past here = here
if_blank (Some kind.Bad) past here = here

-- the reader behind the good lines at the front, at most as many as the list has, that are no event
unfoldable pub past_blanks_by : List (List ℕ) → Reader → Reader
past_blanks_by [] r = r
past_blanks_by (line ∷ lines) r = if_blank (front_of r) (past_blanks_by lines (past_line r)) r

-- the reader behind all good lines at the front that are no event
unfoldable pub past_blanks : Reader → Reader
past_blanks r = past_blanks_by (lines_of r.held) r

-- the answer where nothing is known of a line
abbrev pub rest_answer : Bool → NextEvent
rest_answer finished = if finished then answer.End else answer.More

-- The answer by what is known of the first line held, once no good line at the front is no event.
abbrev pub answer_by : Option Line → Reader → NextEvent
answer_by None r = rest_answer r.finished
answer_by (Some kind.Blank) r = answer.More
answer_by (Some (kind.Asks event)) r = answer.Event event
answer_by (Some kind.Bad) r = answer.Bad (r.lines_done + 1)

-- the reader behind the line of an event
abbrev pub past_event : Option Line → Reader → Reader
past_event None r = r
past_event (Some kind.Blank) r = r
past_event (Some (kind.Asks event)) r = past_line r
past_event (Some kind.Bad) r = r

-- what a reader answers when it is asked for the next event
abbrev pub answer_of : Reader → NextEvent
answer_of r = answer_by (front_of (past_blanks r)) (past_blanks r)

-- .. and the reader after that: it is behind the line of the event that it answered
abbrev pub after_next : Reader → Reader
after_next r = past_event (front_of (past_blanks r)) (past_blanks r)

-- The fields of a reader: they hold one line at most, and it begins at most at the end of the greatest file.
pub record IsHeld (lines_done start : ℕ) (held : List ℕ) : Type 0 where
  pub lines_within : lines_done ≤ start
  pub start_within : start ≤ EVENT_FILE_LIMIT
  pub one_line : first_line held ≡ held
