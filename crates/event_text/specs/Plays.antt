-- How a reader is used: bytes are fed in any pieces, the end of the file is said, and events are asked for, in any order.
use Rattle.std.specs.Prelude.{◌≡◌, ℕ, ◌+◌, Bool, true, false, List, [], ◌∷◌, ◌++◌}
use Rattle.xk_base.specs.declared.events.Event.{Event}
use Rattle.event_text.specs.declared.event.NextEvent.{NextEvent}
use Rattle.event_text.specs.declared.event.NextEvent.TheVariants as answer
use Rattle.event_text.specs.Lines.{lines_of}
use Rattle.event_text.specs.EventFile.{Input, input_from}
use Rattle.event_text.specs.Held.{Reader, new_reader, with_bytes, answer_of, after_next}

-- a call of a reader: bytes that it takes, the end of the file, or a question for the next event
pub data Call : Type 0 where
  takes : List ℕ → Call
  ends : Call
  asks : Call

-- a reader after some calls, with all bytes that it took and all events that it answered
pub record Play : Type 0 where
  pub reader : Reader
  pub taken : List ℕ
  pub answered : List Event

-- the event of an answer, if it is one
abbrev pub events_in : NextEvent → List Event
events_in (answer.Event event) = event ∷ []
events_in answer.More = []
events_in (answer.Bad number) = []
events_in answer.End = []

-- the reader once the end of the file was said
abbrev pub finished_reader : Reader → Reader
finished_reader r = record { lines_done = r.lines_done; start = r.start; held = r.held; finished = true }

-- no bytes are fed once the end was said
abbrev pub after_bytes : Bool → List ℕ → Play → Play
after_bytes true bytes play = play
after_bytes false bytes play =
    record { reader = with_bytes play.reader bytes; taken = play.taken ++ bytes; answered = play.answered }

-- a play after one more call
abbrev pub after_call : Call → Play → Play
after_call (takes bytes) play = after_bytes play.reader.finished bytes play
after_call ends play = record { reader = finished_reader play.reader; taken = play.taken; answered = play.answered }
after_call asks play =
    record { reader = after_next play.reader; taken = play.taken; answered = play.answered ++ events_in (answer_of play.reader) }

-- a new reader after the calls, the last of which stands first
unfoldable pub play_of : List Call → Play
play_of [] = record { reader = new_reader; taken = []; answered = [] }
play_of (call ∷ calls) = after_call call (play_of calls)

-- what the lines from the first line held on ask for, where these bytes follow those held
unfoldable pub left_of : Reader → List ℕ → Input
left_of r more = input_from r.start (r.lines_done + 1) (lines_of (r.held ++ more))

-- the same with events before it
abbrev pub with_events : List Event → Input → Input
with_events events input = record { events = events ++ input.events; bad = input.bad }

-- what may follow the bytes that were taken: nothing, once the end was said
abbrev pub MayFollow : Play → List ℕ → Type 0
MayFollow play more = play.reader.finished ≡ true → more ≡ []
