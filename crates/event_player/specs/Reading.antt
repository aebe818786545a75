-- What becomes of the reader of an event file as its events are played.
use Rattle.std.specs.Prelude.{◌≡◌, ◌≢◌, ◌≤◌, ◌<◌, ◌+◌, ℕ, true, List, length, Option, Some, None, Result, Ok}
use Rattle.event_text.specs.Held.{IsWaiting, Reader}
use Rattle.xk_base.specs.declared.limits.TheConstants.{EVENT_FILE_LIMIT}
use Rattle.event_player.specs.declared.ending.Ending.{Ending}
use Rattle.event_player.specs.declared.ending.Ending.TheVariants as why
use Rattle.event_player.specs.declared.events.Advance.{Advance}
use Rattle.event_player.specs.declared.events.Advance.TheVariants.{Ended, Played, Waits}
use Rattle.event_player.specs.declared.events.PlayFault.{PlayFault}

-- it waits for bytes, of which the limit of event files leaves room
abbrev pub WaitsForBytes : Reader → Type 0
WaitsForBytes reader = IsWaiting reader × (reader.start + length reader.held ≤ EVENT_FILE_LIMIT)

-- how far in the file the bytes reach that it took
abbrev pub end_of_bytes : Reader → ℕ
end_of_bytes reader = reader.start + length reader.held

-- one answer: an event takes bytes that are held, no more are read, and all events were played only once the end was said
pub record Answers (old new : Reader) (result : Result Advance PlayFault) : Type 0 where
  pub fewer : result ≡ Ok Played → length new.held < length old.held
  pub waits : result ≡ Ok Waits → WaitsForBytes new
  pub offset : end_of_bytes new ≡ end_of_bytes old
  pub finished : new.finished ≡ old.finished
  pub end : result ≡ Ok (Ended why.Played) → new.finished ≡ true

-- all answers that it knows
pub record AnswersAll (old new : Reader) (result : Result (Option Ending) PlayFault) : Type 0 where
  pub waits : result ≡ Ok None → WaitsForBytes new
  pub offset : end_of_bytes new ≡ end_of_bytes old
  pub finished : new.finished ≡ old.finished
  pub end : result ≡ Ok (Some why.Played) → new.finished ≡ true

-- .. of a piece of the file, which isn't its end
pub record AnswersPiece (old new : Reader) (piece : List ℕ) (result : Result (Option Ending) PlayFault) : Type 0 where
  pub waits : result ≡ Ok None → WaitsForBytes new
  pub offset : result ≡ Ok None → end_of_bytes new ≡ end_of_bytes old + length piece
  pub unended : result ≢ Ok (Some why.Played)
