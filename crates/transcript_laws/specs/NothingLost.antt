-- Where each message is in the end.
use Rattle.std.specs.Prelude.{◌≡◌, ◌<◌, ◌⊎◌, Bool, true, ◌||◌, List, ◌∷◌, ◌++◌, length, map}
use Rattle.xk_base.specs.declared.ids.Number.{Number}
use Rattle.xk_base.specs.declared.records.Rec.{Rec}
use Rattle.xk_base.specs.declared.records.What.{What}
use Rattle.machine_laws.specs.Records.{records_of}
use Rattle.machine_model.specs.Runs.Moments.{Moment, state_at}
use Rattle.machine_model.specs.State.Machine.{Machine}
use Rattle.transcript_laws.specs.Following.{Held, Over, Queued, Standing, Stands, is_end_in, is_last_delivery_of, is_return_of}

-- the message stands in exactly one way
pub record StandsOnce (number : Number) (m : Machine) : Type 0 where
  pub standing : Standing
  pub stands : Stands number m standing
  pub only : (other : Standing) → Stands number m other → other ≡ standing

-- a record with those behind it can end the message: it is returned, it is delivered and has no answer, or a server or a process ends
abbrev pub is_ending_of : Number → What → List What → Bool
is_ending_of number what later = is_return_of number what later || (is_last_delivery_of number what || is_end_in what later)

-- one of the records does
pub record HasEnding (number : Number) (told : List What) : Type 0 where
  pub before : List What
  pub what : What
  pub later : List What
  pub here : told ≡ before ++ (what ∷ later)
  pub ends : is_ending_of number what later ≡ true

-- the message is at a server
abbrev pub IsAtServer : Number → Machine → Type 0
IsAtServer number m = Stands number m Queued ⊎ Stands number m Held

-- Each message that was accepted is queued or held in the end, was over at the start, or was ended by one of the records.
abbrev pub NothingIsLost : Machine → List Moment → Type 0
NothingIsLost start moments =
    (number : Number) → number.0 < (state_at start moments (length moments)).next_number
    → IsAtServer number (state_at start moments (length moments))
    ⊎ (Stands number start Over ⊎ HasEnding number (map (λ (rec : Rec). rec.what) (records_of start moments)))
