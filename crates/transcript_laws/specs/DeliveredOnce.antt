-- What the records of a run tell of how often a message is delivered, forwarded and returned.
use Rattle.std.specs.Prelude.{◌≡◌, ℕ, ◌+◌, ◌≤◌, ◌||◌, true, false, if◌then◌else◌, List, [], ◌∷◌, ◌++◌, map}
use Rattle.std.specs.Bool.{⊤}
use Rattle.xk_base.specs.declared.ids.Number.{Number}
use Rattle.xk_base.specs.declared.records.Rec.{Rec}
use Rattle.xk_base.specs.declared.records.What.{What}
use Rattle.machine_laws.specs.Records.{records_of}
use Rattle.machine_model.specs.Runs.Moments.{Moment}
use Rattle.machine_model.specs.State.Machine.{Machine}
use Rattle.transcript_laws.specs.Following.{Held, Over, Queued, Standing, Stands, Unsent, is_delivery_of, is_forward_of}
use Rattle.transcript_laws.specs.Following.{is_last_delivery_of, is_return_of, moves}

-- ---- counts

-- so many records deliver the message
unfoldable pub deliveries_in : Number → List What → ℕ
deliveries_in number [] = 0
deliveries_in number (what ∷ told) = (if is_delivery_of number what then 1 else 0) + deliveries_in number told

-- .. so many are forwards of it that were served
unfoldable pub forwards_in : Number → List What → ℕ
forwards_in number [] = 0
forwards_in number (what ∷ told) = (if is_forward_of number what told then 1 else 0) + forwards_in number told

-- .. and so many returns of it that were served
unfoldable pub returns_in : Number → List What → ℕ
returns_in number [] = 0
returns_in number (what ∷ told) = (if is_return_of number what told then 1 else 0) + returns_in number told

-- one where it can be delivered without another forward
abbrev pub due : Standing → ℕ
due Unsent = 1
due Queued = 1
due Held = 0
due Over = 0

-- one where it is held
abbrev pub in_hand : Standing → ℕ
in_hand Unsent = 0
in_hand Queued = 0
in_hand Held = 1
in_hand Over = 0

-- ---- order

-- one of the records is a forward of the message, and was served, as those behind it tell
pub record HasForward (number : Number) (told later : List What) : Type 0 where
  pub before : List What
  pub what : What
  pub behind : List What
  pub here : told ≡ before ++ (what ∷ behind)
  pub forwards : is_forward_of number what (behind ++ later) ≡ true

-- none of the records delivers the message, forwards it or returns it
unfoldable pub IsSilent : Number → List What → Type 0
IsSilent number [] = ⊤
IsSilent number (what ∷ told) = (moves number what told ≡ false) × IsSilent number told

-- ---- the law

-- of a message that stands so before the records
pub record AreDeliveriesOnce (number : Number) (told : List What) (first : Standing) : Type 0 where
  -- it is delivered at most once for its send and once for each forward
  pub deliveries : deliveries_in number told ≤ due first + forwards_in number told
  -- it is forwarded or returned at most once for each delivery
  pub passed_on : forwards_in number told + returns_in number told ≤ in_hand first + deliveries_in number told
  -- it is returned at most once
  pub returns : returns_in number told ≤ 1
  -- between two deliveries stands a forward
  pub between : (before between later : List What) (one two : What) → told ≡ before ++ (one ∷ between ++ (two ∷ later))
      → is_delivery_of number one ≡ true → is_delivery_of number two ≡ true → HasForward number between (two ∷ later)
  -- and behind a return, or the delivery of a message without an answer, stands nothing more of it
  pub ended : (before later : List What) (what : What) → told ≡ before ++ (what ∷ later)
      → (is_return_of number what later || is_last_delivery_of number what) ≡ true → IsSilent number later

abbrev pub DeliveredOnce : Machine → List Moment → Type 0
DeliveredOnce start moments =
    (number : Number) (first : Standing) → Stands number start first
    → AreDeliveriesOnce number (map (λ (rec : Rec). rec.what) (records_of start moments)) first
