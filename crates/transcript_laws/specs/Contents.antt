-- What a delivered message has of its send.
use Rattle.std.specs.Prelude.{◌≡◌, ℕ, ◌≤◌, true, false, List, slice_get, slice_index, Some}
use Rattle.xk_base.specs.declared.ids.Number.{Number}
use Rattle.xk_base.specs.declared.ids.ThreadId.{ThreadId}
use Rattle.xk_base.specs.declared.records.Rec.{Rec}
use Rattle.xk_base.specs.declared.records.What.TheVariants.{Reply}
use Rattle.syscall_codec.specs.CallWords.{send_address, send_id, send_kind, send_length, send_offset, send_valid}
use Rattle.machine_laws.specs.Records.{records_by}
use Rattle.machine_model.specs.Messaging.SendCalls.{sends_pages}
use Rattle.machine_model.specs.Runs.Moments.{Moment, state_at}
use Rattle.machine_model.specs.State.Machine.{Machine}
use Rattle.transcript_laws.specs.Accepting.{AcceptsAt}
use Rattle.transcript_laws.specs.Following.{is_message_of}

-- the words of a delivered message are those of its send: its kind, the sender's id, and the four words; but where it carries pages the
-- first of these is the address at the receiver
pub record IsAsSent (sent delivered : List ℕ) : Type 0 where
  pub kind : slice_index delivered 2 ≡ send_kind sent
  pub id : slice_index delivered 3 ≡ send_id sent
  pub address : sends_pages sent ≡ false → slice_index delivered 4 ≡ send_address sent
  pub length : slice_index delivered 5 ≡ send_length sent
  pub offset : slice_index delivered 6 ≡ send_offset sent
  pub valid : slice_index delivered 7 ≡ send_valid sent

-- moment i of the run has a reply with these words
pub record RepliesAt (words : List ℕ) (start : Machine) (moments : List Moment) (i : ℕ) : Type 0 where
  pub moment : Moment
  pub there : slice_get moments i ≡ Some moment
  pub who : ThreadId
  pub place : ℕ
  pub record_there : Rec
  pub told : slice_get (records_by moment.cause (state_at start moments i)) place ≡ Some record_there
  pub is : record_there.what ≡ Reply who words

-- a message that a moment accepts and a later one delivers, or the same one, has the words of its send
abbrev pub DeliveredAsSent : Machine → List Moment → Type 0
DeliveredAsSent start moments =
    (number : Number) (i j : ℕ) (words : List ℕ) (accepted : AcceptsAt number start moments i) → i ≤ j → RepliesAt words start moments j
    → is_message_of number words ≡ true → IsAsSent accepted.accepts.words words
