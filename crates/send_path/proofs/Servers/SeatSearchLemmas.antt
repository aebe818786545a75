-- The server at a seat, by its serial (server_table), and the message that is shown.
use Rattle.std.proofs.Common.{◌≡◌, Option, Some, None, refl}
use Rattle.std.specs.Option.{option_map}
use Rattle.std.proofs.lemmas.Option.{none-some, same_Some}
use Rattle.msg_queue.specs.Seats.{message_of}
use Rattle.msg_queue.specs.declared.held.Held.{Held}
use Rattle.xk_base.specs.declared.messages.Message.{Message}
pub use Rattle.server_table.proofs.SeatSearchLemmas.{FoundAt, found_seat, seat_found}

pub record IsShown (o : Option Held) (x : Message) : Type 0 where
  pub held : Held
  pub is : o ≡ Some held
  pub message : held.msg ≡ x

pub shown_message : (o : Option Held) (x : Message) → option_map message_of o ≡ Some x → IsShown o x
shown_message None x e = absurd (none-some x e)
shown_message (Some h) x e = record { held = h; is = refl; message = same_Some h.msg x e }
