-- The message that a call brings to a server, and the one that it returns.
use Rattle.std.proofs.Common.{◌≡◌, ℕ, Bool, true, false, List, Option, Some, None, is_none, is_some, refl, sym, subst}
use Rattle.std.specs.Prelude.{unwrap_or}
use Rattle.std.specs.List.{Contains}
use Rattle.std.specs.Option.{option_and_then}
use Rattle.std.proofs.lemmas.Bool.{and_parts, false≢true}
use Rattle.std.proofs.lemmas.List.Elements.{Contains-get_or}
use Rattle.xk_base.specs.declared.ids.Serial.{Serial}
use Rattle.xk_base.specs.declared.ids.ThreadId.{ThreadId}
use Rattle.xk_base.specs.declared.ids.Vpn.{Vpn}
use Rattle.xk_base.specs.declared.messages.Message.{Message}
use Rattle.xk_base.specs.declared.messages.MsgKind.{MsgKind}
use Rattle.xk_base.specs.declared.messages.MsgKind.TheVariants.{Scalar}
use Rattle.syscall_codec.specs.CallNumbers.{forward_message}
use Rattle.syscall_codec.specs.CallWords.{call_number, forward_cid, send_cid}
use Rattle.xk_base.specs.Tables.Connections.{connected_to}
use Rattle.xk_base.specs.Tables.Sids.{serial_of}
use Rattle.ledger_model.proofs.LedgerLemmas.{same_number-true}
use Rattle.machine_model.specs.Messaging.ForwardCalls.{is_passable_of, passable, passed_number, passed_to, with_first}
use Rattle.machine_model.specs.Messaging.Messages.{is_lend, is_lend_of, is_of_number, new_message}
use Rattle.machine_model.specs.Messaging.ReturnCalls.{held_by_caller}
use Rattle.machine_model.specs.Messaging.SendCalls.{named_kind, sent_serial}
use Rattle.machine_model.specs.State.Connections.{own_connections}
use Rattle.machine_model.specs.State.Machine.{Machine}
use Rattle.machine_model.specs.State.Servers.{server_at}
use Rattle.machine_laws.proofs.Threading.ThreadStepLemmas.{turned_to}
use Rattle.machine_laws.proofs.Returning.GivenBackLemmas.{found_at}
use Rattle.call_effects.proofs.HeldLemmas.{is_held}
use Rattle.noninterference_laws.specs.Fates.{IsAtServerOf, IsBrought, IsSend, MadeCall, Passed, Sent}

module _ (m : Machine) (who : ThreadId) (w : List ℕ) where
  abbrev here : Machine
  here = turned_to who m

  abbrev made : MadeCall
  made = record { who = who; words = w }

  -- a server of the caller's process holds the message that is found
  pub held_there : (test : Message → Bool) (x : Message) → held_by_caller here test ≡ Some x
      → IsAtServerOf who.pid m (λ server. server.held) x × (test x ≡ true)
  held_there test x e =
      let held = is_held here test x e in
      let place = found_at test held.server.held x held.found in (
        record {
          serial = held.serial.0;
          server = held.server;
          live = held.there;
          own = held.own;
          there = subst (Contains held.server.held) place.3 (Contains-get_or held.server.held place.0 place.1 place.2);
        },
        held.passes,
      )

  -- where a connection leads to a living server, it leads to some
  pub leads : (cid : ℕ) → is_none (server_at here cid) ≡ false
      → connected_to (own_connections here) cid ≡ Some (unwrap_or (connected_to (own_connections here) cid) (serial_of 0))
  leads cid alive = go (connected_to (own_connections here) cid) alive
    where
      go : (o : Option Serial) → is_none (option_and_then (λ serial. m.servers serial.0) o) ≡ false → o ≡ Some (unwrap_or o (serial_of 0))
      go None e = absurd (false≢true (sym e))
      go (Some serial) e = refl

  pub sent_brought : (first : Vpn) → IsSend (call_number w) → is_none (named_kind w) ≡ false → is_none (server_at here (send_cid w)) ≡ false
      → IsBrought m made (sent_serial here w) (new_message here (unwrap_or (named_kind w) Scalar) w first)
  sent_brought first is some alive =
      Sent (unwrap_or (named_kind w) Scalar) first is (there (named_kind w) some) (leads (send_cid w) alive) refl
    where
      there : (o : Option MsgKind) → is_none o ≡ false → o ≡ Some (unwrap_or o Scalar)
      there None e = absurd (false≢true (sym e))
      there (Some kind) e = refl

  -- the server that a forward leads to
  abbrev pub onward : Serial
  onward = unwrap_or (passed_to here (forward_cid w)) (serial_of 0)

  pub passed_brought : (first : Vpn) → call_number w ≡ forward_message → is_none (server_at here (forward_cid w)) ≡ false → (message : Message)
      → passable here (passed_number w) ≡ Some message → IsBrought m made onward (with_first first message)
  passed_brought first is alive message e = Passed message first is numbered held.0 (leads (forward_cid w) alive) refl
    where
      held : IsAtServerOf who.pid m (λ server. server.held) message × (is_passable_of (passed_number w) message ≡ true)
      held = held_there (is_passable_of (passed_number w)) message e

      numbered : message.number ≡ passed_number w
      numbered =
          let lends = (and_parts (is_lend_of (passed_number w) message) (is_some message.sender) held.1).0 in
          same_number-true message.number (passed_number w) (and_parts (is_of_number (passed_number w) message) (is_lend message.kind) lends).0
