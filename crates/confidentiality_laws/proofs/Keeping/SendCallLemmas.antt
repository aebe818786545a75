-- Sends and forwards change no byte: pages are lent, lent on, or moved to where none was.
use Rattle.std.proofs.lemmas.Option.{none-some}
use Rattle.machine_model.specs.State.Servers.{server_at}
use Rattle.syscall_codec.specs.CallWords.{send_address, forward_cid, send_cid}
use Rattle.xk_base.specs.Calls.Kinds.{is_answered}
use Rattle.machine_model.specs.Messaging.Messages.{carries_pages, new_number}
use Rattle.ledger_model.specs.Steps.{lend, pass}
use Rattle.machine_model.specs.Calling.MemoryCalls.{caller_place}
use Rattle.machine_model.specs.Messaging.ForwardCalls.{passed_number, held_place, next_arrival, passed_place, passable}
use Rattle.confidentiality_laws.specs.EmptyPlaces.{MovesToEmptyPlaces}
use Rattle.machine_model.specs.State.Machine.{Machine, Server}
use Rattle.std.proofs.Common.{◌≡◌, ℕ, Bool, true, false, List, Option, Some, None, refl, sym, ap, ◌∙◌, subst}
use Rattle.std.specs.Prelude.{◌&&◌, is_none, unwrap_or}
use Rattle.std.specs.Option.{option_and_then, option_map_or}
use Rattle.std.proofs.lemmas.Bool.{false≢true}
use Rattle.xk_base.specs.declared.ids.Number.{Number}
use Rattle.xk_base.specs.declared.ids.Place.{Place}
use Rattle.xk_base.specs.declared.ids.Vpn.{Vpn}
use Rattle.xk_base.specs.declared.messages.Message.{Message}
use Rattle.xk_base.specs.declared.messages.MsgKind.{MsgKind}
use Rattle.xk_base.specs.declared.messages.MsgKind.TheVariants.{LendMut, Lend, Move, Scalar, BlockingScalar}
use Rattle.xk_base.specs.declared.pages.LoanKind.TheVariants.{Shared, Exclusive}
use Rattle.xk_base.specs.declared.windows.Window.TheVariants.{Message as MessageWindow}
use Rattle.ledger_model.specs.Ledger.{Ledger}
use Rattle.machine_model.specs.Messaging.SendCalls.{arrival, arrival_refusals, message_run, named_kind, sender_left, sends_pages, sent_ledger, sent_pages, sent_place, with_sent}
use Rattle.call_effects.specs.Rows.MessageRows.{forward_row, passed_if, send_row, sent_to_row, try_send_row}
use Rattle.call_effects.proofs.ServedLemmas.{OfPlan}
use Rattle.confidentiality_laws.proofs.Keeping.CallLemmas.{PlanKeeps, RowKeeps, none_hold}
use Rattle.confidentiality_laws.proofs.Keeping.GivenPageLemmas.{give_keeps}
use Rattle.confidentiality_laws.proofs.Keeping.LedgerStepLemmas.{lend_only, pass_only}
use Rattle.confidentiality_laws.proofs.Keeping.MemoryCallLemmas.{HasNoHome, found_free}
use Rattle.confidentiality_laws.proofs.Keeping.StandingPageLemmas.{goes_keep, stays}

-- ---- what is sent

left_ledger : (waits : Bool) (number : Number) (m : Machine) → (sender_left waits number m).ledger ≡ m.ledger
left_ledger true number m = refl
left_ledger false number m = refl

-- only a move asks that its new homes are free
sent_keeps : (kind : MsgKind) (from : Place) (n : ℕ) (to : Place) (number : Number) (l : Ledger)
    → (kind ≡ Move → HasNoHome l to n)
    → MovesToEmptyPlaces l (sent_ledger kind from n to number l)
sent_keeps LendMut from n to number l free =
    goes_keep l (lend from n to Exclusive number l) (lend_only from n to Exclusive number l)
sent_keeps Lend from n to number l free = goes_keep l (lend from n to Shared number l) (lend_only from n to Shared number l)
sent_keeps Move from n to number l free = give_keeps from n to l (free refl)
sent_keeps Scalar from n to number l free = stays l
sent_keeps BlockingScalar from n to number l free = stays l

-- ---- where it arrives

module _ (m : Machine) (w : List ℕ) where
  -- the places of the run that is found are free, and of the server's process
  pub run_free : (server : Option Server) → server_at m (send_cid w) ≡ server → (o : Option Vpn)
      → option_and_then (message_run m (sent_pages w)) server ≡ o → is_none o ≡ false
      → HasNoHome m.ledger (sent_place m w (unwrap_or o (record { 0 = 0 }))) (sent_pages w)
  run_free server s None e some = absurd (false≢true (sym some))
  run_free None s (Some v) e some = absurd (none-some v e)
  run_free (Some server) s (Some v) e some =
      subst (λ pid. HasNoHome m.ledger (record { pid = pid; vpn = v }) (sent_pages w))
      (sym (ap (λ o. option_map_or (λ (x : Server). x.pid) o m.cursor.pid) s))
      (found_free m.processes m.ledger server.pid MessageWindow (sent_pages w) v e)

  move_free : (kind : Option MsgKind) → named_kind w ≡ kind → sends_pages w && is_none (arrival m w) ≡ false
      → unwrap_or kind Scalar ≡ Move
      → HasNoHome m.ledger (sent_place m w (unwrap_or (arrival m w) (record { 0 = 0 }))) (sent_pages w)
  unfolding arrival
  move_free None q e is = absurd (false≢true (ap carries_pages is))
  move_free (Some kind) q e is =
      run_free (server_at m (send_cid w)) refl (arrival m w) refl
      (ap (λ b. b && is_none (arrival m w)) (sym (ap (λ o. option_map_or carries_pages o false) q ∙ ap carries_pages is)) ∙ e)

  sent_to_keeps : OfPlan (PlanKeeps m) (sent_to_row m w)
  sent_to_keeps = λ none.
      let kind = unwrap_or (named_kind w) Scalar in
      let from = caller_place m (send_address w) in
      let to = sent_place m w (unwrap_or (arrival m w) (record { 0 = 0 })) in
      subst (MovesToEmptyPlaces m.ledger) (sym (left_ledger (is_answered kind) (new_number m) (with_sent m kind from (sent_pages w) to)))
      (sent_keeps kind from (sent_pages w) to (new_number m) m.ledger
      (move_free (named_kind w) refl (none_hold (arrival_refusals w (arrival m w)) none).0))

-- ---- the calls

pub send_keeps : RowKeeps send_row
send_keeps m w = λ none accepts. sent_to_keeps m w

pub try_send_keeps : RowKeeps try_send_row
try_send_keeps m w = λ none. sent_to_keeps m w

-- ---- ForwardMessage

passed_keeps : (m : Machine) (number : Number) (cid : ℕ) (first : Vpn) (o : Option Message) → OfPlan (PlanKeeps m) (passed_if m number cid first o)
passed_keeps m number cid first None = stays m.ledger
passed_keeps m number cid first (Some message) =
    let from = held_place m message in
    let to = passed_place m cid first in
    goes_keep m.ledger (pass message.number from to m.ledger) (pass_only message.number from to m.ledger)

pub forward_keeps : RowKeeps forward_row
forward_keeps m w = λ none found.
    let number = passed_number w in
    let cid = forward_cid w in
    passed_keeps m number cid (unwrap_or (next_arrival m number cid) (record { 0 = 0 })) (passable m number)
