-- What an accepted send does to pages: a lend lends them, a move moves them, and any other leaves them.
use Rattle.std.proofs.Common.{◌≡◌, ℕ, Bool, true, false, List, [], ◌∷◌, Option, Some, None, is_none, refl, sym, ap, ◌∙◌}
use Rattle.std.specs.Prelude.{unwrap_or}
use Rattle.std.specs.Option.{option_and_then, option_map_or}
use Rattle.std.proofs.lemmas.Bool.{false≢true}
use Rattle.xk_base.specs.declared.errors.XousError.TheVariants.{ServerQueueFull}
use Rattle.xk_base.specs.declared.ids.Number.{Number}
use Rattle.xk_base.specs.declared.ids.Place.{Place}
use Rattle.xk_base.specs.declared.ids.Serial.{Serial}
use Rattle.xk_base.specs.declared.ids.ThreadId.{ThreadId}
use Rattle.xk_base.specs.declared.ids.Vpn.{Vpn}
use Rattle.xk_base.specs.declared.messages.MsgKind.{MsgKind}
use Rattle.xk_base.specs.declared.messages.MsgKind.TheVariants.{BlockingScalar, Lend, LendMut, Move, Scalar}
use Rattle.xk_base.specs.declared.pages.LoanKind.{LoanKind}
use Rattle.xk_base.specs.declared.pages.LoanKind.TheVariants.{Exclusive, Shared}
use Rattle.syscall_codec.specs.CallWords.{call_number, send_address, send_cid}
use Rattle.xk_base.specs.Calls.Kinds.{is_answered}
use Rattle.xk_base.specs.Tables.Connections.{connected_to}
use Rattle.ledger_model.specs.Ledger.{Ledger, PageLoan}
use Rattle.ledger_model.specs.Places.{in_run, moved}
use Rattle.ledger_model.specs.Steps.{lend, with_loan}
use Rattle.ledger_model.proofs.PlaceLemmas.{in_run-true}
use Rattle.machine_model.specs.Calling.MemoryCalls.{caller_place}
use Rattle.machine_model.specs.Messaging.Messages.{carries_pages, loan_kind, new_number}
use Rattle.machine_model.specs.Messaging.SendCalls.{arrival, arrival_refusals, is_full_for, named_kind, send_refusals, sender_left, sends_pages, sent_ledger, sent_pages, sent_place, with_sent}
use Rattle.machine_model.specs.Runs.LoanSpan.{is_send}
use Rattle.machine_model.specs.State.Changes.{first_refusal}
use Rattle.machine_model.specs.State.Connections.{own_connections}
use Rattle.machine_model.specs.State.Machine.{Machine, Server}
use Rattle.machine_model.specs.State.Servers.{server_at}
use Rattle.machine_model.specs.Stepping.Acts.{is_call_served}
use Rattle.machine_laws.proofs.Threading.ThreadStepLemmas.{turned_to}
use Rattle.call_effects.specs.Rows.MessageRows.{send_row, sent_to_row, try_send_row}
use Rattle.call_effects.proofs.ServedLemmas.{OfPlan, done}
use Rattle.confidentiality_laws.proofs.Keeping.CallLemmas.{none_hold}
use Rattle.confidentiality_laws.proofs.Keeping.MemoryCallLemmas.{HasNoHome}
use Rattle.noninterference_laws.proofs.Seeing.RowLemmas.{first_none, to_free}
use Rattle.loan_laws.proofs.Fates.SendFateLemmas.{IsSendable, sendable}
use Rattle.loan_laws.proofs.Fates.ServedFateLemmas.{IsCaller, served_call}
use Rattle.lifetime_laws.specs.Causes.{IsSentBy}
use Rattle.lifetime_laws.specs.Deeds.{Lending, Lent}
use Rattle.lifetime_laws.specs.Lives.{PagesLive}
use Rattle.lifetime_laws.proofs.Lives.GivenLemmas.{given_lives}
use Rattle.lifetime_laws.proofs.Lives.MemoryLemmas.{changed_lives}
use Rattle.lifetime_laws.proofs.Lives.ServedLemmas.{HasServedLife, same_pid, stepped, unlent_page}
use Rattle.lifetime_laws.proofs.Lives.TurnLemmas.{left_lives}

-- ---- the server that a connection leads to

pub record HasReceiver (m : Machine) (cid : ℕ) : Type 0 where
  pub serial : Serial
  pub server : Server
  pub connection : connected_to (own_connections m) cid ≡ Some serial
  pub live : m.servers serial.0 ≡ Some server
  pub found : server_at m cid ≡ Some server

pub receiver_of : (m : Machine) (cid : ℕ) → is_none (server_at m cid) ≡ false → HasReceiver m cid
receiver_of m cid there = go (connected_to (own_connections m) cid) refl there
  where
    of_serial : (serial : Serial) → connected_to (own_connections m) cid ≡ Some serial → (o : Option Server) → m.servers serial.0 ≡ o
        → is_none o ≡ false → HasReceiver m cid
    of_serial serial e None f g = absurd (false≢true (sym g))
    of_serial serial e (Some server) f g = record {
      serial = serial;
      server = server;
      connection = e;
      live = f;
      found = ap (λ o. option_and_then (λ (x : Serial). m.servers x.0) o) e ∙ f;
    }

    go : (o : Option Serial) → connected_to (own_connections m) cid ≡ o → is_none (option_and_then (λ (x : Serial). m.servers x.0) o) ≡ false
        → HasReceiver m cid
    go None e f = absurd (false≢true (sym f))
    go (Some serial) e f = of_serial serial e (m.servers serial.0) refl f

-- ---- an accepted send

waits_ledger : (waits : Bool) (number : Number) (x : Machine) → (sender_left waits number x).ledger ≡ x.ledger
waits_ledger true number x = refl
waits_ledger false number x = refl

module _ (m : Machine) (who : ThreadId) (w : List ℕ) (calls : IsCaller m who w) (sends : is_send (call_number w) ≡ true)
    (can : IsSendable (turned_to who m) w) (receiver : HasReceiver (turned_to who m) (send_cid w)) where
  abbrev here : Machine
  here = turned_to who m

  abbrev from : Place
  from = caller_place here (send_address w)

  abbrev size : ℕ
  size = sent_pages w

  module _ (after : Machine) (accepted : is_call_served m who w ≡ true) (first : Vpn) where
    abbrev to : Place
    to = sent_place here w first

    sent_by : (kind : MsgKind) → named_kind w ≡ Some kind → (p q : Place) → p.pid.0 ≡ from.pid.0 → q.pid.0 ≡ to.pid.0
        → IsSentBy p.pid q.pid kind (new_number m) m (stepped after)
    sent_by kind named p q own there = record {
      words = w;
      served = served_call m who w after p.pid calls accepted (same_pid who.pid p.pid (sym own));
      sends = sends;
      of_kind = named;
      serial = receiver.serial;
      server = receiver.server;
      connection = ap (λ k. connected_to (m.process k).connections (send_cid w)) own ∙ receiver.connection;
      live = receiver.live;
      receives = same_pid receiver.server.pid q.pid
          (sym (there ∙ ap (λ o. (option_map_or (λ (x : Server). x.pid) o here.cursor.pid).0) receiver.found));
      taken = refl;
    }

    -- the loan of the page at a place of the run
    abbrev loan_of_page : LoanKind → Place → PageLoan
    loan_of_page loan p = record { holder = moved from to p; kind = loan; number = new_number m }

    lent_lives : (kind : MsgKind) (loan : LoanKind) → loan_kind kind ≡ Some loan → can.kind ≡ kind → carries_pages kind ≡ true
        → after.ledger ≡ lend from size to loan (new_number m) m.ledger → PagesLive m (stepped after)
    unfolding lend
    lent_lives kind loan lends same carries is =
        changed_lives m (stepped after) (in_run from size) (λ q. ap (λ (l : Ledger). l.orphan q) is) (λ p. with_loan (loan_of_page loan p))
        (λ p. ap (λ (l : Ledger). l.home p) is)
        (λ p page inside there now. (
          Lending (new_number m),
          Lent p page (loan_of_page loan p) kind there
              (unlent_page m.ledger p page there (can.clear (ap carries_pages same ∙ carries) p inside)) now lends
              (sent_by kind (can.named ∙ ap (λ k. Some k) same) p (moved from to p) (in_run-true from size p inside).pid refl),
        ))

    sent_lives : (sends_pages w ≡ true → HasNoHome m.ledger to size) → (kind : MsgKind) → can.kind ≡ kind
        → after.ledger ≡ sent_ledger kind from size to (new_number m) m.ledger → PagesLive m (stepped after)
    sent_lives free LendMut same is = lent_lives LendMut Exclusive refl same refl is
    sent_lives free Lend same is = lent_lives Lend Shared refl same refl is
    sent_lives free Move same is =
        given_lives m (stepped after) from size to (new_number m) is
        (free (ap (λ o. option_map_or carries_pages o false) can.named ∙ ap carries_pages same))
        (λ p page inside there. unlent_page m.ledger p page there (can.clear (ap carries_pages same) p inside))
        (sent_by Move (can.named ∙ ap (λ k. Some k) same))
    sent_lives free Scalar same is = left_lives m (stepped after) is
    sent_lives free BlockingScalar same is = left_lives m (stepped after) is

  arrival_lives : OfPlan (λ plan. HasServedLife m who w (done here plan)) (sent_to_row here w)
  arrival_lives = λ found after like accepted.
      let kind = unwrap_or (named_kind w) Scalar in
      let first = unwrap_or (arrival here w) (record { 0 = 0 }) in
      sent_lives after accepted first
      (λ carries. to_free (λ n. true) here w carries (none_hold (arrival_refusals w (arrival here w)) found).0) kind
      (sym (ap (λ o. unwrap_or o Scalar) can.named))
      (like.ledger ∙ waits_ledger (is_answered kind) (new_number here) (with_sent here kind from size (sent_place here w first)))

-- ---- the calls

module _ (m : Machine) (who : ThreadId) (w : List ℕ) (calls : IsCaller m who w) (sends : is_send (call_number w) ≡ true) where
  abbrev at : Machine
  at = turned_to who m

  pub send_lives : OfPlan (λ plan. HasServedLife m who w (done at plan)) (send_row at w)
  send_lives = λ none accepts.
      arrival_lives m who w calls sends (sendable at w none) (receiver_of at (send_cid w) (none_hold (send_refusals at w) none).0)

  pub try_send_lives : OfPlan (λ plan. HasServedLife m who w (done at plan)) (try_send_row at w)
  try_send_lives = λ none.
      let first : first_refusal (send_refusals at w) ≡ None =
      first_none (λ n. true) (send_refusals at w) ((is_full_for at w, ServerQueueFull) ∷ []) none in
      arrival_lives m who w calls sends (sendable at w first) (receiver_of at (send_cid w) (none_hold (send_refusals at w) first).0)
