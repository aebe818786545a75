-- A served send reaches its server: its message is queued there, or goes to the thread that waits.
use Rattle.std.proofs.Common.{◌≡◌, ℕ, true, List, Option, sym, ap, ◌∙◌, subst}
use Rattle.std.specs.Prelude.{nat_eq}
use Rattle.std.specs.Option.{option_map}
use Rattle.xk_base.specs.declared.ids.Number.{Number}
use Rattle.syscall_codec.specs.CallWords.{call_number, send_address}
use Rattle.xk_base.specs.Calls.Kinds.{is_answered}
use Rattle.xk_base.specs.Tables.Counting.{put_at}
use Rattle.machine_model.specs.Calling.Calls.{call}
use Rattle.machine_model.specs.Calling.MemoryCalls.{caller_place}
use Rattle.machine_model.specs.Messaging.Messages.{new_message, new_number}
use Rattle.machine_model.specs.Messaging.Receivers.{receiver}
use Rattle.machine_model.specs.Messaging.SendCalls.{sent_pages, with_sent}
use Rattle.machine_model.specs.Runs.LoanSpan.{is_send}
use Rattle.machine_model.specs.Runs.Moments.{Moment, caused}
use Rattle.machine_model.specs.State.Changes.{Change, Served, call_settled}
use Rattle.machine_model.specs.State.Machine.{Machine, Server}
use Rattle.machine_model.specs.State.Servers.{change_server}
use Rattle.machine_laws.proofs.Threading.ThreadStepLemmas.{turned_to}
use Rattle.call_effects.specs.Effects.{arriving, at_server}
use Rattle.call_effects.proofs.ServedLemmas.{OfServed, done}
use Rattle.loan_laws.proofs.Fates.LikeLemmas.{call_like, served_like}
use Rattle.transcript_laws.specs.Accepting.{Accepts}
use Rattle.transcript_laws.proofs.AtServers.GivenUpLemmas.{of_served, served_turned}
use Rattle.transcript_laws.proofs.Following.SendLemmas.{sender_servers}
use Rattle.transcript_laws.proofs.CallKindLemmas.{of_kinds}
use Rattle.transcript_laws.proofs.CallKindUseLemmas.{sending_of}
use Rattle.transcript_laws.specs.CallKinds.{IsSending, place_at_server}
use Rattle.machine_model.proofs.Runs.KeptLemmas.{matched_at}
use Rattle.machine_model.specs.Runs.Matched.{Matched}

-- at the server that the caller's connection leads to
pub record Lands (m : Machine) (w : List ℕ) (next : Machine) : Type 0 where
  pub it : IsSending m w
  pub now : next.servers ≡ (change_server it.to.serial (at_server (arriving (receiver m it.to.serial) (new_message m it.kind w it.first))) m).servers

sent_lands : (m : Machine) → Matched m → (w : List ℕ) → is_send (call_number w) ≡ true → OfServed (λ change. Lands m w change.machine) (call m w)
sent_lands m h w is =
    of_kinds m h w (λ change. Lands m w change.machine) (λ plan kind.
    let of = sending_of m (call_number w) w plan kind is in
    let it = of.0 in
    let x = new_message m it.kind w it.first in
    subst (λ p. Lands m w (done m p).machine) (sym of.1) (record {
      it = it;
      now = ap (λ (s : ℕ → Option Server). put_at nat_eq s it.to.serial.0 (option_map (at_server (arriving (receiver m it.to.serial) x)) (s it.to.serial.0)))
          (sender_servers (is_answered it.kind) (new_number m)
          (with_sent m it.kind (caller_place m (send_address w)) (sent_pages w) (place_at_server it.to.server it.first)));
    }))

-- ---- a moment

-- the send of the number, in the state that is turned to its thread
pub accepted_lands : (number : Number) (m : Machine) → Matched m → (moment : Moment) → moment.machine ≡ caused moment.cause m → (a : Accepts number m moment)
    → Lands (turned_to a.served.who m) a.words moment.machine
accepted_lands number m h moment leads a = record {
  it = l.it;
  now = ap (λ (x : Machine). x.servers) (leads ∙ ap (λ c. caused c m) a.served.step)
      ∙ ((call_like m a.served.who a.words a.served.by_who a.served.call).servers
      ∙ (ap (λ o. (call_settled n o).machine.servers) served.1 ∙ ((served_like n served.0).servers ∙ l.now)));
}
  where
    n : Machine
    n = turned_to a.served.who m

    served : (change : Change) × (call n a.words ≡ Served change) × Lands n a.words change.machine
    served =
        of_served (λ change. Lands n a.words change.machine) (call n a.words) (sent_lands n (matched_at a.served.who m h) a.words a.sends)
        (served_turned m a.served.who a.words a.served.served)

    l : Lands n a.words served.0.machine
    l = served.2
