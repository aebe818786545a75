-- The line of a send of one page to the server of pid 2, whose page goes to a place that is found by a law.
use Rattle.std.proofs.Common.{◌≡◌, ℕ, ◌+◌, ◌<◌, true, false, List, [], ◌∷◌, Some, ap, ◌∙◌}
use Rattle.std.specs.Prelude.{map, nat_le}
use Rattle.xk_base.specs.declared.ids.Pid.{Pid}
use Rattle.xk_base.specs.declared.ids.Place.{Place}
use Rattle.xk_base.specs.declared.ids.ThreadId.{ThreadId}
use Rattle.xk_base.specs.declared.records.What.{What}
use Rattle.xk_base.specs.declared.records.What.TheVariants.{Call}
use Rattle.xk_base.specs.declared.windows.Window.TheVariants.{Message}
use Rattle.syscall_codec.specs.CallWords.{send_cid}
use Rattle.syscall_codec.specs.ReplyWords.{eight_words}
use Rattle.ledger_model.specs.Ledger.{Ledger}
use Rattle.ledger_model.specs.LeastRun.{window_place}
use Rattle.ledger_model.specs.Reach.{is_free}
use Rattle.machine_model.specs.Calling.Calls.{call}
use Rattle.machine_model.specs.Messaging.SendCalls.{sent_to, sent_pages, arrival}
use Rattle.machine_model.specs.State.Machine.{Machine, Server}
use Rattle.machine_model.specs.State.Order.{actor}
use Rattle.machine_model.specs.State.Servers.{server_at}
use Rattle.machine_model.specs.Stepping.Acts.{call_by}
use Rattle.machine_model.specs.Stepping.Step.{Recorded, step}
use Rattle.machine_model.specs.Worked.Rows.{what_of}
use Rattle.worked_examples.specs.Playing.{calls, call_address, standing, left_by, IsToldAs}
use Rattle.worked_examples.proofs.ArrivalLemmas.{arrives_one}
use Rattle.worked_examples.proofs.PlayingLemmas.{call_step, step_calls, line_left, line_told}

abbrev pub receiver_pid : Pid
receiver_pid = record { 0 = 2 }

-- place k of the receiver's window
abbrev pub window_at_receiver : ℕ → Place
window_at_receiver k = window_place receiver_pid Message k

-- the thread, put to its call
abbrev pub sending : ThreadId → List ℕ → Machine → Machine
sending who words before = standing who call_address words before

-- The thread makes a send of one page to that server, which is accepted as far as where the page goes; the ledger is that one.
pub record IsSending (who : ThreadId) (words : List ℕ) (before : Machine) (server : Server) (procs : ℕ) (l : Ledger) : Type 0 where
  pub turn : actor (sending who words before) ≡ Some who
  pub makes : call_by (sending who words before) who ≡ Some (eight_words words)
  pub there : server_at (sending who words before) (send_cid (eight_words words)) ≡ Some server
  pub own : server.pid ≡ receiver_pid
  pub one : sent_pages (eight_words words) ≡ 1
  pub processes : (sending who words before).processes ≡ procs
  pub ledger : (sending who words before).ledger ≡ l
  pub passes : call (sending who words before) (eight_words words)
      ≡ sent_to (sending who words before) (eight_words words) (arrival (sending who words before) (eight_words words))

-- the step of the send, where the page goes to place k
unfoldable pub sent_step : ThreadId → List ℕ → Machine → ℕ → Recorded
sent_step who words before k =
    let m = sending who words before in
    call_step m (eight_words words) (sent_to m (eight_words words) (Some (window_at_receiver k).vpn))

-- the page goes to place k, where that is free and no place before it
pub sends : (who : ThreadId) (words : List ℕ) (before : Machine) (server : Server) (procs : ℕ) (l : Ledger) (k : ℕ)
    → IsSending who words before server procs l → k < 4096 → nat_le (k + 1) 4096 ≡ true
    → is_free procs l (window_at_receiver k) ≡ true → ((j : ℕ) → j < k → is_free procs l (window_at_receiver j) ≡ false)
    → step (sending who words before) ≡ sent_step who words before k
unfolding sent_step
sends who words before server procs l k is low small free used =
    let m : Machine = sending who words before in
    step_calls m (eight_words words) (sent_to m (eight_words words) (Some (window_at_receiver k).vpn)) is.turn is.makes
    (is.passes
    ∙ ap (sent_to m (eight_words words))
    (arrives_one m (eight_words words) server receiver_pid procs l k is.there is.own is.one is.processes is.ledger low small free used))

-- what its line tells and leaves
pub send_told : (who : ThreadId) (words : List ℕ) (told : List What) (before : Machine) (k : ℕ)
    → step (sending who words before) ≡ sent_step who words before k
    → map what_of (sent_step who words before k).records ≡ Call who (eight_words words) ∷ told
    → IsToldAs (calls who words told ∷ []) before
unfolding sent_step
send_told who words told before k e tells =
    line_told who words told before
    (sent_to (sending who words before) (eight_words words) (Some (window_at_receiver k).vpn)) e tells

pub send_left : (who : ThreadId) (words : List ℕ) (told : List What) (before : Machine) (k : ℕ)
    → step (sending who words before) ≡ sent_step who words before k
    → left_by (calls who words told ∷ []) before ≡ (sent_step who words before k).machine
unfolding sent_step
send_left who words told before k e =
    line_left who words told before (sent_to (sending who words before) (eight_words words) (Some (window_at_receiver k).vpn)) e
