-- The line of a forward of one page to a server of that pid, whose page goes to the first place there.
use Rattle.std.proofs.Common.{◌≡◌, ℕ, true, List, [], ◌∷◌, Some, refl, ap, ◌∙◌, arith}
use Rattle.std.specs.Prelude.{map}
use Rattle.std.specs.Option.{option_map_or}
use Rattle.xk_base.specs.declared.ids.Place.{Place}
use Rattle.xk_base.specs.declared.ids.ThreadId.{ThreadId}
use Rattle.xk_base.specs.declared.records.What.{What}
use Rattle.xk_base.specs.declared.records.What.TheVariants.{Call}
use Rattle.xk_base.specs.declared.windows.Window.TheVariants.{Message}
use Rattle.syscall_codec.specs.CallWords.{forward_cid}
use Rattle.syscall_codec.specs.ReplyWords.{eight_words}
use Rattle.ledger_model.specs.Ledger.{Ledger}
use Rattle.ledger_model.specs.LeastRun.{is_free_run, window_place}
use Rattle.ledger_model.specs.Reach.{is_free}
use Rattle.machine_model.specs.Calling.Calls.{call}
use Rattle.machine_model.specs.Messaging.ForwardCalls.{forwarded_to, next_arrival, passable, passed_number}
use Rattle.machine_model.specs.State.Machine.{Machine, Server}
use Rattle.machine_model.specs.State.Order.{actor}
use Rattle.machine_model.specs.State.Servers.{server_at}
use Rattle.machine_model.specs.Stepping.Acts.{call_by}
use Rattle.machine_model.specs.Stepping.Step.{Recorded, step}
use Rattle.machine_model.specs.Worked.Rows.{what_of}
use Rattle.worked_examples.specs.Playing.{calls, left_by, IsToldAs}
use Rattle.worked_examples.proofs.ArrivalLemmas.{goes_on_at, one_place}
use Rattle.worked_examples.proofs.PlayingLemmas.{call_step, step_calls, line_left, line_told}
use Rattle.worked_examples.proofs.SendingLemmas.{sending}

-- the first place of a process's window
abbrev pub window_of : ℕ → Place
window_of pid = window_place (record { 0 = pid }) Message 0

-- The thread passes one page on to that server, which is accepted as far as where the page goes; the ledger is that one.
pub record IsPassing (who : ThreadId) (words : List ℕ) (before : Machine) (server : Server) (pid procs : ℕ) (l : Ledger) : Type 0 where
  pub turn : actor (sending who words before) ≡ Some who
  pub makes : call_by (sending who words before) who ≡ Some (eight_words words)
  pub there : server_at (sending who words before) (forward_cid (eight_words words)) ≡ Some server
  pub own : server.pid ≡ record { 0 = pid }
  pub one : option_map_or (λ message. message.count) (passable (sending who words before) (passed_number (eight_words words))) 0 ≡ 1
  pub processes : (sending who words before).processes ≡ procs
  pub ledger : (sending who words before).ledger ≡ l
  pub passes : call (sending who words before) (eight_words words)
      ≡ forwarded_to (sending who words before) (eight_words words)
      (next_arrival (sending who words before) (passed_number (eight_words words)) (forward_cid (eight_words words)))

-- the step of the forward, where the page goes to the first place
unfoldable pub passed_step : ThreadId → List ℕ → Machine → ℕ → Recorded
passed_step who words before pid =
    let m = sending who words before in
    call_step m (eight_words words) (forwarded_to m (eight_words words) (Some (window_of pid).vpn))

-- the page goes to the first place, where that is free
pub passes_on : (who : ThreadId) (words : List ℕ) (before : Machine) (server : Server) (pid procs : ℕ) (l : Ledger)
    → IsPassing who words before server pid procs l → is_free procs l (window_of pid) ≡ true
    → step (sending who words before) ≡ passed_step who words before pid
unfolding passed_step
passes_on who words before server pid procs l is free =
    let m : Machine = sending who words before in
    let run : is_free_run m.processes m.ledger (window_place server.pid Message 0) 1 ≡ true =
    ap (λ n. is_free_run n m.ledger (window_place server.pid Message 0) 1) is.processes
    ∙ (ap (λ x. is_free_run procs x (window_place server.pid Message 0) 1) is.ledger
    ∙ (ap (λ q. is_free_run procs l (window_place q Message 0) 1) is.own ∙ one_place procs l (window_of pid) true free)) in
    step_calls m (eight_words words) (forwarded_to m (eight_words words) (Some (window_of pid).vpn)) is.turn is.makes
    (is.passes
    ∙ ap (forwarded_to m (eight_words words))
    (goes_on_at m (passed_number (eight_words words)) (forward_cid (eight_words words)) 1 server 0 is.one is.there (omega arith) refl run
    (λ j b. absurd (omega arith))))

-- what its line tells and leaves
pub forward_told : (who : ThreadId) (words : List ℕ) (told : List What) (before : Machine) (pid : ℕ)
    → step (sending who words before) ≡ passed_step who words before pid
    → map what_of (passed_step who words before pid).records ≡ Call who (eight_words words) ∷ told
    → IsToldAs (calls who words told ∷ []) before
unfolding passed_step
forward_told who words told before pid e tells =
    line_told who words told before (forwarded_to (sending who words before) (eight_words words) (Some (window_of pid).vpn)) e tells

pub forward_left : (who : ThreadId) (words : List ℕ) (told : List What) (before : Machine) (pid : ℕ)
    → step (sending who words before) ≡ passed_step who words before pid
    → left_by (calls who words told ∷ []) before ≡ (passed_step who words before pid).machine
unfolding passed_step
forward_left who words told before pid e =
    line_left who words told before (forwarded_to (sending who words before) (eight_words words) (Some (window_of pid).vpn)) e
