-- What the step of a call does to pages, refused, retried or served.
use Rattle.std.proofs.Common.{◌≡◌, ℕ, true, List, refl, sym, ap, ◌∙◌}
use Rattle.std.specs.Prelude.{◌==◌}
use Rattle.std.proofs.lemmas.Bool.{false≢true}
use Rattle.std.proofs.lemmas.Option.{same_Some}
use Rattle.xk_base.specs.declared.errors.XousError.{XousError}
use Rattle.xk_base.specs.declared.ids.Number.{Number}
use Rattle.xk_base.specs.declared.ids.ThreadId.{ThreadId}
use Rattle.syscall_codec.specs.CallNumbers.{forward_message, send_message, terminate_process, try_send_message}
use Rattle.syscall_codec.specs.CallWords.{call_number}
use Rattle.ledger_model.specs.Loans.{LoanRun}
use Rattle.machine_model.specs.Calling.Calls.{call}
use Rattle.machine_model.specs.Ending.Closing.{closed, servers_closed}
use Rattle.machine_model.specs.Ending.Ends.{death}
use Rattle.machine_model.specs.Runs.LoanSpan.{IsForwarded, is_send}
use Rattle.machine_model.specs.Runs.Matched.{Matched}
use Rattle.machine_model.specs.Runs.Moments.{ByStep, moment_of}
use Rattle.machine_model.specs.State.Changes.{Change, Outcome, Refused, Retried, Served, call_settled}
use Rattle.machine_model.specs.State.Machine.{Machine}
use Rattle.machine_model.specs.State.Order.{turn}
use Rattle.machine_model.specs.Stepping.Acts.{call_by, is_call_served, is_served}
use Rattle.machine_model.specs.Stepping.Step.{step}
use Rattle.machine_model.proofs.Runs.KeptLemmas.{matched_at}
use Rattle.machine_laws.proofs.Threading.ThreadAnswerLemmas.{ready_lives}
use Rattle.machine_laws.proofs.Threading.ThreadStepLemmas.{actor_ready, turned_to}
use Rattle.call_effects.specs.Footprints.{LedgerPart, names}
use Rattle.call_effects.specs.Rows.ThreadRows.{terminate_row}
use Rattle.call_effects.proofs.PartLemmas.{OfChanging, of_parts}
use Rattle.machine_model.proofs.Calling.TableLemmas.{◌also◌}
use Rattle.call_effects.proofs.ServedLemmas.{OfPlan, OfServed, done}
use Rattle.loan_laws.proofs.Fates.LikeLemmas.{IsLike, call_like, like_both, served_like}
use Rattle.loan_laws.proofs.Fates.ServedFateLemmas.{IsCaller}
use Rattle.lifetime_laws.specs.Lives.{PagesLive}
use Rattle.lifetime_laws.proofs.Lives.DeathLemmas.{death_lives}
use Rattle.lifetime_laws.proofs.Lives.LoanCallLemmas.{destroy_lives, forward_lives, return_memory_lives}
use Rattle.lifetime_laws.proofs.Lives.MemoryLemmas.{decrease_lives, increase_lives, map_lives, unmap_lives, update_lives}
use Rattle.lifetime_laws.proofs.Lives.SendLemmas.{send_lives, try_send_lives}
use Rattle.lifetime_laws.proofs.Lives.ServedLemmas.{HasServedLife, stepped}
use Rattle.lifetime_laws.proofs.Lives.TurnLemmas.{left_lives}

refused_same : (m : Machine) (who : ThreadId) (error : XousError) → (call_settled (turned_to who m) (Refused error)).machine.ledger ≡ m.ledger
unfolding call_settled
refused_same m who error = refl

retried_same : (m : Machine) (who : ThreadId) → (call_settled (turned_to who m) Retried).machine.ledger ≡ m.ledger
unfolding call_settled turn
retried_same m who = refl

module _ (m : Machine) (who : ThreadId) (w : List ℕ) (h : Matched m) (calls : IsCaller m who w) where
  abbrev here : Machine
  here = turned_to who m

  abbrev LifeOf : Change → Type 0
  LifeOf change = HasServedLife m who w change

  -- the call of a TerminateProcess forwards nothing
  not_forwarding : call_number w ≡ terminate_process → (n : Machine) (a : LoanRun) (number : Number) → IsForwarded number a m (stepped n) → ⊥
  not_forwarding named n a number forwarded =
      let same : forwarded.served.who ≡ who = same_Some forwarded.served.who who (sym forwarded.served.by_who ∙ calls.acts) in
      let words : forwarded.words ≡ w =
      same_Some forwarded.words w (sym forwarded.served.call ∙ (ap (call_by m) same ∙ calls.call)) in
      let clash : terminate_process ≡ forward_message = sym named ∙ (ap call_number (sym words) ∙ forwarded.forwards) in
      false≢true (ap (λ k. k == forward_message) clash)

  terminate_lives : call_number w ≡ terminate_process → OfPlan (λ plan. LifeOf (done here plan)) (terminate_row here w)
  unfolding death servers_closed closed
  terminate_lives named = λ n like accepted.
      death_lives m h who m.reserved who.pid (matched_at who m h) (ready_lives m h who (actor_ready m who calls.acts)) (stepped n) like (not_forwarding named n)

  sends : (k : ℕ) → is_send k ≡ true → call_number w ≡ k → is_send (call_number w) ≡ true
  sends k e same = ap is_send same ∙ e

  -- the calls that can change the ledger
  each : OfChanging (λ parts. names parts LedgerPart) LifeOf here w
  each =
      (λ e. map_lives m who w h calls e)
      also (λ e. increase_lives m who w h calls e)
      also (λ e. decrease_lives m who w h calls e)
      also (λ e. update_lives m who w h calls e)
      also (λ e. send_lives m who w calls (sends send_message refl e))
      also (λ e. unmap_lives m who w h calls e)
      also (λ e. return_memory_lives m who w h calls e)
      also (λ e. terminate_lives e)
      also (λ e. try_send_lives m who w calls (sends try_send_message refl e))
      also (λ e. destroy_lives m who w h calls)
      also (λ e. forward_lives m who w h calls e)
      also tt

  served_lives : OfServed LifeOf (call here w)
  served_lives =
      of_parts (λ parts. names parts LedgerPart) LifeOf here w each
      (λ change rest untouched n like accepted. left_lives m (stepped n) (like.ledger ∙ rest.ledger untouched))

  of_outcome : (outcome : Outcome) → call here w ≡ outcome → OfServed LifeOf outcome → IsLike (step m).machine (call_settled here outcome).machine
      → PagesLive m (moment_of ByStep m)
  of_outcome (Refused error) e of like = left_lives m (moment_of ByStep m) (like.ledger ∙ refused_same m who error)
  of_outcome Retried e of like = left_lives m (moment_of ByStep m) (like.ledger ∙ retried_same m who)
  of_outcome (Served change) e of like =
      of (step m).machine
      (like_both (step m).machine (call_settled here (Served change)).machine change.machine like (served_like here change)) accepted
    where
      accepted : is_call_served m who w ≡ true
      accepted = unfold is_call_served in ap is_served e

  pub call_lives : PagesLive m (moment_of ByStep m)
  call_lives = of_outcome (call here w) refl served_lives (call_like m who w calls.acts calls.call)
