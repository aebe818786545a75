-- What a refusal and a retry do to the caller keeps the machine matched, as what comes of the call and as a step.
use Rattle.std.proofs.Common.{◌≡◌, ℕ, ◌+◌, ◌≤◌, List, Some, refl, sym, arith, subst}
use Rattle.std.specs.Option.{option_map}
use Rattle.xk_base.specs.declared.errors.XousError.{XousError}
use Rattle.xk_base.specs.declared.ids.ThreadId.{ThreadId}
use Rattle.xk_base.specs.Tables.Circle.{same_thread}
use Rattle.xk_base.specs.Tables.Counting.{put_at}
use Rattle.machine_model.specs.Stepping.Acts.{call_by}
use Rattle.machine_model.specs.Calling.Calls.{call}
use Rattle.machine_model.specs.Runs.Kept.{Settles}
use Rattle.machine_model.specs.Runs.Matched.{Matched}
use Rattle.machine_model.specs.State.Changes.{Outcome, Refused, Retried, call_settled, with_refusal}
use Rattle.machine_model.specs.State.Machine.{Machine}
use Rattle.machine_model.specs.State.Order.{actor, turn}
use Rattle.machine_model.specs.Stepping.Step.{step}
use Rattle.machine_model.proofs.Runs.KeptLemmas.{matched_at, turn_keeps}
use Rattle.machine_laws.proofs.Threading.ChangedThreadLemmas.{like_changed}
use Rattle.machine_laws.proofs.Threading.LikeThreadLemmas.{matched_with}
use Rattle.machine_laws.proofs.Threading.ThreadAnswerLemmas.{following-aligned}
use Rattle.machine_laws.proofs.Threading.ThreadMoveLemmas.{matched_later}
use Rattle.machine_laws.proofs.Threading.ThreadStepLemmas.{turned_to, call_step_keeps}

-- what comes of a call keeps the machine matched
abbrev pub Keeps : Machine → Outcome → Type 0
Keeps m outcome = Settles m (call_settled m outcome).machine

-- ---- refused

refused_at : (m : Machine) (error : XousError) (s : ℕ) → m.steps ≤ s → Matched m
    → Matched (record (call_settled m (Refused error)).machine { steps = s })
unfolding call_settled
refused_at m error s later h =
    matched_with (put_at same_thread m.threads m.cursor (option_map (with_refusal error) (m.threads m.cursor))) m
    (like_changed m m.cursor (with_refusal error) h
    (λ t e. record { state = refl; pc = following-aligned t.pc (h.body.threads.pcs m.cursor t e) })) h m.cursor s later

pub refused_keeps : (m : Machine) (error : XousError) → Matched m → Keeps m (Refused error)
refused_keeps m error h = refused_at m error (m.steps + 1) (omega arith) h

pub refused_step : (m : Machine) (who : ThreadId) (words : List ℕ) (error : XousError) → Matched m → actor m ≡ Some who
    → call_by m who ≡ Some words → call (turned_to who m) words ≡ Refused error → Matched (step m).machine
refused_step m who words error h e q r =
    call_step_keeps m who words e q (subst (Keeps (turned_to who m)) (sym r) (refused_keeps (turned_to who m) error (matched_at who m h)))

pub retried_keeps : (m : Machine) → Matched m → Keeps m Retried
unfolding call_settled turn
retried_keeps m h = matched_later (turn m) (turn_keeps m h) (m.steps + 1) (omega arith)
