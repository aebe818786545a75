-- The calls on threads and on interrupts keep the machine matched, refused or served.
use Rattle.std.proofs.Common.{◌≡◌, ℕ, ◌+◌, ◌≤◌, Bool, true, false, List, [], ◌∷◌, Option, Some, None, refl, sym, ◌∙◌, arith, subst}
use Rattle.std.specs.Prelude.{◌==◌, ◌&&◌, not}
use Rattle.std.proofs.lemmas.Bool.{false≢true}
use Rattle.std.proofs.lemmas.Option.{none-some}
use Rattle.xk_base.specs.declared.errors.XousError.{XousError}
use Rattle.xk_base.specs.declared.errors.XousError.TheVariants.{InvalidSyscall, UnhandledSyscall}
use Rattle.syscall_codec.specs.CallNumbers.{is_call_number}
use Rattle.syscall_codec.specs.CallWords.{call_number, is_refused_to_handler}
use Rattle.syscall_codec.specs.ReplyWords.{plain_words}
use Rattle.machine_model.specs.Calling.Calls.{call, call_at, call_table, any_refusals, unhandled_call}
use Rattle.machine_model.specs.State.Changes.{Outcome, Served, answering, first_refusal, refused_or, unless_refused}
use Rattle.machine_model.specs.State.Machine.{Machine}
use Rattle.machine_model.specs.Runs.Matched.{Matched}
use Rattle.machine_model.specs.State.Order.{ready_at, turn}
use Rattle.machine_model.specs.Calling.ThreadCalls.{yield_call}
use Rattle.machine_model.specs.Calling.Questions.{Question, asked}
use Rattle.machine_model.specs.State.Threads.{answer_to}
use Rattle.machine_model.proofs.Runs.KeptLemmas.{turn_keeps}
use Rattle.machine_laws.proofs.Calling.AnsweredCallLemmas.{Keeps, refused_keeps}
use Rattle.machine_model.specs.State.Changes.{Refused}
use Rattle.machine_laws.proofs.Calling.CallRowLemmas.{Means}
use Rattle.machine_laws.proofs.Threading.ThreadAnswerLemmas.{answered_call}
use Rattle.machine_laws.proofs.Threading.ThreadStepLemmas.{settles}

-- ---- refusals

pub unless_refused_keeps : (m : Machine) → Matched m → (refusals : List (Bool × XousError)) (outcome : Outcome)
    → (first_refusal refusals ≡ None → Keeps m outcome) → Keeps m (unless_refused refusals outcome)
unless_refused_keeps m h refusals outcome keep = go (first_refusal refusals) refl
  where
    go : (o : Option XousError) → first_refusal refusals ≡ o → Keeps m (refused_or o outcome)
    go None e = keep e
    go (Some error) e = refused_keeps m error h

-- none of the tests holds
pub one_passed : (a : Bool) (x : XousError) → first_refusal ((a, x) ∷ []) ≡ None → a ≡ false
one_passed true x e = absurd (none-some x (sym e))
one_passed false x e = refl

pub two_passed : (a b : Bool) (x y : XousError) → first_refusal ((a, x) ∷ (b, y) ∷ []) ≡ None → (a ≡ false) × (b ≡ false)
two_passed true b x y e = absurd (none-some x (sym e))
two_passed false b x y e = (refl, one_passed b y e)

pub three_passed : (a b c : Bool) (x y z : XousError) → first_refusal ((a, x) ∷ (b, y) ∷ (c, z) ∷ []) ≡ None → (a ≡ false) × (b ≡ false) × (c ≡ false)
three_passed true b c x y z e = absurd (none-some x (sym e))
three_passed false b c x y z e =
    let rest : (b ≡ false) × (c ≡ false) = two_passed b c y z e in
    (refl, rest.0, rest.1)

-- tid 1 makes no call that can wait
pub not_handler : (m : Machine) (w : List ℕ) → first_refusal (any_refusals m w) ≡ None → is_refused_to_handler w ≡ true
    → (m.cursor.tid.0 == 1) ≡ false
not_handler m w none refused =
    let fit : (not (is_call_number (call_number w)) ≡ false) × ((m.cursor.tid.0 == 1 && is_refused_to_handler w) ≡ false) =
    two_passed (not (is_call_number (call_number w))) (m.cursor.tid.0 == 1 && is_refused_to_handler w) UnhandledSyscall InvalidSyscall none in
    go (m.cursor.tid.0 == 1) (is_refused_to_handler w) refused fit.1
  where
    go : (a b : Bool) → b ≡ true → (a && b) ≡ false → a ≡ false
    go false b p q = refl
    go true b p q = absurd (false≢true (sym q ∙ p))

-- ---- served

pub answered_keeps : (m left : Machine) (words : List ℕ) → Matched left → ready_at left m.cursor ≡ true → left.steps ≤ m.steps + 1
    → Keeps m (Served (answering (answer_to m.cursor words) left))
answered_keeps m left words h ready steps = answered_call m left words (settles m left steps h) ready

module _ (m : Machine) (h : Matched m) (ready : ready_at m m.cursor ≡ true) (w : List ℕ) where
  yield_keeps : Keeps m (yield_call m w)
  unfolding yield_call turn
  yield_keeps = answered_keeps m (turn m) plain_words (turn_keeps m h) ready (omega arith)

  question_keeps : (question : Question) → Keeps m (asked question m w)
  unfolding asked
  question_keeps question = answered_keeps m m (question m) h ready (omega arith)

  -- ---- the table

  pub call_keeps : (n : ℕ) → call_number w ≡ n → (first_refusal (any_refusals m w) ≡ None → Keeps m (call_at n call_table m w)) → Keeps m (call m w)
  unfolding call
  call_keeps n e keep =
      unless_refused_keeps m h (any_refusals m w) (call_at (call_number w) call_table m w)
      (λ none. subst (λ k. Keeps m (call_at k call_table m w)) (sym e) (keep none))

  pub yield_number_keeps : call_number w ≡ 3 → Keeps m (call m w)
  yield_number_keeps e = call_keeps 3 e (λ none. yield_keeps)

  pub question_number_keeps : (n : ℕ) (question : Question) → Means n (asked question) → call_number w ≡ n → Keeps m (call m w)
  question_number_keeps n question means e =
      subst (Keeps m) (sym (means m w e)) (unless_refused_keeps m h (any_refusals m w) (asked question m w) (λ none. question_keeps question))

  pub unhandled_number_keeps : (n : ℕ) → Means n unhandled_call → call_number w ≡ n → Keeps m (call m w)
  unhandled_number_keeps n means e =
      subst (Keeps m) (sym (means m w e))
      (unless_refused_keeps m h (any_refusals m w) (Refused UnhandledSyscall) (λ none. refused_keeps m UnhandledSyscall h))
