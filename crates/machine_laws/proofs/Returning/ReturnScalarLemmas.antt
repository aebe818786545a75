-- The steps of ReturnScalar1 and ReturnScalar2 keep the machine matched: a blocking scalar is given back, and no loan ends.
use Rattle.std.proofs.Common.{◌≡◌, ℕ, true, false, List, get_or, refl}
use Rattle.std.specs.Prelude.{is_none}
use Rattle.std.proofs.lemmas.Bool.{and_parts, false≢true}
use Rattle.xk_base.specs.declared.errors.XousError.TheVariants.{DoubleFree}
use Rattle.xk_base.specs.declared.ids.Number.{Number}
use Rattle.xk_base.specs.declared.messages.Message.{Message}
use Rattle.xk_base.specs.declared.messages.MsgKind.{MsgKind}
use Rattle.xk_base.specs.declared.messages.MsgKind.TheVariants.{LendMut, Lend, Move, Scalar, BlockingScalar}
use Rattle.syscall_codec.specs.CallNumbers.{return_scalar1, return_scalar2}
use Rattle.syscall_codec.specs.CallWords.{return_value1, return_value2}
use Rattle.syscall_codec.specs.ReplyWords.{scalar1_words, scalar2_words}
use Rattle.machine_model.specs.Messaging.Messages.{is_blocking_of, is_blocking_scalar, is_lend, is_of_number}
use Rattle.machine_model.specs.Messaging.ReturnCalls.{held_by_caller, named_number, return_scalar1_call, return_scalar2_call, return_scalar_refusals, return_scalar_served}
use Rattle.machine_model.specs.Runs.Matched.{Matched}
use Rattle.machine_model.specs.State.Changes.{Served, unless_refused}
use Rattle.machine_model.specs.State.Machine.{Machine}
use Rattle.machine_model.specs.State.Order.{ready_at}
use Rattle.machine_laws.proofs.Calling.AnsweredCallLemmas.{Keeps}
use Rattle.machine_laws.proofs.Calling.CallStepLemmas.{of_call}
use Rattle.machine_laws.proofs.Returning.GivenBackLemmas.{EndsAs, given_back_keeps}
use Rattle.machine_laws.proofs.Calling.ThreadCallLemmas.{one_passed, unless_refused_keeps}
use Rattle.machine_laws.proofs.Calling.CallRowLemmas.{KeepsNumber}
use Rattle.machine_laws.proofs.Returning.NoLoanLemmas.{nothing_ends}

scalar_no_lend : (kind : MsgKind) → is_blocking_scalar kind ≡ true → is_lend kind ≡ false
scalar_no_lend LendMut e = absurd (false≢true e)
scalar_no_lend Lend e = absurd (false≢true e)
scalar_no_lend Move e = refl
scalar_no_lend Scalar e = refl
scalar_no_lend BlockingScalar e = refl

blocking_parts : (number : Number) (x : Message) → is_blocking_of number x ≡ true
    → (is_of_number number x ≡ true) × (is_blocking_scalar x.kind ≡ true)
blocking_parts number x e = and_parts (is_of_number number x) (is_blocking_scalar x.kind) e

no_loan_of_scalar : (m : Machine) → Matched m → (number : Number) → EndsAs m (is_blocking_of number) m.ledger
no_loan_of_scalar m h number k server e j d low passes =
    nothing_ends m h k server e j d low
    (scalar_no_lend (get_or server.held j d).kind (blocking_parts number (get_or server.held j d) passes).1)

module _ (m : Machine) (w : List ℕ) (h : Matched m) (ready : ready_at m m.cursor ≡ true) where
  -- with whatever words
  pub scalar_keeps : (words : List ℕ)
      → Keeps m (unless_refused (return_scalar_refusals m (named_number w)) (Served (return_scalar_served m (named_number w) words)))
  scalar_keeps words =
      unless_refused_keeps m h (return_scalar_refusals m (named_number w)) (Served (return_scalar_served m (named_number w) words))
      (λ none. given_back_keeps m h ready (named_number w) words (is_blocking_of (named_number w))
      (λ x e. (blocking_parts (named_number w) x e).0) m.ledger (no_loan_of_scalar m h (named_number w))
      (one_passed (is_none (held_by_caller m (is_blocking_of (named_number w)))) DoubleFree none))

  pub scalar1_keeps : Keeps m (return_scalar1_call m w)
  unfolding return_scalar1_call
  scalar1_keeps = scalar_keeps (scalar1_words (return_value1 w))

  pub scalar2_keeps : Keeps m (return_scalar2_call m w)
  unfolding return_scalar2_call
  scalar2_keeps = scalar_keeps (scalar2_words (return_value1 w) (return_value2 w))

pub return_scalar1_number_keeps : KeepsNumber return_scalar1
return_scalar1_number_keeps = of_call 26 return_scalar1_call (λ m w. refl) scalar1_keeps

pub return_scalar2_number_keeps : KeepsNumber return_scalar2
return_scalar2_number_keeps = of_call 27 return_scalar2_call (λ m w. refl) scalar2_keeps
