-- The step of a ReturnMemory keeps the machine matched.
use Rattle.std.proofs.Common.{◌≡◌, ℕ, true, false, List, get_or, ap, ◌∙◌}
use Rattle.std.specs.Prelude.{is_none, not}
use Rattle.std.specs.Option.{option_map_or}
use Rattle.std.proofs.lemmas.Bool.{and_parts, eqb-true}
use Rattle.xk_base.specs.declared.errors.XousError.TheVariants.{BadAddress, DoubleFree}
use Rattle.xk_base.specs.declared.ids.Number.{Number}
use Rattle.xk_base.specs.declared.messages.Message.{Message}
use Rattle.syscall_codec.specs.CallWords.{call_number, return_address, return_offset, return_size, return_valid}
use Rattle.syscall_codec.specs.ReplyWords.{returned_words}
use Rattle.ledger_model.specs.Steps.{end_loan}
use Rattle.machine_model.specs.Calling.Calls.{call}
use Rattle.machine_model.specs.Messaging.Messages.{is_lend, is_lend_of, is_of_number}
use Rattle.machine_model.specs.Messaging.ReturnCalls.{held_by_caller, is_its_range, named_number, return_memory_call, return_memory_refusals, return_memory_served}
use Rattle.machine_model.specs.Runs.Matched.{Matched}
use Rattle.machine_model.specs.State.Changes.{Served}
use Rattle.machine_model.specs.State.Machine.{Machine}
use Rattle.machine_model.specs.State.Order.{ready_at}
use Rattle.machine_model.proofs.Messaging.LoanSetLemmas.{only_one_ends}
use Rattle.machine_laws.proofs.Calling.AnsweredCallLemmas.{Keeps}
use Rattle.machine_laws.proofs.Returning.GivenBackLemmas.{EndsAs, given_back_keeps}
use Rattle.machine_laws.proofs.Calling.ThreadCallLemmas.{call_keeps, two_passed, unless_refused_keeps}

lend_number : (number : Number) (x : Message) → is_lend_of number x ≡ true → is_of_number number x ≡ true
lend_number number x e = (and_parts (is_of_number number x) (is_lend x.kind) e).0

-- the loan ends by its number
loan_ends : (m : Machine) (number : Number) → EndsAs m (is_lend_of number) (end_loan number m.ledger)
loan_ends m number k server e j d low passes =
    only_one_ends (get_or server.held j d).number m.ledger ∙ ap (λ (n : Number). end_loan n m.ledger) (λ i. record { 0 = named i })
  where
    named : (get_or server.held j d).number.0 ≡ number.0
    named = eqb-true (get_or server.held j d).number.0 number.0 (lend_number number (get_or server.held j d) passes)

module _ (m : Machine) (h : Matched m) (ready : ready_at m m.cursor ≡ true) (w : List ℕ) where
  pub return_keeps : Keeps m (return_memory_call m w)
  unfolding return_memory_call
  return_keeps =
      unless_refused_keeps m h (return_memory_refusals m (named_number w) (return_address w) (return_size w))
      (Served (return_memory_served m (named_number w) (return_offset w) (return_valid w)))
      (λ none. given_back_keeps m h ready (named_number w) (returned_words (return_offset w) (return_valid w)) (is_lend_of (named_number w))
      (lend_number (named_number w)) (end_loan (named_number w) m.ledger) (loan_ends m (named_number w))
      (two_passed (is_none (held_by_caller m (is_lend_of (named_number w))))
      (not (option_map_or (is_its_range (return_address w) (return_size w)) (held_by_caller m (is_lend_of (named_number w))) false))
      DoubleFree BadAddress none).0)

  pub return_number_keeps : call_number w ≡ 20 → Keeps m (call m w)
  return_number_keeps e = call_keeps m h ready w 20 e (λ none. return_keeps)
