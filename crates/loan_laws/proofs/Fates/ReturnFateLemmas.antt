-- The fate of a number in a served ReturnMemory: the loan of the number that is named ends, and the caller's process was its holder.
use Rattle.std.proofs.Common.{◌≡◌, ℕ, Bool, false, List, Some, sym, ap, ◌∙◌, arith, inl}
use Rattle.std.specs.Prelude.{is_none, not}
use Rattle.std.specs.Option.{option_map_or}
use Rattle.xk_base.specs.declared.errors.XousError.TheVariants.{BadAddress, DoubleFree}
use Rattle.xk_base.specs.declared.ids.Number.{Number}
use Rattle.xk_base.specs.declared.ids.ThreadId.{ThreadId}
use Rattle.syscall_codec.specs.CallNumbers.{return_memory}
use Rattle.syscall_codec.specs.CallWords.{call_number, return_address, return_offset, return_size, return_valid}
use Rattle.xk_base.specs.declared.messages.Message.{Message}
use Rattle.ledger_model.specs.Loans.{LoanRun, same_number}
use Rattle.ledger_model.proofs.LedgerLemmas.{same_number-true}
use Rattle.machine_model.specs.Messaging.Messages.{is_lend_of}
use Rattle.machine_model.specs.Messaging.ReturnCalls.{held_by_caller, is_its_range, named_number, return_memory_served}
use Rattle.machine_model.specs.Runs.LoanSpan.{IsOut}
use Rattle.machine_model.specs.Runs.Matched.{Matched}
use Rattle.machine_model.specs.Runs.Moments.{ByStep}
use Rattle.machine_model.specs.State.Machine.{Machine}
use Rattle.machine_model.proofs.Messaging.LoanSetLemmas.{only_one_ends}
use Rattle.machine_laws.proofs.Calling.ThreadCallLemmas.{two_passed}
use Rattle.machine_laws.proofs.Threading.ThreadStepLemmas.{turned_to}
use Rattle.call_effects.specs.Rows.MessageRows.{return_memory_row}
use Rattle.call_effects.proofs.ServedLemmas.{OfPlan, done}
use Rattle.call_effects.specs.Held.{IsHeld}
use Rattle.call_effects.proofs.HeldLemmas.{is_held}
use Rattle.loan_laws.proofs.Fates.EndedFateLemmas.{ended_fate}
use Rattle.loan_laws.proofs.Fates.ServedFateLemmas.{HasServedFate, IsCaller, served_call, some_of}
use Rattle.loan_laws.proofs.Lending.HeldMessageLemmas.{held_run}
use Rattle.loan_laws.proofs.Lending.LendMessageLemmas.{IsRunOf}

module _ (number : Number) (m : Machine) (who : ThreadId) (w : List ℕ) (h : Matched m) (calls : IsCaller m who w) where
  abbrev test : Message → Bool
  test = is_lend_of (named_number w)

  -- the caller's process is the holder
  by_holder : (x : Message) → held_by_caller (turned_to who m) test ≡ Some x → number ≡ named_number w → (a : LoanRun) → IsOut number m a
      → who.pid ≡ a.holder.pid
  by_holder x e named a out = sym here.own ∙ sym (ap (λ (r : LoanRun). r.holder.pid) run.run)
    where
      here : IsHeld (turned_to who m) test x
      here = is_held (turned_to who m) test x e

      run : IsRunOf here.server x a
      run = held_run m number who test x h here (ap (λ k. is_lend_of k x) named ∙ here.passes) a out

  returned_fate : call_number w ≡ return_memory → is_none (held_by_caller (turned_to who m) test) ≡ false
      → HasServedFate number m who w (return_memory_served (turned_to who m) (named_number w) (return_offset w) (return_valid w))
  returned_fate returns held n like accepted =
      ended_fate number m (record { cause = ByStep; machine = n }) h (λ k. same_number k (named_number w))
      (like.ledger ∙ sym (only_one_ends (named_number w) m.ledger)) (let same : n.next_number ≡ m.next_number = like.number in omega arith)
      (λ e a out.
      let named : number ≡ named_number w = same_number-true number (named_number w) e in
      let message = some_of (held_by_caller (turned_to who m) test) held in
      inl (record {
        words = w;
        served = served_call m who w n a.holder.pid calls accepted (by_holder message.0 message.1 named a out);
        returns = returns;
        token = sym (ap (λ (k : Number). k.0) named);
      }))

  pub return_memory_fate : call_number w ≡ return_memory → OfPlan (λ plan. HasServedFate number m who w (done (turned_to who m) plan)) (return_memory_row (turned_to who m) w)
  return_memory_fate returns = λ none.
      returned_fate returns
      (two_passed (is_none (held_by_caller (turned_to who m) (is_lend_of (named_number w))))
      (not (option_map_or (is_its_range (return_address w) (return_size w)) (held_by_caller (turned_to who m) (is_lend_of (named_number w))) false))
      DoubleFree BadAddress none).0
