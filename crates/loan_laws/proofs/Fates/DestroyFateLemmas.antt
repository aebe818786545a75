-- The fate of a number in a served DestroyServer: the loans of the server's messages end.
use Rattle.std.proofs.Common.{◌≡◌, ℕ, List, None, ap, ◌∙◌, arith, inl, inr}
use Rattle.std.specs.Prelude.{◌==◌, if◌then◌else◌}
use Rattle.xk_base.specs.declared.ids.Number.{Number}
use Rattle.xk_base.specs.declared.ids.ThreadId.{ThreadId}
use Rattle.machine_model.specs.Calling.ServerCalls.{named_server, named_sid}
use Rattle.machine_model.specs.Ending.Closing.{closed, is_message_at}
use Rattle.machine_model.specs.Runs.Matched.{Matched}
use Rattle.machine_model.specs.Runs.Moments.{ByStep}
use Rattle.machine_model.specs.State.Machine.{Machine}
use Rattle.machine_model.proofs.Runs.KeptLemmas.{matched_at}
use Rattle.machine_laws.proofs.Threading.ThreadStepLemmas.{turned_to}
use Rattle.ledger_model.specs.Loans.{LoanRun}
use Rattle.machine_model.specs.Runs.LoanSpan.{IsOut}
use Rattle.call_effects.specs.Rows.ServerRows.{destroy_row}
use Rattle.call_effects.proofs.ServedLemmas.{OfPlan, done}
use Rattle.loan_laws.proofs.Fates.EndedFateLemmas.{ended_fate}
use Rattle.loan_laws.proofs.Fates.ServedFateLemmas.{HasServedFate}
use Rattle.loan_laws.proofs.Lending.ClosedLendLemmas.{IsLendAt, lend_of_closed}

pub turned_out : (number : Number) (who : ThreadId) (m : Machine) (a : LoanRun) → IsOut number m a → IsOut number (turned_to who m) a
turned_out number who m a out = record { numbered = out.numbered; some = out.some; stands = out.stands }

module _ (number : Number) (m : Machine) (who : ThreadId) (w : List ℕ) (h : Matched m) where
  pub destroy_fate : OfPlan (λ plan. HasServedFate number m who w (done (turned_to who m) plan)) (destroy_row (turned_to who m) w)
  unfolding closed
  destroy_fate none n like accepted =
      let serial = (named_server (turned_to who m) (named_sid w)).0 in
      ended_fate number m (record { cause = ByStep; machine = n }) h (is_message_at (λ k. k == serial) (turned_to who m)) like.ledger
      (let same : n.next_number ≡ m.next_number = like.number in omega arith)
      (λ e a out.
      let at : IsLendAt (λ k. k == serial) (turned_to who m) number =
      lend_of_closed (turned_to who m) number (matched_at who m h) (λ k. k == serial) e a (turned_out number who m a out) in
      inr (inl (record {
        serial = at.serial;
        server = at.server;
        live = at.live;
        sent = at.sent;
        gone = ap (λ servers. servers at.serial) like.servers ∙ ap (λ b. if b then None else m.servers at.serial) at.closes;
      })))
