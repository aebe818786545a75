-- How a fate is shown: of a number that is in before and after, of a loan that is kept, opens, or ends, and of one that is left as it is.
use Rattle.std.proofs.Common.{ℕ, ◌<◌, ◌≤◌, ◌⊎◌, inl, inr, refl, sym, subst}
use Rattle.xk_base.specs.declared.ids.Number.{Number}
use Rattle.ledger_model.specs.Loans.{LoanRun, loans}
use Rattle.ledger_model.proofs.Loans.OfNumberLemmas.{SameOf, fresh_still, stands_still}
use Rattle.machine_model.specs.Runs.LoanSpan.{Closes, IsIn, IsOut, Opens}
use Rattle.machine_model.specs.Runs.Matched.{Matched}
use Rattle.machine_model.specs.Runs.Moments.{Moment}
use Rattle.machine_model.specs.State.Machine.{Machine}
use Rattle.machine_model.proofs.Runs.SpanLemmas.{not_both, out_or_in}
use Rattle.loan_laws.specs.Fates.{Fate, IsGivenBack, IsKept}
use Rattle.loan_laws.specs.Leaving.{Leaves}
use Rattle.loan_laws.proofs.Leaving.NumberPageLemmas.{IsNameLeft, left_loans, name_left}
use Rattle.loan_laws.proofs.Leaving.SameRunLemmas.{one_loan}

-- a loan that stands in a ledger that leaves its number
pub out_still : (number : Number) (m n : Machine) (a : LoanRun) → Leaves number m.ledger n.ledger → IsOut number m a → IsOut number n a
out_still number m n a left out = record {
  numbered = out.numbered;
  some = out.some;
  stands = stands_still (loans m.ledger) (loans n.ledger) a
      (subst (λ k. SameOf k (loans m.ledger) (loans n.ledger)) (sym out.numbered) (left_loans number m.ledger n.ledger left)) out.stands;
}

pub in_still : (number : Number) (m n : Machine) → Leaves number m.ledger n.ledger → IsIn number m → IsIn number n
in_still number m n left fresh = fresh_still (loans m.ledger) (loans n.ledger) number (left_loans number m.ledger n.ledger left) fresh

module _ (number : Number) (m : Machine) (moment : Moment) where
  pub fate_in : IsIn number m → IsIn number moment.machine → m.next_number ≤ moment.machine.next_number → Fate number m moment
  fate_in before after climbs = record {
    opens = λ loan i o. absurd (not_both moment.machine number loan after o);
    keeps = λ a b x y. absurd (not_both m number a before x);
    ends = λ loan o i. absurd (not_both m number loan before o);
    gives_back = λ loan o i. absurd (not_both m number loan before o);
    climbs = climbs;
  }

  pub fate_opens : IsIn number m → ((loan : LoanRun) → IsOut number moment.machine loan → Opens number loan m moment)
      → m.next_number ≤ moment.machine.next_number → Fate number m moment
  fate_opens before opens climbs = record {
    opens = λ loan i o. opens loan o;
    keeps = λ a b x y. absurd (not_both m number a before x);
    ends = λ loan o i. absurd (not_both m number loan before o);
    gives_back = λ loan o i. absurd (not_both m number loan before o);
    climbs = climbs;
  }

  pub fate_ends : (a : LoanRun) → IsOut number m a → IsIn number moment.machine → Closes number a m moment → IsGivenBack m moment a
      → m.next_number ≤ moment.machine.next_number → Fate number m moment
  fate_ends a out after closes back climbs = record {
    opens = λ loan i o. absurd (not_both m number a i out);
    keeps = λ x y o p. absurd (not_both moment.machine number y after p);
    ends = λ loan o i. subst (λ r. Closes number r m moment) (one_loan m number a loan out o) closes;
    gives_back = λ loan o i. subst (λ r. IsGivenBack m moment r) (one_loan m number a loan out o) back;
    climbs = climbs;
  }

  pub fate_out : (a b : LoanRun) → IsOut number m a → IsOut number moment.machine b → IsKept number m moment a b
      → m.next_number ≤ moment.machine.next_number → Fate number m moment
  fate_out a b x y kept climbs = record {
    opens = λ loan i o. absurd (not_both m number a i x);
    keeps = λ c d v w. subst (λ r. IsKept number m moment r d) (one_loan m number a c x v)
        (subst (λ r. IsKept number m moment a r) (one_loan moment.machine number b d y w) kept);
    ends = λ loan o i. absurd (not_both moment.machine number b i y);
    gives_back = λ loan o i. absurd (not_both moment.machine number b i y);
    climbs = climbs;
  }

  left_kept : Leaves number m.ledger moment.machine.ledger → (a : LoanRun) → IsOut number m a → IsKept number m moment a a
  left_kept left a out =
      let name : (k : ℕ) → k < a.count → IsNameLeft m.ledger moment.machine.ledger a k =
      λ k low. name_left m.ledger moment.machine.ledger a k
      (subst (λ j. Leaves j m.ledger moment.machine.ledger) (sym out.numbered) left) out.stands low in
      record {
        kind = refl;
        count = refl;
        lender = λ home e. e;
        rights = λ home k e low. (name k low).right;
        holder = inl refl;
        bytes = λ k low. inl (name k low).contents;
      }

  pub fate_left : Matched m → Leaves number m.ledger moment.machine.ledger → m.next_number ≤ moment.machine.next_number
      → Fate number m moment
  fate_left h left climbs = go (out_or_in m number h)
    where
      go : IsIn number m ⊎ ((loan : LoanRun) × IsOut number m loan) → Fate number m moment
      go (inl fresh) = fate_in fresh (in_still number m moment.machine left fresh) climbs
      go (inr (a, out)) = fate_out a a out (out_still number m moment.machine a left out) (left_kept left a out) climbs
