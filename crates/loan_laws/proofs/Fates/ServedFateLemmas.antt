-- The fate of a number in a served call: from its change to the state after the step.
use Rattle.std.proofs.Common.{◌≡◌, ℕ, ◌≤◌, true, false, List, Option, Some, None, refl, sym, arith, subst}
use Rattle.std.specs.Prelude.{is_none}
use Rattle.std.proofs.lemmas.Bool.{false≢true}
use Rattle.xk_base.specs.declared.ids.Number.{Number}
use Rattle.xk_base.specs.declared.ids.Pid.{Pid}
use Rattle.xk_base.specs.declared.ids.ThreadId.{ThreadId}
use Rattle.machine_model.specs.Runs.LoanSpan.{IsServedCallOf}
use Rattle.machine_model.specs.Runs.Matched.{Matched}
use Rattle.machine_model.specs.Runs.Moments.{ByStep}
use Rattle.machine_model.specs.State.Changes.{Change}
use Rattle.machine_model.specs.State.Machine.{Machine}
use Rattle.machine_model.specs.State.Order.{actor}
use Rattle.machine_model.specs.Stepping.Acts.{call_by, is_call_served}
use Rattle.machine_laws.proofs.Threading.ThreadStepLemmas.{turned_to}
use Rattle.loan_laws.specs.Fates.{Fate}
use Rattle.loan_laws.specs.Leaving.{Leaves}
use Rattle.loan_laws.proofs.Fates.FateLemmas.{fate_left}
use Rattle.loan_laws.proofs.Fates.LikeLemmas.{IsLike}
use Rattle.loan_laws.proofs.Leaving.NumberPageLemmas.{leaves_itself}

-- what a refusal says is there
pub some_of : {A : Type 0} → (o : Option A) → is_none o ≡ false → (x : A) × (o ≡ Some x)
some_of None e = absurd (false≢true (sym e))
some_of (Some x) e = (x, refl)

-- the thread does the next step, and makes this call
pub record IsCaller (m : Machine) (who : ThreadId) (w : List ℕ) : Type 0 where
  pub acts : actor m ≡ Some who
  pub call : call_by m who ≡ Some w

-- the number has its fate in the step, where the call is served with this change
abbrev pub HasServedFate : Number → Machine → ThreadId → List ℕ → Change → Type 0
HasServedFate number m who w change =
    (n : Machine) → IsLike n change.machine → is_call_served m who w ≡ true → Fate number m (record { cause = ByStep; machine = n })

pub served_call : (m : Machine) (who : ThreadId) (w : List ℕ) (n : Machine) (pid : Pid) → IsCaller m who w → is_call_served m who w ≡ true
    → who.pid ≡ pid → IsServedCallOf pid w m (record { cause = ByStep; machine = n })
served_call m who w n pid calls accepted own =
    record { who = who; step = refl; by_who = calls.acts; of_process = own; call = calls.call; served = accepted }

-- ---- changes that leave every number

pub record LeavesAll (m : Machine) (change : Change) : Type 0 where
  pub leaves : (number : Number) → Leaves number m.ledger change.machine.ledger
  pub climbs : m.next_number ≤ change.machine.next_number

pub leaves_all : (m : Machine) (change : Change) → change.machine.ledger ≡ m.ledger → change.machine.next_number ≡ m.next_number → LeavesAll m change
leaves_all m change same number = record {
  leaves = λ k. subst (λ l. Leaves k m.ledger l) (sym same) (leaves_itself k m.ledger);
  climbs = omega arith;
}

pub leaving_fate : (number : Number) (m : Machine) (who : ThreadId) (w : List ℕ) → Matched m → (change : Change)
    → LeavesAll (turned_to who m) change → HasServedFate number m who w change
leaving_fate number m who w h change all n like accepted =
    fate_left number m (record { cause = ByStep; machine = n }) h
    (subst (λ l. Leaves number m.ledger l) (sym like.ledger) (all.leaves number))
    (subst (λ k. m.next_number ≤ k) (sym like.number) all.climbs)
