-- Of a step only the ledger, the servers, the processes and the next number count for a fate. What a step by a thread leaves of them
-- is what its act leaves, since the timer leaves them alone.
use Rattle.std.proofs.Common.{◌≡◌, ℕ, List, Option, Some, None, refl, ap, ◌∙◌}
use Rattle.std.specs.Option.{option_and_then}
use Rattle.std.proofs.lemmas.Option.{none-some}
use Rattle.xk_base.specs.declared.ids.ThreadId.{ThreadId}
use Rattle.machine_model.specs.Calling.Calls.{call}
use Rattle.machine_model.specs.State.Changes.{Change, call_settled, Served, settled}
use Rattle.machine_model.specs.State.Machine.{Machine, Thread}
use Rattle.machine_model.specs.State.Order.{actor}
use Rattle.machine_model.specs.Stepping.Acts.{call_by, executes, words_if_call}
use Rattle.machine_model.specs.Stepping.Step.{acted, counted, step}
use Rattle.machine_model.specs.Stepping.Timer.{timed}
use Rattle.machine_model.proofs.Runs.TimerLemmas.{IsRaised, timed_raised}
use Rattle.machine_laws.proofs.Threading.ThreadStepLemmas.{acted_call, step_of_thread, turned_to}

-- the same loans, servers, processes and next number
pub record IsLike (x y : Machine) : Type 0 where
  pub ledger : x.ledger ≡ y.ledger
  pub servers : x.servers ≡ y.servers
  pub process : x.process ≡ y.process
  pub number : x.next_number ≡ y.next_number

pub like_itself : (x : Machine) → IsLike x x
like_itself x = record { ledger = refl; servers = refl; process = refl; number = refl }

pub like_both : (x y z : Machine) → IsLike x y → IsLike y z → IsLike x z
like_both x y z a b = record {
  ledger = a.ledger ∙ b.ledger;
  servers = a.servers ∙ b.servers;
  process = a.process ∙ b.process;
  number = a.number ∙ b.number;
}

pub like_same : (x y : Machine) → x ≡ y → IsLike x y
like_same x y e = record {
  ledger = ap (λ (m : Machine). m.ledger) e;
  servers = ap (λ (m : Machine). m.servers) e;
  process = ap (λ (m : Machine). m.process) e;
  number = ap (λ (m : Machine). m.next_number) e;
}

pub like_raised : (x y : Machine) → IsRaised x y → IsLike y x
like_raised x y r = record {
  ledger = ap (λ (m : Machine). m.ledger) r.is;
  servers = ap (λ (m : Machine). m.servers) r.is;
  process = ap (λ (m : Machine). m.process) r.is;
  number = ap (λ (m : Machine). m.next_number) r.is;
}

pub step_like : (m : Machine) (who : ThreadId) (t : Thread) → actor m ≡ Some who → m.threads who ≡ Some t
    → IsLike (step m).machine (acted (turned_to who m) t).machine
step_like m who t e there =
    let done = counted (turned_to who m) (Some t) (acted (turned_to who m) t) in
    let like = like_both (step m).machine (timed done).machine done.machine
    (like_same (step m).machine (timed done).machine (step_of_thread m who t e there))
    (like_raised done.machine (timed done).machine (timed_raised done)) in
    record { ledger = like.ledger; servers = like.servers; process = like.process; number = like.number }

-- of a call it is what the call settles
pub call_like : (m : Machine) (who : ThreadId) (w : List ℕ) → actor m ≡ Some who → call_by m who ≡ Some w
    → IsLike (step m).machine (call_settled (turned_to who m) (call (turned_to who m) w)).machine
unfolding call_by
call_like m who w e c = go (m.threads who) refl c
  where
    go : (o : Option Thread) → m.threads who ≡ o → option_and_then (λ t. option_and_then (words_if_call t) (executes m who t)) o ≡ Some w
        → IsLike (step m).machine (call_settled (turned_to who m) (call (turned_to who m) w)).machine
    go None q r = absurd (none-some w r)
    go (Some t) q r =
        like_both (step m).machine (acted (turned_to who m) t).machine (call_settled (turned_to who m) (call (turned_to who m) w)).machine
        (step_like m who t e q)
        (like_same (acted (turned_to who m) t).machine (call_settled (turned_to who m) (call (turned_to who m) w)).machine (acted_call m who w t r))

-- answers leave them
pub settled_like : (change : Change) → IsLike (settled change).machine change.machine
unfolding settled
settled_like change = record { ledger = refl; servers = refl; process = refl; number = refl }

pub served_like : (m : Machine) (change : Change) → IsLike (call_settled m (Served change)).machine change.machine
unfolding call_settled settled
served_like m change = record { ledger = refl; servers = refl; process = refl; number = refl }
