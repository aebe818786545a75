-- Whatever leads from a state to the next moves differences with their pages, and makes none.
use Rattle.std.proofs.Common.{◌≡◌, ℕ, Bool, true, false, Option, Some, None, refl, sym, ap, ◌∙◌, subst}
use Rattle.xk_base.specs.declared.ids.Pid.{Pid}
use Rattle.xk_base.specs.declared.ids.ThreadId.{ThreadId}
use Rattle.ledger_model.specs.Lawful.{IsLawful}
use Rattle.machine_model.specs.Runs.Isolation.{without_bytes}
use Rattle.machine_model.specs.Runs.Matched.{Matched}
use Rattle.machine_model.specs.Runs.Moments.{ByStep, ByPick, ByIrq, ByKill, ByTurn}
use Rattle.machine_model.specs.State.Changes.{settled}
use Rattle.machine_model.specs.State.Machine.{Claim, Machine}
use Rattle.machine_model.specs.State.Order.{actor, turn}
use Rattle.machine_model.specs.Stepping.Events.{killed, killed_if, picked, raised, raised_if}
use Rattle.machine_model.specs.Stepping.Reservations.{unreserved}
use Rattle.machine_model.specs.Stepping.Step.{Recorded, step}
use Rattle.machine_model.proofs.StepLemmas.{no_step}
use Rattle.machine_model.proofs.Runs.TimerLemmas.{pended_raised}
use Rattle.confidentiality_laws.specs.Differences.{CausesMakeNoDifference, OnlyMovesDifferences}
use Rattle.confidentiality_laws.specs.TwoRuns.{ActsAlike}
use Rattle.confidentiality_laws.proofs.Isolating.StepLemmas.{actor_alike}
use Rattle.confidentiality_laws.proofs.Ledgers.OtherBytesLemmas.{alike_through}
use Rattle.confidentiality_laws.proofs.Spreading.CallLemmas.{death_moves}
use Rattle.confidentiality_laws.proofs.Spreading.MovedPageLemmas.{stay_moves}
use Rattle.confidentiality_laws.proofs.Spreading.StepLemmas.{left_moves, step_moves}

any_step_moves : (m n : Machine) → Matched m → without_bytes m ≡ without_bytes n → ActsAlike m n
    → OnlyMovesDifferences m.ledger n.ledger (step m).machine.ledger (step n).machine.ledger
any_step_moves m n h e acts = go (actor m) refl
  where
    go : (o : Option ThreadId) → actor m ≡ o
        → OnlyMovesDifferences m.ledger n.ledger (step m).machine.ledger (step n).machine.ledger
    go None q =
        left_moves m.ledger n.ledger (step m).machine.ledger (step n).machine.ledger
        (ap (λ (r : Recorded). r.machine.ledger) (no_step m q))
        (ap (λ (r : Recorded). r.machine.ledger) (no_step n (sym (actor_alike m n (alike_through m n e)) ∙ q)))
    go (Some who) q = step_moves m n who h (record { but_bytes = e; loaded = acts who q }) q

raised_ledger : (k : ℕ) (o : Option Claim) (m : Machine) → (raised_if k o m).machine.ledger ≡ m.ledger
raised_ledger k None m = refl
raised_ledger k (Some claim) m = ap (λ (x : Machine). x.ledger) (pended_raised k claim m).is

pub irq_ledger : (k : ℕ) (m : Machine) → (raised k m).machine.ledger ≡ m.ledger
unfolding raised
irq_ledger k m = raised_ledger k (m.claims k) (unreserved m)

killed_moves : (alive : Bool) (pid : Pid) (m n : Machine) → IsLawful m.processes m.capacity m.ledger
    → without_bytes m ≡ without_bytes n
    → OnlyMovesDifferences m.ledger n.ledger (killed_if alive pid m).machine.ledger (killed_if alive pid n).machine.ledger
unfolding settled
killed_moves false pid m n lawful e = stay_moves m.ledger n.ledger
killed_moves true pid m n lawful e = death_moves m n pid lawful e

kill_moves : (pid : Pid) (m n : Machine) → Matched m → without_bytes m ≡ without_bytes n
    → OnlyMovesDifferences m.ledger n.ledger (killed pid m).machine.ledger (killed pid n).machine.ledger
unfolding killed
kill_moves pid m n h e =
    subst (λ b. OnlyMovesDifferences m.ledger n.ledger (killed_if (m.process pid.0).alive pid (unreserved m)).machine.ledger
    (killed_if b pid (unreserved n)).machine.ledger)
    (ap (λ (x : Machine). (x.process pid.0).alive) e)
    (killed_moves (m.process pid.0).alive pid (unreserved m) (unreserved n) h.body.ledger.lawful (ap unreserved e))

pub cause_moves : CausesMakeNoDifference
unfolding picked turn
cause_moves ByStep m n h e acts = any_step_moves m n h e (acts refl)
cause_moves (ByPick who) m n h e acts = stay_moves m.ledger n.ledger
cause_moves (ByIrq k) m n h e acts =
    left_moves m.ledger n.ledger (raised k m).machine.ledger (raised k n).machine.ledger (irq_ledger k m) (irq_ledger k n)
cause_moves (ByKill pid) m n h e acts = kill_moves pid m n h e
cause_moves ByTurn m n h e acts = stay_moves m.ledger n.ledger
