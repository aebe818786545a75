-- A call, a death and the end of a thread move differences with their pages, and make none.
use Rattle.std.proofs.Common.{◌≡◌, ℕ, Bool, true, false, List, Option, Some, None, refl, sym, ap, ◌∙◌}
use Rattle.std.proofs.lemmas.Option.{none-some}
use Rattle.xk_base.specs.declared.ids.Pid.{Pid}
use Rattle.xk_base.specs.declared.ids.ThreadId.{ThreadId}
use Rattle.ledger_model.specs.Lawful.{IsLawful}
use Rattle.ledger_model.specs.Ledger.{Page}
use Rattle.ledger_model.specs.Loans.{bare}
use Rattle.ledger_model.proofs.Pages.BareLemmas.{bare-lawful}
use Rattle.ledger_model.proofs.Stepping.WritingLemmas.{bare-loans}
use Rattle.machine_model.specs.Calling.Calls.{call}
use Rattle.machine_model.specs.Ending.Ends.{death, end_with_last_thread, has_threads, thread_ended}
use Rattle.machine_model.specs.Runs.Isolation.{without_bytes}
use Rattle.confidentiality_laws.specs.EmptyPlaces.{MovesToEmptyPlaces}
use Rattle.machine_model.specs.Runs.Matched.{Matched}
use Rattle.machine_model.specs.State.Changes.{Change, Outcome, Refused, Retried, Served}
use Rattle.machine_model.specs.State.Machine.{Machine}
use Rattle.machine_model.specs.State.Threads.{put_thread}
use Rattle.machine_laws.proofs.Calling.PageChangeLemmas.{matched_on, stands_now}
use Rattle.confidentiality_laws.specs.Differences.{OnlyMovesDifferences}
use Rattle.confidentiality_laws.proofs.Carrying.CallTableLemmas.{call_carries}
use Rattle.confidentiality_laws.proofs.Carrying.ChangeLemmas.{outcome_through}
use Rattle.confidentiality_laws.proofs.Carrying.EndLemmas.{death_through, thread_ended_through}
use Rattle.confidentiality_laws.proofs.Keeping.CallLemmas.{ledger_after}
use Rattle.confidentiality_laws.proofs.Keeping.CallStepLemmas.{call_keeps}
use Rattle.confidentiality_laws.proofs.Keeping.DeathLemmas.{death_keeps}
use Rattle.confidentiality_laws.proofs.Keeping.StandingPageLemmas.{stays}
use Rattle.confidentiality_laws.proofs.Ledgers.OtherBytesLemmas.{bare_through, machine_through, through}
use Rattle.confidentiality_laws.proofs.Ledgers.PairLemmas.{both, first, pair_page, paired, through_first}
use Rattle.confidentiality_laws.proofs.Spreading.MovedPageLemmas.{CarriesLedger, carried_moves}

-- ---- both are matched

pair_stood : (a b : Option Page) (page : Page) → pair_page a b ≡ Some page → (old : Page) × (a ≡ Some old)
pair_stood None b page e = absurd (none-some page e)
pair_stood (Some x) b page e = (x, refl)

module _ (m n : Machine) (e : without_bytes m ≡ without_bytes n) where
  same_bare : bare (paired m.ledger n.ledger) ≡ bare m.ledger
  same_bare =
      sym (bare_through first (paired m.ledger n.ledger))
      ∙ ap bare (through_first m.ledger n.ledger (ap (λ (x : Machine). x.ledger) e))

  pub both_lawful : IsLawful m.processes m.capacity m.ledger → IsLawful m.processes m.capacity (paired m.ledger n.ledger)
  both_lawful lawful = bare-lawful m.processes m.capacity m.ledger (paired m.ledger n.ledger) same_bare lawful

  pub both_matched : Matched m → Matched (both m n e)
  unfolding paired
  both_matched h =
      matched_on (paired m.ledger n.ledger) m (record {
        lawful = both_lawful h.body.ledger.lawful;
        same = bare-loans m.ledger (paired m.ledger n.ledger) same_bare;
        stand = λ p page q. let old = pair_stood (m.ledger.home p) (n.ledger.home p) page q in stands_now m h p old.0 old.1;
      }) h

-- ---- calls

outcome_ledger : (g : List ℕ → List ℕ) (m : Machine) (outcome : Outcome)
    → through g (ledger_after m outcome) ≡ ledger_after (machine_through g m) (outcome_through g outcome)
outcome_ledger g m (Refused error) = refl
outcome_ledger g m Retried = refl
outcome_ledger g m (Served change) = refl

call_ledger_carries : (w : List ℕ) → CarriesLedger (λ m. ledger_after m (call m w))
call_ledger_carries w g zeros m =
    outcome_ledger g m (call m w) ∙ ap (ledger_after (machine_through g m)) (call_carries g zeros m w)

pub call_moves : (m n : Machine) (w : List ℕ) → Matched m → without_bytes m ≡ without_bytes n
    → OnlyMovesDifferences m.ledger n.ledger (ledger_after m (call m w)) (ledger_after n (call n w))
call_moves m n w h e =
    carried_moves (λ x. ledger_after x (call x w)) (call_ledger_carries w) m n e
    (call_keeps (both m n e) w (both_matched m n e h)).bytes

-- ---- deaths

pub death_moves : (m n : Machine) (pid : Pid) → IsLawful m.processes m.capacity m.ledger → without_bytes m ≡ without_bytes n
    → OnlyMovesDifferences m.ledger n.ledger (death pid m).machine.ledger (death pid n).machine.ledger
death_moves m n pid lawful e =
    carried_moves (λ x. (death pid x).machine.ledger)
    (λ g zeros x. ap (λ (c : Change). c.machine.ledger) (death_through g pid x)) m n e
    (death_keeps pid (both m n e) (both_lawful m n e lawful)).bytes

-- ---- the end of a thread

last_keeps : (others : Bool) (pid : Pid) (m : Machine) → IsLawful m.processes m.capacity m.ledger
    → MovesToEmptyPlaces m.ledger (end_with_last_thread others pid m).machine.ledger
last_keeps true pid m lawful = stays m.ledger
last_keeps false pid m lawful = death_keeps pid m lawful

ended_keeps : (who : ThreadId) (a0 : ℕ) (m : Machine) → IsLawful m.processes m.capacity m.ledger
    → MovesToEmptyPlaces m.ledger (thread_ended who a0 m).machine.ledger
unfolding thread_ended
ended_keeps who a0 m lawful = last_keeps (has_threads (put_thread who None m) who.pid) who.pid (put_thread who None m) lawful

pub ended_moves : (m n : Machine) (who : ThreadId) (a0 : ℕ) → IsLawful m.processes m.capacity m.ledger
    → without_bytes m ≡ without_bytes n
    → OnlyMovesDifferences m.ledger n.ledger (thread_ended who a0 m).machine.ledger (thread_ended who a0 n).machine.ledger
ended_moves m n who a0 lawful e =
    carried_moves (λ x. (thread_ended who a0 x).machine.ledger)
    (λ g zeros x. ap (λ (c : Change). c.machine.ledger) (thread_ended_through g who a0 x)) m n e
    (ended_keeps who a0 (both m n e) (both_lawful m n e lawful)).bytes
