-- The step of a call changes no byte, and moves no page onto another.
use Rattle.std.proofs.lemmas.Option.{none-some}
use Rattle.machine_model.specs.Stepping.Step.{step}
use Rattle.machine_model.specs.Stepping.Acts.{call_by, words_if_call, executes}
use Rattle.machine_model.specs.Calling.Calls.{call}
use Rattle.machine_model.specs.State.Machine.{Machine, Thread}
use Rattle.machine_model.specs.Runs.Matched.{Matched}
use Rattle.machine_model.specs.State.Changes.{Outcome, Refused, Retried, Served}
use Rattle.std.proofs.Common.{◌≡◌, ℕ, List, Option, Some, None, refl, sym, ap, ◌∙◌, subst}
use Rattle.std.specs.Option.{option_and_then}
use Rattle.machine_model.specs.Runs.Isolation.{CallChangesNoByte}
use Rattle.confidentiality_laws.specs.EmptyPlaces.{CallMovesToEmptyPlaces, MovesToEmptyPlaces}
use Rattle.machine_model.proofs.Runs.KeptLemmas.{matched_at}
use Rattle.machine_laws.proofs.Threading.ThreadStepLemmas.{acted_call, step_ledger, turned_to}
use Rattle.call_effects.specs.Footprints.{LedgerPart, names}
use Rattle.call_effects.proofs.PartLemmas.{OfChanging, of_parts}
use Rattle.machine_model.proofs.Calling.TableLemmas.{◌also◌}
use Rattle.call_effects.proofs.ServedLemmas.{OfServed}
use Rattle.confidentiality_laws.proofs.Keeping.CallLemmas.{CallKeepsBytes, KeepsBytes, settled_ledger}
use Rattle.confidentiality_laws.proofs.Keeping.EndingCallLemmas.{destroy_keeps, return_memory_keeps, terminate_keeps}
use Rattle.confidentiality_laws.proofs.Keeping.MemoryCallLemmas.{decrease_keeps, increase_keeps, map_keeps, unmap_keeps, update_keeps}
use Rattle.confidentiality_laws.proofs.Keeping.SendCallLemmas.{forward_keeps, send_keeps, try_send_keeps}
use Rattle.confidentiality_laws.proofs.Keeping.StandingPageLemmas.{stays}

-- ---- the calls that can change the ledger

served_keeps : (m : Machine) (w : List ℕ) → Matched m → OfServed (λ change. MovesToEmptyPlaces m.ledger change.machine.ledger) (call m w)
served_keeps m w h =
    of_parts (λ parts. names parts LedgerPart) (λ change. MovesToEmptyPlaces m.ledger change.machine.ledger) m w each
    (λ change rest untouched. subst (MovesToEmptyPlaces m.ledger) (sym (rest.ledger untouched)) (stays m.ledger))
  where
    each : OfChanging (λ parts. names parts LedgerPart) (λ change. MovesToEmptyPlaces m.ledger change.machine.ledger) m w
    each =
        (λ e. map_keeps m w)
        also (λ e. increase_keeps m w h)
        also (λ e. decrease_keeps m w)
        also (λ e. update_keeps m w)
        also (λ e. send_keeps m w)
        also (λ e. unmap_keeps m w)
        also (λ e. return_memory_keeps m w)
        also (λ e. terminate_keeps m w h)
        also (λ e. try_send_keeps m w)
        also (λ e. destroy_keeps m w)
        also (λ e. forward_keeps m w)
        also tt

pub call_keeps : CallKeepsBytes call
call_keeps m w h = go (call m w) (served_keeps m w h)
  where
    go : (outcome : Outcome) → OfServed (λ change. MovesToEmptyPlaces m.ledger change.machine.ledger) outcome → KeepsBytes m outcome
    go (Refused error) of = stays m.ledger
    go Retried of = stays m.ledger
    go (Served change) of = of

-- ---- the step

pub call_step_moves : CallMovesToEmptyPlaces
unfolding call_by
call_step_moves m who words h acts c = go (m.threads who) refl c
  where
    go : (o : Option Thread) → m.threads who ≡ o
        → option_and_then (λ t. option_and_then (words_if_call t) (executes m who t)) o ≡ Some words
        → MovesToEmptyPlaces m.ledger (step m).machine.ledger
    go None q r = absurd (none-some words r)
    go (Some t) q r =
        subst (MovesToEmptyPlaces m.ledger)
        (sym (step_ledger m who t acts q
        ∙ (ap (λ (x : Machine). x.ledger) (acted_call m who words t r)
        ∙ settled_ledger (turned_to who m) (call (turned_to who m) words))))
        (call_keeps (turned_to who m) words (matched_at who m h))

pub call_step_keeps : CallChangesNoByte
call_step_keeps m who words h acts c = (call_step_moves m who words h acts c).bytes
