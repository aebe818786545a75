use Rattle.std.proofs.Common.{Option, refl, sym, subst, inr}
use Rattle.std.specs.Prelude.{MatchOption}
use Rattle.machine_model.specs.Runs.Matched.{Matched}
use Rattle.suspend_image.specs.declared.faults.StateError.{StateError}
use Rattle.snapshot_matching.specs.declared.parts.Part.{Part}
use Rattle.snapshot_rows.specs.Machines.{machine_of}
use Rattle.snapshot_matching.specs.UnmatchedParts.{IsFirstUnmatched}
use Rattle.suspend_image.specs.FileFaults.{IsRefused}
use Rattle.suspend_image.proofs.FaultLemmas.{rows_in_order}
use Rattle.suspend_image.proofs.reading.read_state.Goals as goal

pub first_unmatched-requires : goal.first_unmatched-requires
first_unmatched-requires c = rows_in_order c.args.bytes.now c.in_ok-state.state c.in_ok-state.ensures.spelled

pub returns-in-Some-clause-fault : goal.returns-in-Some-clause-fault
returns-in-Some-clause-fault c =
    let file = c.args.bytes.now in
    let state = c.in_ok-state.state in
    let first = subst (λ (o : Option Part). MatchOption o (Matched (machine_of file state)) (IsFirstUnmatched (machine_of file state))) c.in-Some.is (c.in_ok-first_unmatched.ensures file) in
    subst (λ (e : StateError). IsRefused file e) (sym c.unmatched.ensures)
    (inr (record { state = state; spelled = c.in_ok-state.ensures.spelled; part = c.in-Some.part; first = first; what = refl; at = refl }))
