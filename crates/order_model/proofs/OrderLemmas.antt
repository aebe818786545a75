-- Slices one after another.
use Rattle.std.proofs.Common.{◌≡◌, ◌+◌, ◌≤◌, ℕ, List, [], ◌∷◌, ap, ◌∙◌, arith}
use Rattle.xk_base.specs.declared.ids.ThreadId.{ThreadId}
use Rattle.machine_model.specs.State.Machine.{Machine}
use Rattle.machine_laws.specs.History.{History, reached, behind, followed_by, history}
use Rattle.machine_laws.proofs.Histories.HistoryLemmas.{history_append, history_none}
use Rattle.order_model.specs.SlicesInTurn.{AreReadyInSlices, after_slice, order_events, slices_in_turn, steps_of_order}
use Rattle.order_model.specs.Slices.{slice, slice_events}
use Rattle.order_model.proofs.SliceLemmas.{slice_counts, slice_plays}

pub order_plays : (quantum limit : ℕ) (order : List ThreadId) (m : Machine) → AreReadyInSlices quantum order m
    → m.steps + steps_of_order quantum order m ≤ limit
    → history (order_events quantum order m) limit m ≡ reached (slices_in_turn quantum order m)
unfolding AreReadyInSlices order_events steps_of_order slices_in_turn
order_plays quantum limit [] m ready within = history_none limit m
order_plays quantum limit (who ∷ later) m ready within =
    let fits : m.steps + (slice quantum who m).done ≤ limit = omega (arith, within) in
    let counts : (after_slice quantum who m).steps ≡ m.steps + (slice quantum who m).done = slice_counts quantum who m in
    let rest : (after_slice quantum who m).steps + steps_of_order quantum later (after_slice quantum who m) ≤ limit = omega (arith, counts, within) in
    history_append (slice_events quantum who m) (order_events quantum later (after_slice quantum who m)) limit m
    ∙ (ap (λ (h : History). followed_by h (history (order_events quantum later (after_slice quantum who m)) limit)) (slice_plays quantum limit who m ready.0 fits)
    ∙ ap (behind (slice quantum who m).records) (order_plays quantum limit later (after_slice quantum who m) ready.1 rest))
