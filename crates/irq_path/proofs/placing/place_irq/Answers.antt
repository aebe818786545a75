use Rattle.std.proofs.Common.{◌≤◌, List, length, ap, ◌∙◌, arith}
use Rattle.machine_model.specs.State.Changes.{Delivery}
use Rattle.xk_base.specs.declared.records.Rec.{Rec as Record}
use Rattle.irq_path.specs.Placing.{irq_place}
use Rattle.irq_path.proofs.PlaceLemmas.{goes_there, last, last_is, others, stays_last}
use Rattle.irq_path.proofs.placing.place_irq.Goals as goal

pub returns-then-place-as_slice-clause-place : goal.returns-then-place-as_slice-clause-place
returns-then-place-as_slice-clause-place c told k says =
    let log = c.args.log.now in
    let d : Delivery = record { pid = c.args.pid; number = k } in
    goes_there log told d says c.irq_place-place.result c.move_last.new.log (c.irq_place-place.ensures ∙ ap (irq_place c.args.pid) c.as_slice.ensures)
    (c.move_last.ensures.place (others log told d says) (last log told d says) (last_is log told d says))

pub returns-else-place-as_slice-clause-place : goal.returns-else-place-as_slice-clause-place
returns-else-place-as_slice-clause-place c told k says =
    let log = c.args.log.now in
    let d : Delivery = record { pid = c.args.pid; number = k } in
    let high : length c.as_slice-2.result.now ≤ c.irq_place-place.result = c.if-place-as_slice.false in
    stays_last log told d says c.irq_place-place.result (c.irq_place-place.ensures ∙ ap (irq_place c.args.pid) c.as_slice.ensures)
    (let long = ap (λ (records : List Record). length records) c.as_slice-2.ensures in omega (arith, long, high))
