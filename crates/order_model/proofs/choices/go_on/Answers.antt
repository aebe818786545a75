use Rattle.order_model.proofs.ChoiceLemmas.{free_goes}
use Rattle.snapshot_rows.specs.Machines.{machine_of}
use Rattle.order_model.proofs.choices.go_on.Goals as goal

pub returns-in-None : goal.returns-in-None
returns-in-None c file =
    free_goes c.args.orders.now.bound (machine_of file c.args.state.now) c.has_timer.result c.in-None.is (c.has_timer.ensures file)
