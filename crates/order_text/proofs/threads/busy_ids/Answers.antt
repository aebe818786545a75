use Rattle.std.proofs.Common.{◌≡◌, ℕ, Bool, arith}
use Rattle.order_model.specs.Endings.{is_busy_of}
use Rattle.snapshot_rows.specs.Machines.{machine_of}
use Rattle.order_text.proofs.BusyLemmas.{all_listed, next_listed}
use Rattle.xk_base.specs.Tables.Circle.{id_at, thread_ids}
use Rattle.xk_base.specs.Tables.Counting.{listed_below}
use Rattle.order_text.proofs.threads.busy_ids.Goals as goal

pub loop-place-init : goal.loop-place-init
unfolding listed_below
loop-place-init c file = c.new-ids.ensures.items

pub loop-place-preserved : goal.loop-place-preserved
loop-place-preserved c file =
    let test : ℕ → Bool = λ k. is_busy_of (machine_of file c.args.state.now) c.args.pid (id_at k) in
    next_listed test c.loop-place.place c.loop-place.ids.items c.add_if_busy.new.ids.items (c.loop-place.invariant file)
    (c.in_ok-add_if_busy.ensures file)

pub returns : goal.returns
returns c file =
    let same : c.loop-place.place ≡ thread_ids c.args.state.now.n = omega (arith, c.loop-place-test.false) in
    all_listed c.args.state.now.n c.loop-place.place (is_busy_of (machine_of file c.args.state.now) c.args.pid) c.loop-place.ids.items
    (c.loop-place.invariant file) same
