use Rattle.std.proofs.Common.{◌≡◌, ℕ, Bool, arith}
use Rattle.order_model.specs.Turns.{is_ready_in}
use Rattle.order_model.proofs.TurnLemmas.{all_listed, all_ready, next_listed}
use Rattle.xk_base.specs.Tables.Circle.{id_at, thread_ids}
use Rattle.xk_base.specs.Tables.Counting.{listed_below}
use Rattle.order_model.proofs.turns.ready_ids.Goals as goal

pub loop-place-init : goal.loop-place-init
unfolding listed_below
loop-place-init c = c.new-ids.ensures.items

pub loop-place-preserved : goal.loop-place-preserved
loop-place-preserved c =
    let test : ℕ → Bool = λ k. is_ready_in c.args.state.now.threads (id_at k) in
    next_listed test c.loop-place.place c.loop-place.ids.items c.add_if_ready.new.ids.items c.loop-place.invariant c.in_ok-add_if_ready.ensures

pub returns : goal.returns
returns c file =
    let same : c.loop-place.place ≡ thread_ids c.args.state.now.n = omega (arith, c.loop-place-test.false) in
    all_ready file c.args.state.now c.loop-place.ids.items
    (all_listed c.args.state.now.n c.loop-place.place (is_ready_in c.args.state.now.threads) c.loop-place.ids.items c.loop-place.invariant same)
