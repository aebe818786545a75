use Rattle.std.proofs.Common.{◌≡◌, ◌∙◌, Bool, ap, arith, false, sym, true, ℕ}
use Rattle.std.specs.Option.{option_map_or}
use Rattle.std.specs.Prelude.{◌&&◌}
use Rattle.snapshot_rows.specs.Machines.{machine_of, threads_of}
use Rattle.xk_base.specs.Tables.Circle.{id_at, thread_ids}
use Rattle.order_model.specs.Failing.{is_asked, is_stuck, is_stuck_at}
use Rattle.order_model.proofs.FailingLemmas.{both_pass, none_found, some_found}
use Rattle.order_model.proofs.failing.some_stuck.Goals as goal

pub returns-then-is_stuck : goal.returns-then-is_stuck
returns-then-is_stuck c file =
    let stuck : ℕ → Bool = λ k. is_asked c.args.who (id_at k) && is_stuck_at (machine_of file c.args.state.now) (id_at k) in
    let asked : is_asked c.args.who (id_at c.loop-place.place) ≡ true =
    ap (is_asked c.args.who) (sym c.id_at-id.ensures) ∙ (sym c.is_asked.ensures ∙ c.if-is_asked.true) in
    let waits : is_stuck_at (machine_of file c.args.state.now) (id_at c.loop-place.place) ≡ true =
    (λ i. option_map_or (λ thread. is_stuck thread.state) (threads_of (sym c.as_slice.ensures i) (sym c.id_at-id.ensures i)) false)
    ∙ (sym c.is_stuck.ensures ∙ c.if-is_stuck.true) in
    some_found (thread_ids c.args.state.now.n) c.loop-place.place stuck (omega arith) (both_pass _ _ asked waits)

pub returns : goal.returns
returns c file =
    let stuck : ℕ → Bool = λ k. is_asked c.args.who (id_at k) && is_stuck_at (machine_of file c.args.state.now) (id_at k) in
    none_found (thread_ids c.args.state.now.n) stuck (λ k low. c.loop-place.invariant k (omega (arith, low)))
