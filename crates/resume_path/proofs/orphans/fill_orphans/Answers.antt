use Rattle.std.proofs.Common.{arith, ◌+◌, subst, sym, ◌∙◌}
use Rattle.std.specs.Prelude.{slice_range}
use Rattle.ledger_model.specs.Places.{place_after}
use Rattle.snapshot_rows.specs.Order.{AscendInTwo, orphan_key}
use Rattle.suspend_image.proofs.OrderLemmas.{orphans_ascend}
use Rattle.resume_path.proofs.Orphaned.OrphanStepLemmas.{filled_all, filled_next, filled_none, filling_failed, filling_full, next_may, next_reached, orphan_found, orphan_read, orphan_stands, page_part, part_long}
use Rattle.resume_path.specs.Resumable.{state_ledger}
use Rattle.resume_path.proofs.orphans.fill_orphans.Goals as goal

-- src/orphans.rt
pub orphans-init : goal.orphans-init
orphans-init g c =
    filled_none g.W.SwapStore
    (state_ledger c.args.file.now c.args.state.now) c.args.from c.args.n c.args.to c.args.mem.now c.requires.sound c.requires.usable

pub offset-begin-requires-clause-order : goal.offset-begin-requires-clause-order
offset-begin-requires-clause-order g c =
    subst (AscendInTwo orphan_key) (sym c.as_slice.ensures) (orphans_ascend c.args.file.now c.args.state.now c.requires.resumable.spelled)

pub offset-begin-requires-clause-there : goal.offset-begin-requires-clause-there
offset-begin-requires-clause-there g c =
    orphan_found c.args.file.now c.args.state.now c.requires.resumable (place_after c.args.to c.orphans.i) (c.requires.there c.orphans.i c.orphans-test.true)
    c.as_slice.result.now c.as_slice.ensures

pub slice_bounds-fill-end : goal.slice_bounds-fill-end
slice_bounds-fill-end g c =
    let stands =
    orphan_stands c.args.file.now c.args.state.now c.requires.resumable (place_after c.args.to c.orphans.i) (c.requires.there c.orphans.i c.orphans-test.true)
    c.as_slice.result.now c.as_slice.ensures c.offset-begin.result c.offset-begin.ensures in
    omega (arith, stands)

pub fill-requires-clause-may : goal.fill-requires-clause-may
fill-requires-clause-may g c =
    next_may g.W.SwapStore
    (state_ledger c.args.file.now c.args.state.now) c.args.from c.args.n c.args.to c.args.mem.now c.orphans.mem c.orphans.i c.orphans.invariant
    c.orphans-test.true c.requires.homes

pub fill-requires-clause-home : goal.fill-requires-clause-home
fill-requires-clause-home g c =
    next_reached g.W.SwapStore
    (state_ledger c.args.file.now c.args.state.now) c.args.from c.args.n c.args.to c.args.mem.now c.orphans.mem c.orphans.i c.orphans.invariant
    c.orphans-test.true c.requires.homes

pub returns-in_err-fill-clause-failed : goal.returns-in_err-fill-clause-failed
returns-in_err-fill-clause-failed g c =
    filling_failed g.W.SwapStore
    (state_ledger c.args.file.now c.args.state.now) c.args.from c.args.n c.args.to c.args.mem.now c.orphans.mem c.orphans.i c.orphans.invariant
    c.from_residual.result c.fill.new.mem c.in_err-fill.ensures.failed

pub returns-in_err-fill-clause-full : goal.returns-in_err-fill-clause-full
returns-in_err-fill-clause-full g c = λ total l come.
    filling_full g.W.SwapStore
    (state_ledger c.args.file.now c.args.state.now) c.args.from c.args.n c.args.to c.args.mem.now c.orphans.mem c.orphans.i c.orphans.invariant
    c.from_residual.result c.in_err-fill.ensures.out total l come

pub orphans-preserved : goal.orphans-preserved
orphans-preserved g c =
    let there = c.requires.there c.orphans.i c.orphans-test.true in
    let read = orphan_read c.args.file.now c.args.state.now c.requires.resumable (place_after c.args.to c.orphans.i) there
    c.as_slice.result.now c.as_slice.ensures c.offset-begin.result c.offset-begin.ensures in
    let stands = orphan_stands c.args.file.now c.args.state.now c.requires.resumable (place_after c.args.to c.orphans.i) there
    c.as_slice.result.now c.as_slice.ensures c.offset-begin.result c.offset-begin.ensures in
    filled_next g.W.SwapStore
    (state_ledger c.args.file.now c.args.state.now) c.args.from c.args.n c.args.to c.args.mem.now c.orphans.mem c.orphans.i c.orphans.invariant c.fill.new.mem
    (slice_range c.args.file.now c.offset-begin.result (c.offset-begin.result + 4096)) read.0 c.orphans-test.true read.1
    (read.2 ∙ page_part c.args.file.now c.offset-begin.result) (part_long c.args.file.now c.offset-begin.result stands)
    c.in_ok-fill.ensures.keeps c.in_ok-fill.ensures.rights c.in_ok-fill.ensures.comes

pub returns-clause-comes : goal.returns-clause-comes
returns-clause-comes g c = λ total l come.
    filled_all g.W.SwapStore
    (state_ledger c.args.file.now c.args.state.now) c.args.from c.args.n c.args.to c.args.mem.now c.orphans.mem c.orphans.i c.orphans.invariant
    c.orphans-test.false c.orphans.auto.i-end total l come
