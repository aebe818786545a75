use Rattle.std.proofs.Common.{sym, ◌∙◌, arith}
use Rattle.thread_table.specs.Shown.{threads_of}
use Rattle.xk_kernel.proofs.Calling.CreateLemmas.{create_finds_none, create_starts}
use Rattle.xk_kernel.proofs.Acting.TidLemmas.{IsFreeTid, found_is_free}
use Rattle.xk_kernel.proofs.kernel.Kernel.create_thread.Goals as goal

pub returns-in_default-clause-outcome : goal.returns-in_default-clause-outcome
returns-in_default-clause-outcome g c =
    create_finds_none g.W.SwapStore.held c.args.self.now c.args.entry c.args.sp c.args.args c.if-entry-ne0.false (sym c.free_tid.ensures ∙ c.in_default.is)

pub start-requires-clause-tid : goal.start-requires-clause-tid
start-requires-clause-tid g c =
    let free : IsFreeTid (threads_of c.args.self.now.threads) c.args.self.now.cursor.pid c.in-Some.tid = found_is_free _ _ _ (sym c.in-Some.ensures) in
    (omega (arith, free.above), free.within)

pub start-requires-clause-free : goal.start-requires-clause-free
start-requires-clause-free g c =
    let free : IsFreeTid (threads_of c.args.self.now.threads) c.args.self.now.cursor.pid c.in-Some.tid = found_is_free _ _ _ (sym c.in-Some.ensures) in
    free.free

pub returns-clause-outcome : goal.returns-clause-outcome
returns-clause-outcome g c =
    create_starts g.W.SwapStore.held c.args.self.now c.args.entry c.args.sp c.args.args c.if-entry-ne0.false c.start.new.self c.in-Some.tid c.new_thread.result
    (sym c.in-Some.ensures) c.start.ensures.after c.new_thread.ensures
