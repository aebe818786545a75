use Rattle.std.proofs.Common.{ap, arith, length}
use Rattle.resume_path.proofs.Orphaned.OrphanLoopLemmas.{orphans_back_all, orphans_come_back, orphans_none}
use Rattle.resume_path.proofs.orphans.resume_orphans.Goals as goal

-- src/orphans.rt
pub servers-init : goal.servers-init
servers-init g c =
    orphans_none g.W.SwapStore c.args.file.now c.args.state.now
    c.requires.resumable c.args.mem.now c.args.queues.now c.requires.empty c.requires.come

pub returns-clause-come : goal.returns-clause-come
returns-clause-come g c =
    orphans_come_back g.W.SwapStore c.args.file.now
    c.args.state.now c.requires.resumable c.args.mem.now c.servers.mem c.servers.queues c.servers.i
    (omega (arith, c.servers-test.false, c.servers.auto.i-end, ap length c.as_slice-i-end.ensures)) c.servers.invariant

pub returns-clause-back : goal.returns-clause-back
returns-clause-back g c =
    orphans_back_all g.W.SwapStore c.args.file.now
    c.args.state.now c.requires.resumable c.args.mem.now c.servers.mem c.servers.queues c.servers.i
    (omega (arith, c.servers-test.false, c.servers.auto.i-end, ap length c.as_slice-i-end.ensures)) c.servers.invariant
