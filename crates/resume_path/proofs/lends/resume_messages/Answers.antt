use Rattle.std.proofs.Common.{ap, arith, length}
use Rattle.resume_path.proofs.Lending.LentLoopLemmas.{all_back, all_come, lent_none}
use Rattle.resume_path.proofs.lends.resume_messages.Goals as goal

-- src/lends.rt
pub servers-init : goal.servers-init
servers-init g c =
    lent_none g.W.SwapStore c.args.file.now c.args.state.now
    c.requires.resumable c.args.mem.now c.args.queues.now c.requires.come c.requires.back

pub returns-clause-come : goal.returns-clause-come
returns-clause-come g c =
    all_come g.W.SwapStore c.args.file.now c.args.state.now
    c.requires.resumable c.args.mem.now c.servers.mem c.servers.queues c.servers.i
    (omega (arith, c.servers-test.false, c.servers.auto.i-end, ap length c.as_slice-i-end.ensures)) c.servers.invariant

pub returns-clause-back : goal.returns-clause-back
returns-clause-back g c =
    all_back g.W.SwapStore c.args.file.now c.args.state.now
    c.requires.resumable c.args.mem.now c.servers.mem c.servers.queues c.servers.i
    (omega (arith, c.servers-test.false, c.servers.auto.i-end, ap length c.as_slice-i-end.ensures)) c.servers.invariant
