-- A thread that is put back is in the table, and the machine is as it was with the thread in hand.
use Rattle.std.proofs.Common.{◌+◌, ap}
use Rattle.xk_base.specs.Log.{LogState}
use Rattle.xk_kernel.proofs.Acting.ThreadLemmas.{in_table}
use Rattle.xk_kernel.proofs.Quieting.TurnLemmas.{put_back, whole_back}
use Rattle.xk_kernel.proofs.kernel.Kernel.take_back.Goals as goal

-- src/kernel/quiet.rt
pub thread_mut-requires : goal.thread_mut-requires
thread_mut-requires g c = in_table g.W.SwapStore.held c.args.self.now c.args.who c.requires.there

pub returns-clause-machine : goal.returns-clause-machine
returns-clause-machine g c =
    put_back g.W.SwapStore.held c.args.self.now _ c.args.who c.args.thread (c.thread_mut.ensures.writes c.args.thread)
    c.reservation-self.result c.args.reserved c.reservation-self.ensures (c.args.self.now.steps + c.args.done) c.clear.new.self

pub returns-clause-whole : goal.returns-clause-whole
returns-clause-whole g c whole =
    whole_back g.W.SwapStore c.args.self.now _ (c.thread_mut.ensures.count c.args.thread)
    c.reservation-self.result (c.args.self.now.steps + c.args.done) c.clear.new.self (ap (λ (log : LogState). log.room) c.clear.ensures) whole

pub returns-clause-puts : goal.returns-clause-puts
returns-clause-puts g c other = record { threads = c.thread_mut.ensures.writes other; count = c.thread_mut.ensures.count other }
