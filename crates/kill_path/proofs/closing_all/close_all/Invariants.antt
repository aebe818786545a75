use Rattle.std.proofs.Common.{◌+◌}
use Rattle.ledger_model.specs.Loans.{loans}
use Rattle.vm_memory.specs.Memory.{ledger}
use Rattle.kill_path.specs.Closing.{AreClosed, Closable, closable}
use Rattle.kill_path.specs.Keeping.{Stays}
use Rattle.kill_path.specs.Noted.{noted}
use Rattle.xk_parts.specs.Sound.{AreOpen}
use Rattle.kill_path.proofs.Servers.CloseAllLemmas.{AreFrom, gone}
use Rattle.kill_path.proofs.closing_all.close_all.Given as goal

-- the servers that aren't there any more closed, and none of the pids so far is left
abbrev pub invariant-loop-k : goal.invariant-loop-k
invariant-loop-k g l =
    let old : Closable = closable (ledger g.W.SwapStore.held l.initial.mem) l.initial.servers l.initial.queues (noted l.initial.untold) in
    let now : Closable = closable (ledger g.W.SwapStore.held l.mem) l.servers l.queues (noted l.untold) in
    record {
      stays : Stays g.W.SwapStore l.initial.mem l.mem;
      messages : AreOpen (loans (ledger g.W.SwapStore.held l.mem)) l.servers l.queues;
      closed : AreClosed (gone old now) old now;
      from : AreFrom (l.k + 2) now;
    }
