use Rattle.ledger_model.specs.Loans.{loans}
use Rattle.server_table.specs.ServersOf.{servers_of}
use Rattle.vm_memory.specs.Memory.{ledger}
use Rattle.xk_base.specs.Tables.Counting.{count_below}
use Rattle.kill_path.specs.Closing.{AreClosed, Closable, closable}
use Rattle.kill_path.specs.Keeping.{Stays}
use Rattle.kill_path.specs.Noted.{noted}
use Rattle.xk_parts.specs.Sound.{AreOpen}
use Rattle.kill_path.proofs.Servers.CloseLemmas.{gone_so_far, owned}
use Rattle.kill_path.proofs.closing.close_servers.Given as goal

-- the servers of the process that aren't there any more closed
abbrev pub invariant-loop-serial : goal.invariant-loop-serial
invariant-loop-serial g l =
    let old : Closable = closable (ledger g.W.SwapStore.held l.initial.mem) l.initial.servers l.initial.queues (noted l.initial.answered) in
    let now : Closable = closable (ledger g.W.SwapStore.held l.mem) l.servers l.queues (noted l.answered) in
    record {
      stays : Stays g.W.SwapStore l.initial.mem l.mem;
      messages : AreOpen (loans (ledger g.W.SwapStore.held l.mem)) l.servers l.queues;
      closed : AreClosed (gone_so_far l.pid old now) old now;
    }

abbrev pub decreases-loop-serial : goal.decreases-loop-serial
decreases-loop-serial g l =
    count_below (servers_of l.servers).next
    (owned l.pid (closable (ledger g.W.SwapStore.held l.mem) l.servers l.queues (noted l.answered)))
