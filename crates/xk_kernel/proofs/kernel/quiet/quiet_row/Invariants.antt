use Rattle.std.proofs.Common.{◌≡◌}
use Rattle.vm_memory.specs.Sound.{IsSound}
use Rattle.vm_memory.specs.Using.Known.{Remembers}
use Rattle.xk_kernel.proofs.Quieting.RowOverLemmas.{HasGone}
use Rattle.xk_kernel.proofs.kernel.quiet.quiet_row.Given as goal

-- so many steps were done, each of them quiet; the memory is the one that was lent, and what is known of its pages is so
abbrev pub invariant-steps : goal.invariant-steps
invariant-steps g l = record {
  lent : l.user.mem.ghost_name ≡ l.fn.user.mem.ghost_name;
  pid : l.user.pid ≡ l.fn.user.pid;
  sound : IsSound g.W.SwapStore.slot_count l.user.mem.now;
  remembers : Remembers l.user.mem.now l.user.pid l.user.known;
  gone : HasGone g.W.SwapStore l.fn.who
      l.fn.user.pid l.fn.user.mem.now l.user.mem.now l.fn.thread l.thread l.fn.reserved l.reserved l.done;
}
