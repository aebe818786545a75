-- The delivery over the parts is the machine's.
use Rattle.std.proofs.Common.{◌≡◌, Bool, subst, sym}
use Rattle.std.specs.Prelude.{◌≤◌, is_some}
use Rattle.irq_claims.specs.declared.claims.Claims.{Claims}
use Rattle.irq_path.specs.Delivering.{Delivers as DeliversOver, taken}
use Rattle.machine_model.specs.State.Changes.{settled}
use Rattle.machine_model.specs.State.Machine.{Machine}
use Rattle.machine_model.specs.Stepping.Interrupts.{delivered}
use Rattle.sv32_space.specs.Tie.{Held}
use Rattle.thread_table.specs.Shown.{process_count}
use Rattle.thread_table.specs.declared.table.Threads.{Threads}
use Rattle.vm_memory.specs.Memory.{processes}
use Rattle.xk_base.specs.Log.{LogState}
use Rattle.xk_base.specs.declared.ids.Pid.{Pid}
use Rattle.xk_base.specs.declared.limits.TheConstants.{RECORD_LIMIT}
use Rattle.xk_parts.specs.Parts.{tables_of}
use Rattle.xk_ports.specs.declared.store.SwapStore.{Ghosts as SwapStore}
use Rattle.xk_kernel.specs.Sound.{IsWhole}
use Rattle.xk_kernel.specs.State.{machine_of}
use Rattle.xk_kernel.specs.Telling.{Tells}
use Rattle.xk_kernel.specs.declared.kernel.Kernel.{Kernel}

module _ {W : Type 0} (held : W → Held) (k : Kernel W) (pid : Pid) where
  abbrev m : Machine
  m = machine_of held k

  -- what the kernel then is and tells, and whether a handler starts
  pub record Delivers (new : Kernel W) (answer : Bool) : Type 0 where
    pub tells : Tells held k new (settled (delivered pid m))
    pub starts : answer ≡ is_some (delivered pid m).delivery

  -- the kernel with what a delivery takes
  abbrev pub with_parts : Threads → Claims → LogState → Kernel W
  with_parts threads claims log = record k { threads = threads; claims = claims; log = log }

  pub over_parts : (threads : Threads) (claims : Claims) (log : LogState) (answer : Bool)
      → DeliversOver pid (taken k.threads k.claims k.log) (taken threads claims log) answer → Delivers (with_parts threads claims log) answer
  unfolding machine_of
  over_parts threads claims log answer delivers =
      let done = delivers (tables_of k.threads k.servers k.queues k.log) (machine_of held k) in
      record { tells = record { machine = done.machine; log = done.log }; starts = done.answer }

-- with as many threads, and as much room, the kernel stays whole
pub delivered_whole : {W : Type 0} (S : SwapStore W) (k : Kernel W) (threads : Threads) (claims : Claims) (log : LogState)
    → process_count threads ≡ process_count k.threads → log.room ≡ k.log.room → IsWhole S k
    → IsWhole S (record k { threads = threads; claims = claims; log = log })
delivered_whole S k threads claims log count room whole = record {
  mem = whole.mem;
  threads = subst (λ n. n ≡ processes k.mem) (sym count) whole.threads;
  procs = whole.procs;
  cursor = whole.cursor;
  room = subst (λ room. RECORD_LIMIT ≤ room) (sym room) whole.room;
  servers = whole.servers;
}
