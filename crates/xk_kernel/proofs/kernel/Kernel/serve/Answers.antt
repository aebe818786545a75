-- What a served call comes to is its row of the table.
use Rattle.std.proofs.Common.{◌≤◌, ◌<◌, ◌+◌, ◌∙◌, ap, subst, arith}
use Rattle.std.proofs.lemmas.Result.{IfOk-weaker}
use Rattle.machine_model.specs.State.Changes.{Served, answering}
use Rattle.machine_model.specs.State.Threads.{answer_to}
use Rattle.server_table.specs.ServersOf.{servers_of}
use Rattle.syscall_codec.specs.Calls.{Asks}
use Rattle.syscall_codec.specs.ReplyWords.{plain_words}
use Rattle.xk_kernel.specs.Calling.{CrowdsBy}
use Rattle.xk_kernel.specs.State.{machine_of}
use Rattle.xk_kernel.proofs.Calling.CallTableLemmas.{claim_is, connect_is, create_is, create_server_is, decrease_is, free_is, increase_is, join_is, map_is, none_left, plain_asked, process_id_is, thread_id_is, try_connect_is, unmap_is, update_is, yield_is}
use Rattle.xk_kernel.proofs.Calling.OverLemmas.{leaves_where}
use Rattle.xk_kernel.proofs.Memory.MadeLemmas.{serves_by, serves_row}
use Rattle.xk_kernel.proofs.kernel.Kernel.serve.Goals as goal

pub unreachable-requires : goal.unreachable-requires
unreachable-requires g c =
    let plain = c.requires.plain in
    none_left c.args.asked
    (record {
      map = c.in_default.not-MapMemory;
      yield = c.in_default.not-Yield;
      claim = c.in_default.not-ClaimInterrupt;
      free = c.in_default.not-FreeInterrupt;
      increase = c.in_default.not-IncreaseHeap;
      decrease = c.in_default.not-DecreaseHeap;
      update = c.in_default.not-UpdateMemoryFlags;
      create_server = c.in_default.not-CreateServerWithAddress;
      connect = c.in_default.not-Connect;
      try_connect = c.in_default.not-TryConnect;
      create = c.in_default.not-CreateThread;
      unmap = c.in_default.not-UnmapMemory;
      join = c.in_default.not-JoinThread;
      thread_id = c.in_default.not-GetThreadId;
      process_id = c.in_default.not-GetProcessId;
    })
    (plain_asked plain.0 c.args.asked plain.1 plain.2)

pub returns-in-UnmapMemory-clause-outcome : goal.returns-in-UnmapMemory-clause-outcome
unfolding machine_of
returns-in-UnmapMemory-clause-outcome g c words asks =
    serves_by _ _ _ _
    (c.unmap_memory.ensures.outcome ∙ unmap_is (machine_of g.W.SwapStore.held c.args.self.now) words
    (c.requires.free words asks)
    c.in-UnmapMemory.address c.in-UnmapMemory.size (subst (Asks words) c.in-UnmapMemory.is asks))

pub returns-in-UpdateMemoryFlags-clause-outcome : goal.returns-in-UpdateMemoryFlags-clause-outcome
unfolding machine_of
returns-in-UpdateMemoryFlags-clause-outcome g c words asks =
    serves_by _ _ _ _
    (c.update_memory_flags.ensures.outcome ∙ update_is (machine_of g.W.SwapStore.held c.args.self.now) words
    (c.requires.free words asks)
    c.in-UpdateMemoryFlags.address c.in-UpdateMemoryFlags.size c.in-UpdateMemoryFlags.flags (subst (Asks words) c.in-UpdateMemoryFlags.is asks))

pub returns-in-DecreaseHeap-clause-outcome : goal.returns-in-DecreaseHeap-clause-outcome
unfolding machine_of
returns-in-DecreaseHeap-clause-outcome g c words asks =
    serves_by _ _ _ _
    (c.decrease_heap.ensures.outcome ∙ decrease_is (machine_of g.W.SwapStore.held c.args.self.now) words
    (c.requires.free words asks)
    c.in-DecreaseHeap.bytes (subst (Asks words) c.in-DecreaseHeap.is asks))

pub returns-in-CreateThread-clause-outcome : goal.returns-in-CreateThread-clause-outcome
unfolding machine_of
returns-in-CreateThread-clause-outcome g c words asks =
    serves_by _ _ _ _
    (c.create_thread.ensures.outcome ∙ create_is (machine_of g.W.SwapStore.held c.args.self.now) words
    (c.requires.free words asks)
    c.in-CreateThread.entry c.in-CreateThread.sp c.in-CreateThread.args (subst (Asks words) c.in-CreateThread.is asks))

pub returns-in-JoinThread-clause-outcome : goal.returns-in-JoinThread-clause-outcome
unfolding machine_of
returns-in-JoinThread-clause-outcome g c words asks =
    serves_by _ _ _ _
    (c.join_thread.ensures.outcome ∙ join_is (machine_of g.W.SwapStore.held c.args.self.now) words
    (c.requires.free words asks)
    c.in-JoinThread.tid (subst (Asks words) c.in-JoinThread.is asks))

pub returns-in-ClaimInterrupt-clause-outcome : goal.returns-in-ClaimInterrupt-clause-outcome
unfolding machine_of
returns-in-ClaimInterrupt-clause-outcome g c words asks =
    serves_by _ _ _ _
    (c.claim_interrupt.ensures.outcome ∙ claim_is (machine_of g.W.SwapStore.held c.args.self.now) words
    (c.requires.free words asks)
    c.in-ClaimInterrupt.number c.in-ClaimInterrupt.handler c.in-ClaimInterrupt.arg (subst (Asks words) c.in-ClaimInterrupt.is asks))

pub returns-in-FreeInterrupt-clause-outcome : goal.returns-in-FreeInterrupt-clause-outcome
unfolding machine_of
returns-in-FreeInterrupt-clause-outcome g c words asks =
    serves_by _ _ _ _
    (c.free_interrupt.ensures.outcome ∙ free_is (machine_of g.W.SwapStore.held c.args.self.now) words
    (c.requires.free words asks)
    c.in-FreeInterrupt.number (subst (Asks words) c.in-FreeInterrupt.is asks))

pub returns-in-MapMemory-clause-outcome : goal.returns-in-MapMemory-clause-outcome
unfolding machine_of
returns-in-MapMemory-clause-outcome g c =
    IfOk-weaker c.map_memory.result _ _ (λ served serves words asks.
    serves_row _ _ _ _ _
    (map_is (machine_of g.W.SwapStore.held c.args.self.now) words
    (c.requires.free words asks)
    c.in-MapMemory.phys c.in-MapMemory.virt c.in-MapMemory.size c.in-MapMemory.flags (subst (Asks words) c.in-MapMemory.is asks))
    serves)
    c.map_memory.ensures.outcome

pub returns-in-MapMemory-clause-leaves : goal.returns-in-MapMemory-clause-leaves
unfolding machine_of
returns-in-MapMemory-clause-leaves g c =
    leaves_where c.map_memory.result
    (λ crowded words asks.
    subst (CrowdsBy g.W.SwapStore.held c.args.self.now)
    (map_is (machine_of g.W.SwapStore.held c.args.self.now) words
    (c.requires.free words asks)
    c.in-MapMemory.phys c.in-MapMemory.virt c.in-MapMemory.size c.in-MapMemory.flags (subst (Asks words) c.in-MapMemory.is asks))
    crowded)
    c.map_memory.ensures.leaves

pub returns-in-IncreaseHeap-clause-outcome : goal.returns-in-IncreaseHeap-clause-outcome
unfolding machine_of
returns-in-IncreaseHeap-clause-outcome g c =
    IfOk-weaker c.increase_heap.result _ _ (λ served serves words asks.
    serves_row _ _ _ _ _
    (increase_is (machine_of g.W.SwapStore.held c.args.self.now) words
    (c.requires.free words asks)
    c.in-IncreaseHeap.bytes (subst (Asks words) c.in-IncreaseHeap.is asks))
    serves)
    c.increase_heap.ensures.outcome

pub returns-in-IncreaseHeap-clause-leaves : goal.returns-in-IncreaseHeap-clause-leaves
unfolding machine_of
returns-in-IncreaseHeap-clause-leaves g c =
    leaves_where c.increase_heap.result
    (λ crowded words asks.
    subst (CrowdsBy g.W.SwapStore.held c.args.self.now)
    (increase_is (machine_of g.W.SwapStore.held c.args.self.now) words
    (c.requires.free words asks)
    c.in-IncreaseHeap.bytes (subst (Asks words) c.in-IncreaseHeap.is asks))
    crowded)
    c.increase_heap.ensures.leaves

pub returns-in-Yield-clause-outcome : goal.returns-in-Yield-clause-outcome
unfolding machine_of
returns-in-Yield-clause-outcome g c words asks =
    serves_by _ _ _ _
    (ap (λ m. Served (answering (answer_to c.args.self.now.cursor plain_words) m)) c.turn.ensures.machine
    ∙ yield_is (machine_of g.W.SwapStore.held c.args.self.now) words
    (c.requires.free words asks)
    (subst (Asks words) c.in-Yield.is asks))

pub returns-in-GetThreadId-clause-outcome : goal.returns-in-GetThreadId-clause-outcome
unfolding machine_of
returns-in-GetThreadId-clause-outcome g c words asks =
    serves_by _ _ _ _
    (thread_id_is (machine_of g.W.SwapStore.held c.args.self.now) words
    (c.requires.free words asks)
    (subst (Asks words) c.in-GetThreadId.is asks))

pub returns-in-GetProcessId-clause-outcome : goal.returns-in-GetProcessId-clause-outcome
unfolding machine_of
returns-in-GetProcessId-clause-outcome g c words asks =
    serves_by _ _ _ _
    (process_id_is (machine_of g.W.SwapStore.held c.args.self.now) words
    (c.requires.free words asks)
    (subst (Asks words) c.in-GetProcessId.is asks))

pub returns-in-CreateServerWithAddress-clause-outcome : goal.returns-in-CreateServerWithAddress-clause-outcome
unfolding machine_of
returns-in-CreateServerWithAddress-clause-outcome g c words asks =
    serves_by _ _ _ _
    (c.create_server.ensures.outcome ∙ create_server_is (machine_of g.W.SwapStore.held c.args.self.now) words
    (c.requires.free words asks)
    c.in-CreateServerWithAddress.sid (subst (Asks words) c.in-CreateServerWithAddress.is asks))

pub returns-in-Connect-clause-outcome : goal.returns-in-Connect-clause-outcome
unfolding machine_of
returns-in-Connect-clause-outcome g c words asks =
    serves_by _ _ _ _
    (c.connect.ensures.outcome ∙ connect_is (machine_of g.W.SwapStore.held c.args.self.now) words
    (c.requires.free words asks)
    c.in-Connect.sid (subst (Asks words) c.in-Connect.is asks))

pub returns-in-TryConnect-clause-outcome : goal.returns-in-TryConnect-clause-outcome
unfolding machine_of
returns-in-TryConnect-clause-outcome g c words asks =
    serves_by _ _ _ _
    (c.try_connect.ensures.outcome ∙ try_connect_is (machine_of g.W.SwapStore.held c.args.self.now) words
    (c.requires.free words asks)
    c.in-TryConnect.sid (subst (Asks words) c.in-TryConnect.is asks))

-- each server that was made took a step
pub create_server-requires-clause-serials : goal.create_server-requires-clause-serials
unfolding machine_of
create_server-requires-clause-serials g c =
    let serials : (servers_of c.args.self.now.servers).next ≤ c.args.self.now.steps + 1 = c.requires.calls.matched.rest.stepped.serial_steps in
    let few : c.args.self.now.steps < 4000000000 = c.requires.calls.few in
    omega arith

pub create_server-requires-clause-ready : goal.create_server-requires-clause-ready
unfolding machine_of
create_server-requires-clause-ready g c = c.requires.calls.ready
