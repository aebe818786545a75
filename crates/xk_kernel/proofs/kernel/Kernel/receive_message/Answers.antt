-- A message is received or waited for, or the caller refused.
use Rattle.std.proofs.Common.{refl, ◌∙◌, rules}
use Rattle.ledger_model.specs.Loans.{loans}
use Rattle.kill_path.proofs.FitLemmas.{open_loans}
use Rattle.machine_model.specs.State.Changes.{Refused}
use Rattle.send_path.proofs.Taken.{CallParts, tables_of, without_memory, taken}
use Rattle.send_path.specs.Rows.{receive_row}
use Rattle.vm_memory.specs.Memory.{ledger}
use Rattle.xk_kernel.specs.State.{machine_of}
use Rattle.xk_kernel.proofs.Acting.OrderLemmas.{ready_is}
use Rattle.xk_kernel.proofs.Messaging.PartsLemmas.{left_without_memory, left_ready, machine_tables, new_whole, tables, tables_sound, with_new}
use Rattle.xk_kernel.proofs.Messaging.ReceivedLemmas.{received_sound}
use Rattle.xk_kernel.proofs.Messaging.RowLemmas.{served_room, served_settles, undone_settles}
use Rattle.xk_kernel.proofs.kernel.Kernel.receive_message.Given.{Over}
use Rattle.xk_kernel.proofs.kernel.Kernel.receive_message.Goals as goal
use Rattle.xk_parts.specs.Parts.{machine_at, no_store}
use Rattle.xk_parts.specs.Sound.{AreSound}

-- the parts that are left
abbrev left : (g : Over) → goal.In-Ok g → CallParts g.row.W.Denot
left g c = record {
  mem = c.args.self.now.mem;
  tables = tables_of c.receive-received.new.threads c.args.self.now.servers c.receive-received.new.queues c.receive-received.new.log;
}

left_sound : (g : Over) (c : goal.In-Ok g) → AreSound g.W.SwapStore c.args.self.now.cursor (taken (left g c))
left_sound g c =
    let k = c.args.self.now in
    received_sound g.W.SwapStore k c.requires.calls c.args.sid c.args.waits (left g c).tables c.in-Ok.ensures.row c.requires.free
    refl c.in-Ok.ensures.sound.seats
    (c.in-Ok.ensures.loans (loans (ledger g.W.SwapStore.held k.mem))
    (open_loans (loans (ledger g.W.SwapStore.held k.mem)) k.servers k.queues c.requires.calls.whole.servers.messages))

pub receive-received-requires-clause-ready : goal.receive-received-requires-clause-ready
receive-received-requires-clause-ready g c = ready_is g.W.SwapStore.held c.args.self.now c.args.self.now.cursor ∙ c.requires.calls.ready

pub receive-received-requires-clause-sound : goal.receive-received-requires-clause-sound
receive-received-requires-clause-sound g c =
    tables_sound g.W.SwapStore c.args.self.now c.requires.calls.whole c.requires.calls.matched

pub refuse-requires-clause-ready : goal.refuse-requires-clause-ready
refuse-requires-clause-ready g c =
    let k = c.args.self.now in
    let new : CallParts g.row.W.Denot = record {
      mem = k.mem;
      tables = tables_of c.receive-received.new.threads k.servers c.receive-received.new.queues c.receive-received.new.log;
    } in
    left_ready g.W.SwapStore.held k (with_new k new k.next) (left_without_memory k new.tables c.in-Err.ensures.row.0)
    c.requires.calls.ready

pub returns-in-Ok-clause-stays : goal.returns-in-Ok-clause-stays
returns-in-Ok-clause-stays g c =
    let k = c.args.self.now in
    let whole =
    new_whole g.W.SwapStore k (left g c) k.next c.requires.calls.whole (left_sound g c) refl
    (served_room (c.in-Ok.ensures.row (machine_of g.W.SwapStore.held k))) in
    search (rules, whole)

pub returns-in-Ok-clause-tells : goal.returns-in-Ok-clause-tells
returns-in-Ok-clause-tells g c =
    let k = c.args.self.now in
    let held = g.W.SwapStore.held in
    let new = left g c in
    served_settles held k (receive_row c.args.sid c.args.waits) (with_new k new k.next) (machine_at no_store.held k.cursor (without_memory (tables k)) (machine_of held k))
    (machine_at no_store.held k.cursor (without_memory new.tables) (machine_of held k)) (machine_tables held k (tables k) c.requires.calls.whole.threads)
    (machine_tables held k new.tables (left_sound g c).processes) (c.in-Ok.ensures.row (machine_of held k))

pub returns-in-Err-clause-tells : goal.returns-in-Err-clause-tells
returns-in-Err-clause-tells g c =
    let k = c.args.self.now in
    let held = g.W.SwapStore.held in
    let new : CallParts g.row.W.Denot = record {
      mem = k.mem;
      tables = tables_of c.receive-received.new.threads k.servers c.receive-received.new.queues c.receive-received.new.log;
    } in
    undone_settles held k (receive_row c.args.sid c.args.waits) (with_new k new k.next) c.refuse.new.self (machine_at no_store.held k.cursor (without_memory (tables k)) (machine_of held k))
    (Refused c.in-Err.error) (left_without_memory k new.tables c.in-Err.ensures.row.0)
    (machine_tables held k (tables k) c.requires.calls.whole.threads) (c.in-Err.ensures.row.1 (machine_of held k)) c.refuse.ensures.tells
