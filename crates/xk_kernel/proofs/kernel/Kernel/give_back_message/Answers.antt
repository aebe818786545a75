-- A message is given back, or the caller refused.
use Rattle.std.proofs.Common.{◌∙◌, rules}
use Rattle.machine_model.specs.State.Changes.{Refused}
use Rattle.send_path.proofs.Taken.{parts_of, taken}
use Rattle.send_path.specs.Rows.{table_row}
use Rattle.xk_kernel.specs.State.{machine_of}
use Rattle.xk_kernel.proofs.Acting.OrderLemmas.{ready_is}
use Rattle.xk_kernel.proofs.Messaging.PartsLemmas.{left_alone, left_ready, machine_given, new_whole, parts, parts_sound, with_new}
use Rattle.xk_kernel.proofs.Messaging.RowLemmas.{served_room, served_settles, undone_settles}
use Rattle.xk_kernel.proofs.kernel.Kernel.give_back_message.Goals as goal
use Rattle.xk_parts.specs.Parts.{machine_at}

pub give_back-returned-requires-clause-ready : goal.give_back-returned-requires-clause-ready
give_back-returned-requires-clause-ready g c = ready_is g.W.SwapStore.held c.args.self.now c.args.self.now.cursor ∙ c.requires.calls.ready

pub give_back-returned-requires-clause-sound : goal.give_back-returned-requires-clause-sound
give_back-returned-requires-clause-sound g c =
    parts_sound g.W.SwapStore c.args.self.now c.requires.calls.whole c.requires.calls.matched

pub returns-in-Ok-clause-stays : goal.returns-in-Ok-clause-stays
returns-in-Ok-clause-stays g c =
    let k = c.args.self.now in
    let new = parts_of c.give_back-returned.new.mem c.give_back-returned.new.threads k.servers c.give_back-returned.new.queues c.give_back-returned.new.log in
    let whole =
    new_whole g.W.SwapStore k new k.next c.requires.calls.whole c.in-Ok.ensures.sound c.in-Ok.ensures.mem.size
    (served_room (c.in-Ok.ensures.row (machine_of g.W.SwapStore.held k))) in
    search (rules, whole)

pub returns-in-Ok-clause-tells : goal.returns-in-Ok-clause-tells
returns-in-Ok-clause-tells g c =
    let k = c.args.self.now in
    let held = g.W.SwapStore.held in
    let new = parts_of c.give_back-returned.new.mem c.give_back-returned.new.threads k.servers c.give_back-returned.new.queues c.give_back-returned.new.log in
    served_settles held k (table_row c.args.words) (with_new k new k.next) (machine_at held k.cursor (taken (parts k)) (machine_of held k))
    (machine_at held k.cursor (taken new) (machine_of held k)) (machine_given held k (parts k) c.requires.calls.whole.threads)
    (machine_given held k new c.in-Ok.ensures.sound.processes) (c.in-Ok.ensures.row (machine_of held k))

pub returns-in-Err-clause-tells : goal.returns-in-Err-clause-tells
returns-in-Err-clause-tells g c =
    let k = c.args.self.now in
    let held = g.W.SwapStore.held in
    let new = parts_of c.give_back-returned.new.mem c.give_back-returned.new.threads k.servers c.give_back-returned.new.queues c.give_back-returned.new.log in
    undone_settles held k (table_row c.args.words) (with_new k new k.next) c.refuse.new.self (machine_at held k.cursor (taken (parts k)) (machine_of held k))
    (Refused c.in-Err.error) (left_alone k new c.in-Err.ensures.row.0) (machine_given held k (parts k) c.requires.calls.whole.threads)
    (c.in-Err.ensures.row.1 (machine_of held k)) c.refuse.ensures.tells

pub refuse-requires-clause-ready : goal.refuse-requires-clause-ready
refuse-requires-clause-ready g c =
    let k = c.args.self.now in
    let new = parts_of c.give_back-returned.new.mem c.give_back-returned.new.threads k.servers c.give_back-returned.new.queues c.give_back-returned.new.log in
    left_ready g.W.SwapStore.held k (with_new k new k.next) (left_alone k new c.in-Err.ensures.row.0) c.requires.calls.ready
