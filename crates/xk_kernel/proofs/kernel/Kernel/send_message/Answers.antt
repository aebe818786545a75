-- A message is sent, or its server is full, or the caller refused.
use Rattle.std.proofs.Common.{◌≡◌, ◌+◌, ◌<◌, ◌≤◌, ap, ◌∙◌, arith, rules}
use Rattle.std.specs.Prelude.{if◌then◌else◌}
use Rattle.machine_model.specs.State.Changes.{Refused, Retried}
use Rattle.send_path.proofs.Taken.{over, parts_of}
use Rattle.send_path.specs.Sending.{with_number}
use Rattle.xk_parts.specs.Parts.{machine_at}
use Rattle.send_path.specs.Rows.{table_row}
use Rattle.syscall_codec.specs.CallNumbers.{send_message, try_send_message}
use Rattle.syscall_codec.specs.CallWords.{call_number}
use Rattle.xk_base.specs.declared.errors.XousError.TheVariants.{ServerQueueFull}
use Rattle.xk_kernel.specs.State.{machine_of}
use Rattle.xk_kernel.proofs.Acting.OrderLemmas.{ready_is}
use Rattle.xk_kernel.proofs.Messaging.PartsLemmas.{left_with_processes, sound_without, left_ready, machine_next, new_keeps, new_whole, parts, parts_sound_over, with_new}
use Rattle.xk_kernel.proofs.Messaging.RowLemmas.{served_room, served_settles, undone_settles}
use Rattle.xk_kernel.proofs.Messaging.SendingLemmas.{full_sent, full_tried, is_send, may_send}
use Rattle.xk_kernel.proofs.kernel.Kernel.send_message.Goals as goal

pub send-sent-requires-clause-ready : goal.send-sent-requires-clause-ready
send-sent-requires-clause-ready g c = ready_is g.W.SwapStore.held c.args.self.now c.args.self.now.cursor ∙ c.requires.calls.ready

pub send-sent-requires-clause-served : goal.send-sent-requires-clause-served
send-sent-requires-clause-served g c = is_send c.args.words c.args.tries c.requires.number

pub send-sent-requires-clause-above : goal.send-sent-requires-clause-above
unfolding machine_of
send-sent-requires-clause-above g c = c.requires.calls.matched.rest.above.numbers

pub send-sent-requires-clause-waits : goal.send-sent-requires-clause-waits
unfolding machine_of
send-sent-requires-clause-waits g c = may_send c.args.words c.args.tries c.requires.number (machine_of g.W.SwapStore.held c.args.self.now) c.requires.free

pub send-sent-requires-clause-sound : goal.send-sent-requires-clause-sound
send-sent-requires-clause-sound g c =
    parts_sound_over g.W.SwapStore c.args.self.now c.requires.calls.whole c.requires.calls.matched

-- ---- accepted

-- each number that was taken took a step
pub overflow_add-self : goal.overflow_add-self
unfolding machine_of
overflow_add-self g c =
    let taken : c.args.self.now.next ≤ c.args.self.now.steps + 1 = c.requires.calls.matched.rest.stepped.number_steps in
    let few : c.args.self.now.steps < 4000000000 = c.requires.calls.few in
    omega arith

pub returns-in-Accepted-clause-stays : goal.returns-in-Accepted-clause-stays
unfolding machine_of
returns-in-Accepted-clause-stays g c =
    let k = c.args.self.now in
    let new = parts_of c.send-sent.new.mem c.send-sent.new.threads k.servers c.send-sent.new.queues c.send-sent.new.log in
    let whole =
    new_whole g.W.SwapStore k new (k.next + 1) c.requires.calls.whole
    (sound_without g.W.SwapStore k new
    c.in-Accepted.ensures.sound)
    c.in-Accepted.ensures.mem.size (served_room (c.in-Accepted.ensures.row (machine_of g.W.SwapStore.held k))) in
    let keeps =
    new_keeps g.W.SwapStore k (with_new k new (k.next + 1))
    c.in-Accepted.ensures.mem (served_room (c.in-Accepted.ensures.row (machine_of g.W.SwapStore.held k))) in
    search (rules, whole, keeps)

pub returns-in-Accepted-clause-tells : goal.returns-in-Accepted-clause-tells
unfolding machine_of
returns-in-Accepted-clause-tells g c =
    let k = c.args.self.now in
    let new = parts_of c.send-sent.new.mem c.send-sent.new.threads k.servers c.send-sent.new.queues c.send-sent.new.log in
    let held = g.W.SwapStore.held in
    let sound = c.in-Accepted.ensures.sound in
    served_settles held k (table_row c.args.words) (with_new k new (k.next + 1)) (machine_at held k.cursor (over k.procs (parts k)) (with_number k.next (machine_of held k)))
    (machine_at held k.cursor (over k.procs new) (with_number (k.next + 1) (machine_of held k))) (machine_next held k (parts k) c.requires.calls.whole.threads k.next)
    (machine_next held k new sound.processes (k.next + 1)) (c.in-Accepted.ensures.row (machine_of held k))

-- ---- full

pub refuse-requires-clause-ready : goal.refuse-requires-clause-ready
refuse-requires-clause-ready g c =
    let k = c.args.self.now in
    let new = parts_of c.send-sent.new.mem c.send-sent.new.threads k.servers c.send-sent.new.queues c.send-sent.new.log in
    left_ready g.W.SwapStore.held k (with_new k new k.next) (left_with_processes k new c.in-Full.ensures.row.0) c.requires.calls.ready

pub returns-in-Full-clause-tells : goal.returns-in-Full-clause-tells
returns-in-Full-clause-tells g c =
    let k = c.args.self.now in
    let new = parts_of c.send-sent.new.mem c.send-sent.new.threads k.servers c.send-sent.new.queues c.send-sent.new.log in
    let held = g.W.SwapStore.held in
    let number : call_number c.args.words ≡ try_send_message =
    c.requires.number ∙ ap (λ b. if b then try_send_message else send_message) c.if-tries.true in
    undone_settles held k (table_row c.args.words) (with_new k new k.next) c.refuse.new.self
    (machine_at held k.cursor (over k.procs (parts k)) (with_number k.next (machine_of held k))) (Refused ServerQueueFull) (left_with_processes k new c.in-Full.ensures.row.0)
    (machine_next held k (parts k) c.requires.calls.whole.threads k.next) (c.in-Full.ensures.row.1 (machine_of held k) ∙ full_tried (record { 0 = k.next }) c.args.words number)
    c.refuse.ensures.tells

pub returns-in-Full-2-clause-tells : goal.returns-in-Full-2-clause-tells
returns-in-Full-2-clause-tells g c =
    let k = c.args.self.now in
    let new = parts_of c.send-sent.new.mem c.send-sent.new.threads k.servers c.send-sent.new.queues c.send-sent.new.log in
    let held = g.W.SwapStore.held in
    let number : call_number c.args.words ≡ send_message =
    c.requires.number ∙ ap (λ b. if b then try_send_message else send_message) c.if-tries.false in
    undone_settles held k (table_row c.args.words) (with_new k new k.next) c.retry.new.self
    (machine_at held k.cursor (over k.procs (parts k)) (with_number k.next (machine_of held k))) Retried (left_with_processes k new c.in-Full-2.ensures.row.0)
    (machine_next held k (parts k) c.requires.calls.whole.threads k.next) (c.in-Full-2.ensures.row.1 (machine_of held k) ∙ full_sent (record { 0 = k.next }) c.args.words number)
    c.retry.ensures.tells

-- ---- refused

pub refuse-requires-in-Refused-clause-ready : goal.refuse-requires-in-Refused-clause-ready
refuse-requires-in-Refused-clause-ready g c =
    let k = c.args.self.now in
    let new = parts_of c.send-sent.new.mem c.send-sent.new.threads k.servers c.send-sent.new.queues c.send-sent.new.log in
    left_ready g.W.SwapStore.held k (with_new k new k.next) (left_with_processes k new c.in-Refused.ensures.row.0) c.requires.calls.ready

pub returns-in-Refused-clause-tells : goal.returns-in-Refused-clause-tells
returns-in-Refused-clause-tells g c =
    let k = c.args.self.now in
    let new = parts_of c.send-sent.new.mem c.send-sent.new.threads k.servers c.send-sent.new.queues c.send-sent.new.log in
    let held = g.W.SwapStore.held in
    undone_settles held k (table_row c.args.words) (with_new k new k.next) c.refuse-in-Refused.new.self
    (machine_at held k.cursor (over k.procs (parts k)) (with_number k.next (machine_of held k))) (Refused c.in-Refused.error)
    (left_with_processes k new c.in-Refused.ensures.row.0) (machine_next held k (parts k) c.requires.calls.whole.threads k.next)
    (c.in-Refused.ensures.row.2 (machine_of held k)) c.refuse-in-Refused.ensures.tells
