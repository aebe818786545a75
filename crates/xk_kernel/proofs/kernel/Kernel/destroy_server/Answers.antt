-- The server is destroyed, or the caller refused.
use Rattle.std.proofs.Common.{ap, subst, sym, ◌∙◌, rules}
use Rattle.std.specs.Option.{option_map}
use Rattle.kill_path.specs.Rows.{destroy_row}
use Rattle.machine_model.specs.State.Changes.{Outcome, call_settled}
use Rattle.send_path.proofs.Taken.{parts_of, taken}
use Rattle.xk_kernel.specs.State.{machine_of}
use Rattle.xk_kernel.specs.Telling.{Tells}
use Rattle.xk_kernel.proofs.Acting.OrderLemmas.{ready_is}
use Rattle.xk_kernel.proofs.Calling.DestroyLemmas.{destroys, refuses}
use Rattle.xk_kernel.proofs.Messaging.PartsLemmas.{machine_given, new_whole, parts, parts_sound, with_new}
use Rattle.xk_kernel.proofs.Messaging.RowLemmas.{served_room, served_settles}
use Rattle.xk_kernel.proofs.kernel.Kernel.destroy_server.Goals as goal
use Rattle.xk_parts.specs.Parts.{machine_at}

pub destroy-requires-clause-ready : goal.destroy-requires-clause-ready
destroy-requires-clause-ready g c = ready_is g.W.SwapStore.held c.args.self.now c.args.self.now.cursor ∙ c.requires.calls.ready

pub destroy-requires-clause-sound : goal.destroy-requires-clause-sound
destroy-requires-clause-sound g c =
    parts_sound g.W.SwapStore c.args.self.now c.requires.calls.whole c.requires.calls.matched

pub returns-in-Some-clause-stays : goal.returns-in-Some-clause-stays
returns-in-Some-clause-stays g c =
    let k = c.args.self.now in
    let new = parts_of c.destroy.new.mem c.destroy.new.threads c.destroy.new.servers c.destroy.new.queues c.destroy.new.log in
    let whole =
    new_whole g.W.SwapStore k new k.next c.requires.calls.whole c.destroy.ensures.sound c.destroy.ensures.mem.size
    (served_room (c.destroy.ensures.row (machine_of g.W.SwapStore.held k))) in
    search (rules, whole)

pub returns-in-Some-clause-tells : goal.returns-in-Some-clause-tells
returns-in-Some-clause-tells g c =
    let k = c.args.self.now in
    let held = g.W.SwapStore.held in
    let new = parts_of c.destroy.new.mem c.destroy.new.threads c.destroy.new.servers c.destroy.new.queues c.destroy.new.log in
    subst (λ (o : Outcome). Tells held k (with_new k new k.next) (call_settled (machine_of held k) o))
    (sym (destroys g.W.SwapStore k c.requires.calls.whole c.args.sid c.in-Some.field-0.serial (sym (ap (option_map (λ s. s.serial)) c.in-Some.is) ∙ c.own_server.ensures.serial)))
    (served_settles held k (destroy_row c.in-Some.field-0.serial) (with_new k new k.next) (machine_at held k.cursor (taken (parts k)) (machine_of held k))
    (machine_at held k.cursor (taken new) (machine_of held k)) (machine_given held k (parts k) c.requires.calls.whole.threads)
    (machine_given held k new c.destroy.ensures.sound.processes) (c.destroy.ensures.row (machine_of held k)))

pub returns-in-None-clause-tells : goal.returns-in-None-clause-tells
returns-in-None-clause-tells g c =
    subst (λ (o : Outcome). Tells g.W.SwapStore.held c.args.self.now c.refuse.new.self (call_settled (machine_of g.W.SwapStore.held c.args.self.now) o))
    (sym (refuses g.W.SwapStore c.args.self.now c.requires.calls.whole c.args.sid (sym (ap (option_map (λ s. s.serial)) c.in-None.is) ∙ c.own_server.ensures.serial)))
    c.refuse.ensures.tells
