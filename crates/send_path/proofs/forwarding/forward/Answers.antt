use Rattle.std.proofs.Common.{subst}
use Rattle.machine_model.specs.State.Changes.{Outcome}
use Rattle.machine_model.specs.State.Machine.{Machine}
use Rattle.syscall_codec.specs.Calls.{Asks}
use Rattle.send_path.specs.Rows.{IsRow}
use Rattle.send_path.proofs.Taken.{over, parts_of}
use Rattle.send_path.proofs.Forwards.ForwardLemmas.{forward_is}
use Rattle.send_path.proofs.forwarding.forward.Goals as goal

pub returns-clause-row : goal.returns-clause-row
returns-clause-row g c =
    subst (λ (row : Machine → Outcome). IsRow g.W.SwapStore.held row c.args.who
    (over c.args.procs.now (parts_of c.args.mem.now c.args.threads.now c.args.servers.now c.args.queues.now c.args.log.now))
    (over c.args.procs.now
    (parts_of c.forward_message.new.mem c.forward_message.new.threads c.args.servers.now c.forward_message.new.queues c.forward_message.new.log))
    c.forward_message.result)
    (λ i m. forward_is c.args.words c.in-Ok-ForwardMessage.token c.in-Ok-ForwardMessage.cid (subst (Asks c.args.words) c.in-Ok-ForwardMessage.field-0-is c.in-Ok-ForwardMessage.ensures.found) m i)
    c.forward_message.ensures.row
