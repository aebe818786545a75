use Rattle.std.proofs.Common.{sym, ap, ◌∙◌}
use Rattle.std.specs.Prelude.{◌==◌, ◌&&◌}
use Rattle.xk_base.specs.Calls.Kinds.{is_waiting_kind}
use Rattle.send_path.proofs.Taken.{over, parts_of}
use Rattle.send_path.proofs.Sends.TrySendLemmas.{row_of}
use Rattle.send_path.proofs.sending.send.Goals as goal

pub returns-clause-row : goal.returns-clause-row
returns-clause-row g c =
    row_of c.args.words c.asked_in-asked.result c.asked_in-asked.ensures g.W.SwapStore.held c.args.who c.args.number
    (over c.args.procs.now (parts_of c.args.mem.now c.args.threads.now c.args.servers.now c.args.queues.now c.args.log.now))
    (over c.args.procs.now (parts_of c.send_asked.new.mem c.send_asked.new.threads c.args.servers.now c.send_asked.new.queues c.send_asked.new.log))
    c.requires.served c.send_asked.result c.send_asked.ensures.row

pub send_asked-requires-clause-waits : goal.send_asked-requires-clause-waits
send_asked-requires-clause-waits g c = ap (λ k. is_waiting_kind k && (c.args.who.tid.0 == 1)) (sym c.asked_in-asked.ensures.1) ∙ c.requires.waits

pub returns-clause-sound : goal.returns-clause-sound
returns-clause-sound g c = c.send_asked.ensures.sound
