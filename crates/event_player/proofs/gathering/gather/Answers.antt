use Rattle.host_io.proofs.ToldLemmas.{front_longer, on_err}
use Rattle.event_player.specs.Gathering.{GathersPart, text}
use Rattle.event_player.proofs.gathering.gather.Goals as goal

pub returns-in_err-put_held-clause-front : goal.returns-in_err-put_held-clause-front
returns-in_err-put_held-clause-front g c =
    let before = g.K.Sink.written c.args.out.now in
    let after = g.K.Sink.written c.put_held.new.out in
    on_err c.from_residual.result (GathersPart (text before c.args.held.now.items) (text after c.put_held.new.held.items) c.args.bytes.now)
    (front_longer before after c.args.held.now.items c.args.bytes.now c.in_err-put_held.ensures.front)
