use Rattle.std.proofs.Common.{◌≡◌, ◌∙◌, subst, List, OnErr}
use Rattle.xk_base.specs.declared.records.Rec.{Rec}
use Rattle.xk_kernel.specs.State.{machine_of}
use Rattle.xk_kernel.specs.Stepping.{event_done}
use Rattle.event_player.specs.Gathering.{GathersPart, text}
use Rattle.event_player.specs.Telling.{told}
use Rattle.event_player.proofs.events.play_at_once.Goals as goal

pub returns-clause-front : goal.returns-clause-front
returns-clause-front g c =
    let before = text (g.K.Sink.written c.args.out.now) c.args.held.now.items in
    let after = text (g.K.Sink.written c.gather_records.new.out) c.gather_records.new.held.items in
    let records : c.last.result.now ≡ (event_done c.args.event (machine_of g.W.SwapStore.held c.args.kernel.now)).records = c.last.ensures ∙ c.event_start.ensures.does.records in
    let P : List Rec → Type 0 = λ rs. OnErr c.gather_records.result (GathersPart before after (told c.args.tells rs)) in
    subst P records c.gather_records.ensures.front
