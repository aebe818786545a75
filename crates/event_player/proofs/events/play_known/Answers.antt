use Rattle.std.proofs.Common.{subst, Bool, Ok}
use Rattle.event_player.specs.declared.events.Advance.{Advance}
use Rattle.event_player.specs.Gathering.{text}
use Rattle.event_player.specs.Playing.{Advances, EndsSo, FailsSo, run_from}
use Rattle.event_player.specs.Standing.{Stand, stand}
use Rattle.event_player.proofs.Playing.EndingLemmas.{goes_err}
use Rattle.event_player.proofs.Playing.KeptLemmas.{kept_after}
use Rattle.event_player.proofs.events.play_known.Goals as goal

pub returns-in_err-play_next-clause-goes : goal.returns-in_err-play_next-clause-goes
returns-in_err-play_next-clause-goes g c = λ first start begun taken since p.
    let new : Stand = stand g.W.SwapStore c.play_next.new.kernel (text (g.K.Sink.written c.play_next.new.out) c.play_next.new.held.items) in
    let run = run_from g.W.SwapStore first c.args.tells c.args.limit start begun in
    let P : Bool → Type 0 = λ f. FailsSo run taken f new c.in_err-play_next.field-0.0 in
    goes_err run taken c.args.reader.now.finished c.play_next.new.reader new c.from_residual.result _ c.from_residual.ensures.1
    (subst P c.answers.invariant.finished (c.in_err-play_next.ensures.advances first start begun taken (kept_after since c.answers.invariant.keeps) (c.answers.invariant.goes first start begun taken since p)))

pub returns-in-Ended-clause-goes : goal.returns-in-Ended-clause-goes
returns-in-Ended-clause-goes g c = λ first start begun taken since p.
    let new : Stand = stand g.W.SwapStore c.play_next.new.kernel (text (g.K.Sink.written c.play_next.new.out) c.play_next.new.held.items) in
    let run = run_from g.W.SwapStore first c.args.tells c.args.limit start begun in
    let P : Advance → Type 0 = λ a. Advances run taken c.answers.reader.finished c.play_next.new.reader new (Ok a) in
    let Q : Bool → Type 0 = λ f. EndsSo run taken f new c.in-Ended.ending in
    subst Q c.answers.invariant.finished
    (subst P c.in-Ended.is (c.in_ok-play_next.ensures.advances first start begun taken (kept_after since c.answers.invariant.keeps) (c.answers.invariant.goes first start begun taken since p)))
