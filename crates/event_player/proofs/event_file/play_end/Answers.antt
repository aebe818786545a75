use Rattle.std.proofs.Common.{List, ℕ, refl, subst, sym}
use Rattle.event_player.specs.Gathering.{text}
use Rattle.event_player.specs.Playing.{HasPlayed, run_from}
use Rattle.event_player.specs.Standing.{Stand, stand}
use Rattle.event_player.proofs.Playing.PuttingLemmas.{all_of_it_put, held_put_before, part_of_it_put}
use Rattle.event_player.proofs.event_file.play_end.Goals as goal

pub returns-in-Ok-put_held-clause-goes : goal.returns-in-Ok-put_held-clause-goes
returns-in-Ok-put_held-clause-goes g c = λ first start begun taken since p.
    let run = run_from g.W.SwapStore first c.args.tells c.args.limit start begun in
    let out = g.K.Sink.written c.play_known.new.out in
    let now : Stand = stand g.W.SwapStore c.play_known.new.kernel (text out c.play_known.new.held.items) in
    let P : List ℕ → Type 0 = λ held. HasPlayed run taken c.args.reader.now (stand g.W.SwapStore c.args.kernel.now (text (g.K.Sink.written c.args.out.now) held)) in
    let q : P c.new-held.result.items = subst P (sym c.new-held.ensures) p in
    all_of_it_put run now out (g.K.Sink.written c.put_held.new.out) c.play_known.new.held.items taken c.args.reader.now.finished c.play_known.new.reader c.in-Ok.ended refl
    c.in-Ok-put_held.ensures.put (c.in-Ok.ensures.goes first start begun taken since q)

pub returns-in-Err-put_held-clause-goes : goal.returns-in-Err-put_held-clause-goes
returns-in-Err-put_held-clause-goes g c = λ first start begun taken since p.
    let run = run_from g.W.SwapStore first c.args.tells c.args.limit start begun in
    let out = g.K.Sink.written c.play_known.new.out in
    let now : Stand = stand g.W.SwapStore c.play_known.new.kernel (text out c.play_known.new.held.items) in
    let P : List ℕ → Type 0 = λ held. HasPlayed run taken c.args.reader.now (stand g.W.SwapStore c.args.kernel.now (text (g.K.Sink.written c.args.out.now) held)) in
    let q : P c.new-held.result.items = subst P (sym c.new-held.ensures) p in
    part_of_it_put run now out (g.K.Sink.written c.put_held.new.out) c.play_known.new.held.items taken c.args.reader.now.finished c.play_known.new.reader c.in-Ok.ended refl
    (λ none. c.play_known.ensures.answers.finished) c.in-Err-put_held.ensures.front (c.in-Ok.ensures.goes first start begun taken since q)

pub returns-in-Err-clause-goes : goal.returns-in-Err-clause-goes
returns-in-Err-clause-goes g c = λ first start begun taken since p.
    let run = run_from g.W.SwapStore first c.args.tells c.args.limit start begun in
    let out = g.K.Sink.written c.play_known.new.out in
    let now : Stand = stand g.W.SwapStore c.play_known.new.kernel (text out c.play_known.new.held.items) in
    let P : List ℕ → Type 0 = λ held. HasPlayed run taken c.args.reader.now (stand g.W.SwapStore c.args.kernel.now (text (g.K.Sink.written c.args.out.now) held)) in
    let q : P c.new-held.result.items = subst P (sym c.new-held.ensures) p in
    held_put_before run now out (g.K.Sink.written c.put_before.new.out) c.play_known.new.held.items taken c.args.reader.now.finished _ _ refl c.put_before.ensures.puts
    (c.in-Err.ensures.goes first start begun taken since q)
