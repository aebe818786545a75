use Rattle.std.proofs.Common.{ℕ, arith, suc, List, take, drop, sym, subst}
use Rattle.event_player.specs.Telling.{told}
use Rattle.event_player.proofs.Playing.GatheringLemmas.{gathers_append, part_after}
use Rattle.host_io.proofs.ToldLemmas.{on_err}
use Rattle.event_player.proofs.Playing.RecordLemmas.{told_at, told_next}
use Rattle.event_player.specs.Gathering.{Gathers, GathersPart, text}
use Rattle.event_player.proofs.transcript.gather_records.Goals as goal

pub returns-in_err-gather_told-clause-front : goal.returns-in_err-gather_told-clause-front
returns-in_err-gather_told-clause-front g c =
    let before = text (g.K.Sink.written c.args.out.now) c.args.held.now.items in
    let after = text (g.K.Sink.written c.gather_told.new.out) c.gather_told.new.held.items in
    let P : List ℕ → Type 0 = λ text. GathersPart before after text in
    on_err c.from_residual.result (P (told c.args.tells c.args.records.now))
    (subst P (sym (told_at c.args.tells c.args.records.now c.loop-rec.rec-index _ c.loop-rec-test.true))
    (part_after before (text (g.K.Sink.written c.loop-rec.out) c.loop-rec.held.items) after
    (told c.args.tells (take c.loop-rec.rec-index c.args.records.now)) _ (told c.args.tells (drop (suc c.loop-rec.rec-index) c.args.records.now))
    c.loop-rec.invariant.written c.in_err-gather_told.ensures.front))

pub loop-rec-preserved : goal.loop-rec-preserved
loop-rec-preserved g c =
    let before = text (g.K.Sink.written c.args.out.now) c.args.held.now.items in
    let mid = text (g.K.Sink.written c.loop-rec.out) c.loop-rec.held.items in
    let after = text (g.K.Sink.written c.gather_told.new.out) c.gather_told.new.held.items in
    let P : List ℕ → Type 0 = λ text. Gathers before after text in
    record {
      written = subst P (sym (told_next c.args.tells c.args.records.now c.loop-rec.rec-index _ c.loop-rec-test.true))
          (gathers_append before mid after (told c.args.tells (take c.loop-rec.rec-index c.args.records.now)) _
          c.loop-rec.invariant.written c.in_ok-gather_told.ensures.gathered);
      later = omega (arith, c.loop-rec.invariant.later, c.gather_told.ensures.never_falls);
    }
