use Rattle.std.proofs.Common.{◌≡◌, ◌<◌, ◌+◌, List, OnOk, IfErr, arith, length, refl, subst, ℕ, Option}
use Rattle.std.proofs.lemmas.Option.{slice_get_read}
use Rattle.order_model.specs.declared.failing.Failing.{Failing}
use Rattle.program_status.specs.Notes.{sink_side}
use Rattle.xk_ports.specs.Told.{Grows}
use Rattle.xousorders.specs.Halts.{IsUntold}
use Rattle.order_text.specs.Lines.{found_line}
use Rattle.xousorders.specs.Searched.{telling_at}
use Rattle.order_text.specs.declared.endings.Ending.{Ending}
use Rattle.xousorders.proofs.EndingLemmas.{last_added}
use Rattle.xousorders.proofs.ResultLemmas.{if_err_map, on_ok, on_ok_map}
use Rattle.xousorders.proofs.SinkLemmas.{line_breaks, line_got, stopped_breaks}
use Rattle.xousorders.proofs.ToldLemmas.{all_real}
use Rattle.xousorders.proofs.search.tell_node.Goals as goal

pub returns-in-Err-clause-breaks : goal.returns-in-Err-clause-breaks
returns-in-Err-clause-breaks g c first got are =
    let s = c.args.quest.now.subject in
    let t = telling_at s c.args.search.now in
    stopped_breaks s c.args.view.now c.args.endings.now.list.items (sink_side g.K.Sink first c.args.out.now) c.in-Err.status
    (all_real t c.args.view.now c.args.node c.args.endings.now are c.requires.sound c.requires.told) got c.in-Err.ensures.stopped

pub returns-clause-got : goal.returns-clause-got
returns-clause-got g c first got =
    let old : List Ending = c.args.endings.now.list.items in
    let new : List Ending = c.pass.new.endings.list.items in
    let ending : Ending = c.index.result.now in
    let view = c.args.view.now in
    let known : c.len-known.result ≡ length old = omega (arith, c.args.endings.now.list.ok.0) in
    let now : c.len.result ≡ length new = omega (arith, c.pass.new.endings.list.ok.0) in
    let longer : length old < length new = omega (arith, known, now) in
    let low : c.len-known.result < length new = omega (arith, known, longer) in
    let there = slice_get_read new (length new) c.len-known.result ending refl low c.index.ensures in
    let is = last_added old new c.len-known.result ending c.in-Ok.ensures.one known longer there in
    let counted : c.len-known.result + 1 ≡ length old + 1 = omega (arith, known) in
    let a : Option (List ℕ) = g.K.Sink.written first in
    let b : Option (List ℕ) = g.K.Sink.written c.args.out.now in
    let d : Option (List ℕ) = g.K.Sink.written c.write_found.new.out in
    let written = subst (λ (fails : List Failing). OnOk c.write_found.result (Grows b d (found_line fails (c.len-known.result + 1) ending))) c.deref.ensures.value
    c.write_found.ensures.written in
    on_ok_map c.write_found.result _ _
    (line_got view old new ending (c.len-known.result + 1) is counted a b d (g.K.Sink.faults first) (g.K.Sink.faults c.args.out.now)
    (g.K.Sink.faults c.write_found.new.out) c.write_found.ensures.never_falls got)
    written

pub returns-clause-breaks : goal.returns-clause-breaks
returns-clause-breaks g c first got are =
    let s = c.args.quest.now.subject in
    let t = telling_at s c.args.search.now in
    let old : List Ending = c.args.endings.now.list.items in
    let new : List Ending = c.pass.new.endings.list.items in
    let ending : Ending = c.index.result.now in
    let view = c.args.view.now in
    let known : c.len-known.result ≡ length old = omega (arith, c.args.endings.now.list.ok.0) in
    let now : c.len.result ≡ length new = omega (arith, c.pass.new.endings.list.ok.0) in
    let longer : length old < length new = omega (arith, known, now) in
    let low : c.len-known.result < length new = omega (arith, known, longer) in
    let there = slice_get_read new (length new) c.len-known.result ending refl low c.index.ensures in
    let is = last_added old new c.len-known.result ending c.in-Ok.ensures.one known longer there in
    let counted : c.len-known.result + 1 ≡ length old + 1 = omega (arith, known) in
    let a : Option (List ℕ) = g.K.Sink.written first in
    let b : Option (List ℕ) = g.K.Sink.written c.args.out.now in
    let d : Option (List ℕ) = g.K.Sink.written c.write_found.new.out in
    let untold = subst (λ (fails : List Failing). IfErr c.write_found.result (IsUntold (sink_side g.K.Sink c.args.out.now c.write_found.new.out)
    (found_line fails (c.len-known.result + 1) ending))) c.deref.ensures.value c.write_found.ensures.untold in
    if_err_map c.write_found.result _ _
    (line_breaks view old new ending (c.len-known.result + 1) is counted a b d (g.K.Sink.faults first) (g.K.Sink.faults c.args.out.now)
    (g.K.Sink.faults c.write_found.new.out) c.write_found.ensures.never_falls got s
    (all_real t view c.args.node c.args.endings.now are c.requires.sound c.requires.told)
    (all_real t view (c.args.node + 1) c.pass.new.endings (c.in-Ok.ensures.adds are) c.requires.sound c.requires.told))
    untold

pub returns-clause-one : goal.returns-clause-one
returns-clause-one g c = on_ok c.write_found.result _ c.in-Ok.ensures.one
