use Rattle.std.proofs.Common.{◌≡◌, ◌∙◌, List, ℕ, Option, subst}
use Rattle.std.specs.Cmp.Lexicographic.{slice_cmp}
use Rattle.std.specs.Ordering.{nat_cmp}
use Rattle.xk_ports.specs.Told.{Grows, GrowsByProperPrefix}
use Rattle.xousorders.specs.Reports.{report_lines, report_of}
use Rattle.xousorders.proofs.LevelLemmas.{level_breaks, level_told, level_without_memory}
use Rattle.xousorders.proofs.levels.search_level.Goals as goal

pub returns-in-Err-clause-halts : goal.returns-in-Err-clause-halts
returns-in-Err-clause-halts g c =
    let a : Option (List ℕ) = g.K.Sink.written c.args.out.now in
    let b : Option (List ℕ) = g.K.Sink.written c.search_all.new.out in
    level_without_memory (slice_cmp nat_cmp) c.args.limits.now c.args.view.now c.args.quest.now.subject c.search_all.new.quest.subject c.in_ok-told.told
    a b b (g.K.Sink.faults c.args.out.now) (g.K.Sink.faults c.search_all.new.out) (g.K.Sink.faults c.search_all.new.out) c.in_ok-told.ensures.finds

pub returns-in-Ok-put_all-clause-tells : goal.returns-in-Ok-put_all-clause-tells
returns-in-Ok-put_all-clause-tells g c =
    let a : Option (List ℕ) = g.K.Sink.written c.args.out.now in
    let b : Option (List ℕ) = g.K.Sink.written c.search_all.new.out in
    let d : Option (List ℕ) = g.K.Sink.written c.put_all.new.out in
    let text : c.as_slice.result.now ≡ report_lines c.args.view.now (report_of c.search_all.new.quest.subject c.in_ok-told.told) =
    c.as_slice.ensures.value ∙ c.in-Ok.ensures in
    level_told (slice_cmp nat_cmp) c.args.limits.now c.args.view.now c.args.quest.now.subject c.search_all.new.quest.subject c.in_ok-told.told a b d
    (g.K.Sink.faults c.args.out.now) (g.K.Sink.faults c.search_all.new.out) (g.K.Sink.faults c.put_all.new.out) c.in_ok-told.ensures.finds
    (subst (Grows b d) text c.in-Ok-put_all.ensures.appended)

pub returns-in-Err-put_all-clause-halts : goal.returns-in-Err-put_all-clause-halts
returns-in-Err-put_all-clause-halts g c =
    let a : Option (List ℕ) = g.K.Sink.written c.args.out.now in
    let b : Option (List ℕ) = g.K.Sink.written c.search_all.new.out in
    let d : Option (List ℕ) = g.K.Sink.written c.put_all.new.out in
    let text : c.as_slice.result.now ≡ report_lines c.args.view.now (report_of c.search_all.new.quest.subject c.in_ok-told.told) =
    c.as_slice.ensures.value ∙ c.in-Ok.ensures in
    level_breaks (slice_cmp nat_cmp) c.args.limits.now c.args.view.now c.args.quest.now.subject c.search_all.new.quest.subject c.in_ok-told.told a b d
    (g.K.Sink.faults c.args.out.now) (g.K.Sink.faults c.search_all.new.out) (g.K.Sink.faults c.put_all.new.out) c.in_ok-told.ensures.finds
    c.search_all.ensures.never_falls (subst (GrowsByProperPrefix b d) text c.in-Err-put_all.ensures.front) c.in-Err-put_all.ensures.cause
