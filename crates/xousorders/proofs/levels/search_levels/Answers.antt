use Rattle.std.proofs.Common.{◌∙◌, arith, inl, inr, sym}
use Rattle.std.specs.Cmp.Lexicographic.{slice_cmp}
use Rattle.std.specs.Ordering.{nat_cmp}
use Rattle.program_status.specs.Notes.{sink_side}
use Rattle.xousorders.specs.Halts.{EndsIn}
use Rattle.xousorders.proofs.FailureLemmas.{cut_isnt, whole_is}
use Rattle.xousorders.proofs.LevelLemmas.{level_more, levels_end, levels_told, none_told}
use Rattle.xousorders.proofs.ResultLemmas.{exit_says}
use Rattle.xousorders.proofs.levels.search_levels.Goals as goal

pub loop-told-init : goal.loop-told-init
loop-told-init g c =
    none_told (slice_cmp nat_cmp) c.args.limits.now c.args.view.now c.args.quest.now.subject (g.K.Sink.written c.args.out.now)
    (g.K.Sink.faults c.args.out.now)

pub returns-in_err-told-clause-ends : goal.returns-in_err-told-clause-ends
returns-in_err-told-clause-ends g c =
    let s = c.args.quest.now.subject in
    exit_says c.from_residual.result _
    (EndsIn (slice_cmp nat_cmp) c.args.limits.now c.args.view.now s (sink_side g.K.Sink c.args.out.now c.search_level.new.out)) c.from_residual.ensures.1
    (levels_end (slice_cmp nat_cmp) c.args.limits.now c.args.view.now s c.loop-told.quest.subject c.allow_preemptions.new.self.subject
    c.loop-told.preemptions (g.K.Sink.written c.args.out.now) (g.K.Sink.written c.loop-told.out) (g.K.Sink.written c.search_level.new.out)
    (g.K.Sink.faults c.args.out.now) (g.K.Sink.faults c.loop-told.out) (g.K.Sink.faults c.search_level.new.out) c.loop-told.invariant
    c.allow_preemptions.ensures _ c.in_err-told.ensures.halts)

pub returns-then-not-is_whole-clause-tells : goal.returns-then-not-is_whole-clause-tells
returns-then-not-is_whole-clause-tells g c =
    levels_told (slice_cmp nat_cmp) c.args.limits.now c.args.view.now c.args.quest.now.subject c.loop-told.quest.subject
    c.allow_preemptions.new.self.subject c.loop-told.preemptions (g.K.Sink.written c.args.out.now) (g.K.Sink.written c.loop-told.out)
    (g.K.Sink.written c.search_level.new.out) (g.K.Sink.faults c.args.out.now) (g.K.Sink.faults c.loop-told.out)
    (g.K.Sink.faults c.search_level.new.out) c.loop-told.invariant c.allow_preemptions.ensures c.search_level.new.quest.subject c.in_ok-told.told
    c.in_ok-told.ensures.tells (inr (cut_isnt c.in_ok-told.told.found.extent (sym c.is_whole.ensures ∙ c.if-not-is_whole.true)))

pub returns-then-preemptions-limits-clause-tells : goal.returns-then-preemptions-limits-clause-tells
returns-then-preemptions-limits-clause-tells g c =
    levels_told (slice_cmp nat_cmp) c.args.limits.now c.args.view.now c.args.quest.now.subject c.loop-told.quest.subject
    c.allow_preemptions.new.self.subject c.loop-told.preemptions (g.K.Sink.written c.args.out.now) (g.K.Sink.written c.loop-told.out)
    (g.K.Sink.written c.search_level.new.out) (g.K.Sink.faults c.args.out.now) (g.K.Sink.faults c.loop-told.out)
    (g.K.Sink.faults c.search_level.new.out) c.loop-told.invariant c.allow_preemptions.ensures c.search_level.new.quest.subject c.in_ok-told.told
    c.in_ok-told.ensures.tells (inl c.if-preemptions-limits.true)

pub loop-told-preserved : goal.loop-told-preserved
loop-told-preserved g c =
    level_more (slice_cmp nat_cmp) c.args.limits.now c.args.view.now c.args.quest.now.subject c.loop-told.quest.subject
    c.allow_preemptions.new.self.subject c.loop-told.preemptions (g.K.Sink.written c.args.out.now) (g.K.Sink.written c.loop-told.out)
    (g.K.Sink.written c.search_level.new.out) (g.K.Sink.faults c.args.out.now) (g.K.Sink.faults c.loop-told.out)
    (g.K.Sink.faults c.search_level.new.out) c.loop-told.invariant c.allow_preemptions.ensures c.search_level.new.quest.subject c.in_ok-told.told
    c.in_ok-told.ensures.tells (whole_is c.in_ok-told.told.found.extent (sym c.is_whole.ensures ∙ c.if-not-is_whole.false)) (omega arith)
    c.search_level.ensures.never_falls
