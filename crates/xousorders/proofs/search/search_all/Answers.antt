use Rattle.std.proofs.Common.{◌≡◌, ◌≤◌, ◌∙◌, ap, arith, subst}
use Rattle.std.specs.Cmp.Lexicographic.{slice_cmp}
use Rattle.std.specs.Ordering.{nat_cmp}
use Rattle.program_status.specs.Notes.{sink_side}
use Rattle.xousorders.specs.Halts.{BreaksOff}
use Rattle.xousorders.specs.Searched.{bounded}
use Rattle.xousorders.specs.declared.halt.Halt.TheVariants.{Stopped, Timer, Unwritten}
use Rattle.xousorders.proofs.LevelLemmas.{counted_breaks, counted_finds, counting_breaks, finds_plain, plain_breaks}
use Rattle.xousorders.proofs.ResultLemmas.{if_err_map, if_ok_map}
use Rattle.xousorders.proofs.search.search_all.Goals as goal

pub returns-in-Ok-clause-finds : goal.returns-in-Ok-clause-finds
returns-in-Ok-clause-finds g c =
    finds_plain (slice_cmp nat_cmp) c.args.limits.now c.args.view.now c.args.quest.now.subject
    (sink_side g.K.Sink c.args.out.now c.search_once.new.out) c.search_once.new.quest.subject c.in-Ok.told c.search_once.ensures.subject
    c.in-Ok.ensures.finds

pub returns-in-Err-Stopped-clause-breaks : goal.returns-in-Err-Stopped-clause-breaks
returns-in-Err-Stopped-clause-breaks g c =
    let s = c.args.quest.now.subject in
    let sink = sink_side g.K.Sink c.args.out.now c.search_once.new.out in
    plain_breaks (slice_cmp nat_cmp) c.args.limits.now c.args.view.now s sink (Stopped c.in-Err-Stopped.status)
    (λ e. (let no : Stopped c.in-Err-Stopped.status ≡ Timer = e in cc))
    (subst (BreaksOff s c.args.view.now sink) c.in-Err-Stopped.field-0-is c.in-Err-Stopped.ensures.breaks)

pub returns-in-Err-Unwritten-clause-breaks : goal.returns-in-Err-Unwritten-clause-breaks
returns-in-Err-Unwritten-clause-breaks g c =
    let s = c.args.quest.now.subject in
    let sink = sink_side g.K.Sink c.args.out.now c.search_once.new.out in
    plain_breaks (slice_cmp nat_cmp) c.args.limits.now c.args.view.now s sink Unwritten (λ e. (let no : Unwritten ≡ Timer = e in cc))
    (subst (BreaksOff s c.args.view.now sink) c.in-Err-Unwritten.field-0-is c.in-Err-Unwritten.ensures.breaks)

pub returns-in-Err-clause-breaks : goal.returns-in-Err-clause-breaks
returns-in-Err-clause-breaks g c =
    let s = c.args.quest.now.subject in
    let view = c.args.view.now in
    let off = subst (BreaksOff s view (sink_side g.K.Sink c.args.out.now c.search_once.new.out)) c.in-Err-Timer.field-0-is c.in-Err-Timer.ensures.breaks in
    counting_breaks c.args.limits.now view s (g.K.Sink.written c.args.out.now) (g.K.Sink.written c.search_once.new.out)
    (g.K.Sink.written c.put_all.new.out) (g.K.Sink.faults c.args.out.now) (g.K.Sink.faults c.search_once.new.out) (g.K.Sink.faults c.put_all.new.out) off
    c.search_once.ensures.never_falls c.in-Err.ensures.front c.in-Err.ensures.cause

pub returns-clause-finds : goal.returns-clause-finds
returns-clause-finds g c =
    let s = c.args.quest.now.subject in
    let view = c.args.view.now in
    let limits = c.args.limits.now in
    let off = subst (BreaksOff s view (sink_side g.K.Sink c.args.out.now c.search_once.new.out)) c.in-Err-Timer.field-0-is c.in-Err-Timer.ensures.breaks in
    let searched = c.count_steps.new.self.subject in
    let is : searched ≡ bounded limits.steps s = c.count_steps.ensures ∙ ap (bounded limits.steps) c.search_once.ensures.subject in
    if_ok_map c.search_once-2.result _ _
    (λ told finds.
    counted_finds limits view s (g.K.Sink.written c.args.out.now) (g.K.Sink.written c.search_once.new.out) (g.K.Sink.written c.put_all.new.out)
    (g.K.Sink.faults c.args.out.now) (g.K.Sink.faults c.search_once.new.out) (g.K.Sink.faults c.put_all.new.out) off
    (g.K.Sink.written c.search_once-2.new.out) (g.K.Sink.faults c.search_once-2.new.out) c.in-Ok-put_all.ensures.appended (slice_cmp nat_cmp) searched
    c.search_once-2.new.quest.subject told is c.search_once-2.ensures.subject finds)
    c.search_once-2.ensures.finds

pub returns-clause-breaks : goal.returns-clause-breaks
returns-clause-breaks g c =
    let s = c.args.quest.now.subject in
    let view = c.args.view.now in
    let limits = c.args.limits.now in
    let off = subst (BreaksOff s view (sink_side g.K.Sink c.args.out.now c.search_once.new.out)) c.in-Err-Timer.field-0-is c.in-Err-Timer.ensures.breaks in
    let searched = c.count_steps.new.self.subject in
    let is : searched ≡ bounded limits.steps s = c.count_steps.ensures ∙ ap (bounded limits.steps) c.search_once.ensures.subject in
    let first = c.search_once.ensures.never_falls in
    let then = c.put_all.ensures.never_falls in
    let later : g.K.Sink.faults c.args.out.now ≤ g.K.Sink.faults c.put_all.new.out = omega (arith, first, then) in
    if_err_map c.search_once-2.result _ _
    (counted_breaks limits view s (g.K.Sink.written c.args.out.now) (g.K.Sink.written c.search_once.new.out) (g.K.Sink.written c.put_all.new.out)
    (g.K.Sink.faults c.args.out.now) (g.K.Sink.faults c.search_once.new.out) (g.K.Sink.faults c.put_all.new.out) off
    (g.K.Sink.written c.search_once-2.new.out) (g.K.Sink.faults c.search_once-2.new.out) c.in-Ok-put_all.ensures.appended searched is later)
    c.search_once-2.ensures.breaks
