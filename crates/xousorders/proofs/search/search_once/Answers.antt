use Rattle.std.proofs.Common.{◌∙◌, [], refl, subst}
use Rattle.std.specs.Cmp.Lexicographic.{slice_cmp}
use Rattle.std.specs.Ordering.{nat_cmp}
use Rattle.graph_search.specs.Edges.{HasCause}
use Rattle.order_search.proofs.QuestLemmas.{start_matched}
use Rattle.order_search.specs.declared.subject.Subject.{Subject}
use Rattle.order_search.specs.Faults.{IsFault}
use Rattle.program_status.specs.Notes.{sink_side}
use Rattle.xousorders.specs.Halts.{Follows}
use Rattle.xousorders.proofs.SinkLemmas.{halt_breaks, none_got, none_real}
use Rattle.xousorders.proofs.ToldLemmas.{finds_so}
use Rattle.xousorders.proofs.search.search_once.Goals as goal

pub returns-in-Err-clause-breaks : goal.returns-in-Err-clause-breaks
returns-in-Err-clause-breaks g c =
    let s = c.args.quest.now.subject in
    let view = c.args.view.now in
    halt_breaks s view [] (sink_side g.K.Sink c.args.out.now c.args.out.now) (none_real s view)
    (none_got view (g.K.Sink.written c.args.out.now) (g.K.Sink.faults c.args.out.now) [] refl) c.halt_for.result
    (c.halt_for.ensures s (subst (λ (x : Subject). HasCause (IsFault x) c.in-Err.answer) c.begin_search.ensures.subject c.in-Err.ensures.fault))

pub returns-clause-finds : goal.returns-clause-finds
returns-clause-finds g c =
    let quest = c.args.quest.now in
    let limits = c.args.limits.now in
    let view = c.args.view.now in
    let search = c.search_on.new.search in
    let endings = c.search_on.new.endings in
    let sink = sink_side g.K.Sink c.args.out.now c.search_on.new.out in
    finds_so (slice_cmp nat_cmp) limits view quest.subject (start_matched quest.subject quest.lawful quest.can_start) search endings sink
    c.in_ok-extent.extent
    (subst (λ (x : Subject). Follows (slice_cmp nat_cmp) limits view x search endings sink c.in_ok-extent.extent) c.begin_search.ensures.subject
    c.in_ok-extent.ensures.follows)
    (c.search_on.ensures.strategy ∙ c.in-Ok.ensures.begins.strategy_is) _ c.into_found-found.ensures.strategy c.into_found-found.ensures.edges
    c.into_found-found.ensures.notes c.into_found-found.ensures.extent refl
