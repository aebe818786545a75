use Rattle.std.proofs.Common.{List, ◌∙◌, refl, sym, ap, subst, arith}
use Rattle.graph_search.specs.Edges.{AreEdges}
use Rattle.graph_search.specs.Paths.{labels_to}
use Rattle.graph_search.specs.Searches.{IsSearchAt}
use Rattle.graph_search.specs.Searching.{progress_of}
use Rattle.graph_search.proofs.GoesLemmas.{IsNext, goes_cut, goes_one, goes_wrong, next_by}
use Rattle.graph_search.proofs.LeaveLemmas.{leaves_goes, left_all, left_some}
use Rattle.graph_search.proofs.MeetLemmas.{GoesOn, goes_nowhere}
use Rattle.graph_search.proofs.following.expand.Goals as goal

pub returns-in-Err-clause-goes : goal.returns-in-Err-clause-goes
returns-in-Err-clause-goes g c = goes_cut c.args.limit c.args.search.now c.args.search.now (goes_nowhere _ _ refl) (λ h. h) _ tt

pub successors-requires : goal.successors-requires
successors-requires g c =
    let at = g.S.Space.setting c.args.space.now in
    let p = progress_of c.args.search.now in
    let next : IsNext (g.S.Space.after at) (g.S.Space.IsKey at) (g.S.Space.IsNote at) g.S.Key.Ord.cmp (g.S.Space.start at) p c.deref-2.result.now =
    next_by (g.S.Space.after at) (g.S.Space.IsKey at) (g.S.Space.IsNote at) g.S.Key.Ord.cmp (g.S.Space.start at) p c.deref-2.result.now c.len-from.result
    c.requires.search c.requires.more (omega arith)
    (c.deref-2.ensures.value ∙ (c.in-Ok.ensures ∙ ap (λ (es : List _). labels_to es c.len-from.result) c.deref.ensures.value)) in
    (next.node, next.by)

pub returns-in-Err-Memory-clause-goes : goal.returns-in-Err-Memory-clause-goes
returns-in-Err-Memory-clause-goes g c = goes_cut c.args.limit c.args.search.now c.args.search.now (goes_nowhere _ _ refl) (λ h. h) _ tt

pub returns-in-Err-Fault-clause-goes : goal.returns-in-Err-Fault-clause-goes
returns-in-Err-Fault-clause-goes g c = goes_wrong c.args.limit c.args.search.now c.args.search.now (goes_nowhere _ _ refl) (λ h. h) c.in-Err-Fault.fault

pub returns-in-Err-leave-clause-search : goal.returns-in-Err-leave-clause-search
returns-in-Err-leave-clause-search g c =
    let at = g.S.Space.setting c.args.space.now in
    let p = progress_of c.args.search.now in
    let next : IsNext (g.S.Space.after at) (g.S.Space.IsKey at) (g.S.Space.IsNote at) g.S.Key.Ord.cmp (g.S.Space.start at) p c.deref-2.result.now =
    next_by (g.S.Space.after at) (g.S.Space.IsKey at) (g.S.Space.IsNote at) g.S.Key.Ord.cmp (g.S.Space.start at) p c.deref-2.result.now c.len-from.result
    c.requires.search c.requires.more (omega arith)
    (c.deref-2.ensures.value ∙ (c.in-Ok.ensures ∙ ap (λ (es : List _). labels_to es c.len-from.result) c.deref.ensures.value)) in
    let all : AreEdges (g.S.Space.after at) (g.S.Space.IsKey at) next.node c.deref-3.result.now =
    subst (λ (ts : List _). AreEdges (g.S.Space.after at) (g.S.Space.IsKey at) next.node ts) (sym c.deref-3.ensures.value)
    (c.in-Ok-successors.ensures.edges next.node next.by) in
    left_some (g.S.Space.after at) (g.S.Space.IsKey at) (g.S.Space.IsNote at) g.S.Key.Ord.cmp (g.S.Space.start at) p c.requires.search c.requires.more
    next.node next.here c.deref-3.result.now all c.len-from.result (progress_of c.leave.new.search) (omega arith) c.leave.ensures.some

pub returns-in-Err-leave-clause-goes : goal.returns-in-Err-leave-clause-goes
returns-in-Err-leave-clause-goes g c =
    goes_cut c.args.limit c.args.search.now c.leave.new.search
    (leaves_goes g.S.Key.Ord.cmp c.len-from.result c.args.search.now.strategy c.deref-3.result.now (progress_of c.args.search.now)
    (progress_of c.leave.new.search) c.leave.ensures.some) c.leave.ensures.within c.in-Err-leave.cut c.in-Err-leave.ensures.cut

pub returns-in-Ok-push-clause-search : goal.returns-in-Ok-push-clause-search
returns-in-Ok-push-clause-search g c =
    let at = g.S.Space.setting c.args.space.now in
    let p = progress_of c.args.search.now in
    let next : IsNext (g.S.Space.after at) (g.S.Space.IsKey at) (g.S.Space.IsNote at) g.S.Key.Ord.cmp (g.S.Space.start at) p c.deref-2.result.now =
    next_by (g.S.Space.after at) (g.S.Space.IsKey at) (g.S.Space.IsNote at) g.S.Key.Ord.cmp (g.S.Space.start at) p c.deref-2.result.now c.len-from.result
    c.requires.search c.requires.more (omega arith)
    (c.deref-2.ensures.value ∙ (c.in-Ok.ensures ∙ ap (λ (es : List _). labels_to es c.len-from.result) c.deref.ensures.value)) in
    let all : AreEdges (g.S.Space.after at) (g.S.Space.IsKey at) next.node c.deref-3.result.now =
    subst (λ (ts : List _). AreEdges (g.S.Space.after at) (g.S.Space.IsKey at) next.node ts) (sym c.deref-3.ensures.value)
    (c.in-Ok-successors.ensures.edges next.node next.by) in
    left_all (g.S.Space.after at) (g.S.Space.IsKey at) (g.S.Space.IsNote at) g.S.Key.Ord.cmp (g.S.Space.start at) p c.requires.search c.requires.more
    next.node next.here c.deref-3.result.now all c.len-from.result (progress_of c.leave.new.search) c.in-Ok-successors.followed.note
    c.push.new.self.items (omega arith) (c.in-Ok-successors.ensures.note next.node next.by) c.in-Ok-leave.ensures.all c.in-Ok-push.ensures.items

pub returns-in-Ok-push-clause-goes : goal.returns-in-Ok-push-clause-goes
returns-in-Ok-push-clause-goes g c =
    goes_one c.args.limit c.args.search.now c.leave.new.search _ c.in-Ok-successors.followed.note
    (leaves_goes g.S.Key.Ord.cmp c.len-from.result c.args.search.now.strategy c.deref-3.result.now (progress_of c.args.search.now)
    (progress_of c.leave.new.search) c.leave.ensures.some) c.leave.ensures.within refl refl c.in-Ok-push.ensures.items

pub returns-clause-search : goal.returns-clause-search
returns-clause-search g c =
    let at = g.S.Space.setting c.args.space.now in
    let p = progress_of c.args.search.now in
    let next : IsNext (g.S.Space.after at) (g.S.Space.IsKey at) (g.S.Space.IsNote at) g.S.Key.Ord.cmp (g.S.Space.start at) p c.deref-2.result.now =
    next_by (g.S.Space.after at) (g.S.Space.IsKey at) (g.S.Space.IsNote at) g.S.Key.Ord.cmp (g.S.Space.start at) p c.deref-2.result.now c.len-from.result
    c.requires.search c.requires.more (omega arith)
    (c.deref-2.ensures.value ∙ (c.in-Ok.ensures ∙ ap (λ (es : List _). labels_to es c.len-from.result) c.deref.ensures.value)) in
    let all : AreEdges (g.S.Space.after at) (g.S.Space.IsKey at) next.node c.deref-3.result.now =
    subst (λ (ts : List _). AreEdges (g.S.Space.after at) (g.S.Space.IsKey at) next.node ts) (sym c.deref-3.ensures.value)
    (c.in-Ok-successors.ensures.edges next.node next.by) in
    subst (λ (ns : List _). IsSearchAt (g.S.Space.after at) (g.S.Space.IsKey at) (g.S.Space.IsNote at) g.S.Key.Ord.cmp (g.S.Space.start at)
    (record (progress_of c.leave.new.search) { notes = ns })) (sym c.in-Err-push.ensures.items)
    (left_some (g.S.Space.after at) (g.S.Space.IsKey at) (g.S.Space.IsNote at) g.S.Key.Ord.cmp (g.S.Space.start at) p c.requires.search c.requires.more
    next.node next.here c.deref-3.result.now all c.len-from.result (progress_of c.leave.new.search) (omega arith) c.leave.ensures.some)

pub returns-clause-goes : goal.returns-clause-goes
returns-clause-goes g c =
    let goes : GoesOn (progress_of c.args.search.now) (progress_of c.leave.new.search) =
    leaves_goes g.S.Key.Ord.cmp c.len-from.result c.args.search.now.strategy c.deref-3.result.now (progress_of c.args.search.now)
    (progress_of c.leave.new.search) c.leave.ensures.some in
    goes_cut c.args.limit c.args.search.now _
    (record { strategy = goes.strategy; notes = c.in-Err-push.ensures.items ∙ goes.notes; more = goes.more; edges = goes.edges })
    c.leave.ensures.within _ tt
