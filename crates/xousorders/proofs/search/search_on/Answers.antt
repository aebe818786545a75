use Rattle.std.proofs.Common.{◌≡◌, ◌∙◌, length, List, ℕ, Ok, Result, refl, sym, ap, subst}
use Rattle.std.proofs.lemmas.Bool.{false_from_ne_true, false≢true}
use Rattle.std.specs.Cmp.Lexicographic.{slice_cmp}
use Rattle.std.specs.Ordering.{nat_cmp}
use Rattle.graph_search.specs.declared.following.Turn.{Turn}
use Rattle.graph_search.specs.declared.following.Turn.TheVariants.{Cut as CutTurn, Followed, Whole as WholeTurn}
use Rattle.graph_search.specs.declared.found.Cut.{Cut as Why}
use Rattle.graph_search.specs.declared.found.Cut.TheVariants.{Stopped}
use Rattle.graph_search.specs.declared.found.Extent.TheVariants.{Cut, Whole}
use Rattle.order_search.specs.declared.quest.OrderFault.{OrderFault}
use Rattle.order_search.specs.declared.subject.Subject.{Subject}
use Rattle.order_search.specs.Faults.{IsFault}
use Rattle.order_search.specs.Found.{IsUnderWay}
use Rattle.program_status.specs.Notes.{sink_side}
use Rattle.xousorders.specs.Endings.{AreEndings}
use Rattle.xousorders.specs.Halts.{BreaksOff}
use Rattle.xousorders.specs.Reports.{MayStop, is_failure}
use Rattle.xousorders.specs.Searched.{telling_at}
use Rattle.order_text.specs.declared.endings.Ending.{Ending}
use Rattle.xousorders.proofs.EndingLemmas.{no_endings}
use Rattle.xousorders.proofs.FollowLemmas.{before_node, behind_node, follows_to_end, follows_to_stop, nodes_found, none_fail, one_alone, orders_found, others_kept}
use Rattle.xousorders.proofs.ResultLemmas.{exit_says}
use Rattle.xousorders.proofs.SinkLemmas.{halt_breaks, none_got}
use Rattle.xousorders.proofs.ToldLemmas.{all_real}
use Rattle.xousorders.proofs.search.search_on.Goals as goal

pub loop-cut-init : goal.loop-cut-init
loop-cut-init g c =
    let s = c.args.quest.now.subject in
    let t = telling_at s c.args.search.now in
    let view = c.args.view.now in
    let endings = c.args.endings.now in
    record {
      subject = refl;
      strategy = refl;
      under_way = c.requires.under_way;
      nodes = c.requires.nodes;
      endings = subst (λ (n : ℕ). AreEndings t view n endings) (sym (ap length c.requires.notes))
          (no_endings t view endings c.requires.list c.requires.looks);
      got = none_got view (g.K.Sink.written c.args.out.now) (g.K.Sink.faults c.args.out.now) endings.list.items c.requires.list;
      none = λ first. none_fail view endings.list.items c.requires.list;
    }

pub follow_node-requires : goal.follow_node-requires
follow_node-requires g c =
    subst (λ (s : Subject). IsUnderWay (slice_cmp nat_cmp) c.args.limits.now.states s c.loop-cut.search) (sym c.loop-cut.invariant.subject)
    c.loop-cut.invariant.under_way

pub returns-in-Ok-Whole-clause-follows : goal.returns-in-Ok-Whole-clause-follows
returns-in-Ok-Whole-clause-follows g c =
    let s = c.args.quest.now.subject in
    let inv = c.loop-cut.invariant in
    let states = c.args.limits.now.states in
    let new = c.follow_node.new.search in
    let same : c.follow_node.new.quest.subject ≡ s = c.follow_node.ensures.subject ∙ inv.subject in
    let is : c.follow_node.result ≡ Ok WholeTurn = c.in-Ok-Whole.is ∙ ap (λ (turn : Turn). Ok turn) c.in-Ok-Whole.field-0-is in
    follows_to_end (slice_cmp nat_cmp) c.args.limits.now c.args.view.now s new c.loop-cut.endings _ Whole
    (nodes_found (slice_cmp nat_cmp) states s c.follow_node.new.quest.subject same new c.follow_node.result (Ok WholeTurn) is c.follow_node.ensures.nodes)
    (orders_found (slice_cmp nat_cmp) states s c.follow_node.new.quest.subject same new c.follow_node.result (Ok WholeTurn) is c.follow_node.ensures.whole)
    (others_kept s c.args.view.now states c.loop-cut.search new c.follow_node.result c.follow_node.ensures.goes inv.nodes.found c.loop-cut.endings
    inv.endings (λ followed. (let no : ◌≡◌ {A = Result Turn OrderFault} (Ok WholeTurn) (Ok Followed) = sym is ∙ followed in cc)))
    inv.got (λ e. (let no : Whole ≡ Cut Stopped = e in cc)) inv.none

pub returns-in-Ok-Cut-clause-follows : goal.returns-in-Ok-Cut-clause-follows
returns-in-Ok-Cut-clause-follows g c =
    let s = c.args.quest.now.subject in
    let inv = c.loop-cut.invariant in
    let states = c.args.limits.now.states in
    let new = c.follow_node.new.search in
    let why : Why = c.in-Ok-Cut.cut in
    let same : c.follow_node.new.quest.subject ≡ s = c.follow_node.ensures.subject ∙ inv.subject in
    let is : c.follow_node.result ≡ Ok (CutTurn why) = c.in-Ok-Cut.is ∙ ap (λ (turn : Turn). Ok turn) c.in-Ok-Cut.field-0-is in
    follows_to_end (slice_cmp nat_cmp) c.args.limits.now c.args.view.now s new c.loop-cut.endings _ (Cut why)
    (nodes_found (slice_cmp nat_cmp) states s c.follow_node.new.quest.subject same new c.follow_node.result (Ok (CutTurn why)) is
    c.follow_node.ensures.nodes)
    (orders_found (slice_cmp nat_cmp) states s c.follow_node.new.quest.subject same new c.follow_node.result (Ok (CutTurn why)) is
    c.follow_node.ensures.whole)
    (others_kept s c.args.view.now states c.loop-cut.search new c.follow_node.result c.follow_node.ensures.goes inv.nodes.found c.loop-cut.endings
    inv.endings (λ followed. (let no : ◌≡◌ {A = Result Turn OrderFault} (Ok (CutTurn why)) (Ok Followed) = sym is ∙ followed in cc)))
    inv.got
    (λ e.
    (let stopped : why ≡ Stopped = (let same_cut : Cut why ≡ Cut Stopped = e in cc) in
    c.follow_node.ensures.goes.not_stopped (is ∙ ap (λ (x : Why). Ok (CutTurn x)) stopped)))
    inv.none

pub returns-in-Err-clause-breaks : goal.returns-in-Err-clause-breaks
returns-in-Err-clause-breaks g c =
    let s = c.args.quest.now.subject in
    let inv = c.loop-cut.invariant in
    let same : c.follow_node.new.quest.subject ≡ s = c.follow_node.ensures.subject ∙ inv.subject in
    halt_breaks s c.args.view.now c.loop-cut.endings.list.items (sink_side g.K.Sink c.args.out.now c.loop-cut.out)
    (all_real (telling_at s c.loop-cut.search) c.args.view.now (length c.loop-cut.search.notes.items) c.loop-cut.endings inv.endings inv.nodes.found
    inv.nodes.orders)
    inv.got c.halt_of.result (c.halt_of.ensures s (subst (λ (x : Subject). IsFault x c.in-Err.fault) same c.in-Err.ensures.fault))

pub returns-in_err-tell_node-clause-breaks : goal.returns-in_err-tell_node-clause-breaks
returns-in_err-tell_node-clause-breaks g c =
    let s = c.args.quest.now.subject in
    let now = c.follow_node.new.quest.subject in
    let inv = c.loop-cut.invariant in
    let same : now ≡ s = c.follow_node.ensures.subject ∙ inv.subject in
    let is : c.follow_node.result ≡ Ok Followed = c.in-Ok-Followed.is ∙ ap (λ (turn : Turn). Ok turn) c.in-Ok-Followed.field-0-is in
    let sink = sink_side g.K.Sink c.args.out.now c.tell_node.new.out in
    exit_says c.from_residual.result _ (BreaksOff s c.args.view.now sink) c.from_residual.ensures.1
    (subst (λ (x : Subject). BreaksOff x c.args.view.now sink c.in_err-tell_node.field-0.0) same
    (c.in_err-tell_node.ensures.breaks c.args.out.now inv.got
    (before_node s c.args.view.now c.args.limits.now.states c.loop-cut.search c.follow_node.new.search c.follow_node.result
    c.follow_node.ensures.goes inv.nodes.found c.loop-cut.endings inv.endings now same _ (ap length c.notes-node.ensures) is)))

pub returns-then-is_stopped-clause-follows : goal.returns-then-is_stopped-clause-follows
returns-then-is_stopped-clause-follows g c =
    let s = c.args.quest.now.subject in
    let now = c.follow_node.new.quest.subject in
    let inv = c.loop-cut.invariant in
    let states = c.args.limits.now.states in
    let view = c.args.view.now in
    let new = c.follow_node.new.search in
    let same : now ≡ s = c.follow_node.ensures.subject ∙ inv.subject in
    let is : c.follow_node.result ≡ Ok Followed = c.in-Ok-Followed.is ∙ ap (λ (turn : Turn). Ok turn) c.in-Ok-Followed.field-0-is in
    follows_to_stop (slice_cmp nat_cmp) c.args.limits.now view s new c.tell_node.new.endings _ (Cut Stopped)
    (nodes_found (slice_cmp nat_cmp) states s now same new c.follow_node.result (Ok Followed) is c.follow_node.ensures.nodes)
    (orders_found (slice_cmp nat_cmp) states s now same new c.follow_node.result (Ok Followed) is c.follow_node.ensures.whole)
    (behind_node s view states c.loop-cut.search new c.follow_node.result c.follow_node.ensures.goes inv.nodes.found c.loop-cut.endings inv.endings now
    same _ (ap length c.notes-node.ensures) is c.tell_node.new.endings c.in_ok-tell_node.ensures.adds)
    (c.in_ok-tell_node.ensures.got c.args.out.now inv.got) refl
    (subst (λ (list : List Ending). MayStop c.args.limits.now view list) c.deref.ensures.value (c.is_stopped.ensures.may c.if-is_stopped.true))
    (λ first. one_alone view c.loop-cut.endings.list.items c.tell_node.new.endings.list.items c.in_ok-tell_node.ensures.one (inv.none first))

pub loop-cut-preserved : goal.loop-cut-preserved
loop-cut-preserved g c =
    let s = c.args.quest.now.subject in
    let now = c.follow_node.new.quest.subject in
    let inv = c.loop-cut.invariant in
    let states = c.args.limits.now.states in
    let view = c.args.view.now in
    let new = c.follow_node.new.search in
    let same : now ≡ s = c.follow_node.ensures.subject ∙ inv.subject in
    let is : c.follow_node.result ≡ Ok Followed = c.in-Ok-Followed.is ∙ ap (λ (turn : Turn). Ok turn) c.in-Ok-Followed.field-0-is in
    record {
      subject = c.tell_node.ensures.subject ∙ same;
      strategy = c.follow_node.ensures.goes.strategy ∙ inv.strategy;
      under_way = subst (λ (x : Subject). IsUnderWay (slice_cmp nat_cmp) states x new) same c.follow_node.ensures.under_way;
      nodes = nodes_found (slice_cmp nat_cmp) states s now same new c.follow_node.result (Ok Followed) is c.follow_node.ensures.nodes;
      endings = behind_node s view states c.loop-cut.search new c.follow_node.result c.follow_node.ensures.goes inv.nodes.found c.loop-cut.endings
          inv.endings now same _ (ap length c.notes-node.ensures) is c.tell_node.new.endings c.in_ok-tell_node.ensures.adds;
      got = c.in_ok-tell_node.ensures.got c.args.out.now inv.got;
      none = λ first.
          false_from_ne_true (is_failure view c.tell_node.new.endings.list.items)
          (λ fails. false≢true (sym c.if-is_stopped.false ∙ c.is_stopped.ensures.must first (ap (is_failure view) c.deref.ensures.value ∙ fails)));
    }
