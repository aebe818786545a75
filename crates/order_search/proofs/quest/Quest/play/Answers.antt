use Rattle.std.proofs.Common.{IsSome, ap, subst, sym, ◌∙◌}
use Rattle.event_player.proofs.Playing.KeptLemmas.{kept_after}
use Rattle.order_model.specs.Moves.{Point, leads_by}
use Rattle.order_model.specs.Asking.{asked_of}
use Rattle.order_search.proofs.QuestLemmas.{path_arrives}
use Rattle.order_search.proofs.quest.Quest.play.Goals as goal

pub play_order-requires-clause-leads : goal.play_order-requires-clause-leads
play_order-requires-clause-leads c =
    subst (λ (p : Point). IsSome (leads_by (asked_of c.args.self.now.subject.orders) p c.args.order.now)) (sym c.in_ok-trail.ensures.point)
    (path_arrives c.args.self.now.subject c.args.self.now.lawful c.args.self.now.can_start c.args.order.now c.requires.path)

pub returns-in-Ok-clause-arrives : goal.returns-in-Ok-clause-arrives
returns-in-Ok-clause-arrives c =
    ap (λ (p : Point). leads_by (asked_of c.args.self.now.subject.orders) p c.args.order.now) (sym c.in_ok-trail.ensures.point)
    ∙ c.in-Ok.ensures.leads

pub returns-in-Ok-clause-keeps : goal.returns-in-Ok-clause-keeps
returns-in-Ok-clause-keeps c = kept_after c.begin.ensures.keeps c.play_order.ensures.keeps

pub returns-in-Err-clause-keeps : goal.returns-in-Err-clause-keeps
returns-in-Err-clause-keeps c = kept_after c.begin.ensures.keeps c.play_order.ensures.keeps
