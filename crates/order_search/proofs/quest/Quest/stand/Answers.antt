use Rattle.order_model.specs.Asking.{asked_of}
use Rattle.order_search.specs.Quests.{start_of}
use Rattle.order_search.proofs.StandLemmas.{stands_on}
use Rattle.order_search.proofs.quest.Quest.stand.Goals as goal

pub returns-in-Ok-clause-stands : goal.returns-in-Ok-clause-stands
returns-in-Ok-clause-stands c p arrives =
    stands_on (asked_of c.args.self.now.subject.orders) (start_of c.args.self.now.subject) c.args.order.now p _ c.in_ok-run.run'.trail
    c.rows_there-rows.new.run.trail c.in-Ok.state arrives c.in_ok-run.ensures.arrives c.in-Ok.ensures.rows c.rows_there-rows.ensures.trail
