use Rattle.order_model.specs.Asking.{asked_of}
use Rattle.order_player.proofs.OrderLemmas.{reached_on}
use Rattle.order_search.specs.Quests.{IsKeyOf, searching_of, start_of}
use Rattle.order_search.proofs.EdgeLemmas.{edge_of}
use Rattle.order_search.proofs.FaultLemmas.{unchosen_caused}
use Rattle.order_search.proofs.QuestLemmas.{arrived_reserved}
use Rattle.order_search.proofs.RunLemmas.{room_kept}
use Rattle.order_search.proofs.quest.Quest.edge_on.Goals as goal

pub choose-requires-clause-may : goal.choose-requires-clause-may
choose-requires-clause-may c = c.requires.may _ c.requires.arrives

pub key-key-requires-clause-room : goal.key-key-requires-clause-room
key-key-requires-clause-room c = room_kept c.args.self.now.sheet.room c.choose.ensures.keeps c.requires.room

pub key-key-requires-clause-reserved : goal.key-key-requires-clause-reserved
key-key-requires-clause-reserved c =
    let there = reached_on (asked_of c.args.self.now.subject.orders) (start_of c.args.self.now.subject) _ _ c.in-Ok.label
    (record { order = c.args.path.now; leads = c.requires.arrives }) c.in-Ok.ensures.leads in
    arrived_reserved c.args.self.now.subject c.args.self.now.lawful c.args.self.now.can_start there.order _ there.leads

pub returns-in-Ok-key-clause-edge : goal.returns-in-Ok-key-clause-edge
returns-in-Ok-key-clause-edge c p arrives =
    edge_of (IsKeyOf (searching_of c.args.self.now.subject)) (asked_of c.args.self.now.subject.orders) (start_of c.args.self.now.subject)
    c.args.path.now p _ _ _ arrives c.requires.arrives c.in-Ok.ensures.leads c.in-Ok-key.ensures.key

pub returns-in-Err-clause-fault : goal.returns-in-Err-clause-fault
returns-in-Err-clause-fault c =
    unchosen_caused c.args.self.now.subject c.args.path.now _ c.requires.arrives c.in-Err.fault c.in-Err.ensures.fault

pub returns-in-Err-key-clause-fault : goal.returns-in-Err-key-clause-fault
returns-in-Err-key-clause-fault c =
    let there = reached_on (asked_of c.args.self.now.subject.orders) (start_of c.args.self.now.subject) _ _ c.in-Ok.label
    (record { order = c.args.path.now; leads = c.requires.arrives }) c.in-Ok.ensures.leads in
    unchosen_caused c.args.self.now.subject there.order _ there.leads c.in-Err-key.fault c.in-Err-key.ensures.fault
