use Rattle.std.proofs.Common.{[]}
use Rattle.order_search.proofs.FaultLemmas.{if_err, unchosen_caused}
use Rattle.order_search.proofs.QuestLemmas.{arrived_reserved}
use Rattle.order_search.proofs.SpaceLemmas.{if_ok, no_path, start_key}
use Rattle.order_search.proofs.space.QuestSpace.first.Goals as goal

pub arrive-requires : goal.arrive-requires
arrive-requires c = record { path = no_path c.args.self.now.subject }

pub key-key-requires-clause-reserved : goal.key-key-requires-clause-reserved
key-key-requires-clause-reserved c =
    arrived_reserved c.args.self.now.subject c.args.self.now.lawful c.args.self.now.can_start [] _ c.in_ok-run.ensures.arrives

pub returns-clause-key : goal.returns-clause-key
returns-clause-key c =
    if_ok c.key-key.result _ _ (λ key is. start_key c.args.self.now.subject _ key c.in_ok-run.ensures.arrives is) c.key-key.ensures.key

pub returns-clause-fault : goal.returns-clause-fault
returns-clause-fault c =
    if_err c.key-key.result _ _
    (λ fault why. unchosen_caused c.args.self.now.subject [] _ c.in_ok-run.ensures.arrives fault why) c.key-key.ensures.fault
