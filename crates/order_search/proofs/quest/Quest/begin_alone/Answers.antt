use Rattle.order_search.proofs.SpaceLemmas.{no_path}
use Rattle.order_search.proofs.quest.Quest.begin_alone.Goals as goal

pub arrive-requires : goal.arrive-requires
arrive-requires c = record { path = no_path c.args.self.now.subject }
