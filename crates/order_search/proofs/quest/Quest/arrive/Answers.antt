use Rattle.order_search.proofs.RunLemmas.{room_kept}
use Rattle.order_search.proofs.quest.Quest.arrive.Goals as goal

pub returns-in-Ok-clause-room : goal.returns-in-Ok-clause-room
returns-in-Ok-clause-room c = room_kept c.args.self.now.sheet.room c.play.ensures.keeps c.in_ok-kernel.ensures.room
