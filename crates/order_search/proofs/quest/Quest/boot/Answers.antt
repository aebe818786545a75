use Rattle.std.proofs.Common.{refl}
use Rattle.order_search.proofs.RunLemmas.{booted, room_here, room_is}
use Rattle.order_search.proofs.quest.Quest.boot.Goals as goal

pub returns-in-Ok-boot-clause-booted : goal.returns-in-Ok-boot-clause-booted
returns-in-Ok-boot-clause-booted c =
    booted _ c.in-Ok-boot.kernel c.args.self.now.subject c.deref.result.now c.deref.ensures.value c.args.self.now.lawful refl
    c.in-Ok-boot.ensures.start c.in-Ok-boot.ensures.near (room_is c.in-Ok-boot.kernel c.args.self.now.subject.plan _ c.in-Ok-boot.ensures.size refl refl)

pub returns-in-Ok-boot-clause-room : goal.returns-in-Ok-boot-clause-room
returns-in-Ok-boot-clause-room c =
    room_here _ c.in-Ok-boot.kernel _ c.args.self.now.sheet.room c.in-Ok-boot.ensures.size c.args.self.now.room
