use Rattle.std.proofs.Common.{refl}
use Rattle.std.specs.Option.{option_copied}
use Rattle.xk_kernel.specs.Start.{start}
use Rattle.xous_program.specs.Outcome.Starts.{room_of}
use Rattle.xous_program.proofs.Images.StartingLemmas.{asked_on, begins, fault_stops, room_is, rose_before, start_full, starts_at_zero}
use Rattle.xous_program.proofs.Images.StartingLemmas.{starts_unreserved}
use Rattle.xous_program.proofs.commands.booting.start_run.Goals as goal

pub returns-in-Ok-boot-clause-begins : goal.returns-in-Ok-boot-clause-begins
returns-in-Ok-boot-clause-begins g c = λ text.
    begins g.W.SwapStore c.in-Ok-boot.kernel c.args.plan.now c.args.file.now text c.requires.lawful c.in-Ok-boot.ensures.start c.in-Ok-boot.ensures.near
    (room_is c.in-Ok-boot.kernel c.args.plan.now _ c.in-Ok-boot.ensures.size refl refl)

pub returns-in-Ok-boot-clause-steps : goal.returns-in-Ok-boot-clause-steps
returns-in-Ok-boot-clause-steps g c = starts_at_zero g.W.SwapStore.held _ c.in-Ok-boot.kernel c.args.plan.now c.args.file.now c.in-Ok-boot.ensures.start

pub returns-in-Ok-boot-clause-unreserved : goal.returns-in-Ok-boot-clause-unreserved
returns-in-Ok-boot-clause-unreserved g c =
    starts_unreserved g.W.SwapStore.held _ c.in-Ok-boot.kernel c.args.plan.now c.args.file.now c.in-Ok-boot.ensures.start

pub returns-in-Err-clause-stopped : goal.returns-in-Err-clause-stopped
returns-in-Err-clause-stopped g c =
    let S = g.W.SwapStore in
    let fault = c.in-Err.fault in
    let plan = c.args.plan.now in
    fault_stops S (room_of plan) plan.slots (option_copied c.args.name) (start plan c.args.file.now) c.args.store fault.store
    c.ended_of.result.store fault.why c.ended_of.result.status c.ended_of.ensures.status c.ended_of.ensures.store
    (asked_on (S.asked c.args.store) (S.asked c.prepare.new.self) (S.asked fault.store) _ c.in-Err.ensures.back.preparations c.in-Ok.ensures.asked)
    (λ swap. rose_before (S.faults c.args.store) (S.faults c.prepare.new.self) (S.faults fault.store) c.prepare.ensures.never_falls
    (c.in-Err.ensures.cause swap))
    (λ swap. start_full plan c.args.file.now c.requires.lawful (c.in-Err.ensures.out swap))
