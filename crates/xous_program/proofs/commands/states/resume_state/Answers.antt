use Rattle.std.proofs.Common.{None}
use Rattle.machine_model.specs.State.Machine.{Machine}
use Rattle.snapshot_rows.specs.Machines.{machine_of as machine_in}
use Rattle.xous_program.specs.Outcome.States.{room_from}
use Rattle.xous_program.proofs.Images.StartingLemmas.{asked_on, fault_stops, rose_before}
use Rattle.xous_program.proofs.Outcome.ResumeLemmas.{resumed_begins, resumed_room, resumed_steps}
use Rattle.xous_program.proofs.commands.states.resume_state.Goals as goal

pub returns-in-Ok-resume-clause-begins : goal.returns-in-Ok-resume-clause-begins
returns-in-Ok-resume-clause-begins g c = λ text.
    resumed_begins g.W.SwapStore c.in-Ok-resume.kernel c.args.file.now c.args.state.now c.args.slots text
    c.in-Ok-resume.ensures.machine c.in-Ok-resume.ensures.near c.in-Ok-resume.ensures.size

pub returns-in-Ok-resume-clause-steps : goal.returns-in-Ok-resume-clause-steps
returns-in-Ok-resume-clause-steps g c =
    resumed_steps g.W.SwapStore.held _ c.in-Ok-resume.kernel c.args.file.now c.args.state.now c.in-Ok-resume.ensures.machine

pub returns-in-Ok-resume-clause-room : goal.returns-in-Ok-resume-clause-room
returns-in-Ok-resume-clause-room g c =
    resumed_room c.in-Ok-resume.kernel c.args.file.now c.args.state.now c.args.slots c.in-Ok-resume.ensures.size

pub returns-in-Err-clause-stopped : goal.returns-in-Err-clause-stopped
returns-in-Err-clause-stopped g c =
    let S = g.W.SwapStore in
    let fault = c.in-Err.fault in
    let machine : Machine = machine_in c.args.file.now c.args.state.now in
    fault_stops S (room_from machine c.args.slots) c.args.slots None machine c.args.store fault.store
    c.ended_of.result.store fault.why c.ended_of.result.status c.ended_of.ensures.status c.ended_of.ensures.store
    (asked_on (S.asked c.args.store) (S.asked c.prepare.new.self) (S.asked fault.store) _ c.in-Err.ensures.back.preparations c.in-Ok.ensures.asked)
    (λ swap. rose_before (S.faults c.args.store) (S.faults c.prepare.new.self) (S.faults fault.store) c.prepare.ensures.never_falls
    (c.in-Err.ensures.cause swap))
    c.in-Err.ensures.out
