use Rattle.std.proofs.Common.{◌≡◌, inr, subst, sym, ℕ, true, List, None}
use Rattle.machine_model.specs.State.Machine.{Machine}
use Rattle.snapshot_rows.specs.Machines.{machine_of as machine_in}
use Rattle.vm_memory.specs.Memory.{size, store_of}
use Rattle.xk_kernel.specs.State.{machine_of}
use Rattle.event_player.specs.Gathering.{Text}
use Rattle.xous_program.specs.Outcome.Sides.{Prepares, store_side}
use Rattle.xous_program.specs.Outcome.Starts.{StopsIn}
use Rattle.xous_program.specs.Outcome.States.{room_from}
use Rattle.event_player.specs.Standing.{Begins, room_in, stand}
use Rattle.xous_program.specs.StateFiles.{IsSoundState}
use Rattle.xous_program.proofs.Images.StartingLemmas.{all_ok, both_ok, if_err}
use Rattle.xous_program.proofs.Outcome.ResumeLemmas.{state_file_of}
use Rattle.xous_program.proofs.commands.states.continue_run.Goals as goal

pub resume_state-requires : goal.resume_state-requires
resume_state-requires g c =
    let saved = c.in-Ok.saved in
    let S : List ℕ → Type 0 = λ bytes. IsSoundState bytes c.args.resume.slots saved.state in
    record { sound = subst S (sym c.as_slice.ensures.value) c.in-Ok.ensures.sound }

pub returns-in-Ok-clause-resumed : goal.returns-in-Ok-clause-resumed
returns-in-Ok-clause-resumed g c =
    let saved = c.in-Ok.saved in
    let is = c.in-Ok.ensures in
    let held = g.W.SwapStore.held in
    let bytes : List ℕ = c.as_slice.result.now in
    let slots = c.args.resume.slots in
    let machine : Machine = machine_in bytes saved.state in
    let file = state_file_of (g.H.Host.file c.args.host.now) c.args.resume.state.now saved.bytes.items bytes slots saved.state is.read is.sound
    c.as_slice.ensures.value in
    all_ok c.resume_state.result
    (λ k. ((text : Text) → Begins machine (stand g.W.SwapStore k text)) × ((machine_of held k).steps ≡ saved.state.steps))
    (λ k. room_in k ≡ room_from machine slots)
    (λ k. (size k.mem).slots ≡ slots)
    (λ k. Prepares (store_side g.W.SwapStore c.args.store (store_of k.mem)) slots None true)
    _
    (λ k first room same prepared. (machine, first.0, first.1, record { state = file; room = room; slots = same; prepared = prepared }))
    (both_ok c.resume_state.result
    (λ k. (text : Text) → Begins machine (stand g.W.SwapStore k text))
    (λ k. (machine_of held k).steps ≡ saved.state.steps)
    _ (λ k begins steps. (begins, steps)) c.resume_state.ensures.begins c.resume_state.ensures.steps)
    c.resume_state.ensures.room c.resume_state.ensures.slots c.resume_state.ensures.prepared

pub returns-in-Ok-clause-ends : goal.returns-in-Ok-clause-ends
returns-in-Ok-clause-ends g c = λ out unwritten.
    let saved = c.in-Ok.saved in
    let is = c.in-Ok.ensures in
    let bytes : List ℕ = c.as_slice.result.now in
    let slots = c.args.resume.slots in
    let machine : Machine = machine_in bytes saved.state in
    let file = state_file_of (g.H.Host.file c.args.host.now) c.args.resume.state.now saved.bytes.items bytes slots saved.state is.read is.sound
    c.as_slice.ensures.value in
    if_err c.resume_state.result
    (λ e. StopsIn (room_from machine slots) slots None machine
    (store_side g.W.SwapStore c.args.store e.store) e.status)
    _
    (λ e stopped. inr (record { asked = is.picked; machine = machine; state = file; stopped = stopped; unwritten = unwritten }))
    c.resume_state.ensures.stopped
