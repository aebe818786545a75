use Rattle.std.proofs.Common.{◌≡◌, ℕ, ap, ◌∙◌, subst, sym, refl, inr, None}
use Rattle.machine_model.specs.State.Machine.{Machine}
use Rattle.vm_memory.specs.Memory.{store_of}
use Rattle.xk_base.specs.declared.limits.TheConstants.{DEFAULT_STEPS}
use Rattle.machine_laws.specs.History.{history}
use Rattle.machine_laws.specs.HistoryMoments.{moments_of}
use Rattle.demo_load.specs.Events.{load_events, load_history, load_machine, load_plan}
use Rattle.demo_load.specs.Totals.{demo_line, totals_of}
use Rattle.xk_kernel.specs.Moments.{Stood, Throughout}
use Rattle.xous_program.proofs.Headline.RamLemmas.{had_kernels, stopped_runs_not}
use Rattle.xous_program.specs.Outcome.Demo.{Demonstrates}
use Rattle.xous_program.specs.Outcome.InRam.{EndsRun, HadKernels}
use Rattle.xous_program.specs.Outcome.Said.{load_run}
use Rattle.xous_program.specs.Outcome.Sides.{StoreSide, store_side}
use Rattle.xous_program.specs.Outcome.Starts.{room_of}
use Rattle.program_status.specs.Notes.{SinkSide, sink_side}
use Rattle.event_player.specs.Rooms.{ComesFull, Room}
use Rattle.event_player.specs.Standing.{room_in}
use Rattle.program_status.specs.declared.status.Status.TheVariants.{SwapFault}
use Rattle.xous_program.proofs.Images.StartingLemmas.{asked_on, load_told, rose_before}
use Rattle.xous_program.proofs.commands.demo.play_demo.Goals as goal

pub returns-in-Ok-play_load-clause-told : goal.returns-in-Ok-play_load-clause-told
returns-in-Ok-play_load-clause-told g c =
    let clients : ℕ = c.args.demo.clients in
    let asked = g.W.SwapStore.asked in
    let before = c.in-Ok.kernel in
    let after = c.play_load.new.kernel in
    let out : SinkSide = sink_side g.K.Sink c.args.out.now c.write_totals-status.new.out in
    let S : g.row.W.Denot → Type 0 = λ store. Demonstrates clients out (store_side g.W.SwapStore c.args.store store) c.write_totals-status.result in
    let line : demo_line clients c.in-Ok-play_load.totals ≡ demo_line clients (totals_of (load_history clients).records) =
    ap (demo_line clients)
    (c.in-Ok-play_load.ensures.counted
    ∙ ap (λ (m : Machine). totals_of (history (load_events clients) DEFAULT_STEPS m).records) c.in-Ok.ensures.booted) in
    subst S (sym c.close.ensures)
    (inr (record {
      prepared = asked_on (asked c.args.store) (asked (store_of before.mem)) (asked (store_of after.mem)) _ c.play_load.ensures.keeps.store.preparations c.in-Ok.ensures.prepared;
      content = load_told clients out (store_side g.W.SwapStore c.args.store (store_of after.mem)) (demo_line clients c.in-Ok-play_load.totals) c.write_totals-status.result line c.write_totals-status.ensures.ended
          c.write_totals-status.ensures.written c.write_totals-status.ensures.front;
    }))

pub returns-in-Err-play_load-clause-told : goal.returns-in-Err-play_load-clause-told
returns-in-Err-play_load-clause-told g c =
    let clients : ℕ = c.args.demo.clients in
    let asked = g.W.SwapStore.asked in
    let faults = g.W.SwapStore.faults in
    let before = c.in-Ok.kernel in
    let after = c.play_load.new.kernel in
    let out : SinkSide = sink_side g.K.Sink c.args.out.now c.args.out.now in
    let S : g.row.W.Denot → Type 0 = λ store. Demonstrates clients out (store_side g.W.SwapStore c.args.store store) SwapFault in
    let R : Room → Type 0 = λ room. ComesFull room (load_machine clients) (moments_of (load_events clients) DEFAULT_STEPS (load_machine clients)) in
    let M : Machine → Type 0 = λ m. ComesFull (room_in before) m (moments_of (load_events clients) DEFAULT_STEPS m) in
    subst S (sym c.close-in-Err-play_load.ensures)
    (inr (record {
      prepared = asked_on (asked c.args.store) (asked (store_of before.mem)) (asked (store_of after.mem)) _ c.play_load.ensures.keeps.store.preparations c.in-Ok.ensures.prepared;
      content = (
        rose_before (faults c.args.store) (faults (store_of before.mem)) (faults (store_of after.mem)) c.in-Ok.ensures.count c.in-Err-play_load.ensures.cause,
        subst R c.in-Ok.ensures.room (subst M c.in-Ok.ensures.booted c.in-Err-play_load.ensures.full),
        refl,
      );
    }))

pub returns-in-Ok-play_load-clause-in_ram : goal.returns-in-Ok-play_load-clause-in_ram
returns-in-Ok-play_load-clause-in_ram g c = λ done.
    let clients : ℕ = c.args.demo.clients in
    let S : g.row.W.Denot → Type 0 = λ store. HadKernels g.W.SwapStore (load_run clients) store in
    let T : Machine → Type 0 = λ m. Throughout (Stood g.W.SwapStore c.in-Ok.kernel) m (moments_of (load_events clients) DEFAULT_STEPS m) in
    subst S (sym c.close.ensures)
    (had_kernels g.W.SwapStore c.in-Ok.kernel c.play_load.new.kernel (load_run clients) (subst T c.in-Ok.ensures.booted c.in-Ok-play_load.ensures.stood)
    c.play_load.ensures.keeps c.play_load.ensures.sound c.in-Ok-play_load.ensures.usable
    (c.in-Ok-play_load.ensures.machine ∙ ap (λ (m : Machine). (history (load_events clients) DEFAULT_STEPS m).machine) c.in-Ok.ensures.booted))

pub returns-in-Err-clause-in_ram : goal.returns-in-Err-clause-in_ram
returns-in-Err-clause-in_ram g c = λ done.
    let clients : ℕ = c.args.demo.clients in
    let side : StoreSide = store_side g.W.SwapStore c.args.store c.in-Err.ended.store in
    absurd (stopped_runs_not (room_of (load_plan clients)) (load_plan clients).slots None (load_machine clients) side c.in-Err.ended.status c.in-Err.ensures.stopped
    (subst EndsRun (sym done) tt))
