use Rattle.std.proofs.Common.{ℕ, List, [], Option, refl, sym, subst, inl, inr, arith}
use Rattle.vm_memory.specs.Memory.{size, store_of}
use Rattle.xous_program.specs.Outcome.Starts.{Booted}
use Rattle.event_player.specs.Gathering.{put}
use Rattle.xous_program.specs.Outcome.InRam.{RunsInRam}
use Rattle.xous_program.specs.Outcome.Plays.{EndsPlay}
use Rattle.xous_program.specs.Outcome.Sides.{Call, host_side, store_side}
use Rattle.program_status.specs.Notes.{SinkSide, sink_side}
use Rattle.host_io.specs.Reading.{IsTold}
use Rattle.event_player.specs.Standing.{room_in}
use Rattle.xous_program.specs.Words.{Play, Plays, play_in}
use Rattle.xous_program.proofs.Headline.RamLemmas.{plays_begun, runs_in_ram, unbooted_runs_not}
use Rattle.xous_program.proofs.Outcome.TopLemmas.{Before, begun_at, ends_booted}
use Rattle.xous_program.proofs.commands.play.play_image.Goals as goal

pub play_events-status-requires-clause-within : goal.play_events-status-requires-clause-within
play_events-status-requires-clause-within g c = omega (arith, c.in-Ok.ensures.steps)

pub returns-in-Ok-clause-ends : goal.returns-in-Ok-clause-ends
returns-in-Ok-clause-ends g c =
    let file = g.H.Host.file c.args.host.now in
    let play : Play = play_in c.args.play in
    let booted = c.in-Ok.ensures.booted in
    let kernel = c.in-Ok.kernel in
    let after = c.play_events-status.new.kernel in
    let begin : Booted = record { machine = booted.0; room = room_in kernel; slots = (size kernel.mem).slots } in
    let I : Option (List ℕ) → Type 0 = λ left. IsTold left [] in
    let before : Before = record {
      files_asked = g.H.Host.asked c.args.host.now;
      host_faults = g.H.Host.faults c.args.host.now;
      prepared = g.W.SwapStore.asked c.args.store;
      store_faults = g.W.SwapStore.faults c.args.store;
    } in
    let call : Call = record {
      host = host_side g.H.Host c.boot_image.new.host c.play_events-status.new.host;
      out = sink_side g.K.Sink c.args.out.now c.play_events-status.new.out;
      store = store_side g.W.SwapStore (store_of kernel.mem) (store_of after.mem);
      status = c.play_events-status.result;
    } in
    let S : g.row.W.Denot → Type 0 = λ store. EndsPlay play (record (begun_at file before call) { store = store_side g.W.SwapStore c.args.store store }) in
    subst S (sym c.close.ensures)
    (ends_booted play begin file before call (store_side g.W.SwapStore c.args.store (store_of kernel.mem))
    c.boot_image.ensures.file booted.2 refl refl c.play_events-status.ensures.keeps.store.preparations
    (record { host = c.boot_image.ensures.never_falls; store = c.in-Ok.ensures.count }) c.in-Ok.ensures.picked
    (subst I (sym c.play_events-status.ensures.first) c.in-Ok.ensures.end)
    (c.play_events-status.ensures.played booted.0 (booted.1 (put (g.K.Sink.written c.args.out.now)))))

pub returns-in-Err-clause-ends : goal.returns-in-Err-clause-ends
returns-in-Err-clause-ends g c =
    let out : SinkSide = sink_side g.K.Sink c.args.out.now c.args.out.now in
    elim (c.in-Err.ensures.ends out refl) [
      | inl refused ↦ inl refused
      | inr unstarted ↦ inr (inl unstarted)
    ]

pub returns-in-Ok-clause-in_ram : goal.returns-in-Ok-clause-in_ram
returns-in-Ok-clause-in_ram g c =
    let file = g.H.Host.file c.args.host.now in
    let play : Play = play_in c.args.play in
    let booted = c.in-Ok.ensures.booted in
    let kernel = c.in-Ok.kernel in
    let last = store_of c.play_events-status.new.kernel.mem in
    let begin : Booted = record { machine = booted.0; room = room_in kernel; slots = (size kernel.mem).slots } in
    let whole : g.row.W.Denot → Call = λ store. record {
      host = host_side g.H.Host c.args.host.now c.play_events-status.new.host;
      out = sink_side g.K.Sink c.args.out.now c.play_events-status.new.out;
      store = store_side g.W.SwapStore c.args.store store;
      status = c.play_events-status.result;
    } in
    let R : g.row.W.Denot → Type 0 = λ store. RunsInRam g.W.SwapStore (Plays play) (whole store) store in
    subst R (sym c.close.ensures)
    (runs_in_ram g.W.SwapStore (Plays play) (whole last) play begin (g.H.Host.file c.boot_image.new.host) (store_side g.W.SwapStore (store_of kernel.mem) last) last
    (plays_begun play (whole last) begin (store_side g.W.SwapStore c.args.store (store_of kernel.mem)) booted.2) c.boot_image.ensures.file refl
    (c.play_events-status.ensures.in_ram booted.0 (booted.1 (put (g.K.Sink.written c.args.out.now)))))

pub returns-in-Err-clause-in_ram : goal.returns-in-Err-clause-in_ram
returns-in-Err-clause-in_ram g c = λ ends known.
    let out : SinkSide = sink_side g.K.Sink c.args.out.now c.args.out.now in
    absurd (unbooted_runs_not (play_in c.args.play) _ (c.in-Err.ensures.ends out refl) ends)
