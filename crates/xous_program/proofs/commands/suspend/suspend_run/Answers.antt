use Rattle.std.proofs.Common.{ℕ, List, [], Option, refl, sym, subst, inl, inr, arith}
use Rattle.vm_memory.specs.Memory.{size, store_of}
use Rattle.xous_program.specs.Outcome.Starts.{Booted}
use Rattle.event_player.specs.Gathering.{put}
use Rattle.xous_program.specs.Outcome.Sides.{Call, host_side, store_side}
use Rattle.program_status.specs.Notes.{SinkSide, sink_side}
use Rattle.xous_program.specs.Outcome.InRam.{RunsInRam}
use Rattle.xous_program.specs.Outcome.Suspends.{EndsSuspend, silent}
use Rattle.host_io.specs.Reading.{IsTold}
use Rattle.event_player.specs.Standing.{room_in}
use Rattle.xous_program.specs.Words.{Suspend, Suspends, suspend_in}
use Rattle.xous_program.proofs.Headline.RamLemmas.{runs_in_ram, suspends_begun, unbooted_runs_not}
use Rattle.xous_program.proofs.Outcome.SuspendLemmas.{ends_suspended}
use Rattle.xous_program.proofs.Outcome.TopLemmas.{Before, begun_at}
use Rattle.xous_program.proofs.commands.suspend.suspend_run.Goals as goal

pub suspend_events-status-requires-clause-within : goal.suspend_events-status-requires-clause-within
suspend_events-status-requires-clause-within g c = omega (arith, c.in-Ok.ensures.steps)

pub returns-in-Ok-clause-ends : goal.returns-in-Ok-clause-ends
returns-in-Ok-clause-ends g c =
    let file = g.H.Host.file c.args.host.now in
    let suspend : Suspend = suspend_in c.args.suspend in
    let booted = c.in-Ok.ensures.booted in
    let kernel = c.in-Ok.kernel in
    let after = c.suspend_events-status.new.kernel in
    let begin : Booted = record { machine = booted.0; room = room_in kernel; slots = (size kernel.mem).slots } in
    let I : Option (List ℕ) → Type 0 = λ left. IsTold left [] in
    let before : Before = record {
      files_asked = g.H.Host.asked c.args.host.now;
      host_faults = g.H.Host.faults c.args.host.now;
      prepared = g.W.SwapStore.asked c.args.store;
      store_faults = g.W.SwapStore.faults c.args.store;
    } in
    let call : Call = record {
      host = host_side g.H.Host c.boot_with_sheet.new.host c.suspend_events-status.new.host;
      out = sink_side g.K.Sink c.args.out.now c.suspend_events-status.new.out;
      store = store_side g.W.SwapStore (store_of kernel.mem) (store_of after.mem);
      status = c.suspend_events-status.result;
    } in
    let S : g.row.W.Denot → Type 0 = λ store. EndsSuspend suspend (record (begun_at file before call) {
      store = store_side g.W.SwapStore c.args.store store;
    }) in
    subst S (sym c.close.ensures)
    (ends_suspended suspend begin file before call
    (store_side g.W.SwapStore c.args.store (store_of kernel.mem))
    c.boot_with_sheet.ensures.file booted.2 refl refl c.suspend_events-status.ensures.keeps.store.preparations
    (record { host = c.boot_with_sheet.ensures.never_falls; store = c.in-Ok.ensures.count }) c.in-Ok.ensures.picked
    (subst I (sym c.suspend_events-status.ensures.first) c.in-Ok.ensures.end)
    (c.suspend_events-status.ensures.played booted.0 (booted.1 (put (g.K.Sink.written c.args.out.now)))))

pub returns-in-Err-clause-ends : goal.returns-in-Err-clause-ends
returns-in-Err-clause-ends g c =
    let out : SinkSide = sink_side g.K.Sink c.args.out.now c.args.out.now in
    elim (c.in-Err.ensures.ends out refl) [
      | inl refused ↦ inl refused
      | inr unstarted ↦ inr (inl unstarted)
    ]

pub returns-in-Ok-clause-in_ram : goal.returns-in-Ok-clause-in_ram
returns-in-Ok-clause-in_ram g c =
    let file = g.H.Host.file c.args.host.now in
    let suspend : Suspend = suspend_in c.args.suspend in
    let booted = c.in-Ok.ensures.booted in
    let kernel = c.in-Ok.kernel in
    let last = store_of c.suspend_events-status.new.kernel.mem in
    let begin : Booted = record { machine = booted.0; room = room_in kernel; slots = (size kernel.mem).slots } in
    let whole : g.row.W.Denot → Call = λ store. record {
      host = host_side g.H.Host c.args.host.now c.suspend_events-status.new.host;
      out = sink_side g.K.Sink c.args.out.now c.suspend_events-status.new.out;
      store = store_side g.W.SwapStore c.args.store store;
      status = c.suspend_events-status.result;
    } in
    let R : g.row.W.Denot → Type 0 = λ store. RunsInRam g.W.SwapStore (Suspends suspend) (whole store) store in
    subst R (sym c.close.ensures)
    (runs_in_ram g.W.SwapStore (Suspends suspend) (whole last) (silent suspend) begin (g.H.Host.file c.boot_with_sheet.new.host)
    (store_side g.W.SwapStore (store_of kernel.mem) last) last
    (suspends_begun suspend (whole last) begin (store_side g.W.SwapStore c.args.store (store_of kernel.mem)) booted.2) c.boot_with_sheet.ensures.file refl
    (c.suspend_events-status.ensures.in_ram booted.0 (booted.1 (put (g.K.Sink.written c.args.out.now)))))

pub returns-in-Err-clause-in_ram : goal.returns-in-Err-clause-in_ram
returns-in-Err-clause-in_ram g c = λ ends known.
    let out : SinkSide = sink_side g.K.Sink c.args.out.now c.args.out.now in
    absurd (unbooted_runs_not (silent (suspend_in c.args.suspend)) _ (c.in-Err.ensures.ends out refl) ends)
