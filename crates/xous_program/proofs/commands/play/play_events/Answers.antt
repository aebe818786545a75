use Rattle.std.proofs.Common.{subst, sym, ap, inr, refl, true, List, Option, Ok, Err}
use Rattle.event_text.specs.EventFile.{input_of}
use Rattle.event_text.specs.Lines.{whole_lines}
use Rattle.machine_model.specs.State.Machine.{Machine}
use Rattle.vm_memory.specs.Memory.{store_of}
use Rattle.xk_kernel.specs.State.{machine_of}
use Rattle.xk_ports.specs.Host.{FileAsked}
use Rattle.xk_ports.specs.declared.host.FileSlot.TheVariants.{Second}
use Rattle.event_player.specs.declared.event_file.RunFault.{RunFault}
use Rattle.event_player.specs.declared.event_file.RunFault.TheVariants as faults
use Rattle.event_player.specs.declared.ending.Ending.{Ending}
use Rattle.program_status.specs.declared.status.Status.{Status}
use Rattle.program_status.specs.declared.status.Status.TheVariants.{Done}
use Rattle.xous_program.specs.Finish.{Finishes}
use Rattle.event_player.specs.Gathering.{Text, put}
use Rattle.event_player.specs.History.{run_of}
use Rattle.xous_program.specs.Outcome.Sides.{Call, host_side, store_side}
use Rattle.program_status.specs.Notes.{SinkSide, sink_side}
use Rattle.event_player.specs.Playing.{PlaysOut, Runs, run_from}
use Rattle.host_io.specs.Reading.{Asked}
use Rattle.event_player.specs.Standing.{room_in, stand}
use Rattle.xous_program.specs.Words.{Play, play_in}
use Rattle.host_io.proofs.ReadingLemmas.{told_file, read_of_file}
use Rattle.event_player.proofs.Playing.StandingLemmas.{room_stays}
use Rattle.xous_program.proofs.Headline.RamLemmas.{had_kernels}
use Rattle.xous_program.proofs.Outcome.TrustLemmas.{booted_on, full_on, known_side, trusted_side}
use Rattle.xous_program.proofs.Outcome.TopLemmas.{finished_cause, finished_tells, has_file, part_of_whole, rose_after}
use Rattle.xous_program.proofs.commands.play.play_events.Goals as goal

pub returns-in-Ok-play_file-clause-played : goal.returns-in-Ok-play_file-clause-played
returns-in-Ok-play_file-clause-played g c = λ start begins.
    let file = g.H.Host.file c.args.host.now in
    let play : Play = play_in c.args.play in
    let faults = g.K.Sink.faults in
    let run = run_from g.W.SwapStore c.args.kernel.now c.args.play.tells c.args.play.limit start (put (g.K.Sink.written c.args.out.now)) in
    let after = put (g.K.Sink.written c.play_file.new.out) in
    let runs : PlaysOut run (g.H.Host.left c.pick_file.new.self Second) (stand g.W.SwapStore c.play_file.new.kernel after) c.in-Ok-play_file.ending =
    c.in-Ok-play_file.ensures.runs start begins in
    let A : Option (List FileAsked) → Type 0 = λ asked. Asked (g.H.Host.asked c.args.host.now) asked Second c.args.play.events.now true in
    let call : Call = record {
      host = host_side g.H.Host c.args.host.now c.play_file.new.host;
      out = sink_side g.K.Sink c.args.out.now c.finish.new.out;
      store = store_side g.W.SwapStore (store_of c.args.kernel.now.mem) (store_of c.play_file.new.kernel.mem);
      status = c.finish.result;
    } in
    let side : SinkSide = sink_side g.K.Sink c.play_file.new.out c.finish.new.out in
    let last : Machine = machine_of g.W.SwapStore.held c.play_file.new.kernel in
    inr (record {
      asked = subst A (sym c.play_file.ensures.reads.asked) c.in-Ok.ensures.asked;
      cause = finished_cause play (room_in c.args.kernel.now) start last call (g.K.Sink.written c.play_file.new.out) (faults c.play_file.new.out)
          c.in-Ok-play_file.ending c.finish.result c.play_file.ensures.serves.never_falls c.finish.ensures.finished;
      content = finished_tells play (booted_on start c.args.kernel.now) last call (g.K.Sink.written c.play_file.new.out) (faults c.play_file.new.out) runs.bytes c.in-Ok-play_file.ending c.finish.result
          (told_file file play.events (g.H.Host.left c.pick_file.new.self Second) runs.bytes c.in-Ok.ensures.left runs.file) runs.may
          (λ known. let all = runs.exact (known_side run after (input_of runs.bytes) c.play_file.ensures.serves.keeps known) in (all.0, all.1)) c.finish.ensures.finished;
      events_read = λ done.
          let F : Status → Type 0 = λ status. Finishes play last c.in-Ok-play_file.ending side status in
          let finished : F Done = subst F done c.finish.ensures.finished in
          c.in-Ok-play_file.ensures.reads.end (ap (λ (e : Ending). Ok e) finished.0);
    })

pub returns-in-Err-Read-clause-played : goal.returns-in-Err-Read-clause-played
returns-in-Err-Read-clause-played g c = λ start begins.
    let file = g.H.Host.file c.args.host.now in
    let before = g.H.Host.left c.pick_file.new.self Second in
    let left = g.H.Host.left c.play_file.new.host Second in
    let run = run_from g.W.SwapStore c.args.kernel.now c.args.play.tells c.args.play.limit start (put (g.K.Sink.written c.args.out.now)) in
    let after = put (g.K.Sink.written c.play_file.new.out) in
    let P : RunFault → Type 0 = λ f. Runs run before left (stand g.W.SwapStore c.play_file.new.kernel after) (Err f) in
    let runs : P faults.Read = subst P c.in-Err-Read.field-0-is (c.in-Err-Read.ensures.runs start begins) in
    let A : Option (List FileAsked) → Type 0 = λ asked. Asked (g.H.Host.asked c.args.host.now) asked Second c.args.play.events.now true in
    inr (record {
      asked = subst A (sym c.play_file.ensures.reads.asked) c.in-Ok.ensures.asked;
      cause = (let faults = g.H.Host.faults in
          rose_after (faults c.args.host.now) (faults c.pick_file.new.self) (faults c.play_file.new.host) c.pick_file.ensures.never_falls
          (c.in-Err-Read.ensures.reads.read (ap (λ (f : RunFault). Err f) c.in-Err-Read.field-0-is)));
      content = record {
        there = has_file file c.args.play.events.now before c.in-Ok.ensures.left;
        bytes = runs.read;
        read = read_of_file file c.args.play.events.now before left runs.read c.in-Ok.ensures.left runs.taken;
        may = runs.may;
        exact = λ known. (runs.exact (known_side run after (input_of (whole_lines runs.read)) c.play_file.ensures.serves.keeps known)).0;
        silent = λ silent. ap (λ (t : Text). t.out) (runs.silent silent refl);
      };
      events_read = λ done. cc;
    })

pub returns-in-Err-Write-clause-played : goal.returns-in-Err-Write-clause-played
returns-in-Err-Write-clause-played g c = λ start begins.
    let file = g.H.Host.file c.args.host.now in
    let before = g.H.Host.left c.pick_file.new.self Second in
    let left = g.H.Host.left c.play_file.new.host Second in
    let run = run_from g.W.SwapStore c.args.kernel.now c.args.play.tells c.args.play.limit start (put (g.K.Sink.written c.args.out.now)) in
    let after = put (g.K.Sink.written c.play_file.new.out) in
    let P : RunFault → Type 0 = λ f. Runs run before left (stand g.W.SwapStore c.play_file.new.kernel after) (Err f) in
    let runs : P faults.Write = subst P c.in-Err-Write.field-0-is (c.in-Err-Write.ensures.runs start begins) in
    let A : Option (List FileAsked) → Type 0 = λ asked. Asked (g.H.Host.asked c.args.host.now) asked Second c.args.play.events.now true in
    inr (record {
      asked = subst A (sym c.play_file.ensures.reads.asked) c.in-Ok.ensures.asked;
      cause = c.in-Err-Write.ensures.serves.write (ap (λ (f : RunFault). Err f) c.in-Err-Write.field-0-is);
      content = record {
        events = runs.bytes;
        is_file = told_file file c.args.play.events.now before runs.bytes c.in-Ok.ensures.left runs.file;
        exact = λ known.
            part_of_whole c.args.play.tells (g.K.Sink.written c.args.out.now) (g.K.Sink.written c.play_file.new.out) (run_of c.args.play.limit start runs.bytes)
            (runs.exact (known_side run after (input_of runs.bytes) c.play_file.ensures.serves.keeps known));
      };
      events_read = λ done. cc;
    })

pub returns-in-Err-Swap-clause-played : goal.returns-in-Err-Swap-clause-played
returns-in-Err-Swap-clause-played g c = λ start begins.
    let file = g.H.Host.file c.args.host.now in
    let before = g.H.Host.left c.pick_file.new.self Second in
    let left = g.H.Host.left c.play_file.new.host Second in
    let run = run_from g.W.SwapStore c.args.kernel.now c.args.play.tells c.args.play.limit start (put (g.K.Sink.written c.args.out.now)) in
    let after = put (g.K.Sink.written c.play_file.new.out) in
    let P : RunFault → Type 0 = λ f. Runs run before left (stand g.W.SwapStore c.play_file.new.kernel after) (Err f) in
    let runs : P faults.Swap = subst P c.in-Err-Swap.field-0-is (c.in-Err-Swap.ensures.runs start begins) in
    let A : Option (List FileAsked) → Type 0 = λ asked. Asked (g.H.Host.asked c.args.host.now) asked Second c.args.play.events.now true in
    inr (record {
      asked = subst A (sym c.play_file.ensures.reads.asked) c.in-Ok.ensures.asked;
      cause = (
        c.in-Err-Swap.ensures.serves.swap (ap (λ (f : RunFault). Err f) c.in-Err-Swap.field-0-is),
        record {
          events = runs.bytes;
          is_file = told_file file c.args.play.events.now before runs.bytes c.in-Ok.ensures.left runs.file;
          full = full_on (room_in c.args.kernel.now) (room_in c.play_file.new.kernel) start _ (room_stays c.play_file.ensures.serves.keeps) runs.full;
        },
      );
      content = record {
        events = runs.bytes;
        is_file = told_file file c.args.play.events.now before runs.bytes c.in-Ok.ensures.left runs.file;
        exact = λ trusted.
            let all = runs.exact (trusted_side c.play_file.ensures.serves.keeps trusted) in
            record {
              some = all.some;
              soon = full_on (room_in c.args.kernel.now) (room_in c.play_file.new.kernel) start _ (room_stays c.play_file.ensures.serves.keeps) all.soon;
            };
        silent = λ silent. ap (λ (t : Text). t.out) (runs.silent silent refl);
      };
      events_read = λ done. cc;
    })

pub returns-in-Ok-play_file-clause-in_ram : goal.returns-in-Ok-play_file-clause-in_ram
returns-in-Ok-play_file-clause-in_ram g c = λ start begins ends.
    let file = g.H.Host.file c.args.host.now in
    let run = run_from g.W.SwapStore c.args.kernel.now c.args.play.tells c.args.play.limit start (put (g.K.Sink.written c.args.out.now)) in
    let after = put (g.K.Sink.written c.play_file.new.out) in
    let runs : PlaysOut run (g.H.Host.left c.pick_file.new.self Second) (stand g.W.SwapStore c.play_file.new.kernel after) c.in-Ok-play_file.ending =
    c.in-Ok-play_file.ensures.runs start begins in (
      runs.bytes,
      told_file file c.args.play.events.now (g.H.Host.left c.pick_file.new.self Second) runs.bytes c.in-Ok.ensures.left runs.file,
      λ known.
          let all = runs.exact (known_side run after (input_of runs.bytes) c.play_file.ensures.serves.keeps known) in
          had_kernels g.W.SwapStore c.args.kernel.now c.play_file.new.kernel _ all.2 c.play_file.ensures.serves.keeps c.play_file.ensures.serves.sound
          c.in-Ok-play_file.ensures.serves.usable all.1,
    )
