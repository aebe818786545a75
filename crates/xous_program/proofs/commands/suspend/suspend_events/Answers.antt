use Rattle.std.proofs.Common.{◌∙◌, refl, subst, sym, ap, inr, true, List, Option, Ok, Err}
use Rattle.machine_model.specs.State.Machine.{Machine}
use Rattle.vm_memory.specs.Memory.{store_of}
use Rattle.xk_kernel.specs.State.{machine_of}
use Rattle.xk_ports.specs.Host.{FileAsked}
use Rattle.xk_ports.specs.declared.host.FileSlot.TheVariants.{Second}
use Rattle.event_player.specs.declared.ending.Ending.{Ending}
use Rattle.event_player.specs.declared.ending.Ending.TheVariants.{Played, LimitMet, BadLine}
use Rattle.event_player.specs.declared.event_file.RunFault.{RunFault}
use Rattle.event_player.specs.declared.event_file.RunFault.TheVariants as faults
use Rattle.event_player.specs.declared.telling.Telling.TheVariants.{Nothing}
use Rattle.event_player.specs.Gathering.{put}
use Rattle.event_player.specs.History.{run_of}
use Rattle.xous_program.specs.Outcome.Sides.{Call, StoreSide, host_side, store_side}
use Rattle.program_status.specs.Notes.{sink_side}
use Rattle.event_text.specs.EventFile.{input_of}
use Rattle.event_text.specs.Lines.{whole_lines}
use Rattle.xous_program.specs.Outcome.Suspends.{silent}
use Rattle.event_player.specs.Playing.{Runs, run_from}
use Rattle.host_io.specs.Reading.{Asked}
use Rattle.event_player.specs.Standing.{Stand, room_in, stand}
use Rattle.xous_program.specs.Words.{Play, Suspend, suspend_in}
use Rattle.event_player.proofs.Playing.KeptLemmas.{kept_after}
use Rattle.xous_program.proofs.Outcome.SuspendLemmas.{full_where_out, last_reserver, part_of_saved, room_kept, saved_cause, saved_tells, untouched}
use Rattle.xous_program.proofs.Outcome.TopLemmas.{has_file, rose_after}
use Rattle.host_io.proofs.ReadingLemmas.{told_file, read_of_file}
use Rattle.event_player.proofs.Playing.StandingLemmas.{room_stays}
use Rattle.xous_program.proofs.Headline.RamLemmas.{had_kernels}
use Rattle.xous_program.proofs.Outcome.TrustLemmas.{booted_on, full_on, known_before, known_means, known_side, known_start}
use Rattle.xous_program.proofs.commands.suspend.suspend_events.Goals as goal

pub save_state-requires-clause-room : goal.save_state-requires-clause-room
save_state-requires-clause-room g c = room_kept c.args.sheet.now.room c.play_file.ensures.serves.keeps c.requires.room

pub returns-in-Ok-Played-clause-played : goal.returns-in-Ok-Played-clause-played
returns-in-Ok-Played-clause-played g c = λ start begins.
    let file = g.H.Host.file c.args.host.now in
    let before = g.H.Host.left c.pick_file.new.self Second in
    let left = g.H.Host.left c.play_file.new.host Second in
    let faults = g.K.Sink.faults in
    let suspend : Suspend = suspend_in c.args.suspend in
    let play : Play = silent suspend in
    let run = run_from g.W.SwapStore c.args.kernel.now Nothing c.args.suspend.limit start (put (g.K.Sink.written c.args.out.now)) in
    let after = put (g.K.Sink.written c.play_file.new.out) in
    let mid : Stand = stand g.W.SwapStore c.play_file.new.kernel after in
    let P : Ending → Type 0 = λ e. Runs run before left mid (Ok e) in
    let runs : P Played = subst P c.in-Ok-Played.field-0-is (c.in-Ok-Played.ensures.runs start begins) in
    let A : Option (List FileAsked) → Type 0 = λ asked. Asked (g.H.Host.asked c.args.host.now) asked Second c.args.suspend.events.now true in
    let played = c.play_file.ensures.serves.keeps in
    let last : Machine = machine_of g.W.SwapStore.held c.play_file.new.kernel in
    let old : Machine = machine_of g.W.SwapStore.held c.args.kernel.now in
    let side : StoreSide = store_side g.W.SwapStore (store_of c.play_file.new.kernel.mem) (store_of c.save_state.new.kernel.mem) in
    let call : Call = record {
      host = host_side g.H.Host c.args.host.now c.play_file.new.host;
      out = sink_side g.K.Sink c.args.out.now c.save_state.new.out;
      store = store_side g.W.SwapStore
          (store_of c.args.kernel.now.mem) (store_of c.save_state.new.kernel.mem);
      status = c.save_state.result;
    } in
    inr (record {
      asked = subst A (sym c.play_file.ensures.reads.asked) c.in-Ok.ensures.asked;
      cause = saved_cause play (room_in c.args.kernel.now) start call mid.near (g.K.Sink.written c.play_file.new.out) (faults c.play_file.new.out) side
          c.save_state.result c.play_file.ensures.serves.never_falls played.store.never_falls refl
          (full_where_out g.W.SwapStore c.args.kernel.now play (room_in c.args.kernel.now) start call (put (g.K.Sink.written c.args.out.now)) before mid c.in-Ok.ensures.left
          (room_stays played) runs)
          c.save_state.ensures.cause;
      content = saved_tells suspend (booted_on start c.args.kernel.now) last call mid.near (g.K.Sink.written c.play_file.new.out) (faults c.play_file.new.out) side runs.bytes c.save_state.result
          (told_file file suspend.events before runs.bytes c.in-Ok.ensures.left runs.file) runs.may (untouched run mid refl refl runs.silent)
          (λ known.
          let input = input_of runs.bytes in
          let whole = kept_after played c.save_state.ensures.keeps in
          let at_mid = known_before run after after input c.save_state.ensures.keeps (known_side run after input whole known) in
          let at_start = known_start run (stand g.W.SwapStore c.args.kernel.now (put (g.K.Sink.written c.args.out.now))) input begins (known_before run (put (g.K.Sink.written c.args.out.now)) after input played at_mid) in
          let all = runs.exact at_mid in
          record {
            ended = all.0.ended;
            there = all.1;
            saved = c.save_state.ensures.saved (known_means g.W.SwapStore c.play_file.new.kernel run after input (runs.near refl) at_mid)
                (last_reserver suspend.limit runs.bytes old start last at_start (c.requires.sound.matched c.requires.usable) c.requires.unreserved all.1);
          })
          c.save_state.ensures.cause;
      events_read = λ done. c.in-Ok-Played.ensures.reads.end (ap (λ (e : Ending). Ok e) c.in-Ok-Played.field-0-is);
    })

pub returns-in-Ok-LimitMet-clause-played : goal.returns-in-Ok-LimitMet-clause-played
returns-in-Ok-LimitMet-clause-played g c = λ start begins.
    let file = g.H.Host.file c.args.host.now in
    let before = g.H.Host.left c.pick_file.new.self Second in
    let left = g.H.Host.left c.play_file.new.host Second in
    let suspend : Suspend = suspend_in c.args.suspend in
    let run = run_from g.W.SwapStore c.args.kernel.now Nothing c.args.suspend.limit start (put (g.K.Sink.written c.args.out.now)) in
    let after = put (g.K.Sink.written c.play_file.new.out) in
    let now : Stand = stand g.W.SwapStore c.play_file.new.kernel after in
    let P : Ending → Type 0 = λ e. Runs run before left now (Ok e) in
    let runs : P LimitMet = subst P c.in-Ok-LimitMet.field-0-is (c.in-Ok-LimitMet.ensures.runs start begins) in
    let A : Option (List FileAsked) → Type 0 = λ asked. Asked (g.H.Host.asked c.args.host.now) asked Second c.args.suspend.events.now true in
    inr (record {
      asked = subst A (sym c.play_file.ensures.reads.asked) c.in-Ok.ensures.asked;
      cause = refl;
      content = record {
        events = runs.bytes;
        is_file = told_file file suspend.events before runs.bytes c.in-Ok.ensures.left runs.file;
        may = runs.may;
        exact = λ known. (runs.exact (known_side run after (input_of runs.bytes) c.play_file.ensures.serves.keeps known)).0.ended;
        unwritten = untouched run now refl refl runs.silent;
      };
      events_read = λ done. cc;
    })

pub returns-in-Ok-BadLine-clause-played : goal.returns-in-Ok-BadLine-clause-played
returns-in-Ok-BadLine-clause-played g c = λ start begins.
    let file = g.H.Host.file c.args.host.now in
    let before = g.H.Host.left c.pick_file.new.self Second in
    let left = g.H.Host.left c.play_file.new.host Second in
    let suspend : Suspend = suspend_in c.args.suspend in
    let line = c.in-Ok-BadLine.line in
    let run = run_from g.W.SwapStore c.args.kernel.now Nothing c.args.suspend.limit start (put (g.K.Sink.written c.args.out.now)) in
    let after = put (g.K.Sink.written c.play_file.new.out) in
    let now : Stand = stand g.W.SwapStore c.play_file.new.kernel after in
    let P : Ending → Type 0 = λ e. Runs run before left now (Ok e) in
    let runs : P (BadLine line) = subst P c.in-Ok-BadLine.field-0-is (c.in-Ok-BadLine.ensures.runs start begins) in
    let A : Option (List FileAsked) → Type 0 = λ asked. Asked (g.H.Host.asked c.args.host.now) asked Second c.args.suspend.events.now true in
    inr (record {
      asked = subst A (sym c.play_file.ensures.reads.asked) c.in-Ok.ensures.asked;
      cause = tt;
      content = record {
        events = runs.bytes;
        is_file = told_file file suspend.events before runs.bytes c.in-Ok.ensures.left runs.file;
        may = runs.may;
        exact = λ known. (runs.exact (known_side run after (input_of runs.bytes) c.play_file.ensures.serves.keeps known)).0.ended;
        unwritten = untouched run now refl refl runs.silent;
      };
      events_read = λ done. cc;
    })

pub returns-in-Err-Read-clause-played : goal.returns-in-Err-Read-clause-played
returns-in-Err-Read-clause-played g c = λ start begins.
    let file = g.H.Host.file c.args.host.now in
    let before = g.H.Host.left c.pick_file.new.self Second in
    let left = g.H.Host.left c.play_file.new.host Second in
    let run = run_from g.W.SwapStore c.args.kernel.now Nothing c.args.suspend.limit start (put (g.K.Sink.written c.args.out.now)) in
    let after = put (g.K.Sink.written c.play_file.new.out) in
    let now : Stand = stand g.W.SwapStore c.play_file.new.kernel after in
    let P : RunFault → Type 0 = λ f. Runs run before left now (Err f) in
    let runs : P faults.Read = subst P c.in-Err-Read.field-0-is (c.in-Err-Read.ensures.runs start begins) in
    let A : Option (List FileAsked) → Type 0 = λ asked. Asked (g.H.Host.asked c.args.host.now) asked Second c.args.suspend.events.now true in
    inr (record {
      asked = subst A (sym c.play_file.ensures.reads.asked) c.in-Ok.ensures.asked;
      cause = (let faults = g.H.Host.faults in
          rose_after (faults c.args.host.now) (faults c.pick_file.new.self) (faults c.play_file.new.host) c.pick_file.ensures.never_falls
          (c.in-Err-Read.ensures.reads.read (ap (λ (f : RunFault). Err f) c.in-Err-Read.field-0-is)));
      content = (
        record {
          there = has_file file c.args.suspend.events.now before c.in-Ok.ensures.left;
          bytes = runs.read;
          read = read_of_file file c.args.suspend.events.now before left runs.read c.in-Ok.ensures.left runs.taken;
          may = runs.may;
          exact = λ known. (runs.exact (known_side run after (input_of (whole_lines runs.read)) c.play_file.ensures.serves.keeps known)).0;
          silent = λ silent. untouched run now refl refl runs.silent;
        },
        untouched run now refl refl runs.silent,
      );
      events_read = λ done. cc;
    })

pub returns-in-Err-Write-clause-played : goal.returns-in-Err-Write-clause-played
returns-in-Err-Write-clause-played g c = λ start begins.
    let file = g.H.Host.file c.args.host.now in
    let before = g.H.Host.left c.pick_file.new.self Second in
    let left = g.H.Host.left c.play_file.new.host Second in
    let run = run_from g.W.SwapStore c.args.kernel.now Nothing c.args.suspend.limit start (put (g.K.Sink.written c.args.out.now)) in
    let after = put (g.K.Sink.written c.play_file.new.out) in
    let now : Stand = stand g.W.SwapStore c.play_file.new.kernel after in
    let P : RunFault → Type 0 = λ f. Runs run before left now (Err f) in
    let runs : P faults.Write = subst P c.in-Err-Write.field-0-is (c.in-Err-Write.ensures.runs start begins) in
    let A : Option (List FileAsked) → Type 0 = λ asked. Asked (g.H.Host.asked c.args.host.now) asked Second c.args.suspend.events.now true in
    inr (record {
      asked = subst A (sym c.play_file.ensures.reads.asked) c.in-Ok.ensures.asked;
      cause = c.in-Err-Write.ensures.serves.write (ap (λ (f : RunFault). Err f) c.in-Err-Write.field-0-is);
      content = record {
        events = runs.bytes;
        is_file = told_file file c.args.suspend.events.now before runs.bytes c.in-Ok.ensures.left runs.file;
        exact = λ known.
            part_of_saved (g.K.Sink.written c.args.out.now) (g.K.Sink.written c.play_file.new.out) (run_of c.args.suspend.limit start runs.bytes)
            (runs.exact (known_side run after (input_of runs.bytes) c.play_file.ensures.serves.keeps known));
      };
      events_read = λ done. cc;
    })

pub returns-in-Err-Swap-clause-played : goal.returns-in-Err-Swap-clause-played
returns-in-Err-Swap-clause-played g c = λ start begins.
    let file = g.H.Host.file c.args.host.now in
    let before = g.H.Host.left c.pick_file.new.self Second in
    let left = g.H.Host.left c.play_file.new.host Second in
    let run = run_from g.W.SwapStore c.args.kernel.now Nothing c.args.suspend.limit start (put (g.K.Sink.written c.args.out.now)) in
    let after = put (g.K.Sink.written c.play_file.new.out) in
    let now : Stand = stand g.W.SwapStore c.play_file.new.kernel after in
    let P : RunFault → Type 0 = λ f. Runs run before left now (Err f) in
    let runs : P faults.Swap = subst P c.in-Err-Swap.field-0-is (c.in-Err-Swap.ensures.runs start begins) in
    let A : Option (List FileAsked) → Type 0 = λ asked. Asked (g.H.Host.asked c.args.host.now) asked Second c.args.suspend.events.now true in
    inr (record {
      asked = subst A (sym c.play_file.ensures.reads.asked) c.in-Ok.ensures.asked;
      cause = (
        c.in-Err-Swap.ensures.serves.swap (ap (λ (f : RunFault). Err f) c.in-Err-Swap.field-0-is),
        record {
          events = runs.bytes;
          is_file = told_file file c.args.suspend.events.now before runs.bytes c.in-Ok.ensures.left runs.file;
          full = full_on (room_in c.args.kernel.now) (room_in c.play_file.new.kernel) start _ (room_stays c.play_file.ensures.serves.keeps) runs.full;
        },
      );
      content = untouched run now refl refl runs.silent;
      events_read = λ done. cc;
    })

pub returns-in-Ok-Played-clause-in_ram : goal.returns-in-Ok-Played-clause-in_ram
returns-in-Ok-Played-clause-in_ram g c = λ start begins ends.
    let file = g.H.Host.file c.args.host.now in
    let before = g.H.Host.left c.pick_file.new.self Second in
    let left = g.H.Host.left c.play_file.new.host Second in
    let run = run_from g.W.SwapStore c.args.kernel.now Nothing c.args.suspend.limit start (put (g.K.Sink.written c.args.out.now)) in
    let after = put (g.K.Sink.written c.play_file.new.out) in
    let mid : Stand = stand g.W.SwapStore c.play_file.new.kernel after in
    let P : Ending → Type 0 = λ e. Runs run before left mid (Ok e) in
    let runs : P Played = subst P c.in-Ok-Played.field-0-is (c.in-Ok-Played.ensures.runs start begins) in
    let played = c.play_file.ensures.serves.keeps in
    let whole = kept_after played c.save_state.ensures.keeps in
    let stays = c.save_state.ensures.stays ends in (
      runs.bytes,
      told_file file c.args.suspend.events.now before runs.bytes c.in-Ok.ensures.left runs.file,
      λ known.
          let input = input_of runs.bytes in
          let at_mid = known_before run after after input c.save_state.ensures.keeps (known_side run after input whole known) in
          let all = runs.exact at_mid in
          had_kernels g.W.SwapStore c.args.kernel.now c.save_state.new.kernel _ all.2 whole c.save_state.ensures.sound stays.0
          (stays.1 (known_means g.W.SwapStore c.play_file.new.kernel run after input (runs.near refl) at_mid) ∙ all.1),
    )

pub returns-in-Ok-LimitMet-clause-in_ram : goal.returns-in-Ok-LimitMet-clause-in_ram
returns-in-Ok-LimitMet-clause-in_ram g c = λ start begins ends.
    let file = g.H.Host.file c.args.host.now in
    let before = g.H.Host.left c.pick_file.new.self Second in
    let left = g.H.Host.left c.play_file.new.host Second in
    let run = run_from g.W.SwapStore c.args.kernel.now Nothing c.args.suspend.limit start (put (g.K.Sink.written c.args.out.now)) in
    let after = put (g.K.Sink.written c.play_file.new.out) in
    let now : Stand = stand g.W.SwapStore c.play_file.new.kernel after in
    let P : Ending → Type 0 = λ e. Runs run before left now (Ok e) in
    let runs : P LimitMet = subst P c.in-Ok-LimitMet.field-0-is (c.in-Ok-LimitMet.ensures.runs start begins) in (
      runs.bytes,
      told_file file c.args.suspend.events.now before runs.bytes c.in-Ok.ensures.left runs.file,
      λ known.
          let all = runs.exact (known_side run after (input_of runs.bytes) c.play_file.ensures.serves.keeps known) in
          had_kernels g.W.SwapStore c.args.kernel.now c.play_file.new.kernel _ all.2 c.play_file.ensures.serves.keeps c.play_file.ensures.serves.sound
          c.in-Ok-LimitMet.ensures.serves.usable all.1,
    )

pub returns-in-Ok-BadLine-clause-in_ram : goal.returns-in-Ok-BadLine-clause-in_ram
returns-in-Ok-BadLine-clause-in_ram g c = λ start begins ends.
    let file = g.H.Host.file c.args.host.now in
    let before = g.H.Host.left c.pick_file.new.self Second in
    let left = g.H.Host.left c.play_file.new.host Second in
    let run = run_from g.W.SwapStore c.args.kernel.now Nothing c.args.suspend.limit start (put (g.K.Sink.written c.args.out.now)) in
    let after = put (g.K.Sink.written c.play_file.new.out) in
    let now : Stand = stand g.W.SwapStore c.play_file.new.kernel after in
    let P : Ending → Type 0 = λ e. Runs run before left now (Ok e) in
    let runs : P (BadLine c.in-Ok-BadLine.line) = subst P c.in-Ok-BadLine.field-0-is (c.in-Ok-BadLine.ensures.runs start begins) in (
      runs.bytes,
      told_file file c.args.suspend.events.now before runs.bytes c.in-Ok.ensures.left runs.file,
      λ known.
          let all = runs.exact (known_side run after (input_of runs.bytes) c.play_file.ensures.serves.keeps known) in
          had_kernels g.W.SwapStore c.args.kernel.now c.play_file.new.kernel _ all.2 c.play_file.ensures.serves.keeps c.play_file.ensures.serves.sound
          c.in-Ok-BadLine.ensures.serves.usable all.1,
    )
