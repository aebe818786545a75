use Rattle.std.proofs.Common.{refl}
use Rattle.machine_model.specs.State.Machine.{Machine}
use Rattle.xk_kernel.specs.Moments.{Stood}
use Rattle.xk_kernel.specs.State.{machine_of}
use Rattle.event_player.specs.Gathering.{text}
use Rattle.event_player.specs.Standing.{Stand, stand}
use Rattle.event_player.proofs.Playing.HistoryLemmas.{done_steps}
use Rattle.event_player.proofs.Playing.OnceLemmas.{plays_once, plays_once_unwritten}
use Rattle.event_player.proofs.Playing.StoodLemmas.{stood_here, stood_there}
use Rattle.event_player.proofs.events.play_event.Goals as goal

pub returns-in-Ok : goal.returns-in-Ok
returns-in-Ok g c =
    let old : Stand = stand g.W.SwapStore c.args.kernel.now (text (g.K.Sink.written c.args.out.now) c.args.held.now.items) in
    let new : Stand = stand g.W.SwapStore c.play_at_once.new.kernel (text (g.K.Sink.written c.play_at_once.new.out) c.play_at_once.new.held.items) in
    let stood : Machine → Type 0 = Stood g.W.SwapStore c.args.kernel.now in
    record {
      plays = plays_once stood c.args.tells c.args.event c.args.limit old new (stood_here c.requires.sound c.requires.usable)
          (stood_there new.machine c.play_at_once.ensures.keeps c.play_at_once.ensures.sound c.play_at_once.ensures.usable refl) c.in-Pick.is c.play_at_once.ensures.machine c.play_at_once.ensures.near c.in-Ok.ensures.gathered;
      serves = record {
        sound = c.play_at_once.ensures.sound;
        usable = c.play_at_once.ensures.usable;
        keeps = c.play_at_once.ensures.keeps;
        within = rw (c.play_at_once.ensures.machine, done_steps c.args.event (machine_of g.W.SwapStore.held c.args.kernel.now)) c.requires.within;
        write = λ e. cc;
        swap = λ e. cc;
        never_falls = c.play_at_once.ensures.never_falls;
      };
    }

pub returns-in-Err : goal.returns-in-Err
returns-in-Err g c =
    let old : Stand = stand g.W.SwapStore c.args.kernel.now (text (g.K.Sink.written c.args.out.now) c.args.held.now.items) in
    let new : Stand = stand g.W.SwapStore c.play_at_once.new.kernel (text (g.K.Sink.written c.play_at_once.new.out) c.play_at_once.new.held.items) in
    record {
      plays = plays_once_unwritten (Stood g.W.SwapStore c.args.kernel.now) c.args.tells c.args.event c.args.limit old new c.in-Pick.is c.play_at_once.ensures.near c.in-Err.ensures.front;
      serves = record {
        sound = c.play_at_once.ensures.sound;
        usable = tt;
        keeps = c.play_at_once.ensures.keeps;
        within = tt;
        write = λ e. c.in-Err.ensures.cause;
        swap = λ e. cc;
        never_falls = c.play_at_once.ensures.never_falls;
      };
    }
