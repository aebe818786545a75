use Rattle.std.proofs.Common.{◌≡◌, ◌∙◌, ◌≤◌, ◌+◌, ◌++◌, subst, sym, ap, refl, false, List, [], length, Option, ℕ, Ok, take, arith}
use Rattle.event_text.specs.Held.{Reader, IsWaiting, new_reader}
use Rattle.event_text.proofs.HeldLemmas.{front_empty}
use Rattle.xk_base.specs.declared.limits.TheConstants.{EVENT_FILE_LIMIT}
use Rattle.xk_ports.specs.Told.{Consumes}
use Rattle.xk_ports.specs.declared.host.FileSlot.TheVariants.{Second}
use Rattle.event_player.specs.declared.ending.Ending.{Ending}
use Rattle.event_player.specs.declared.events.PlayFault.{PlayFault}
use Rattle.event_player.specs.Gathering.{put}
use Rattle.event_player.specs.Playing.{FailsSo, Goes, HasPlayed, run_from}
use Rattle.event_player.specs.Standing.{Stand, stand}
use Rattle.event_player.proofs.Playing.FileLemmas.{runs_ended, runs_swapped, runs_unwritten, told_all}
use Rattle.event_player.proofs.Playing.KeptLemmas.{kept_after, kept_same}
use Rattle.event_player.proofs.Playing.EndingLemmas.{whole_lines_good, whole_lines_played}
use Rattle.event_player.proofs.Playing.PlayingLemmas.{played_end, played_none}
use Rattle.host_io.proofs.ToldLemmas.{Consumes-none, Consumes-append, consumed_whole, consumed_rest, nothing_left}
use Rattle.event_player.proofs.Playing.StoodLemmas.{stood_here}
use Rattle.event_player.proofs.event_file.play_file.Goals as goal

new_waits : (r : Reader) → r ≡ new_reader → IsWaiting r
new_waits r is = (front_empty r (ap (λ (x : Reader). x.held) is), ap (λ (x : Reader). x.finished) is)

new_inside : (r : Reader) → r ≡ new_reader → r.start + length r.held ≤ EVENT_FILE_LIMIT
new_inside r is = rw is (omega arith)

pub pieces-init : goal.pieces-init
pieces-init g c =
    let out = g.K.Sink.written c.args.out.now in
    let now : Stand = stand g.W.SwapStore c.args.kernel.now (put out) in
    record {
      front = (
        [],
        Consumes-none (g.H.Host.left c.args.host.now Second),
        λ start begins.
            let P : Reader → Type 0 = λ r. HasPlayed (run_from g.W.SwapStore c.args.kernel.now c.args.tells c.args.limit start (put out)) [] r now in
            subst P (sym c.new-reader.ensures) (played_none g.W.SwapStore c.args.kernel.now c.args.tells c.args.limit start now (stood_here c.requires.sound c.requires.usable) begins),
      );
      waits = (new_waits c.new-reader.result c.new-reader.ensures, new_inside c.new-reader.result c.new-reader.ensures);
      sound = c.requires.sound;
      usable = c.requires.usable;
      keeps = kept_same c.args.kernel.now;
      within = c.requires.within;
      picked = refl;
      asked = refl;
      first = refl;
      host_later = omega arith;
      out_later = omega arith;
    }

pub returns-in_default-clause-runs : goal.returns-in_default-clause-runs
returns-in_default-clause-runs g c = λ start begins.
    let front = c.pieces.invariant.front in
    let out = g.K.Sink.written c.pieces.out in
    let run = run_from g.W.SwapStore c.args.kernel.now c.args.tells c.args.limit start (put (g.K.Sink.written c.args.out.now)) in
    let now : Stand = stand g.W.SwapStore c.pieces.kernel (put out) in
    let P : Option (List ℕ) → Type 0 = λ left. Consumes (g.H.Host.left c.args.host.now Second) left front.0 in
    let p : HasPlayed run front.0 c.pieces.reader now = front.2 start begins in
    record {
      read = front.0;
      taken = subst P (sym c.in_default.ensures.kept) front.1;
      may = whole_lines_good run now front.0 c.pieces.reader c.pieces.invariant.waits.0 p;
      exact = whole_lines_played run now (g.K.Sink.written c.args.out.now) out front.0 c.pieces.reader refl refl c.pieces.invariant.waits.0 p;
      silent = p.silent;
    }

pub returns-in-Ok-Some-clause-runs : goal.returns-in-Ok-Some-clause-runs
returns-in-Ok-Some-clause-runs g c = λ start begins.
    let front = c.pieces.invariant.front in
    let begun = g.K.Sink.written c.args.out.now in
    let mid : Stand = stand g.W.SwapStore c.pieces.kernel (put (g.K.Sink.written c.pieces.out)) in
    let out = g.K.Sink.written c.play_end.new.out in
    let new : Stand = stand g.W.SwapStore c.play_end.new.kernel (put out) in
    let run = run_from g.W.SwapStore c.args.kernel.now c.args.tells c.args.limit start (put begun) in
    let P : Reader → Type 0 = λ r. HasPlayed run front.0 r mid in
    let q : P c.finish.new.self = subst P (sym c.finish.ensures) (played_end run mid front.0 c.pieces.reader (front.2 start begins)) in
    let left = g.H.Host.left c.args.host.now Second in
    let told = told_all left front.0 (consumed_whole left (g.H.Host.left c.pieces.host Second) front.0 front.1
    (nothing_left (g.H.Host.left c.pieces.host Second) c.in-Ok.count c.in-Ok.ensures.end c.if-count-eq0.true)) in
    let Q : Option Ending → Type 0 = λ o. Goes run front.0 c.finish.new.self.finished c.play_end.new.reader new (Ok o) in
    runs_ended g.W.SwapStore c.args.kernel.now c.args.tells c.args.limit start begun out left (g.H.Host.left c.read.new.self Second) new front.0 [] c.finish.new.self.finished (λ e. refl) told c.in-Ok-Some.ending
    (subst Q c.in-Ok-Some.field-0-is (c.in-Ok-Some.ensures.goes c.args.kernel.now start (put begun) front.0 c.pieces.invariant.keeps q))

pub returns-in-Err-Write-clause-runs : goal.returns-in-Err-Write-clause-runs
returns-in-Err-Write-clause-runs g c = λ start begins.
    let front = c.pieces.invariant.front in
    let begun = g.K.Sink.written c.args.out.now in
    let mid : Stand = stand g.W.SwapStore c.pieces.kernel (put (g.K.Sink.written c.pieces.out)) in
    let out = g.K.Sink.written c.play_end.new.out in
    let new : Stand = stand g.W.SwapStore c.play_end.new.kernel (put out) in
    let run = run_from g.W.SwapStore c.args.kernel.now c.args.tells c.args.limit start (put begun) in
    let P : Reader → Type 0 = λ r. HasPlayed run front.0 r mid in
    let q : P c.finish.new.self = subst P (sym c.finish.ensures) (played_end run mid front.0 c.pieces.reader (front.2 start begins)) in
    let left = g.H.Host.left c.args.host.now Second in
    let told = told_all left front.0 (consumed_whole left (g.H.Host.left c.pieces.host Second) front.0 front.1
    (nothing_left (g.H.Host.left c.pieces.host Second) c.in-Ok.count c.in-Ok.ensures.end c.if-count-eq0.true)) in
    let F : PlayFault → Type 0 = λ fault. FailsSo run front.0 c.finish.new.self.finished new fault in
    runs_unwritten g.W.SwapStore c.args.kernel.now c.args.tells c.args.limit start begun out left (g.H.Host.left c.read.new.self Second) new front.0 [] c.finish.new.self.finished (λ e. refl) told
    (subst F c.in-Err-Write.field-0-is (c.in-Err-Write.ensures.goes c.args.kernel.now start (put begun) front.0 c.pieces.invariant.keeps q))

pub returns-in-Err-Swap-clause-runs : goal.returns-in-Err-Swap-clause-runs
returns-in-Err-Swap-clause-runs g c = λ start begins.
    let front = c.pieces.invariant.front in
    let begun = g.K.Sink.written c.args.out.now in
    let mid : Stand = stand g.W.SwapStore c.pieces.kernel (put (g.K.Sink.written c.pieces.out)) in
    let out = g.K.Sink.written c.play_end.new.out in
    let new : Stand = stand g.W.SwapStore c.play_end.new.kernel (put out) in
    let run = run_from g.W.SwapStore c.args.kernel.now c.args.tells c.args.limit start (put begun) in
    let P : Reader → Type 0 = λ r. HasPlayed run front.0 r mid in
    let q : P c.finish.new.self = subst P (sym c.finish.ensures) (played_end run mid front.0 c.pieces.reader (front.2 start begins)) in
    let left = g.H.Host.left c.args.host.now Second in
    let told = told_all left front.0 (consumed_whole left (g.H.Host.left c.pieces.host Second) front.0 front.1
    (nothing_left (g.H.Host.left c.pieces.host Second) c.in-Ok.count c.in-Ok.ensures.end c.if-count-eq0.true)) in
    let F : PlayFault → Type 0 = λ fault. FailsSo run front.0 c.finish.new.self.finished new fault in
    runs_swapped g.W.SwapStore c.args.kernel.now c.args.tells c.args.limit start begun out left (g.H.Host.left c.read.new.self Second) new front.0 [] c.finish.new.self.finished (λ e. refl) told
    (subst F c.in-Err-Swap.field-0-is (c.in-Err-Swap.ensures.goes c.args.kernel.now start (put begun) front.0 c.pieces.invariant.keeps q))

pub pieces-preserved : goal.pieces-preserved
pieces-preserved g c =
    let front = c.pieces.invariant.front in
    let begun = g.K.Sink.written c.args.out.now in
    let new : Stand = stand g.W.SwapStore c.play_piece.new.kernel (put (g.K.Sink.written c.play_piece.new.out)) in
    let piece : List ℕ = take c.in-Ok.count c.read.new.into in
    let waits = c.in-Ok-None-play_piece.ensures.answers.waits (ap (λ (o : Option Ending). Ok o) c.in-Ok-None-play_piece.field-0-is) in
    record {
      front = (
        front.0 ++ piece,
        Consumes-append (g.H.Host.left c.args.host.now Second) (g.H.Host.left c.pieces.host Second) (g.H.Host.left c.read.new.self Second) front.0 piece front.1 c.in-Ok.ensures.taken,
        λ start begins.
            let Q : Option Ending → Type 0 = λ o. Goes (run_from g.W.SwapStore c.args.kernel.now c.args.tells c.args.limit start (put begun)) (front.0 ++ piece) false c.play_piece.new.reader new (Ok o) in
            subst Q c.in-Ok-None-play_piece.field-0-is (c.in-Ok-None-play_piece.ensures.goes c.args.kernel.now start (put begun) front.0 c.pieces.invariant.keeps (front.2 start begins)),
      );
      waits = waits;
      sound = c.play_piece.ensures.serves.sound;
      usable = c.in-Ok-None-play_piece.ensures.serves.usable;
      keeps = kept_after c.pieces.invariant.keeps c.play_piece.ensures.serves.keeps;
      within = c.in-Ok-None-play_piece.ensures.serves.within;
      picked = c.in-Ok.ensures.still_picked Second ∙ c.pieces.invariant.picked;
      asked = c.in-Ok.ensures.asked ∙ c.pieces.invariant.asked;
      first = c.in-Ok.ensures.other_left ∙ c.pieces.invariant.first;
      host_later = omega (arith, c.pieces.invariant.host_later, c.in-Ok.ensures.never_falls);
      out_later = omega (arith, c.pieces.invariant.out_later, c.play_piece.ensures.serves.never_falls);
    }

pub returns-in-Ok-Some-play_piece-clause-runs : goal.returns-in-Ok-Some-play_piece-clause-runs
returns-in-Ok-Some-play_piece-clause-runs g c = λ start begins.
    let front = c.pieces.invariant.front in
    let begun = g.K.Sink.written c.args.out.now in
    let out = g.K.Sink.written c.play_piece.new.out in
    let new : Stand = stand g.W.SwapStore c.play_piece.new.kernel (put out) in
    let run = run_from g.W.SwapStore c.args.kernel.now c.args.tells c.args.limit start (put begun) in
    let piece : List ℕ = take c.in-Ok.count c.read.new.into in
    let left = g.H.Host.left c.args.host.now Second in
    let used = Consumes-append left (g.H.Host.left c.pieces.host Second) (g.H.Host.left c.read.new.self Second) front.0 piece front.1 c.in-Ok.ensures.taken in
    let rest = consumed_rest left (g.H.Host.left c.read.new.self Second) (front.0 ++ piece) used in
    let Q : Option Ending → Type 0 = λ o. Goes run (front.0 ++ piece) false c.play_piece.new.reader new (Ok o) in
    runs_ended g.W.SwapStore c.args.kernel.now c.args.tells c.args.limit start begun out left (g.H.Host.left c.read.new.self Second) new (front.0 ++ piece) rest.0 false (λ e. cc) rest.1 c.in-Ok-Some-play_piece.ending
    (subst Q c.in-Ok-Some-play_piece.field-0-is (c.in-Ok-Some-play_piece.ensures.goes c.args.kernel.now start (put begun) front.0 c.pieces.invariant.keeps (front.2 start begins)))

pub returns-in-Ok-Some-play_piece-clause-reads : goal.returns-in-Ok-Some-play_piece-clause-reads
returns-in-Ok-Some-play_piece-clause-reads g c = record {
  end = λ e. absurd (c.in-Ok-Some-play_piece.ensures.answers.unended (cc));
  read = λ e. cc;
  asked = c.in-Ok.ensures.asked ∙ c.pieces.invariant.asked;
  first = c.in-Ok.ensures.other_left ∙ c.pieces.invariant.first;
  never_falls = omega (arith, c.pieces.invariant.host_later, c.in-Ok.ensures.never_falls);
}

pub returns-in-Err-Write-play_piece-clause-runs : goal.returns-in-Err-Write-play_piece-clause-runs
returns-in-Err-Write-play_piece-clause-runs g c = λ start begins.
    let front = c.pieces.invariant.front in
    let begun = g.K.Sink.written c.args.out.now in
    let out = g.K.Sink.written c.play_piece.new.out in
    let new : Stand = stand g.W.SwapStore c.play_piece.new.kernel (put out) in
    let run = run_from g.W.SwapStore c.args.kernel.now c.args.tells c.args.limit start (put begun) in
    let piece : List ℕ = take c.in-Ok.count c.read.new.into in
    let left = g.H.Host.left c.args.host.now Second in
    let used = Consumes-append left (g.H.Host.left c.pieces.host Second) (g.H.Host.left c.read.new.self Second) front.0 piece front.1 c.in-Ok.ensures.taken in
    let rest = consumed_rest left (g.H.Host.left c.read.new.self Second) (front.0 ++ piece) used in
    let F : PlayFault → Type 0 = λ fault. FailsSo run (front.0 ++ piece) false new fault in
    runs_unwritten g.W.SwapStore c.args.kernel.now c.args.tells c.args.limit start begun out left (g.H.Host.left c.read.new.self Second) new (front.0 ++ piece) rest.0 false (λ e. cc) rest.1
    (subst F c.in-Err-Write-play_piece.field-0-is (c.in-Err-Write-play_piece.ensures.goes c.args.kernel.now start (put begun) front.0 c.pieces.invariant.keeps (front.2 start begins)))

pub returns-in-Err-Swap-play_piece-clause-runs : goal.returns-in-Err-Swap-play_piece-clause-runs
returns-in-Err-Swap-play_piece-clause-runs g c = λ start begins.
    let front = c.pieces.invariant.front in
    let begun = g.K.Sink.written c.args.out.now in
    let out = g.K.Sink.written c.play_piece.new.out in
    let new : Stand = stand g.W.SwapStore c.play_piece.new.kernel (put out) in
    let run = run_from g.W.SwapStore c.args.kernel.now c.args.tells c.args.limit start (put begun) in
    let piece : List ℕ = take c.in-Ok.count c.read.new.into in
    let left = g.H.Host.left c.args.host.now Second in
    let used = Consumes-append left (g.H.Host.left c.pieces.host Second) (g.H.Host.left c.read.new.self Second) front.0 piece front.1 c.in-Ok.ensures.taken in
    let rest = consumed_rest left (g.H.Host.left c.read.new.self Second) (front.0 ++ piece) used in
    let F : PlayFault → Type 0 = λ fault. FailsSo run (front.0 ++ piece) false new fault in
    runs_swapped g.W.SwapStore c.args.kernel.now c.args.tells c.args.limit start begun out left (g.H.Host.left c.read.new.self Second) new (front.0 ++ piece) rest.0 false (λ e. cc) rest.1
    (subst F c.in-Err-Swap-play_piece.field-0-is (c.in-Err-Swap-play_piece.ensures.goes c.args.kernel.now start (put begun) front.0 c.pieces.invariant.keeps (front.2 start begins)))
