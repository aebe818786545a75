use Rattle.std.proofs.Common.{◌≤◌, take}
use Rattle.event_player.specs.Telling.{told}
use Rattle.event_player.specs.Gathering.{Gathers, text}
use Rattle.event_player.proofs.transcript.gather_records.Given as goal

abbrev pub invariant-loop-rec : goal.invariant-loop-rec
invariant-loop-rec g l = record {
  written : Gathers (text (g.K.Sink.written l.fn.out) l.fn.held.items) (text (g.K.Sink.written l.out) l.held.items) (told l.tells (take l.rec-index l.records));
  later : g.K.Sink.faults l.fn.out ≤ g.K.Sink.faults l.out;
}
