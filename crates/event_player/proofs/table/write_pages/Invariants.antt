use Rattle.std.proofs.Common.{◌≤◌}
use Rattle.xk_kernel.specs.State.{machine_of}
use Rattle.xk_ports.specs.Told.{Grows}
use Rattle.event_player.proofs.Playing.TableLemmas.{is_home, listed_text, page_line_in}
use Rattle.event_player.proofs.table.write_pages.Given as goal

-- the text of the places so far was written
abbrev pub invariant-loop-number : goal.invariant-loop-number
invariant-loop-number g l = record {
  written : Grows (g.K.Sink.written l.fn.out) (g.K.Sink.written l.out)
      (listed_text (page_line_in (machine_of g.W.SwapStore.held l.kernel)) (is_home (machine_of g.W.SwapStore.held l.kernel)) l.number);
  later : g.K.Sink.faults l.fn.out ≤ g.K.Sink.faults l.out;
}
