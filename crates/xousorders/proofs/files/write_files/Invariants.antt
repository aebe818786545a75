use Rattle.std.proofs.Common.{◌≡◌, ◌≤◌, All, take}
use Rattle.event_text.specs.Spelling.{AreAskable}
use Rattle.order_model.specs.Moves.{Asked, events_of}
use Rattle.xk_ports.specs.Told.{Grows}
use Rattle.xousorders.specs.Files.{files_below}
use Rattle.xousorders.proofs.files.write_files.Given as goal

-- the files of the first endings are written
abbrev pub invariant-loop-place : goal.invariant-loop-place
invariant-loop-place g l = record {
  filed : (asked : Asked) → asked.once ≡ l.once
      → Grows (g.F.EventFiles.written l.fn.files) (g.F.EventFiles.written l.files) (files_below l.folder asked l.before l.endings l.place);
  spelled : (asked : Asked) → asked.once ≡ l.once → AreAskable l.once
      → All (λ ending. AreAskable (events_of asked ending.order.items)) (take l.place l.endings);
  never_falls : g.F.EventFiles.faults l.fn.files ≤ g.F.EventFiles.faults l.files;
  opened : g.F.EventFiles.unopened l.files ≡ g.F.EventFiles.unopened l.fn.files;
}
