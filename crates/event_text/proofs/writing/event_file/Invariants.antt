use Rattle.std.proofs.Common.{◌≡◌, take}
use Rattle.event_text.specs.Spelling.{event_lines}
use Rattle.event_text.proofs.writing.event_file.Given as goal

abbrev pub invariant-loop-event : goal.invariant-loop-event
invariant-loop-event l = l.file.items ≡ event_lines (take l.event-index l.events)
