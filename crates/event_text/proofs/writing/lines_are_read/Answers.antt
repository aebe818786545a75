use Rattle.event_text.proofs.WrittenLineLemmas.{lines_are_read}
use Rattle.event_text.proofs.writing.lines_are_read.Goals as goal

-- src/writing.rt
pub returns : goal.returns
returns c = lines_are_read
