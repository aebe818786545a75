use Rattle.std.proofs.Common.{◌≡◌, ◌-◌, take, length}
use Rattle.suspend_image.specs.Reading.{word_at, items_at}
use Rattle.suspend_image.proofs.RowLoopLemmas.{with_front}
use Rattle.suspend_image.proofs.reading.threads.front_registers.Given as goal

abbrev pub invariant-loop-i : goal.invariant-loop-i
invariant-loop-i l = record {
  len : length l.regs ≡ 31;
  read : with_front (take l.i l.regs) (items_at word_at (31 - l.i) l.rest) ≡ items_at word_at 31 l.bytes;
}
