use Rattle.std.proofs.Common.{◌≡◌}
use Rattle.phys_pages.specs.Owners.{extent}
use Rattle.memory_tests.proofs.frames.full_but_for_the_last_frame.Given as goal

abbrev pub invariant-loop-n : goal.invariant-loop-n
invariant-loop-n g l = extent l.owners ≡ record { first = 21; frames = 16363; slots = 2 }
