use Rattle.std.proofs.Common.{◌≡◌}
use Rattle.thread_table.specs.Shown.{threads_of}
use Rattle.kill_path.specs.Noted.{noted}
use Rattle.kill_path.proofs.Threads.ReceivingLemmas.{noted_up_to}
use Rattle.kill_path.proofs.telling.note_receiving.Given as goal

abbrev pub invariant-loop-k : goal.invariant-loop-k
invariant-loop-k l = noted l.noted_ids ≡ noted_up_to l.k l.pid l.serial (threads_of l.threads) (noted l.initial.noted_ids)
