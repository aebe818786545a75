use Rattle.std.proofs.Common.{sym, ap, ◌∙◌, arith}
use Rattle.thread_table.specs.ThreadMap.{is_receiving}
use Rattle.thread_table.specs.Shown.{process_count, threads_of}
use Rattle.thread_table.proofs.ReceiverLemmas.{receiver_found, receiver_missing}
use Rattle.thread_table.proofs.table.Threads.receiver_in.Goals as goal

pub returns-in-loop-k : goal.returns-in-loop-k
returns-in-loop-k c =
    sym (receiver_found (process_count c.args.self.now) c.args.pid c.args.serial (threads_of c.args.self.now) c.requires.pid c.requires.its
    c.loop-k.k (omega arith) (ap (is_receiving c.args.serial) (sym c.in-Some.ensures) ∙ sym c.is_receiving.ensures ∙ c.if-is_receiving.true) c.loop-k.invariant)

pub returns : goal.returns
returns c =
    sym (receiver_missing (process_count c.args.self.now) c.args.pid c.args.serial (threads_of c.args.self.now) c.requires.pid c.requires.its
    (λ j low. c.loop-k.invariant j (omega arith)))
