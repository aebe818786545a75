use Rattle.snapshot_matching.proofs.ThreadRows.EachThreadLemmas.{threads_right_told}
use Rattle.snapshot_matching.proofs.threads.are_threads_right.Goals as goal

pub returns : goal.returns
returns c = threads_right_told c.args.procs.now c.args.threads.now c.all_threads_right.result c.requires c.all_threads_right.ensures
