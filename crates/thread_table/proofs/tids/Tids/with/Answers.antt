use Rattle.thread_table.proofs.TidLemmas.{with_is}
use Rattle.thread_table.proofs.tids.Tids.with.Goals as goal

pub returns : goal.returns
returns c = with_is c.args.self c.args.tid.0 c.requires
