use Rattle.thread_table.proofs.TidLemmas.{without_is}
use Rattle.thread_table.proofs.tids.Tids.without.Goals as goal

pub returns : goal.returns
returns c = without_is c.args.self c.args.tid.0 c.requires
