use Rattle.snapshot_matching.proofs.ThreadRows.ReceivingLemmas.{receivers_told}
use Rattle.snapshot_matching.proofs.threads.are_receivers_matched.Goals as goal

pub returns : goal.returns
returns c =
    receivers_told c.args.servers.now c.args.threads.now c.all_await_servers.result c.requires.servers c.requires.threads c.all_await_servers.ensures
