use Rattle.snapshot_matching.proofs.ThreadRows.JoiningLemmas.{joiners_told}
use Rattle.snapshot_matching.proofs.threads.are_joiners_matched.Goals as goal

pub returns : goal.returns
returns c = joiners_told c.args.threads.now c.all_join_others.result c.requires c.all_join_others.ensures
