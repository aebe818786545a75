use Rattle.snapshot_matching.proofs.ProcessRows.ClaimLemmas.{handlers_told}
use Rattle.snapshot_matching.proofs.claims.are_handlers_matched.Goals as goal

pub returns : goal.returns
returns c = handlers_told c.args.claims.now c.are_handlers_whole.result c.requires c.are_handlers_whole.ensures
