use Rattle.resume_path.proofs.Homes.SizeLemmas.{booted_empty}
use Rattle.resume_path.proofs.sizes.empty_memory.Goals as goal

-- src/sizes.rt
pub returns-clause-come : goal.returns-clause-come
returns-clause-come g c =
    booted_empty g.W.SwapStore c.args.state.now c.args.slots c.in-Ok.plan c.in-Ok.ensures c.boot.result
    c.boot.ensures.sound c.boot.ensures.usable c.boot.ensures.rights c.boot.ensures.whole c.boot.ensures.near
