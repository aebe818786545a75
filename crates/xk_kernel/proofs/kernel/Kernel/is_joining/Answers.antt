use Rattle.std.proofs.Common.{◌≡◌, None, Some, ap, sym, ◌∙◌}
use Rattle.std.specs.Prelude.{◌==◌}
use Rattle.std.specs.Option.{option_copied}
use Rattle.xk_kernel.proofs.Calling.JoiningLemmas.{joining_at, joins, joins_not}
use Rattle.xk_kernel.proofs.kernel.Kernel.is_joining.Goals as goal

pub returns-in-None : goal.returns-in-None
returns-in-None g c =
    joining_at g.W.SwapStore.held c.args.self.now c.args.id c.args.tid None (sym c.get.ensures ∙ ap option_copied c.in-None.is)

pub returns-in-Joining : goal.returns-in-Joining
returns-in-Joining g c =
    let same : c.eq.result ≡ (c.in-Joining.awaited.0 == c.args.tid.0) = c.eq.ensures in
    same ∙ joins c.args.tid c.in-Joining.awaited c.in-Some.thread.now.state c.in-Joining.is
    ∙ joining_at g.W.SwapStore.held c.args.self.now c.args.id c.args.tid (Some c.in-Some.thread.now) (sym c.get.ensures ∙ ap option_copied c.in-Some.is)

pub returns-in_default : goal.returns-in_default
returns-in_default g c =
    joins_not c.args.tid c.in-Some.thread.now.state c.in_default.not-Joining
    ∙ joining_at g.W.SwapStore.held c.args.self.now c.args.id c.args.tid (Some c.in-Some.thread.now) (sym c.get.ensures ∙ ap option_copied c.in-Some.is)
