use Rattle.std.proofs.Common.{None, refl, sym, ◌∙◌}
use Rattle.irq_claims.specs.ClaimsOf.{claims_of}
use Rattle.machine_model.specs.Stepping.Events.{raised}
use Rattle.xk_kernel.specs.State.{machine_of}
use Rattle.xk_kernel.specs.Stepping.{Becomes}
use Rattle.xk_kernel.proofs.Acting.OrderLemmas.{cursor_whole}
use Rattle.xk_kernel.proofs.Interrupting.ClaimLemmas.{same_claims}
use Rattle.xk_kernel.proofs.Interrupting.RaiseLemmas.{high_unclaimed, machine_unclaimed, not_claimed, nothing_pends, raise_pends, raise_starts, raised_cursor, unclaimed_done}
use Rattle.xk_kernel.proofs.kernel.Kernel.raise.Goals as goal

-- src/kernel/interrupts.rt
pub returns-then-k-ge-INTERRUPT_LIMIT-clause-becomes : goal.returns-then-k-ge-INTERRUPT_LIMIT-clause-becomes
unfolding machine_of
returns-then-k-ge-INTERRUPT_LIMIT-clause-becomes g c =
    unclaimed_done g.W.SwapStore.held c.args.self.now c.args.k c.requires.step c.requires.empty (record c.args.self.now { reserved = None })
    (high_unclaimed (machine_of g.W.SwapStore.held c.args.self.now) c.args.k c.requires.matched c.if-k-ge-INTERRUPT_LIMIT.true) refl refl

pub returns-in_default-clause-becomes : goal.returns-in_default-clause-becomes
unfolding machine_of
returns-in_default-clause-becomes g c =
    let none = not_claimed (claims_of c.args.self.now.claims c.args.k) (sym c.in_default.is ∙ c.pend.ensures.answer) in
    unclaimed_done g.W.SwapStore.held c.args.self.now c.args.k c.requires.step c.requires.empty
    (record c.args.self.now { claims = c.pend.new.self; reserved = None })
    (machine_unclaimed g.W.SwapStore.held c.args.self.now c.args.k none)
    (same_claims g.W.SwapStore.held (record c.args.self.now { reserved = None }) c.pend.new.self
    (nothing_pends c.args.self.now.claims c.pend.new.self c.args.k none c.pend.ensures.after)) refl

pub returns-then-deliver-clause-becomes : goal.returns-then-deliver-clause-becomes
returns-then-deliver-clause-becomes g c =
    raise_starts g.W.SwapStore.held c.args.self.now c.args.k c.requires.step c.requires.empty c.in-Some.pid (sym c.in-Some.is ∙ c.pend.ensures.answer)
    c.pend.new.self c.pend.ensures.after c.deliver.new.self c.deliver.result (record { tells = c.deliver.ensures.tells; starts = c.deliver.ensures.starts })
    c.if-deliver.true c.handler_id-self.result c.handler_id-self.ensures

pub returns-then-deliver-clause-whole : goal.returns-then-deliver-clause-whole
returns-then-deliver-clause-whole g c =
    let becomes : Becomes g.W.SwapStore.held (record c.deliver.new.self { cursor = c.handler_id-self.result }) (raised c.args.k (machine_of g.W.SwapStore.held c.args.self.now)) =
    raise_starts g.W.SwapStore.held c.args.self.now c.args.k c.requires.step c.requires.empty c.in-Some.pid (sym c.in-Some.is ∙ c.pend.ensures.answer)
    c.pend.new.self c.pend.ensures.after c.deliver.new.self c.deliver.result (record { tells = c.deliver.ensures.tells; starts = c.deliver.ensures.starts })
    c.if-deliver.true c.handler_id-self.result c.handler_id-self.ensures in
    cursor_whole g.W.SwapStore c.deliver.new.self c.handler_id-self.result c.deliver.ensures.whole
    (raised_cursor g.W.SwapStore c.args.self.now (record c.deliver.new.self { cursor = c.handler_id-self.result }) c.args.k
    c.requires.whole c.requires.matched becomes)

pub returns-else-deliver-clause-becomes : goal.returns-else-deliver-clause-becomes
returns-else-deliver-clause-becomes g c =
    raise_pends g.W.SwapStore.held c.args.self.now c.args.k c.requires.step c.requires.empty c.in-Some.pid (sym c.in-Some.is ∙ c.pend.ensures.answer)
    c.pend.new.self c.pend.ensures.after c.deliver.new.self c.deliver.result (record { tells = c.deliver.ensures.tells; starts = c.deliver.ensures.starts })
    c.if-deliver.false
