use Rattle.std.proofs.Common.{◌<◌, ap, ◌∙◌}
use Rattle.std.proofs.lemmas.Result.{err_from_is_err_and}
use Rattle.irq_claims.specs.ClaimsOf.{claims_of}
use Rattle.xk_base.specs.declared.limits.TheConstants.{INTERRUPT_LIMIT}
use Rattle.xk_kernel.specs.Calling.{outcome_of}
use Rattle.xk_kernel.specs.State.{machine_of}
use Rattle.xk_kernel.proofs.Interrupting.ClaimLemmas.{claim_accepted, claim_refused, in_use, not_in_use}
use Rattle.xk_kernel.proofs.kernel.Kernel.claim_interrupt.Goals as goal

-- src/kernel/interrupt_calls.rt
pub returns-in_err-claim-clause-outcome : goal.returns-in_err-claim-clause-outcome
returns-in_err-claim-clause-outcome g c =
    let p = err_from_is_err_and c.from_residual.result c.from_residual.ensures.1 in
    let used = in_use (claims_of c.args.self.now.claims c.args.number) c.in_err-claim.field-0.0 c.in_err-claim.ensures.answer in
    let low : c.args.number < INTERRUPT_LIMIT = c.if-number.false in
    ap (outcome_of c.args.self.now.cursor (machine_of g.W.SwapStore.held (record c.args.self.now { claims = c.claim.new.self }))) p.1
    ∙ claim_refused g.W.SwapStore.held c.args.self.now c.args.number c.args.handler c.args.arg low c.if-handler-ne0.false p.0 (used.0, p.2 ∙ used.1)

pub returns-clause-outcome : goal.returns-clause-outcome
returns-clause-outcome g c =
    let low : c.args.number < INTERRUPT_LIMIT = c.if-number.false in
    claim_accepted g.W.SwapStore.held c.args.self.now c.args.number c.args.handler c.args.arg low c.if-handler-ne0.false c.claim.new.self
    (not_in_use (claims_of c.args.self.now.claims c.args.number) c.in_ok-claim.ensures.answer) c.in_ok-claim.ensures.ok
