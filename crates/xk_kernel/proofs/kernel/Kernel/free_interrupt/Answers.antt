use Rattle.std.proofs.Common.{ap, ◌∙◌}
use Rattle.std.proofs.lemmas.Result.{err_from_is_err_and}
use Rattle.irq_claims.specs.ClaimMap.{is_of}
use Rattle.irq_claims.specs.ClaimsOf.{claims_of}
use Rattle.xk_kernel.specs.Calling.{outcome_of}
use Rattle.xk_kernel.specs.State.{machine_of}
use Rattle.xk_kernel.proofs.Interrupting.ClaimLemmas.{found, free_accepted, free_refused, not_found}
use Rattle.xk_kernel.proofs.kernel.Kernel.free_interrupt.Goals as goal

-- src/kernel/interrupt_calls.rt
pub returns-in_err-free-clause-outcome : goal.returns-in_err-free-clause-outcome
returns-in_err-free-clause-outcome g c =
    let p = err_from_is_err_and c.from_residual.result c.from_residual.ensures.1 in
    let none = not_found (is_of c.args.self.now.cursor.pid (claims_of c.args.self.now.claims c.args.number)) c.in_err-free.field-0.0 c.in_err-free.ensures.answer in
    ap (outcome_of c.args.self.now.cursor (machine_of g.W.SwapStore.held (record c.args.self.now { claims = c.free.new.self }))) p.1
    ∙ free_refused g.W.SwapStore.held c.args.self.now c.args.number p.0 (none.0, p.2 ∙ none.1)

pub returns-clause-outcome : goal.returns-clause-outcome
returns-clause-outcome g c =
    free_accepted g.W.SwapStore.held c.args.self.now c.args.number c.free.new.self c.end_claim.new.timer
    (found (is_of c.args.self.now.cursor.pid (claims_of c.args.self.now.claims c.args.number)) c.in_ok-free.ensures.answer) c.in_ok-free.ensures.ok
    c.end_claim.ensures
