use Rattle.std.proofs.Common.{sym, ap, ◌∙◌}
use Rattle.std.specs.Option.{option_map}
use Rattle.machine_model.specs.Stepping.Interrupts.{is_claim_of}
use Rattle.xk_kernel.specs.State.{claim_of, machine_of}
use Rattle.xk_kernel.proofs.kernel.Kernel.has_timer.Goals as goal

-- src/kernel/ringing.rt
pub returns-in-Some : goal.returns-in-Some
unfolding machine_of
returns-in-Some g c = c.eq.ensures ∙ ap (λ o. is_claim_of c.args.pid (option_map claim_of o)) (sym c.in-Some.is ∙ c.get.ensures)

pub returns-in-None : goal.returns-in-None
unfolding machine_of
returns-in-None g c = ap (λ o. is_claim_of c.args.pid (option_map claim_of o)) (sym c.in-None.is ∙ c.get.ensures)
