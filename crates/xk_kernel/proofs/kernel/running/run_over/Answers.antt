use Rattle.xk_kernel.proofs.kernel.running.run_over.Goals as goal

-- src/kernel/running.rt
pub returns-clause-rest : goal.returns-clause-rest
returns-clause-rest g c = c.run_any.ensures.rest.3 c.args.inner c.requires.same
