use Rattle.std.proofs.Common.{arith, sym, ap, ◌∙◌}
use Rattle.vm_memory.specs.Memory.{ledger, processes}
use Rattle.page_views.specs.RunTests.{passes}
use Rattle.vm_memory.proofs.Changing.RunLemmas.{any_found, any_missed}
use Rattle.vm_memory.proofs.memory.Memory.any.Goals as goal

pub returns-then-passes : goal.returns-then-passes
returns-then-passes g c = sym (any_found c.args.test (processes c.args.self.now) (ledger g.W.SwapStore.held c.args.self.now) c.args.first c.args.n c.loop-i.i c.loop-i-test.true
    (sym (ap (passes c.args.test) c.here_above.ensures) ∙ (sym c.passes.ensures ∙ c.if-passes.true)))

pub returns : goal.returns
returns g c = sym (any_missed c.args.test (processes c.args.self.now) (ledger g.W.SwapStore.held c.args.self.now) c.args.first c.args.n
    (λ i low. c.loop-i.invariant i (omega (arith, low, c.loop-i-test.false))))
