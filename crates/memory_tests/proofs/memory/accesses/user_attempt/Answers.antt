use Rattle.std.proofs.Common.{◌≡◌, sym, subst}
use Rattle.ledger_model.specs.Loans.{loans}
use Rattle.ledger_model.proofs.Stepping.WritingLemmas.{bare-loans}
use Rattle.vm_memory.specs.Memory.{ledger}
use Rattle.memory_tests.proofs.memory.accesses.user_attempt.Goals as goal

pub returns-clause-loans : goal.returns-clause-loans
returns-clause-loans g c =
    let back : c.memory-1.given.0 ≡ c.attempt-done.new.user.mem.now = c.memory-1.given.1 (sym c.attempt-done.ensures.rest.0) in
    subst (λ m. loans (ledger g.W.SwapStore.held m) ≡ loans (ledger g.W.SwapStore.held c.args.memory.now)) (sym back)
    (bare-loans _ _ c.attempt-done.ensures.rest.2.rights)
