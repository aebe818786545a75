use Rattle.std.proofs.Common.{sym, subst}
use Rattle.ledger_model.specs.Loans.{loans}
use Rattle.vm_memory.specs.Memory.{ledger}
use Rattle.kill_path.specs.Ending.{IsLoanEndable}
use Rattle.kill_path.proofs.Servers.EndingLemmas.{fresh_ends}
use Rattle.kill_path.proofs.closing.spend.Goals as goal

pub returns-in-None-clause-ledger : goal.returns-in-None-clause-ledger
returns-in-None-clause-ledger g c =
    sym (fresh_ends c.args.ended.msg.number (ledger g.W.SwapStore.held c.args.mem.now)
    (subst (IsLoanEndable (loans (ledger g.W.SwapStore.held c.args.mem.now)) c.args.ended.msg.number) c.in-None.is c.requires.loan))
