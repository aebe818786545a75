use Rattle.std.proofs.Common.{sym, subst}
use Rattle.ledger_model.specs.Loans.{loans}
use Rattle.vm_memory.specs.Memory.{ledger, processes}
use Rattle.kill_path.specs.Leaving.{IsLoanOrphanable}
use Rattle.kill_path.proofs.Messages.LeavingLemmas.{fresh_orphans}
use Rattle.kill_path.proofs.leaving.leave_alone.Goals as goal

pub returns-in-None-clause-ledger : goal.returns-in-None-clause-ledger
returns-in-None-clause-ledger g c =
    sym (fresh_orphans (processes c.args.mem.now) c.args.held.msg.number (ledger g.W.SwapStore.held c.args.mem.now)
    (subst (IsLoanOrphanable (loans (ledger g.W.SwapStore.held c.args.mem.now)) c.args.held.msg.number) c.in-None.is c.requires.loan))
