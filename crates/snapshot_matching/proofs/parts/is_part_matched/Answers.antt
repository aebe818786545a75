use Rattle.std.proofs.Common.{List, sym, subst, ◌↔◌}
use Rattle.std.specs.Prelude.{IsTrue, IfOk}
use Rattle.ledger_model.specs.Loans.{loans}
use Rattle.machine_model.specs.Runs.Matched.{AreLoansMatched, AreSendersMatched, AreJoinersMatched}
use Rattle.snapshot_matching.specs.declared.parts.Part.{Part}
use Rattle.snapshot_rows.specs.declared.state.OrphanRow.{OrphanRow}
use Rattle.snapshot_rows.specs.declared.state.PageRow.{PageRow}
use Rattle.snapshot_rows.specs.declared.state.ServerRow.{ServerRow}
use Rattle.snapshot_rows.specs.declared.state.ThreadRow.{ThreadRow}
use Rattle.snapshot_rows.specs.Machines.{ledger_of, servers_of, threads_of, machine_of}
use Rattle.snapshot_matching.specs.UnmatchedParts.{Holds}
use Rattle.snapshot_matching.proofs.parts.is_part_matched.Goals as goal

pub returns-in-Ledger : goal.returns-in-Ledger
returns-in-Ledger c file =
    subst (λ (p : Part). IfOk c.is_ledger_matched.result (λ told. IsTrue told ↔ Holds p (machine_of file c.args.state.now))) (sym c.in-Ledger.is)
    (c.is_ledger_matched.ensures file)

pub returns-in-Loans : goal.returns-in-Loans
returns-in-Loans c file =
    let s = c.args.state.now in
    let one = subst (λ (os : List OrphanRow). IfOk c.are_loans_matched.result
    (λ told. IsTrue told ↔ AreLoansMatched (loans (ledger_of file c.as_slice-pages.result.now os)) (servers_of c.as_slice-servers.result.now)))
    c.as_slice.ensures (c.are_loans_matched.ensures file) in
    let two = subst (λ (ps : List PageRow). IfOk c.are_loans_matched.result
    (λ told. IsTrue told ↔ AreLoansMatched (loans (ledger_of file ps s.orphans)) (servers_of c.as_slice-servers.result.now))) c.as_slice-pages.ensures one in
    let three = subst (λ (ss : List ServerRow). IfOk c.are_loans_matched.result
    (λ told. IsTrue told ↔ AreLoansMatched (loans (ledger_of file s.pages s.orphans)) (servers_of ss))) c.as_slice-servers.ensures two in
    subst (λ (p : Part). IfOk c.are_loans_matched.result (λ told. IsTrue told ↔ Holds p (machine_of file s))) (sym c.in-Loans.is) three

pub returns-in-Senders : goal.returns-in-Senders
returns-in-Senders c file =
    let one = subst (λ (ts : List ThreadRow). IfOk c.are_senders_matched.result
    (λ told. IsTrue told ↔ AreSendersMatched (threads_of ts) (servers_of c.as_slice-servers.result.now))) c.as_slice-threads.ensures
    c.are_senders_matched.ensures in
    let two = subst (λ (ss : List ServerRow). IfOk c.are_senders_matched.result
    (λ told. IsTrue told ↔ AreSendersMatched (threads_of c.args.state.now.threads) (servers_of ss))) c.as_slice-servers.ensures one in
    subst (λ (p : Part). IfOk c.are_senders_matched.result (λ told. IsTrue told ↔ Holds p (machine_of file c.args.state.now))) (sym c.in-Senders.is) two

pub returns-in-Joiners : goal.returns-in-Joiners
returns-in-Joiners c file =
    let one = subst (λ (ts : List ThreadRow). IsTrue c.are_joiners_matched.result ↔ AreJoinersMatched
    (threads_of ts)) c.as_slice-threads.ensures c.are_joiners_matched.ensures in
    subst (λ (p : Part). IsTrue c.are_joiners_matched.result ↔ Holds p (machine_of file c.args.state.now)) (sym c.in-Joiners.is) one

pub returns-in-Keys : goal.returns-in-Keys
returns-in-Keys c file =
    subst (λ (p : Part). IfOk c.are_keys_matched.result (λ told. IsTrue told ↔ Holds p (machine_of file c.args.state.now))) (sym c.in-Keys.is)
    (c.are_keys_matched.ensures file)
