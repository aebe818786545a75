use Rattle.std.proofs.Common.{List, sym, subst, ◌∙◌, ◌↔◌}
use Rattle.std.specs.Prelude.{IsTrue, IfOk}
use Rattle.snapshot_rows.specs.declared.state.OrphanRow.{OrphanRow}
use Rattle.snapshot_rows.specs.declared.state.PageRow.{PageRow}
use Rattle.snapshot_rows.specs.Machines.{ledger_of}
use Rattle.snapshot_rows.specs.PageParts.{AreHoldersApart, AreWithin}
use Rattle.snapshot_rows.specs.RunParts.{AreOneRuns}
use Rattle.snapshot_rows.proofs.LedgerLemmas.{ledger_told, runs_told}
use Rattle.snapshot_rows.proofs.ledger.is_ledger_matched.Goals as goal

pub returns-then-not-is_ledger_told : goal.returns-then-not-is_ledger_told
returns-then-not-is_ledger_told c file = (
  λ never. absurd cc,
  λ matched. sym c.if-not-is_ledger_told.true ∙ c.is_ledger_told.ensures ∙ ledger_told file c.args.state.now c.requires matched,
)

pub returns-then-not-branch : goal.returns-then-not-branch
returns-then-not-branch c file =
    let s = c.args.state.now in
    let apart = subst (λ (ps : List PageRow). IsTrue c.in_ok-are_holders_apart.field-0 ↔ AreHoldersApart
    (ledger_of file ps s.orphans)) c.as_slice-pages.ensures (c.in_ok-are_holders_apart.ensures file s.orphans) in (
      λ never. absurd cc,
      λ matched. sym c.if-not-branch.true ∙ apart.1 matched.lawful.holders_differ,
    )

pub returns : goal.returns
returns c file =
    let s = c.args.state.now in
    let apart = subst (λ (ps : List PageRow). IsTrue c.in_ok-are_holders_apart.field-0 ↔ AreHoldersApart
    (ledger_of file ps s.orphans)) c.as_slice-pages.ensures (c.in_ok-are_holders_apart.ensures file s.orphans) in
    let within = subst (λ (ps : List PageRow). IsTrue c.are_within.result ↔ AreWithin s.n s.cap (ledger_of file ps s.orphans)) c.as_slice-pages.ensures
    (subst (λ (os : List OrphanRow). IsTrue c.are_within.result ↔ AreWithin s.n s.cap
    (ledger_of file c.as_slice-pages.result.now os)) c.as_slice-orphans.ensures (c.are_within.ensures file)) in
    let runs = subst (λ (ps : List PageRow). IfOk c.are_one_run.result
    (λ told. IsTrue told ↔ AreOneRuns (ledger_of file ps s.orphans))) c.as_slice-pages.ensures
    (subst (λ (os : List OrphanRow). IfOk c.are_one_run.result
    (λ told. IsTrue told ↔ AreOneRuns (ledger_of file c.as_slice-pages.result.now os))) c.as_slice-orphans.ensures (c.are_one_run.ensures file)) in
    runs_told file s c.requires (sym c.is_ledger_told.ensures ∙ c.if-not-is_ledger_told.false) (within.0 c.if-not-are_within.false)
    (apart.0 c.if-not-branch.false) c.are_one_run.result runs
