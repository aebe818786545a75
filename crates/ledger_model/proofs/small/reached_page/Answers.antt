use Rattle.std.proofs.Common.{sym, ◌∙◌, None}
use Rattle.std.proofs.lemmas.Bool.{cond-true, cond-false}
use Rattle.ledger_model.specs.Reach.{may, page_at_role}
use Rattle.ledger_model.specs.Small.{ledger_of, role_of}
use Rattle.ledger_model.proofs.LedgerLemmas.{reach-role}
use Rattle.ledger_model.proofs.small.reached_page.Goals as goal

pub returns-then-can_role : goal.returns-then-can_role
returns-then-can_role c = λ procs h. c.page_of_role.ensures
    ∙ sym (reach-role procs (ledger_of c.args.pages.now c.args.orphans.now) c.args.place c.args.access (role_of c.role-role.result) (sym (c.role-role.ensures procs h))
    ∙ cond-true (may (role_of c.role-role.result) c.args.access) (page_at_role c.args.place (role_of c.role-role.result)) None (sym c.can_role.ensures ∙ c.if-can_role.true))

pub returns-else-can_role : goal.returns-else-can_role
returns-else-can_role c = λ procs h.
    sym (reach-role procs (ledger_of c.args.pages.now c.args.orphans.now) c.args.place c.args.access (role_of c.role-role.result) (sym (c.role-role.ensures procs h))
    ∙ cond-false (may (role_of c.role-role.result) c.args.access) (page_at_role c.args.place (role_of c.role-role.result)) None (sym c.can_role.ensures ∙ c.if-can_role.false))
