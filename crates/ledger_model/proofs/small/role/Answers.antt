use Rattle.std.proofs.Common.{sym}
use Rattle.ledger_model.proofs.Pages.SmallLemmas.{small_home, small_orphan, small_holder, small_free, held_has_loan}
use Rattle.ledger_model.proofs.small.role.Goals as goal

pub returns-in-Some : goal.returns-in-Some
returns-in-Some c = λ procs h. sym (small_home procs c.args.pages.now c.args.orphans.now c.args.place c.in-Some.page (sym c.in-Some.ensures))

pub returns-in-Some-orphan_at : goal.returns-in-Some-orphan_at
returns-in-Some-orphan_at c = λ procs h. sym (small_orphan procs c.args.pages.now c.args.orphans.now c.args.place c.in-Some-orphan_at.orphan (sym c.in-None.ensures) (sym c.in-Some-orphan_at.ensures))

pub returns-in-Some-loan : goal.returns-in-Some-loan
returns-in-Some-loan c = λ procs h. sym (small_holder procs c.args.pages.now c.args.orphans.now c.args.place c.in-Some-lent_to.page c.in-Some-loan.loan h (sym c.in-None.ensures) (sym c.in-None-orphan_at.ensures) (sym c.in-Some-lent_to.ensures) c.in-Some-loan.is)

pub returns-in-None-loan : goal.returns-in-None-loan
returns-in-None-loan c = λ procs h. absurd (held_has_loan c.args.pages.now c.args.place c.in-Some-lent_to.page (sym c.in-Some-lent_to.ensures) c.in-None-loan.is)

pub returns-in-None-lent_to : goal.returns-in-None-lent_to
returns-in-None-lent_to c = λ procs h. sym (small_free procs c.args.pages.now c.args.orphans.now c.args.place h (sym c.in-None.ensures) (sym c.in-None-orphan_at.ensures) (sym c.in-None-lent_to.ensures))
