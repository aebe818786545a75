use Rattle.std.proofs.Common.{arith, subst, sym, ap, ◌∙◌, ◌≡◌}
use Rattle.xk_base.specs.declared.pages.LoanKind.TheVariants.{Shared}
use Rattle.ledger_model.specs.Places.{place_after}
use Rattle.ledger_model.specs.Steps.{give}
use Rattle.loan_flags.specs.Keeping.{IsLedgerStep, entries_of, tables}
use Rattle.loan_flags.specs.PageLoans.{IsOwn}
use Rattle.loan_flags.proofs.LendRunLemmas.{GivesSo, free_ahead, from_fits, gives_next, gives_none, own_ahead, runs_apart, to_fits}
use Rattle.loan_flags.proofs.runs.give_run.Goals as goal

pub loop-i-init : goal.loop-i-init
loop-i-init c = gives_none (tables c.args.ram.now c.args.owners.now) c.args.from c.args.to c.requires.agrees

pub above-requires : goal.above-requires
above-requires c = from_fits (tables c.args.ram.now c.args.owners.now) c.args.from c.args.n c.args.to Shared (record { 0 = 0 }) c.requires.agrees c.requires.may c.requires.free c.loop-i.i c.loop-i-test.true

pub above-requires-in-loop-i : goal.above-requires-in-loop-i
above-requires-in-loop-i c = to_fits (tables c.args.ram.now c.args.owners.now) c.args.from c.args.n c.args.to Shared (record { 0 = 0 }) c.requires.agrees c.requires.may c.requires.free c.loop-i.i c.loop-i-test.true

pub give_page-requires-clause-page : goal.give_page-requires-clause-page
give_page-requires-clause-page c =
    subst (λ p. IsOwn (entries_of (tables c.loop-i.ram c.loop-i.owners)) p) (sym c.above.ensures)
    (own_ahead (tables c.args.ram.now c.args.owners.now) c.args.from c.args.n c.args.to Shared (record { 0 = 0 }) c.requires.agrees c.requires.may c.requires.free (tables c.loop-i.ram c.loop-i.owners) c.loop-i.i c.loop-i-test.true c.loop-i.invariant.others).own

pub give_page-requires-clause-free : goal.give_page-requires-clause-free
give_page-requires-clause-free c =
    ap (entries_of (tables c.loop-i.ram c.loop-i.owners)) c.above-in-loop-i.ensures
    ∙ free_ahead (tables c.args.ram.now c.args.owners.now) c.args.from c.args.n c.args.to Shared (record { 0 = 0 }) c.requires.agrees c.requires.may c.requires.free (tables c.loop-i.ram c.loop-i.owners) c.loop-i.i c.loop-i-test.true c.loop-i.invariant.others

pub loop-i-preserved : goal.loop-i-preserved
loop-i-preserved c =
    gives_next (tables c.args.ram.now c.args.owners.now) (tables c.loop-i.ram c.loop-i.owners) (tables c.give_page.new.ram c.give_page.new.owners) c.args.from c.args.to c.loop-i.i c.loop-i.invariant
    (runs_apart (tables c.args.ram.now c.args.owners.now) c.args.from c.args.n c.args.to Shared (record { 0 = 0 }) c.requires.agrees c.requires.may c.requires.free c.loop-i.i c.loop-i-test.true) c.give_page.ensures.agrees
    (subst (λ p. IsLedgerStep (give p 1 (place_after c.args.to c.loop-i.i)) (tables c.loop-i.ram c.loop-i.owners) (tables c.give_page.new.ram c.give_page.new.owners)) c.above.ensures
    (subst (λ q. IsLedgerStep (give c.above.result 1 q) (tables c.loop-i.ram c.loop-i.owners) (tables c.give_page.new.ram c.give_page.new.owners)) c.above-in-loop-i.ensures c.give_page.ensures.step))
    (λ p home to. c.give_page.ensures.others p (λ e. home (e ∙ c.above.ensures)) (λ e. to (e ∙ c.above-in-loop-i.ensures)))
    c.give_page.ensures.keeps

pub returns-clause-others : goal.returns-clause-others
returns-clause-others c =
    let done : c.loop-i.i ≡ c.args.n = omega arith in
    (subst (λ i. GivesSo (tables c.args.ram.now c.args.owners.now) (tables c.loop-i.ram c.loop-i.owners) c.args.from c.args.to i) done c.loop-i.invariant).others
