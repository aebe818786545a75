use Rattle.std.proofs.Common.{arith, subst, sym, ap, ◌∙◌, ◌≡◌}
use Rattle.phys_pages.specs.Owners.{infos}
use Rattle.ledger_model.specs.Places.{place_after}
use Rattle.ledger_model.specs.Steps.{lend}
use Rattle.sv32_space.specs.EntryLoans.{StandsIn}
use Rattle.loan_flags.specs.Keeping.{IsLedgerStep, entries_of, tables}
use Rattle.loan_flags.specs.PageLoans.{IsLendable}
use Rattle.loan_flags.proofs.LendRunLemmas.{LendsSo, free_ahead, from_fits, lends_next, lends_none, lent_stands, own_ahead, to_fits}
use Rattle.loan_flags.proofs.runs.lend_run.Goals as goal

pub loop-i-init : goal.loop-i-init
loop-i-init c = lends_none (tables c.args.ram.now c.args.owners.now) c.args.from c.args.to c.args.kind c.args.number c.requires.agrees

pub above-requires : goal.above-requires
above-requires c = to_fits (tables c.args.ram.now c.args.owners.now) c.args.from c.args.n c.args.to c.args.kind c.args.number c.requires.agrees c.requires.may c.requires.free
    c.loop-i.i c.loop-i-test.true

pub above-requires-in-loop-i : goal.above-requires-in-loop-i
above-requires-in-loop-i c = from_fits (tables c.args.ram.now c.args.owners.now) c.args.from c.args.n c.args.to c.args.kind c.args.number c.requires.agrees c.requires.may c.requires.free
    c.loop-i.i c.loop-i-test.true

pub lend_page-requires-clause-page : goal.lend_page-requires-clause-page
lend_page-requires-clause-page c =
    subst (λ p. IsLendable (entries_of (tables c.loop-i.ram c.loop-i.owners)) c.args.kind p) (sym c.above-in-loop-i.ensures)
    (own_ahead (tables c.args.ram.now c.args.owners.now) c.args.from c.args.n c.args.to c.args.kind c.args.number c.requires.agrees c.requires.may c.requires.free
    (tables c.loop-i.ram c.loop-i.owners) c.loop-i.i c.loop-i-test.true c.loop-i.invariant.others)

pub lend_page-requires-clause-free : goal.lend_page-requires-clause-free
lend_page-requires-clause-free c =
    ap (entries_of (tables c.loop-i.ram c.loop-i.owners)) c.above.ensures
    ∙ free_ahead (tables c.args.ram.now c.args.owners.now) c.args.from c.args.n c.args.to c.args.kind c.args.number c.requires.agrees c.requires.may c.requires.free
    (tables c.loop-i.ram c.loop-i.owners) c.loop-i.i c.loop-i-test.true c.loop-i.invariant.others

pub loop-i-preserved : goal.loop-i-preserved
loop-i-preserved c =
    lends_next (tables c.args.ram.now c.args.owners.now) (tables c.loop-i.ram c.loop-i.owners) (tables c.lend_page.new.ram c.lend_page.new.owners)
    c.args.from c.args.to c.loop-i.i c.args.kind c.args.number c.loop-i.invariant c.lend_page.ensures.agrees
    (subst (λ p. IsLedgerStep (lend p 1 (place_after c.args.to c.loop-i.i) c.args.kind c.args.number) (tables c.loop-i.ram c.loop-i.owners) (tables c.lend_page.new.ram c.lend_page.new.owners)) c.above-in-loop-i.ensures
    (subst (λ q. IsLedgerStep (lend c.above-in-loop-i.result 1 q c.args.kind c.args.number) (tables c.loop-i.ram c.loop-i.owners) (tables c.lend_page.new.ram c.lend_page.new.owners)) c.above.ensures c.lend_page.ensures.step))
    (λ p home holder. c.lend_page.ensures.others p (λ e. home (e ∙ c.above-in-loop-i.ensures)) (λ e. holder (e ∙ c.above.ensures)))
    c.lend_page.ensures.keeps

pub returns-clause-stands : goal.returns-clause-stands
returns-clause-stands c =
    let done : c.loop-i.i ≡ c.args.n = omega arith in
    subst (StandsIn (entries_of (tables c.loop-i.ram c.loop-i.owners)) (infos c.loop-i.owners)) (sym c.lent.ensures)
    (lent_stands (tables c.args.ram.now c.args.owners.now) c.args.from c.args.n c.args.to c.args.kind c.args.number c.requires.agrees c.requires.may c.requires.free
    (tables c.loop-i.ram c.loop-i.owners)
    (subst (λ i. LendsSo (tables c.args.ram.now c.args.owners.now) (tables c.loop-i.ram c.loop-i.owners) c.args.from c.args.to i c.args.kind c.args.number) done c.loop-i.invariant)
    c.requires.lies c.requires.unlent)

pub returns-clause-others : goal.returns-clause-others
returns-clause-others c =
    let done : c.loop-i.i ≡ c.args.n = omega arith in
    (subst (λ i. LendsSo (tables c.args.ram.now c.args.owners.now) (tables c.loop-i.ram c.loop-i.owners) c.args.from c.args.to i c.args.kind c.args.number) done c.loop-i.invariant).others
