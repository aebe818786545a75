use Rattle.std.proofs.Common.{arith, false, subst, sym, ap, ◌∙◌, ◌≡◌, ◌+◌, ◌<◌}
use Rattle.std.proofs.lemmas.Option.{same_Some}
use Rattle.xk_base.specs.declared.ids.Place.{Place}
use Rattle.phys_pages.specs.Owners.{infos}
use Rattle.ledger_model.specs.Places.{in_run, place_after}
use Rattle.sv32_space.specs.Agreement.{seat_in}
use Rattle.sv32_space.specs.EntryLoans.{StandsIn, loan_info}
use Rattle.sv32_space.specs.PageSteps.{orphan_run}
use Rattle.sv32_space.proofs.RunLemmas.{orphan_next, orphan_none}
use Rattle.loan_flags.specs.Keeping.{IsLedgerStep, entries_of, tables}
use Rattle.loan_flags.specs.PageLoans.{IsLentFrom}
use Rattle.loan_flags.proofs.StandingRunLemmas.{holder_fits, lender_fits, orphaned_stands_in, orphaned_steps, orphaning_lent, orphaning_seat, runs_next, runs_none}
use Rattle.loan_flags.proofs.runs.orphan_run.Goals as goal

pub loop-i-init : goal.loop-i-init
loop-i-init c = runs_none (tables c.args.ram.now c.args.owners.now) c.args.loan (orphan_run c.lender_of-from.result 0 c.args.loan.holder) c.lender_of-from.result c.lender_of-from.result c.requires.agrees (orphan_none c.lender_of-from.result c.args.loan.holder)

pub above-requires : goal.above-requires
above-requires c =
    let n : c.count-i-end.result ≡ c.args.loan.count = c.count-i-end.ensures in
    let b : c.loop-i.i < c.args.loan.count = omega arith in
    subst (λ (h : Place). h.vpn.0 + c.loop-i.i < 4294967296) (sym c.holder-holder.ensures) (holder_fits (tables c.args.ram.now c.args.owners.now) c.requires.agrees c.args.loan c.requires.stands c.loop-i.i b)

pub above-requires-in-loop-i : goal.above-requires-in-loop-i
above-requires-in-loop-i c =
    let n : c.count-i-end.result ≡ c.args.loan.count = c.count-i-end.ensures in
    let b : c.loop-i.i < c.args.loan.count = omega arith in
    lender_fits (tables c.args.ram.now c.args.owners.now) c.requires.agrees c.args.loan c.requires.stands c.lender_of-from.result c.lender_of-from.ensures c.loop-i.i b

pub orphan_page-requires-clause-lent : goal.orphan_page-requires-clause-lent
orphan_page-requires-clause-lent c =
    let n : c.count-i-end.result ≡ c.args.loan.count = c.count-i-end.ensures in
    let b : c.loop-i.i < c.args.loan.count = omega arith in
    let holder : place_after c.args.loan.holder c.loop-i.i ≡ c.above.result = sym (c.above.ensures ∙ ap (λ (h : Place). place_after h c.loop-i.i) c.holder-holder.ensures) in
    let kind : c.args.loan.kind ≡ c.kind-kind.result = sym c.kind-kind.ensures in
    let number : c.args.loan.number ≡ c.number-number.result = sym c.number-number.ensures in
    let info : loan_info c.args.loan c.loop-i.i ≡ record { holder = c.above.result; kind = c.kind-kind.result; number = c.number-number.result } =
    λ j. record { holder = holder j; kind = kind j; number = number j } in
    subst (λ p. IsLentFrom (entries_of (tables c.loop-i.ram c.loop-i.owners)) (infos c.loop-i.owners) p (record { holder = c.above.result; kind = c.kind-kind.result; number = c.number-number.result })) (sym c.above-in-loop-i.ensures)
    (subst (λ x. IsLentFrom (entries_of (tables c.loop-i.ram c.loop-i.owners)) (infos c.loop-i.owners) (place_after c.lender_of-from.result c.loop-i.i) x) info
    (orphaning_lent (tables c.args.ram.now c.args.owners.now) c.requires.agrees c.args.loan c.requires.stands c.lender_of-from.result c.lender_of-from.ensures (tables c.loop-i.ram c.loop-i.owners) (orphan_run c.lender_of-from.result c.loop-i.i c.args.loan.holder) c.loop-i.i b c.loop-i.invariant))

pub loop-i-preserved : goal.loop-i-preserved
loop-i-preserved c =
    let n : c.count-i-end.result ≡ c.args.loan.count = c.count-i-end.ensures in
    let b : c.loop-i.i < c.args.loan.count = omega arith in
    let holder : place_after c.args.loan.holder c.loop-i.i ≡ c.above.result = sym (c.above.ensures ∙ ap (λ (h : Place). place_after h c.loop-i.i) c.holder-holder.ensures) in
    runs_next (tables c.args.ram.now c.args.owners.now) (tables c.loop-i.ram c.loop-i.owners)
    (tables c.orphan_page.new.ram c.orphan_page.new.owners) c.args.loan (orphan_run c.lender_of-from.result c.loop-i.i c.args.loan.holder)
    (orphan_run (place_after c.lender_of-from.result c.loop-i.i) 1 (place_after c.args.loan.holder c.loop-i.i))
    (orphan_run c.lender_of-from.result (c.loop-i.i + 1) c.args.loan.holder)
    c.lender_of-from.result c.lender_of-from.result c.loop-i.i (seat_in (entries_of (tables c.loop-i.ram c.loop-i.owners) c.above-in-loop-i.result)) c.loop-i.invariant
    (orphan_next c.lender_of-from.result c.args.loan.holder c.loop-i.i)
    (ap (λ p. seat_in (entries_of (tables c.loop-i.ram c.loop-i.owners) p)) c.above-in-loop-i.ensures ∙ orphaning_seat (tables c.args.ram.now c.args.owners.now) c.requires.agrees c.args.loan c.requires.stands c.lender_of-from.result c.lender_of-from.ensures (tables c.loop-i.ram c.loop-i.owners) (orphan_run c.lender_of-from.result c.loop-i.i c.args.loan.holder) c.loop-i.i b c.loop-i.invariant)
    c.orphan_page.ensures.agrees
    (subst (λ p. IsLedgerStep (orphan_run p 1 (place_after c.args.loan.holder c.loop-i.i)) (tables c.loop-i.ram c.loop-i.owners) (tables c.orphan_page.new.ram c.orphan_page.new.owners)) c.above-in-loop-i.ensures
    (subst (λ q. IsLedgerStep (orphan_run c.above-in-loop-i.result 1 q) (tables c.loop-i.ram c.loop-i.owners) (tables c.orphan_page.new.ram c.orphan_page.new.owners)) (sym holder) c.orphan_page.ensures.step))
    (λ p home again. c.orphan_page.ensures.others p (λ e. home (e ∙ c.above-in-loop-i.ensures)))
    c.orphan_page.ensures.infos
    c.orphan_page.ensures.keeps

pub returns-clause-step : goal.returns-clause-step
returns-clause-step c =
    let n : c.count-i-end.result ≡ c.args.loan.count = c.count-i-end.ensures in
    let done : c.loop-i.i ≡ c.args.loan.count = omega arith in
    orphaned_steps (tables c.args.ram.now c.args.owners.now) c.requires.agrees c.args.loan c.requires.stands c.lender_of-from.result c.lender_of-from.ensures (tables c.loop-i.ram c.loop-i.owners) (subst (λ k. IsLedgerStep (orphan_run c.lender_of-from.result k c.args.loan.holder) (tables c.args.ram.now c.args.owners.now) (tables c.loop-i.ram c.loop-i.owners)) done c.loop-i.invariant.steps)

pub returns-clause-stands : goal.returns-clause-stands
returns-clause-stands c =
    let n : c.count-i-end.result ≡ c.args.loan.count = c.count-i-end.ensures in
    let done : c.loop-i.i ≡ c.args.loan.count = omega arith in
    subst (StandsIn (entries_of (tables c.loop-i.ram c.loop-i.owners)) (infos c.loop-i.owners)) (sym c.orphaned.ensures)
    (orphaned_stands_in
    (tables c.args.ram.now c.args.owners.now) c.requires.agrees c.args.loan c.requires.stands c.lender_of-from.result c.lender_of-from.ensures
    (tables c.loop-i.ram c.loop-i.owners) c.loop-i.invariant.agree
    (subst (λ k. IsLedgerStep (orphan_run c.lender_of-from.result k c.args.loan.holder) (tables c.args.ram.now c.args.owners.now)
    (tables c.loop-i.ram c.loop-i.owners)) done c.loop-i.invariant.steps))

pub returns-clause-others : goal.returns-clause-others
returns-clause-others c = λ from lent p outside.
    let n : c.count-i-end.result ≡ c.args.loan.count = c.count-i-end.ensures in
    let done : c.loop-i.i ≡ c.args.loan.count = omega arith in
    let same : c.lender_of-from.result ≡ from = same_Some c.lender_of-from.result from (sym c.lender_of-from.ensures ∙ lent) in
    let free : in_run c.lender_of-from.result c.loop-i.i p ≡ false =
    ap (λ q. in_run q c.loop-i.i p) same ∙ (ap (λ k. in_run from k p) done ∙ outside) in
    c.loop-i.invariant.others p free free
