use Rattle.std.proofs.Common.{arith, subst, sym, ap, ◌∙◌, ◌≡◌, ◌+◌, ◌<◌}
use Rattle.xk_base.specs.declared.ids.Place.{Place}
use Rattle.phys_pages.specs.Owners.{infos}
use Rattle.ledger_model.specs.Places.{place_after}
use Rattle.sv32_space.specs.Agreement.{seat_in}
use Rattle.sv32_space.specs.EntryLoans.{StandsIn, loan_info}
use Rattle.sv32_space.specs.PageSteps.{pass_run}
use Rattle.sv32_space.proofs.RunLemmas.{pass_next, pass_none}
use Rattle.loan_flags.specs.Keeping.{IsLedgerStep, entries_of, tables}
use Rattle.loan_flags.specs.PageLoans.{IsLentFrom}
use Rattle.loan_flags.proofs.StandingRunLemmas.{RunsSo, holder_fits, lender_fits, pass_to_fits, passed_stands, passed_steps, passing_free, passing_lent, passing_seat, runs_next, runs_none}
use Rattle.loan_flags.proofs.runs.pass_run.Goals as goal

pub loop-i-init : goal.loop-i-init
loop-i-init c = runs_none (tables c.args.ram.now c.args.owners.now) c.args.loan (pass_run c.lender_of-from.result 0 c.args.to) c.args.loan.holder c.args.to c.requires.agrees (pass_none c.lender_of-from.result c.args.to)

pub above-requires : goal.above-requires
above-requires c =
    let n : c.count-i-end.result ≡ c.args.loan.count = c.count-i-end.ensures in
    let b : c.loop-i.i < c.args.loan.count = omega arith in
    subst (λ (h : Place). h.vpn.0 + c.loop-i.i < 4294967296) (sym c.holder-holder.ensures) (holder_fits (tables c.args.ram.now c.args.owners.now) c.requires.agrees c.args.loan c.requires.stands c.loop-i.i b)

pub above-requires-in-loop-i : goal.above-requires-in-loop-i
above-requires-in-loop-i c =
    let n : c.count-i-end.result ≡ c.args.loan.count = c.count-i-end.ensures in
    let b : c.loop-i.i < c.args.loan.count = omega arith in
    lender_fits (tables c.args.ram.now c.args.owners.now) c.requires.agrees c.args.loan c.requires.stands c.lender_of-from.result c.lender_of-from.ensures c.loop-i.i b

pub above-requires-in-loop-i-2 : goal.above-requires-in-loop-i-2
above-requires-in-loop-i-2 c =
    let n : c.count-i-end.result ≡ c.args.loan.count = c.count-i-end.ensures in
    let b : c.loop-i.i < c.args.loan.count = omega arith in
    pass_to_fits (tables c.args.ram.now c.args.owners.now) c.requires.agrees c.args.loan c.requires.stands c.lender_of-from.result c.lender_of-from.ensures c.args.to c.requires.free c.loop-i.i b

pub pass_page-requires-clause-lent : goal.pass_page-requires-clause-lent
pass_page-requires-clause-lent c =
    let n : c.count-i-end.result ≡ c.args.loan.count = c.count-i-end.ensures in
    let b : c.loop-i.i < c.args.loan.count = omega arith in
    let holder : place_after c.args.loan.holder c.loop-i.i ≡ c.above.result = sym (c.above.ensures ∙ ap (λ (h : Place). place_after h c.loop-i.i) c.holder-holder.ensures) in
    let kind : c.args.loan.kind ≡ c.kind-kind.result = sym c.kind-kind.ensures in
    let number : c.args.loan.number ≡ c.number-number.result = sym c.number-number.ensures in
    let info : loan_info c.args.loan c.loop-i.i ≡ record { holder = c.above.result; kind = c.kind-kind.result; number = c.number-number.result } =
    λ j. record { holder = holder j; kind = kind j; number = number j } in
    subst (λ p. IsLentFrom (entries_of (tables c.loop-i.ram c.loop-i.owners)) (infos c.loop-i.owners) p (record { holder = c.above.result; kind = c.kind-kind.result; number = c.number-number.result })) (sym c.above-in-loop-i.ensures)
    (subst (λ x. IsLentFrom (entries_of (tables c.loop-i.ram c.loop-i.owners)) (infos c.loop-i.owners) (place_after c.lender_of-from.result c.loop-i.i) x) info
    (passing_lent (tables c.args.ram.now c.args.owners.now) c.requires.agrees c.args.loan c.requires.stands c.lender_of-from.result c.lender_of-from.ensures c.args.to c.requires.free (tables c.loop-i.ram c.loop-i.owners) (pass_run c.lender_of-from.result c.loop-i.i c.args.to) c.loop-i.i b c.loop-i.invariant))

pub pass_page-requires-clause-free : goal.pass_page-requires-clause-free
pass_page-requires-clause-free c =
    let n : c.count-i-end.result ≡ c.args.loan.count = c.count-i-end.ensures in
    let b : c.loop-i.i < c.args.loan.count = omega arith in
    ap (entries_of (tables c.loop-i.ram c.loop-i.owners)) c.above-in-loop-i-2.ensures ∙ passing_free (tables c.args.ram.now c.args.owners.now) c.requires.agrees c.args.loan c.requires.stands c.lender_of-from.result c.lender_of-from.ensures c.args.to c.requires.free (tables c.loop-i.ram c.loop-i.owners) (pass_run c.lender_of-from.result c.loop-i.i c.args.to) c.loop-i.i b c.loop-i.invariant

pub loop-i-preserved : goal.loop-i-preserved
loop-i-preserved c =
    let n : c.count-i-end.result ≡ c.args.loan.count = c.count-i-end.ensures in
    let b : c.loop-i.i < c.args.loan.count = omega arith in
    let holder : place_after c.args.loan.holder c.loop-i.i ≡ c.above.result = sym (c.above.ensures ∙ ap (λ (h : Place). place_after h c.loop-i.i) c.holder-holder.ensures) in
    runs_next (tables c.args.ram.now c.args.owners.now) (tables c.loop-i.ram c.loop-i.owners) (tables c.pass_page.new.ram c.pass_page.new.owners) c.args.loan (pass_run c.lender_of-from.result c.loop-i.i c.args.to) (pass_run (place_after c.lender_of-from.result c.loop-i.i) 1 (place_after c.args.to c.loop-i.i)) (pass_run c.lender_of-from.result (c.loop-i.i + 1) c.args.to)
    c.args.loan.holder c.args.to c.loop-i.i (seat_in (entries_of (tables c.loop-i.ram c.loop-i.owners) c.above-in-loop-i.result)) c.loop-i.invariant
    (pass_next c.lender_of-from.result c.args.to c.loop-i.i)
    (ap (λ p. seat_in (entries_of (tables c.loop-i.ram c.loop-i.owners) p)) c.above-in-loop-i.ensures
    ∙ passing_seat
    (tables c.args.ram.now c.args.owners.now) c.requires.agrees c.args.loan c.requires.stands c.lender_of-from.result c.lender_of-from.ensures c.args.to c.requires.free (tables c.loop-i.ram c.loop-i.owners) (pass_run c.lender_of-from.result c.loop-i.i c.args.to) c.loop-i.i b c.loop-i.invariant)
    c.pass_page.ensures.agrees
    (subst (λ p. IsLedgerStep (pass_run p 1 (place_after c.args.to c.loop-i.i)) (tables c.loop-i.ram c.loop-i.owners) (tables c.pass_page.new.ram c.pass_page.new.owners)) c.above-in-loop-i.ensures
    (subst (λ q. IsLedgerStep (pass_run c.above-in-loop-i.result 1 q) (tables c.loop-i.ram c.loop-i.owners) (tables c.pass_page.new.ram c.pass_page.new.owners)) c.above-in-loop-i-2.ensures c.pass_page.ensures.step))
    (λ p home free. c.pass_page.ensures.others p (λ e. home (e ∙ sym holder)) (λ e. free (e ∙ c.above-in-loop-i-2.ensures)))
    c.pass_page.ensures.infos
    c.pass_page.ensures.keeps

pub returns-clause-step : goal.returns-clause-step
returns-clause-step c =
    let n : c.count-i-end.result ≡ c.args.loan.count = c.count-i-end.ensures in
    let done : c.loop-i.i ≡ c.args.loan.count = omega arith in
    passed_steps (tables c.args.ram.now c.args.owners.now) c.requires.agrees c.args.loan c.requires.stands c.lender_of-from.result
    c.lender_of-from.ensures c.args.to c.requires.free (tables c.loop-i.ram c.loop-i.owners) (subst (λ k. IsLedgerStep (pass_run c.lender_of-from.result k c.args.to) (tables c.args.ram.now c.args.owners.now) (tables c.loop-i.ram c.loop-i.owners)) done c.loop-i.invariant.steps)

pub returns-clause-stands : goal.returns-clause-stands
returns-clause-stands c =
    let n : c.count-i-end.result ≡ c.args.loan.count = c.count-i-end.ensures in
    let done : c.loop-i.i ≡ c.args.loan.count = omega arith in
    subst (StandsIn (entries_of (tables c.loop-i.ram c.loop-i.owners)) (infos c.loop-i.owners)) (sym c.moved_to.ensures)
    (passed_stands
    (tables c.args.ram.now c.args.owners.now) c.requires.agrees c.args.loan c.requires.stands c.lender_of-from.result
    c.lender_of-from.ensures c.args.to c.requires.free (tables c.loop-i.ram c.loop-i.owners) c.loop-i.invariant.agree (subst (λ k. IsLedgerStep (pass_run c.lender_of-from.result k c.args.to) (tables c.args.ram.now c.args.owners.now) (tables c.loop-i.ram c.loop-i.owners)) done c.loop-i.invariant.steps) c.requires.lies)

pub returns-clause-others : goal.returns-clause-others
returns-clause-others c =
    let n : c.count-i-end.result ≡ c.args.loan.count = c.count-i-end.ensures in
    let done : c.loop-i.i ≡ c.args.loan.count = omega arith in
    (subst (λ k. RunsSo (tables c.args.ram.now c.args.owners.now) (tables c.loop-i.ram c.loop-i.owners) c.args.loan (pass_run c.lender_of-from.result k c.args.to) c.args.loan.holder c.args.to k) done c.loop-i.invariant).others
