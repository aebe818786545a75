use Rattle.std.proofs.Common.{arith, subst, sym, ap, ◌∙◌, ◌≡◌, ◌+◌, ◌<◌}
use Rattle.xk_base.specs.declared.ids.Place.{Place}
use Rattle.phys_pages.specs.Owners.{infos}
use Rattle.ledger_model.specs.Places.{in_run, place_after}
use Rattle.sv32_space.specs.Agreement.{seat_in}
use Rattle.sv32_space.specs.EntryLoans.{loan_info}
use Rattle.sv32_space.specs.PageSteps.{end_at}
use Rattle.sv32_space.proofs.RunLemmas.{end_next, end_none}
use Rattle.loan_flags.specs.Keeping.{IsLedgerStep, entries_of, tables}
use Rattle.loan_flags.specs.PageLoans.{IsLentFrom}
use Rattle.loan_flags.proofs.StandingRunLemmas.{RunsSo, holder_fits, ending_lent, ending_seat, lender_fits, lent_ended, runs_next, runs_none}
use Rattle.loan_flags.proofs.runs.end_lent.Goals as goal

pub loop-i-init : goal.loop-i-init
loop-i-init c = runs_none (tables c.args.ram.now c.args.owners.now) c.args.loan.now (end_at (in_run c.args.from 0)) c.args.from c.args.loan.now.holder c.requires.agrees (end_none c.args.from)

pub above-requires : goal.above-requires
above-requires c =
    let n : c.count-i-end.result ≡ c.args.loan.now.count = c.count-i-end.ensures in
    let b : c.loop-i.i < c.args.loan.now.count = omega arith in
    subst (λ (h : Place). h.vpn.0 + c.loop-i.i < 4294967296) (sym c.holder-holder.ensures) (holder_fits (tables c.args.ram.now c.args.owners.now) c.requires.agrees c.args.loan.now c.requires.stands c.loop-i.i b)

pub above-requires-in-loop-i : goal.above-requires-in-loop-i
above-requires-in-loop-i c =
    let n : c.count-i-end.result ≡ c.args.loan.now.count = c.count-i-end.ensures in
    let b : c.loop-i.i < c.args.loan.now.count = omega arith in
    lender_fits (tables c.args.ram.now c.args.owners.now) c.requires.agrees c.args.loan.now c.requires.stands c.args.from c.requires.lent c.loop-i.i b

pub end_page-requires-clause-lent : goal.end_page-requires-clause-lent
end_page-requires-clause-lent c =
    let n : c.count-i-end.result ≡ c.args.loan.now.count = c.count-i-end.ensures in
    let b : c.loop-i.i < c.args.loan.now.count = omega arith in
    let holder : place_after c.args.loan.now.holder c.loop-i.i ≡ c.above.result = sym (c.above.ensures ∙ ap (λ (h : Place). place_after h c.loop-i.i) c.holder-holder.ensures) in
    let kind : c.args.loan.now.kind ≡ c.kind-kind.result = sym c.kind-kind.ensures in
    let number : c.args.loan.now.number ≡ c.number-number.result = sym c.number-number.ensures in
    let info : loan_info c.args.loan.now c.loop-i.i ≡ record { holder = c.above.result; kind = c.kind-kind.result; number = c.number-number.result } =
    λ j. record { holder = holder j; kind = kind j; number = number j } in
    subst (λ p. IsLentFrom (entries_of (tables c.loop-i.ram c.loop-i.owners)) (infos c.loop-i.owners) p (record { holder = c.above.result; kind = c.kind-kind.result; number = c.number-number.result })) (sym c.above-in-loop-i.ensures)
    (subst (λ x. IsLentFrom (entries_of (tables c.loop-i.ram c.loop-i.owners)) (infos c.loop-i.owners) (place_after c.args.from c.loop-i.i) x) info (ending_lent (tables c.args.ram.now c.args.owners.now) c.requires.agrees c.args.loan.now c.requires.stands c.args.from c.requires.lent (tables c.loop-i.ram c.loop-i.owners) (end_at (in_run c.args.from c.loop-i.i)) c.loop-i.i b c.loop-i.invariant))

pub loop-i-preserved : goal.loop-i-preserved
loop-i-preserved c =
    let n : c.count-i-end.result ≡ c.args.loan.now.count = c.count-i-end.ensures in
    let b : c.loop-i.i < c.args.loan.now.count = omega arith in
    let holder : place_after c.args.loan.now.holder c.loop-i.i ≡ c.above.result = sym (c.above.ensures ∙ ap (λ (h : Place). place_after h c.loop-i.i) c.holder-holder.ensures) in
    runs_next (tables c.args.ram.now c.args.owners.now) (tables c.loop-i.ram c.loop-i.owners) (tables c.end_page.new.ram c.end_page.new.owners) c.args.loan.now (end_at (in_run c.args.from c.loop-i.i)) (end_at (in_run (place_after c.args.from c.loop-i.i) 1)) (end_at (in_run c.args.from (c.loop-i.i + 1)))
    c.args.from c.args.loan.now.holder c.loop-i.i (seat_in (entries_of (tables c.loop-i.ram c.loop-i.owners) c.above-in-loop-i.result)) c.loop-i.invariant
    (end_next c.args.from c.loop-i.i)
    (ap (λ p. seat_in (entries_of (tables c.loop-i.ram c.loop-i.owners) p)) c.above-in-loop-i.ensures ∙ ending_seat (tables c.args.ram.now c.args.owners.now) c.requires.agrees c.args.loan.now c.requires.stands c.args.from c.requires.lent (tables c.loop-i.ram c.loop-i.owners) (end_at (in_run c.args.from c.loop-i.i)) c.loop-i.i b c.loop-i.invariant)
    c.end_page.ensures.agrees
    (subst (λ p. IsLedgerStep (end_at (in_run p 1)) (tables c.loop-i.ram c.loop-i.owners) (tables c.end_page.new.ram c.end_page.new.owners)) c.above-in-loop-i.ensures c.end_page.ensures.step)
    (λ p home held. c.end_page.ensures.others p (λ e. home (e ∙ c.above-in-loop-i.ensures)) (λ e. held (e ∙ sym holder)))
    c.end_page.ensures.infos
    c.end_page.ensures.keeps

pub returns : goal.returns
returns c =
    let n : c.count-i-end.result ≡ c.args.loan.now.count = c.count-i-end.ensures in
    let done : c.loop-i.i ≡ c.args.loan.now.count = omega arith in
    lent_ended (tables c.args.ram.now c.args.owners.now) c.requires.agrees c.args.loan.now c.requires.stands c.args.from c.requires.lent (tables c.loop-i.ram c.loop-i.owners) (subst (λ k. RunsSo (tables c.args.ram.now c.args.owners.now) (tables c.loop-i.ram c.loop-i.owners) c.args.loan.now (end_at (in_run c.args.from k)) c.args.from c.args.loan.now.holder k) done c.loop-i.invariant)
