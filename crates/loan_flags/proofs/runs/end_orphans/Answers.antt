use Rattle.std.proofs.Common.{arith, subst, sym, ap, ◌∙◌, ◌≡◌, ◌+◌, ◌<◌}
use Rattle.xk_base.specs.declared.ids.Place.{Place}
use Rattle.phys_pages.specs.Owners.{infos}
use Rattle.ledger_model.specs.Places.{in_run, place_after}
use Rattle.sv32_space.specs.Agreement.{seat_in}
use Rattle.sv32_space.specs.EntryLoans.{loan_info}
use Rattle.sv32_space.specs.PageSteps.{forget_orphans}
use Rattle.sv32_space.proofs.RunLemmas.{forget_next, forget_none}
use Rattle.loan_flags.specs.Keeping.{IsLedgerStep, entries_of, tables}
use Rattle.loan_flags.specs.PageLoans.{IsOrphaned}
use Rattle.loan_flags.proofs.StandingRunLemmas.{RunsSo, holder_fits, orphan_seat_still, orphans_ended, still_orphaned, runs_next, runs_none}
use Rattle.loan_flags.proofs.runs.end_orphans.Goals as goal

pub loop-i-init : goal.loop-i-init
loop-i-init c = runs_none (tables c.args.ram.now c.args.owners.now) c.args.loan.now (forget_orphans (in_run c.args.loan.now.holder 0)) c.args.loan.now.holder c.args.loan.now.holder c.requires.agrees (forget_none c.args.loan.now.holder)

pub above-requires : goal.above-requires
above-requires c =
    let n : c.count-i-end.result ≡ c.args.loan.now.count = c.count-i-end.ensures in
    let b : c.loop-i.i < c.args.loan.now.count = omega arith in
    subst (λ (h : Place). h.vpn.0 + c.loop-i.i < 4294967296) (sym c.holder-holder.ensures) (holder_fits (tables c.args.ram.now c.args.owners.now) c.requires.agrees c.args.loan.now c.requires.stands c.loop-i.i b)

pub forget_page-requires-clause-orphan : goal.forget_page-requires-clause-orphan
forget_page-requires-clause-orphan c =
    let n : c.count-i-end.result ≡ c.args.loan.now.count = c.count-i-end.ensures in
    let b : c.loop-i.i < c.args.loan.now.count = omega arith in
    let holder : place_after c.args.loan.now.holder c.loop-i.i ≡ c.above.result = sym (c.above.ensures ∙ ap (λ (h : Place). place_after h c.loop-i.i) c.holder-holder.ensures) in
    let kind : c.args.loan.now.kind ≡ c.kind-kind.result = sym c.kind-kind.ensures in
    let number : c.args.loan.now.number ≡ c.number-number.result = sym c.number-number.ensures in
    let info : loan_info c.args.loan.now c.loop-i.i ≡ record { holder = c.above.result; kind = c.kind-kind.result; number = c.number-number.result } =
    λ j. record { holder = holder j; kind = kind j; number = number j } in
    subst (λ x. IsOrphaned (entries_of (tables c.loop-i.ram c.loop-i.owners)) (infos c.loop-i.owners) x) info (still_orphaned (tables c.args.ram.now c.args.owners.now) c.requires.agrees c.args.loan.now c.requires.stands c.requires.alone (tables c.loop-i.ram c.loop-i.owners) (forget_orphans (in_run c.args.loan.now.holder c.loop-i.i)) c.loop-i.i b c.loop-i.invariant)

pub loop-i-preserved : goal.loop-i-preserved
loop-i-preserved c =
    let n : c.count-i-end.result ≡ c.args.loan.now.count = c.count-i-end.ensures in
    let b : c.loop-i.i < c.args.loan.now.count = omega arith in
    let holder : place_after c.args.loan.now.holder c.loop-i.i ≡ c.above.result = sym (c.above.ensures ∙ ap (λ (h : Place). place_after h c.loop-i.i) c.holder-holder.ensures) in
    runs_next (tables c.args.ram.now c.args.owners.now) (tables c.loop-i.ram c.loop-i.owners) (tables c.forget_page.new.ram c.forget_page.new.owners) c.args.loan.now (forget_orphans (in_run c.args.loan.now.holder c.loop-i.i)) (forget_orphans (in_run (place_after c.args.loan.now.holder c.loop-i.i) 1)) (forget_orphans (in_run c.args.loan.now.holder (c.loop-i.i + 1)))
    c.args.loan.now.holder c.args.loan.now.holder c.loop-i.i (seat_in (entries_of (tables c.loop-i.ram c.loop-i.owners) c.above.result)) c.loop-i.invariant
    (forget_next c.args.loan.now.holder c.loop-i.i)
    (ap (λ p. seat_in (entries_of (tables c.loop-i.ram c.loop-i.owners) p)) (sym holder) ∙ orphan_seat_still (tables c.args.ram.now c.args.owners.now) c.requires.agrees c.args.loan.now c.requires.stands c.requires.alone (tables c.loop-i.ram c.loop-i.owners) (forget_orphans (in_run c.args.loan.now.holder c.loop-i.i)) c.loop-i.i b c.loop-i.invariant)
    c.forget_page.ensures.agrees
    (subst (λ p. IsLedgerStep (forget_orphans (in_run p 1)) (tables c.loop-i.ram c.loop-i.owners) (tables c.forget_page.new.ram c.forget_page.new.owners)) (sym holder) c.forget_page.ensures.step)
    (λ p held other. c.forget_page.ensures.others p (λ e. held (e ∙ sym holder)))
    c.forget_page.ensures.infos
    c.forget_page.ensures.keeps

pub returns : goal.returns
returns c =
    let n : c.count-i-end.result ≡ c.args.loan.now.count = c.count-i-end.ensures in
    let done : c.loop-i.i ≡ c.args.loan.now.count = omega arith in
    orphans_ended (tables c.args.ram.now c.args.owners.now) c.requires.agrees c.args.loan.now c.requires.stands c.requires.alone
    (tables c.loop-i.ram c.loop-i.owners)
    (subst (λ k. RunsSo (tables c.args.ram.now c.args.owners.now) (tables c.loop-i.ram c.loop-i.owners) c.args.loan.now
    (forget_orphans (in_run c.args.loan.now.holder k)) c.args.loan.now.holder c.args.loan.now.holder k) done c.loop-i.invariant)
