use Rattle.std.proofs.Common.{◌≡◌, false, arith, refl, sym, ap, subst, ◌∙◌}
use Rattle.ledger_model.specs.Places.{in_run, place_after}
use Rattle.ledger_model.specs.Reach.{role_at}
use Rattle.ledger_model.specs.RunTests.{is_on_loan}
use Rattle.ledger_model.specs.Steps.{remove}
use Rattle.ledger_model.proofs.PlaceLemmas.{place_from}
use Rattle.vm_memory.specs.Memory.{ledger, processes}
use Rattle.vm_memory.proofs.Using.NowhereLemmas.{nowhere_removed}
use Rattle.vm_memory.proofs.memory.Memory.drop_above.Goals as goal

pub drop_page-requires-clause-not_lent : goal.drop_page-requires-clause-not_lent
drop_page-requires-clause-not_lent g c =
    subst (λ p. is_on_loan (role_at (processes c.args.self.now) (ledger g.W.SwapStore.held c.args.self.now) p) ≡ false)
    (sym (place_from (record { pid = c.args.first.pid; vpn = record { 0 = c.in-Some.vpn } }) (place_after c.args.first c.args.i) refl c.in-Some.ensures.1)) c.requires.not_lent

pub returns-in-Some-clause-ledger : goal.returns-in-Some-clause-ledger
returns-in-Some-clause-ledger g c = c.drop_page.ensures.ledger
    ∙ ap (λ p. remove (in_run p 1) (ledger g.W.SwapStore.held c.args.self.now))
    (place_from (record { pid = c.args.first.pid; vpn = record { 0 = c.in-Some.vpn } }) (place_after c.args.first c.args.i) refl c.in-Some.ensures.1)

pub returns-in-None-clause-ledger : goal.returns-in-None-clause-ledger
returns-in-None-clause-ledger g c = nowhere_removed g.W.SwapStore c.args.self.now c.requires.sound (place_after c.args.first c.args.i)
    (omega (arith, c.in-None.ensures))
