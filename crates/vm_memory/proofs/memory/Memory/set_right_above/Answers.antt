use Rattle.std.proofs.Common.{◌≡◌, false, arith, refl, sym, ap, subst, ◌∙◌}
use Rattle.ledger_model.specs.Places.{in_run, place_after}
use Rattle.ledger_model.specs.Reach.{role_at}
use Rattle.ledger_model.specs.RunTests.{asks_more, is_on_loan}
use Rattle.ledger_model.specs.Steps.{reduce}
use Rattle.ledger_model.proofs.PlaceLemmas.{place_from}
use Rattle.vm_memory.specs.Memory.{ledger, processes}
use Rattle.vm_memory.proofs.Using.NowhereLemmas.{nowhere_reduced}
use Rattle.vm_memory.proofs.memory.Memory.set_right_above.Goals as goal

pub set_right-requires-clause-not_lent : goal.set_right-requires-clause-not_lent
set_right-requires-clause-not_lent g c =
    subst (λ p. is_on_loan (role_at (processes c.args.self.now) (ledger g.W.SwapStore.held c.args.self.now) p) ≡ false)
    (sym (place_from (record { pid = c.args.first.pid; vpn = record { 0 = c.in-Some.vpn } }) (place_after c.args.first c.args.i) refl c.in-Some.ensures.1)) c.requires.not_lent

pub set_right-requires-clause-within : goal.set_right-requires-clause-within
set_right-requires-clause-within g c =
    subst (λ p. asks_more c.args.right ((ledger g.W.SwapStore.held c.args.self.now).home p) ≡ false)
    (sym (place_from (record { pid = c.args.first.pid; vpn = record { 0 = c.in-Some.vpn } }) (place_after c.args.first c.args.i) refl c.in-Some.ensures.1)) c.requires.within

pub returns-in-Some-clause-ledger : goal.returns-in-Some-clause-ledger
returns-in-Some-clause-ledger g c = c.set_right.ensures.ledger
    ∙ ap (λ p. reduce (in_run p 1) c.args.right (ledger g.W.SwapStore.held c.args.self.now))
    (place_from (record { pid = c.args.first.pid; vpn = record { 0 = c.in-Some.vpn } }) (place_after c.args.first c.args.i) refl c.in-Some.ensures.1)

pub returns-in-None-clause-ledger : goal.returns-in-None-clause-ledger
returns-in-None-clause-ledger g c = nowhere_reduced g.W.SwapStore c.args.self.now c.requires.sound (place_after c.args.first c.args.i)
    (omega (arith, c.in-None.ensures)) c.args.right
