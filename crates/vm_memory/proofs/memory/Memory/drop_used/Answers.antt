use Rattle.std.proofs.Common.{◌≡◌, ◌+◌, ◌-◌, sym, ap, ◌∙◌, arith}
use Rattle.ledger_model.specs.Places.{in_run, is_user_place, place_after}
use Rattle.ledger_model.specs.Steps.{remove}
use Rattle.sv32_space.proofs.RunLemmas.{remove_none}
use Rattle.vm_memory.specs.Memory.{Size, ledger}
use Rattle.vm_memory.proofs.Changing.ForgettingLemmas.{no_loan_after}
use Rattle.vm_memory.proofs.Changing.FreePlaceLemmas.{remove_more}
use Rattle.vm_memory.proofs.Changing.LoopLemmas.{rest_same, rest_then}
use Rattle.vm_memory.proofs.memory.Memory.drop_used.Goals as goal

pub places-init : goal.places-init
places-init g c = record {
  within = omega arith;
  sound = c.requires.sound;
  ledger = sym (remove_none c.args.first (ledger g.W.SwapStore.held c.args.self.now));
  rest = rest_same c.args.self.now;
  seats = λ s free. free;
}

pub drop_next-done-requires-clause-lie : goal.drop_next-done-requires-clause-lie
drop_next-done-requires-clause-lie g c i low =
    ap (λ (s : Size). is_user_place s.procs (place_after c.args.first i)) c.places.invariant.rest.size ∙ c.requires.lie i low

pub drop_next-done-requires-clause-no_loan : goal.drop_next-done-requires-clause-no_loan
drop_next-done-requires-clause-no_loan g c =
    no_loan_after (ledger g.W.SwapStore.held c.args.self.now) (ledger g.W.SwapStore.held c.places.self) c.args.first.pid _ c.places.invariant.ledger c.requires.no_loan

pub places-preserved : goal.places-preserved
places-preserved g c =
    let low = c.places.done in
    let high = c.drop_next-done.result in
    let further = c.drop_next-done.ensures.further in
    let sum : low + (high - low) ≡ high = omega (arith, further) in
    record {
      within = c.drop_next-done.ensures.within;
      sound = c.drop_next-done.ensures.sound;
      ledger = c.drop_next-done.ensures.ledger
          ∙ ap (remove (in_run (place_after c.args.first low) (high - low))) c.places.invariant.ledger
          ∙ remove_more c.args.first low (high - low) (ledger g.W.SwapStore.held c.args.self.now)
          ∙ ap (λ n. remove (in_run c.args.first n) (ledger g.W.SwapStore.held c.args.self.now)) sum;
      rest = rest_then c.args.self.now c.places.self c.drop_next-done.new.self c.places.invariant.rest c.drop_next-done.ensures.rest;
      seats = λ s free. c.drop_next-done.ensures.seats s (c.places.invariant.seats s free);
    }

pub places-smaller : goal.places-smaller
places-smaller g c =
    let further = c.drop_next-done.ensures.further in
    let within = c.drop_next-done.ensures.within in
    omega (arith, further, within)

pub returns-clause-ledger : goal.returns-clause-ledger
returns-clause-ledger g c =
    let all : c.places.done ≡ c.args.n = let within = c.places.invariant.within in omega (arith, within, c.places-test.false) in
    c.places.invariant.ledger ∙ ap (λ n. remove (in_run c.args.first n) (ledger g.W.SwapStore.held c.args.self.now)) all
