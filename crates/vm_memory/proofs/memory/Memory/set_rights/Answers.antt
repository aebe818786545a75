use Rattle.std.proofs.Common.{sym}
use Rattle.sv32_space.proofs.RunLemmas.{reduce_none}
use Rattle.vm_memory.specs.Memory.{ledger}
use Rattle.vm_memory.proofs.Changing.LoopLemmas.{next_not_lent_reduced, next_within, next_reduced, rest_same, rest_then}
use Rattle.vm_memory.proofs.memory.Memory.set_rights.Goals as goal

pub loop-i-init : goal.loop-i-init
loop-i-init g c = record {
  sound = c.requires.sound;
  ledger = sym (reduce_none c.args.first c.args.right (ledger g.W.SwapStore.held c.args.self.now));
  rest = rest_same c.args.self.now;
  seats = λ s free. free;
}

pub set_right_above-requires-clause-not_lent : goal.set_right_above-requires-clause-not_lent
set_right_above-requires-clause-not_lent g c =
    next_not_lent_reduced g.W.SwapStore c.args.self.now c.loop-i.self c.loop-i.invariant.sound c.loop-i.invariant.rest c.args.first c.args.n c.loop-i.i
    c.loop-i-test.true c.args.right c.requires.not_lent c.requires.within c.loop-i.invariant.ledger

pub set_right_above-requires-clause-within : goal.set_right_above-requires-clause-within
set_right_above-requires-clause-within g c =
    next_within g.W.SwapStore c.args.self.now c.loop-i.self c.loop-i.invariant.sound c.loop-i.invariant.rest c.args.first c.args.n c.loop-i.i
    c.loop-i-test.true c.args.right c.requires.not_lent c.requires.within c.loop-i.invariant.ledger

pub loop-i-preserved : goal.loop-i-preserved
loop-i-preserved g c = record {
  sound = c.set_right_above.ensures.sound;
  ledger = next_reduced g.W.SwapStore c.args.self.now c.loop-i.self c.loop-i.invariant.sound c.loop-i.invariant.rest c.args.first c.args.n c.loop-i.i
      c.loop-i-test.true c.args.right c.requires.not_lent c.requires.within c.loop-i.invariant.ledger c.set_right_above.new.self c.set_right_above.ensures.ledger;
  rest = rest_then c.args.self.now c.loop-i.self c.set_right_above.new.self c.loop-i.invariant.rest c.set_right_above.ensures.rest;
  seats = λ s free. c.set_right_above.ensures.seats s (c.loop-i.invariant.seats s free);
}
