use Rattle.std.proofs.Common.{sym}
use Rattle.sv32_space.proofs.RunLemmas.{remove_none}
use Rattle.vm_memory.specs.Memory.{ledger}
use Rattle.vm_memory.proofs.Changing.LoopLemmas.{next_not_lent, next_removed, rest_same, rest_then}
use Rattle.vm_memory.proofs.memory.Memory.drop_pages.Goals as goal

pub loop-i-init : goal.loop-i-init
loop-i-init g c = record {
  sound = c.requires.sound;
  ledger = sym (remove_none c.args.first (ledger g.W.SwapStore.held c.args.self.now));
  rest = rest_same c.args.self.now;
  seats = λ s free. free;
}

pub drop_above-requires-clause-not_lent : goal.drop_above-requires-clause-not_lent
drop_above-requires-clause-not_lent g c =
    next_not_lent g.W.SwapStore c.args.self.now c.loop-i.self c.loop-i.invariant.sound c.loop-i.invariant.rest c.args.first c.args.n c.loop-i.i
    c.loop-i-test.true c.requires.not_lent c.loop-i.invariant.ledger

pub loop-i-preserved : goal.loop-i-preserved
loop-i-preserved g c = record {
  sound = c.drop_above.ensures.sound;
  ledger = next_removed g.W.SwapStore c.args.self.now c.loop-i.self c.loop-i.invariant.sound c.loop-i.invariant.rest c.args.first c.args.n c.loop-i.i
      c.loop-i-test.true c.requires.not_lent c.loop-i.invariant.ledger c.drop_above.new.self c.drop_above.ensures.ledger;
  rest = rest_then c.args.self.now c.loop-i.self c.drop_above.new.self c.loop-i.invariant.rest c.drop_above.ensures.rest;
  seats = λ s free. c.drop_above.ensures.seats s (c.loop-i.invariant.seats s free);
}
