use Rattle.std.proofs.Common.{◌≡◌, ◌+◌, subst, arith}
use Rattle.ledger_model.specs.Places.{place_after}
use Rattle.vm_memory.specs.Memory.{processes}
use Rattle.vm_memory.specs.Pages.Making.{MakesPages}
use Rattle.vm_memory.proofs.Changing.CrowdedLemmas.{crowded_free, crowded_lies, crowded_room, more_made, none_made}
use Rattle.vm_memory.proofs.Changing.LoopLemmas.{user_bound}
use Rattle.vm_memory.proofs.memory.Memory.make_crowded.Goals as goal

pub loop-i-init : goal.loop-i-init
loop-i-init g c = record {
  made = none_made g.W.SwapStore c.args.self.now c.requires.sound c.args.first c.args.right;
  usable = c.requires.usable;
}

pub overflow_add-at : goal.overflow_add-at
overflow_add-at g c = omega (
  arith,
  user_bound (processes c.loop-i.self) (place_after c.args.first c.loop-i.i)
      (crowded_lies g.W.SwapStore c.args.self.now c.loop-i.self c.args.first c.args.n c.loop-i.i c.loop-i-test.true c.args.right c.requires.can c.loop-i.invariant.made),
)

pub make_page-requires-clause-place : goal.make_page-requires-clause-place
make_page-requires-clause-place g c = crowded_lies g.W.SwapStore c.args.self.now c.loop-i.self c.args.first c.args.n c.loop-i.i c.loop-i-test.true c.args.right c.requires.can c.loop-i.invariant.made

pub make_page-requires-clause-free : goal.make_page-requires-clause-free
make_page-requires-clause-free g c = crowded_free g.W.SwapStore c.args.self.now c.loop-i.self c.args.first c.args.n c.loop-i.i c.loop-i-test.true c.args.right c.requires.can c.loop-i.invariant.made

pub make_page-requires-clause-room : goal.make_page-requires-clause-room
make_page-requires-clause-room g c = crowded_room g.W.SwapStore c.args.self.now c.loop-i.self c.args.first c.args.n c.loop-i.i c.loop-i-test.true c.args.right c.requires.can c.loop-i.invariant.made

pub loop-i-preserved : goal.loop-i-preserved
loop-i-preserved g c = record {
  made = more_made g.W.SwapStore c.args.self.now c.loop-i.self c.make_page.new.self c.args.first c.loop-i.i c.args.right c.loop-i.invariant.made c.make_page.ensures.made;
  usable = c.in_ok-make_page.ensures.usable;
}

pub returns-in_err-make_page-clause-first : goal.returns-in_err-make_page-clause-first
returns-in_err-make_page-clause-first g c = record {
  count = c.loop-i.i + 1;
  few = omega (arith, c.loop-i-test.true);
  made = more_made g.W.SwapStore c.args.self.now c.loop-i.self c.make_page.new.self c.args.first c.loop-i.i c.args.right c.loop-i.invariant.made c.make_page.ensures.made;
}

pub returns-clause-first : goal.returns-clause-first
returns-clause-first g c = record { count = c.loop-i.i; few = omega arith; made = c.loop-i.invariant.made }

pub returns-clause-made : goal.returns-clause-made
returns-clause-made g c =
    let all : c.loop-i.i ≡ c.args.n = omega arith in
    subst (λ k. MakesPages g.W.SwapStore c.args.self.now c.loop-i.self c.args.first k c.args.right) all c.loop-i.invariant.made
