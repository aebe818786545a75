use Rattle.std.proofs.Common.{false, ◌<◌, ◌+◌, length, arith}
use Rattle.boot_plan.specs.declared.plans.PagePlan.{PagePlan}
use Rattle.swap_map.proofs.ExchangeLemmas.{on_err}
use Rattle.vm_memory.specs.Memory.{frames_for_pages}
use Rattle.vm_memory.proofs.Booting.ProcessPlacedLemmas.{all_placed, kept_all, kept_next, next_free, next_full, next_lies, next_placed, next_room, nothing_placed}
use Rattle.vm_memory.proofs.memory.Memory.place_process.Goals as goal

-- what a read past the end would give
abbrev other : PagePlan
other = record { vpn = record { 0 = 0 }; right = record { w = false; x = false }; from = 0; len = 0 }

pub pages-init : goal.pages-init
pages-init g c = nothing_placed g.W.SwapStore c.args.file.now c.args.pid c.args.plan.now c.args.self.now
    c.requires.sound c.requires.process c.requires.unlent c.requires.free c.requires.room c.requires.lawful c.requires.different
    c.requires.order c.requires.usable

pub place_first-requires-clause-place : goal.place_first-requires-clause-place
place_first-requires-clause-place g c = next_lies g.W.SwapStore c.args.file.now c.args.pid c.args.plan.now c.args.self.now
    c.requires.sound c.requires.process c.requires.unlent c.requires.free c.requires.room c.requires.lawful c.requires.different
    c.pages.self c.pages.k c.pages-test.true other c.pages.invariant

pub place_first-requires-clause-free : goal.place_first-requires-clause-free
place_first-requires-clause-free g c = next_free g.W.SwapStore c.args.file.now c.args.pid c.args.plan.now c.args.self.now
    c.requires.sound c.requires.process c.requires.unlent c.requires.free c.requires.room c.requires.lawful c.requires.different
    c.pages.self c.pages.k c.pages-test.true other c.pages.invariant

pub place_first-requires-clause-room : goal.place_first-requires-clause-room
place_first-requires-clause-room g c = next_room g.W.SwapStore c.args.file.now c.args.pid c.args.plan.now c.args.self.now
    c.requires.sound c.requires.process c.requires.unlent c.requires.free c.requires.room c.requires.lawful c.requires.different
    c.pages.self c.pages.k c.pages-test.true other c.pages.invariant

pub pages-preserved : goal.pages-preserved
pages-preserved g c = record {
  placed = next_placed g.W.SwapStore c.args.file.now c.args.pid c.args.plan.now c.args.self.now
      c.requires.sound c.requires.process c.requires.unlent c.requires.free c.requires.room c.requires.lawful c.requires.different
      c.pages.self c.pages.k c.pages-test.true other c.pages.invariant
      c.place_first.new.self c.place_first.ensures.placed;
  order = c.in_ok-place_first.ensures.order;
  usable = c.in_ok-place_first.ensures.usable;
}

pub returns-in_err-place_first-clause-keeps : goal.returns-in_err-place_first-clause-keeps
returns-in_err-place_first-clause-keeps g c = kept_next g.W.SwapStore c.args.file.now c.args.pid c.args.plan.now c.args.self.now
    c.requires.sound c.requires.process c.requires.unlent c.requires.free c.requires.room c.requires.lawful c.requires.different
    c.pages.self c.pages.k c.pages-test.true other c.pages.invariant
    c.place_first.new.self c.place_first.ensures.placed

pub returns-in_err-place_first-clause-full : goal.returns-in_err-place_first-clause-full
returns-in_err-place_first-clause-full g c = on_err c.from_residual.result (frames_for_pages c.args.self.now < c.args.self.now.pages + length c.args.plan.now)
    (next_full g.W.SwapStore c.args.file.now c.args.pid c.args.plan.now c.args.self.now
    c.requires.sound c.requires.process c.requires.unlent c.requires.free c.requires.room c.requires.lawful c.requires.different
    c.pages.self c.pages.k c.pages-test.true other c.pages.invariant
    c.in_err-place_first.ensures.full)

pub returns-clause-keeps : goal.returns-clause-keeps
returns-clause-keeps g c = kept_all g.W.SwapStore c.args.file.now c.args.pid c.args.plan.now c.args.self.now
    c.requires.sound c.requires.process c.requires.unlent c.requires.free c.requires.room c.requires.lawful c.requires.different
    c.pages.self c.pages.k c.pages.invariant

pub returns-clause-placed : goal.returns-clause-placed
returns-clause-placed g c = all_placed g.W.SwapStore c.args.file.now c.args.pid c.args.plan.now c.args.self.now
    c.requires.sound c.requires.process c.requires.unlent c.requires.free c.requires.room c.requires.lawful c.requires.different
    c.pages.self c.pages.k (omega arith) c.pages.invariant
