use Rattle.std.proofs.Common.{◌+◌, ◌<◌, sym, ◌∙◌, arith}
use Rattle.swap_map.proofs.ExchangeLemmas.{on_err}
use Rattle.vm_memory.specs.Memory.{frames_for_pages}
use Rattle.vm_memory.proofs.Changing.CallLemmas.{alone-no_more, alone-none_out, none_out-kept}
use Rattle.vm_memory.proofs.Changing.CrowdedLemmas.{near_made}
use Rattle.vm_memory.proofs.memory.Memory.make_run.Goals as goal

pub returns-then-near-clause-made : goal.returns-then-near-clause-made
returns-then-near-clause-made g c = near_made g.W.SwapStore c.args.self.now c.make_pages.new.self c.args.first c.args.n c.args.right
    c.make_pages.ensures.sound c.make_pages.ensures.ledger c.make_pages.ensures.rest
    (none_out-kept c.make_pages.new.self c.args.self.now (λ s free. sym (c.make_pages.ensures.slots s) ∙ free))

pub returns-then-near-clause-near : goal.returns-then-near-clause-near
returns-then-near-clause-near g c = λ few none. alone-none_out c.args.self.now c.make_pages.new.self c.make_pages.ensures.rest none

pub returns-then-near-clause-first : goal.returns-then-near-clause-first
returns-then-near-clause-first g c = record {
  count = c.args.n;
  few = omega arith;
  made = near_made g.W.SwapStore c.args.self.now c.make_pages.new.self c.args.first c.args.n c.args.right
      c.make_pages.ensures.sound c.make_pages.ensures.ledger c.make_pages.ensures.rest
      (none_out-kept c.make_pages.new.self c.args.self.now (λ s free. sym (c.make_pages.ensures.slots s) ∙ free));
}

pub returns-then-near-clause-usable : goal.returns-then-near-clause-usable
returns-then-near-clause-usable g c = c.make_pages.ensures.rest.failed ∙ c.requires.usable

pub returns-clause-full : goal.returns-clause-full
returns-clause-full g c = on_err c.make_crowded.result (frames_for_pages c.args.self.now < c.args.self.now.pages + c.args.n) (omega (arith, c.if-near.false, c.page_frames.ensures))

pub returns-clause-near : goal.returns-clause-near
returns-clause-near g c = λ few none. absurd (omega (arith, few, c.if-near.false, c.page_frames.ensures))

pub returns-then-near-clause-no_more : goal.returns-then-near-clause-no_more
returns-then-near-clause-no_more g c = λ few. alone-no_more c.args.self.now c.make_pages.new.self c.make_pages.ensures.rest

pub returns-clause-no_more : goal.returns-clause-no_more
returns-clause-no_more g c = λ few. absurd (omega (arith, few, c.if-near.false, c.page_frames.ensures))
