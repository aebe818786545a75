use Rattle.std.proofs.Common.{arith, ◌∙◌, sym, ap}
use Rattle.sv32_space.specs.Walk.{walk_of}
use Rattle.vm_memory.proofs.Using.WalkTargetLemmas.{walk-fault, walk-page, walk-console, walk-bound}
use Rattle.vm_memory.proofs.memory.Memory.find.Goals as goal

pub overflow_cast-pa : goal.overflow_cast-pa
overflow_cast-pa g c = omega (
  arith,
  walk-bound g.W.SwapStore.slot_count c.args.self.now c.requires.sound c.args.pid c.args.va c.args.access (omega arith)
      (sym c.has_process.ensures ∙ c.if-not-has_process.false) c.in-Reaches.pa
      (sym (ap (λ r. walk_of c.args.self.now.ram r c.args.va c.args.access) c.root_of.ensures) ∙ sym c.walk.ensures.is ∙ c.in-Reaches.is),
)

pub returns-in-PageFault : goal.returns-in-PageFault
returns-in-PageFault g c = walk-fault g.W.SwapStore.slot_count c.args.self.now c.requires.sound c.args.pid c.args.va c.args.access (omega arith)
    (sym c.has_process.ensures ∙ c.if-not-has_process.false)
    (sym (ap (λ r. walk_of c.args.self.now.ram r c.args.va c.args.access) c.root_of.ensures) ∙ sym c.walk.ensures.is ∙ c.in-PageFault.is)

pub returns-in-Some : goal.returns-in-Some
returns-in-Some g c = walk-page g.W.SwapStore.slot_count c.args.self.now c.requires.sound c.args.pid c.args.va c.args.access (omega arith)
    (sym c.has_process.ensures ∙ c.if-not-has_process.false) c.in-Reaches.pa c.in-Some.f
    (sym (ap (λ r. walk_of c.args.self.now.ram r c.args.va c.args.access) c.root_of.ensures) ∙ sym c.walk.ensures.is ∙ c.in-Reaches.is)
    (sym c.frame_of.ensures.answer ∙ c.in-Some.is)

pub returns-in-None : goal.returns-in-None
returns-in-None g c = walk-console g.W.SwapStore.slot_count c.args.self.now c.requires.sound c.args.pid c.args.va c.args.access (omega arith)
    (sym c.has_process.ensures ∙ c.if-not-has_process.false) c.in-Reaches.pa
    (sym (ap (λ r. walk_of c.args.self.now.ram r c.args.va c.args.access) c.root_of.ensures) ∙ sym c.walk.ensures.is ∙ c.in-Reaches.is)
    (sym c.frame_of.ensures.answer ∙ c.in-None.is)
