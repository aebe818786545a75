use Rattle.std.proofs.Common.{◌≤◌, ◌∙◌, ℕ, ap, arith, refl, subst}
use Rattle.order_model.specs.Asking.{asked_of}
use Rattle.suspend_image.specs.Sheets.{SheetBytes}
use Rattle.suspend_image.specs.StateBytes.{saved_bytes}
use Rattle.order_search.proofs.FaultLemmas.{beyond_near}
use Rattle.order_search.proofs.KeyLemmas.{bounded, long_enough, spellable_of, spelled_of, told_of}
use Rattle.xk_base.specs.declared.limits.TheConstants.{STEP_LIMIT}
use Rattle.order_search.proofs.quest.Quest.key.Goals as goal

pub node_key-requires : goal.node_key-requires
node_key-requires c = record {
  long = long_enough c.save.new.sheet.bytes _
      (ap (λ (sheet : SheetBytes). sheet.bytes) (c.in-Ok.ensures.saved refl) ∙ ap saved_bytes (c.save.ensures.machine.whole refl));
}

pub returns-then-steps-gt-STEP_LIMIT-clause-fault : goal.returns-then-steps-gt-STEP_LIMIT-clause-fault
returns-then-steps-gt-STEP_LIMIT-clause-fault c =
    beyond_near (asked_of c.args.self.now.subject.orders) c.args.run.now.kernel c.args.run.now.trail c.steps.result c.requires.sound
    c.steps.ensures (omega (arith, c.if-steps-gt-STEP_LIMIT.true))

pub returns-in-Ok-node_key-clause-key : goal.returns-in-Ok-node_key-clause-key
returns-in-Ok-node_key-clause-key c =
    let within : c.steps.result ≤ STEP_LIMIT = omega (arith, c.if-steps-gt-STEP_LIMIT.false) in
    record {
      is = c.in-Ok-node_key.ensures.key (asked_of c.args.self.now.subject.orders) _
          (told_of (asked_of c.args.self.now.subject.orders) _ _ _ _ _ c.save.new.sheet.bytes c.deref.result.now c.deref-2.result.now
          c.is_some-counts.result
          (ap (λ (sheet : SheetBytes). sheet.bytes) (c.in-Ok.ensures.saved refl) ∙ ap saved_bytes (c.save.ensures.machine.whole refl))
          (c.is_some-counts.ensures ∙ bounded c.args.self.now.subject.orders.bound)
          (c.deref.ensures.value ∙ c.in-Ok-beside_bytes.ensures.bytes) c.requires.came c.deref-2.ensures.value);
      spelled = spelled_of (asked_of c.args.self.now.subject.orders) _ _ _ _ _
          (spellable_of _ _ (c.save.ensures.machine.whole refl) (c.requires.sound.matched c.requires.usable)
          (subst (λ (n : ℕ). n ≤ STEP_LIMIT) c.steps.ensures within) c.requires.reserved c.in-Ok.ensures.saveable)
          c.requires.came c.beside_bytes.ensures.word c.beside_bytes.ensures.told;
    }
