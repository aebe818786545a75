use Rattle.std.proofs.Common.{[], ◌∷◌, refl, ◌∙◌}
use Rattle.xk_base.specs.declared.records.What.TheVariants.{Reply}
use Rattle.xk_kernel.specs.State.{machine_of}
use Rattle.xk_kernel.proofs.Acting.ThreadLemmas.{machine_of_log}
use Rattle.xk_kernel.proofs.Calling.TellingLemmas.{told_length, told_one}
use Rattle.xk_kernel.proofs.kernel.Kernel.answer.Goals as goal

-- src/kernel/threads.rt
pub returns-clause-tells : goal.returns-clause-tells
unfolding machine_of
returns-clause-tells g c =
    let held = g.W.SwapStore.held in
    let old = c.args.self.now in
    record {
      machine = machine_of_log held (record old { threads = c.answer.new.threads }) c.push.new.self
          ∙ (λ i. record (machine_of held old) { threads = c.answer.ensures.after i });
      log = told_one old.log old.log c.push.new.self (Reply c.args.id c.args.words) refl c.push.ensures;
    }

pub returns-clause-told : goal.returns-clause-told
returns-clause-told g c =
    told_length c.args.self.now.log c.push.new.self (Reply c.args.id c.args.words ∷ [])
    (told_one c.args.self.now.log c.args.self.now.log c.push.new.self (Reply c.args.id c.args.words) refl c.push.ensures)
