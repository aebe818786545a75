use Rattle.std.proofs.Common.{◌≡◌, ◌≤◌, ◌∙◌, sym, ap, subst, ℕ, List}
use Rattle.machine_model.specs.State.Machine.{Machine}
use Rattle.suspend_image.specs.Saveable.{IsSaveable}
use Rattle.suspend_image.specs.Sheets.{SheetBytes}
use Rattle.suspend_image.specs.StateBytes.{saved_bytes}
use Rattle.xk_kernel.specs.State.{machine_of}
use Rattle.xk_ports.specs.Told.{Grows, GrowsByProperPrefix}
use Rattle.machine_laws.specs.Reserved.{IsReservedByThread}
use Rattle.xous_program.proofs.commands.suspend.save_state.Goals as goal

pub returns-in-Ok-put_all-clause-saved : goal.returns-in-Ok-put_all-clause-saved
returns-in-Ok-put_all-clause-saved g c = λ means known.
    let held = g.W.SwapStore.held in
    let old : Machine = machine_of held c.args.kernel.now in
    let new : Machine = machine_of held c.save.new.self in
    let same : new ≡ old = c.save.ensures.machine.whole means in
    let within : new.steps ≤ 4000000000 = subst (λ (m : Machine). m.steps ≤ 4000000000) (sym same) c.requires.within in
    let bytes : c.as_slice.result.now ≡ saved_bytes old =
    c.as_slice.ensures ∙ ap (λ (sheet : SheetBytes). sheet.bytes) (c.in-Ok.ensures.saved means) ∙ ap saved_bytes same in
    let G : List ℕ → Type 0 = λ b. Grows (g.K.Sink.written c.args.out.now) (g.K.Sink.written c.put_all.new.out) b in (
      record {
        matched = c.requires.sound.matched c.requires.usable;
        saveable = subst IsSaveable same (c.in-Ok.ensures.saveable within (subst IsReservedByThread (sym same) known));
      },
      subst G bytes c.in-Ok-put_all.ensures.appended,
    )

pub returns-in-Err-clause-saved : goal.returns-in-Err-clause-saved
returns-in-Err-clause-saved g c = λ means known.
    let held = g.W.SwapStore.held in
    let old : Machine = machine_of held c.args.kernel.now in
    let new : Machine = machine_of held c.save.new.self in
    let same : new ≡ old = c.save.ensures.machine.whole means in
    let bytes : c.as_slice.result.now ≡ saved_bytes old =
    c.as_slice.ensures ∙ ap (λ (sheet : SheetBytes). sheet.bytes) (c.in-Ok.ensures.saved means) ∙ ap saved_bytes same in
    let G : List ℕ → Type 0 = λ b. GrowsByProperPrefix (g.K.Sink.written c.args.out.now) (g.K.Sink.written c.put_all.new.out) b in
    subst G bytes c.in-Err.ensures.front

pub returns-in-Ok-put_all-clause-stays : goal.returns-in-Ok-put_all-clause-stays
returns-in-Ok-put_all-clause-stays g c = λ ends. (c.in-Ok.ensures.usable, c.save.ensures.machine.whole)
