use Rattle.std.proofs.Common.{◌∙◌, ap, inr, sym, subst, ℕ, true, List, length, None}
use Rattle.boot_plan.specs.declared.plans.BootPlan.{BootPlan}
use Rattle.boot_plan.specs.declared.plans.ProcPlan.{ProcPlan}
use Rattle.suspend_image.specs.Sheets.{SheetBytes}
use Rattle.vm_memory.specs.Memory.{store_of}
use Rattle.xk_kernel.specs.Start.{start}
use Rattle.xous_program.specs.Outcome.Sides.{Prepares, store_side}
use Rattle.xous_program.specs.Outcome.Starts.{Stops, room_of}
use Rattle.xous_program.proofs.Images.StartingLemmas.{image_of}
use Rattle.xous_program.proofs.Outcome.SuspendLemmas.{if_error, sheet_room}
use Rattle.xous_program.proofs.commands.suspend.boot_with_sheet.Goals as goal

pub returns-in_err-kernel-clause-ends : goal.returns-in_err-kernel-clause-ends
returns-in_err-kernel-clause-ends g c = λ out unwritten.
    let planned = c.in-Ok.planned in
    let is = c.in-Ok.ensures in
    let bytes : List ℕ = c.as_slice.result.now in
    let image = image_of (g.H.Host.file c.args.host.now) c.args.suspend.image.now planned.bytes.items bytes c.args.suspend.slots planned.args
    planned.plan is.read is.image is.planned c.as_slice.ensures.value in
    let e = c.in_err-kernel.field-0.0 in
    let S : BootPlan → Type 0 = λ p. Stops p None (start planned.plan bytes)
    (store_side g.W.SwapStore c.args.store e.store) e.status in
    if_error c.from_residual.result _ e c.from_residual.ensures.1
    (inr (record {
      asked = is.picked;
      machine = start planned.plan bytes;
      image = image;
      stopped = subst S is.planned c.in_err-kernel.ensures.stopped;
      unwritten = unwritten;
    }))

pub returns-in-Ok-new-clause-booted : goal.returns-in-Ok-new-clause-booted
returns-in-Ok-new-clause-booted g c =
    let planned = c.in-Ok.planned in
    let is = c.in-Ok.ensures in
    let bytes : List ℕ = c.as_slice.result.now in
    let image = image_of (g.H.Host.file c.args.host.now) c.args.suspend.image.now planned.bytes.items bytes c.args.suspend.slots planned.args
    planned.plan is.read is.image is.planned c.as_slice.ensures.value in
    let k = c.in_ok-kernel.kernel in
    let starts = c.in_ok-kernel.ensures in
    let P : ℕ → Type 0 = λ n. Prepares
    (store_side g.W.SwapStore c.args.store (store_of k.mem)) n None true in (
      start planned.plan bytes,
      starts.begins,
      record {
        image = image;
        room = starts.room ∙ ap room_of is.planned;
        slots = starts.slots ∙ ap (λ (p : BootPlan). p.slots) is.planned;
        prepared = subst P (sym starts.slots) starts.prepared;
      },
    )

pub returns-in-Ok-new-clause-sheet : goal.returns-in-Ok-new-clause-sheet
returns-in-Ok-new-clause-sheet g c =
    sheet_room g.W.SwapStore.held c.in_ok-kernel.kernel c.in-Ok.planned.plan _ _ c.in-Ok-new.sheet.room c.in_ok-kernel.ensures.room
    c.in_ok-kernel.ensures.slots (ap (λ (rows : List ProcPlan). length rows) c.as_slice-2.ensures) c.cap.ensures
    (ap (λ (sheet : SheetBytes). sheet.room) c.in-Ok-new.ensures)

pub returns-clause-ends : goal.returns-clause-ends
returns-clause-ends g c = λ out unwritten.
    let planned = c.in-Ok.planned in
    let is = c.in-Ok.ensures in
    let bytes : List ℕ = c.as_slice.result.now in
    let image = image_of (g.H.Host.file c.args.host.now) c.args.suspend.image.now planned.bytes.items bytes c.args.suspend.slots planned.args
    planned.plan is.read is.image is.planned c.as_slice.ensures.value in
    let P : g.row.W.Denot → BootPlan → Type 0 = λ store plan. Prepares
    (store_side g.W.SwapStore c.args.store store) plan.slots None true in
    inr (record {
      asked = is.picked;
      machine = start planned.plan bytes;
      image = image;
      stopped = inr (subst (P c.close.result) is.planned (subst (λ store. P store planned.plan) (sym c.close.ensures) c.in_ok-kernel.ensures.prepared));
      unwritten = unwritten;
    })
