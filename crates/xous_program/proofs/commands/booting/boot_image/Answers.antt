use Rattle.std.proofs.Common.{◌≡◌, ◌∙◌, ap, inr, sym, subst, ℕ, true, List}
use Rattle.std.specs.Option.{option_copied}
use Rattle.boot_plan.specs.declared.plans.BootPlan.{BootPlan}
use Rattle.vm_memory.specs.Memory.{size, store_of}
use Rattle.xk_kernel.specs.Start.{start}
use Rattle.event_player.specs.Gathering.{Text}
use Rattle.xous_program.specs.Outcome.Sides.{Prepares, store_side}
use Rattle.xous_program.specs.Outcome.Starts.{Stops, room_of}
use Rattle.event_player.specs.Standing.{Begins, room_in, stand}
use Rattle.xous_program.proofs.Images.StartingLemmas.{all_ok, if_err, image_of}
use Rattle.xous_program.proofs.commands.booting.boot_image.Goals as goal

pub returns-in-Ok-clause-booted : goal.returns-in-Ok-clause-booted
returns-in-Ok-clause-booted g c =
    let planned = c.in-Ok.planned in
    let is = c.in-Ok.ensures in
    let bytes : List ℕ = c.as_slice.result.now in
    let image = image_of (g.H.Host.file c.args.host.now) c.args.play.image.now planned.bytes.items bytes c.args.play.slots planned.args planned.plan is.read is.image is.planned c.as_slice.ensures.value in
    all_ok c.start_run.result
    (λ k. (text : Text) → Begins (start planned.plan bytes) (stand g.W.SwapStore k text))
    (λ k. room_in k ≡ room_of planned.plan)
    (λ k. (size k.mem).slots ≡ planned.plan.slots)
    (λ k. Prepares (store_side g.W.SwapStore c.args.store (store_of k.mem)) planned.plan.slots (option_copied c.args.play.store) true)
    _
    (λ k begins room slots prepared. (
      start planned.plan bytes,
      begins,
      record {
        image = image;
        room = room ∙ ap room_of is.planned;
        slots = slots ∙ ap (λ (p : BootPlan). p.slots) is.planned;
        prepared = (let P : ℕ → Type 0 = λ n. Prepares (store_side g.W.SwapStore c.args.store (store_of k.mem)) n (option_copied c.args.play.store) true in
            subst P (sym slots) prepared);
      },
    ))
    c.start_run.ensures.begins c.start_run.ensures.room c.start_run.ensures.slots c.start_run.ensures.prepared

pub returns-in-Ok-clause-ends : goal.returns-in-Ok-clause-ends
returns-in-Ok-clause-ends g c = λ out unwritten.
    let planned = c.in-Ok.planned in
    let is = c.in-Ok.ensures in
    let bytes : List ℕ = c.as_slice.result.now in
    let image = image_of (g.H.Host.file c.args.host.now) c.args.play.image.now planned.bytes.items bytes c.args.play.slots planned.args planned.plan is.read is.image is.planned c.as_slice.ensures.value in
    if_err c.start_run.result
    (λ e. Stops planned.plan (option_copied c.args.play.store) (start planned.plan bytes) (store_side g.W.SwapStore c.args.store e.store) e.status)
    _
    (λ e stopped. inr (record {
      asked = is.picked;
      machine = start planned.plan bytes;
      image = image;
      stopped = (let S : BootPlan → Type 0 = λ p. Stops p (option_copied c.args.play.store) (start planned.plan bytes) (store_side g.W.SwapStore c.args.store e.store) e.status in
          subst S is.planned stopped);
      unwritten = unwritten;
    }))
    c.start_run.ensures.stopped
