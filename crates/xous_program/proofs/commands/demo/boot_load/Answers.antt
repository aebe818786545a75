use Rattle.std.proofs.Common.{◌≡◌, ◌∙◌, ap, ℕ, List, None}
use Rattle.boot_plan.specs.declared.plans.BootPlan.{BootPlan}
use Rattle.vm_memory.specs.Memory.{size}
use Rattle.xk_kernel.specs.Start.{start}
use Rattle.event_player.specs.Gathering.{Text, put}
use Rattle.demo_load.specs.Events.{load_machine, load_plan}
use Rattle.xous_program.specs.Outcome.Sides.{store_side}
use Rattle.xous_program.specs.Outcome.Starts.{Stops}
use Rattle.event_player.specs.Standing.{Begins, stand}
use Rattle.event_player.proofs.Playing.StandingLemmas.{no_slots_trusted}
use Rattle.xous_program.proofs.Images.StartingLemmas.{both_ok, if_err, load_starts, load_stops}
use Rattle.xous_program.proofs.commands.demo.boot_load.Goals as goal

pub returns-in-Ok-clause-booted : goal.returns-in-Ok-clause-booted
returns-in-Ok-clause-booted g c =
    let load = c.in-Ok.load in
    let bytes : List ℕ = c.as_slice.result.now in
    both_ok c.start_run.result
    (λ k. (text : Text) → Begins (start load.plan bytes) (stand g.W.SwapStore k text))
    (λ k. (size k.mem).slots ≡ load.plan.slots)
    _
    (λ k begins slots.
    (begins (put None)).trusted (no_slots_trusted g.W.SwapStore k (slots ∙ ap (λ (p : BootPlan). p.slots) c.in-Ok.ensures.planned))
    ∙ load_starts c.args.clients load.plan bytes c.in-Ok.ensures.planned (c.as_slice.ensures ∙ c.in-Ok.ensures.image))
    c.start_run.ensures.begins c.start_run.ensures.slots

pub returns-in-Ok-clause-stopped : goal.returns-in-Ok-clause-stopped
returns-in-Ok-clause-stopped g c =
    let load = c.in-Ok.load in
    let bytes : List ℕ = c.as_slice.result.now in
    let there = load_starts c.args.clients load.plan bytes c.in-Ok.ensures.planned (c.as_slice.ensures ∙ c.in-Ok.ensures.image) in
    if_err c.start_run.result
    (λ e. Stops load.plan None (start load.plan bytes) (store_side g.W.SwapStore c.args.store e.store) e.status)
    _
    (λ e stopped. load_stops (start load.plan bytes) (load_machine c.args.clients) load.plan (load_plan c.args.clients)
    (store_side g.W.SwapStore c.args.store e.store) e.status there c.in-Ok.ensures.planned stopped)
    c.start_run.ensures.stopped
