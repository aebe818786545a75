-- The events of the load of `demo`, the machine on which they are played, and its history.
use Rattle.std.specs.Prelude.{ℕ, ◌+◌, ◌*◌, ◌%◌, List, None, map}
use Rattle.std.specs.List.{range_with_len}
use Rattle.boot_plan.specs.FirstPages.{plan_of}
use Rattle.boot_plan.specs.declared.plans.BootPlan.{BootPlan}
use Rattle.xk_base.specs.declared.events.Event.{Event}
use Rattle.xk_base.specs.declared.events.Event.TheVariants.{Tick}
use Rattle.machine_model.specs.State.Machine.{Machine}
use Rattle.xk_base.specs.declared.limits.TheConstants.{DEFAULT_STEPS}
use Rattle.machine_laws.specs.History.{History, history}
use Rattle.xk_kernel.specs.Start.{start}
use Rattle.demo_load.specs.Image.{load_args, load_image}
use Rattle.demo_load.specs.declared.TheConstants.{CLIENT_LIMIT}

-- the steps of the tick at this place, counted from 0
abbrev pub tick_at : ℕ → ℕ
tick_at i = 1 + (7 * i) % 13

-- so many events from the first on
unfoldable pub first_events : ℕ → List Event
first_events count = map (λ i. Tick (tick_at i)) (range_with_len 0 count)

-- a thousand for each client
abbrev pub load_events : ℕ → List Event
load_events clients = first_events (1000 * clients)

-- no tick has more than 13 steps, so that the events of 31 clients have at most so many
abbrev pub most_steps : ℕ
most_steps = 13 * (1000 * CLIENT_LIMIT)

-- the plan of the image, without slots, and the machine that it boots
abbrev pub load_plan : ℕ → BootPlan
load_plan clients = plan_of (load_args clients) None

abbrev pub load_machine : ℕ → Machine
load_machine clients = start (load_plan clients) (load_image clients)

-- the history of the load, up to the step limit of a call that names none
abbrev pub load_history : ℕ → History
load_history clients = history (load_events clients) DEFAULT_STEPS (load_machine clients)
