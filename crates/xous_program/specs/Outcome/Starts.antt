-- A run starts: its store is prepared, and its plan is booted.
use Rattle.std.specs.Prelude.{◌≡◌, ◌⊎◌, ℕ, true, false, List, Option, length}
use Rattle.xk_base.specs.declared.events.Event.{Event}
use Rattle.boot_plan.specs.Capacity.{page_frames}
use Rattle.boot_plan.specs.declared.plans.BootPlan.{BootPlan}
use Rattle.machine_model.specs.State.Machine.{Machine}
use Rattle.machine_laws.specs.HistoryMoments.{moments_of}
use Rattle.event_player.specs.Rooms.{ComesFull, IsFull, Room}
use Rattle.program_status.specs.declared.status.Status.{Status}
use Rattle.program_status.specs.declared.status.Status.TheVariants.{SwapFault, NoMemory}
use Rattle.vm_memory.specs.declared.memory.BootError.{BootError}
use Rattle.vm_memory.specs.declared.memory.BootError.TheVariants as boot
use Rattle.xous_program.specs.Outcome.Sides.{IsTrusted, Prepares, StoreRose, StoreSide}

-- the room of a plan: the frames that no table takes, but for one that stays free for exchanges
abbrev pub room_of : BootPlan → Room
room_of plan = record { frames = page_frames plan.frames (length plan.procs); processes = length plan.procs }

-- what a run starts on: its machine, the room for its pages in RAM, and its slots
pub record Booted : Type 0 where
  pub machine : Machine
  pub room : Room
  pub slots : ℕ

-- the start of a plan
abbrev pub booted_of : BootPlan → Machine → Booted
booted_of plan machine = record { machine = machine; room = room_of plan; slots = plan.slots }

-- What the pages of a run over these events hold is known: it is trusted, or none of its states has more pages than there are frames
-- for, and then no page is ever out. On this rests what is said of the machine of a run, and of what it writes.
abbrev pub KnowsPages : StoreSide → Booted → ℕ → List Event → Type 0
KnowsPages store booted limit events =
    IsTrusted store booted.slots ⊎ (¬ ComesFull booted.room booted.machine (moments_of events limit booted.machine))

-- how a call ends whose kernel isn't made, by the cause
abbrev pub status_of : BootError → Status
status_of boot.NoMemory = NoMemory
status_of boot.SwapFault = SwapFault

-- A run of so many slots, with this room for pages in RAM, which is to start on this machine, doesn't start, by the status: there was no
-- memory, before or after the store was prepared under this name; or the store failed and its count rose, as it was prepared, or after that
-- where the start has more pages than there are frames for.
abbrev pub StopsIn : Room → ℕ → Option (List ℕ) → Machine → StoreSide → Status → Type 0
StopsIn room slots name start store NoMemory = (store.asked_after ≡ store.asked) ⊎ Prepares store slots name true
StopsIn room slots name start store SwapFault =
    StoreRose store × (Prepares store slots name false ⊎ (Prepares store slots name true × IsFull room start))
StopsIn room slots name start store _ = ⊥

-- a run of this plan doesn't start
abbrev pub Stops : BootPlan → Option (List ℕ) → Machine → StoreSide → Status → Type 0
Stops plan name start store status = StopsIn (room_of plan) plan.slots name start store status
