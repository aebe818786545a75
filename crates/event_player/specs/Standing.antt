-- Where a run stands, from one event to the next, and what is known of it.
use Rattle.xk_ports.specs.declared.store.SwapStore.{Ghosts as SwapStore}
use Rattle.std.specs.Prelude.{◌≡◌, ◌⊎◌, Bool, true}
use Rattle.machine_model.specs.State.Machine.{Machine}
use Rattle.vm_memory.specs.Bytes.{none_out}
use Rattle.vm_memory.specs.Memory.{frames_for_pages, processes}
use Rattle.xk_kernel.specs.Knowing.{is_trusted}
use Rattle.xk_kernel.specs.State.{machine_of}
use Rattle.xk_kernel.specs.declared.kernel.Kernel.{Kernel}
use Rattle.event_player.specs.Gathering.{Text}
use Rattle.event_player.specs.Rooms.{IsFull, Room}

-- A run stands so: whether its kernel is trusted, as its store is honest and tells what its slots hold, or it has no slots; whether none of
-- its pages is out; the room for pages in RAM; the machine that the kernel stands for; and what stands on the sink and is held for it.
pub record Stand : Type 0 where
  pub trusted : Bool
  pub near : Bool
  pub room : Room
  pub machine : Machine
  pub text : Text

-- the room for pages in the RAM of a kernel
abbrev pub room_in : {W : Type 0} → Kernel W → Room
room_in kernel = record { frames = frames_for_pages kernel.mem; processes = processes kernel.mem }

abbrev pub stand : {W : Type 0} → SwapStore W → Kernel W → Text → Stand
stand S kernel text = record {
  trusted = is_trusted S kernel;
  near = none_out kernel.mem;
  room = room_in kernel;
  machine = machine_of S.held kernel;
  text = text;
}

-- A run stands at its start: the machine is the start where the kernel is trusted; and it is so without trust, and no page is out, unless
-- the start has more pages than there are frames for.
pub record Begins (start : Machine) (now : Stand) : Type 0 where
  pub trusted : now.trusted ≡ true → now.machine ≡ start
  pub near : ((now.near ≡ true) × (now.machine ≡ start)) ⊎ IsFull now.room start
