-- How a call of `demo` ends.
use Rattle.std.specs.Prelude.{◌≡◌, ◌⊎◌, ℕ, true, None}
use Rattle.xk_base.specs.declared.limits.TheConstants.{DEFAULT_STEPS}
use Rattle.machine_laws.specs.HistoryMoments.{moments_of}
use Rattle.xk_ports.specs.Told.{Grows, GrowsByProperPrefix}
use Rattle.program_status.specs.declared.status.Status.{Status}
use Rattle.program_status.specs.declared.status.Status.TheVariants.{Done, WriteFault}
use Rattle.program_status.specs.declared.status.Status.TheVariants.{SwapFault}
use Rattle.demo_load.specs.Events.{load_events, load_history, load_machine, load_plan}
use Rattle.demo_load.specs.Totals.{demo_line, totals_of}
use Rattle.xous_program.specs.Outcome.Sides.{Call, OutRose, Prepares, StoreRose, StoreSide}
use Rattle.program_status.specs.Notes.{SinkSide}
use Rattle.event_player.specs.Rooms.{ComesFull}
use Rattle.xous_program.specs.Outcome.Starts.{Stops, room_of}

-- The load of so many clients was played, in a run without slots, and what was written, by the status: the line that sums up its history, a
-- proper part of it, or nothing, where the store failed: its count rose, and some state of the run has more pages than there are frames for.
abbrev pub TellsDemo : ℕ → SinkSide → StoreSide → Status → Type 0
TellsDemo clients out store Done = Grows out.written out.written_after (demo_line clients (totals_of (load_history clients).records))
TellsDemo clients out store WriteFault =
    GrowsByProperPrefix out.written out.written_after (demo_line clients (totals_of (load_history clients).records))
TellsDemo clients out store SwapFault =
    StoreRose store
    × ComesFull (room_of (load_plan clients)) (load_machine clients) (moments_of (load_events clients) DEFAULT_STEPS (load_machine clients))
    × (out.written_after ≡ out.written)
TellsDemo clients out store _ = ⊥

-- the load isn't played, and nothing was written
pub record DemoUnstarted (clients : ℕ) (out : SinkSide) (store : StoreSide) (status : Status) : Type 0 where
  pub stopped : Stops (load_plan clients) None (load_machine clients) store status
  pub unwritten : out.written_after ≡ out.written

-- the load is played
pub record DemoPlayed (clients : ℕ) (out : SinkSide) (store : StoreSide) (status : Status) : Type 0 where
  pub prepared : Prepares store 0 None true
  pub content : TellsDemo clients out store status

abbrev pub Demonstrates : ℕ → SinkSide → StoreSide → Status → Type 0
Demonstrates clients out store status = DemoUnstarted clients out store status ⊎ DemoPlayed clients out store status

-- no file is asked for
pub record EndsDemo (clients : ℕ) (call : Call) : Type 0 where
  pub asked : call.host.asked_after ≡ call.host.asked
  pub host_faults : call.host.faults_after ≡ call.host.faults
  pub cause : call.status ≡ WriteFault → OutRose call
  pub content : Demonstrates clients call.out call.store call.status
