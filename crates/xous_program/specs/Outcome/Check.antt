-- How a call of `check` ends.
use Rattle.std.specs.Prelude.{◌≡◌, ◌⊎◌, true, []}
use Rattle.boot_plan.specs.declared.plans.BootPlan.{BootPlan}
use Rattle.xk_ports.specs.declared.host.FileSlot.TheVariants.{First}
use Rattle.xk_ports.specs.Told.{Grows, GrowsByProperPrefix}
use Rattle.program_status.specs.declared.status.Status.{Status}
use Rattle.program_status.specs.declared.status.Status.TheVariants.{Done, WriteFault}
use Rattle.xous_program.specs.Outcome.Images.{EndsUnplanned, IsPlanned}
use Rattle.xous_program.specs.Outcome.Sides.{Call, OutRose}
use Rattle.program_status.specs.Notes.{SinkSide}
use Rattle.host_io.specs.Reading.{Asked, IsTold}
use Rattle.xous_program.specs.Summary.{summary_of}
use Rattle.xous_program.specs.Words.{Check}

-- what was written of the plan, by the status
abbrev pub Summarizes : BootPlan → SinkSide → Status → Type 0
Summarizes plan out Done = Grows out.written out.written_after (summary_of plan)
Summarizes plan out WriteFault = GrowsByProperPrefix out.written out.written_after (summary_of plan)
Summarizes plan out _ = ⊥

-- the image alone is asked for, and its plan is told
pub record EndsPlanned (check : Check) (call : Call) : Type 0 where
  pub asked : Asked call.host.asked call.host.asked_after First check.image true
  pub cause : call.status ≡ WriteFault → OutRose call
  pub plan : BootPlan
  pub planned : IsPlanned call.host.files check.image check.slots plan
  pub content : Summarizes plan call.out call.status
  pub image_read : call.status ≡ Done → IsTold call.host.image_left []

abbrev pub EndsCheck : Check → Call → Type 0
EndsCheck check call = EndsUnplanned check.image check.slots call ⊎ EndsPlanned check call
