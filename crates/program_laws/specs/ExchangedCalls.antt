-- Calls that play one event file on two images of one plan, which differ in the pages of a group of processes alone.
use Rattle.std.specs.Prelude.{◌≡◌, ◌≤◌, ℕ, List, IfSome}
use Rattle.kernel_args.specs.declared.args.Args.{Args}
use Rattle.boot_plan.specs.FirstPages.{plan_of}
use Rattle.boot_plan.specs.declared.plans.BootPlan.{BootPlan}
use Rattle.event_text.specs.EventFile.{input_of}
use Rattle.noninterference_laws.specs.Inside.{Group}
use Rattle.noninterference_laws.specs.TwoInsides.{ActAlong}
use Rattle.program_laws.specs.Exchanged.{DifferInGroup}
use Rattle.xk_base.specs.declared.limits.TheConstants.{SLOT_LIMIT}
use Rattle.xk_kernel.specs.Start.{start}
use Rattle.program_status.specs.Plans.{IsSoundImage}
use Rattle.xous_program.specs.Outcome.Splits.{Setup}

-- the image has no fault in a run of the setup's slots, and this is its plan
pub record HasPlan (setup : Setup) (plan : BootPlan) : Type 0 where
  pub args : Args
  pub sound : IsSoundImage setup.image setup.asked args
  pub planned : plan ≡ plan_of args setup.asked

-- two setups and their plan, the group whose pages are exchanged, the bytes of an event file, and a step limit
pub record Exchange : Type 0 where
  pub one : Setup
  pub other : Setup
  pub plan : BootPlan
  pub group : Group
  pub events : List ℕ
  pub limit : ℕ

-- Both images have this plan, and differ in the pages of the group alone: in its code and its data. Over the events, up to the limit, the
-- group acts alike at each moment of the two runs.
pub record IsExchange (exchange : Exchange) : Type 0 where
  pub few : IfSome exchange.one.asked (λ n. n ≤ SLOT_LIMIT)
  pub planned : HasPlan exchange.one exchange.plan
  pub other_planned : HasPlan exchange.other exchange.plan
  pub differ : DifferInGroup exchange.group exchange.plan exchange.one.image exchange.other.image
  pub acts : ActAlong exchange.group (input_of exchange.events).events exchange.limit
      (start exchange.plan exchange.one.image) (start exchange.plan exchange.other.image)
