-- Images that are read, and how a call ends that reads one with a fault.
use Rattle.std.specs.Prelude.{◌≡◌, ℕ, List, Option, Some}
use Rattle.kernel_args.specs.declared.args.Args.{Args}
use Rattle.boot_plan.specs.FirstPages.{plan_of}
use Rattle.boot_plan.specs.ImageFault.{IsImageFault}
use Rattle.boot_plan.specs.declared.plans.BootPlan.{BootPlan}
use Rattle.machine_model.specs.State.Machine.{Machine}
use Rattle.xk_kernel.specs.Start.{start}
use Rattle.xk_ports.specs.declared.host.FileSlot.TheVariants.{First}
use Rattle.program_status.specs.declared.status.Status.{Status}
use Rattle.program_status.specs.declared.status.Status.TheVariants.{ReadFault, ImageFault}
use Rattle.program_status.specs.declared.status.Status.TheVariants.{NoMemory}
use Rattle.program_status.specs.Plans.{IsSoundImage}
use Rattle.xous_program.specs.Outcome.Sides.{Call, HostRose, IsUnwritten, Told}
use Rattle.host_io.specs.Reading.{AsksFor, IsFile}

-- the image boots this machine, the start of its plan
pub record Boots (image : List ℕ) (asked : Option ℕ) (machine : Machine) : Type 0 where
  pub args : Args
  pub sound : IsSoundImage image asked args
  pub start : machine ≡ start (plan_of args asked) image

-- the file of that name is an image that boots this machine
pub record Image (file : Told) (name : List ℕ) (asked : Option ℕ) (machine : Machine) : Type 0 where
  pub bytes : List ℕ
  pub read : IsFile file name bytes
  pub boots : Boots bytes asked machine

-- its plan
abbrev pub plan_in : {file : Told} {name : List ℕ} {asked : Option ℕ} {machine : Machine} → Image file name asked machine → BootPlan
plan_in {asked = asked} image = plan_of image.boots.args asked

-- the file of that name is an image without a fault in a run that asks for these slots, and this is its plan
pub record IsPlanned (file : Told) (name : List ℕ) (asked : Option ℕ) (plan : BootPlan) : Type 0 where
  pub image : List ℕ
  pub read : IsFile file name image
  pub args : Args
  pub sound : IsSoundImage image asked args
  pub planned : plan ≡ plan_of args asked

-- What holds where the image isn't planned, by the status: it has this first fault; it couldn't be read, and the
-- host's count of faults rose; there was no memory.
abbrev pub Refuses : Told → List ℕ → Option ℕ → Type 0 → Status → Type 0
Refuses file name asked host_rose (ImageFault fault) = (image : List ℕ) × IsFile file name image × IsImageFault image asked (Some fault)
Refuses file name asked host_rose ReadFault = host_rose
Refuses file name asked host_rose NoMemory = Unit {0}
Refuses file name asked host_rose _ = ⊥

-- The image isn't planned, and nothing is written. It was asked for at the first slot and picked there or not, and nothing else was.
pub record EndsUnplanned (image : List ℕ) (slots : Option ℕ) (call : Call) : Type 0 where
  pub asked : AsksFor call.host.asked call.host.asked_after First image
  pub refused : Refuses call.host.files image slots (HostRose call) call.status
  pub unwritten : IsUnwritten call
