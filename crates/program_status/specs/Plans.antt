-- Images of which a plan is made.
use Rattle.std.specs.Prelude.{ℕ, List, Option, Some, None}
use Rattle.kernel_args.specs.declared.args.Args.{Args}
use Rattle.kernel_args.specs.Image.{Spells}
use Rattle.boot_plan.specs.ImageFault.{IsImageFault}
use Rattle.program_status.specs.declared.status.Status.{Status}
use Rattle.program_status.specs.declared.status.Status.TheVariants.{ImageFault, NoMemory}

-- The image has no fault in a run that asks for these slots, and these are its arguments.
pub record IsSoundImage (image : List ℕ) (asked : Option ℕ) (args : Args) : Type 0 where
  pub spelled : Spells image args
  pub no_fault : IsImageFault image asked None

-- No plan is made of these bytes, by the status: the image has this first fault, or there was no memory.
abbrev pub RefusesBytes : List ℕ → Option ℕ → Status → Type 0
RefusesBytes image asked (ImageFault fault) = IsImageFault image asked (Some fault)
RefusesBytes image asked NoMemory = Unit {0}
RefusesBytes image asked _ = ⊥
