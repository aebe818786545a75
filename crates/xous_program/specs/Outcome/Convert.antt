-- How a call of `convert` ends.
use Rattle.std.specs.Prelude.{◌≡◌, ◌<◌, ◌≤◌, ◌==◌, ◌⊎◌, ℕ, true, if◌then◌else◌, List, [], length, Some}
use Rattle.kernel_args.specs.declared.args.Args.{Args}
use Rattle.kernel_args.specs.declared.faults.ArgFault.{ArgFault}
use Rattle.kernel_args.specs.Converting.{converted}
use Rattle.boot_plan.specs.FaultNumbers.{too_long}
use Rattle.xk_base.specs.declared.limits.TheConstants.{IMAGE_LIMIT, SLOT_LIMIT}
use Rattle.xk_ports.specs.declared.host.FileSlot.TheVariants.{First}
use Rattle.xk_ports.specs.Told.{Grows, GrowsByProperPrefix}
use Rattle.program_status.specs.declared.status.Status.{Status}
use Rattle.program_status.specs.declared.status.Status.TheVariants.{Done, WriteFault, ImageFault}
use Rattle.xous_program.specs.Outcome.Images.{EndsUnplanned}
use Rattle.program_status.specs.Plans.{IsSoundImage}
use Rattle.xous_program.specs.Outcome.Sides.{Call, OutRose, Told}
use Rattle.program_status.specs.Notes.{SinkSide}
use Rattle.host_io.specs.Reading.{Asked, IsFile, IsTold}

-- what is written of an image with these arguments: one of version 1 is converted, one of version 2 stays as it is
abbrev pub conversion : List ℕ → Args → List ℕ
conversion image args = if args.version == 1 then converted image args else image

-- the file of that name is an image without a fault in a run of the most slots, and these bytes are to be written of it
pub record IsConversion (file : Told) (name bytes : List ℕ) : Type 0 where
  pub image : List ℕ
  pub read : IsFile file name image
  pub args : Args
  pub sound : IsSoundImage image (Some SLOT_LIMIT) args
  pub converts : bytes ≡ conversion image args

-- the fault of a file of more than 64 MiB
abbrev pub long_file : ArgFault
long_file = record { what = too_long; at = 0 }

-- what was written of these bytes, by the status: nothing where they are more than an image may have
abbrev pub Writes : List ℕ → SinkSide → Status → Type 0
Writes bytes out Done = (length bytes ≤ IMAGE_LIMIT) × Grows out.written out.written_after bytes
Writes bytes out WriteFault = (length bytes ≤ IMAGE_LIMIT) × GrowsByProperPrefix out.written out.written_after bytes
Writes bytes out (ImageFault fault) = (IMAGE_LIMIT < length bytes) × (fault ≡ long_file) × (out.written_after ≡ out.written)
Writes bytes out _ = ⊥

-- the image alone is asked for, and what it is converted into is written
pub record EndsConverted (image : List ℕ) (call : Call) : Type 0 where
  pub asked : Asked call.host.asked call.host.asked_after First image true
  pub cause : call.status ≡ WriteFault → OutRose call
  pub bytes : List ℕ
  pub conversion : IsConversion call.host.files image bytes
  pub content : Writes bytes call.out call.status
  pub image_read : IsTold call.host.image_left []

abbrev pub EndsConvert : List ℕ → Call → Type 0
EndsConvert image call = EndsUnplanned image (Some SLOT_LIMIT) call ⊎ EndsConverted image call
