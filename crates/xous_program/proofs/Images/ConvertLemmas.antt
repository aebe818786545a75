-- An image without a fault is converted.
use Rattle.std.proofs.Common.{◌≡◌, ◌≢◌, ◌≤◌, ap, sym, ℕ, Bool, true, false, ◌==◌, List, [], length, Option, Some, inr, arith}
use Rattle.std.specs.Prelude.{if◌then◌else◌}
use Rattle.std.proofs.lemmas.Bool.Decides.{nat_tests}
use Rattle.std.proofs.lemmas.List.Elements.{All-weaker}
use Rattle.kernel_args.specs.declared.args.Args.{Args}
use Rattle.kernel_args.specs.Converting.{IsConvertible, converted}
use Rattle.kernel_args.specs.Loads.{is_load_outside}
use Rattle.boot_plan.proofs.NoFaultLemmas.{IsFaultless, all_faultless}
use Rattle.xk_ports.specs.declared.host.FileSlot.TheVariants.{First}
use Rattle.xk_base.specs.declared.limits.TheConstants.{IMAGE_LIMIT, SLOT_LIMIT}
use Rattle.program_status.specs.declared.status.Status.TheVariants.{WriteFault}
use Rattle.xous_program.specs.Outcome.Convert.{EndsConvert, Writes, conversion}
use Rattle.program_status.specs.Plans.{IsSoundImage}
use Rattle.xous_program.specs.Outcome.Sides.{Call, OutRose}
use Rattle.host_io.specs.Reading.{Asked, IsFile, IsTold}
use Rattle.xous_program.proofs.Images.MatchedLemmas.{no_plan_fault}

-- an image of another version stays as it is
pub kept : (image : List ℕ) (args : Args) → args.version ≢ 1 → image ≡ conversion image args
kept image args other =
    let test : (args.version == 1) ≡ false = grind (arith, nat_tests) in
    ap (λ (b : Bool). if b then converted image args else image) (sym test)

pub made : (image : List ℕ) (args : Args) → args.version ≡ 1 → converted image args ≡ conversion image args
made image args first =
    let test : (args.version == 1) ≡ true = grind (arith, nat_tests) in
    ap (λ (b : Bool). if b then converted image args else image) (sym test)

pub convertible : (image : List ℕ) (args : Args) (asked : Option ℕ) → IsSoundImage image asked args → args.version ≡ 1 → length (converted image args) ≤ IMAGE_LIMIT
    → IsConvertible image args
convertible image args asked sound first short = record {
  spelled = sound.spelled;
  first = first;
  inside = All-weaker (IsFaultless args.words image) (λ p. is_load_outside args.words (length image) p ≡ false) (λ p h. h.load) args.procs
      (all_faultless args image asked (no_plan_fault image asked args sound.spelled sound.no_fault));
  short = short;
}

-- what is written of an image that was read
pub ends_written : (name image bytes : List ℕ) (args : Args) (call : Call) → Asked call.host.asked call.host.asked_after First name true
    → IsFile call.host.files name image → IsSoundImage image (Some SLOT_LIMIT) args → bytes ≡ conversion image args → IsTold call.host.image_left []
    → Writes bytes call.out call.status → (call.status ≡ WriteFault → OutRose call) → EndsConvert name call
ends_written name image bytes args call asked read sound converts left written rose =
    inr (record {
      asked = asked;
      cause = rose;
      bytes = bytes;
      conversion = record { image = image; read = read; args = args; sound = sound; converts = converts };
      content = written;
      image_read = left;
    })
