-- The image of version 2 that an image of version 1 is converted into boots the same machine.
use Rattle.std.proofs.Common.{◌≡◌, ◌≤◌, ◌∙◌, ap, sym, subst, refl, ℕ, ◌+◌, ◌*◌, false, nat_lt, List, [], ◌∷◌, length, Option, None, arith}
use Rattle.std.specs.List.{flat_map, AllByRecursion}
use Rattle.std.proofs.lemmas.List.{length-append}
use Rattle.std.proofs.lemmas.Bool.Decides.{nat_tests}
use Rattle.kernel_args.specs.declared.args.Args.{Args}
use Rattle.kernel_args.specs.declared.args.ProcArgs.{ProcArgs}
use Rattle.kernel_args.specs.Faults.{args_fault}
use Rattle.kernel_args.specs.Image.{header_tag, Spells}
use Rattle.kernel_args.specs.Tags.{tag_bytes}
use Rattle.kernel_args.specs.Converting.{CanMove, IsConvertible, converted, converted_args, converted_process, converted_row}
use Rattle.kernel_args.proofs.ConvertedImage.{can_move}
use Rattle.kernel_args.proofs.ConvertedSpells.{new_row, converted_spells, behind_kept, no_slots_given}
use Rattle.kernel_args.proofs.ImageLemmas.{spelled_has_no_fault, spelled_once}
use Rattle.boot_plan.specs.Faults.{plan_fault}
use Rattle.boot_plan.specs.FirstPages.{plan_of}
use Rattle.boot_plan.specs.ImageFault.{IsImageFault}
use Rattle.boot_plan.proofs.MovedLemmas.{HasMoved, IsMoved, IsMovedImage, moved_plan}
use Rattle.machine_model.specs.State.Machine.{Machine}
use Rattle.xk_base.specs.declared.limits.TheConstants.{IMAGE_LIMIT}
use Rattle.xk_kernel.specs.Start.{start}
use Rattle.xous_program.specs.Outcome.Images.{Boots}
use Rattle.program_status.specs.Plans.{IsSoundImage}
use Rattle.xous_program.proofs.Images.ConvertLemmas.{convertible}
use Rattle.xous_program.proofs.Images.MatchedLemmas.{Cases, no_plan_fault}
use Rattle.program_laws.proofs.Images.MovedStartLemmas.{moved_start}

-- ---- the image is moved

row_within : (bytes : List ℕ) (args : Args) → Spells bytes args → 4 * args.words ≤ length bytes
row_within bytes args s =
    let row = flat_map tag_bytes (header_tag args ∷ s.tags) in
    let all : length bytes ≡ length row + length s.rest = ap (λ (l : List ℕ). length l) s.whole ∙ length-append row s.rest in
    omega (arith, s.size)

has_moved : (image : List ℕ) (args : Args) → IsConvertible image args → HasMoved image (converted image args) (4 * args.words) (4 * (converted_args image args).words)
has_moved image args c = record {
  within = row_within image args c.spelled;
  within_moved = row_within (converted image args) (converted_args image args) (converted_spells image args c);
  rest = behind_kept image args c;
}

each_moved : (image : List ℕ) (old new : ℕ) (ps : List ProcArgs) → AllByRecursion (CanMove image old new) ps
    → AllByRecursion (λ p. IsMoved image old new p (converted_process image old new p)) ps
each_moved image old new [] can = tt
each_moved image old new (p ∷ ps) can =
    let behind = can.0.behind in
    (record { behind = behind; load = omega arith; entry = refl; sections = refl; check = refl }, each_moved image old new ps can.1)

image_moved : (image : List ℕ) (args : Args) → IsConvertible image args → IsMovedImage image (converted image args) args (converted_args image args)
image_moved image args c =
    let old = 4 * args.words in
    let row = converted_row image args in
    record {
      bytes = has_moved image args c;
      ram_start = refl;
      ram_size = refl;
      slots = sym (no_slots_given image args c);
      change = converted_process image old row;
      procs = refl;
      each = subst (λ n. AllByRecursion (λ p. IsMoved image old n p (converted_process image old row p)) args.procs) (sym (new_row image args c))
          (each_moved image old row args.procs (can_move image args c));
    }

-- ---- it has no fault and starts in the same state

without_fault : (bytes : List ℕ) (asked : Option ℕ) (args : Args) → length bytes ≤ IMAGE_LIMIT → Spells bytes args → plan_fault args bytes asked ≡ None
    → IsImageFault bytes asked None
without_fault bytes asked args short spelled none =
    let long : nat_lt 67108864 (length bytes) ≡ false = grind (arith, nat_tests) in
    subst (λ b. Cases bytes asked None b (args_fault bytes)) (sym long)
    (subst (λ o. Cases bytes asked None false o) (sym (spelled_has_no_fault bytes args spelled)) (args, spelled, sym none))

boots_converted : (image : List ℕ) (args : Args) (asked : Option ℕ) (machine : Machine) → IsSoundImage image asked args → machine ≡ start (plan_of args asked) image
    → args.version ≡ 1 → length (converted image args) ≤ IMAGE_LIMIT → Boots (converted image args) asked machine
boots_converted image args asked machine sound started first short =
    let c = convertible image args asked sound first short in
    let moved = image_moved image args c in
    let none = moved_plan image (converted image args) args (converted_args image args) asked moved (no_plan_fault image asked args sound.spelled sound.no_fault) in
    let spelled = converted_spells image args c in
    record {
      args = converted_args image args;
      sound = record { spelled = spelled; no_fault = without_fault (converted image args) asked (converted_args image args) short spelled none };
      start = started ∙ sym (moved_start image (converted image args) args (converted_args image args) asked moved);
    }

pub converted_boots : (image : List ℕ) (args : Args) (asked : Option ℕ) (machine : Machine) → Spells image args → args.version ≡ 1
    → length (converted image args) ≤ IMAGE_LIMIT → Boots image asked machine → Boots (converted image args) asked machine
converted_boots image args asked machine spelled first short boots =
    let same : boots.args ≡ args = spelled_once image boots.args args boots.sound.spelled spelled in
    let sound = subst (λ (a : Args). IsSoundImage image asked a) same boots.sound in
    let started = boots.start ∙ ap (λ (a : Args). start (plan_of a asked) image) same in
    boots_converted image args asked machine sound started first short
