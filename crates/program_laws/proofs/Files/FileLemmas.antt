-- What a file has is one: an image boots one machine, has one plan, one first fault and one conversion.
use Rattle.std.proofs.Common.{◌≡◌, ◌<◌, ◌≤◌, ℕ, length, List, Option, Some, None, sym, ap, ◌∙◌, subst, arith}
use Rattle.std.proofs.lemmas.Option.{same_Some}
use Rattle.kernel_args.specs.declared.args.Args.{Args}
use Rattle.kernel_args.specs.declared.faults.ArgFault.{ArgFault}
use Rattle.kernel_args.specs.Image.{Spells}
use Rattle.kernel_args.proofs.ImageLemmas.{spelled_once}
use Rattle.boot_plan.specs.FirstPages.{plan_of}
use Rattle.boot_plan.specs.ImageFault.{IsImageFault}
use Rattle.boot_plan.specs.declared.plans.BootPlan.{BootPlan}
use Rattle.boot_plan.proofs.ImageFaultLemmas.{image_fault_once}
use Rattle.host_io.specs.Reading.{IsFile}
use Rattle.machine_model.specs.State.Machine.{Machine}
use Rattle.xk_base.specs.declared.limits.TheConstants.{IMAGE_LIMIT, SLOT_LIMIT}
use Rattle.xk_kernel.specs.Start.{start}
use Rattle.xous_program.specs.Outcome.Convert.{IsConversion, conversion}
use Rattle.xous_program.specs.Outcome.Images.{Boots, Image, IsPlanned}
use Rattle.xous_program.specs.Words.{Check}

pub same_bytes : (file : List ℕ → Option (List ℕ)) (name one other : List ℕ) → IsFile (Some file) name one → IsFile (Some file) name other → one ≡ other
same_bytes file name one other a b = same_Some _ _ (sym a ∙ b)

one_fault : (bytes : List ℕ) (slots : Option ℕ) (one other : Option ArgFault) → IsImageFault bytes slots one → IsImageFault bytes slots other → one ≡ other
one_fault bytes slots one other = image_fault_once bytes slots (spelled_once bytes) one other

-- an image boots one machine
pub one_machine : (bytes : List ℕ) (slots : Option ℕ) (one other : Machine) → Boots bytes slots one → Boots bytes slots other → one ≡ other
one_machine bytes slots one other a b =
    let same : a.args ≡ b.args = spelled_once bytes a.args b.args a.sound.spelled b.sound.spelled in
    a.start ∙ (ap (λ (args : Args). start (plan_of args slots) bytes) same ∙ sym b.start)

pub images_agree : (file : List ℕ → Option (List ℕ)) (name : List ℕ) (slots : Option ℕ) (one other : Machine) → Image (Some file) name slots one → Image (Some file) name slots other → one ≡ other
images_agree file name slots one other a b =
    let same : b.bytes ≡ a.bytes = same_bytes file name b.bytes a.bytes b.read a.read in
    let P : List ℕ → Type 0 = λ bytes. Boots bytes slots other in
    one_machine a.bytes slots one other a.boots (subst P same b.boots)

none_is_some : (fault : ArgFault) → None ≡ Some fault → ⊥
none_is_some fault e = cc

-- an image that boots has no fault
pub boots_no_fault : (file : List ℕ → Option (List ℕ)) (name : List ℕ) (slots : Option ℕ) (machine : Machine) (image : List ℕ) (fault : ArgFault)
    → Image (Some file) name slots machine → IsFile (Some file) name image → IsImageFault image slots (Some fault) → ⊥
boots_no_fault file name slots machine image fault boots read faulty =
    let P : List ℕ → Type 0 = λ bytes. IsImageFault bytes slots (Some fault) in
    none_is_some fault (one_fault boots.bytes slots None (Some fault) boots.boots.sound.no_fault (subst P (same_bytes file name image boots.bytes read boots.read) faulty))

pub faults_agree : (file : List ℕ → Option (List ℕ)) (name : List ℕ) (slots : Option ℕ) (image other : List ℕ) (one two : ArgFault)
    → IsFile (Some file) name image → IsImageFault image slots (Some one) → IsFile (Some file) name other → IsImageFault other slots (Some two) → one ≡ two
faults_agree file name slots image other one two read faulty read_other faulty_other =
    let P : List ℕ → Type 0 = λ bytes. IsImageFault bytes slots (Some two) in
    same_Some one two (one_fault image slots (Some one) (Some two) faulty (subst P (same_bytes file name other image read_other read) faulty_other))

-- ---- `check`

pub planned_no_fault : (file : List ℕ → Option (List ℕ)) (check : Check) (plan : BootPlan) (image : List ℕ) (fault : ArgFault)
    → IsPlanned (Some file) check.image check.slots plan → IsFile (Some file) check.image image → IsImageFault image check.slots (Some fault) → ⊥
planned_no_fault file check plan image fault planned read faulty =
    let P : List ℕ → Type 0 = λ bytes. IsImageFault bytes check.slots (Some fault) in
    none_is_some fault
    (one_fault planned.image check.slots None (Some fault) planned.sound.no_fault (subst P (same_bytes file check.image image planned.image read planned.read) faulty))

-- ---- `convert`

-- an image is converted into one list of bytes
pub conversions_agree : (file : List ℕ → Option (List ℕ)) (name one other : List ℕ) → IsConversion (Some file) name one → IsConversion (Some file) name other → one ≡ other
conversions_agree file name one other a b =
    let same : b.image ≡ a.image = same_bytes file name b.image a.image b.read a.read in
    let P : List ℕ → Type 0 = λ bytes. Spells bytes b.args in
    let args : a.args ≡ b.args = spelled_once a.image a.args b.args a.sound.spelled (subst P same b.sound.spelled) in
    a.converts ∙ ap (conversion a.image) args ∙ ap (λ (bytes : List ℕ). conversion bytes b.args) (sym same) ∙ sym b.converts

pub conversion_no_fault : (file : List ℕ → Option (List ℕ)) (name bytes image : List ℕ) (fault : ArgFault)
    → IsConversion (Some file) name bytes → IsFile (Some file) name image → IsImageFault image (Some SLOT_LIMIT) (Some fault) → ⊥
conversion_no_fault file name bytes image fault converts read faulty =
    let P : List ℕ → Type 0 = λ bytes. IsImageFault bytes (Some SLOT_LIMIT) (Some fault) in
    none_is_some fault
    (one_fault converts.image (Some SLOT_LIMIT) None (Some fault) converts.sound.no_fault (subst P (same_bytes file name image converts.image read converts.read) faulty))

-- it is short enough or too long
pub short_or_long : (file : List ℕ → Option (List ℕ)) (name one other : List ℕ) → IsConversion (Some file) name one → IsConversion (Some file) name other
    → length one ≤ IMAGE_LIMIT → IMAGE_LIMIT < length other → ⊥
short_or_long file name one other a b short long =
    let same = ap (λ (bytes : List ℕ). length bytes) (conversions_agree file name one other a b) in
    omega arith
