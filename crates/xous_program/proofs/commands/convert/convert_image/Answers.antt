use Rattle.std.proofs.Common.{◌≡◌, ◌<◌, ◌≤◌, ◌∙◌, ap, refl, sym, subst, List, ℕ, length, Some, arith}
use Rattle.kernel_args.specs.Converting.{IsConvertible, converted}
use Rattle.program_status.specs.Notes.{sink_side}
use Rattle.program_status.specs.declared.status.Status.TheVariants.{ImageFault}
use Rattle.xk_base.specs.declared.limits.TheConstants.{IMAGE_LIMIT, SLOT_LIMIT}
use Rattle.xous_program.specs.Outcome.Convert.{long_file}
use Rattle.xous_program.specs.Outcome.Sides.{Call, call_of, host_side}
use Rattle.xous_program.proofs.Images.ConvertLemmas.{convertible, ends_written, kept, made}
use Rattle.xous_program.proofs.commands.convert.convert_image.Goals as goal

pub returns-then-planned-ne1-clause-ends : goal.returns-then-planned-ne1-clause-ends
returns-then-planned-ne1-clause-ends g c = λ store.
    let planned = c.in-Ok.planned in
    let is = c.in-Ok.ensures in
    let image : List ℕ = planned.bytes.items in
    ends_written c.args.image.now image c.as_slice-bytes.result.now planned.args _ is.picked is.read is.image
    (c.as_slice-bytes.ensures.value ∙ kept image planned.args c.if-planned-ne1.true) is.end c.write_image.ensures.written c.write_image.ensures.cause

pub returns-then-converted_len-clause-ends : goal.returns-then-converted_len-clause-ends
returns-then-converted_len-clause-ends g c = λ store.
    let planned = c.in-Ok.planned in
    let is = c.in-Ok.ensures in
    let image : List ℕ = planned.bytes.items in
    let read : List ℕ = c.as_slice-bytes.result.now in
    let call : Call = call_of (host_side g.H.Host c.args.host.now c.plan_image.new.host)
    (sink_side g.K.Sink c.args.out.now c.args.out.now) store (ImageFault long_file) in
    let same : converted read planned.args ≡ converted image planned.args =
    ap (λ (bytes : List ℕ). converted bytes planned.args) c.as_slice-bytes.ensures.value in
    let long : IMAGE_LIMIT < length (converted read planned.args) = omega (arith, c.converted_len.ensures, c.if-converted_len.true) in
    ends_written c.args.image.now image (converted read planned.args) planned.args call is.picked is.read is.image
    (same ∙ made image planned.args c.if-planned-ne1.false) is.end (long, refl, refl) (λ failed. absurd (cc))

pub convert-requires : goal.convert-requires
convert-requires g c =
    let planned = c.in-Ok.planned in
    let image : List ℕ = planned.bytes.items in
    let same = c.as_slice-bytes.ensures.value in
    let P : List ℕ → Type 0 = λ bytes. length (converted bytes planned.args) ≤ IMAGE_LIMIT in
    let C : List ℕ → Type 0 = λ bytes. IsConvertible bytes planned.args in
    let short : P c.as_slice-bytes.result.now = omega (arith, c.converted_len.ensures, c.if-converted_len.false) in
    subst C (sym same) (convertible image planned.args (Some SLOT_LIMIT) c.in-Ok.ensures.image c.if-planned-ne1.false (subst P same short))

pub returns-in-Ok-convert-clause-ends : goal.returns-in-Ok-convert-clause-ends
returns-in-Ok-convert-clause-ends g c = λ store.
    let planned = c.in-Ok.planned in
    let is = c.in-Ok.ensures in
    let image : List ℕ = planned.bytes.items in
    let made_of : c.as_slice.result.now ≡ converted image planned.args =
    c.as_slice.ensures ∙ c.in-Ok-convert.ensures ∙ ap (λ (bytes : List ℕ). converted bytes planned.args) c.as_slice-bytes.ensures.value in
    ends_written c.args.image.now image c.as_slice.result.now planned.args _ is.picked is.read is.image
    (made_of ∙ made image planned.args c.if-planned-ne1.false) is.end c.write_image-in-Ok-convert.ensures.written c.write_image-in-Ok-convert.ensures.cause
