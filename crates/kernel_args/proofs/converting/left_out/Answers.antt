use Rattle.std.proofs.Common.{◌≡◌, ℕ, List, true, false, eqb, ap, sym, ◌∙◌, arith}
use Rattle.std.specs.Cmp.Lexicographic.{pointwise}
use Rattle.kernel_args.specs.Reading.{tag_of}
use Rattle.kernel_args.specs.Converting.{is_left_out}
use Rattle.kernel_args.proofs.ConvertingLemmas.{front_length, left_out_more, left_out_same, left_out_end}
use Rattle.kernel_args.proofs.converting.left_out.Goals as goal

pub loop-tag-preserved-then-eq : goal.loop-tag-preserved-then-eq
loop-tag-preserved-then-eq c =
    let t = c.in-Some.tag in
    let named : is_left_out (tag_of t) ≡ true = sym (c.if-eq.ensures ∙ ap (λ (l : List ℕ). pointwise eqb t.name.now l) c.as_slice.ensures) in
    let more = left_out_more c.loop-tag.rest.now (tag_of t) c.in-Some.after.now c.in-Some.ensures named in
    let len = front_length c.loop-tag.rest.now (tag_of t) c.in-Some.after.now c.in-Some.ensures in
    let bytes = c.loop-tag.invariant.bytes in
    let within = c.loop-tag.invariant.within in
    record { bytes = omega arith; within = omega arith }

pub loop-tag-preserved : goal.loop-tag-preserved
loop-tag-preserved c =
    let t = c.in-Some.tag in
    let unnamed : is_left_out (tag_of t) ≡ false = sym (c.if-eq.ensures ∙ ap (λ (l : List ℕ). pointwise eqb t.name.now l) c.as_slice.ensures) in
    let same = left_out_same c.loop-tag.rest.now (tag_of t) c.in-Some.after.now c.in-Some.ensures unnamed in
    let len = front_length c.loop-tag.rest.now (tag_of t) c.in-Some.after.now c.in-Some.ensures in
    let bytes = c.loop-tag.invariant.bytes in
    let within = c.loop-tag.invariant.within in
    record { bytes = omega arith; within = omega arith }

pub returns-clause-bytes : goal.returns-clause-bytes
returns-clause-bytes c =
    let none = left_out_end c.loop-tag.rest.now c.in_default.ensures in
    let bytes = c.loop-tag.invariant.bytes in
    omega arith
