use Rattle.std.proofs.Common.{◌*◌, take, drop, arith, ap, ◌∙◌}
use Rattle.std.proofs.lemmas.List.{take_rest}
use Rattle.byteorder.specs.Endian.{little_number}
use Rattle.kernel_args.proofs.TagLemmas.{front_tag_found}
use Rattle.kernel_args.proofs.tag.front_tag.Goals as goal

pub returns : goal.returns
returns c =
    front_tag_found c.args.bytes.now c.read_u16-check.result c.read_u16.result c.split_at.result.0.now c.split_at.result.1.now (λ i. omega (arith, c.type_inv.bytes i)) (omega arith)
    (c.read_u16.ensures ∙ ap (little_number 2) (take_rest c.args.bytes.now 6)) (omega arith) (c.read_u16-check.ensures ∙ ap (little_number 2) (take_rest c.args.bytes.now 4))
    (c.split_at.ensures.front ∙ ap (take (4 * c.read_u16.result)) (take_rest c.args.bytes.now 8)) (c.split_at.ensures.back ∙ ap (drop (4 * c.read_u16.result)) (take_rest c.args.bytes.now 8))
