use Rattle.std.proofs.Common.{◌≡◌, ◌-◌, length, take, drop, arith, ap, ◌∙◌}
use Rattle.std.proofs.lemmas.List.{take_rest}
use Rattle.byteorder.specs.Endian.{little_number}
use Rattle.kernel_args.specs.Contents.{padded}
use Rattle.kernel_args.proofs.NameLemmas.{front_entry_found}
use Rattle.kernel_args.proofs.names.front_entry.Goals as goal

pub returns : goal.returns
returns c =
    let whole : c.next_multiple_of-padded.result ≡ padded c.read_u32-len.result = omega (arith, c.next_multiple_of-padded.ensures.lower_bound, c.next_multiple_of-padded.ensures.upper_bound, c.next_multiple_of-padded.ensures.multiple) in
    front_entry_found c.args.bytes.now c.read_u32-pid.result c.read_u32-len.result c.split_at.result.0.now c.split_at.result.1.now (omega arith)
    c.read_u32-pid.ensures (c.read_u32-len.ensures ∙ ap (little_number 4) (take_rest c.args.bytes.now 4)) (omega arith)
    (c.split_at.ensures.front ∙ (ap (λ n. take n (take (length c.args.bytes.now - 8) (drop 8 c.args.bytes.now))) whole ∙ ap (take (padded c.read_u32-len.result)) (take_rest c.args.bytes.now 8)))
    (c.split_at.ensures.back ∙ (ap (λ n. drop n (take (length c.args.bytes.now - 8) (drop 8 c.args.bytes.now))) whole ∙ ap (drop (padded c.read_u32-len.result)) (take_rest c.args.bytes.now 8)))
