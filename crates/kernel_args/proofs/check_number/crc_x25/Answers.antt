use Rattle.std.proofs.Common.{ℕ, ◌/◌, List, length, ap, ap₂, ◌∙◌, bit_xor}
use Rattle.std.specs.List.{flat_map}
use Rattle.kernel_args.specs.CheckNumber.{bits, check_number, register_after}
use Rattle.kernel_args.proofs.GroupLemmas.{groups_and_rest}
use Rattle.kernel_args.proofs.check_number.crc_x25.Goals as goal

pub returns : goal.returns
unfolding check_number
returns c =
    let bytes : List ℕ = c.args.bytes.now in
    let cut = c.as_chunks.ensures in
    let blocks = ap (λ xs. register_after 0xFFFF (flat_map (flat_map (bits 8)) xs)) cut.front in
    ap (λ (n : ℕ). bit_xor n 0xFFFF)
    (c.after_piece.ensures ∙ ap₂ (λ (n : ℕ) (xs : List ℕ). register_after n (flat_map (bits 8) xs)) (c.after_blocks-register.ensures ∙ blocks) cut.back
    ∙ groups_and_rest 64 (length bytes / 64) 0xFFFF bytes)
