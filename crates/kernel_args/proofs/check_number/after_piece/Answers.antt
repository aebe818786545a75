use Rattle.std.proofs.Common.{ℕ, ◌/◌, List, length, ap, ap₂, ◌∙◌}
use Rattle.std.specs.List.{flat_map}
use Rattle.kernel_args.specs.CheckNumber.{bits, register_after}
use Rattle.kernel_args.proofs.GroupLemmas.{groups_and_rest}
use Rattle.kernel_args.proofs.check_number.after_piece.Goals as goal

pub returns : goal.returns
returns c =
    let start : ℕ = c.args.start in
    let bytes : List ℕ = c.args.bytes.now in
    let cut = c.as_chunks.ensures in
    let groups = ap (λ xs. register_after start (flat_map (flat_map (bits 8)) xs)) cut.front in
    c.after_bytes.ensures ∙ ap₂ (λ (n : ℕ) (xs : List ℕ). register_after n (flat_map (bits 8) xs)) (c.after_groups-register.ensures ∙ groups) cut.back
    ∙ groups_and_rest 8 (length bytes / 8) start bytes
