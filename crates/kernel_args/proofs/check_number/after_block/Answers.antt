use Rattle.std.proofs.Common.{ℕ, List, replicate, sym, ap, ◌∙◌}
use Rattle.std.specs.List.{flat_map}
use Rattle.std.specs.Cmp.Lexicographic.{same_text}
use Rattle.kernel_args.specs.CheckNumber.{bits, register_after}
use Rattle.kernel_args.proofs.check_number.after_block.Goals as goal

pub returns-then-zeros : goal.returns-then-zeros
returns-then-zeros c =
    let same = same_text c.args.block.now (replicate 64 0) (sym c.if-zeros.true ∙ c.eq-zeros.ensures) in
    c.after_zeros.ensures ∙ ap (λ (xs : List ℕ). register_after c.args.register (flat_map (bits 8) xs)) (sym same)
