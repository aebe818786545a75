use Rattle.std.proofs.Common.{Bool, sym, ap, ◌∙◌, if◌then◌else◌}
use Rattle.kernel_args.proofs.WritingLemmas.{length-slots}
use Rattle.kernel_args.proofs.writing.slots_size.Goals as goal

pub returns-then-is_some : goal.returns-then-is_some
returns-then-is_some c =
    sym (length-slots c.args.slots ∙ ap (λ (b : Bool). if b then 12 else 0) (sym c.is_some.ensures ∙ c.if-is_some.true))

pub returns-else-is_some : goal.returns-else-is_some
returns-else-is_some c =
    sym (length-slots c.args.slots ∙ ap (λ (b : Bool). if b then 12 else 0) (sym c.is_some.ensures ∙ c.if-is_some.false))
