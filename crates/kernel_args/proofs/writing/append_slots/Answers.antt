use Rattle.std.proofs.Common.{List, ℕ, ◌++◌, ap, sym, ◌∙◌, Option}
use Rattle.std.specs.Prelude.{codes}
use Rattle.std.proofs.lemmas.List.{append-nil}
use Rattle.kernel_args.specs.Tags.{tag_bytes}
use Rattle.kernel_args.specs.Writing.{right_tag, slots_row}
use Rattle.kernel_args.proofs.WritingLemmas.{slots_row_is, no_slots_row}
use Rattle.kernel_args.proofs.writing.append_slots.Goals as goal

pub returns-in_ok-append_tag : goal.returns-in_ok-append_tag
returns-in_ok-append_tag c =
    c.in_ok-append_tag.ensures
    ∙ ap (λ (l : List ℕ). c.args.out.now ++ l)
    (ap (λ (l : List ℕ). tag_bytes (right_tag (codes "SwpS") l)) (c.as_slice.ensures ∙ c.in_ok-contents.ensures) ∙ slots_row_is c.in-Some.slots
    ∙ ap (λ (o : Option ℕ). slots_row o) (sym c.in-Some.is))

pub returns-in_default : goal.returns-in_default
returns-in_default c =
    sym (append-nil c.args.out.now) ∙ ap (λ (l : List ℕ). c.args.out.now ++ l) (sym (ap (λ (o : Option ℕ). slots_row o) c.in_default.is ∙ no_slots_row))
