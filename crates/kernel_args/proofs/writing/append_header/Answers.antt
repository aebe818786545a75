use Rattle.std.proofs.Common.{◌≡◌, List, ℕ, ◌++◌, OnOk, ap, ◌∙◌, subst}
use Rattle.std.specs.Prelude.{codes}
use Rattle.kernel_args.specs.Tags.{tag_bytes}
use Rattle.kernel_args.specs.Writing.{with_size, right_tag}
use Rattle.kernel_args.proofs.WritingLemmas.{header_row_is}
use Rattle.kernel_args.proofs.writing.append_header.Goals as goal

pub returns : goal.returns
returns c =
    subst (λ (l : List ℕ). OnOk c.append_tag.result (c.append_tag.new.out ≡ c.args.out.now ++ l))
    (ap (λ (l : List ℕ). tag_bytes (right_tag (codes "XArg") l)) (c.as_slice.ensures ∙ c.in_ok-contents.ensures) ∙ header_row_is (with_size c.args.words c.args.version c.args.args.now)) c.append_tag.ensures
