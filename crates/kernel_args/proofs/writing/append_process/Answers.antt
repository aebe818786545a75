use Rattle.std.proofs.Common.{◌≡◌, List, ℕ, ◌++◌, length, OnOk, ap, ◌∙◌, subst, arith}
use Rattle.std.specs.Prelude.{codes}
use Rattle.kernel_args.specs.Tags.{tag_bytes}
use Rattle.kernel_args.specs.Contents.{process_contents}
use Rattle.kernel_args.specs.Writing.{with_load, right_tag}
use Rattle.kernel_args.proofs.WritingLemmas.{short_process, process_row_is}
use Rattle.kernel_args.proofs.writing.append_process.Goals as goal

pub append_tag-requires : goal.append_tag-requires
append_tag-requires c =
    let p = with_load c.args.load c.args.check c.args.process.now in
    let is : c.as_slice.result.now ≡ process_contents p = c.as_slice.ensures ∙ c.in_ok-contents.ensures in
    let size : length c.as_slice.result.now ≡ length (process_contents p) = ap (λ (l : List ℕ). length l) is in
    let short = short_process p c.requires in
    omega arith

pub returns : goal.returns
returns c =
    subst (λ (l : List ℕ). OnOk c.append_tag.result (c.append_tag.new.out ≡ c.args.out.now ++ l))
    (ap (λ (l : List ℕ). tag_bytes (right_tag (codes "IniE") l)) (c.as_slice.ensures ∙ c.in_ok-contents.ensures)
    ∙ process_row_is (with_load c.args.load c.args.check c.args.process.now)) c.append_tag.ensures
