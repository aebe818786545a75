use Rattle.std.proofs.Common.{◌≡◌, List, ℕ, ◌++◌, length, OnOk, ap, sym, ◌∙◌, subst, arith}
use Rattle.std.specs.Prelude.{codes}
use Rattle.std.proofs.lemmas.List.{append-nil}
use Rattle.kernel_args.specs.Tags.{tag_bytes}
use Rattle.kernel_args.specs.Writing.{right_tag}
use Rattle.kernel_args.proofs.ReadLemmas.{none_left, some_left}
use Rattle.kernel_args.proofs.WritingLemmas.{no_names, some_names}
use Rattle.kernel_args.proofs.writing.append_names.Goals as goal

pub returns-then-is_empty : goal.returns-then-is_empty
returns-then-is_empty c =
    let none = none_left c.is_empty.result (length c.args.names.now) c.is_empty.ensures c.if-is_empty.true in
    sym (append-nil c.args.out.now) ∙ ap (λ (l : List ℕ). c.args.out.now ++ l) (sym (no_names c.args.names.now none))

pub returns : goal.returns
returns c =
    let some = some_left c.is_empty.result (length c.args.names.now) c.is_empty.ensures c.if-is_empty.false in
    subst (λ (l : List ℕ). OnOk c.append_tag.result (c.append_tag.new.out ≡ c.args.out.now ++ l))
    (ap (λ (l : List ℕ). tag_bytes (right_tag (codes "PNam") l)) (c.as_slice.ensures ∙ c.in_ok-contents.ensures) ∙ sym (some_names c.args.names.now (λ e. omega arith))) c.append_tag.ensures
