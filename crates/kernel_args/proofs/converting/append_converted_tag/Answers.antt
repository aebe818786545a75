use Rattle.std.proofs.Common.{◌≡◌, ℕ, List, true, eqb, ap, sym, ◌∙◌}
use Rattle.std.specs.Prelude.{codes}
use Rattle.std.specs.Cmp.Lexicographic.{pointwise}
use Rattle.kernel_args.specs.Tags.{has_name}
use Rattle.kernel_args.specs.Reading.{tag_of}
use Rattle.kernel_args.specs.Converting.{converted_process}
use Rattle.kernel_args.proofs.ConvertingLemmas.{process_appended}
use Rattle.kernel_args.proofs.converting.append_converted_tag.Goals as goal

pub returns-in-Some-clause-bytes : goal.returns-in-Some-clause-bytes
returns-in-Some-clause-bytes c =
    let t = c.args.tag.now in
    let named : has_name (codes "IniE") (tag_of t) ≡ true = sym (c.if-eq.ensures ∙ ap (λ (l : List ℕ). pointwise eqb t.name.now l) c.as_slice.ensures) in
    process_appended (converted_process c.args.file.now c.args.sizes.old c.args.sizes.new) c.args.out.now c.append_converted.new.out c.args.procs.now c.in-Some.process.now c.in-Some.others.now
    (tag_of t) c.in-Some.ensures.cases.0 named c.in_ok-append_converted.ensures
