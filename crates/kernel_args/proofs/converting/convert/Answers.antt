use Rattle.std.proofs.Common.{◌≡◌, ◌*◌, ℕ, List, drop, ap, sym, subst, ◌∙◌, arith}
use Rattle.std.specs.List.{AllByRecursion}
use Rattle.kernel_args.specs.declared.args.ProcArgs.{ProcArgs}
use Rattle.kernel_args.specs.Tags.{Tag}
use Rattle.kernel_args.specs.Image.{IsRightTag}
use Rattle.kernel_args.specs.Converting.{tags_in, row_behind_header, CanMove}
use Rattle.kernel_args.proofs.ConvertedImage.{spelled_tags, length-converted, can_move, appended}
use Rattle.kernel_args.proofs.converting.convert.Goals as goal

pub overflow_cast-sizes-2 : goal.overflow_cast-sizes-2
overflow_cast-sizes-2 c =
    let len = length-converted c.args.bytes.now c.args.args.now c.requires.spelled c.requires.first in
    let short = c.requires.short in
    omega arith

pub append_converted_tags-requires-clause-tags : goal.append_converted_tags-requires-clause-tags
append_converted_tags-requires-clause-tags c =
    let s = c.requires.spelled in
    let behind : c.split_at-2.result.1.now ≡ row_behind_header c.args.args.now.words c.args.bytes.now = c.split_at-2.ensures.back ∙ ap (λ (l : List ℕ). drop 28 l) c.split_at.ensures.front in
    subst (λ (ts : List Tag). AllByRecursion IsRightTag ts) (sym (ap tags_in behind ∙ spelled_tags c.args.bytes.now c.args.args.now s)) s.spelled.each

pub append_converted_tags-requires-clause-procs : goal.append_converted_tags-requires-clause-procs
append_converted_tags-requires-clause-procs c =
    let bytes = c.args.bytes.now in
    let args = c.args.args.now in
    subst (λ (l : List ProcArgs). AllByRecursion (CanMove bytes (4 * args.words) c.converted_row.result) l) (sym c.as_slice-procs.ensures)
    (subst (λ (n : ℕ). AllByRecursion (CanMove bytes (4 * args.words) n) args.procs) (sym c.converted_row.ensures) (can_move bytes args c.requires))

pub returns : goal.returns
returns c =
    let behind : c.split_at-2.result.1.now ≡ row_behind_header c.args.args.now.words c.args.bytes.now = c.split_at-2.ensures.back ∙ ap (λ (l : List ℕ). drop 28 l) c.split_at.ensures.front in
    appended c.args.bytes.now c.args.args.now c.extend_from_slice.new.self (record {
      row = c.converted_row.result;
      tags = c.split_at-2.result.1.now;
      procs = c.as_slice-procs.result.now;
      start = c.new-out.result;
      with_header = c.append_header.new.out;
      with_tags = c.append_converted_tags.new.out;
      behind = c.split_at.result.1.now;
      row_is = c.converted_row.ensures;
      tags_are = behind;
      procs_are = c.as_slice-procs.ensures;
      start_is = c.new-out.ensures;
      header_is = c.in_ok-append_header.ensures;
      row_appended = c.in_ok-append_converted_tags.ensures;
      behind_is = c.split_at.ensures.back;
      all_is = c.in_ok-extend_from_slice.ensures.ok;
    })
