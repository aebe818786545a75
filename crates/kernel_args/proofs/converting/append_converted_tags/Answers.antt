use Rattle.std.specs.List.{flat_map}
use Rattle.std.proofs.Common.{◌++◌, map}
use Rattle.kernel_args.specs.Tags.{tag_bytes}
use Rattle.kernel_args.specs.Image.{IsRightTag}
use Rattle.kernel_args.specs.Reading.{tag_of}
use Rattle.kernel_args.specs.Converting.{tags_in, converted_process, converted_tags}
use Rattle.kernel_args.proofs.ConvertingLemmas.{tag_appended, all_appended, each_front}
use Rattle.kernel_args.proofs.converting.append_converted_tags.Goals as goal

pub append_converted_tag-requires-clause-tag : goal.append_converted_tag-requires-clause-tag
append_converted_tag-requires-clause-tag c =
    (each_front IsRightTag c.loop-tag.rest.now (tag_of c.in-Some.tag) c.in-Some.after.now c.in-Some.ensures c.loop-tag.invariant.tags).0

pub loop-tag-preserved : goal.loop-tag-preserved
loop-tag-preserved c =
    let f = converted_process c.args.file.now c.args.sizes.old c.args.sizes.new in
    let all = c.args.out.now ++ flat_map tag_bytes (converted_tags (map f c.args.procs.now) (tags_in c.args.row.now)) in
    record {
      bytes =
          tag_appended f c.loop-tag.out c.append_converted_tag.new.out c.loop-tag.procs.now c.in_ok-procs.procs.now c.loop-tag.rest.now (tag_of c.in-Some.tag) c.in-Some.after.now all
          c.in-Some.ensures c.in_ok-procs.ensures.bytes c.loop-tag.invariant.bytes;
      tags = (each_front IsRightTag c.loop-tag.rest.now (tag_of c.in-Some.tag) c.in-Some.after.now c.in-Some.ensures c.loop-tag.invariant.tags).1;
      can_move = c.in_ok-procs.ensures.left;
    }

pub returns : goal.returns
returns c =
    let f = converted_process c.args.file.now c.args.sizes.old c.args.sizes.new in
    let all = c.args.out.now ++ flat_map tag_bytes (converted_tags (map f c.args.procs.now) (tags_in c.args.row.now)) in
    all_appended c.loop-tag.out c.loop-tag.rest.now all (map f c.loop-tag.procs.now) c.in_default.ensures c.loop-tag.invariant.bytes
