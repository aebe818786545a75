use Rattle.std.proofs.Common.{◌≡◌, ◌++◌, map, length}
use Rattle.std.specs.List.{flat_map, AllByRecursion}
use Rattle.kernel_args.specs.Tags.{tag_bytes}
use Rattle.kernel_args.specs.Image.{IsRightTag}
use Rattle.kernel_args.specs.Converting.{tags_in, converted_process, converted_tags, CanMove}
use Rattle.kernel_args.proofs.converting.append_converted_tags.Given as goal

-- what the tags that are left become stands behind what was appended
abbrev pub invariant-loop-tag : goal.invariant-loop-tag
invariant-loop-tag l = record {
  bytes :
      l.out ++ flat_map tag_bytes (converted_tags (map (converted_process l.file l.sizes.old l.sizes.new) l.procs) (tags_in l.rest))
      ≡ l.fn.out ++ flat_map tag_bytes (converted_tags (map (converted_process l.file l.sizes.old l.sizes.new) l.fn.procs) (tags_in l.row));
  tags : AllByRecursion IsRightTag (tags_in l.rest);
  can_move : AllByRecursion (CanMove l.file l.sizes.old l.sizes.new) l.procs;
}

abbrev pub decreases-loop-tag : goal.decreases-loop-tag
decreases-loop-tag l = length l.rest
