use Rattle.std.proofs.Common.{◌≡◌, ◌++◌, take}
use Rattle.std.specs.List.{flat_map}
use Rattle.kernel_args.specs.Contents.{word, check_word, section_bytes}
use Rattle.kernel_args.proofs.appending.process_contents.Given as goal

abbrev pub invariant-loop-section : goal.invariant-loop-section
invariant-loop-section l =
    l.out ≡ word l.fn.load ++ (word l.process.entry ++ (check_word l.fn.check ++ flat_map section_bytes (take l.section-index l.process.sections)))
