use Rattle.std.proofs.Common.{◌≡◌, ◌+◌, ◌≤◌, length, take}
use Rattle.std.specs.List.{suffix_len}
use Rattle.order_text.specs.Names.{is_blank}
use Rattle.order_text.proofs.names.length_without_blanks.Given as goal

-- behind the end are blanks
abbrev pub invariant-loop-end : goal.invariant-loop-end
invariant-loop-end l = record {
  within : l.end ≤ length l.letters;
  blanks : l.end + suffix_len is_blank l.letters ≡ length l.letters + suffix_len is_blank (take l.end l.letters);
}

abbrev pub decreases-loop-end : goal.decreases-loop-end
decreases-loop-end l = l.end
