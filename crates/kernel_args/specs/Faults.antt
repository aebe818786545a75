-- The faults of an image, in the order in which they are looked for.
use Rattle.std.specs.Prelude.{◌≡◌, ℕ, ◌+◌, ◌*◌, ◌/◌, ◌%◌, Bool, not, ◌&&◌, ◌||◌, ◌==◌, nat_eq, nat_lt, nat_le, if◌then◌else◌, List, [], ◌∷◌}
use Rattle.std.specs.Prelude.{length, take, drop, Option, Some, None, codes}
use Rattle.std.specs.Option.{option_or}
use Rattle.std.specs.List.{list_any}
use Rattle.std.specs.Cmp.Lexicographic.{pointwise}
use Rattle.byteorder.specs.Endian.{little_number}
use Rattle.kernel_args.specs.declared.args.Section.{Section}
use Rattle.kernel_args.specs.declared.faults.ArgFault.{ArgFault}
use Rattle.kernel_args.specs.declared.faults.ArgsError.{ArgsError}
use Rattle.kernel_args.specs.declared.faults.ArgsError.TheVariants as errors
use Rattle.kernel_args.specs.FaultNumbers.{too_short, not_xarg, bad_version, bad_total, bad_check, bad_ram, no_process, too_many_processes}
use Rattle.kernel_args.specs.FaultNumbers.{bad_ini, bad_names, bad_slots}
use Rattle.kernel_args.specs.CheckNumber.{check_number}
use Rattle.kernel_args.specs.Joined.{cut}
use Rattle.kernel_args.specs.Tags.{Tag, front_tag, has_name, is_slots}
use Rattle.kernel_args.specs.Contents.{front_section, front_entry}
use Rattle.kernel_args.specs.Image.{process_limit}

-- a fault, and whether it holds
abbrev pub Check : Type 0
Check = Bool × ArgFault

infix 5 ◌⇒◌at◌
abbrev pub ◌⇒◌at◌ : Bool → ℕ → ℕ → Check
test ⇒ what at place = (test, record { what = what; at = place })

-- the first fault that holds
abbrev pub first_fault : List Check → Option ArgFault
first_fault [] = None
first_fault (c ∷ cs) = if c.0 then Some c.1 else first_fault cs

-- the number of n bytes at an offset
abbrev pub number_at : ℕ → ℕ → List ℕ → ℕ
number_at n offset bytes = little_number n (drop offset bytes)

-- the size of the row of tags in bytes, as the first tag says
abbrev pub row_size : List ℕ → ℕ
row_size bytes = 4 * number_at 4 8 bytes

-- the first four bytes aren't `XArg`, or the length isn't five words
unfoldable pub is_not_xarg : List ℕ → Bool
is_not_xarg bytes = not (pointwise nat_eq (take 4 bytes) (codes "XArg")) || not (number_at 2 6 bytes == 5)

-- the check number of the first tag isn't that of its contents, five words
unfoldable pub is_bad_header_check : List ℕ → Bool
is_bad_header_check bytes = not (number_at 2 4 bytes == check_number (take 20 (drop 8 bytes)))

-- the version that the first tag says
abbrev pub version_of : List ℕ → ℕ
version_of bytes = number_at 4 12 bytes

-- neither version 1 nor version 2
abbrev pub is_bad_version : ℕ → Bool
is_bad_version version = not (version == 1 || version == 2)

-- below seven words, or past the end of the file
unfoldable pub is_bad_total : List ℕ → Bool
is_bad_total bytes = nat_lt (row_size bytes) 28 || nat_lt (length bytes) (row_size bytes)

-- start or size isn't a multiple of 4096, size is 0 or above 64 MiB, or RAM passes 0xF0000000
unfoldable pub is_bad_ram : ℕ → ℕ → Bool
is_bad_ram start size =
    not (start % 4096 == 0) || not (size % 4096 == 0) || size == 0 || nat_lt 67108864 size || nat_lt 0xF0000000 (start + size)

-- the faults of the first tag
unfoldable pub header_faults : List ℕ → List Check
header_faults bytes =
    (nat_lt (length bytes) 28 ⇒ too_short at 0)
    ∷ (is_not_xarg bytes ⇒ not_xarg at 0)
    ∷ (is_bad_header_check bytes ⇒ bad_check at 0)
    ∷ (is_bad_version (version_of bytes) ⇒ bad_version at 12)
    ∷ (is_bad_total bytes ⇒ bad_total at 8)
    ∷ (is_bad_ram (number_at 4 16 bytes) (number_at 4 20 bytes) ⇒ bad_ram at 16)
    ∷ []

-- a flag is none of 1, 2, 4, 8 and 16
abbrev pub has_unknown_flag : Section → Bool
has_unknown_flag s = nat_lt 31 s.flags

-- in version 2 the `IniE` has below five words, an even number of words, or more than 67; in version 1 it has below
-- four, an odd number, or more than 66
abbrev pub is_bad_length : ℕ → ℕ → Bool
is_bad_length version words =
    if version == 2
    then nat_lt words 5 || words % 2 == 0 || nat_lt 67 words
    else nat_lt words 4 || words % 2 == 1 || nat_lt 66 words

-- the bytes behind the entry begin with a check word above 16 bits; in version 1 no check word is there
abbrev pub is_bad_check : ℕ → List ℕ → Bool
is_bad_check version bytes = version == 2 && nat_lt 0xFFFF (little_number 4 bytes)

-- where the sections begin in the contents: behind the load offset, the entry, and in version 2 the check word
abbrev pub sections_offset : ℕ → ℕ
sections_offset version = if version == 2 then 12 else 8

-- a length without whole sections, a check word above 16 bits, or a section flag outside 1, 2, 4, 8 and 16
abbrev pub is_bad_process : ℕ → List ℕ → Bool
is_bad_process version contents =
    is_bad_length version (length contents / 4) || is_bad_check version (drop 8 contents)
    || list_any has_unknown_flag (cut front_section (drop (sections_offset version) contents)).items

-- the entries don't fill the contents exactly
abbrev pub is_bad_names : List ℕ → Bool
is_bad_names contents = not (length (cut front_entry contents).rest == 0)

-- the number of slots isn't one word, or is above 16,384
abbrev pub is_bad_slots : List ℕ → Bool
is_bad_slots contents = not (length contents == 4) || nat_lt 16384 (little_number 4 contents)

-- what stands before a tag
pub record Before : Type 0 where
  -- the version of the image
  pub version : ℕ
  -- the offset of the tag
  pub offset : ℕ
  -- how many `IniE` there were
  pub processes : ℕ
  -- how many `SwpS` were read
  pub slots : ℕ

-- what stands before the first tag behind the header
abbrev pub at_start : ℕ → Before
at_start version = record { version = version; offset = 28; processes = 0; slots = 0 }

-- what stands before the next tag
abbrev pub behind : Before → Tag → Before
behind before t = record {
  version = before.version;
  offset = before.offset + 8 + length t.contents;
  processes = if has_name (codes "IniE") t then before.processes + 1 else before.processes;
  slots = if is_slots before.version t then before.slots + 1 else before.slots;
}

-- the faults of a whole tag
abbrev pub tag_faults : Before → Tag → List Check
tag_faults before t =
    (not (t.check == check_number t.contents) ⇒ bad_check at before.offset)
    ∷ ((has_name (codes "IniE") t && nat_le (process_limit before.version) before.processes) ⇒ too_many_processes at before.offset)
    ∷ ((has_name (codes "IniE") t && is_bad_process before.version t.contents) ⇒ bad_ini at before.offset)
    ∷ ((has_name (codes "PNam") t && is_bad_names t.contents) ⇒ bad_names at before.offset)
    ∷ ((is_slots before.version t && (is_bad_slots t.contents || nat_le 1 before.slots)) ⇒ bad_slots at before.offset)
    ∷ []

-- the faults where the whole tags of the row end: a part of a tag is left, or there was no process
abbrev pub end_faults : Before → List ℕ → List Check
end_faults before rest =
    (not (length rest == 0) ⇒ bad_total at before.offset)
    ∷ ((before.processes == 0) ⇒ no_process at before.offset)
    ∷ []

-- the first fault of tags in order, and of what is left
abbrev pub tags_fault : Before → List Tag → List ℕ → Option ArgFault
tags_fault before [] rest = first_fault (end_faults before rest)
tags_fault before (t ∷ ts) rest = option_or (first_fault (tag_faults before t)) (tags_fault (behind before t) ts rest)

-- the first fault of a row of tags
unfoldable pub row_fault : Before → List ℕ → Option ArgFault
row_fault before row = let tags = cut front_tag row in tags_fault before tags.items tags.rest

-- the first fault of an image
unfoldable pub args_fault : List ℕ → Option ArgFault
args_fault bytes =
    option_or (first_fault (header_faults bytes)) (row_fault (at_start (version_of bytes)) (drop 28 (take (row_size bytes) bytes)))

-- The error is this fault; want of memory is free.
abbrev pub IsFault : Option ArgFault → ArgsError → Type 0
IsFault fault (errors.Fault f) = fault ≡ Some f
IsFault fault errors.NoMemory = Unit {0}
