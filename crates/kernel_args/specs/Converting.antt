-- The image of version 2 that an image of version 1 is converted into.
use Rattle.std.specs.Prelude.{◌≡◌, ◌<◌, ◌≤◌, ℕ, ◌+◌, ◌*◌, ◌-◌, ◌/◌, ◌^◌, Bool, false, if◌then◌else◌, List, [], ◌∷◌, ◌++◌, length, map}
use Rattle.std.specs.Prelude.{filter, take, drop, Some, None, codes, All}
use Rattle.std.specs.List.{flat_map}
use Rattle.kernel_args.specs.declared.args.Args.{Args}
use Rattle.kernel_args.specs.declared.args.ProcArgs.{ProcArgs}
use Rattle.kernel_args.specs.CheckNumber.{check_number}
use Rattle.kernel_args.specs.Joined.{cut}
use Rattle.kernel_args.specs.Tags.{Tag, tag_bytes, front_tag, has_name}
use Rattle.kernel_args.specs.Image.{header_tag, Spells}
use Rattle.kernel_args.specs.Writing.{with_load, process_tag}
use Rattle.kernel_args.specs.Loads.{file_sizes, loaded_bytes, is_load_outside}
use Rattle.xk_base.specs.declared.limits.TheConstants.{PROCESS_LIMIT}

-- the tags in a row of tags
abbrev pub tags_in : List ℕ → List Tag
tags_in row = (cut front_tag row).items

-- the row of tags of this many words at the front of an image, without its first tag, the header
abbrev pub row_behind_header : ℕ → List ℕ → List ℕ
row_behind_header words bytes = drop 28 (take (4 * words) bytes)

-- a tag that is left out: version 1 passes it over, and in version 2 it would give slots
abbrev pub is_left_out : Tag → Bool
is_left_out t = has_name (codes "SwpS") t

-- how many bytes of a row of tags are left out
abbrev pub left_out : List ℕ → ℕ
left_out row = length (flat_map tag_bytes (filter is_left_out (tags_in row)))

-- the size in bytes of the new row of tags: each process has a check word more, and the tags that are left out are
-- missing
abbrev pub converted_row : List ℕ → Args → ℕ
converted_row bytes args = 4 * args.words + 4 * length args.procs - left_out (row_behind_header args.words bytes)

-- The process with the check number of its bytes in the file. These stand as far behind the row of tags as before.
abbrev pub converted_process : List ℕ → ℕ → ℕ → ProcArgs → ProcArgs
converted_process bytes old_row new_row p =
    with_load (p.load - old_row + new_row) (Some (check_number (loaded_bytes bytes p))) p

-- the arguments of the new image
abbrev pub converted_args : List ℕ → Args → Args
converted_args bytes args = record args {
  words = converted_row bytes args / 4;
  version = 2;
  slots = None;
  procs = map (converted_process bytes (4 * args.words) (converted_row bytes args)) args.procs;
}

-- the tags in their order, of which the `IniE` have these processes now, without those that are left out
abbrev pub converted_tags : List ProcArgs → List Tag → List Tag
converted_tags ps [] = []
converted_tags ps (t ∷ ts) =
    if has_name (codes "IniE") t
    then map process_tag (take 1 ps) ++ converted_tags (drop 1 ps) ts
    else if is_left_out t
    then converted_tags ps ts
    else t ∷ converted_tags ps ts

-- the new row of tags, and the bytes behind the old one
unfoldable pub converted : List ℕ → Args → List ℕ
converted bytes args =
    let new = converted_args bytes args in
    flat_map tag_bytes (header_tag new ∷ converted_tags new.procs (tags_in (row_behind_header args.words bytes)))
    ++ drop (4 * args.words) bytes

-- the image has the row of tags that the arguments say, and a first tag in it
pub record IsRowOf (args : Args) (bytes : List ℕ) : Type 0 where
  pub header : 28 ≤ 4 * args.words
  pub within : 4 * args.words ≤ length bytes
  pub words : args.words < 2 ^ 32
  pub procs : length args.procs ≤ PROCESS_LIMIT

-- The bytes are an image of version 1 of these arguments, no process begins in the row of tags or passes the end of
-- the file, and the new image has at most 64 MiB.
pub record IsConvertible (bytes : List ℕ) (args : Args) : Type 0 where
  pub spelled : Spells bytes args
  pub first : args.version ≡ 1
  pub inside : All (λ p. is_load_outside args.words (length bytes) p ≡ false) args.procs
  pub short : length (converted bytes args) ≤ 67108864

-- The process's bytes stand in the file behind the old row of tags, and its new load offset is a word.
pub record CanMove (file : List ℕ) (old_row new_row : ℕ) (p : ProcArgs) : Type 0 where
  pub few : length p.sections ≤ 32
  pub behind : old_row ≤ p.load
  pub within : p.load + file_sizes p.sections ≤ length file
  pub fits : p.load - old_row + new_row < 2 ^ 32
