-- The grammar of images: which arguments bytes spell.
use Rattle.std.specs.Prelude.{◌≡◌, ◌<◌, ◌≤◌, ℕ, ◌+◌, ◌*◌, ◌%◌, ◌^◌, ◌⊎◌, ◌==◌, if◌then◌else◌, List, ◌∷◌, ◌++◌, length, map, codes, All}
use Rattle.std.specs.Prelude.{IfSome}
use Rattle.std.specs.List.{flat_map, AllByRecursion}
use Rattle.std.specs.Option.{option_to_list}
use Rattle.kernel_args.specs.declared.args.Args.{Args}
use Rattle.kernel_args.specs.declared.args.ProcArgs.{ProcArgs}
use Rattle.kernel_args.specs.declared.args.ProcName.{ProcName}
use Rattle.kernel_args.specs.CheckNumber.{check_number}
use Rattle.kernel_args.specs.Tags.{Tag, IsTag, tag_bytes, has_name, is_slots, contents_of}
use Rattle.kernel_args.specs.Contents.{header_contents, process_contents, HasCheck, IsProcess, slots_contents, Entry, IsEntry, entry_bytes}
use Rattle.kernel_args.specs.Contents.{name_of}
use Rattle.xk_base.specs.declared.limits.TheConstants.{PROCESS_LIMIT, FIRST_PROCESS_LIMIT}

-- RAM is whole pages of 4096 bytes, at most 64 MiB, and ends at or below the console at 0xF000_0000.
pub record IsRam (start size : ℕ) : Type 0 where
  pub start_whole : start % 4096 ≡ 0
  pub size_whole : size % 4096 ≡ 0
  pub some : 0 < size
  pub few : size ≤ 67108864
  pub below : start + size ≤ 0xF0000000

-- an image of version 1 has up to 32 processes, one of version 2 up to 64
abbrev pub process_limit : ℕ → ℕ
process_limit version = if version == 2 then PROCESS_LIMIT else FIRST_PROCESS_LIMIT

-- one to 32 sections, no section flag but 1, 2, 4, 8 and 16, and a check number exactly in version 2
pub record IsSoundProcess (version : ℕ) (p : ProcArgs) : Type 0 where
  pub has_check : HasCheck version p
  pub some : 1 ≤ length p.sections
  pub few : length p.sections ≤ 32
  pub flags : All (λ s. s.flags < 32) p.sections

-- What a plan of the first pages asks of arguments: they have a header of version 1 or 2, RAM that can be
-- had, one process or more up to the limit of the version, each with sections in the limits of an image, and at
-- most 16,384 slots, which are given only in version 2.
pub record IsSoundArgs (args : Args) : Type 0 where
  pub words : 7 ≤ args.words
  pub version : (args.version ≡ 1) ⊎ (args.version ≡ 2)
  pub ram : IsRam args.ram_start args.ram_size
  pub some : 1 ≤ length args.procs
  pub few : length args.procs ≤ process_limit args.version
  pub procs : All (IsSoundProcess args.version) args.procs
  pub slots : IfSome args.slots (λ n. (args.version ≡ 2) × (n ≤ 16384))

-- the `XArg` of arguments
abbrev pub header_tag : Args → Tag
header_tag args = record { name = codes "XArg"; check = check_number (header_contents args); contents = header_contents args }

-- it has the check number of its contents
pub record IsRightTag (t : Tag) : Type 0 where
  pub tag : IsTag t
  pub right : t.check ≡ check_number t.contents

-- what tags spell: processes, names, and numbers of slots
pub record Parts : Type 0 where
  pub procs : List ProcArgs
  pub names : List ProcName
  pub slots : List ℕ

-- what the tags of arguments spell: of slots there is one number at most
abbrev pub parts_of : Args → Parts
parts_of args = record { procs = args.procs; names = args.names; slots = option_to_list args.slots }

-- The tags after the first spell these parts in an image of this version: the contents of the `IniE` in order
-- are the processes, those of the `PNam` are entries, which joined in order have the names, and those of the
-- `SwpS` that are read are the numbers of slots. Any other tag is passed over, a second `XArg` too.
pub record SpellsTags (version : ℕ) (tags : List Tag) (parts : Parts) : Type 0 where
  pub each : AllByRecursion IsRightTag tags
  pub processes : contents_of (has_name (codes "IniE")) tags ≡ map process_contents parts.procs
  pub each_process : AllByRecursion (IsProcess version) parts.procs
  pub entries : List (List Entry)
  pub each_entry : AllByRecursion (AllByRecursion IsEntry) entries
  pub joined : contents_of (has_name (codes "PNam")) tags ≡ map (flat_map entry_bytes) entries
  pub names_are : map name_of (flat_map (λ es. es) entries) ≡ parts.names
  pub slots : contents_of (is_slots version) tags ≡ map slots_contents parts.slots
  pub few_slots : AllByRecursion (λ n. n ≤ 16384) parts.slots

-- The bytes are a row of tags, whose size is the one it says, and a rest. The row is an `XArg` tag, then
-- tags, of which in version 2 the one `SwpS` has the slots; without one, as in version 1, none are given.
pub record Spells (bytes : List ℕ) (args : Args) : Type 0 where
  pub tags : List Tag
  pub rest : List ℕ
  pub whole : bytes ≡ flat_map tag_bytes (header_tag args ∷ tags) ++ rest
  pub size : length (flat_map tag_bytes (header_tag args ∷ tags)) ≡ 4 * args.words
  pub words : args.words < 2 ^ 32
  pub ram_name : length args.ram_name ≡ 4
  pub spelled : SpellsTags args.version tags (parts_of args)
  pub sound : IsSoundArgs args
