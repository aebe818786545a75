-- What the readers of the parts of an image answer.
use Rattle.std.specs.Prelude.{◌≡◌, ◌<◌, ◌≤◌, ℕ, ◌^◌, ◌==◌, Bool, true, false, List, [], ◌∷◌, ◌++◌, length, map, take, drop, Option, Some}
use Rattle.std.specs.Prelude.{None, is_some, IfSome}
use Rattle.std.specs.List.{flat_map, AllByRecursion, list_any}
use Rattle.std.specs.Option.{option_to_list}
use Rattle.kernel_args.specs.declared.args.ProcArgs.{ProcArgs}
use Rattle.kernel_args.specs.declared.args.ProcName.{ProcName}
use Rattle.kernel_args.specs.declared.args.Section.{Section}
use Rattle.kernel_args.specs.declared.found.Found.{Found}
use Rattle.kernel_args.specs.declared.header.Header.{Header}
use Rattle.kernel_args.specs.declared.tag.TagAt.{TagAt}
use Rattle.kernel_args.specs.Joined.{cut}
use Rattle.kernel_args.specs.Tags.{Tag, IsTag, tag_bytes, front_tag}
use Rattle.kernel_args.specs.Contents.{section_bytes, IsSection, front_section, check_word, slots_contents, SpellsProcess, Entry}
use Rattle.kernel_args.specs.Contents.{SpellsNames, front_entry, name_of}
use Rattle.kernel_args.specs.Image.{process_limit, Parts, SpellsTags}
use Rattle.kernel_args.specs.Faults.{number_at, version_of, has_unknown_flag, is_bad_process, is_bad_names, is_bad_slots, Before}

-- a tag without where it lies
abbrev pub tag_of : TagAt → Tag
tag_of t = record { name = t.name.now; check = t.check; contents = t.contents.now }

-- the tag stands at the front of the bytes, and these bytes follow it
pub record FrontTag (bytes : List ℕ) (t : Tag) (rest : List ℕ) : Type 0 where
  pub front : front_tag bytes ≡ Some (t, rest)
  pub is_tag : IsTag t
  pub parts : bytes ≡ tag_bytes t ++ rest

-- the sections of the bytes; none exactly where a flag is unknown
abbrev pub GivesSections : List ℕ → Option (List Section) → Type 0
GivesSections bytes (Some ss) = (bytes ≡ flat_map section_bytes ss) × AllByRecursion IsSection ss
GivesSections bytes None = list_any has_unknown_flag (cut front_section bytes).items ≡ true

-- the bytes begin with this check word, which is there exactly in version 2, and these bytes follow it
pub record FrontCheck (version : ℕ) (bytes : List ℕ) (check : Option ℕ) (rest : List ℕ) : Type 0 where
  pub has_check : is_some check ≡ (version == 2)
  pub fits : IfSome check (λ c. c < 2 ^ 16)
  pub parts : bytes ≡ check_word check ++ rest

-- the process of the contents; none only where they are bad
abbrev pub GivesProcess : ℕ → List ℕ → Option ProcArgs → Type 0
GivesProcess version contents (Some p) = SpellsProcess version contents p
GivesProcess version contents None = is_bad_process version contents ≡ true

-- an entry with this pid and name stands at the front of the bytes, and these bytes follow it
abbrev pub FrontEntry : List ℕ → ℕ → List ℕ → List ℕ → Type 0
FrontEntry bytes pid name rest = (e : Entry) × (front_entry bytes ≡ Some (e, rest)) × (name_of e ≡ record { pid = pid; name = name })

-- the new names are the old ones and those of the contents; false only where the contents are bad
abbrev pub GivesNames : List ℕ → List ProcName → List ProcName → Bool → Type 0
GivesNames contents old new true = (es : List Entry) × SpellsNames contents es × (new ≡ old ++ map name_of es)
GivesNames contents old new false = is_bad_names contents ≡ true

-- the slots of the contents; none only where they are bad
abbrev pub GivesSlots : List ℕ → Option ℕ → Type 0
GivesSlots contents (Some n) = (contents ≡ slots_contents n) × (n ≤ 16384)
GivesSlots contents None = is_bad_slots contents ≡ true

-- what stands in the first tag
pub record HeaderIs (bytes : List ℕ) (h : Header) : Type 0 where
  pub words_is : number_at 4 8 bytes ≡ h.words
  pub version_is : version_of bytes ≡ h.version
  pub start_is : number_at 4 16 bytes ≡ h.ram_start
  pub size_is : number_at 4 20 bytes ≡ h.ram_size
  pub name_is : take 4 (drop 24 bytes) ≡ h.ram_name

-- the parts that were found
abbrev pub parts_in : Found → Parts
parts_in f = record { procs = f.procs; names = f.names; slots = option_to_list f.slots }

-- what stands before a tag at this offset, behind tags in which these parts were found
abbrev pub before_with : ℕ → ℕ → Found → Before
before_with version offset f =
    record { version = version; offset = offset; processes = length f.procs; slots = length (option_to_list f.slots) }

-- parts and then others
abbrev pub joined : Parts → Parts → Parts
joined a b = record { procs = a.procs ++ b.procs; names = a.names ++ b.names; slots = a.slots ++ b.slots }

-- the new parts are the old ones and those that the tag spells
pub record AddsTag (version : ℕ) (t : Tag) (old new : Found) : Type 0 where
  pub parts : Parts
  pub spells : SpellsTags version (t ∷ []) parts
  pub new_is : parts_in new ≡ joined (parts_in old) parts
  pub few : length new.procs ≤ process_limit version

-- the row behind the first tag spells the parts that were found, of which one is a process
pub record SpellsRow (version : ℕ) (row : List ℕ) (f : Found) : Type 0 where
  pub tags : List Tag
  pub row_is : row ≡ flat_map tag_bytes tags
  pub spells : SpellsTags version tags (parts_in f)
  pub some : 1 ≤ length f.procs
  pub few : length f.procs ≤ process_limit version
