-- What the contents of tags spell. A word is 32 bits, its lowest byte first.
use Rattle.std.specs.Prelude.{◌≡◌, ◌<◌, ◌≤◌, ℕ, ◌+◌, ◌*◌, ◌/◌, ◌-◌, ◌^◌, ◌==◌, nat_le, if◌then◌else◌, List, [], ◌∷◌, ◌++◌, length, take}
use Rattle.std.specs.Prelude.{drop, Option, Some, None, is_some, IfSome}
use Rattle.std.specs.List.{flat_map, AllByRecursion}
use Rattle.byteorder.specs.Endian.{little_bytes, little_number}
use Rattle.kernel_args.specs.declared.args.Args.{Args}
use Rattle.kernel_args.specs.declared.args.ProcArgs.{ProcArgs}
use Rattle.kernel_args.specs.declared.args.Section.{Section}
use Rattle.kernel_args.specs.declared.args.ProcName.{ProcName}

-- the four bytes of a word
abbrev pub word : ℕ → List ℕ
word n = little_bytes 4 n

-- `XArg`: the size of the row of tags in words; the version; RAM start; RAM size; four RAM name bytes
abbrev pub header_contents : Args → List ℕ
header_contents args = word args.words ++ (word args.version ++ (word args.ram_start ++ (word args.ram_size ++ args.ram_name)))

-- a section: its address in one word; in the second its size in the low 24 bits and its flags above
abbrev pub section_bytes : Section → List ℕ
section_bytes s = word s.addr ++ (little_bytes 3 s.size ++ s.flags ∷ [])

-- Flags are a sum of 1, 2, 4, 8 and 16.
pub record IsSection (s : Section) : Type 0 where
  pub addr : s.addr < 2 ^ 32
  pub size : s.size < 2 ^ 24
  pub flags : s.flags < 32

-- the section at the front of bytes, whatever its flags are, and the bytes after it
abbrev pub front_section : List ℕ → Option (Section × List ℕ)
front_section (a ∷ b ∷ c ∷ d ∷ k ∷ l ∷ m ∷ flags ∷ bytes) =
    Some (record { addr = little_number 4 (a ∷ b ∷ c ∷ d ∷ []); size = little_number 3 (k ∷ l ∷ m ∷ []); flags = flags }, bytes)
front_section bytes = None

-- The check word of a process, where it is given, holds the check number of its sections' bytes in the file
-- in its low 16 bits.
abbrev pub check_word : Option ℕ → List ℕ
check_word None = []
check_word (Some check) = word check

-- It is given exactly in version 2.
abbrev pub HasCheck : ℕ → ProcArgs → Type 0
HasCheck version p = is_some p.check ≡ (version == 2)

-- `IniE`: the load offset in the file, the entry, the check word, and the sections
abbrev pub process_contents : ProcArgs → List ℕ
process_contents p = word p.load ++ (word p.entry ++ (check_word p.check ++ flat_map section_bytes p.sections))

-- its numbers are words, a check word is there exactly in version 2, and it has one to 32 sections
pub record IsProcess (version : ℕ) (p : ProcArgs) : Type 0 where
  pub load : p.load < 2 ^ 32
  pub entry : p.entry < 2 ^ 32
  pub has_check : HasCheck version p
  pub check : IfSome p.check (λ c. c < 2 ^ 16)
  pub some : 1 ≤ length p.sections
  pub few : length p.sections ≤ 32
  pub sections : AllByRecursion IsSection p.sections

-- the contents are those of an `IniE` of this process in an image of this version
pub record SpellsProcess (version : ℕ) (contents : List ℕ) (p : ProcArgs) : Type 0 where
  pub is_process : IsProcess version p
  pub contents_are : contents ≡ process_contents p

-- `SwpS`: the number of slots
abbrev pub slots_contents : ℕ → List ℕ
slots_contents slots = word slots

-- An entry of `PNam` is a name of a process and the bytes after it up to a whole word, which may be any.
pub record Entry : Type 0 where
  pub pid : ℕ
  pub name : List ℕ
  pub padding : List ℕ

-- this many bytes up to a whole word
abbrev pub padded : ℕ → ℕ
padded n = (n + 3) / 4 * 4

-- the pid, the length of the name in bytes, the name and its padding
abbrev pub entry_bytes : Entry → List ℕ
entry_bytes e = word e.pid ++ (word (length e.name) ++ (e.name ++ e.padding))

-- its numbers are words, and its padding fills the last one
pub record IsEntry (e : Entry) : Type 0 where
  pub pid : e.pid < 2 ^ 32
  pub len : length e.name < 2 ^ 32
  pub padding : length e.name + length e.padding ≡ padded (length e.name)

-- entries fill the contents of a `PNam`
pub record SpellsNames (contents : List ℕ) (es : List Entry) : Type 0 where
  pub each : AllByRecursion IsEntry es
  pub contents_are : contents ≡ flat_map entry_bytes es

-- the whole entry at the front of bytes, and the bytes after it
abbrev pub front_entry : List ℕ → Option (Entry × List ℕ)
front_entry (a ∷ b ∷ c ∷ d ∷ k ∷ l ∷ m ∷ n ∷ bytes) =
    let len = little_number 4 (k ∷ l ∷ m ∷ n ∷ []) in
    if nat_le (padded len) (length bytes)
    then Some (
      record {
        pid = little_number 4 (a ∷ b ∷ c ∷ d ∷ []);
        name = take len bytes;
        padding = take (padded len - len)
            (drop len bytes);
      },
      drop (padded len) bytes,
    )
    else None
front_entry bytes = None

-- the name that an entry spells
abbrev pub name_of : Entry → ProcName
name_of e = record { pid = e.pid; name = e.name }
