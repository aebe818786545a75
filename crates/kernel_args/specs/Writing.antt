-- The row of tags that is written for arguments.
use Rattle.std.specs.Prelude.{◌≡◌, ◌<◌, ℕ, ◌+◌, ◌*◌, ◌-◌, ◌^◌, min, List, [], ◌∷◌, ◌++◌, length, map, replicate, Option, Some, None, codes}
use Rattle.std.specs.Prelude.{All, IfSome}
use Rattle.std.specs.List.{flat_map}
use Rattle.kernel_args.specs.declared.args.Args.{Args}
use Rattle.kernel_args.specs.declared.args.ProcArgs.{ProcArgs}
use Rattle.kernel_args.specs.declared.args.ProcName.{ProcName}
use Rattle.kernel_args.specs.CheckNumber.{check_number}
use Rattle.kernel_args.specs.Tags.{Tag, tag_bytes}
use Rattle.kernel_args.specs.Contents.{check_word, HasCheck, process_contents, slots_contents, Entry, padded, entry_bytes}
use Rattle.kernel_args.specs.Image.{header_tag}
use Rattle.kernel_args.specs.Faults.{args_fault}

-- the arguments in an image of this version, whose row of tags has this many words
abbrev pub with_size : ℕ → ℕ → Args → Args
with_size words version args = record args { words = words; version = version }

-- the process with this load offset and check number
abbrev pub with_load : ℕ → Option ℕ → ProcArgs → ProcArgs
with_load load check p = record p { load = load; check = check }

-- the tag with these contents and their check number
abbrev pub right_tag : List ℕ → List ℕ → Tag
right_tag name contents = record { name = name; check = check_number contents; contents = contents }

-- the `IniE` of a process
abbrev pub process_tag : ProcArgs → Tag
process_tag p = right_tag (codes "IniE") (process_contents p)

-- a name, padded with zeros
abbrev pub written_entry : ProcName → Entry
written_entry n = record { pid = n.pid; name = n.name; padding = replicate (padded (length n.name) - length n.name) 0 }

-- the contents of the `PNam` of names
abbrev pub names_contents : List ProcName → List ℕ
names_contents ns = flat_map (λ n. entry_bytes (written_entry n)) ns

-- one `PNam` where there is a name
abbrev pub names_tags : List ProcName → List Tag
names_tags [] = []
names_tags (n ∷ ns) = right_tag (codes "PNam") (names_contents (n ∷ ns)) ∷ []

-- one `SwpS` where slots are given
abbrev pub slots_tags : Option ℕ → List Tag
slots_tags None = []
slots_tags (Some n) = right_tag (codes "SwpS") (slots_contents n) ∷ []

-- behind the header: the slots, the processes in order, then the names
abbrev pub written_tags : Args → List Tag
written_tags args = slots_tags args.slots ++ (map process_tag args.procs ++ names_tags args.names)

-- the bytes of the header, of the slots, of a process, of the names, and of all of them in order
unfoldable pub header_row : Args → List ℕ
header_row args = tag_bytes (header_tag args)

unfoldable pub slots_row : Option ℕ → List ℕ
slots_row slots = flat_map tag_bytes (slots_tags slots)

unfoldable pub process_row : ProcArgs → List ℕ
process_row p = tag_bytes (process_tag p)

unfoldable pub names_row : List ProcName → List ℕ
names_row ns = flat_map tag_bytes (names_tags ns)

unfoldable pub written : Args → List ℕ
written args = flat_map tag_bytes (header_tag args ∷ written_tags args)

-- the size in bytes of the row of a process that has at most 32 sections
abbrev pub row_size : ProcArgs → ℕ
row_size p = 16 + length (check_word p.check) + 8 * min (length p.sections) 32

-- a word holds the pid
abbrev pub HasPid : ProcName → Type 0
HasPid n = n.pid < 2 ^ 32

-- each number of the process fits the field that it is written to
pub record HasFittingNumbers (p : ProcArgs) : Type 0 where
  pub load : p.load < 2 ^ 32
  pub entry : p.entry < 2 ^ 32
  pub check : IfSome p.check (λ c. c < 2 ^ 16)
  pub addrs : All (λ s. s.addr < 2 ^ 32) p.sections
  pub sizes : All (λ s. s.size < 2 ^ 24) p.sections

-- Arguments can be written where each number fits the field that it is written to, each process has a check
-- number exactly in version 2, slots are given only in version 2, the size of what is written is the one that
-- the arguments say, the size of each tag fits its length field, a number of words in 16 bits, and what is
-- written has no fault. Of the numbers only the size of a section can fail to fit, since the others have the
-- bits of their fields.
pub record IsWritable (args : Args) : Type 0 where
  pub words_fit : args.words < 2 ^ 32
  pub version_fits : args.version < 2 ^ 32
  pub start_fits : args.ram_start < 2 ^ 32
  pub size_fits : args.ram_size < 2 ^ 32
  pub name_fits : length args.ram_name ≡ 4
  pub procs_fit : All HasFittingNumbers args.procs
  pub pids_fit : All HasPid args.names
  pub slots_fit : IfSome args.slots (λ n. n < 2 ^ 32)
  pub has_checks : All (HasCheck args.version) args.procs
  pub slots_in_second : IfSome args.slots (λ _. args.version ≡ 2)
  pub lengths_fit : All (λ t. length t.contents < 4 * 65536) (written_tags args)
  pub words : length (written args) ≡ 4 * args.words
  pub no_fault : args_fault (written args) ≡ None
