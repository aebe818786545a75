-- Arguments that can be written are within the limits of an image.
use Rattle.std.proofs.Common.{◌≡◌, ℕ, ◌+◌, ◌*◌, ◌/◌, ◌^◌, ◌<◌, ◌≤◌, ◌⊎◌, Option, Some, eqb, false, List, [], ◌∷◌, ◌++◌, length, map, drop, None, refl, sym, ap, ◌∙◌, arith}
use Rattle.std.specs.Prelude.{codes, All, IfSome, IsTrue, ◌↔◌, nat_eq, nat_lt, not}
use Rattle.std.specs.List.{flat_map, AllByRecursion, list_any}
use Rattle.std.proofs.lemmas.List.{append-nil, take_all, drop_at}
use Rattle.std.proofs.lemmas.List.Elements.{All-from_recursion, recursion_from_All}
use Rattle.std.proofs.lemmas.Bool.{ltb-false, eqb-false, eqb-true, eq-eqb, or_parts}
use Rattle.byteorder.specs.Endian.{little_number}
use Rattle.kernel_args.specs.declared.args.Args.{Args}
use Rattle.kernel_args.specs.declared.args.ProcArgs.{ProcArgs}
use Rattle.kernel_args.specs.declared.args.ProcName.{ProcName}
use Rattle.kernel_args.specs.declared.args.Section.{Section}
use Rattle.kernel_args.specs.Joined.{Cut, cut}
use Rattle.kernel_args.specs.Tags.{Tag, IsTag, tag_bytes, front_tag, is_slots}
use Rattle.kernel_args.specs.Contents.{section_bytes, front_section, HasCheck, process_contents, IsProcess, slots_contents}
use Rattle.kernel_args.specs.Image.{IsRam, process_limit, header_tag, Spells}
use Rattle.kernel_args.specs.Faults.{first_fault, number_at, row_size, version_of, is_bad_version, is_bad_ram, header_faults, has_unknown_flag, sections_offset, is_bad_process, is_bad_slots, Before, at_start, behind, tag_faults, end_faults, tags_fault, row_fault, args_fault}
use Rattle.kernel_args.specs.Writing.{right_tag, process_tag, names_contents, names_tags, slots_tags, written_tags, slots_row, process_row, names_row, written, HasPid, HasFittingNumbers, IsWritable}
use Rattle.kernel_args.proofs.JoinedLemmas.{cut_joined}
use Rattle.kernel_args.proofs.NumberLemmas.{word_front}
use Rattle.kernel_args.proofs.TagLemmas.{tags, length-tag_bytes}
use Rattle.kernel_args.proofs.ContentLemmas.{IsSpelled, sections}
use Rattle.kernel_args.proofs.ProcessLemmas.{good_length, length-check_word, behind_check, with_flags}
use Rattle.kernel_args.proofs.RowFaultLemmas.{when_none, option_or_none, good_when_none}
use Rattle.kernel_args.proofs.HeaderLemmas.{IsHeader, header_in, begun_header, version_when_good, ram_when_good}
use Rattle.kernel_args.proofs.ImageLemmas.{row_of}
use Rattle.kernel_args.proofs.WritingLemmas.{length-contents, whole_process, length-written, whole_names, right, AreSlots, IsFit, fit_is_writable, fit_spells}

-- ---- one process

spelled_sections : (ss : List Section) → AllByRecursion (λ s. s.addr < 2 ^ 32) ss → AllByRecursion (λ s. s.size < 2 ^ 24) ss → AllByRecursion IsSpelled ss
spelled_sections [] addrs sizes = tt
spelled_sections (s ∷ ss) addrs sizes = (record { addr = addrs.0; size = sizes.0 }, spelled_sections ss addrs.1 sizes.1)

process_fits : (version : ℕ) (p : ProcArgs) → HasFittingNumbers p → HasCheck version p → is_bad_process version (process_contents p) ≡ false → IsProcess version p
process_fits version p h has good =
    let ss = p.sections in
    let len = length-contents p in
    let front = length-check_word (eqb version 2) p.check has in
    let a = or_parts _ _ good in
    let b = or_parts _ _ a.0 in
    let l = good_length version (length (process_contents p) / 4) b.0 in
    let is = l.is in
    let some = l.some in
    let few = l.few in
    let count : length ss ≡ l.count = omega arith in
    let each : AllByRecursion IsSpelled ss =
    spelled_sections ss (recursion_from_All (λ s. s.addr < 2 ^ 32) ss h.addrs) (recursion_from_All (λ s. s.size < 2 ^ 24) ss h.sizes) in
    let again : cut front_section (flat_map section_bytes ss) ≡ record { items = ss; rest = [] } =
    ap (cut front_section) (sym (append-nil (flat_map section_bytes ss))) ∙ cut_joined front_section section_bytes IsSpelled sections ss [] each refl in
    let behind : drop (sections_offset version) (process_contents p) ≡ flat_map section_bytes ss =
    behind_check (eqb version 2) p.check p.load p.entry (flat_map section_bytes ss) has in
    let flags : list_any has_unknown_flag ss ≡ false =
    ap (λ (c : Cut Section). list_any has_unknown_flag c.items) (sym again) ∙ ap (λ (l : List ℕ). list_any has_unknown_flag (cut front_section l).items) (sym behind) ∙ a.1 in
    record { load = h.load; entry = h.entry; has_check = has; check = h.check; some = omega arith; few = omega arith; sections = with_flags ss each flags }

-- ---- the tags

abbrev IsShort : Tag → Type 0
IsShort t = length t.contents < 4 * 65536

names_are_tags : (ns : List ProcName) → AllByRecursion IsShort (names_tags ns) → AllByRecursion IsTag (names_tags ns)
names_are_tags [] short = tt
names_are_tags (n ∷ ns) short = ((right (codes "PNam") (names_contents (n ∷ ns)) refl (whole_names (n ∷ ns)) short.0).tag, tt)

-- the tags behind the slots
abbrev behind_slots : List ProcArgs → List ProcName → List Tag
behind_slots ps ns = map process_tag ps ++ names_tags ns

are_tags : (ps : List ProcArgs) (ns : List ProcName) → AllByRecursion IsShort (behind_slots ps ns) → AllByRecursion IsTag (behind_slots ps ns)
are_tags [] ns short = names_are_tags ns short
are_tags (p ∷ ps) ns short =
    ((right (codes "IniE") (process_contents p) refl (whole_process p) short.0).tag, are_tags ps ns short.1)

all_are_tags : (slots : Option ℕ) (ps : List ProcArgs) (ns : List ProcName) → AllByRecursion IsShort (slots_tags slots ++ behind_slots ps ns)
    → AllByRecursion IsTag (slots_tags slots ++ behind_slots ps ns)
all_are_tags None ps ns short = are_tags ps ns short
all_are_tags (Some n) ps ns short = ((right (codes "SwpS") (slots_contents n) refl refl short.0).tag, are_tags ps ns short.1)

names_are_short : (ps : List ProcArgs) (ns : List ProcName) → AllByRecursion IsShort (behind_slots ps ns) → length (names_contents ns) < 4 * 65536
names_are_short [] [] short = omega arith
names_are_short [] (n ∷ ns) short = short.0
names_are_short (p ∷ ps) ns short = names_are_short ps ns short.1

all_names_are_short : (slots : Option ℕ) (ps : List ProcArgs) (ns : List ProcName) → AllByRecursion IsShort (slots_tags slots ++ behind_slots ps ns) → length (names_contents ns) < 4 * 65536
all_names_are_short None ps ns short = names_are_short ps ns short
all_names_are_short (Some n) ps ns short = names_are_short ps ns short.1

names_behind_a_process : (b : Before) (ns : List ProcName) → tags_fault b (names_tags ns) [] ≡ None → b.processes ≡ 0 → ⊥
names_behind_a_process b [] e zero_is = let h = when_none (end_faults b []) e in eqb-false b.processes 0 h.1.0 zero_is
names_behind_a_process b (m ∷ ns) e zero_is =
    let t = right_tag (codes "PNam") (names_contents (m ∷ ns)) in
    let g = option_or_none (first_fault (tag_faults b t)) (tags_fault (behind b t) [] []) e in
    let h = when_none (end_faults (behind b t) []) g.1 in eqb-false b.processes 0 h.1.0 zero_is

record IsGood (version n : ℕ) (ps : List ProcArgs) : Type 0 where
  few : n + length ps ≤ process_limit version
  some : n + length ps ≡ 0 → ⊥
  each : AllByRecursion (IsProcess version) ps

good_processes : (b : Before) (ps : List ProcArgs) (ns : List ProcName) → b.processes ≤ process_limit b.version → AllByRecursion HasFittingNumbers ps
    → AllByRecursion (HasCheck b.version) ps → tags_fault b (behind_slots ps ns) [] ≡ None → IsGood b.version b.processes ps
good_processes b [] ns few fits has e = record { few = omega arith; some = λ z. names_behind_a_process b ns e (omega arith); each = tt }
good_processes b (p ∷ ps) ns few fits has e =
    let t = process_tag p in
    let g = option_or_none (first_fault (tag_faults b t)) (tags_fault (behind b t) (behind_slots ps ns) []) e in
    let good = (good_when_none b t g.0).process refl in
    let room = good.0 in
    let later = good_processes (behind b t) ps ns (omega arith) fits.1 has.1 g.1 in
    let later_few = later.few in
    record { few = omega arith; some = λ z. later.some (omega arith); each = (process_fits b.version p fits.0 has.0 good.1, later.each) }

good_slots : (n : ℕ) → n < 2 ^ 32 → is_bad_slots (slots_contents n) ≡ false → n ≤ 16384
good_slots n fits good =
    let contents = slots_contents n in
    let small = or_parts (not (nat_eq (length contents) 4)) (nat_lt 16384 (little_number 4 contents)) good in
    let few : little_number 4 contents ≤ 16384 = ltb-false 16384 (little_number 4 contents) small.1 in
    omega (arith, word_front n [] fits)

-- the slots and the processes of a row without a fault
good_row : (version : ℕ) (slots : Option ℕ) (ps : List ProcArgs) (ns : List ProcName) → IfSome slots (λ n. n < 2 ^ 32) → IfSome slots (λ _. version ≡ 2)
    → AllByRecursion HasFittingNumbers ps → AllByRecursion (HasCheck version) ps
    → tags_fault (at_start version) (slots_tags slots ++ behind_slots ps ns) [] ≡ None → AreSlots version slots × IsGood version 0 ps
good_row version None ps ns small second fits has e = (tt, good_processes (at_start version) ps ns (omega arith) fits has e)
good_row version (Some n) ps ns small second fits has e =
    let b = at_start version in
    let t = right_tag (codes "SwpS") (slots_contents n) in
    let g = option_or_none (first_fault (tag_faults b t)) (tags_fault (behind b t) (behind_slots ps ns) []) e in
    let good = (good_when_none b t g.0).slots (ap (λ (v : ℕ). is_slots v t) second) in
    ((second, good_slots n small good.0), good_processes (behind b t) ps ns (omega arith) fits has g.1)

-- ---- the header

-- the header of arguments that can be written fits its fields
header_fits : (args : Args) → IsWritable args → IsHeader (header_in args)
header_fits args w = record { words = w.words_fit; version = w.version_fits; start = w.start_fits; size = w.size_fits; name = w.name_fits }

record HasGoodHeader (args : Args) : Type 0 where
  version : (args.version ≡ 1) ⊎ (args.version ≡ 2)
  ram : IsRam args.ram_start args.ram_size

good_header : (args : Args) (more : List ℕ) → IsHeader (header_in args) → first_fault (header_faults (tag_bytes (header_tag args) ++ more)) ≡ None → HasGoodHeader args
unfolding header_faults
good_header args more fits e =
    let bytes = tag_bytes (header_tag args) ++ more in
    let h = when_none (header_faults bytes) e in
    let is = begun_header (header_in args) more fits in
    let version : is_bad_version args.version ≡ false = ap (λ (n : ℕ). is_bad_version n) (sym is.version_is) ∙ h.1.1.1.0 in
    let ram : is_bad_ram args.ram_start args.ram_size ≡ false =
    ap (is_bad_ram args.ram_start) (sym is.size_is) ∙ ap (λ (n : ℕ). is_bad_ram n (number_at 4 20 bytes)) (sym is.start_is) ∙ h.1.1.1.1.1.0 in
    record { version = version_when_good args.version version; ram = ram_when_good args.ram_start args.ram_size ram }

-- ---- the row

-- what the header says of the row, and what is behind it
record RowIs (args : Args) : Type 0 where
  version : version_of (written args) ≡ args.version
  row : row_of (written args) ≡ flat_map tag_bytes (written_tags args) ++ []

row_is : (args : Args) → IsWritable args → RowIs args
unfolding written
row_is args w =
    let first = tag_bytes (header_tag args) in
    let more = flat_map tag_bytes (written_tags args) in
    let is = begun_header (header_in args) more (header_fits args w) in
    let size : row_size (first ++ more) ≡ length (first ++ more) = ap (λ (n : ℕ). 4 * n) is.words_is ∙ sym w.words in
    let len : length first ≡ 28 = omega (arith, length-tag_bytes (header_tag args) refl, w.name_fits) in
    record {
      version = is.version_is;
      row = ap (λ (l : List ℕ). drop 28 l) (take_all (row_size (first ++ more)) (first ++ more) (omega arith)) ∙ drop_at first more 28 len ∙ sym (append-nil more);
    }

pub writable_is_fit : (args : Args) → IsWritable args → IsFit args
unfolding written args_fault row_fault
writable_is_fit args w =
    let ts = written_tags args in
    let v = args.version in
    let start = at_start (version_of (written args)) in
    let more = flat_map tag_bytes ts in
    let short = recursion_from_All IsShort ts w.lengths_fit in
    let is = row_is args w in
    let g = option_or_none (first_fault (header_faults (written args))) (row_fault start (row_of (written args))) w.no_fault in
    let again : cut front_tag (row_of (written args)) ≡ record { items = ts; rest = [] } =
    ap (cut front_tag) is.row ∙ cut_joined front_tag tag_bytes IsTag tags ts [] (all_are_tags args.slots args.procs args.names short) refl in
    let none : tags_fault (at_start v) ts [] ≡ None =
    ap (λ (n : ℕ). tags_fault (at_start n) ts []) (sym is.version) ∙ ap (λ (c : Cut Tag). tags_fault start c.items c.rest) (sym again) ∙ g.1 in
    let fits = recursion_from_All HasFittingNumbers args.procs w.procs_fit in
    let has = recursion_from_All (HasCheck v) args.procs w.has_checks in
    let row = good_row v args.slots args.procs args.names w.slots_fit w.slots_in_second fits has none in
    let good = row.1 in
    let few = good.few in
    let some : length args.procs ≡ 0 → ⊥ = λ e. good.some (omega arith) in
    let header = good_header args more (header_fits args w) g.0 in
    record {
      version = header.version;
      ram = header.ram;
      some = omega arith;
      few = omega arith;
      procs = All-from_recursion (IsProcess v) args.procs good.each;
      pids = w.pids_fit;
      slots = row.0;
      names = all_names_are_short args.slots args.procs args.names short;
      words = w.words;
    }

-- ---- what is answered

pub refused : (args : Args) → (IsFit args → ⊥) → IsTrue false ↔ IsWritable args
refused args unfit = (λ e. absurd cc, λ w. absurd (unfit (writable_is_fit args w)))

-- the parts of arguments that are looked at before the sizes are added up
pub record IsSized (args : Args) : Type 0 where
  pub words : args.words < 2 ^ 32
  pub ram_name : length args.ram_name ≡ 4
  pub version : (args.version ≡ 1) ⊎ (args.version ≡ 2)
  pub ram : IsRam args.ram_start args.ram_size
  pub some : 1 ≤ length args.procs
  pub few : length args.procs ≤ process_limit args.version
  pub procs : All (IsProcess args.version) args.procs
  pub pids : All HasPid args.names
  pub slots : AreSlots args.version args.slots
  pub names : length (names_contents args.names) < 4 * 65536

pub decided : (args : Args) (slots processes names : ℕ) → IsSized args
    → slots ≡ length (slots_row args.slots) → processes ≡ length (flat_map process_row args.procs) → names ≡ length (names_row args.names)
    → IsTrue (nat_eq (28 + slots + processes + names) (args.words * 4)) ↔ IsWritable args
decided args slots processes names sized slots_is processes_is names_is =
    let size = length-written args sized.ram_name in (
      λ e.
          let same : 28 + slots + processes + names ≡ args.words * 4 = eqb-true (28 + slots + processes + names) (args.words * 4) e in
          fit_is_writable args (record {
            version = sized.version;
            ram = sized.ram;
            some = sized.some;
            few = sized.few;
            procs = sized.procs;
            pids = sized.pids;
            slots = sized.slots;
            names = sized.names;
            words = omega arith;
          }) sized.words sized.ram_name,
      λ w. let all = w.words in eq-eqb (28 + slots + processes + names) (args.words * 4) (omega arith),
    )

pub written_spells : (args : Args) (more : List ℕ) → IsWritable args → Spells (written args ++ more) args
written_spells args more w = fit_spells args more (writable_is_fit args w) w.words_fit w.name_fits
