-- What is written spells the arguments.
use Rattle.std.proofs.Common.{◌≡◌, ℕ, ◌+◌, ◌-◌, ◌*◌, sum_by, ◌%◌, ◌^◌, ◌<◌, ◌≤◌, Bool, if◌then◌else◌, ◌⊎◌, inl, inr, Option, Some, None, is_some, List, [], ◌∷◌, ◌++◌, length, map, take, get_or, refl, sym, ap, subst, ◌∙◌, append_assoc, arith}
use Rattle.std.specs.Prelude.{codes, All, IfSome, replicate}
use Rattle.std.specs.Option.{option_to_list}
use Rattle.std.proofs.lemmas.Bool.{cases_Bool}
use Rattle.std.specs.List.{flat_map, AllByRecursion}
use Rattle.std.proofs.lemmas.List.{length-append, append-nil, take_more, length-replicate}
use Rattle.std.proofs.lemmas.List.Folds.{length-flat_map-take}
use Rattle.std.proofs.lemmas.List.Sums.{sum_by-cons}
use Rattle.std.proofs.lemmas.List.Elements.{All-from_recursion, All-weaker, recursion_from_All}
use Rattle.std.proofs.lemmas.Grind.{flat_map-append}
use Rattle.kernel_args.specs.declared.args.Args.{Args}
use Rattle.kernel_args.specs.declared.args.ProcArgs.{ProcArgs}
use Rattle.kernel_args.specs.declared.args.ProcName.{ProcName}
use Rattle.kernel_args.specs.Tags.{tag_bytes, is_slots}
use Rattle.kernel_args.specs.Contents.{header_contents, section_bytes, IsSection, check_word, HasCheck, process_contents, IsProcess, slots_contents, IsEntry, padded, entry_bytes, name_of}
use Rattle.kernel_args.specs.Image.{IsRam, process_limit, IsSoundProcess, IsRightTag, header_tag, parts_of, SpellsTags, Spells}
use Rattle.kernel_args.specs.Writing.{right_tag, process_tag, written_entry, names_contents, names_tags, slots_tags, written_tags, header_row, slots_row, process_row, row_size, names_row, written, HasPid, HasFittingNumbers, IsWritable}
use Rattle.kernel_args.specs.Reading.{joined}
use Rattle.kernel_args.proofs.CheckLemmas.{check_number_fits}
use Rattle.kernel_args.proofs.TagLemmas.{length-tag_bytes}
use Rattle.kernel_args.proofs.ProcessLemmas.{length-sections}
use Rattle.kernel_args.proofs.RowLemmas.{nothing, no_tags, more_tags}
use Rattle.kernel_args.proofs.RowLemmas as rows
use Rattle.kernel_args.proofs.ImageLemmas.{process_is_sound, spelled_has_no_fault}

-- ---- sizes

-- one more item at the end
pub joined_step : {A : Type 0} (f : A → List ℕ) (xs : List A) (i : ℕ) (d : A) → i < length xs → flat_map f (take (i + 1) xs) ≡ flat_map f (take i xs) ++ f (get_or xs i d)
joined_step f xs i d within =
    ap (flat_map f) (take_more xs i d within)
    ∙ flat_map-append f (take i xs) (get_or xs i d ∷ [])
    ∙ ap (λ (l : List ℕ). flat_map f (take i xs) ++ l) (append-nil (f (get_or xs i d)))

pub length-entry : (n : ProcName) → length (entry_bytes (written_entry n)) ≡ 8 + padded (length n.name)
length-entry n =
    let len = length n.name in
    let more : List ℕ = replicate (padded len - len) 0 in
    let k : length more ≡ padded len - len = length-replicate (padded len - len) 0 in
    omega (arith, length-append n.name more)

-- a check word has 4 bytes, where it is given
pub length-check : (check : Option ℕ) → length (check_word check) ≡ (if is_some check then 4 else 0)
length-check None = refl
length-check (Some c) = refl

pub length-contents : (p : ProcArgs) → length (process_contents p) ≡ 8 + length (check_word p.check) + 8 * length p.sections
length-contents p =
    let all = length-sections p.sections in
    let both = length-append (check_word p.check) (flat_map section_bytes p.sections) in
    omega arith

pub whole_process : (p : ProcArgs) → length (process_contents p) % 4 ≡ 0
whole_process p =
    let len = length-contents p in
    elim (cases_Bool (is_some p.check)) [
      | inl given ↦ let four = length-check p.check ∙ ap (λ (b : Bool). if b then 4 else 0) given in omega arith
      | inr lacks ↦ let none = length-check p.check ∙ ap (λ (b : Bool). if b then 4 else 0) lacks in omega arith
    ]

pub short_process : (p : ProcArgs) → length p.sections ≤ 32 → length (process_contents p) ≤ 268
short_process p few =
    let len = length-contents p in
    elim (cases_Bool (is_some p.check)) [
      | inl given ↦ let four = length-check p.check ∙ ap (λ (b : Bool). if b then 4 else 0) given in omega arith
      | inr lacks ↦ let none = length-check p.check ∙ ap (λ (b : Bool). if b then 4 else 0) lacks in omega arith
    ]

pub length-process : (p : ProcArgs) → length (process_row p) ≡ 16 + length (check_word p.check) + 8 * length p.sections
unfolding process_row
length-process p = let l = length-contents p in omega (arith, length-tag_bytes (process_tag p) refl)

pub length-slots : (slots : Option ℕ) → length (slots_row slots) ≡ (if is_some slots then 12 else 0)
unfolding slots_row
length-slots None = refl
length-slots (Some n) = refl

pub short_slots : (slots : Option ℕ) → length (slots_row slots) ≤ 12
unfolding slots_row
short_slots None = omega arith
short_slots (Some n) = omega arith

-- a name and those before it are within all names
pub name_within : (ns : List ProcName) (i : ℕ) (d : ProcName) → i < length ns
    → length (names_contents (take i ns)) + (8 + padded (length (get_or ns i d).name)) ≤ length (names_contents ns)
name_within ns i d within =
    let k = length-flat_map-take (λ (n : ProcName). entry_bytes (written_entry n)) ns i d within in
    let len = length-entry (get_or ns i d) in
    omega arith

pub names_step : (ns : List ProcName) (i : ℕ) (d : ProcName) → i < length ns
    → length (names_contents (take (i + 1) ns)) ≡ length (names_contents (take i ns)) + (8 + padded (length (get_or ns i d).name))
names_step ns i d within =
    let f : ProcName → List ℕ = λ n. entry_bytes (written_entry n) in
    ap (λ (l : List ℕ). length l) (joined_step f ns i d within)
    ∙ length-append (names_contents (take i ns)) (entry_bytes (written_entry (get_or ns i d)))
    ∙ ap (λ (k : ℕ). length (names_contents (take i ns)) + k) (length-entry (get_or ns i d))

-- processes that can be written: how long their rows are together, and how long at most
pub sizes_added : (version : ℕ) (ps : List ProcArgs) → AllByRecursion (IsProcess version) ps
    → (sum_by row_size ps ≡ length (flat_map process_row ps)) × (sum_by row_size ps ≤ 276 * length ps)
sizes_added version [] each = (refl, omega arith)
sizes_added version (p ∷ ps) each =
    let few : length p.sections ≤ 32 = (each.0).few in
    let len = length-contents p in
    let short = short_process p few in
    let rest = sizes_added version ps each.1 in
    let same = rest.0 in
    let most = rest.1 in
    let added : sum_by row_size (p ∷ ps) ≡ row_size p + sum_by row_size ps = sum_by-cons row_size p ps in
    let joined : length (flat_map process_row (p ∷ ps)) ≡ length (process_row p) + length (flat_map process_row ps) = length-append (process_row p) (flat_map process_row ps) in
    let size = length-process p in
    (omega arith, omega arith)

joined_processes : (ps : List ProcArgs) → flat_map tag_bytes (map process_tag ps) ≡ flat_map process_row ps
unfolding process_row
joined_processes [] = refl
joined_processes (p ∷ ps) = ap (λ (l : List ℕ). tag_bytes (process_tag p) ++ l) (joined_processes ps)

-- the parts of what is written
pub written_parts : (args : Args) → header_row args ++ (slots_row args.slots ++ (flat_map process_row args.procs ++ names_row args.names)) ≡ written args
unfolding header_row slots_row names_row written
written_parts args =
    let slots = slots_tags args.slots in
    let procs = map process_tag args.procs in
    let names = names_tags args.names in
    let behind : flat_map process_row args.procs ++ flat_map tag_bytes names ≡ flat_map tag_bytes (procs ++ names) =
    ap (λ (l : List ℕ). l ++ flat_map tag_bytes names) (sym (joined_processes args.procs)) ∙ sym (flat_map-append tag_bytes procs names) in
    ap (λ (l : List ℕ). tag_bytes (header_tag args) ++ l)
    (ap (λ (l : List ℕ). flat_map tag_bytes slots ++ l) behind ∙ sym (flat_map-append tag_bytes slots (procs ++ names)))

pub header_row_is : (args : Args) → tag_bytes (right_tag (codes "XArg") (header_contents args)) ≡ header_row args
unfolding header_row
header_row_is args = refl

pub process_row_is : (p : ProcArgs) → tag_bytes (right_tag (codes "IniE") (process_contents p)) ≡ process_row p
unfolding process_row
process_row_is p = refl

pub slots_row_is : (n : ℕ) → tag_bytes (right_tag (codes "SwpS") (slots_contents n)) ≡ slots_row (Some n)
unfolding slots_row
slots_row_is n = sym (append-nil (tag_bytes (right_tag (codes "SwpS") (slots_contents n))))

pub no_slots_row : slots_row None ≡ []
unfolding slots_row
no_slots_row = refl

-- what was appended part by part
pub appended : (args : Args) (start a s b d : List ℕ) (ps : List ProcArgs) (ns : List ProcName) → start ≡ [] → a ≡ start ++ header_row args
    → s ≡ a ++ slots_row args.slots → b ≡ s ++ flat_map process_row ps → d ≡ b ++ names_row ns → ps ≡ args.procs → ns ≡ args.names → d ≡ written args
appended args start a s b d ps ns e f k g h procs names =
    let head : a ≡ header_row args = f ∙ ap (λ (l : List ℕ). l ++ header_row args) e in
    let slots : s ≡ header_row args ++ slots_row args.slots = k ∙ ap (λ (l : List ℕ). l ++ slots_row args.slots) head in
    let all : d ≡ ((header_row args ++ slots_row args.slots) ++ flat_map process_row args.procs) ++ names_row args.names =
    h ∙ ap (λ (l : List ℕ). l ++ names_row ns) (g ∙ ap (λ (l : List ℕ). l ++ flat_map process_row ps) slots)
    ∙ ap (λ (l : List ProcArgs). ((header_row args ++ slots_row args.slots) ++ flat_map process_row l) ++ names_row ns) procs
    ∙ ap (λ (l : List ProcName). ((header_row args ++ slots_row args.slots) ++ flat_map process_row args.procs) ++ names_row l) names in
    all ∙ simp append_assoc (written_parts args)

pub length-header : (args : Args) → length args.ram_name ≡ 4 → length (header_row args) ≡ 28
unfolding header_row
length-header args four = omega (arith, length-tag_bytes (header_tag args) refl)

pub length-written : (args : Args) → length args.ram_name ≡ 4
    → length (written args) ≡ 28 + length (slots_row args.slots) + length (flat_map process_row args.procs) + length (names_row args.names)
length-written args four =
    let head = length-header args four in
    let all = ap (λ (l : List ℕ). length l) (written_parts args) in
    let one = length-append (header_row args) (slots_row args.slots ++ (flat_map process_row args.procs ++ names_row args.names)) in
    let two = length-append (slots_row args.slots) (flat_map process_row args.procs ++ names_row args.names) in
    let three = length-append (flat_map process_row args.procs) (names_row args.names) in
    omega arith

pub no_names : (ns : List ProcName) → length ns ≡ 0 → names_row ns ≡ []
unfolding names_row
no_names [] e = refl
no_names (n ∷ ns) e = absurd (omega arith)

pub some_names : (ns : List ProcName) → (length ns ≡ 0 → ⊥) → names_row ns ≡ tag_bytes (right_tag (codes "PNam") (names_contents ns))
unfolding names_row
some_names [] h = absurd (h refl)
some_names (n ∷ ns) h = append-nil (tag_bytes (right_tag (codes "PNam") (names_contents (n ∷ ns))))

pub length-names : (ns : List ProcName) → (length ns ≡ 0 → ⊥) → length (names_row ns) ≡ 8 + length (names_contents ns)
length-names ns h = ap (λ (l : List ℕ). length l) (some_names ns h) ∙ length-tag_bytes (right_tag (codes "PNam") (names_contents ns)) refl

pub joined_names : (ns : List ProcName) → flat_map entry_bytes (map written_entry ns) ≡ names_contents ns
joined_names [] = refl
joined_names (n ∷ ns) = ap (λ (l : List ℕ). entry_bytes (written_entry n) ++ l) (joined_names ns)

pub whole_names : (ns : List ProcName) → length (names_contents ns) % 4 ≡ 0
whole_names [] = refl
whole_names (n ∷ ns) =
    let others = whole_names ns in
    let len = length-entry n in
    let both : length (names_contents (n ∷ ns)) ≡ length (entry_bytes (written_entry n)) + length (names_contents ns) = length-append (entry_bytes (written_entry n)) (names_contents ns) in
    omega arith

-- ---- the tags that are written are spelled

pub right : (name contents : List ℕ) → length name ≡ 4 → length contents % 4 ≡ 0 → length contents < 4 * 65536 → IsRightTag (right_tag name contents)
right name contents four whole short = record {
  tag = record { name = four; check = check_number_fits contents; whole_words = whole; size = short };
  right = refl;
}

pub processes_spelled : (version : ℕ) (ps : List ProcArgs) → AllByRecursion (IsProcess version) ps
    → SpellsTags version (map process_tag ps) (record nothing { procs = ps })
processes_spelled version [] each = no_tags version
processes_spelled version (p ∷ ps) each =
    let short = short_process p each.0.few in
    let is : IsRightTag (process_tag p) = right (codes "IniE") (process_contents p) refl (whole_process p) (omega arith) in
    more_tags version (process_tag p ∷ []) (map process_tag ps) (record nothing { procs = p ∷ [] }) (record nothing { procs = ps })
    (rows.process_tag version (process_tag p) p is refl (record { is_process = each.0; contents_are = refl })) (processes_spelled version ps each.1)

entries_fit : (ns : List ProcName) → AllByRecursion HasPid ns → length (names_contents ns) < 4 * 65536 → AllByRecursion IsEntry (map written_entry ns)
entries_fit [] each short = tt
entries_fit (n ∷ ns) each short =
    let len = length n.name in
    let more : List ℕ = replicate (padded len - len) 0 in
    let k : length more ≡ padded len - len = length-replicate (padded len - len) 0 in
    let entry = length-entry n in
    let both : length (names_contents (n ∷ ns)) ≡ length (entry_bytes (written_entry n)) + length (names_contents ns) = length-append (entry_bytes (written_entry n)) (names_contents ns) in
    (record { pid = each.0; len = omega arith; padding = omega arith }, entries_fit ns each.1 (omega arith))

names_again : (ns : List ProcName) → map name_of (map written_entry ns) ≡ ns
names_again [] = refl
names_again (n ∷ ns) = ap (λ (l : List ProcName). n ∷ l) (names_again ns)

pub names_spelled : (version : ℕ) (ns : List ProcName) → AllByRecursion HasPid ns → length (names_contents ns) < 4 * 65536
    → SpellsTags version (names_tags ns) (record nothing { names = ns })
names_spelled version [] each short = no_tags version
names_spelled version (n ∷ ns) each short =
    let contents = names_contents (n ∷ ns) in
    let is : IsRightTag (right_tag (codes "PNam") contents) = right (codes "PNam") contents refl (whole_names (n ∷ ns)) short in
    subst (λ (l : List ProcName). SpellsTags version (names_tags (n ∷ ns)) (record nothing { names = l })) (names_again (n ∷ ns))
    (rows.names_tag version (right_tag (codes "PNam") contents) (map written_entry (n ∷ ns)) is refl
    (record { each = entries_fit (n ∷ ns) each short; contents_are = sym (joined_names (n ∷ ns)) }))

-- slots that an image of this version can give
abbrev pub AreSlots : ℕ → Option ℕ → Type 0
AreSlots version slots = IfSome slots (λ n. (version ≡ 2) × (n ≤ 16384))

pub slots_spelled : (version : ℕ) (slots : Option ℕ) → AreSlots version slots → SpellsTags version (slots_tags slots) (record nothing { slots = option_to_list slots })
slots_spelled version None can = no_tags version
slots_spelled version (Some n) can =
    let t = right_tag (codes "SwpS") (slots_contents n) in
    let is : IsRightTag t = right (codes "SwpS") (slots_contents n) refl refl (omega arith) in
    rows.slots_tag version t n is (ap (λ (v : ℕ). is_slots v t) can.0) refl can.1

-- ---- the arguments are spelled

-- what can be written, part by part
pub record IsFit (args : Args) : Type 0 where
  pub version : (args.version ≡ 1) ⊎ (args.version ≡ 2)
  pub ram : IsRam args.ram_start args.ram_size
  pub some : 1 ≤ length args.procs
  pub few : length args.procs ≤ process_limit args.version
  pub procs : All (IsProcess args.version) args.procs
  pub pids : All HasPid args.names
  pub slots : AreSlots args.version args.slots
  pub names : length (names_contents args.names) < 4 * 65536
  pub words : length (written args) ≡ 4 * args.words

pub tags_are_spelled : (args : Args) → IsFit args → SpellsTags args.version (written_tags args) (parts_of args)
tags_are_spelled args fit =
    let v = args.version in
    let procs = processes_spelled v args.procs (recursion_from_All (IsProcess v) args.procs fit.procs) in
    let names = names_spelled v args.names (recursion_from_All HasPid args.names fit.pids) fit.names in
    let slots = slots_spelled v args.slots fit.slots in
    let behind = more_tags v (map process_tag args.procs) (names_tags args.names) (record nothing { procs = args.procs }) (record nothing { names = args.names }) procs names in
    let all =
    more_tags v (slots_tags args.slots) (map process_tag args.procs ++ names_tags args.names) (record nothing { slots = option_to_list args.slots })
    (joined (record nothing { procs = args.procs }) (record nothing { names = args.names })) slots behind in
    let whole : joined (record nothing { slots = option_to_list args.slots }) (joined (record nothing { procs = args.procs }) (record nothing { names = args.names })) ≡ parts_of args =
    simp append-nil in
    subst (SpellsTags v (written_tags args)) whole all

pub fit_spells : (args : Args) (more : List ℕ) → IsFit args → args.words < 2 ^ 32 → length args.ram_name ≡ 4 → Spells (written args ++ more) args
unfolding written
fit_spells args more fit words four =
    let first = tag_bytes (header_tag args) in
    let len : length first ≡ 28 = omega (arith, length-tag_bytes (header_tag args) refl) in
    let all : length (written args) ≡ length first + length (flat_map tag_bytes (written_tags args)) = length-append first (flat_map tag_bytes (written_tags args)) in
    let size = fit.words in
    record {
      tags = written_tags args;
      rest = more;
      whole = refl;
      size = fit.words;
      words = words;
      ram_name = four;
      spelled = tags_are_spelled args fit;
      sound = record {
        words = omega arith;
        version = fit.version;
        ram = fit.ram;
        some = fit.some;
        few = fit.few;
        procs = All-weaker (IsProcess args.version) (IsSoundProcess args.version) (process_is_sound args.version) args.procs fit.procs;
        slots = fit.slots;
      };
    }

process_numbers : (version : ℕ) (p : ProcArgs) → IsProcess version p → HasFittingNumbers p
process_numbers version p h =
    let each = All-from_recursion IsSection p.sections h.sections in
    record {
      load = h.load;
      entry = h.entry;
      check = h.check;
      addrs = All-weaker IsSection (λ s. s.addr < 2 ^ 32) (λ s k. k.addr) p.sections each;
      sizes = All-weaker IsSection (λ s. s.size < 2 ^ 24) (λ s k. k.size) p.sections each;
    }

slots_fit : (version : ℕ) (slots : Option ℕ) → AreSlots version slots → IfSome slots (λ n. n < 2 ^ 32) × IfSome slots (λ _. version ≡ 2)
slots_fit version None can = (tt, tt)
slots_fit version (Some n) can = let few = can.1 in (omega arith, can.0)

pub fit_is_writable : (args : Args) → IsFit args → args.words < 2 ^ 32 → length args.ram_name ≡ 4 → IsWritable args
fit_is_writable args fit words four =
    let v = args.version in
    let s = tags_are_spelled args fit in
    let below = fit.ram.below in
    let slots = slots_fit v args.slots fit.slots in
    record {
      words_fit = words;
      version_fits = elim fit.version [ inl first ↦ omega arith | inr second ↦ omega arith ];
      start_fits = omega arith;
      size_fits = omega arith;
      name_fits = four;
      procs_fit = All-weaker (IsProcess v) HasFittingNumbers (process_numbers v) args.procs fit.procs;
      pids_fit = fit.pids;
      slots_fit = slots.0;
      has_checks = All-weaker (IsProcess v) (HasCheck v) (λ p h. h.has_check) args.procs fit.procs;
      slots_in_second = slots.1;
      lengths_fit = All-weaker IsRightTag (λ t. length t.contents < 4 * 65536) (λ t h. h.tag.size) (written_tags args) (All-from_recursion IsRightTag (written_tags args) s.each);
      words = fit.words;
      no_fault = spelled_has_no_fault (written args) args (subst (λ (l : List ℕ). Spells l args) (append-nil (written args)) (fit_spells args [] fit words four));
    }
