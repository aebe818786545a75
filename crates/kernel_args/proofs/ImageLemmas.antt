-- Bytes spell exactly one list of arguments, or have a fault, and never both.
use Rattle.std.proofs.Common.{◌≡◌, ℕ, ◌*◌, ◌<◌, ◌≤◌, Bool, false, ◌&&◌, eqb, inl, inr, List, [], ◌∷◌, ◌++◌, length, map, take, drop, Option, Some, None, refl, sym, ap, subst, ◌∙◌, append_assoc, arith}
use Rattle.std.specs.Prelude.{codes, IfSome}
use Rattle.std.specs.Option.{option_or, option_to_list}
use Rattle.std.proofs.lemmas.Bool.{cases_Bool, eqb-true, le-ltb}
use Rattle.std.specs.List.{flat_map, AllByRecursion}
use Rattle.std.proofs.lemmas.List.{length-append, length-take, length-map, take_at, drop_at, take-append-drop, append-nil}
use Rattle.std.proofs.lemmas.List.Elements.{All-from_recursion, All-weaker}
use Rattle.kernel_args.specs.declared.args.Args.{Args}
use Rattle.kernel_args.specs.declared.args.ProcArgs.{ProcArgs}
use Rattle.kernel_args.specs.declared.args.ProcName.{ProcName}
use Rattle.kernel_args.specs.declared.faults.ArgFault.{ArgFault}
use Rattle.kernel_args.specs.Joined.{Cut, cut}
use Rattle.kernel_args.specs.Tags.{Tag, IsTag, tag_bytes, front_tag, has_name, is_slots, contents_of}
use Rattle.kernel_args.specs.Contents.{process_contents, IsSection, IsProcess, slots_contents, Entry, IsEntry, entry_bytes, front_entry, name_of}
use Rattle.kernel_args.specs.Image.{process_limit, IsSoundProcess, IsRightTag, header_tag, parts_of, SpellsTags, Spells}
use Rattle.kernel_args.specs.Faults.{first_fault, row_size, version_of, header_faults, at_start, tags_fault, row_fault, args_fault, is_bad_slots}
use Rattle.kernel_args.specs.Reading.{HeaderIs}
use Rattle.byteorder.specs.Endian.{little_number}
use Rattle.kernel_args.proofs.NumberLemmas.{number_again, IsBytes, IsBytes-drop, IsBytes-take, IsBytes-left}
use Rattle.kernel_args.proofs.JoinedLemmas.{cut_joined, cut_joins, joined_once}
use Rattle.kernel_args.proofs.TagLemmas.{tags, length-tag_bytes}
use Rattle.kernel_args.proofs.ContentLemmas.{entries}
use Rattle.kernel_args.proofs.ProcessLemmas.{cons_nil, process_is_good, processes_once}
use Rattle.kernel_args.proofs.RowLemmas.{names_are_good}
use Rattle.kernel_args.proofs.RowFaultLemmas.{option_or_none, IsGoodProcess, IsGoodNames, IsGoodSlots, AreGood, no_tags_fault, tags_spelled}
use Rattle.kernel_args.proofs.HeaderLemmas.{header_in, begun_header, is_header, header_is_good, header_at, header_at_is, BeginsWith, begins_with}

-- the row of tags behind the first
abbrev pub row_of : List ℕ → List ℕ
row_of bytes = drop 28 (take (row_size bytes) bytes)

pub process_is_sound : (version : ℕ) (p : ProcArgs) → IsProcess version p → IsSoundProcess version p
process_is_sound version p h = record {
  has_check = h.has_check;
  some = h.some;
  few = h.few;
  flags = All-weaker IsSection (λ s. s.flags < 32) (λ s k. k.flags) p.sections (All-from_recursion IsSection p.sections h.sections);
}

no_such_tag : (ts : List Tag) → contents_of (λ _. false) ts ≡ []
no_such_tag [] = refl
no_such_tag (t ∷ ts) = no_such_tag ts

-- slots are given only in version 2, since in version 1 no `SwpS` is read
slots_are_sound : (version : ℕ) (ts : List Tag) (slots : Option ℕ) → contents_of (is_slots version) ts ≡ map slots_contents (option_to_list slots)
    → AllByRecursion (λ n. n ≤ 16384) (option_to_list slots) → IfSome slots (λ n. (version ≡ 2) × (n ≤ 16384))
slots_are_sound version ts None is few = tt
slots_are_sound version ts (Some n) is few =
    elim (cases_Bool (eqb version 2)) [
      | inl second ↦ (eqb-true version 2 second, few.0)
      | inr first ↦
          let none : contents_of (is_slots version) ts ≡ [] = ap (λ (b : Bool). contents_of (λ t. b && has_name (codes "SwpS") t) ts) first ∙ no_such_tag ts in
          absurd (cons_nil (slots_contents n) [] (sym is ∙ none))
    ]

-- a header, and tags that spell the rest, are an image
pub spells_from : (bytes : List ℕ) (args : Args) (ts : List Tag) → BeginsWith bytes args → row_of bytes ≡ flat_map tag_bytes ts
    → SpellsTags args.version ts (parts_of args) → 1 ≤ length args.procs → length args.procs ≤ process_limit args.version → Spells bytes args
spells_from bytes args ts b row s some few =
    let n = 4 * args.words in
    let is : take n bytes ≡ flat_map tag_bytes (header_tag args ∷ ts) = b.row ∙ ap (λ (l : List ℕ). tag_bytes (header_tag args) ++ l) row in
    let len : length (take n bytes) ≡ n = omega (arith, b.within, length-take n bytes) in
    record {
      tags = ts;
      rest = drop n bytes;
      whole = sym (take-append-drop n bytes) ∙ ap (λ (l : List ℕ). l ++ drop n bytes) is;
      size = ap (λ (l : List ℕ). length l) (sym is) ∙ len;
      words = b.fits;
      ram_name = b.ram_name;
      spelled = s;
      sound = record {
        words = b.long;
        version = b.version;
        ram = b.ram;
        some = some;
        few = few;
        procs = All-weaker (IsProcess args.version) (IsSoundProcess args.version) (process_is_sound args.version) args.procs (All-from_recursion (IsProcess args.version) args.procs s.each_process);
        slots = slots_are_sound args.version ts args.slots s.slots s.few_slots;
      };
    }

-- ---- bytes without a fault spell arguments

right_tags : (ts : List Tag) → AllByRecursion IsRightTag ts → AllByRecursion IsTag ts
right_tags [] h = tt
right_tags (t ∷ ts) h = (h.0.tag, right_tags ts h.1)

-- a list of at most one number
option_in : (ss : List ℕ) → length ss ≤ 1 → (slots : Option ℕ) × (ss ≡ option_to_list slots)
option_in [] one = (None, refl)
option_in (n ∷ []) one = (Some n, refl)
option_in (n ∷ m ∷ ss) one = absurd (omega arith)

pub image_spells : (bytes : List ℕ) → IsBytes bytes → args_fault bytes ≡ None → (args : Args) × Spells bytes args
unfolding args_fault row_fault
image_spells bytes fits e =
    let version = version_of bytes in
    let g = option_or_none (first_fault (header_faults bytes)) (row_fault (at_start version) (row_of bytes)) e in
    let row_bytes : IsBytes (row_of bytes) = IsBytes-drop 28 (take (row_size bytes) bytes) (IsBytes-take (row_size bytes) bytes fits) in
    let c = cut front_tag (row_of bytes) in
    let joined = cut_joins front_tag tag_bytes IsTag tags (row_of bytes) row_bytes in
    let items_bytes : IsBytes (flat_map tag_bytes c.items) = IsBytes-left (flat_map tag_bytes c.items) c.rest (subst IsBytes joined.parts row_bytes) in
    let s = tags_spelled (at_start version) c.items c.rest (omega arith) (omega arith) joined.fits items_bytes g.1 in
    let row : row_of bytes ≡ flat_map tag_bytes c.items =
    joined.parts ∙ ap (λ (l : List ℕ). flat_map tag_bytes c.items ++ l) s.nothing_left ∙ append-nil (flat_map tag_bytes c.items) in
    let header = header_at bytes in
    let some = s.some in
    let few = s.few in
    let one = s.one in
    let slots = option_in s.parts.slots (omega arith) in
    let args : Args = record {
      words = header.words;
      version = header.version;
      ram_start = header.ram_start;
      ram_size = header.ram_size;
      ram_name = header.ram_name;
      slots = slots.0;
      procs = s.parts.procs;
      names = s.parts.names;
    } in
    let spells : SpellsTags version c.items (parts_of args) =
    subst (λ (ss : List ℕ). SpellsTags version c.items (record { procs = s.parts.procs; names = s.parts.names; slots = ss })) slots.1 s.spells in
    (args, spells_from bytes args c.items (begins_with bytes args fits g.0 (header_at_is bytes)) row spells (omega arith) (omega arith))

-- ---- what is spelled has no fault

record Read (bytes : List ℕ) (args : Args) (ts : List Tag) : Type 0 where
  header : HeaderIs bytes (header_in args)
  no_fault : first_fault (header_faults bytes) ≡ None
  row : cut front_tag (row_of bytes) ≡ record { items = ts; rest = [] }

spelled_is_read : (bytes : List ℕ) (args : Args) (s : Spells bytes args) → Read bytes args s.tags
spelled_is_read bytes args s =
    let ts = s.tags in
    let first = tag_bytes (header_tag args) in
    let more = flat_map tag_bytes ts ++ s.rest in
    let image = first ++ more in
    let grouped : bytes ≡ image = s.whole ∙ append_assoc first (flat_map tag_bytes ts) s.rest in
    let header = begun_header (header_in args) more (is_header args s.words s.ram_name s.sound) in
    let total : row_size image ≡ 4 * args.words = ap (λ (n : ℕ). 4 * n) header.words_is in
    let within : 4 * args.words ≤ length image = omega (arith, s.size, length-append first (flat_map tag_bytes ts), length-append first more, length-append (flat_map tag_bytes ts) s.rest) in
    let four = s.ram_name in
    let header_size : length first ≡ 28 = omega (arith, length-tag_bytes (header_tag args) refl) in
    let taken : take (row_size image) image ≡ first ++ flat_map tag_bytes ts =
    ap (λ (n : ℕ). take n image) total
    ∙ ap (take (4 * args.words)) (sym (append_assoc first (flat_map tag_bytes ts) s.rest))
    ∙ take_at (first ++ flat_map tag_bytes ts) s.rest (4 * args.words) s.size in
    let row : row_of image ≡ flat_map tag_bytes ts ++ [] = ap (drop 28) taken ∙ drop_at first (flat_map tag_bytes ts) 28 header_size ∙ sym (append-nil (flat_map tag_bytes ts)) in
    subst (λ (b : List ℕ). Read b args ts) (sym grouped) (record {
      header = header;
      no_fault = header_is_good args more s.words s.ram_name s.sound within;
      row = ap (cut front_tag) row ∙ cut_joined front_tag tag_bytes IsTag tags ts [] (right_tags ts s.spelled.each) refl;
    })

pub good_processes : (version : ℕ) (ps : List ProcArgs) → AllByRecursion (IsProcess version) ps → AllByRecursion (IsGoodProcess version) (map process_contents ps)
good_processes version [] h = tt
good_processes version (p ∷ ps) h = (process_is_good version p h.0, good_processes version ps h.1)

pub good_names : (es : List (List Entry)) → AllByRecursion (AllByRecursion IsEntry) es → AllByRecursion IsGoodNames (map (flat_map entry_bytes) es)
good_names [] h = tt
good_names (e ∷ es) h = (names_are_good e h.0, good_names es h.1)

slots_are_good : (n : ℕ) → n ≤ 16384 → is_bad_slots (slots_contents n) ≡ false
slots_are_good n few =
    let is : little_number 4 (slots_contents n) ≡ n = number_again 4 n (omega arith) in
    le-ltb 16384 (little_number 4 (slots_contents n)) (omega arith)

pub good_slots : (ss : List ℕ) → AllByRecursion (λ n. n ≤ 16384) ss → AllByRecursion IsGoodSlots (map slots_contents ss)
good_slots [] h = tt
good_slots (n ∷ ss) h = (slots_are_good n h.0, good_slots ss h.1)

pub length-option : (slots : Option ℕ) → length (option_to_list slots) ≤ 1
length-option None = omega arith
length-option (Some n) = omega arith

pub spelled_has_no_fault : (bytes : List ℕ) (args : Args) → Spells bytes args → args_fault bytes ≡ None
unfolding args_fault row_fault
spelled_has_no_fault bytes args s =
    let version = args.version in
    let r = spelled_is_read bytes args s in
    let t = s.spelled in
    let slots = option_to_list args.slots in
    let count : length (contents_of (has_name (codes "IniE")) s.tags) ≡ length args.procs = ap (λ (l : List (List ℕ)). length l) t.processes ∙ length-map args.procs process_contents in
    let slots_count : length (contents_of (is_slots version) s.tags) ≡ length slots = ap (λ (l : List (List ℕ)). length l) t.slots ∙ length-map slots slots_contents in
    let some = s.sound.some in
    let few = s.sound.few in
    let good : AreGood (at_start version) s.tags = record {
      right = t.each;
      processes = subst (AllByRecursion (IsGoodProcess version)) (sym t.processes) (good_processes version args.procs t.each_process);
      names = subst (AllByRecursion IsGoodNames) (sym t.joined) (good_names t.entries t.each_entry);
      slots = subst (AllByRecursion IsGoodSlots) (sym t.slots) (good_slots slots t.few_slots);
      some = omega arith;
      few = omega arith;
      one = omega (arith, length-option args.slots);
    } in
    ap (λ (o : Option ArgFault). option_or o (row_fault (at_start (version_of bytes)) (row_of bytes))) r.no_fault
    ∙ ap (λ (n : ℕ). row_fault (at_start n) (row_of bytes)) r.header.version_is
    ∙ ap (λ (c : Cut Tag). tags_fault (at_start version) c.items c.rest) r.row ∙ no_tags_fault (at_start version) s.tags good

-- ---- at most one list of arguments is spelled

entries_once : (es fs : List (List Entry)) → AllByRecursion (AllByRecursion IsEntry) es → AllByRecursion (AllByRecursion IsEntry) fs
    → map (flat_map entry_bytes) es ≡ map (flat_map entry_bytes) fs → es ≡ fs
entries_once [] [] p q e = refl
entries_once [] (f ∷ fs) p q e = cc
entries_once (d ∷ es) [] p q e = cc
entries_once (d ∷ es) (f ∷ fs) p q e =
    let first : flat_map entry_bytes d ≡ flat_map entry_bytes f = cc in
    let others : map (flat_map entry_bytes) es ≡ map (flat_map entry_bytes) fs = cc in
    let same : d ≡ f = joined_once front_entry entry_bytes IsEntry entries d f p.0 q.0 first in
    let rest : es ≡ fs = entries_once es fs p.1 q.1 others in
    cc

-- two arguments have the same header
record SameHeader (a b : Args) : Type 0 where
  words : a.words ≡ b.words
  version : a.version ≡ b.version
  start : a.ram_start ≡ b.ram_start
  size : a.ram_size ≡ b.ram_size
  name : a.ram_name ≡ b.ram_name

args_parts : (a b : Args) → SameHeader a b → a.slots ≡ b.slots → a.procs ≡ b.procs → a.names ≡ b.names → a ≡ b
args_parts a b h slots procs names =
    ap (λ (x : ℕ). record a { words = x }) h.words
    ∙ ap (λ (x : ℕ). record a { words = b.words; version = x }) h.version
    ∙ ap (λ (x : ℕ). record a { words = b.words; version = b.version; ram_start = x }) h.start
    ∙ ap (λ (x : ℕ). record b { ram_size = x; ram_name = a.ram_name; slots = a.slots; procs = a.procs; names = a.names }) h.size
    ∙ ap (λ (x : List ℕ). record b { ram_name = x; slots = a.slots; procs = a.procs; names = a.names }) h.name
    ∙ ap (λ (x : Option ℕ). record b { slots = x; procs = a.procs; names = a.names }) slots
    ∙ ap (λ (x : List ProcArgs). record b { procs = x; names = a.names }) procs
    ∙ ap (λ (x : List ProcName). record b { names = x }) names

-- given slots are the first of their list
slots_once : (one other : Option ℕ) → AllByRecursion (λ n. n ≤ 16384) (option_to_list one) → AllByRecursion (λ n. n ≤ 16384) (option_to_list other)
    → map slots_contents (option_to_list one) ≡ map slots_contents (option_to_list other) → one ≡ other
slots_once None None f g e = refl
slots_once None (Some n) f g e = absurd (cons_nil (slots_contents n) [] (sym e))
slots_once (Some n) None f g e = absurd (cons_nil (slots_contents n) [] e)
slots_once (Some n) (Some m) f g e =
    let first : slots_contents n ≡ slots_contents m = cc in
    let number : n ≡ m = sym (number_again 4 n (omega (arith, f.0))) ∙ ap (little_number 4) first ∙ number_again 4 m (omega (arith, g.0)) in
    ap (λ (x : ℕ). Some x) number

pub spelled_once : (bytes : List ℕ) (one other : Args) → Spells bytes one → Spells bytes other → one ≡ other
spelled_once bytes one other s t =
    let r = spelled_is_read bytes one s in
    let q = spelled_is_read bytes other t in
    let same_tags : s.tags ≡ t.tags = ap (λ (c : Cut Tag). c.items) (sym r.row ∙ q.row) in
    let version : one.version ≡ other.version = sym r.header.version_is ∙ q.header.version_is in
    let processes : map process_contents one.procs ≡ map process_contents other.procs =
    sym s.spelled.processes ∙ ap (contents_of (has_name (codes "IniE"))) same_tags ∙ t.spelled.processes in
    let their_processes : AllByRecursion (IsProcess one.version) other.procs = subst (λ (n : ℕ). AllByRecursion (IsProcess n) other.procs) (sym version) t.spelled.each_process in
    let entries : map (flat_map entry_bytes) s.spelled.entries ≡ map (flat_map entry_bytes) t.spelled.entries =
    sym s.spelled.joined ∙ ap (contents_of (has_name (codes "PNam"))) same_tags ∙ t.spelled.joined in
    let names : one.names ≡ other.names =
    sym s.spelled.names_are
    ∙ ap (λ (es : List (List Entry)). map name_of (flat_map (λ es. es) es)) (entries_once s.spelled.entries t.spelled.entries s.spelled.each_entry t.spelled.each_entry entries)
    ∙ t.spelled.names_are in
    let slots : map slots_contents (option_to_list one.slots) ≡ map slots_contents (option_to_list other.slots) =
    sym s.spelled.slots ∙ ap (λ (n : ℕ). contents_of (is_slots n) s.tags) version ∙ ap (contents_of (is_slots other.version)) same_tags ∙ t.spelled.slots in
    let header : SameHeader one other = record {
      words = sym r.header.words_is ∙ q.header.words_is;
      version = version;
      start = sym r.header.start_is ∙ q.header.start_is;
      size = sym r.header.size_is ∙ q.header.size_is;
      name = sym r.header.name_is ∙ q.header.name_is;
    } in
    args_parts one other header (slots_once one.slots other.slots s.spelled.few_slots t.spelled.few_slots slots)
    (processes_once one.version one.procs other.procs s.spelled.each_process their_processes processes) names
