-- Tags spell processes, names and slots, one tag after the other.
use Rattle.std.proofs.Common.{◌≡◌, ◌≤◌, ℕ, Bool, true, false, not, cond, List, [], ◌∷◌, ◌++◌, length, map, refl, sym, ap, ◌∙◌, eqb}
use Rattle.std.specs.Prelude.{filter, codes}
use Rattle.std.specs.List.{flat_map, AllByRecursion}
use Rattle.std.specs.Cmp.Lexicographic.{pointwise}
use Rattle.std.proofs.lemmas.List.{nil_from_length, append-nil, map-append}
use Rattle.std.proofs.lemmas.List.Elements.{filter-append}
use Rattle.std.proofs.lemmas.Grind.{flat_map-append}
use Rattle.std.proofs.lemmas.Bool.{eqb-true, not-false, and_parts, and_right}
use Rattle.std.proofs.lemmas.Slice.Eq.{bytes_eq-Decides}
use Rattle.kernel_args.specs.declared.args.ProcArgs.{ProcArgs}
use Rattle.kernel_args.specs.declared.args.ProcName.{ProcName}
use Rattle.kernel_args.specs.Joined.{Cut, cut}
use Rattle.kernel_args.specs.Tags.{Tag, has_name, is_slots, contents_of}
use Rattle.kernel_args.specs.Contents.{process_contents, IsProcess, SpellsProcess, slots_contents, SpellsNames, Entry, IsEntry, entry_bytes, front_entry, name_of}
use Rattle.kernel_args.specs.Image.{IsRightTag, Parts, SpellsTags}
use Rattle.kernel_args.specs.Faults.{is_bad_names}
use Rattle.kernel_args.specs.Reading.{joined}
use Rattle.kernel_args.proofs.NumberLemmas.{IsBytes}
use Rattle.kernel_args.proofs.JoinedLemmas.{cut_joined, cut_joins, AllByRecursion-append}
use Rattle.kernel_args.proofs.ContentLemmas.{entries}

-- ---- the entries of one `PNam`

pub entries_again : (es : List Entry) → AllByRecursion IsEntry es → cut front_entry (flat_map entry_bytes es) ≡ record { items = es; rest = [] }
entries_again es fits =
    ap (cut front_entry) (sym (append-nil (flat_map entry_bytes es))) ∙ cut_joined front_entry entry_bytes IsEntry entries es [] fits refl

pub names_are_good : (es : List Entry) → AllByRecursion IsEntry es → is_bad_names (flat_map entry_bytes es) ≡ false
names_are_good es fits = ap (λ (c : Cut Entry). not (eqb (length c.rest) 0)) (entries_again es fits)

pub good_is_names : (contents : List ℕ) → IsBytes contents → is_bad_names contents ≡ false → SpellsNames contents (cut front_entry contents).items
good_is_names contents fits good =
    let c = cut front_entry contents in
    let joined = cut_joins front_entry entry_bytes IsEntry entries contents fits in
    let nothing_left : c.rest ≡ [] = nil_from_length c.rest (eqb-true (length c.rest) 0 (not-false (eqb (length c.rest) 0) good)) in
    record {
      each = joined.fits;
      contents_are = joined.parts ∙ ap (λ (l : List ℕ). flat_map entry_bytes c.items ++ l) nothing_left ∙ append-nil (flat_map entry_bytes c.items);
    }

-- ---- tags in order

contents_of-append : (test : Tag → Bool) (ts us : List Tag) → contents_of test (ts ++ us) ≡ contents_of test ts ++ contents_of test us
contents_of-append test ts us =
    ap (map (λ t. t.contents)) (filter-append test ts us) ∙ map-append (λ t. t.contents) (filter test ts) (filter test us)

pub has_name_is : (name : List ℕ) (t : Tag) → has_name name t ≡ true → t.name ≡ name
has_name_is name t e = (bytes_eq-Decides t.name name).0 e

-- a tag has one name
pub no_other_name : (one other : List ℕ) (t : Tag) → has_name one t ≡ true → pointwise eqb one other ≡ false → has_name other t ≡ false
no_other_name one other t e differ = ap (λ (n : List ℕ). pointwise eqb n other) (has_name_is one t e) ∙ differ

-- a `SwpS` that is read has that name, and no tag of another name is one
pub slots_name : (version : ℕ) (t : Tag) → is_slots version t ≡ true → has_name (codes "SwpS") t ≡ true
slots_name version t e = (and_parts (eqb version 2) (has_name (codes "SwpS") t) e).1

pub no_slots : (version : ℕ) (name : List ℕ) (t : Tag) → has_name name t ≡ true → pointwise eqb name (codes "SwpS") ≡ false → is_slots version t ≡ false
no_slots version name t e differ = and_right (eqb version 2) (has_name (codes "SwpS") t) (no_other_name name (codes "SwpS") t e differ)

pub contents_of_one : (test : Tag → Bool) (t : Tag) (ts : List Tag) → test t ≡ true → contents_of test (t ∷ ts) ≡ t.contents ∷ contents_of test ts
contents_of_one test t ts e = ap (λ (b : Bool). map (λ t. t.contents) (cond b (t ∷ filter test ts) (filter test ts))) e

pub contents_of_other : (test : Tag → Bool) (t : Tag) (ts : List Tag) → test t ≡ false → contents_of test (t ∷ ts) ≡ contents_of test ts
contents_of_other test t ts e = ap (λ (b : Bool). map (λ t. t.contents) (cond b (t ∷ filter test ts) (filter test ts))) e

-- no part
abbrev pub nothing : Parts
nothing = record { procs = []; names = []; slots = [] }

pub no_tags : (version : ℕ) → SpellsTags version [] nothing
no_tags version = record { each = tt; processes = refl; each_process = tt; entries = []; each_entry = tt; joined = refl; names_are = refl; slots = refl; few_slots = tt }

pub more_tags : (version : ℕ) (ts us : List Tag) (p q : Parts) → SpellsTags version ts p → SpellsTags version us q → SpellsTags version (ts ++ us) (joined p q)
more_tags version ts us p q a b =
    let processes = has_name (codes "IniE") in
    let names = has_name (codes "PNam") in
    let slots = is_slots version in
    record {
      each = AllByRecursion-append IsRightTag ts us a.each b.each;
      processes = contents_of-append processes ts us ∙ ap (λ (l : List (List ℕ)). l ++ contents_of processes us) a.processes
          ∙ ap (λ (l : List (List ℕ)). map process_contents p.procs ++ l) b.processes ∙ sym (map-append process_contents p.procs q.procs);
      each_process = AllByRecursion-append (IsProcess version) p.procs q.procs a.each_process b.each_process;
      entries = a.entries ++ b.entries;
      each_entry = AllByRecursion-append (AllByRecursion IsEntry) a.entries b.entries a.each_entry b.each_entry;
      joined = contents_of-append names ts us ∙ ap (λ (l : List (List ℕ)). l ++ contents_of names us) a.joined
          ∙ ap (λ (l : List (List ℕ)). map (flat_map entry_bytes) a.entries ++ l) b.joined ∙ sym (map-append (flat_map entry_bytes) a.entries b.entries);
      names_are =
          ap (map name_of) (flat_map-append (λ es. es) a.entries b.entries)
          ∙ map-append name_of (flat_map (λ es. es) a.entries) (flat_map (λ es. es) b.entries)
          ∙ ap (λ (l : List ProcName). l ++ map name_of (flat_map (λ es. es) b.entries)) a.names_are
          ∙ ap (λ (l : List ProcName). p.names ++ l) b.names_are;
      slots = contents_of-append slots ts us ∙ ap (λ (l : List (List ℕ)). l ++ contents_of slots us) a.slots
          ∙ ap (λ (l : List (List ℕ)). map slots_contents p.slots ++ l) b.slots ∙ sym (map-append slots_contents p.slots q.slots);
      few_slots = AllByRecursion-append (λ n. n ≤ 16384) p.slots q.slots a.few_slots b.few_slots;
    }

-- ---- one tag

pub process_tag : (version : ℕ) (t : Tag) (p : ProcArgs) → IsRightTag t → has_name (codes "IniE") t ≡ true → SpellsProcess version t.contents p
    → SpellsTags version (t ∷ []) (record nothing { procs = p ∷ [] })
process_tag version t p right named s = record {
  each = (right, tt);
  processes = contents_of_one (has_name (codes "IniE")) t [] named ∙ ap (λ (c : List ℕ). c ∷ []) s.contents_are;
  each_process = (s.is_process, tt);
  entries = [];
  each_entry = tt;
  joined = contents_of_other (has_name (codes "PNam")) t [] (no_other_name (codes "IniE") (codes "PNam") t named refl);
  names_are = refl;
  slots = contents_of_other (is_slots version) t [] (no_slots version (codes "IniE") t named refl);
  few_slots = tt;
}

pub names_tag : (version : ℕ) (t : Tag) (es : List Entry) → IsRightTag t → has_name (codes "PNam") t ≡ true → SpellsNames t.contents es
    → SpellsTags version (t ∷ []) (record nothing { names = map name_of es })
names_tag version t es right named s = record {
  each = (right, tt);
  processes = contents_of_other (has_name (codes "IniE")) t [] (no_other_name (codes "PNam") (codes "IniE") t named refl);
  each_process = tt;
  entries = es ∷ [];
  each_entry = (s.each, tt);
  joined = contents_of_one (has_name (codes "PNam")) t [] named ∙ ap (λ (c : List ℕ). c ∷ []) s.contents_are;
  names_are = ap (map name_of) (append-nil es);
  slots = contents_of_other (is_slots version) t [] (no_slots version (codes "PNam") t named refl);
  few_slots = tt;
}

pub slots_tag : (version : ℕ) (t : Tag) (n : ℕ) → IsRightTag t → is_slots version t ≡ true → t.contents ≡ slots_contents n → n ≤ 16384
    → SpellsTags version (t ∷ []) (record nothing { slots = n ∷ [] })
slots_tag version t n right read is few =
    let named = slots_name version t read in
    record {
      each = (right, tt);
      processes = contents_of_other (has_name (codes "IniE")) t [] (no_other_name (codes "SwpS") (codes "IniE") t named refl);
      each_process = tt;
      entries = [];
      each_entry = tt;
      joined = contents_of_other (has_name (codes "PNam")) t [] (no_other_name (codes "SwpS") (codes "PNam") t named refl);
      names_are = refl;
      slots = contents_of_one (is_slots version) t [] read ∙ ap (λ (c : List ℕ). c ∷ []) is;
      few_slots = (few, tt);
    }

-- a tag that is passed over
pub record IsOther (version : ℕ) (t : Tag) : Type 0 where
  pub no_process : has_name (codes "IniE") t ≡ false
  pub no_names : has_name (codes "PNam") t ≡ false
  pub no_slots : is_slots version t ≡ false

pub other_tag : (version : ℕ) (t : Tag) → IsRightTag t → IsOther version t → SpellsTags version (t ∷ []) nothing
other_tag version t right other = record {
  each = (right, tt);
  processes = contents_of_other (has_name (codes "IniE")) t [] other.no_process;
  each_process = tt;
  entries = [];
  each_entry = tt;
  joined = contents_of_other (has_name (codes "PNam")) t [] other.no_names;
  names_are = refl;
  slots = contents_of_other (is_slots version) t [] other.no_slots;
  few_slots = tt;
}
