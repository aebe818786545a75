-- The contents of an `IniE` spell a process exactly where they are not bad, and one process at most.
use Rattle.std.proofs.Common.{◌≡◌, ℕ, ◌+◌, ◌-◌, ◌*◌, ◌/◌, ◌%◌, ◌^◌, ◌<◌, ◌≤◌, Bool, true, false, cond, ◌&&◌, ◌||◌, List, [], ◌∷◌, ◌++◌, length, drop, map, Option, Some, None, refl, sym, ap, subst, ◌∙◌, arith, ltb, eqb}
use Rattle.std.specs.Prelude.{is_some, IfSome}
use Rattle.std.specs.List.{flat_map, AllByRecursion, list_any}
use Rattle.std.proofs.lemmas.List.{length-append, length-drop, nil_from_length, append-nil, drop-drop}
use Rattle.std.proofs.lemmas.Bool.{le-ltb, lt-ltb, ltb-false, ne_eqb, eqb-false, or_parts, or_from}
use Rattle.std.proofs.lemmas.Option.{none-some}
use Rattle.byteorder.specs.Endian.{little_number}
use Rattle.kernel_args.specs.declared.args.Section.{Section}
use Rattle.kernel_args.specs.declared.args.ProcArgs.{ProcArgs}
use Rattle.kernel_args.specs.Joined.{Cut, cut}
use Rattle.kernel_args.specs.Contents.{word, section_bytes, IsSection, front_section, check_word, process_contents, IsProcess, SpellsProcess}
use Rattle.kernel_args.specs.Faults.{has_unknown_flag, is_bad_length, is_bad_check, sections_offset, is_bad_process}
use Rattle.kernel_args.specs.Reading.{FrontCheck}
use Rattle.kernel_args.proofs.NumberLemmas.{IsBytes, IsBytes-drop, IsBytes-right, word_split, word_front, number_lt}
use Rattle.kernel_args.proofs.JoinedLemmas.{cut_joined, cut_joins, cut_some, joined_once, joined_more, AllByRecursion-append}
use Rattle.kernel_args.proofs.ContentLemmas.{IsSpelled, sections}

pub length-sections : (ss : List Section) → length (flat_map section_bytes ss) ≡ 8 * length ss
length-sections [] = refl
length-sections (s ∷ ss) = let others = length-sections ss in omega arith

pub known_flags : (ss : List Section) → AllByRecursion IsSection ss → list_any has_unknown_flag ss ≡ false
known_flags [] fits = refl
known_flags (s ∷ ss) fits = or_from (ltb 31 s.flags) (list_any has_unknown_flag ss) (le-ltb 31 s.flags (omega (arith, fits.0.flags))) (known_flags ss fits.1)

pub spelled : (ss : List Section) → AllByRecursion IsSection ss → AllByRecursion IsSpelled ss
spelled [] fits = tt
spelled (s ∷ ss) fits = (record { addr = fits.0.addr; size = fits.0.size }, spelled ss fits.1)

pub with_flags : (ss : List Section) → AllByRecursion IsSpelled ss → list_any has_unknown_flag ss ≡ false → AllByRecursion IsSection ss
with_flags [] fits none = tt
with_flags (s ∷ ss) fits none =
    let p = or_parts (ltb 31 s.flags) (list_any has_unknown_flag ss) none in
    let known : s.flags ≤ 31 = ltb-false 31 s.flags p.0 in
    (record { addr = fits.0.addr; size = fits.0.size; flags = omega arith }, with_flags ss fits.1 p.1)

-- sections that were joined are cut again
pub sections_again : (ss : List Section) → AllByRecursion IsSection ss → cut front_section (flat_map section_bytes ss) ≡ record { items = ss; rest = [] }
sections_again ss fits =
    ap (cut front_section) (sym (append-nil (flat_map section_bytes ss))) ∙ cut_joined front_section section_bytes IsSpelled sections ss [] (spelled ss fits) refl

-- ---- lengths

-- the words hold what stands before the sections, whose offset is given, and one to 32 sections
pub record IsLength (offset words : ℕ) : Type 0 where
  pub count : ℕ
  pub some : 1 ≤ count
  pub few : count ≤ 32
  pub is : 4 * words ≡ offset + 8 * count

abbrev is_bad : Bool → ℕ → Bool
is_bad second words = cond second (ltb words 5 || eqb (words % 2) 0 || ltb 67 words) (ltb words 4 || eqb (words % 2) 1 || ltb 66 words)

whole_is_good : (second : Bool) (words : ℕ) → IsLength (cond second 12 8) words → is_bad second words ≡ false
whole_is_good true words h =
    let is = h.is in
    let some = h.some in
    let few = h.few in
    or_from _ _ (or_from _ _ (le-ltb _ _ (omega arith)) (ne_eqb _ _ (λ (e : words % 2 ≡ 0). omega arith))) (le-ltb _ _ (omega arith))
whole_is_good false words h =
    let is = h.is in
    let some = h.some in
    let few = h.few in
    or_from _ _ (or_from _ _ (le-ltb _ _ (omega arith)) (ne_eqb _ _ (λ (e : words % 2 ≡ 1). omega arith))) (le-ltb _ _ (omega arith))

good_is_whole : (second : Bool) (words : ℕ) → is_bad second words ≡ false → IsLength (cond second 12 8) words
good_is_whole true words good =
    let p = or_parts _ _ good in
    let q = or_parts _ _ p.0 in
    let long : 5 ≤ words = ltb-false _ _ q.0 in
    let odd : words % 2 ≡ 0 → ⊥ = eqb-false _ _ q.1 in
    let short : words ≤ 67 = ltb-false _ _ p.1 in
    record { count = (words - 3) / 2; some = omega arith; few = omega arith; is = omega arith }
good_is_whole false words good =
    let p = or_parts _ _ good in
    let q = or_parts _ _ p.0 in
    let long : 4 ≤ words = ltb-false _ _ q.0 in
    let even : words % 2 ≡ 1 → ⊥ = eqb-false _ _ q.1 in
    let short : words ≤ 66 = ltb-false _ _ p.1 in
    record { count = (words - 2) / 2; some = omega arith; few = omega arith; is = omega arith }

pub good_length : (version words : ℕ) → is_bad_length version words ≡ false → IsLength (sections_offset version) words
good_length version words good = good_is_whole (eqb version 2) words good

-- ---- check words

pub length-check_word : (second : Bool) (check : Option ℕ) → is_some check ≡ second → 8 + length (check_word check) ≡ cond second 12 8
length-check_word true (Some c) e = refl
length-check_word false None e = refl
length-check_word true None e = absurd cc
length-check_word false (Some c) e = absurd cc

check_is_good : (second : Bool) (check : Option ℕ) (rest : List ℕ) → is_some check ≡ second → IfSome check (λ c. c < 2 ^ 16)
    → (second && ltb 0xFFFF (little_number 4 (check_word check ++ rest))) ≡ false
check_is_good true (Some c) rest e fits =
    le-ltb 0xFFFF (little_number 4 (word c ++ rest)) (omega (arith, fits, word_front c rest (omega (arith, fits))))
check_is_good false check rest e fits = refl
check_is_good true None rest e fits = absurd cc

pub behind_check : (second : Bool) (check : Option ℕ) (load entry : ℕ) (rest : List ℕ) → is_some check ≡ second
    → drop (cond second 12 8) (word load ++ (word entry ++ (check_word check ++ rest))) ≡ rest
behind_check true (Some c) load entry rest e = refl
behind_check false None load entry rest e = refl
behind_check true None load entry rest e = absurd cc
behind_check false (Some c) load entry rest e = absurd cc

-- two check words that are both there or both not
record SameCheck (a b : Option ℕ) (xs ys : List ℕ) : Type 0 where
  check : a ≡ b
  rest : xs ≡ ys

check_once : (a b : Option ℕ) (xs ys : List ℕ) → is_some a ≡ is_some b → IfSome a (λ c. c < 2 ^ 16) → IfSome b (λ c. c < 2 ^ 16)
    → check_word a ++ xs ≡ check_word b ++ ys → SameCheck a b xs ys
check_once None None xs ys same f g e = record { check = refl; rest = e }
check_once (Some c) (Some d) xs ys same f g e =
    let number : c ≡ d = sym (word_front c xs (omega (arith, f))) ∙ ap (λ (l : List ℕ). little_number 4 l) e ∙ word_front d ys (omega (arith, g)) in
    record { check = ap (λ (n : ℕ). Some n) number; rest = ap (λ (l : List ℕ). drop 4 l) e }
check_once None (Some d) xs ys same f g e = absurd cc
check_once (Some c) None xs ys same f g e = absurd cc

-- the check word at the front of bytes, where one is there
abbrev pub check_at : Bool → List ℕ → Option ℕ
check_at second bytes = cond second (Some (little_number 4 bytes)) None

check_at_is : (second : Bool) (bytes : List ℕ) → is_some (check_at second bytes) ≡ second
check_at_is true bytes = refl
check_at_is false bytes = refl

check_at_fits : (second : Bool) (bytes : List ℕ) → (second && ltb 0xFFFF (little_number 4 bytes)) ≡ false → IfSome (check_at second bytes) (λ c. c < 2 ^ 16)
check_at_fits true bytes good = let small : little_number 4 bytes ≤ 0xFFFF = ltb-false _ _ good in omega arith
check_at_fits false bytes good = tt

check_at_parts : (second : Bool) (bytes : List ℕ) → IsBytes bytes → 4 ≤ length bytes → bytes ≡ check_word (check_at second bytes) ++ drop (cond second 4 0) bytes
check_at_parts true bytes fits long = word_split bytes fits long
check_at_parts false bytes fits long = refl

pub check_found : (version : ℕ) (bytes : List ℕ) → IsBytes bytes → 4 ≤ length bytes → is_bad_check version bytes ≡ false
    → FrontCheck version bytes (check_at (eqb version 2) bytes) (drop (cond (eqb version 2) 4 0) bytes)
check_found version bytes fits long good = record {
  has_check = check_at_is (eqb version 2) bytes;
  fits = check_at_fits (eqb version 2) bytes good;
  parts = check_at_parts (eqb version 2) bytes fits long;
}

drop_check : (second : Bool) (contents : List ℕ) → drop (cond second 4 0) (drop 8 contents) ≡ drop (cond second 12 8) contents
drop_check true contents = drop-drop 4 8 contents
drop_check false contents = refl

check_word_whole : (check : Option ℕ) → length (check_word check) % 4 ≡ 0
check_word_whole None = refl
check_word_whole (Some c) = refl

offset_long : (second : Bool) → 8 ≤ cond second 12 8
offset_long true = omega arith
offset_long false = omega arith

found_behind : (second : Bool) (bytes : List ℕ) (check : Option ℕ) (behind : List ℕ) → is_some check ≡ second → bytes ≡ check_word check ++ behind → behind ≡ drop (cond second 4 0) bytes
found_behind true bytes (Some c) behind e f = sym (ap (λ (l : List ℕ). drop 4 l) f)
found_behind false bytes None behind e f = sym f
found_behind true bytes None behind e f = absurd cc
found_behind false bytes (Some c) behind e f = absurd cc

-- ---- processes

pub process_is_good : (version : ℕ) (p : ProcArgs) → IsProcess version p → is_bad_process version (process_contents p) ≡ false
process_is_good version p fits =
    let contents = process_contents p in
    let rest = flat_map section_bytes p.sections in
    let len : length contents ≡ 8 + (length (check_word p.check) + 8 * length p.sections) = omega (arith, length-append (check_word p.check) rest, length-sections p.sections) in
    let front = length-check_word (eqb version 2) p.check fits.has_check in
    let whole : IsLength (sections_offset version) (length contents / 4) =
    record { count = length p.sections; some = fits.some; few = fits.few; is = omega (arith, check_word_whole p.check) } in
    let flags : list_any has_unknown_flag (cut front_section (drop (sections_offset version) contents)).items ≡ false =
    ap (λ (l : List ℕ). list_any has_unknown_flag (cut front_section l).items) (behind_check (eqb version 2) p.check p.load p.entry rest fits.has_check)
    ∙ ap (λ (c : Cut Section). list_any has_unknown_flag c.items) (sections_again p.sections fits.sections) ∙ known_flags p.sections fits.sections in
    or_from _ _ (or_from _ _ (whole_is_good (eqb version 2) (length contents / 4) whole) (check_is_good (eqb version 2) p.check rest fits.has_check fits.check)) flags

-- fewer bytes are left than a section has
pub no_section : (bytes : List ℕ) → front_section bytes ≡ None → length bytes < 8
no_section (a ∷ b ∷ c ∷ d ∷ k ∷ l ∷ m ∷ n ∷ bytes) e = absurd (none-some (record { addr = little_number 4 (a ∷ b ∷ c ∷ d ∷ []); size = little_number 3 (k ∷ l ∷ m ∷ []); flags = n }, bytes) (sym e))
no_section [] e = omega arith
no_section (a ∷ []) e = omega arith
no_section (a ∷ b ∷ []) e = omega arith
no_section (a ∷ b ∷ c ∷ []) e = omega arith
no_section (a ∷ b ∷ c ∷ d ∷ []) e = omega arith
no_section (a ∷ b ∷ c ∷ d ∷ k ∷ []) e = omega arith
no_section (a ∷ b ∷ c ∷ d ∷ k ∷ l ∷ []) e = omega arith
no_section (a ∷ b ∷ c ∷ d ∷ k ∷ l ∷ m ∷ []) e = omega arith

pub cons_nil : {A : Type 0} (x : A) (xs : List A) → x ∷ xs ≡ [] → ⊥
cons_nil x xs e = cc

-- two words, a check word and sections are a process
pub process_from_parts : (version : ℕ) (contents : List ℕ) (check : Option ℕ) (behind : List ℕ) (ss : List Section) → IsBytes contents → length contents % 4 ≡ 0
    → is_bad_length version (length contents / 4) ≡ false → FrontCheck version (drop 8 contents) check behind → behind ≡ flat_map section_bytes ss → AllByRecursion IsSection ss
    → SpellsProcess version contents (record { load = little_number 4 contents; entry = little_number 4 (drop 4 contents); check = check; sections = ss })
process_from_parts version contents check behind ss fits whole good found e each =
    let l = good_length version (length contents / 4) good in
    let is = l.is in
    let some = l.some in
    let few = l.few in
    let front = length-check_word (eqb version 2) check found.has_check in
    let len : length (drop 8 contents) ≡ length (check_word check) + 8 * length ss =
    ap (λ (l : List ℕ). length l) found.parts ∙ length-append (check_word check) behind ∙ ap (λ (n : ℕ). length (check_word check) + n) (ap (λ (l : List ℕ). length l) e ∙ length-sections ss) in
    let count : length ss ≡ l.count = omega (arith, length-drop 8 contents) in
    let moved : drop 4 (drop 4 contents) ≡ check_word check ++ flat_map section_bytes ss =
    drop-drop 4 4 contents ∙ found.parts ∙ ap (λ (l : List ℕ). check_word check ++ l) e in
    let second : drop 4 contents ≡ word (little_number 4 (drop 4 contents)) ++ drop 4 (drop 4 contents) = word_split (drop 4 contents) (IsBytes-drop 4 contents fits) (omega (arith, length-drop 4 contents)) in
    record {
      is_process = record {
        load = number_lt contents fits;
        entry = number_lt (drop 4 contents) (IsBytes-drop 4 contents fits);
        has_check = found.has_check;
        check = found.fits;
        some = omega arith;
        few = omega arith;
        sections = each;
      };
      contents_are =
          word_split contents fits (omega arith)
          ∙ ap (λ (l : List ℕ). word (little_number 4 contents) ++ l) (second ∙ ap (λ (l : List ℕ). word (little_number 4 (drop 4 contents)) ++ l) moved);
    }

pub good_is_process : (version : ℕ) (contents : List ℕ) → IsBytes contents → length contents % 4 ≡ 0 → is_bad_process version contents ≡ false → (p : ProcArgs) × SpellsProcess version contents p
good_is_process version contents fits whole good =
    let p = or_parts _ _ good in
    let q = or_parts _ _ p.0 in
    let l = good_length version (length contents / 4) q.0 in
    let is = l.is in
    let some = l.some in
    let offset = sections_offset version in
    let offset_is : 8 ≤ offset = offset_long (eqb version 2) in
    let behind = drop offset contents in
    let c = cut front_section behind in
    let joined = cut_joins front_section section_bytes IsSpelled sections behind (IsBytes-drop offset contents fits) in
    let left : length c.rest < 8 = no_section c.rest joined.ends in
    let len : length behind ≡ 8 * length c.items + length c.rest =
    ap (λ (l : List ℕ). length l) joined.parts ∙ length-append (flat_map section_bytes c.items) c.rest ∙ ap (λ (n : ℕ). n + length c.rest) (length-sections c.items) in
    let nothing_left : c.rest ≡ [] = nil_from_length c.rest (omega (arith, length-drop offset contents)) in
    let all : behind ≡ flat_map section_bytes c.items =
    joined.parts ∙ ap (λ (l : List ℕ). flat_map section_bytes c.items ++ l) nothing_left ∙ append-nil (flat_map section_bytes c.items) in
    let check = check_at (eqb version 2) (drop 8 contents) in
    let found = check_found version (drop 8 contents) (IsBytes-drop 8 contents fits) (omega (arith, length-drop 8 contents)) q.1 in (
      record { load = little_number 4 contents; entry = little_number 4 (drop 4 contents); check = check; sections = c.items },
      process_from_parts version contents check (drop (cond (eqb version 2) 4 0) (drop 8 contents)) c.items fits whole q.0 found
          (drop_check (eqb version 2) contents ∙ all) (with_flags c.items joined.fits p.1),
    )

process_parts : (p q : ProcArgs) → p.load ≡ q.load → p.entry ≡ q.entry → p.check ≡ q.check → p.sections ≡ q.sections → p ≡ q
process_parts p q a b c d =
    ap (λ (x : ℕ). record { load = x; entry = p.entry; check = p.check; sections = p.sections }) a
    ∙ ap (λ (x : ℕ). record { load = q.load; entry = x; check = p.check; sections = p.sections }) b
    ∙ ap (λ (x : Option ℕ). record { load = q.load; entry = q.entry; check = x; sections = p.sections }) c
    ∙ ap (λ (x : List Section). record { load = q.load; entry = q.entry; check = q.check; sections = x }) d

pub process_once : (version : ℕ) (p q : ProcArgs) → IsProcess version p → IsProcess version q → process_contents p ≡ process_contents q → p ≡ q
process_once version p q fits fits' e =
    let behind : ProcArgs → List ℕ = λ p. check_word p.check ++ flat_map section_bytes p.sections in
    let load : p.load ≡ q.load =
    sym (word_front p.load (word p.entry ++ behind p) fits.load) ∙ ap (λ (l : List ℕ). little_number 4 l) e ∙ word_front q.load (word q.entry ++ behind q) fits'.load in
    let entry : p.entry ≡ q.entry =
    sym (word_front p.entry (behind p) fits.entry) ∙ ap (λ (l : List ℕ). little_number 4 (drop 4 l)) e ∙ word_front q.entry (behind q) fits'.entry in
    let rest : behind p ≡ behind q = ap (λ (l : List ℕ). drop 8 l) e in
    let same = check_once p.check q.check (flat_map section_bytes p.sections) (flat_map section_bytes q.sections) (fits.has_check ∙ sym fits'.has_check) fits.check fits'.check rest in
    process_parts p q load entry same.check
    (joined_once front_section section_bytes IsSpelled sections p.sections q.sections (spelled p.sections fits.sections) (spelled q.sections fits'.sections) same.rest)

pub processes_once : (version : ℕ) (ps qs : List ProcArgs) → AllByRecursion (IsProcess version) ps → AllByRecursion (IsProcess version) qs → map process_contents ps ≡ map process_contents qs → ps ≡ qs
processes_once version [] [] fits fits' e = refl
processes_once version [] (q ∷ qs) fits fits' e = absurd (cons_nil (process_contents q) (map process_contents qs) (sym e))
processes_once version (p ∷ ps) [] fits fits' e = absurd (cons_nil (process_contents p) (map process_contents ps) e)
processes_once version (p ∷ ps) (q ∷ qs) fits fits' e =
    let first : process_contents p ≡ process_contents q = cc in
    let others : map process_contents ps ≡ map process_contents qs = cc in
    let same : p ≡ q = process_once version p q fits.0 fits'.0 first in
    let rest : ps ≡ qs = processes_once version ps qs fits.1 fits'.1 others in
    cc

-- ---- reading sections one after the other

pub record SectionsRead (bytes rest : List ℕ) (ss : List Section) : Type 0 where
  pub parts : bytes ≡ flat_map section_bytes ss ++ rest
  pub each : AllByRecursion IsSection ss
  pub flags : list_any has_unknown_flag (cut front_section rest).items ≡ list_any has_unknown_flag (cut front_section bytes).items
  pub whole : length rest % 8 ≡ 0

flags_step : (rest : List ℕ) (s : Section) (after : List ℕ) → front_section rest ≡ Some (s, after)
    → list_any has_unknown_flag (cut front_section rest).items ≡ (ltb 31 s.flags || list_any has_unknown_flag (cut front_section after).items)
flags_step rest s after e = ap (λ (c : Cut Section). list_any has_unknown_flag c.items) (cut_some front_section section_bytes IsSpelled sections rest s after e)

pub sections_more : (bytes rest : List ℕ) (ss : List Section) (s : Section) (after : List ℕ) → SectionsRead bytes rest ss → IsBytes bytes → front_section rest ≡ Some (s, after) → s.flags ≤ 31
    → SectionsRead bytes after (ss ++ s ∷ [])
sections_more bytes rest ss s after so_far fits e known =
    let rest_fits : IsBytes rest = IsBytes-right (flat_map section_bytes ss) rest (subst IsBytes so_far.parts fits) in
    let took = sections.takes rest s after rest_fits e in
    let is : IsSection s = record { addr = took.fits.addr; size = took.fits.size; flags = omega arith } in
    let whole = so_far.whole in
    let len : length rest ≡ 8 + length after = omega (arith, ap (λ (l : List ℕ). length l) took.parts) in
    record {
      parts = joined_more section_bytes bytes ss s rest after so_far.parts took.parts;
      each = AllByRecursion-append IsSection ss (s ∷ []) so_far.each (is, tt);
      flags =
          sym (flags_step rest s after e ∙ ap (λ (b : Bool). b || list_any has_unknown_flag (cut front_section after).items) (le-ltb 31 s.flags known)) ∙ so_far.flags;
      whole = omega arith;
    }

pub sections_refused : (bytes rest : List ℕ) (ss : List Section) (s : Section) (after : List ℕ) → SectionsRead bytes rest ss → front_section rest ≡ Some (s, after) → 31 < s.flags
    → list_any has_unknown_flag (cut front_section bytes).items ≡ true
sections_refused bytes rest ss s after so_far e unknown =
    sym so_far.flags ∙ flags_step rest s after e ∙ ap (λ (b : Bool). b || list_any has_unknown_flag (cut front_section after).items) (lt-ltb 31 s.flags unknown)

pub spells_process : (version : ℕ) (contents : List ℕ) (load entry : ℕ) (check : Option ℕ) (behind : List ℕ) (ss : List Section) → IsBytes contents → length contents % 4 ≡ 0
    → is_bad_length version (length contents / 4) ≡ false → load ≡ little_number 4 contents → entry ≡ little_number 4 (drop 4 contents)
    → FrontCheck version (drop 8 contents) check behind → behind ≡ flat_map section_bytes ss → AllByRecursion IsSection ss
    → SpellsProcess version contents (record { load = load; entry = entry; check = check; sections = ss })
spells_process version contents load entry check behind ss fits whole good load_is entry_is found e each =
    rw (load_is, entry_is) (process_from_parts version contents check behind ss fits whole good found e each)
