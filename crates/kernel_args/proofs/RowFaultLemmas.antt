-- A row of tags has no fault exactly where it spells processes, names and slots.
use Rattle.std.proofs.Common.{◌≡◌, ℕ, ◌+◌, ◌/◌, ◌<◌, ◌≤◌, Bool, true, false, cond, ◌&&◌, List, [], ◌∷◌, ◌++◌, length, map, Option, Some, None, refl, sym, ap, subst, ◌∙◌, arith, inl, inr, add-zero}
use Rattle.std.specs.Prelude.{codes, is_some}
use Rattle.std.specs.Option.{option_or, option_to_list}
use Rattle.std.specs.List.{flat_map, AllByRecursion}
use Rattle.std.proofs.lemmas.List.{nil_from_length, length-append, append-nil}
use Rattle.std.proofs.lemmas.Bool.{cases_Bool, eqb-true, eqb-false, eq-eqb, ne_eqb, not-false, not_from_true, lt-leb, leb-false, or_from, or_parts, ltb-false}
use Rattle.byteorder.specs.Endian.{little_bytes, little_number}
use Rattle.kernel_args.specs.declared.args.ProcArgs.{ProcArgs}
use Rattle.kernel_args.specs.declared.args.ProcName.{ProcName}
use Rattle.kernel_args.specs.declared.faults.ArgFault.{ArgFault}
use Rattle.kernel_args.specs.declared.found.Found.{Found}
use Rattle.kernel_args.specs.CheckNumber.{check_number}
use Rattle.kernel_args.specs.Joined.{cut}
use Rattle.kernel_args.specs.Tags.{Tag, IsTag, tag_bytes, has_name, is_slots, contents_of}
use Rattle.kernel_args.specs.Contents.{name_of, front_entry, SpellsProcess, slots_contents}
use Rattle.kernel_args.specs.Image.{process_limit, IsRightTag, Parts, SpellsTags}
use Rattle.kernel_args.specs.Faults.{Check, first_fault, is_bad_process, is_bad_names, is_bad_slots, Before, behind, tag_faults, end_faults, tags_fault}
use Rattle.kernel_args.specs.Reading.{joined, AddsTag, GivesNames, GivesSlots}
use Rattle.kernel_args.proofs.NumberLemmas.{IsBytes, IsBytes-left, IsBytes-right, one_word}
use Rattle.kernel_args.proofs.ProcessLemmas.{good_is_process}
use Rattle.kernel_args.proofs.RowLemmas.{good_is_names, nothing, no_tags, more_tags, process_tag, names_tag, slots_tag, IsOther, other_tag, no_slots, contents_of_one, contents_of_other}

-- ---- the first fault of a list of checks

-- no check of the list holds
abbrev pub NoneHolds : List Check → Type 0
NoneHolds cs = AllByRecursion (λ c. c.0 ≡ false) cs

pub none_when : (cs : List Check) → NoneHolds cs → first_fault cs ≡ None
none_when [] h = refl
none_when (c ∷ cs) h = ap (λ (b : Bool). cond b (Some c.1) (first_fault cs)) h.0 ∙ none_when cs h.1

cond_none : {A : Type 0} (b : Bool) (x : A) (o : Option A) → cond b (Some x) o ≡ None → (b ≡ false) × (o ≡ None)
cond_none true x o e = absurd cc
cond_none false x o e = (refl, e)

pub when_none : (cs : List Check) → first_fault cs ≡ None → NoneHolds cs
when_none [] e = tt
when_none (c ∷ cs) e = let g = cond_none c.0 c.1 (first_fault cs) e in (g.0, when_none cs g.1)

pub option_or_none : {A : Type 0} (a b : Option A) → option_or a b ≡ None → (a ≡ None) × (b ≡ None)
option_or_none None b e = (refl, e)
option_or_none (Some x) b e = absurd cc

-- ---- one tag

-- a tag without a fault
pub record IsGoodTag (b : Before) (t : Tag) : Type 0 where
  pub right : t.check ≡ check_number t.contents
  pub process : has_name (codes "IniE") t ≡ true → (b.processes < process_limit b.version) × (is_bad_process b.version t.contents ≡ false)
  pub names : has_name (codes "PNam") t ≡ true → is_bad_names t.contents ≡ false
  pub slots : is_slots b.version t ≡ true → (is_bad_slots t.contents ≡ false) × (b.slots < 1)

and_false : (a b : Bool) → (a ≡ true → b ≡ false) → (a && b) ≡ false
and_false true b h = h refl
and_false false b h = refl

right_false : (a b : Bool) → (a && b) ≡ false → a ≡ true → b ≡ false
right_false true b e h = e
right_false false b e h = absurd cc

pub tag_is_good : (b : Before) (t : Tag) → IsGoodTag b t → first_fault (tag_faults b t) ≡ None
tag_is_good b t good =
    none_when (tag_faults b t) (
      not_from_true _ (eq-eqb t.check (check_number t.contents) good.right),
      (
        and_false _ _ (λ named. lt-leb (process_limit b.version) b.processes (good.process named).0),
        (
          and_false _ _ (λ named. (good.process named).1),
          (
            and_false _ _ good.names,
            (and_false _ _ (λ read. or_from _ _ (good.slots read).0 (lt-leb 1 b.slots (good.slots read).1)), tt),
          ),
        ),
      ),
    )

pub good_when_none : (b : Before) (t : Tag) → first_fault (tag_faults b t) ≡ None → IsGoodTag b t
good_when_none b t e =
    let h = when_none (tag_faults b t) e in
    record {
      right = eqb-true _ _ (not-false _ h.0);
      process = λ named. (leb-false (process_limit b.version) b.processes (right_false _ _ h.1.0 named), right_false _ _ h.1.1.0 named);
      names = right_false _ _ h.1.1.1.0;
      slots = λ read. let p = or_parts _ _ (right_false _ _ h.1.1.1.1.0 read) in (p.0, leb-false 1 b.slots p.1);
    }

-- ---- slots

pub good_is_slots : (contents : List ℕ) → IsBytes contents → is_bad_slots contents ≡ false → (n : ℕ) × (contents ≡ slots_contents n) × (n ≤ 16384)
good_is_slots contents fits good =
    let p = or_parts _ _ good in
    let four : length contents ≡ 4 = eqb-true _ _ (not-false _ p.0) in
    (little_number 4 contents, one_word contents fits four, ltb-false _ _ p.1)

-- ---- tags in order

-- one more where the test is passed
abbrev pub count_after : (Tag → Bool) → ℕ → Tag → ℕ
count_after test n t = cond (test t) (n + 1) n

pub count_step : (test : Tag → Bool) (n : ℕ) (t : Tag) (ts : List Tag) → n + length (contents_of test (t ∷ ts)) ≡ count_after test n t + length (contents_of test ts)
count_step test n t ts =
    elim (cases_Bool (test t)) [
      | inl e ↦ ap (λ (l : List (List ℕ)). n + length l) (contents_of_one test t ts e) ∙ rw e (omega arith)
      | inr e ↦ ap (λ (l : List (List ℕ)). n + length l) (contents_of_other test t ts e) ∙ rw e refl
    ]

pub contents_head : (P : List ℕ → Type 0) (test : Tag → Bool) (t : Tag) (ts : List Tag) → AllByRecursion P (contents_of test (t ∷ ts)) → test t ≡ true → P t.contents
contents_head P test t ts h e = (subst (AllByRecursion P) (contents_of_one test t ts e) h).0

contents_tail : (P : List ℕ → Type 0) (test : Tag → Bool) (t : Tag) (ts : List Tag) → AllByRecursion P (contents_of test (t ∷ ts)) → AllByRecursion P (contents_of test ts)
contents_tail P test t ts h =
    elim (cases_Bool (test t)) [
      | inl e ↦ (subst (AllByRecursion P) (contents_of_one test t ts e) h).1
      | inr e ↦ subst (AllByRecursion P) (contents_of_other test t ts e) h
    ]

abbrev pub IsGoodProcess : ℕ → List ℕ → Type 0
IsGoodProcess version contents = is_bad_process version contents ≡ false

abbrev pub IsGoodNames : List ℕ → Type 0
IsGoodNames contents = is_bad_names contents ≡ false

abbrev pub IsGoodSlots : List ℕ → Type 0
IsGoodSlots contents = is_bad_slots contents ≡ false

-- good tags, of which with those before them one is an `IniE` or more, up to the limit, and one at most a `SwpS` that is read
pub record AreGood (b : Before) (ts : List Tag) : Type 0 where
  pub right : AllByRecursion IsRightTag ts
  pub processes : AllByRecursion (IsGoodProcess b.version) (contents_of (has_name (codes "IniE")) ts)
  pub names : AllByRecursion IsGoodNames (contents_of (has_name (codes "PNam")) ts)
  pub slots : AllByRecursion IsGoodSlots (contents_of (is_slots b.version) ts)
  pub some : 0 < b.processes + length (contents_of (has_name (codes "IniE")) ts)
  pub few : b.processes + length (contents_of (has_name (codes "IniE")) ts) ≤ process_limit b.version
  pub one : b.slots + length (contents_of (is_slots b.version) ts) ≤ 1

first_is_good : (b : Before) (t : Tag) (ts : List Tag) → AreGood b (t ∷ ts) → IsGoodTag b t
first_is_good b t ts h =
    let few = h.few in
    let one = h.one in
    record {
      right = h.right.0.right;
      process = λ e. (
        omega (arith, ap (λ (l : List (List ℕ)). length l) (contents_of_one (has_name (codes "IniE")) t ts e)),
        contents_head (IsGoodProcess b.version) (has_name (codes "IniE")) t ts h.processes e,
      );
      names = contents_head IsGoodNames (has_name (codes "PNam")) t ts h.names;
      slots = λ e. (
        contents_head IsGoodSlots (is_slots b.version) t ts h.slots e,
        omega (arith, ap (λ (l : List (List ℕ)). length l) (contents_of_one (is_slots b.version) t ts e)),
      );
    }

others_are_good : (b : Before) (t : Tag) (ts : List Tag) → AreGood b (t ∷ ts) → AreGood (behind b t) ts
others_are_good b t ts h =
    let processes = count_step (has_name (codes "IniE")) b.processes t ts in
    let slots = count_step (is_slots b.version) b.slots t ts in
    record {
      right = h.right.1;
      processes = contents_tail (IsGoodProcess b.version) (has_name (codes "IniE")) t ts h.processes;
      names = contents_tail IsGoodNames (has_name (codes "PNam")) t ts h.names;
      slots = contents_tail IsGoodSlots (is_slots b.version) t ts h.slots;
      some = subst (λ n. 0 < n) processes h.some;
      few = subst (λ n. n ≤ process_limit b.version) processes h.few;
      one = subst (λ n. n ≤ 1) slots h.one;
    }

pub no_tags_fault : (b : Before) (ts : List Tag) → AreGood b ts → tags_fault b ts [] ≡ None
no_tags_fault b [] h =
    let some = h.some in
    none_when (end_faults b []) (refl, (ne_eqb b.processes 0 (λ (e : b.processes ≡ 0). omega arith), tt))
no_tags_fault b (t ∷ ts) h =
    ap (λ (o : Option ArgFault). option_or o (tags_fault (behind b t) ts [])) (tag_is_good b t (first_is_good b t ts h)) ∙ no_tags_fault (behind b t) ts (others_are_good b t ts h)

-- what tags without a fault spell
pub record Spelled (b : Before) (ts : List Tag) (rest : List ℕ) : Type 0 where
  pub parts : Parts
  pub spells : SpellsTags b.version ts parts
  pub nothing_left : rest ≡ []
  pub some : 0 < b.processes + length parts.procs
  pub few : b.processes + length parts.procs ≤ process_limit b.version
  pub one : b.slots + length parts.slots ≤ 1

contents_bytes : (t : Tag) (more : List ℕ) → IsBytes (tag_bytes t ++ more) → IsBytes t.contents
contents_bytes t more h =
    let words = little_bytes 2 (length t.contents / 4) in
    IsBytes-right words t.contents (IsBytes-right (little_bytes 2 t.check) (words ++ t.contents)
    (IsBytes-right t.name (little_bytes 2 t.check ++ (words ++ t.contents)) (IsBytes-left (tag_bytes t) more h)))

one_more : (b : Before) (t : Tag) (ts : List Tag) (rest : List ℕ) (parts : Parts) → SpellsTags b.version (t ∷ []) parts
    → (behind b t).processes ≡ b.processes + length parts.procs → (behind b t).slots ≡ b.slots + length parts.slots → Spelled (behind b t) ts rest → Spelled b (t ∷ ts) rest
one_more b t ts rest parts spells processes slots others =
    let more = others.parts in
    record {
      parts = joined parts more;
      spells = more_tags b.version (t ∷ []) ts parts more spells others.spells;
      nothing_left = others.nothing_left;
      some = omega (arith, others.some, processes, length-append parts.procs more.procs);
      few = omega (arith, others.few, processes, length-append parts.procs more.procs);
      one = omega (arith, others.one, slots, length-append parts.slots more.slots);
    }

counted : (test : Tag → Bool) (n : ℕ) (t : Tag) → test t ≡ true → count_after test n t ≡ n + 1
counted test n t e = ap (λ (b : Bool). cond b (n + 1) n) e

passed : (test : Tag → Bool) (n : ℕ) (t : Tag) → test t ≡ false → count_after test n t ≡ n + 0
passed test n t e = ap (λ (b : Bool). cond b (n + 1) n) e ∙ sym (add-zero n)

within : (test : Tag → Bool) (n limit : ℕ) (t : Tag) → n ≤ limit → (test t ≡ true → n < limit) → count_after test n t ≤ limit
within test n limit t few room =
    elim (cases_Bool (test t)) [
      | inl e ↦ rw e (omega (arith, room e))
      | inr e ↦ rw e few
    ]

-- a tag of none of the three kinds
other : (version : ℕ) (t : Tag) → has_name (codes "IniE") t ≡ false → has_name (codes "PNam") t ≡ false → is_slots version t ≡ false → IsOther version t
other version t p n s = record { no_process = p; no_names = n; no_slots = s }

pub tags_spelled : (b : Before) (ts : List Tag) (rest : List ℕ) → b.processes ≤ process_limit b.version → b.slots ≤ 1 → AllByRecursion IsTag ts → IsBytes (flat_map tag_bytes ts)
    → tags_fault b ts rest ≡ None → Spelled b ts rest
tags_spelled b [] rest few one fits bytes e =
    let h = when_none (end_faults b rest) e in
    let some : b.processes ≡ 0 → ⊥ = eqb-false b.processes 0 h.1.0 in
    record { parts = nothing; spells = no_tags b.version; nothing_left = nil_from_length rest (eqb-true _ _ (not-false _ h.0)); some = omega arith; few = omega arith; one = omega arith }
tags_spelled b (t ∷ ts) rest few one fits bytes e =
    let processes = has_name (codes "IniE") in
    let slots = is_slots b.version in
    let g = option_or_none (first_fault (tag_faults b t)) (tags_fault (behind b t) ts rest) e in
    let good = good_when_none b t g.0 in
    let right : IsRightTag t = record { tag = fits.0; right = good.right } in
    let contents = contents_bytes t (flat_map tag_bytes ts) bytes in
    let later = IsBytes-right (tag_bytes t) (flat_map tag_bytes ts) bytes in
    let others =
    tags_spelled (behind b t) ts rest (within processes b.processes (process_limit b.version) t few (λ named. (good.process named).0))
    (within slots b.slots 1 t one (λ read. (good.slots read).1)) fits.1 later g.1 in
    elim (cases_Bool (processes t)) [
      | inl named ↦
          let p = good_is_process b.version t.contents contents fits.0.whole_words (good.process named).1 in
          one_more b t ts rest (record nothing { procs = p.0 ∷ [] }) (process_tag b.version t p.0 right named p.1) (counted processes b.processes t named)
          (passed slots b.slots t (no_slots b.version (codes "IniE") t named refl)) others
      | inr unnamed ↦
          elim (cases_Bool (has_name (codes "PNam") t)) [
            | inl named ↦
                let es = (cut front_entry t.contents).items in
                one_more b t ts rest (record nothing { names = map name_of es }) (names_tag b.version t es right named (good_is_names t.contents contents (good.names named)))
                (passed processes b.processes t unnamed) (passed slots b.slots t (no_slots b.version (codes "PNam") t named refl)) others
            | inr nameless ↦
                elim (cases_Bool (slots t)) [
                  | inl read ↦
                      let n = good_is_slots t.contents contents (good.slots read).0 in
                      one_more b t ts rest (record nothing { slots = n.0 ∷ [] }) (slots_tag b.version t n.0 right read n.1 n.2)
                      (passed processes b.processes t unnamed) (counted slots b.slots t read) others
                  | inr unread ↦
                      one_more b t ts rest nothing (other_tag b.version t right (other b.version t unnamed nameless unread))
                      (passed processes b.processes t unnamed) (passed slots b.slots t unread) others
                ]
          ]
    ]

-- ---- reading a tag into what the tags before it spell

same_parts : (ps ps' : List ProcArgs) (ns ns' : List ProcName) (ss ss' : List ℕ) → ps ≡ ps' → ns ≡ ns' → ss ≡ ss'
    → ◌≡◌ {A = Parts} (record { procs = ps; names = ns; slots = ss }) (record { procs = ps'; names = ns'; slots = ss' })
same_parts ps ps' ns ns' ss ss' a b c = cc

pub adds_process : (version : ℕ) (t : Tag) (f : Found) (p : ProcArgs) → IsRightTag t → has_name (codes "IniE") t ≡ true → length f.procs < process_limit version
    → SpellsProcess version t.contents p → AddsTag version t f (record f { procs = f.procs ++ p ∷ [] })
adds_process version t f p right named room s = record {
  parts = record nothing { procs = p ∷ [] };
  spells = process_tag version t p right named s;
  new_is = same_parts _ _ _ _ _ _ refl (sym (append-nil f.names)) (sym (append-nil (option_to_list f.slots)));
  few = omega (arith, length-append f.procs (p ∷ []));
}

pub adds_names : (version : ℕ) (t : Tag) (f : Found) (new : List ProcName) → IsRightTag t → has_name (codes "PNam") t ≡ true → length f.procs ≤ process_limit version
    → GivesNames t.contents f.names new true → AddsTag version t f (record f { names = new })
adds_names version t f new right named room given = record {
  parts = record nothing { names = map name_of given.0 };
  spells = names_tag version t given.0 right named given.1;
  new_is = same_parts _ _ _ _ _ _ (sym (append-nil f.procs)) given.2 (sym (append-nil (option_to_list f.slots)));
  few = room;
}

pub none_found : (slots : Option ℕ) → is_some slots ≡ false → slots ≡ None
none_found None e = refl
none_found (Some n) e = absurd cc

pub adds_slots : (version : ℕ) (t : Tag) (f : Found) (n : ℕ) → IsRightTag t → is_slots version t ≡ true → length f.procs ≤ process_limit version
    → f.slots ≡ None → GivesSlots t.contents (Some n) → AddsTag version t f (record f { slots = Some n })
adds_slots version t f n right read room none given = record {
  parts = record nothing { slots = n ∷ [] };
  spells = slots_tag version t n right read given.0 given.1;
  new_is = same_parts _ _ _ _ _ _ (sym (append-nil f.procs)) (sym (append-nil f.names)) (ap (λ (o : Option ℕ). option_to_list o ++ n ∷ []) (sym none));
  few = room;
}

pub adds_nothing : (version : ℕ) (t : Tag) (f : Found) → IsRightTag t → has_name (codes "IniE") t ≡ false → has_name (codes "PNam") t ≡ false → is_slots version t ≡ false
    → length f.procs ≤ process_limit version → AddsTag version t f f
adds_nothing version t f right unnamed nameless unread room = record {
  parts = nothing;
  spells = other_tag version t right (other version t unnamed nameless unread);
  new_is = same_parts _ _ _ _ _ _ (sym (append-nil f.procs)) (sym (append-nil f.names)) (sym (append-nil (option_to_list f.slots)));
  few = room;
}
