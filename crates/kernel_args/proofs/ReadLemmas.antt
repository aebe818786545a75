-- Reading the row of tags one tag after the other.
use Rattle.std.proofs.Common.{◌≡◌, ℕ, ◌+◌, ◌-◌, ◌*◌, ◌<◌, ◌≤◌, Bool, true, false, not, cond, List, [], ◌∷◌, ◌++◌, length, take, drop, Option, Some, None, refl, sym, ap, subst, ◌∙◌, arith, eqb}
use Rattle.std.specs.Prelude.{codes}
use Rattle.std.specs.Option.{option_or, option_to_list}
use Rattle.std.specs.List.{flat_map, AllByRecursion}
use Rattle.std.proofs.lemmas.List.{length-append, length-map, nil_from_length}
use Rattle.std.proofs.lemmas.Bool.{ne_eqb, not_from_false, eqb-false, eqb-true}
use Rattle.kernel_args.specs.declared.args.Args.{Args}
use Rattle.kernel_args.specs.declared.args.ProcArgs.{ProcArgs}
use Rattle.kernel_args.specs.declared.faults.ArgFault.{ArgFault}
use Rattle.kernel_args.specs.declared.faults.ArgsError.{ArgsError}
use Rattle.kernel_args.specs.declared.faults.ArgsError.TheVariants as errors
use Rattle.kernel_args.specs.declared.found.Found.{Found}
use Rattle.kernel_args.specs.FaultNumbers.{bad_total, no_process}
use Rattle.kernel_args.specs.Joined.{Cut}
use Rattle.kernel_args.specs.Tags.{Tag, IsTag, tag_bytes, front_tag, has_name, is_slots, contents_of}
use Rattle.kernel_args.specs.Contents.{process_contents, slots_contents}
use Rattle.kernel_args.specs.Image.{process_limit, Parts, parts_of, SpellsTags, Spells}
use Rattle.kernel_args.specs.Faults.{first_fault, Before, at_start, behind, tag_faults, end_faults, tags_fault, row_fault, number_at, row_size, version_of, header_faults, args_fault, IsFault}
use Rattle.kernel_args.specs.Reading.{FrontTag, before_with, parts_in, AddsTag, SpellsRow, HeaderIs}
use Rattle.kernel_args.proofs.JoinedLemmas.{cut_none, cut_some, joined_more}
use Rattle.kernel_args.proofs.TagLemmas.{tags, length-tag_bytes}
use Rattle.kernel_args.proofs.RowLemmas.{nothing, no_tags, more_tags}
use Rattle.kernel_args.proofs.RowFaultLemmas.{IsGoodTag, tag_is_good, count_after, count_step, contents_head, IsGoodProcess, IsGoodNames, IsGoodSlots}
use Rattle.kernel_args.proofs.ImageLemmas.{good_processes, good_names, good_slots, length-option, row_of, spells_from}
use Rattle.kernel_args.proofs.HeaderLemmas.{header_in, begins_with}
use Rattle.kernel_args.proofs.NumberLemmas.{IsBytes}

-- the offset in the file of what is left of the row
abbrev pub offset_of : List ℕ → List ℕ → ℕ
offset_of row rest = 28 + (length row - length rest)

-- what stands before what is left of the row
abbrev pub before_rest : ℕ → List ℕ → List ℕ → Found → Before
before_rest version row rest f = before_with version (offset_of row rest) f

-- tags were read, and what was found in them; the first fault of the row is that of what is left
pub record RowRead (version : ℕ) (row rest : List ℕ) (f : Found) : Type 0 where
  pub tags : List Tag
  pub parts : row ≡ flat_map tag_bytes tags ++ rest
  pub spells : SpellsTags version tags (parts_in f)
  pub few : length f.procs ≤ process_limit version
  pub fault : row_fault (before_rest version row rest f) rest ≡ row_fault (at_start version) row

pub row_begins : (version : ℕ) (row : List ℕ) (f : Found) → parts_in f ≡ nothing → RowRead version row row f
row_begins version row f is =
    let start : offset_of row row ≡ 28 = omega arith in
    record {
      tags = [];
      parts = refl;
      spells = subst (SpellsTags version []) (sym is) (no_tags version);
      few = subst (λ (p : Parts). length p.procs ≤ process_limit version) (sym is) (omega arith);
      fault =
          ap (λ (o : ℕ). row_fault (before_with version o f) row) start
          ∙ ap (λ (p : Parts). row_fault (record { version = version; offset = 28; processes = length p.procs; slots = length p.slots }) row) is;
    }

rest_within : (row rest : List ℕ) (ts : List Tag) → row ≡ flat_map tag_bytes ts ++ rest → length rest ≤ length row
rest_within row rest ts e = omega (arith, ap (λ (l : List ℕ). length l) e, length-append (flat_map tag_bytes ts) rest)

tag_length : (rest : List ℕ) (t : Tag) (after : List ℕ) → FrontTag rest t after → length rest ≡ 8 + length t.contents + length after
tag_length rest t after f = omega (arith, ap (λ (l : List ℕ). length l) f.parts, length-append (tag_bytes t) after, length-tag_bytes t f.is_tag.name)

fault_step : (b : Before) (rest : List ℕ) (t : Tag) (after : List ℕ) → FrontTag rest t after → row_fault b rest ≡ option_or (first_fault (tag_faults b t)) (row_fault (behind b t) after)
unfolding row_fault
fault_step b rest t after f = ap (λ (c : Cut Tag). tags_fault b c.items c.rest) (cut_some front_tag tag_bytes IsTag tags rest t after f.front)

-- how many processes, and how many `SwpS` that are read, there are behind the tag
processes_after : (version : ℕ) (t : Tag) (old new : Found) → AddsTag version t old new → count_after (has_name (codes "IniE")) (length old.procs) t ≡ length new.procs
processes_after version t old new a =
    let test = has_name (codes "IniE") in
    let ps = a.parts.procs in
    let added : length (contents_of test (t ∷ [])) ≡ length ps = ap (λ (l : List (List ℕ)). length l) a.spells.processes ∙ length-map ps process_contents in
    let step : length old.procs + length (contents_of test (t ∷ [])) ≡ count_after test (length old.procs) t + 0 = count_step test (length old.procs) t [] in
    let all : length new.procs ≡ length old.procs + length ps = ap (λ (p : Parts). length p.procs) a.new_is ∙ length-append old.procs ps in
    omega arith

slots_after : (version : ℕ) (t : Tag) (old new : Found) → AddsTag version t old new
    → count_after (is_slots version) (length (option_to_list old.slots)) t ≡ length (option_to_list new.slots)
slots_after version t old new a =
    let test = is_slots version in
    let n = length (option_to_list old.slots) in
    let ss = a.parts.slots in
    let added : length (contents_of test (t ∷ [])) ≡ length ss = ap (λ (l : List (List ℕ)). length l) a.spells.slots ∙ length-map ss slots_contents in
    let step : n + length (contents_of test (t ∷ [])) ≡ count_after test n t + 0 = count_step test n t [] in
    let all : length (option_to_list new.slots) ≡ n + length ss = ap (λ (p : Parts). length p.slots) a.new_is ∙ length-append (option_to_list old.slots) ss in
    omega arith

added_is_good : (version offset : ℕ) (t : Tag) (old new : Found) → AddsTag version t old new → IsGoodTag (before_with version offset old) t
added_is_good version offset t old new a =
    let s = a.spells in
    let processes = has_name (codes "IniE") in
    let slots = is_slots version in
    let n = length old.procs in
    let m = length (option_to_list old.slots) in
    record {
      right = s.each.0.right;
      process = λ named. (
        omega (arith, ap (λ (b : Bool). cond b (n + 1) n) named, processes_after version t old new a, a.few),
        contents_head (IsGoodProcess version) processes t [] (subst (AllByRecursion (IsGoodProcess version)) (sym s.processes) (good_processes version a.parts.procs s.each_process)) named,
      );
      names = contents_head IsGoodNames (has_name (codes "PNam")) t [] (subst (AllByRecursion IsGoodNames) (sym s.joined) (good_names s.entries s.each_entry));
      slots = λ read. (
        contents_head IsGoodSlots slots t [] (subst (AllByRecursion IsGoodSlots) (sym s.slots) (good_slots a.parts.slots s.few_slots)) read,
        omega (arith, ap (λ (b : Bool). cond b (m + 1) m) read, slots_after version t old new a, length-option new.slots),
      );
    }

same_before : (version o o' p p' s s' : ℕ) → o ≡ o' → p ≡ p' → s ≡ s'
    → ◌≡◌ {A = Before} (record { version = version; offset = o; processes = p; slots = s }) (record { version = version; offset = o'; processes = p'; slots = s' })
same_before version o o' p p' s s' a b c = cc

-- what stands before what is behind the tag
behind_added : (version : ℕ) (row rest : List ℕ) (t : Tag) (after : List ℕ) (old new : Found) → length rest ≤ length row → FrontTag rest t after → AddsTag version t old new
    → behind (before_rest version row rest old) t ≡ before_rest version row after new
behind_added version row rest t after old new within f a =
    let len = tag_length rest t after f in
    let next : offset_of row rest + 8 + length t.contents ≡ offset_of row after = omega arith in
    same_before version _ _ _ _ _ _ next (processes_after version t old new a) (slots_after version t old new a)

pub row_more : (version : ℕ) (row rest : List ℕ) (t : Tag) (after : List ℕ) (old new : Found) → RowRead version row rest old → FrontTag rest t after → AddsTag version t old new
    → RowRead version row after new
row_more version row rest t after old new so_far f a =
    let b = before_rest version row rest old in
    let good : first_fault (tag_faults b t) ≡ None = tag_is_good b t (added_is_good version (offset_of row rest) t old new a) in
    let next = behind_added version row rest t after old new (rest_within row rest so_far.tags so_far.parts) f a in
    let step : row_fault b rest ≡ row_fault (before_rest version row after new) after =
    fault_step b rest t after f ∙ ap (λ (o : Option ArgFault). option_or o (row_fault (behind b t) after)) good ∙ ap (λ (b : Before). row_fault b after) next in
    record {
      tags = so_far.tags ++ t ∷ [];
      parts = joined_more tag_bytes row so_far.tags t rest after so_far.parts f.parts;
      spells = subst (SpellsTags version (so_far.tags ++ t ∷ [])) (sym a.new_is) (more_tags version so_far.tags (t ∷ []) (parts_in old) a.parts so_far.spells a.spells);
      few = a.few;
      fault = sym step ∙ so_far.fault;
    }

-- ---- the faults

pub fault_of_tag : (version : ℕ) (row rest : List ℕ) (found : Found) (t : Tag) (after : List ℕ) (e : ArgsError) → RowRead version row rest found → FrontTag rest t after
    → IsFault (first_fault (tag_faults (before_rest version row rest found) t)) e → IsFault (row_fault (at_start version) row) e
fault_of_tag version row rest found t after (errors.Fault g) so_far f h =
    let b = before_rest version row rest found in
    sym so_far.fault ∙ fault_step b rest t after f ∙ ap (λ (o : Option ArgFault). option_or o (row_fault (behind b t) after)) h
fault_of_tag version row rest found t after errors.NoMemory so_far f h = tt

fault_at_end : (version : ℕ) (row rest : List ℕ) (found : Found) → RowRead version row rest found → front_tag rest ≡ None
    → row_fault (at_start version) row ≡ first_fault (end_faults (before_rest version row rest found) rest)
unfolding row_fault
fault_at_end version row rest found so_far none =
    sym so_far.fault ∙ ap (λ (c : Cut Tag). tags_fault (before_rest version row rest found) c.items c.rest) (cut_none front_tag rest none)

pub fault_of_total : (version : ℕ) (row rest : List ℕ) (found : Found) → RowRead version row rest found → front_tag rest ≡ None → 0 < length rest
    → row_fault (at_start version) row ≡ Some (record { what = bad_total; at = offset_of row rest })
fault_of_total version row rest found so_far none some =
    let at_end : ℕ → Option ArgFault = λ what. Some (record { what = what; at = offset_of row rest }) in
    let holds : not (eqb (length rest) 0) ≡ true = not_from_false _ (ne_eqb (length rest) 0 (λ (e : length rest ≡ 0). omega arith)) in
    fault_at_end version row rest found so_far none ∙ ap (λ (b : Bool). cond b (at_end bad_total) (cond (eqb (length found.procs) 0) (at_end no_process) None)) holds

pub fault_of_none : (version : ℕ) (row rest : List ℕ) (found : Found) → RowRead version row rest found → length rest ≡ 0 → length found.procs ≡ 0
    → row_fault (at_start version) row ≡ Some (record { what = no_process; at = 28 + length row })
fault_of_none version row rest found so_far ended none_there =
    let at_end : ℕ → Option ArgFault = λ what. Some (record { what = what; at = offset_of row rest }) in
    let none : front_tag rest ≡ None = ap front_tag (nil_from_length rest ended) in
    let place : offset_of row rest ≡ 28 + length row = omega arith in
    fault_at_end version row rest found so_far none
    ∙ ap (λ (n : ℕ). cond (not (eqb n 0)) (at_end bad_total) (cond (eqb (length found.procs) 0) (at_end no_process) None)) ended
    ∙ ap (λ (n : ℕ). cond (eqb n 0) (at_end no_process) None) none_there
    ∙ ap (λ (o : ℕ). Some (record { what = no_process; at = o })) place

-- what a test for nothing left has told
pub some_left : (b : Bool) (n : ℕ) → b ≡ eqb n 0 → b ≡ false → 0 < n
some_left b n e f = let different : n ≡ 0 → ⊥ = eqb-false n 0 (sym e ∙ f) in omega arith

pub none_left : (b : Bool) (n : ℕ) → b ≡ eqb n 0 → b ≡ true → n ≡ 0
none_left b n e f = eqb-true n 0 (sym e ∙ f)

-- ---- the whole image

pub row_is : (bytes : List ℕ) (words : ℕ) (front row : List ℕ) → number_at 4 8 bytes ≡ words → front ≡ take (words * 4) bytes → row ≡ drop 28 front → row ≡ row_of bytes
row_is bytes words front row words_is front_is e =
    let size : words * 4 ≡ row_size bytes = omega (arith, ap (λ (n : ℕ). 4 * n) words_is) in
    e ∙ ap (drop 28) (front_is ∙ ap (λ (n : ℕ). take n bytes) size)

pub fault_of_header : (bytes : List ℕ) (f : ArgFault) → Some f ≡ first_fault (header_faults bytes) → args_fault bytes ≡ Some f
unfolding args_fault
fault_of_header bytes f e = ap (λ (o : Option ArgFault). option_or o (row_fault (at_start (version_of bytes)) (row_of bytes))) (sym e)

pub fault_of_row : (bytes row : List ℕ) (version : ℕ) (e : ArgsError) → None ≡ first_fault (header_faults bytes) → version_of bytes ≡ version → row ≡ row_of bytes
    → IsFault (row_fault (at_start version) row) e → IsFault (args_fault bytes) e
unfolding args_fault
fault_of_row bytes row version (errors.Fault f) none version_is is h =
    ap (λ (o : Option ArgFault). option_or o (row_fault (at_start (version_of bytes)) (row_of bytes))) (sym none)
    ∙ ap (λ (n : ℕ). row_fault (at_start n) (row_of bytes)) version_is ∙ ap (row_fault (at_start version)) (sym is) ∙ h
fault_of_row bytes row version errors.NoMemory none version_is is h = tt

pub image_read : (bytes row : List ℕ) (args : Args) (found : Found) → IsBytes bytes → None ≡ first_fault (header_faults bytes) → HeaderIs bytes (header_in args)
    → row ≡ row_of bytes → SpellsRow args.version row found → parts_in found ≡ parts_of args → Spells bytes args
image_read bytes row args found fits none header is s parts =
    let procs : found.procs ≡ args.procs = ap (λ (p : Parts). p.procs) parts in
    let some = s.some in
    let few = s.few in
    spells_from bytes args s.tags (begins_with bytes args fits (sym none) header) (sym is ∙ s.row_is) (subst (SpellsTags args.version s.tags) parts s.spells)
    (subst (λ (ps : List ProcArgs). 1 ≤ length ps) procs some) (subst (λ (ps : List ProcArgs). length ps ≤ process_limit args.version) procs few)
