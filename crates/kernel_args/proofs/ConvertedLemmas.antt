-- What the tags of an image became: each is right, they spell the new processes and the old names, and give no slots.
use Rattle.std.proofs.Common.{◌≡◌, ℕ, ◌+◌, ◌*◌, Bool, true, false, List, [], ◌∷◌, length, map, Some, refl, sym, ap, subst, ◌∙◌, arith, inl, inr, if◌then◌else◌}
use Rattle.std.specs.Prelude.{codes}
use Rattle.std.specs.List.{flat_map, AllByRecursion}
use Rattle.std.proofs.lemmas.List.{length-append}
use Rattle.std.proofs.lemmas.Bool.{cases_Bool}
use Rattle.kernel_args.specs.declared.args.ProcArgs.{ProcArgs}
use Rattle.kernel_args.specs.Tags.{Tag, tag_bytes, has_name, is_slots, contents_of}
use Rattle.kernel_args.specs.Contents.{process_contents, IsProcess}
use Rattle.kernel_args.specs.Image.{IsRightTag}
use Rattle.kernel_args.specs.Writing.{with_load, process_tag}
use Rattle.kernel_args.specs.Converting.{is_left_out, converted_tags}
use Rattle.kernel_args.proofs.TagLemmas.{length-tag_bytes}
use Rattle.kernel_args.proofs.RowLemmas.{no_other_name, contents_of_one, contents_of_other}
use Rattle.kernel_args.proofs.WritingLemmas.{length-check, length-contents, whole_process, short_process, right}
use Rattle.kernel_args.proofs.ConvertingLemmas.{bytes_left_out, one_left_out, one_kept, with_process, without_tag, with_tag}

pub record Became (ts us : List Tag) (qs : List ProcArgs) : Type 0 where
  pub each : AllByRecursion IsRightTag us
  pub processes : contents_of (has_name (codes "IniE")) us ≡ map process_contents qs
  pub names : contents_of (has_name (codes "PNam")) us ≡ contents_of (has_name (codes "PNam")) ts
  pub slots : contents_of (is_slots 2) us ≡ []
  pub size : length (flat_map tag_bytes us) + bytes_left_out ts ≡ length (flat_map tag_bytes ts) + 4 * length qs

-- ---- one tag

record IsKept (t : Tag) : Type 0 where
  process : has_name (codes "IniE") t ≡ false
  left_out : is_left_out t ≡ false

kept_becomes : (t : Tag) (ts us : List Tag) (qs : List ProcArgs) → IsRightTag t → IsKept t → Became ts us qs → Became (t ∷ ts) (t ∷ us) qs
kept_becomes t ts us qs is kept b =
    let size = b.size in
    let same = one_kept t ts kept.left_out in
    let old : length (flat_map tag_bytes (t ∷ ts)) ≡ length (tag_bytes t) + length (flat_map tag_bytes ts) = length-append (tag_bytes t) (flat_map tag_bytes ts) in
    let new : length (flat_map tag_bytes (t ∷ us)) ≡ length (tag_bytes t) + length (flat_map tag_bytes us) = length-append (tag_bytes t) (flat_map tag_bytes us) in
    record {
      each = (is, b.each);
      processes = contents_of_other (has_name (codes "IniE")) t us kept.process ∙ b.processes;
      names = elim (cases_Bool (has_name (codes "PNam") t)) [
        | inl e ↦ contents_of_one (has_name (codes "PNam")) t us e ∙ ap (λ (l : List (List ℕ)). t.contents ∷ l) b.names ∙ sym (contents_of_one (has_name (codes "PNam")) t ts e)
        | inr e ↦ contents_of_other (has_name (codes "PNam")) t us e ∙ b.names ∙ sym (contents_of_other (has_name (codes "PNam")) t ts e)
      ];
      slots = contents_of_other (is_slots 2) t us kept.left_out ∙ b.slots;
      size = omega arith;
    }

left_out_becomes : (t : Tag) (ts us : List Tag) (qs : List ProcArgs) → is_left_out t ≡ true → Became ts us qs → Became (t ∷ ts) us qs
left_out_becomes t ts us qs out b =
    let size = b.size in
    let more = one_left_out t ts out in
    let old : length (flat_map tag_bytes (t ∷ ts)) ≡ length (tag_bytes t) + length (flat_map tag_bytes ts) = length-append (tag_bytes t) (flat_map tag_bytes ts) in
    record {
      each = b.each;
      processes = b.processes;
      names = b.names ∙ sym (contents_of_other (has_name (codes "PNam")) t ts (no_other_name (codes "SwpS") (codes "PNam") t out refl));
      slots = b.slots;
      size = omega arith;
    }

-- a process that can be written, four bytes longer than before
pub record IsLonger (p q : ProcArgs) : Type 0 where
  pub tag : IsRightTag (process_tag q)
  pub size : length (process_contents q) ≡ length (process_contents p) + 4

process_becomes : (t : Tag) (ts us : List Tag) (p q : ProcArgs) (qs : List ProcArgs) → IsRightTag t → has_name (codes "IniE") t ≡ true → t.contents ≡ process_contents p
    → IsLonger p q → Became ts us qs → Became (t ∷ ts) (process_tag q ∷ us) (q ∷ qs)
process_becomes t ts us p q qs is named contents longer b =
    let u = process_tag q in
    let size = b.size in
    let grown = longer.size in
    let same = one_kept t ts (no_other_name (codes "IniE") (codes "SwpS") t named refl) in
    let old : length (flat_map tag_bytes (t ∷ ts)) ≡ length (tag_bytes t) + length (flat_map tag_bytes ts) = length-append (tag_bytes t) (flat_map tag_bytes ts) in
    let new : length (flat_map tag_bytes (u ∷ us)) ≡ length (tag_bytes u) + length (flat_map tag_bytes us) = length-append (tag_bytes u) (flat_map tag_bytes us) in
    let one = length-tag_bytes t is.tag.name in
    let other = length-tag_bytes u refl in
    let len : length t.contents ≡ length (process_contents p) = ap (λ (l : List ℕ). length l) contents in
    record {
      each = (longer.tag, b.each);
      processes = contents_of_one (has_name (codes "IniE")) u us refl ∙ ap (λ (l : List (List ℕ)). process_contents q ∷ l) b.processes;
      names = contents_of_other (has_name (codes "PNam")) u us refl ∙ b.names
          ∙ sym (contents_of_other (has_name (codes "PNam")) t ts (no_other_name (codes "IniE") (codes "PNam") t named refl));
      slots = contents_of_other (is_slots 2) u us refl ∙ b.slots;
      size = omega arith;
    }

-- ---- all tags

-- the process of the first tag, and those of the tags behind it
record FirstProcess (t : Tag) (ts : List Tag) (ps : List ProcArgs) : Type 0 where
  first : ProcArgs
  others : List ProcArgs
  is : ps ≡ first ∷ others
  contents : t.contents ≡ process_contents first
  behind : contents_of (has_name (codes "IniE")) ts ≡ map process_contents others

first_process : (t : Tag) (ts : List Tag) (ps : List ProcArgs) → has_name (codes "IniE") t ≡ true
    → contents_of (has_name (codes "IniE")) (t ∷ ts) ≡ map process_contents ps → FirstProcess t ts ps
first_process t ts [] named e = let some = sym (contents_of_one (has_name (codes "IniE")) t ts named) ∙ e in absurd cc
first_process t ts (p ∷ ps) named e =
    let some : t.contents ∷ contents_of (has_name (codes "IniE")) ts ≡ process_contents p ∷ map process_contents ps =
    sym (contents_of_one (has_name (codes "IniE")) t ts named) ∙ e in
    record { first = p; others = ps; is = refl; contents = cc; behind = cc }

no_processes : (ps : List ProcArgs) → [] ≡ map process_contents ps → ps ≡ []
no_processes [] e = refl
no_processes (p ∷ ps) e = absurd cc

pub became : (f : ProcArgs → ProcArgs) (ps : List ProcArgs) (ts : List Tag) → AllByRecursion IsRightTag ts → AllByRecursion (λ p. IsLonger p (f p)) ps
    → contents_of (has_name (codes "IniE")) ts ≡ map process_contents ps → Became ts (converted_tags (map f ps) ts) (map f ps)
became f ps [] right longer e =
    subst (λ (l : List ProcArgs). Became [] [] (map f l)) (sym (no_processes ps e)) (record { each = tt; processes = refl; names = refl; slots = refl; size = refl })
became f ps (t ∷ ts) right longer e =
    elim (cases_Bool (has_name (codes "IniE") t)) [
      | inl named ↦
          let q = first_process t ts ps named e in
          let each : AllByRecursion (λ p. IsLonger p (f p)) (q.first ∷ q.others) = subst (AllByRecursion (λ p. IsLonger p (f p))) q.is longer in
          let behind = became f q.others ts right.1 each.1 q.behind in
          let all = process_becomes t ts (converted_tags (map f q.others) ts) q.first (f q.first) (map f q.others) right.0 named q.contents each.0 behind in
          subst (λ (l : List ProcArgs). Became (t ∷ ts) (converted_tags (map f l) (t ∷ ts)) (map f l)) (sym q.is)
          (subst (λ (us : List Tag). Became (t ∷ ts) us (map f (q.first ∷ q.others))) (sym (with_process (f q.first) (map f q.others) t ts named)) all)
      | inr other ↦
          let behind = became f ps ts right.1 longer (sym (contents_of_other (has_name (codes "IniE")) t ts other) ∙ e) in
          elim (cases_Bool (is_left_out t)) [
            | inl out ↦
                subst (λ (us : List Tag). Became (t ∷ ts) us (map f ps)) (sym (without_tag (map f ps) t ts other out))
                (left_out_becomes t ts (converted_tags (map f ps) ts) (map f ps) out behind)
            | inr kept ↦
                subst (λ (us : List Tag). Became (t ∷ ts) us (map f ps)) (sym (with_tag (map f ps) t ts other kept))
                (kept_becomes t ts (converted_tags (map f ps) ts) (map f ps) right.0 (record { process = other; left_out = kept }) behind)
          ]
    ]

-- a process of version 1 with a check word
pub process_is_longer : (load c : ℕ) (p : ProcArgs) → IsProcess 1 p → IsLonger p (with_load load (Some c) p)
process_is_longer load c p is =
    let q = with_load load (Some c) p in
    let few = is.few in
    let none = length-check p.check ∙ ap (λ (b : Bool). if b then 4 else 0) is.has_check in
    let before = length-contents p in
    let after = length-contents q in
    let short = short_process q is.few in
    record { tag = right (codes "IniE") (process_contents q) refl (whole_process q) (omega arith); size = omega arith }
