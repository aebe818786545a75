-- What the tags of an image become, one tag after the other.
use Rattle.std.proofs.Common.{◌≡◌, ℕ, ◌+◌, ◌-◌, Bool, true, false, cond, List, [], ◌∷◌, ◌++◌, length, map, drop, take, None, sym, ap, ◌∙◌, append_assoc, subst, arith}
use Rattle.std.specs.Prelude.{codes, filter}
use Rattle.std.specs.List.{flat_map, AllByRecursion}
use Rattle.std.proofs.lemmas.List.{length-append, append-nil}
use Rattle.kernel_args.specs.declared.args.ProcArgs.{ProcArgs}
use Rattle.kernel_args.specs.Joined.{Cut}
use Rattle.kernel_args.specs.Tags.{Tag, IsTag, tag_bytes, front_tag, has_name}
use Rattle.kernel_args.specs.Reading.{FrontTag}
use Rattle.kernel_args.specs.Writing.{process_tag, process_row}
use Rattle.kernel_args.specs.Converting.{tags_in, is_left_out, left_out, converted_tags}
use Rattle.kernel_args.proofs.JoinedLemmas.{cut_some, cut_none}
use Rattle.kernel_args.proofs.TagLemmas.{tags}

-- ---- the tags of a row, from the front

pub tags_front : (bytes : List ℕ) (t : Tag) (rest : List ℕ) → FrontTag bytes t rest → tags_in bytes ≡ t ∷ tags_in rest
tags_front bytes t rest h = ap (λ (c : Cut Tag). c.items) (cut_some front_tag tag_bytes IsTag tags bytes t rest h.front)

pub tags_end : (bytes : List ℕ) → front_tag bytes ≡ None → tags_in bytes ≡ []
tags_end bytes e = ap (λ (c : Cut Tag). c.items) (cut_none front_tag bytes e)

pub front_length : (bytes : List ℕ) (t : Tag) (rest : List ℕ) → FrontTag bytes t rest → length bytes ≡ length (tag_bytes t) + length rest
front_length bytes t rest h = ap (λ (l : List ℕ). length l) h.parts ∙ length-append (tag_bytes t) rest

-- ---- tags that are left out

abbrev pub bytes_left_out : List Tag → ℕ
bytes_left_out ts = length (flat_map tag_bytes (filter is_left_out ts))

pub one_left_out : (t : Tag) (ts : List Tag) → is_left_out t ≡ true → bytes_left_out (t ∷ ts) ≡ length (tag_bytes t) + bytes_left_out ts
one_left_out t ts e =
    ap (λ (b : Bool). length (flat_map tag_bytes (cond b (t ∷ filter is_left_out ts) (filter is_left_out ts)))) e
    ∙ length-append (tag_bytes t) (flat_map tag_bytes (filter is_left_out ts))

pub one_kept : (t : Tag) (ts : List Tag) → is_left_out t ≡ false → bytes_left_out (t ∷ ts) ≡ bytes_left_out ts
one_kept t ts e = ap (λ (b : Bool). length (flat_map tag_bytes (cond b (t ∷ filter is_left_out ts) (filter is_left_out ts)))) e

pub left_out_more : (bytes : List ℕ) (t : Tag) (rest : List ℕ) → FrontTag bytes t rest → is_left_out t ≡ true → left_out bytes ≡ length bytes - length rest + left_out rest
left_out_more bytes t rest h e =
    let all = ap bytes_left_out (tags_front bytes t rest h) ∙ one_left_out t (tags_in rest) e in
    let len = front_length bytes t rest h in
    omega arith

pub left_out_same : (bytes : List ℕ) (t : Tag) (rest : List ℕ) → FrontTag bytes t rest → is_left_out t ≡ false → left_out bytes ≡ left_out rest
left_out_same bytes t rest h e = ap bytes_left_out (tags_front bytes t rest h) ∙ one_kept t (tags_in rest) e

pub left_out_end : (bytes : List ℕ) → front_tag bytes ≡ None → left_out bytes ≡ 0
left_out_end bytes e = ap bytes_left_out (tags_end bytes e)

-- ---- what a tag becomes

pub with_process : (p : ProcArgs) (ps : List ProcArgs) (t : Tag) (ts : List Tag) → has_name (codes "IniE") t ≡ true
    → converted_tags (p ∷ ps) (t ∷ ts) ≡ process_tag p ∷ converted_tags ps ts
with_process p ps t ts e =
    let kept = cond (is_left_out t) (converted_tags (p ∷ ps) ts) (t ∷ converted_tags (p ∷ ps) ts) in
    ap (λ (b : Bool). cond b (process_tag p ∷ converted_tags ps ts) kept) e

pub without_tag : (ps : List ProcArgs) (t : Tag) (ts : List Tag) → has_name (codes "IniE") t ≡ false → is_left_out t ≡ true
    → converted_tags ps (t ∷ ts) ≡ converted_tags ps ts
without_tag ps t ts e out =
    let process = map process_tag (take 1 ps) ++ converted_tags (drop 1 ps) ts in
    ap (λ (b : Bool). cond b process (cond (is_left_out t) (converted_tags ps ts) (t ∷ converted_tags ps ts))) e
    ∙ ap (λ (b : Bool). cond b (converted_tags ps ts) (t ∷ converted_tags ps ts)) out

pub with_tag : (ps : List ProcArgs) (t : Tag) (ts : List Tag) → has_name (codes "IniE") t ≡ false → is_left_out t ≡ false
    → converted_tags ps (t ∷ ts) ≡ t ∷ converted_tags ps ts
with_tag ps t ts e kept =
    let process = map process_tag (take 1 ps) ++ converted_tags (drop 1 ps) ts in
    ap (λ (b : Bool). cond b process (cond (is_left_out t) (converted_tags ps ts) (t ∷ converted_tags ps ts))) e
    ∙ ap (λ (b : Bool). cond b (converted_tags ps ts) (t ∷ converted_tags ps ts)) kept

-- the bytes of the process are appended, and what the tags behind it become
pub process_appended : (f : ProcArgs → ProcArgs) (old new : List ℕ) (procs : List ProcArgs) (p : ProcArgs) (others : List ProcArgs) (t : Tag) → procs ≡ p ∷ others
    → has_name (codes "IniE") t ≡ true → new ≡ old ++ process_row (f p) → (ts : List Tag)
    → new ++ flat_map tag_bytes (converted_tags (map f others) ts) ≡ old ++ flat_map tag_bytes (converted_tags (map f procs) (t ∷ ts))
unfolding process_row
process_appended f old new procs p others t e named appended ts =
    let behind = flat_map tag_bytes (converted_tags (map f others) ts) in
    ap (λ (l : List ℕ). l ++ behind) appended ∙ append_assoc old (process_row (f p)) behind
    ∙ ap (λ (l : List ℕ). old ++ l) (sym (ap (flat_map tag_bytes) (with_process (f p) (map f others) t ts named)))
    ∙ ap (λ (l : List ProcArgs). old ++ flat_map tag_bytes (converted_tags (map f l) (t ∷ ts))) (sym e)

-- what the tags of a row become, behind what was appended
pub tag_appended : (f : ProcArgs → ProcArgs) (out made : List ℕ) (procs left : List ProcArgs) (bytes : List ℕ) (t : Tag) (rest all : List ℕ) → FrontTag bytes t rest
    → ((ts : List Tag) → made ++ flat_map tag_bytes (converted_tags (map f left) ts) ≡ out ++ flat_map tag_bytes (converted_tags (map f procs) (t ∷ ts)))
    → out ++ flat_map tag_bytes (converted_tags (map f procs) (tags_in bytes)) ≡ all
    → made ++ flat_map tag_bytes (converted_tags (map f left) (tags_in rest)) ≡ all
tag_appended f out made procs left bytes t rest all h step e =
    step (tags_in rest) ∙ ap (λ (ts : List Tag). out ++ flat_map tag_bytes (converted_tags (map f procs) ts)) (sym (tags_front bytes t rest h)) ∙ e

-- nothing is left
pub all_appended : (out bytes all : List ℕ) (ps : List ProcArgs) → front_tag bytes ≡ None → out ++ flat_map tag_bytes (converted_tags ps (tags_in bytes)) ≡ all → out ≡ all
all_appended out bytes all ps e h =
    sym (append-nil out) ∙ ap (λ (ts : List Tag). out ++ flat_map tag_bytes (converted_tags ps ts)) (sym (tags_end bytes e)) ∙ h

pub each_front : (P : Tag → Type 0) (bytes : List ℕ) (t : Tag) (rest : List ℕ) → FrontTag bytes t rest → AllByRecursion P (tags_in bytes) → P t × AllByRecursion P (tags_in rest)
each_front P bytes t rest h each = subst (AllByRecursion P) (tags_front bytes t rest h) each
