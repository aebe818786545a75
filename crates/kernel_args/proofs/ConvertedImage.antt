-- The converted image: its size, and where the bytes of its processes stand.
use Rattle.std.proofs.Common.{◌≡◌, ℕ, ◌+◌, ◌-◌, ◌*◌, ◌/◌, ◌≤◌, false, List, [], ◌∷◌, ◌++◌, length, map, drop, take, refl, sym, ap, subst, ◌∙◌, arith, ltb}
use Rattle.std.specs.List.{flat_map, AllByRecursion}
use Rattle.std.proofs.lemmas.List.{length-append, length-drop, length-map, append-nil, take_at, drop_at}
use Rattle.std.proofs.lemmas.List.Elements.{recursion_from_All}
use Rattle.std.proofs.lemmas.Bool.{or_parts, ltb-false}
use Rattle.kernel_args.specs.declared.args.Args.{Args}
use Rattle.kernel_args.specs.declared.args.ProcArgs.{ProcArgs}
use Rattle.kernel_args.specs.CheckNumber.{check_number}
use Rattle.kernel_args.specs.Joined.{Cut}
use Rattle.kernel_args.specs.Tags.{Tag, IsTag, tag_bytes, front_tag}
use Rattle.kernel_args.specs.Contents.{IsProcess}
use Rattle.kernel_args.specs.Image.{IsRightTag, header_tag, Spells}
use Rattle.kernel_args.specs.Writing.{with_size, header_row}
use Rattle.kernel_args.specs.Loads.{file_sizes, loaded_bytes, is_load_outside}
use Rattle.kernel_args.specs.Converting.{tags_in, row_behind_header, converted_row, converted_process, converted_args, converted_tags, converted, IsConvertible, CanMove}
use Rattle.kernel_args.proofs.JoinedLemmas.{cut_joined}
use Rattle.kernel_args.proofs.TagLemmas.{tags, length-tag_bytes}
use Rattle.kernel_args.proofs.ConvertedLemmas.{Became, IsLonger, became, process_is_longer}
use Rattle.kernel_args.proofs.ConvertingLemmas.{bytes_left_out}

-- ---- the image that is converted

length-header_tag : (args : Args) → length args.ram_name ≡ 4 → length (tag_bytes (header_tag args)) ≡ 28
length-header_tag args four = omega (arith, length-tag_bytes (header_tag args) refl)

are_tags : (ts : List Tag) → AllByRecursion IsRightTag ts → AllByRecursion IsTag ts
are_tags [] right = tt
are_tags (t ∷ ts) right = (right.0.tag, are_tags ts right.1)

spelled_behind : (bytes : List ℕ) (args : Args) (s : Spells bytes args) → row_behind_header args.words bytes ≡ flat_map tag_bytes s.tags
spelled_behind bytes args s =
    let first = tag_bytes (header_tag args) in
    let row = flat_map tag_bytes (header_tag args ∷ s.tags) in
    ap (λ (l : List ℕ). drop 28 (take (4 * args.words) l)) s.whole
    ∙ ap (λ (l : List ℕ). drop 28 l) (take_at row s.rest (4 * args.words) s.size)
    ∙ drop_at first (flat_map tag_bytes s.tags) 28 (length-header_tag args s.ram_name)

pub spelled_tags : (bytes : List ℕ) (args : Args) (s : Spells bytes args) → tags_in (row_behind_header args.words bytes) ≡ s.tags
spelled_tags bytes args s =
    ap tags_in (spelled_behind bytes args s ∙ sym (append-nil (flat_map tag_bytes s.tags)))
    ∙ ap (λ (c : Cut Tag). c.items) (cut_joined front_tag tag_bytes IsTag tags s.tags [] (are_tags s.tags s.spelled.each) refl)

-- ---- its new row of tags

all_longer : (bytes : List ℕ) (old_row new_row : ℕ) (ps : List ProcArgs) → AllByRecursion (IsProcess 1) ps → AllByRecursion (λ p. IsLonger p (converted_process bytes old_row new_row p)) ps
all_longer bytes old_row new_row [] each = tt
all_longer bytes old_row new_row (p ∷ ps) each =
    (process_is_longer (p.load - old_row + new_row) (check_number (loaded_bytes bytes p)) p each.0, all_longer bytes old_row new_row ps each.1)

pub row_became : (bytes : List ℕ) (args : Args) (s : Spells bytes args) → args.version ≡ 1
    → Became s.tags (converted_tags (converted_args bytes args).procs s.tags) (converted_args bytes args).procs
row_became bytes args s first =
    let f = converted_process bytes (4 * args.words) (converted_row bytes args) in
    let each : AllByRecursion (IsProcess 1) args.procs = subst (λ (v : ℕ). AllByRecursion (IsProcess v) args.procs) first s.spelled.each_process in
    became f args.procs s.tags s.spelled.each (all_longer bytes (4 * args.words) (converted_row bytes args) args.procs each) s.spelled.processes

pub length-row : (bytes : List ℕ) (args : Args) (s : Spells bytes args) → args.version ≡ 1
    → length (flat_map tag_bytes (header_tag (converted_args bytes args) ∷ converted_tags (converted_args bytes args).procs s.tags)) ≡ converted_row bytes args
length-row bytes args s first =
    let new = converted_args bytes args in
    let us = converted_tags new.procs s.tags in
    let size = (row_became bytes args s first).size in
    let head = length-header_tag args s.ram_name in
    let new_head = length-header_tag new s.ram_name in
    let old : length (flat_map tag_bytes (header_tag args ∷ s.tags)) ≡ length (tag_bytes (header_tag args)) + length (flat_map tag_bytes s.tags) =
    length-append (tag_bytes (header_tag args)) (flat_map tag_bytes s.tags) in
    let all : length (flat_map tag_bytes (header_tag new ∷ us)) ≡ length (tag_bytes (header_tag new)) + length (flat_map tag_bytes us) =
    length-append (tag_bytes (header_tag new)) (flat_map tag_bytes us) in
    let out = ap bytes_left_out (spelled_tags bytes args s) in
    let count = length-map args.procs (converted_process bytes (4 * args.words) (converted_row bytes args)) in
    let row = s.size in
    omega arith

pub length-converted : (bytes : List ℕ) (args : Args) → Spells bytes args → args.version ≡ 1
    → length (converted bytes args) ≡ length bytes - 4 * args.words + converted_row bytes args
unfolding converted
length-converted bytes args s first =
    let new = converted_args bytes args in
    let us = converted_tags new.procs (tags_in (row_behind_header args.words bytes)) in
    let row = flat_map tag_bytes (header_tag new ∷ us) in
    let same : length row ≡ converted_row bytes args =
    ap (λ (ts : List Tag). length (flat_map tag_bytes (header_tag new ∷ converted_tags new.procs ts))) (spelled_tags bytes args s) ∙ length-row bytes args s first in
    let all : length (converted bytes args) ≡ length row + length (drop (4 * args.words) bytes) = length-append row (drop (4 * args.words) bytes) in
    let behind = length-drop (4 * args.words) bytes in
    omega arith

-- ---- its processes

processes_move : (bytes : List ℕ) (args : Args) (new_row : ℕ) (ps : List ProcArgs) → length bytes - 4 * args.words + new_row ≤ 67108864
    → AllByRecursion (IsProcess 1) ps → AllByRecursion (λ p. is_load_outside args.words (length bytes) p ≡ false) ps
    → AllByRecursion (CanMove bytes (4 * args.words) new_row) ps
processes_move bytes args new_row [] short each inside = tt
processes_move bytes args new_row (p ∷ ps) short each inside =
    let parts = or_parts (ltb p.load (4 * args.words)) (ltb (length bytes) (p.load + file_sizes p.sections)) inside.0 in
    let behind : 4 * args.words ≤ p.load = ltb-false _ _ parts.0 in
    let within : p.load + file_sizes p.sections ≤ length bytes = ltb-false _ _ parts.1 in
    (record { few = each.0.few; behind = behind; within = within; fits = omega arith }, processes_move bytes args new_row ps short each.1 inside.1)

pub can_move : (bytes : List ℕ) (args : Args) → IsConvertible bytes args → AllByRecursion (CanMove bytes (4 * args.words) (converted_row bytes args)) args.procs
can_move bytes args c =
    let len = length-converted bytes args c.spelled c.first in
    let short = c.short in
    processes_move bytes args (converted_row bytes args) args.procs (omega arith)
    (subst (λ (v : ℕ). AllByRecursion (IsProcess v) args.procs) c.first c.spelled.spelled.each_process)
    (recursion_from_All (λ p. is_load_outside args.words (length bytes) p ≡ false) args.procs c.inside)

-- what `convert` appends to, passes on and has found
pub record Appended (bytes : List ℕ) (args : Args) (all : List ℕ) : Type 0 where
  pub row : ℕ
  pub tags : List ℕ
  pub procs : List ProcArgs
  pub start : List ℕ
  pub with_header : List ℕ
  pub with_tags : List ℕ
  pub behind : List ℕ
  pub row_is : row ≡ converted_row bytes args
  pub tags_are : tags ≡ row_behind_header args.words bytes
  pub procs_are : procs ≡ args.procs
  pub start_is : start ≡ []
  pub header_is : with_header ≡ start ++ header_row (with_size (row / 4) 2 args)
  pub row_appended : with_tags ≡ with_header ++ flat_map tag_bytes (converted_tags (map (converted_process bytes (4 * args.words) row) procs) (tags_in tags))
  pub behind_is : behind ≡ drop (4 * args.words) bytes
  pub all_is : all ≡ with_tags ++ behind

pub appended : (bytes : List ℕ) (args : Args) (all : List ℕ) → Appended bytes args all → all ≡ converted bytes args
unfolding header_row converted
appended bytes args all h =
    let new = converted_args bytes args in
    let f : ℕ → ProcArgs → ProcArgs = converted_process bytes (4 * args.words) in
    let head : h.with_header ≡ tag_bytes (header_tag new) =
    h.header_is ∙ ap (λ (l : List ℕ). l ++ header_row (with_size (h.row / 4) 2 args)) h.start_is ∙ ap (λ (n : ℕ). header_row (with_size (n / 4) 2 args)) h.row_is in
    let made : converted_tags (map (f h.row) h.procs) (tags_in h.tags) ≡ converted_tags new.procs (tags_in (row_behind_header args.words bytes)) =
    ap (λ (n : ℕ). converted_tags (map (f n) h.procs) (tags_in h.tags)) h.row_is
    ∙ ap (λ (l : List ProcArgs). converted_tags (map (f (converted_row bytes args)) l) (tags_in h.tags)) h.procs_are
    ∙ ap (λ (l : List ℕ). converted_tags new.procs (tags_in l)) h.tags_are in
    let front : h.with_tags ≡ tag_bytes (header_tag new) ++ flat_map tag_bytes (converted_tags new.procs (tags_in (row_behind_header args.words bytes))) =
    h.row_appended ∙ ap (λ (l : List ℕ). l ++ flat_map tag_bytes (converted_tags (map (f h.row) h.procs) (tags_in h.tags))) head
    ∙ ap (λ (us : List Tag). tag_bytes (header_tag new) ++ flat_map tag_bytes us) made in
    h.all_is ∙ ap (λ (l : List ℕ). l ++ h.behind) front
    ∙ ap (λ (l : List ℕ). (tag_bytes (header_tag new) ++ flat_map tag_bytes (converted_tags new.procs (tags_in (row_behind_header args.words bytes)))) ++ l) h.behind_is
