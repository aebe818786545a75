-- The converted image spells the converted arguments.
use Rattle.std.proofs.Common.{◌≡◌, ℕ, ◌+◌, ◌-◌, ◌*◌, ◌%◌, ◌≤◌, inr, Option, None, List, [], ◌∷◌, ◌++◌, length, map, drop, take, Some, refl, sym, ap, subst, ◌∙◌, arith}
use Rattle.std.specs.Prelude.{All, IfSome}
use Rattle.std.specs.List.{flat_map, AllByRecursion}
use Rattle.std.proofs.lemmas.List.{length-append, length-map, drop_at, drop-drop}
use Rattle.std.proofs.lemmas.List.Elements.{All-from_recursion, All-weaker}
use Rattle.kernel_args.specs.declared.args.Args.{Args}
use Rattle.kernel_args.specs.declared.args.ProcArgs.{ProcArgs}
use Rattle.kernel_args.specs.Tags.{Tag, tag_bytes}
use Rattle.kernel_args.specs.Contents.{IsProcess}
use Rattle.kernel_args.specs.Image.{process_limit, IsSoundProcess, IsRightTag, header_tag, parts_of, SpellsTags, Spells}
use Rattle.kernel_args.specs.Loads.{file_sizes, loaded_bytes}
use Rattle.kernel_args.specs.Converting.{tags_in, row_behind_header, converted_row, converted_process, converted_args, converted_tags, converted, IsConvertible, CanMove}
use Rattle.kernel_args.proofs.CheckLemmas.{check_number_fits}
use Rattle.kernel_args.proofs.TagLemmas.{length-tag_bytes}
use Rattle.kernel_args.proofs.ImageLemmas.{process_is_sound}
use Rattle.kernel_args.proofs.ConvertedImage.{spelled_tags, row_became, length-row, length-converted, can_move}

new_process : (bytes : List ℕ) (old_row new_row : ℕ) (p : ProcArgs) → IsProcess 1 p → CanMove bytes old_row new_row p → IsProcess 2 (converted_process bytes old_row new_row p)
new_process bytes old_row new_row p is moves = record {
  load = moves.fits;
  entry = is.entry;
  has_check = refl;
  check = check_number_fits (loaded_bytes bytes p);
  some = is.some;
  few = is.few;
  sections = is.sections;
}

new_processes : (bytes : List ℕ) (old_row new_row : ℕ) (ps : List ProcArgs) → AllByRecursion (IsProcess 1) ps → AllByRecursion (CanMove bytes old_row new_row) ps
    → AllByRecursion (IsProcess 2) (map (converted_process bytes old_row new_row) ps)
new_processes bytes old_row new_row [] each move = tt
new_processes bytes old_row new_row (p ∷ ps) each move =
    (new_process bytes old_row new_row p each.0 move.0, new_processes bytes old_row new_row ps each.1 move.1)

each_new_process : (bytes : List ℕ) (args : Args) → IsConvertible bytes args → AllByRecursion (IsProcess 2) (converted_args bytes args).procs
each_new_process bytes args c =
    new_processes bytes (4 * args.words) (converted_row bytes args) args.procs
    (subst (λ (v : ℕ). AllByRecursion (IsProcess v) args.procs) c.first c.spelled.spelled.each_process) (can_move bytes args c)

-- the tags of the new row spell its parts
new_parts : (bytes : List ℕ) (args : Args) (c : IsConvertible bytes args)
    → SpellsTags 2 (converted_tags (converted_args bytes args).procs c.spelled.tags) (parts_of (converted_args bytes args))
new_parts bytes args c =
    let s = c.spelled.spelled in
    let b = row_became bytes args c.spelled c.first in
    record {
      each = b.each;
      processes = b.processes;
      each_process = each_new_process bytes args c;
      entries = s.entries;
      each_entry = s.each_entry;
      joined = b.names ∙ s.joined;
      names_are = s.names_are;
      slots = b.slots;
      few_slots = tt;
    }

-- a row of tags is whole words
whole_row : (ts : List Tag) → AllByRecursion IsRightTag ts → length (flat_map tag_bytes ts) % 4 ≡ 0
whole_row [] right = refl
whole_row (t ∷ ts) right =
    let all : length (flat_map tag_bytes (t ∷ ts)) ≡ length (tag_bytes t) + length (flat_map tag_bytes ts) = length-append (tag_bytes t) (flat_map tag_bytes ts) in
    let one = length-tag_bytes t right.0.tag.name in
    let contents = right.0.tag.whole_words in
    let others = whole_row ts right.1 in
    omega arith

-- the size of the new row of tags in words
pub new_row : (bytes : List ℕ) (args : Args) → IsConvertible bytes args → 4 * (converted_args bytes args).words ≡ converted_row bytes args
new_row bytes args c =
    let new = converted_args bytes args in
    let us = converted_tags new.procs c.spelled.tags in
    let head = length-tag_bytes (header_tag new) refl in
    let four = c.spelled.ram_name in
    let all : length (flat_map tag_bytes (header_tag new ∷ us)) ≡ length (tag_bytes (header_tag new)) + length (flat_map tag_bytes us) =
    length-append (tag_bytes (header_tag new)) (flat_map tag_bytes us) in
    let whole = whole_row us (row_became bytes args c.spelled c.first).each in
    let row = length-row bytes args c.spelled c.first in
    omega arith

pub converted_spells : (bytes : List ℕ) (args : Args) → IsConvertible bytes args → Spells (converted bytes args) (converted_args bytes args)
unfolding converted
converted_spells bytes args c =
    let s = c.spelled in
    let new = converted_args bytes args in
    let us = converted_tags new.procs s.tags in
    let head = length-tag_bytes (header_tag new) refl in
    let four = s.ram_name in
    let all : length (flat_map tag_bytes (header_tag new ∷ us)) ≡ length (tag_bytes (header_tag new)) + length (flat_map tag_bytes us) =
    length-append (tag_bytes (header_tag new)) (flat_map tag_bytes us) in
    let row = length-row bytes args s c.first in
    let words = new_row bytes args c in
    let len = length-converted bytes args s c.first in
    let short = c.short in
    let count = length-map args.procs (converted_process bytes (4 * args.words) (converted_row bytes args)) in
    let some = s.sound.some in
    let few = s.sound.few in
    let limit : process_limit args.version ≡ 32 = ap process_limit c.first in
    record {
      tags = us;
      rest = drop (4 * args.words) bytes;
      whole = ap (λ (ts : List Tag). flat_map tag_bytes (header_tag new ∷ converted_tags new.procs ts) ++ drop (4 * args.words) bytes) (spelled_tags bytes args s);
      size = omega arith;
      words = omega arith;
      ram_name = s.ram_name;
      spelled = new_parts bytes args c;
      sound = record {
        words = omega arith;
        version = inr refl;
        ram = s.sound.ram;
        some = omega arith;
        few = omega arith;
        procs = All-weaker (IsProcess 2) (IsSoundProcess 2) (process_is_sound 2) new.procs (All-from_recursion (IsProcess 2) new.procs (each_new_process bytes args c));
        slots = tt;
      };
    }

-- ---- what `boot_plan` asks of the converted image

-- the bytes behind the row of tags are kept
pub behind_kept : (bytes : List ℕ) (args : Args) → IsConvertible bytes args → drop (4 * (converted_args bytes args).words) (converted bytes args) ≡ drop (4 * args.words) bytes
unfolding converted
behind_kept bytes args c =
    let new = converted_args bytes args in
    let us : List Tag → List ℕ = λ ts. flat_map tag_bytes (header_tag new ∷ converted_tags new.procs ts) in
    let size : length (us (tags_in (row_behind_header args.words bytes))) ≡ 4 * new.words =
    ap (λ (ts : List Tag). length (us ts)) (spelled_tags bytes args c.spelled) ∙ length-row bytes args c.spelled c.first ∙ sym (new_row bytes args c) in
    drop_at (us (tags_in (row_behind_header args.words bytes))) (drop (4 * args.words) bytes) (4 * new.words) size

-- each process keeps its bytes
one_kept : (bytes new : List ℕ) (old_row new_row : ℕ) (p : ProcArgs) → drop new_row new ≡ drop old_row bytes → CanMove bytes old_row new_row p
    → loaded_bytes new (converted_process bytes old_row new_row p) ≡ loaded_bytes bytes p
one_kept bytes new old_row new_row p same move =
    let k = p.load - old_row in
    let behind = move.behind in
    let here : old_row + k ≡ p.load = omega arith in
    let there : new_row + k ≡ k + new_row = omega arith in
    ap (take (file_sizes p.sections))
    (ap (λ (n : ℕ). drop n new) (sym there) ∙ sym (drop-drop k new_row new) ∙ ap (drop k) same ∙ drop-drop k old_row bytes ∙ ap (λ (n : ℕ). drop n bytes) here)

all_kept : (bytes new : List ℕ) (old_row new_row : ℕ) (ps : List ProcArgs) → drop new_row new ≡ drop old_row bytes → AllByRecursion (CanMove bytes old_row new_row) ps
    → AllByRecursion (λ p. loaded_bytes new (converted_process bytes old_row new_row p) ≡ loaded_bytes bytes p) ps
all_kept bytes new old_row new_row [] same move = tt
all_kept bytes new old_row new_row (p ∷ ps) same move = (one_kept bytes new old_row new_row p same move.0, all_kept bytes new old_row new_row ps same move.1)

pub bytes_kept : (bytes : List ℕ) (args : Args) → IsConvertible bytes args
    → All (λ p. loaded_bytes (converted bytes args) (converted_process bytes (4 * args.words) (converted_row bytes args) p) ≡ loaded_bytes bytes p) args.procs
bytes_kept bytes args c =
    All-from_recursion (λ p. loaded_bytes (converted bytes args) (converted_process bytes (4 * args.words) (converted_row bytes args) p) ≡ loaded_bytes bytes p) args.procs
    (all_kept bytes (converted bytes args) (4 * args.words) (converted_row bytes args) args.procs
    (ap (λ (n : ℕ). drop n (converted bytes args)) (sym (new_row bytes args c)) ∙ behind_kept bytes args c) (can_move bytes args c))

-- version 1 gives no slots
slots_none : (slots : Option ℕ) (version : ℕ) → version ≡ 1 → IfSome slots (λ n. (version ≡ 2) × (n ≤ 16384)) → slots ≡ None
slots_none None version first h = refl
slots_none (Some n) version first h = absurd (omega (arith, h.0))

pub no_slots_given : (bytes : List ℕ) (args : Args) → IsConvertible bytes args → args.slots ≡ None
no_slots_given bytes args c = slots_none args.slots args.version c.first c.spelled.sound.slots
