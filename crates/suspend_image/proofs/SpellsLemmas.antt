-- A file that spells a state is read as that state and has no fault, so it spells no other; and a file without a fault spells one.
use Rattle.std.proofs.Common.{◌≡◌, ℕ, ◌+◌, ◌-◌, ◌≤◌, ◌<◌, ◌^◌, true, false, eqb, ltb, List, ◌++◌, length, take, drop, Option, None, Result, Ok, Err, refl, sym, ap, ◌∙◌, arith, length-drop}
use Rattle.std.specs.Prelude.{codes}
use Rattle.std.specs.Option.{option_or}
use Rattle.std.proofs.lemmas.Bool.{le-ltb, eq-eqb, eqb-true, ltb-false, not-false, or_parts}
use Rattle.kernel_args.specs.declared.faults.ArgFault.{ArgFault}
use Rattle.kernel_args.specs.CheckNumber.{check_number}
use Rattle.kernel_args.specs.Faults.{first_fault, number_at}
use Rattle.kernel_args.proofs.CheckLemmas.{check_number_fits}
use Rattle.kernel_args.proofs.NumberLemmas.{IsBytes, IsBytes-drop, word_front, word_split, number_lt}
use Rattle.kernel_args.proofs.RowFaultLemmas.{when_none, option_or_none}
use Rattle.std.proofs.lemmas.Slice.Eq.{bytes_eq-Decides}
use Rattle.std.proofs.lemmas.List.{take-append-drop, drop-drop, take_all}
use Rattle.snapshot_rows.specs.declared.state.State.{State}
use Rattle.suspend_image.specs.Words.{word}
use Rattle.suspend_image.specs.Spelling.{parts_bytes, headed, with_header, state_bytes}
use Rattle.suspend_image.specs.StateFaults.{state_at, state_of, is_not_state, is_bad_state_check, header_faults, form_fault, state_fault}
use Rattle.suspend_image.specs.Forms.{Spells}
use Rattle.suspend_image.proofs.SpelledAgain.StateAgainLemmas.{parts_again}
use Rattle.suspend_image.proofs.FoundSpelled.TakenLemmas.{IsEnd}
use Rattle.suspend_image.proofs.FoundSpelled.StateTakenLemmas.{parts_taken}

headed_is_state : (size check : ℕ) (parts : List ℕ) → is_not_state (headed size check parts) ≡ false
unfolding is_not_state
headed_is_state size check parts =
    let long : ltb (length (headed size check parts)) 16 ≡ false = le-ltb _ _ (omega arith) in
    rw long refl

headed_size : (size check : ℕ) (parts : List ℕ) → size < 2 ^ 32 → number_at 4 8 (headed size check parts) ≡ size
headed_size size check parts small = word_front size (word check ++ parts) small

headed_check : (size check : ℕ) (parts : List ℕ) → check < 2 ^ 32 → number_at 4 12 (headed size check parts) ≡ check
headed_check size check parts small = word_front check parts small

headed_parts : (size check : ℕ) (parts : List ℕ) → drop 16 (headed size check parts) ≡ parts
headed_parts size check parts = refl

headed_length : (size check : ℕ) (parts : List ℕ) → length (headed size check parts) ≡ 16 + length parts
headed_length size check parts = omega arith

-- the header that goes with its parts has no fault
header_again : (parts : List ℕ) → 16 + length parts < 2 ^ 32 → first_fault (header_faults (with_header parts)) ≡ None
unfolding header_faults is_bad_state_check
header_again parts few =
    let size = 16 + length parts in
    let check = check_number parts in
    let fits = check_number_fits parts in
    let right_size : eqb (number_at 4 8 (headed size check parts)) (length (headed size check parts)) ≡ true = eq-eqb _ _ (headed_size size check parts few ∙ sym (headed_length size check parts)) in
    let right_check : eqb (number_at 4 12 (headed size check parts)) (check_number (drop 16 (headed size check parts))) ≡ true = eq-eqb _ _ (headed_check size check parts (omega arith)) in
    rw (headed_is_state size check parts, right_size, right_check) refl

parts_are : (file : List ℕ) (s : State) → Spells file s → drop 16 file ≡ parts_bytes file s
unfolding state_bytes
parts_are file s spells = ap (λ (bytes : List ℕ). drop 16 bytes) spells.bytes ∙ headed_parts (16 + length (parts_bytes file s)) (check_number (parts_bytes file s)) (parts_bytes file s)

pub read_again : (file : List ℕ) (s : State) → Spells file s → state_of file ≡ Ok s
read_again file s spells = ap (state_at (length file)) (parts_are file s spells) ∙ parts_again file s spells.form

pub spelled_has_no_fault : (file : List ℕ) (s : State) → Spells file s → state_fault file ≡ None
unfolding state_fault state_bytes
spelled_has_no_fault file s spells =
    let parts = parts_bytes file s in
    let few = spells.few in
    let size : length file ≡ 16 + length parts = ap (λ (bytes : List ℕ). length bytes) spells.bytes ∙ headed_length (16 + length parts) (check_number parts) parts in
    let header : first_fault (header_faults file) ≡ None = ap (λ (bytes : List ℕ). first_fault (header_faults bytes)) spells.bytes ∙ header_again parts (omega arith) in
    ap (λ (fault : Option ArgFault). option_or fault (form_fault (length file) (state_of file))) header
    ∙ ap (λ (read : Result State ℕ). form_fault (length file) read) (read_again file s spells)

abbrev found_as : State → Result State ℕ
found_as s = Ok s

found_same : (one other : State) → found_as one ≡ found_as other → one ≡ other
found_same one other same = cc

-- a file spells at most one state
pub spelled_once : (file : List ℕ) (one other : State) → Spells file one → Spells file other → one ≡ other
spelled_once file one other p q = found_same one other (sym (read_again file one p) ∙ read_again file other q)

-- ---- what was read is spelled

-- a header without a fault goes with its parts
headed_when_right : (file : List ℕ) → IsBytes file → first_fault (header_faults file) ≡ None → (file ≡ with_header (drop 16 file)) × (length file < 2 ^ 32)
unfolding header_faults is_not_state is_bad_state_check
headed_when_right file fits right =
    let h = when_none (header_faults file) right in
    let named = or_parts _ _ h.0 in
    let long : 16 ≤ length file = ltb-false _ _ named.0 in
    let name : take 8 file ≡ codes "XousSt01" = (bytes_eq-Decides (take 8 file) (codes "XousSt01")).0 (not-false _ named.1) in
    let size : number_at 4 8 file ≡ length file = eqb-true _ _ (not-false _ h.1.0) in
    let check : number_at 4 12 file ≡ check_number (drop 16 file) = eqb-true _ _ (not-false _ h.1.1.0) in
    let small = number_lt (drop 8 file) (IsBytes-drop 8 file fits) in
    let left_8 = length-drop 8 file in
    let left_12 = length-drop 12 file in
    let left_16 = length-drop 16 file in
    let at_8 : drop 8 file ≡ word (number_at 4 8 file) ++ drop 12 file =
    word_split (drop 8 file) (IsBytes-drop 8 file fits) (omega arith) ∙ ap (λ (b : List ℕ). word (number_at 4 8 file) ++ b) (drop-drop 4 8 file) in
    let at_12 : drop 12 file ≡ word (number_at 4 12 file) ++ drop 16 file =
    word_split (drop 12 file) (IsBytes-drop 12 file fits) (omega arith) ∙ ap (λ (b : List ℕ). word (number_at 4 12 file) ++ b) (drop-drop 4 12 file) in
    let whole : length file ≡ 16 + length (drop 16 file) = omega arith in
    let parts : file ≡ headed (number_at 4 8 file) (number_at 4 12 file) (drop 16 file) =
    sym (take-append-drop 8 file) ∙ ap (λ (b : List ℕ). b ++ drop 8 file) name
    ∙ ap (λ (b : List ℕ). codes "XousSt01" ++ b) (at_8 ∙ ap (λ (b : List ℕ). word (number_at 4 8 file) ++ b) at_12) in (
      parts ∙ ap (λ (n : ℕ). headed n (number_at 4 12 file) (drop 16 file)) (size ∙ whole) ∙ ap (λ (n : ℕ). headed (16 + length (drop 16 file)) n (drop 16 file)) check,
      omega (arith, small, size),
    )

pub parts_are_spelled : (file : List ℕ) (s : State) → IsBytes file → first_fault (header_faults file) ≡ None → state_of file ≡ Ok s → Spells file s
unfolding state_bytes
parts_are_spelled file s fits right e =
    let header = headed_when_right file fits right in
    let ended : IsEnd file (drop 16 file) = record { front = take 16 file; parts = sym (take-append-drop 16 file); fits = IsBytes-drop 16 file fits } in
    let parts = parts_taken file (drop 16 file) s ended e in
    record { form = parts.form; few = header.1; bytes = header.0 ∙ ap with_header parts.spelled }

-- as a slice of the file gives its parts
pub slice_is_spelled : (file : List ℕ) (s : State) → IsBytes file → first_fault (header_faults file) ≡ None → state_at (length file) (take (length file - 16) (drop 16 file)) ≡ Ok s → Spells file s
slice_is_spelled file s fits right e =
    let all : take (length file - 16) (drop 16 file) ≡ drop 16 file = take_all (length file - 16) (drop 16 file) (omega (arith, length-drop 16 file)) in
    parts_are_spelled file s fits right (ap (state_at (length file)) (sym all) ∙ e)

-- where there is no fault, a state was read
read_when_right : (file : List ℕ) (read : Result State ℕ) → form_fault (length file) read ≡ None → (s : State) × (read ≡ Ok s)
read_when_right file (Ok s) e = (s, refl)
read_when_right file (Err left) e = absurd cc

pub spelled_when_right : (file : List ℕ) → IsBytes file → state_fault file ≡ None → (s : State) × Spells file s
unfolding state_fault
spelled_when_right file fits right =
    let both = option_or_none (first_fault (header_faults file)) (form_fault (length file) (state_of file)) right in
    let found = read_when_right file (state_of file) both.1 in
    (found.0, parts_are_spelled file found.0 fits both.0 found.1)
