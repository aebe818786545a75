-- What the slots hold after a page was put over the bytes of one.
use Rattle.std.proofs.Common.{◌≡◌, ◌==◌, ◌+◌, ◌-◌, ◌*◌, ◌<◌, ◌≤◌, ℕ, Bool, true, false, cond, Some, List, [], ◌++◌, length, slice_index, replicate, take, drop, slice_range, refl, sym, ap, ◌∙◌, ⊎_elim, arith}
use Rattle.std.proofs.lemmas.Bool.{cases_lt}
use Rattle.std.proofs.lemmas.Bool.Decides.{nat_tests}
use Rattle.std.proofs.lemmas.Slice.{between_is, between-put_mid, take-put_mid_below, drop-put_mid}
use Rattle.std.proofs.lemmas.List.{append_assoc, drop-append-le, drop-drop, get_or-replicate, get_or_past, length-drop, length-append, length-replicate, replicate-append-replicate, take-append-le}
use Rattle.std.proofs.lemmas.Grind.{common_steps}
use borrow.Rule.Slice.PartMut.{put_mid}
use Rattle.xk_ports.specs.Store.{Contents, SpoilsSlot, with_page}
use Rattle.xk_ports.specs.Pages.{contents_of}
use Rattle.xk_ports.specs.PagesView.{all_bytes, with_bytes_at}

-- a run of bytes before those that were written stays
slice_range-put_mid_below : (a k : ℕ) (bytes page : List ℕ) (from to : ℕ) → to ≤ a → a ≤ length bytes → slice_range (put_mid a k bytes page) from to ≡ slice_range bytes from to
slice_range-put_mid_below a k bytes page from to low within =
    between_is (put_mid a k bytes page) from to ∙ (ap (drop from) (take-put_mid_below a k bytes page to low within) ∙ sym (between_is bytes from to))

-- and so does one behind them
slice_range-put_mid_above : (a k : ℕ) (bytes page : List ℕ) (from to : ℕ) → a + k ≤ from → a ≤ length bytes → length page ≡ k → slice_range (put_mid a k bytes page) from to ≡ slice_range bytes from to
slice_range-put_mid_above a k bytes page from to high within whole =
    ap (take (to - from)) (drop-put_mid a k bytes page from high within whole)

-- each slot after the put
at_slot : (bytes page : List ℕ) (slot k : ℕ) → k ≡ 4096 → slot * 4096 + 4096 ≤ length bytes → length page ≡ k → (other : ℕ) → contents_of (put_mid (slot * 4096) k bytes page) other ≡ with_page (contents_of bytes) slot page other
at_slot bytes page slot k is within whole other =
    ⊎_elim
    (λ below.
    let test : (other == slot) ≡ false = grind (arith, nat_tests) in
    rw test (slice_range-put_mid_below (slot * 4096) k bytes page (other * 4096) (other * 4096 + 4096) (omega arith) (omega arith)))
    (λ from.
    ⊎_elim
    (λ above.
    let test : (other == slot) ≡ false = grind (arith, nat_tests) in
    rw test (slice_range-put_mid_above (slot * 4096) k bytes page (other * 4096) (other * 4096 + 4096) (omega arith) (omega arith) whole))
    (λ upto.
    let same : other ≡ slot = omega arith in
    let test : (other == slot) ≡ true = grind (arith, nat_tests) in
    rw (test, same) (between-put_mid (slot * 4096) k bytes page (slot * 4096 + 4096) (omega arith) (omega arith)))
    (cases_lt slot other))
    (cases_lt other slot)

-- the slots after the put
pub contents_of-put_mid : (bytes page : List ℕ) (slot k : ℕ) → k ≡ 4096 → slot * 4096 + 4096 ≤ length bytes → length page ≡ k → contents_of (put_mid (slot * 4096) k bytes page) ≡ with_page (contents_of bytes) slot page
contents_of-put_mid bytes page slot k is within whole = λ i other. at_slot bytes page slot k is within whole other i

-- each slot holds what it held, also where one is named
same_slot : (pages : Contents) (slot other : ℕ) → pages other ≡ with_page pages slot (pages slot) other
same_slot pages slot other =
    let go : (test : Bool) → (other == slot) ≡ test → pages other ≡ cond test (pages slot) (pages other) =
    λ test is. elim test as (λ t. (other == slot) ≡ t → pages other ≡ cond t (pages slot) (pages other)) [
      | true ↦ λ same. ap pages (grind (arith, nat_tests))
      | false ↦ λ _. refl
    ] is in
    go (other == slot) refl

-- slots that all stay are as after a failed put
pub SpoilsSlot_same : (pages : Contents) (slot : ℕ) → SpoilsSlot (Some pages) (Some pages) slot
SpoilsSlot_same pages slot = (pages slot, λ i. Some (λ other. same_slot pages slot other i))

-- the same, of slots that are known to be equal
pub SpoilsSlot_kept : (old new : List ℕ) (slot : ℕ) → new ≡ old → SpoilsSlot (Some (contents_of old)) (Some (contents_of new)) slot
SpoilsSlot_kept old new slot same = rw same (SpoilsSlot_same (contents_of old) slot)

-- ---- bytes that were not used yet

-- bytes that are filled up with zeros stand for the same slots
all_bytes-filled : (used : List ℕ) (count slots : ℕ) → count ≤ slots * 4096 → length used ≤ slots * 4096
    → all_bytes (used ++ replicate (count - length used) 0) slots ≡ all_bytes used slots
all_bytes-filled used count slots fits within =
    let filled : length (used ++ replicate (count - length used) 0) ≡ length used + (count - length used) =
    length-append used (replicate (count - length used) 0) ∙ ap (λ (n : ℕ). length used + n) (length-replicate (count - length used) 0) in
    append_assoc used (replicate (count - length used) 0) (replicate (slots * 4096 - length (used ++ replicate (count - length used) 0)) 0)
    ∙ ap (λ (rest : List ℕ). used ++ rest)
    (replicate-append-replicate (count - length used) (slots * 4096 - length (used ++ replicate (count - length used) 0)) 0
    ∙ ap (λ (n : ℕ). replicate n 0) (rw filled (omega arith)))

-- a page over bytes that were used is one over the bytes of all slots
put_mid-append : (bytes page rest : List ℕ) (start k : ℕ) → start + k ≤ length bytes → put_mid start k bytes page ++ rest ≡ put_mid start k (bytes ++ rest) page
put_mid-append bytes page rest start k within =
    let behind : drop k (drop start bytes) ++ rest ≡ drop k (drop start (bytes ++ rest)) =
    sym (ap (drop k) (drop-append-le start bytes rest (omega arith)) ∙ drop-append-le k (drop start bytes) rest (rw (length-drop start bytes) (omega arith))) in
    append_assoc (take start bytes) (page ++ drop k (drop start bytes)) rest
    ∙ ap (λ (all : List ℕ). take start bytes ++ all) (append_assoc page (drop k (drop start bytes)) rest ∙ ap (λ (all : List ℕ). page ++ all) behind)
    ∙ ap (λ (all : List ℕ). all ++ (page ++ drop k (drop start (bytes ++ rest)))) (sym (take-append-le start bytes rest (omega arith)))

with_bytes_at-is : (bytes page : List ℕ) (start : ℕ) → with_bytes_at bytes start page ≡ put_mid start (length page) bytes page
with_bytes_at-is bytes page start =
    append_assoc (take start bytes) page (drop (start + length page) bytes)
    ∙ ap (λ (rest : List ℕ). take start bytes ++ (page ++ rest)) (sym (drop-drop (length page) start bytes))

length-with_bytes_at : (bytes page : List ℕ) (start : ℕ) → start + length page ≤ length bytes → length (with_bytes_at bytes start page) ≡ length bytes
length-with_bytes_at bytes page start within = grind (arith, common_steps)

-- a page that is put over bytes that were filled up to it
pub contents_of-put : (used filled new page : List ℕ) (slots slot : ℕ) → filled ≡ used ++ replicate (slot * 4096 + 4096 - length used) 0 → new ≡ with_bytes_at filled (slot * 4096) page
    → length page ≡ 4096 → slot < slots → length used ≤ slots * 4096
    → contents_of (all_bytes new slots) ≡ with_page (contents_of (all_bytes used slots)) slot page
contents_of-put used filled new page slots slot is put whole there within =
    let long : length filled ≡ length used + (slot * 4096 + 4096 - length used) =
    ap (λ (bytes : List ℕ). length bytes) is ∙ length-append used _ ∙ ap (λ (n : ℕ). length used + n) (length-replicate (slot * 4096 + 4096 - length used) 0) in
    let reached : slot * 4096 + length page ≤ length filled = omega arith in
    let as_long : length new ≡ length filled = ap (λ (bytes : List ℕ). length bytes) put ∙ length-with_bytes_at filled page (slot * 4096) reached in
    let rest : List ℕ = replicate (slots * 4096 - length filled) 0 in
    let same : all_bytes new slots ≡ put_mid (slot * 4096) (length page) (all_bytes filled slots) page =
    ap (λ (n : ℕ). new ++ replicate (slots * 4096 - n) 0) as_long
    ∙ ap (λ (bytes : List ℕ). bytes ++ rest) (put ∙ with_bytes_at-is filled page (slot * 4096))
    ∙ put_mid-append filled page rest (slot * 4096) (length page) reached in
    let all_filled : all_bytes filled slots ≡ all_bytes used slots =
    ap (λ (bytes : List ℕ). all_bytes bytes slots) is ∙ all_bytes-filled used (slot * 4096 + 4096) slots (omega arith) within in
    let enough : slot * 4096 + 4096 ≤ length (all_bytes filled slots) = rw (length-append filled rest) (omega arith) in
    ap contents_of same ∙ contents_of-put_mid (all_bytes filled slots) page slot (length page) whole enough refl
    ∙ ap (λ (bytes : List ℕ). with_page (contents_of bytes) slot page) all_filled

-- the bytes of all slots
pub length-all_bytes : (used : List ℕ) (slots : ℕ) → length used ≤ slots * 4096 → length (all_bytes used slots) ≡ slots * 4096
length-all_bytes used slots within =
    length-append used _ ∙ ap (λ (n : ℕ). length used + n) (length-replicate (slots * 4096 - length used) 0) ∙ omega arith

-- where none was used, they are zeros
pub all_bytes-zero : (slots i : ℕ) → slice_index (all_bytes [] slots) i ≡ 0
all_bytes-zero slots i =
    let count : ℕ = slots * 4096 - length {A = ℕ} [] in
    ⊎_elim
    (λ within. get_or-replicate count i 0 0 within)
    (λ past. get_or_past (replicate count 0) i 0 (rw (length-replicate {A = ℕ} count 0) past))
    (cases_lt i count)
