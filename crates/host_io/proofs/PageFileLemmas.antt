-- The pages of a file after one was written.
use Rattle.std.proofs.Common.{◌≡◌, ◌∙◌, ◌==◌, ◌+◌, ◌*◌, ◌<◌, ◌≤◌, ℕ, Bool, true, false, cond, nat_lt, List, length, slice_index, Option, Some, None, refl, sym, ap, subst, ⊎_elim, arith}
use Rattle.std.proofs.lemmas.Bool.{cases_lt}
use Rattle.std.proofs.lemmas.Bool.Decides.{nat_tests}
use Rattle.std.proofs.Math.ListN.{replicate}
use Rattle.std.proofs.lemmas.List.{ext_get_or, get_or-replicate, get_or_past, length-replicate}
use Rattle.std.proofs.lemmas.List.FromFn.{get_or-map-range_with_len, length-map-range_with_len}
use Rattle.std.specs.Option.{option_map}
use Rattle.xk_ports.specs.Store.{Contents, IsZeroPage, HoldsZeros, SpoilsSlot, GivesPage, with_page}
use Rattle.host_io.specs.PageFile.{FileBytes, written_at, page_at, slots_of, slots_in}

-- a byte that was written
byte_written : (file : FileBytes) (at i : ℕ) (page : List ℕ) → length page ≡ 4096 → i < 4096 → written_at file at page (at + i) ≡ slice_index page i
byte_written file at i page whole low =
    let from : nat_lt (at + i) at ≡ false = grind (arith, nat_tests) in
    let upto : nat_lt (at + i) (at + length page) ≡ true = grind (arith, nat_tests) in
    rw (from, upto) (ap (slice_index page) (omega arith))

-- a byte before those that were written, or behind them
byte_before : (file : FileBytes) (at offset : ℕ) (page : List ℕ) → offset < at → written_at file at page offset ≡ file offset
byte_before file at offset page low =
    let from : nat_lt offset at ≡ true = grind (arith, nat_tests) in
    rw from refl

byte_behind : (file : FileBytes) (at offset : ℕ) (page : List ℕ) → length page ≡ 4096 → at + 4096 ≤ offset
    → written_at file at page offset ≡ file offset
byte_behind file at offset page whole high =
    let from : nat_lt offset at ≡ false = grind (arith, nat_tests) in
    let upto : nat_lt offset (at + length page) ≡ false = grind (arith, nat_tests) in
    rw (from, upto) refl

-- pages whose bytes are the same
same_page : (one other : FileBytes) (from : ℕ) → ((i : ℕ) → i < 4096 → one (from + i) ≡ other (from + i)) → page_at one from ≡ page_at other from
same_page one other from same =
    ext_get_or
    0
    (page_at one from)
    (page_at other from)
    (length-map-range_with_len one from 4096 ∙ sym (length-map-range_with_len other from 4096))
    (λ i within.
    let low : i < 4096 = rw (sym (length-map-range_with_len one from 4096)) within in
    get_or-map-range_with_len one from 4096 i (from + i) 0 low refl
    ∙ (same i low ∙ sym (get_or-map-range_with_len other from 4096 i (from + i) 0 low refl)))

-- the page that was written
page_written : (file : FileBytes) (at : ℕ) (page : List ℕ) → length page ≡ 4096 → page_at (written_at file at page) at ≡ page
page_written file at page whole =
    ext_get_or
    0
    (page_at (written_at file at page) at)
    page
    (length-map-range_with_len (written_at file at page) at 4096 ∙ sym whole)
    (λ i within.
    let low : i < 4096 = rw (sym (length-map-range_with_len (written_at file at page) at 4096)) within in
    get_or-map-range_with_len (written_at file at page) at 4096 i (at + i) 0 low refl
    ∙ byte_written file at i page whole low)

-- a page of a lower slot ends before the page of a slot, and one of a higher slot starts behind it
ends_before : (low slot i : ℕ) → low < slot → i < 4096 → low * 4096 + i < slot * 4096
ends_before low slot i lower within = omega arith

starts_behind : (slot high i : ℕ) → slot < high → slot * 4096 + 4096 ≤ high * 4096 + i
starts_behind slot high i higher = omega arith

-- each slot after a page was written to one
at_slot : (file : FileBytes) (slot : ℕ) (page : List ℕ) (other : ℕ) → length page ≡ 4096
    → slots_of (written_at file (slot * 4096) page) other ≡ with_page (slots_of file) slot page other
at_slot file slot page other whole =
    ⊎_elim
    (λ below.
    let test : (other == slot) ≡ false = grind (arith, nat_tests) in
    rw test
    (same_page (written_at file (slot * 4096) page) file (other * 4096) (λ i low.
    byte_before file (slot * 4096) (other * 4096 + i) page (ends_before other slot i below low))))
    (λ from.
    ⊎_elim
    (λ above.
    let test : (other == slot) ≡ false = grind (arith, nat_tests) in
    rw test
    (same_page (written_at file (slot * 4096) page) file (other * 4096) (λ i low.
    byte_behind file (slot * 4096) (other * 4096 + i) page whole (starts_behind slot other i above))))
    (λ upto.
    let same : other ≡ slot = omega arith in
    let test : (other == slot) ≡ true = grind (arith, nat_tests) in
    rw (test, same) (page_written file (slot * 4096) page whole))
    (cases_lt slot other))
    (cases_lt other slot)

-- the slots after a page was written to one
pub slots_of-written_at : (file : FileBytes) (slot : ℕ) (page : List ℕ) → length page ≡ 4096
    → slots_of (written_at file (slot * 4096) page) ≡ with_page (slots_of file) slot page
slots_of-written_at file slot page whole = λ i other. at_slot file slot page other whole i

-- the same where the bytes are told
pub slots_in-written_at : (old new : Option FileBytes) (slot at : ℕ) (page : List ℕ) → at ≡ slot * 4096 → length page ≡ 4096
    → new ≡ option_map (λ file. written_at file at page) old → slots_in new ≡ option_map (λ pages. with_page pages slot page) (slots_in old)
slots_in-written_at None new slot at page there whole after = rw after refl
slots_in-written_at (Some file) new slot at page there whole after =
    rw after
    (ap Some
    (subst (λ offset. slots_of (written_at file offset page) ≡ with_page (slots_of file) slot page) (sym there) (slots_of-written_at file slot page whole)))

-- the slots before and this one hold zeros, once a page of zeros was put there
zero_more : (pages : Contents) (slot : ℕ) (page : List ℕ) → IsZeroPage page → ((k : ℕ) → k < slot → IsZeroPage (pages k)) → (k : ℕ) → k < slot + 1
    → IsZeroPage (with_page pages slot page k)
zero_more pages slot page zero before k low =
    let go : (test : Bool) → (k == slot) ≡ test → IsZeroPage (cond test page (pages k)) =
    λ test is. elim test as (λ t. (k == slot) ≡ t → IsZeroPage (cond t page (pages k))) [
      | true ↦ λ _. zero
      | false ↦ λ other. before k (grind (arith, nat_tests))
    ] is in
    go (k == slot) refl

pub HoldsZeros-more : (old new : Option Contents) (slot : ℕ) (page : List ℕ) → IsZeroPage page → HoldsZeros old slot
    → new ≡ option_map (λ pages. with_page pages slot page) old → HoldsZeros new (slot + 1)
HoldsZeros-more None new slot page zero before after pages told = grind (arith, sym after ∙ told)
HoldsZeros-more (Some old) new slot page zero before after pages told =
    let same : with_page old slot page ≡ pages = grind (arith, sym after ∙ told) in
    λ k low. subst (λ p. IsZeroPage (p k)) same (zero_more old slot page zero (before old refl) k low)

-- what a failed write leaves
pub SpoilsSlot-written : (old new : Option FileBytes) (slot at : ℕ) → at ≡ slot * 4096
    → ((left : List ℕ) × (length left ≡ 4096) × (new ≡ option_map (λ file. written_at file at left) old))
    → SpoilsSlot (slots_in old) (slots_in new) slot
SpoilsSlot-written old new slot at there (left, whole, after) = (left, slots_in-written_at old new slot at left there whole after)

-- what a read gives
pub GivesPage-read : (told : Option FileBytes) (slot at : ℕ) (page : List ℕ) → at ≡ slot * 4096 → ((file : FileBytes) → told ≡ Some file
    → page ≡ page_at file at) → GivesPage (slots_in told) slot page
GivesPage-read None slot at page there read pages told = grind (arith, told)
GivesPage-read (Some file) slot at page there read pages told =
    let same : slots_of file ≡ pages = grind (arith, told) in
    read file refl ∙ (ap (page_at file) there ∙ ap (λ p. p slot) same)

-- a page of as many zeros as it has bytes
pub IsZeroPage-replicate : IsZeroPage (replicate 4096 0)
IsZeroPage-replicate = record {
  whole = length-replicate {A = ℕ} 4096 0;
  zero = λ i.
      ⊎_elim
      (λ low. get_or-replicate 4096 i 0 0 low)
      (λ past. get_or_past (replicate 4096 0) i 0 (rw (length-replicate {A = ℕ} 4096 0) past)) (cases_lt i 4096);
}
