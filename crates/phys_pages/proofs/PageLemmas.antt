-- What RAM holds after a page was written.
use Rattle.std.proofs.Common.{◌≡◌, ◌==◌, ◌+◌, ◌-◌, ◌*◌, ◌/◌, ◌<◌, ◌≤◌, ℕ, true, false, cond, List, ◌++◌, length, take, drop, slice_range, slice_index, replicate, nat_eq, refl, sym, ap, ◌∙◌, ⊎_elim, arith}
use Rattle.std.specs.List.{All, refill, length_refill}
use Rattle.std.proofs.lemmas.Bool.{cases_lt, eq-eqb}
use Rattle.std.proofs.lemmas.Bool.Decides.{nat_tests}
use Rattle.std.proofs.lemmas.List.{length-append, length-take, length-drop, take-append-le, take_all, length-set, get_or-replicate, get_or_past, length-replicate}
use Rattle.std.proofs.lemmas.List.Elements.{All-drop, All-take}
use Rattle.std.proofs.lemmas.Slice.{between_is, between-put_mid, take-put_mid_below, drop-put_mid}
use borrow.Rule.Slice.PartMut.{put_mid}
use Rattle.xk_base.specs.Tables.Counting.{put_at}
use Rattle.phys_pages.specs.Ram.{RamBytes, area, pages, with_page}

-- a page has 4096 bytes
pub length-pages : (ram : RamBytes) (f : ℕ) → f < (area ram).frames → length (pages ram f) ≡ 4096
unfolding area pages
length-pages ram f within = simp (length-take, length-drop) (omega arith)

-- a run of bytes before those that were written stays
run_below : (a k : ℕ) (bytes page : List ℕ) (from to : ℕ) → to ≤ a → a ≤ length bytes → slice_range (put_mid a k bytes page) from to ≡ slice_range bytes from to
run_below a k bytes page from to low within =
    between_is (put_mid a k bytes page) from to ∙ (ap (drop from) (take-put_mid_below a k bytes page to low within) ∙ sym (between_is bytes from to))

-- and so does one behind them
run_above : (a k : ℕ) (bytes page : List ℕ) (from to : ℕ) → a + k ≤ from → a ≤ length bytes → length page ≡ k → slice_range (put_mid a k bytes page) from to ≡ slice_range bytes from to
run_above a k bytes page from to high within whole =
    ap (take (to - from)) (drop-put_mid a k bytes page from high within whole)

-- each frame after the write
at_frame : (bytes page : List ℕ) (f k : ℕ) → k ≡ 4096 → f * 4096 + 4096 ≤ length bytes → length page ≡ k → (g : ℕ)
    → slice_range (put_mid (f * 4096) k bytes page) (g * 4096) (g * 4096 + 4096) ≡ cond (g == f) page (slice_range bytes (g * 4096) (g * 4096 + 4096))
at_frame bytes page f k is within whole g =
    ⊎_elim
    (λ below.
    let test : (g == f) ≡ false = grind (arith, nat_tests) in
    rw test (run_below (f * 4096) k bytes page (g * 4096) (g * 4096 + 4096) (omega arith) (omega arith)))
    (λ from.
    ⊎_elim
    (λ above.
    let test : (g == f) ≡ false = grind (arith, nat_tests) in
    rw test (run_above (f * 4096) k bytes page (g * 4096) (g * 4096 + 4096) (omega arith) (omega arith) whole))
    (λ upto.
    let same : g ≡ f = omega arith in
    let test : (g == f) ≡ true = grind (arith, nat_tests) in
    rw (test, same) (between-put_mid (f * 4096) k bytes page (f * 4096 + 4096) (omega arith) (omega arith)))
    (cases_lt f g))
    (cases_lt g f)

-- a write inside the bytes leaves nothing to cut or fill up
refill_whole : (xs ws : List ℕ) → length ws ≡ length xs → refill (length xs) xs ws ≡ ws
refill_whole xs ws e = take-append-le (length xs) ws (drop (length ws) xs) (omega arith) ∙ take_all (length xs) ws (omega arith)

length-put_mid : (a : ℕ) (bytes page : List ℕ) → a + length page ≤ length bytes → length (put_mid a (length page) bytes page) ≡ length bytes
length-put_mid a bytes page within = simp (length-append, length-take, length-drop) (omega arith)

-- the written page is what the frame then holds, and all other pages stay
pub pages-with_page : (ram : RamBytes) (f : ℕ) (page : List ℕ) → f < (area ram).frames → length page ≡ 4096
    → pages (with_page ram f page) ≡ put_at nat_eq (pages ram) f page
unfolding area pages with_page
pages-with_page ram f page within whole = λ i g. at g i
  where
    at : (g : ℕ) → pages (with_page ram f page) g ≡ put_at nat_eq (pages ram) f page g
    at g =
        ap (λ bytes. slice_range bytes (g * 4096) (g * 4096 + 4096))
        (refill_whole ram.bytes (put_mid (f * 4096) (length page) ram.bytes page) (length-put_mid (f * 4096) ram.bytes page (omega arith)))
        ∙ at_frame ram.bytes page f (length page) whole (omega arith) refl g

-- RAM stays where it is
pub area-with_page : (ram : RamBytes) (f : ℕ) (page : List ℕ) → area (with_page ram f page) ≡ area ram
unfolding area with_page
area-with_page ram f page =
    ap (λ n. record { start = ram.start; frames = n / 4096 })
    (sym (length_refill (length ram.bytes) ram.bytes (take (f * 4096) ram.bytes ++ (page ++ drop (length page) (drop (f * 4096) ram.bytes))) refl))

-- zeros are zero at each place
pub slice_index-zeros : (n i : ℕ) → slice_index (replicate n 0) i ≡ 0
slice_index-zeros n i =
    ⊎_elim
    (λ within. get_or-replicate n i 0 0 within)
    (λ past. get_or_past (replicate n 0) i 0 (omega (arith, length-replicate {A = ℕ} n 0)))
    (cases_lt i n)

-- the zeroed page of a frame, where the whole of it was written by zeros
pub zeroed : (ram : RamBytes) (f n : ℕ) (page : List ℕ) → f < (area ram).frames → length page ≡ 4096 → page ≡ replicate n 0
    → (i : ℕ) → slice_index (pages (with_page ram f page) f) i ≡ 0
zeroed ram f n page within whole zeros i =
    ap (λ P. slice_index (P f) i) (pages-with_page ram f page within whole)
    ∙ rw (eq-eqb f f refl, zeros) (slice_index-zeros n i)

-- what a caller needs that writes into a page
pub ruleset page_writes = (pages-with_page, area-with_page, length-pages, length-set)

-- bytes of RAM are bytes of its frames
pub All-pages : (P : ℕ → Type 0) (ram : RamBytes) → All P ram.bytes → (f : ℕ) → All P (pages ram f)
unfolding pages
All-pages P ram each f = All-take P (f * 4096 + 4096 - f * 4096) (drop (f * 4096) ram.bytes) (All-drop P (f * 4096) ram.bytes each)
