-- The words of RAM and the bytes of its pages.
use Rattle.std.proofs.Common.{◌≡◌, ◌==◌, ◌&&◌, ◌+◌, ◌-◌, ◌*◌, ◌/◌, ◌%◌, ◌^◌, ◌<◌, ◌≤◌, ℕ, true, List, [], ◌++◌, length, take, drop, nat_eq, nat_le, nat_lt, slice_index, Some, None, refl, sym, ap, ◌∙◌, inl, inr, ◌⊎◌, arith}
use Rattle.std.proofs.lemmas.Bool.{false≢true, cases_eq, cases_order, cases_Bool, eq-eqb, ne_eqb, and_parts, and_from, leb-true, ltb-true, eqb-true, le-leb, lt-ltb}
use Rattle.std.proofs.lemmas.List.{append-nil, get_or-drop, length-append, length-take, length-drop, take-append-le, take_all, drop_all, drop-drop, drop_at, take-append-drop, take-take}
use Rattle.std.proofs.lemmas.Slice.{drop-put_mid, between_is}
use borrow.Rule.Slice.PartMut.{put_mid}
use Rattle.byteorder.specs.Endian.{little_number, little_bytes}
use Rattle.byteorder.specs.Numbers.{little_number-reads_back, little_from-append, length-bytes_low_first}
use Rattle.xk_base.specs.Tables.Counting.{put_at}
use Rattle.phys_pages.specs.Ram.{RamBytes, Area, IsPlaced, IsInside, is_inside, area, pages, words, words_of, with_page, word_in, with_word, frame_at, frame_of, ppn_of}
use Rattle.xk_base.specs.declared.ids.Frame.{Frame}
use Rattle.phys_pages.proofs.AreaLemmas.{frame_of-within}
use Rattle.phys_pages.proofs.PageLemmas.{pages-with_page, area-with_page}

-- a number of four bytes depends on the first four alone
first_four : (xs ys : List ℕ) → 4 ≤ length xs → take 4 xs ≡ take 4 ys → 4 ≤ length ys → little_number 4 xs ≡ little_number 4 ys
first_four xs ys long same long' =
    of_first xs long ∙ ap (little_number 4) same ∙ sym (of_first ys long')
  where
    of_first : (zs : List ℕ) → 4 ≤ length zs → little_number 4 zs ≡ little_number 4 (take 4 zs)
    of_first zs l =
        ap (little_number 4) (sym (take-append-drop 4 zs))
        ∙ little_from-append 4 (take 4 zs) (drop 4 zs) (omega (arith, length-take 4 zs))

-- the word that was written is read back
pub word_in-with_word : (page : List ℕ) (o v : ℕ) → o + 4 ≤ length page → v < 2 ^ 32 → word_in (with_word page o v) o ≡ v
word_in-with_word page o v within fits =
    ap (little_number 4) (drop_at (take o page) (little_bytes 4 v ++ drop (o + 4) page) o (omega (arith, length-take o page)))
    ∙ little_number-reads_back 4 v (drop (o + 4) page) fits

-- a page stays as long as it was
pub length-with_word : (page : List ℕ) (o v : ℕ) → o + 4 ≤ length page → length (with_word page o v) ≡ length page
length-with_word page o v within =
    let four : length (little_bytes 4 v) ≡ 4 = length-bytes_low_first 0 4 v in
    simp (length-append, length-take, length-drop) (omega arith)

-- the words before it stay
word_below : (page : List ℕ) (o p v : ℕ) → o + 4 ≤ length page → p + 4 ≤ o → word_in (with_word page o v) p ≡ word_in page p
word_below page o p v within low =
    first_four (drop p (with_word page o v)) (drop p page) (omega (arith, length-drop p (with_word page o v), length-with_word page o v within)) here (omega (arith, length-drop p page))
  where
    here : take 4 (drop p (with_word page o v)) ≡ take 4 (drop p page)
    here =
        let cut : take (p + 4) (with_word page o v) ≡ take (p + 4) page =
        take-append-le (p + 4) (take o page) (little_bytes 4 v ++ drop (o + 4) page) (omega (arith, length-take o page))
        ∙ take-take (p + 4) o page low in
        run (with_word page o v) ∙ ap (drop p) cut ∙ sym (run page)
      where
        run : (xs : List ℕ) → take 4 (drop p xs) ≡ drop p (take (p + 4) xs)
        run xs =
            let n : (p + 4) - p ≡ 4 = omega arith in
            ap (λ k. take k (drop p xs)) (sym n) ∙ between_is xs p (p + 4)

-- the words behind it stay
word_above : (page : List ℕ) (o p v : ℕ) → o + 4 ≤ length page → o + 4 ≤ p → word_in (with_word page o v) p ≡ word_in page p
word_above page o p v within high =
    ap (λ rest. little_number 4 (drop p (take o page ++ (little_bytes 4 v ++ rest)))) (sym (drop-drop 4 o page))
    ∙ ap (little_number 4) (drop-put_mid o 4 page (little_bytes 4 v) p high (omega arith) (length-bytes_low_first 0 4 v))

-- a word that lies apart from the written one stays
pub word_in-other : (page : List ℕ) (o p v : ℕ) → o + 4 ≤ length page → (p + 4 ≤ o) ⊎ (o + 4 ≤ p) → word_in (with_word page o v) p ≡ word_in page p
word_in-other page o p v within (inl low) = word_below page o p v within low
word_in-other page o p v within (inr high) = word_above page o p v within high

-- a number written over the front of the rest of a page
pub written_word : (page buf : List ℕ) (o k v : ℕ) → o + 4 ≤ length page → k ≡ length page - o
    → buf ≡ little_bytes 4 v ++ drop 4 (take k (drop o page)) → put_mid o k page buf ≡ with_word page o v
written_word page buf o k v within rest is =
    let n : length (drop o page) ≤ k = omega (arith, length-drop o page) in
    let none : drop k (drop o page) ≡ [] = drop_all k (drop o page) n in
    let all : take k (drop o page) ≡ drop o page = take_all k (drop o page) n in
    let tail : buf ≡ little_bytes 4 v ++ drop (o + 4) page =
    is ∙ ap (λ xs. little_bytes 4 v ++ drop 4 xs) all ∙ ap (λ xs. little_bytes 4 v ++ xs) (drop-drop 4 o page) in
    ap (λ xs. take o page ++ (buf ++ xs)) none ∙ ap (λ xs. take o page ++ xs) (append-nil buf ∙ tail)

-- an address inside RAM lies in a frame of RAM
pub frame_at-within : (a : Area) (pa : ℕ) → a.start % 4096 ≡ 0 → IsInside a pa → frame_at a pa < a.frames
frame_at-within a pa aligned inside = omega arith

-- the pages after a word was written
pub pages-set_word : (ram : RamBytes) (f pa v : ℕ) (page written : List ℕ) → f ≡ frame_at (area ram) pa → f < (area ram).frames
    → page ≡ pages ram f → length page ≡ 4096 → length written ≡ 4096 → written ≡ with_word page (pa % 4096) v
    → pages (with_page ram f written) ≡ put_at nat_eq (pages ram) (frame_at (area ram) pa) (with_word (pages ram (frame_at (area ram) pa)) (pa % 4096) v)
pages-set_word ram f pa v page written at within holds whole long is =
    pages-with_page ram f written within long
    ∙ ap (λ w. put_at nat_eq (pages ram) f w) (is ∙ ap (λ p. with_word p (pa % 4096) v) holds)
    ∙ ap (λ g. put_at nat_eq (pages ram) g (with_word (pages ram g) (pa % 4096) v)) at

-- an aligned address inside RAM has a word
is_word : (a : Area) (pa : ℕ) → pa % 4 ≡ 0 → IsInside a pa → ((pa % 4 == 0) && is_inside a pa) ≡ true
is_word a pa aligned inside =
    and_from (pa % 4 == 0) (is_inside a pa) (eq-eqb (pa % 4) 0 aligned)
    (and_from (nat_le a.start pa) (nat_lt pa (a.start + a.frames * 4096)) (le-leb a.start pa inside.0) (lt-ltb pa (a.start + a.frames * 4096) inside.1))

-- the written word, read in its frame
read_same : (P : ℕ → List ℕ) (f o v : ℕ) → length (P f) ≡ 4096 → o + 4 ≤ 4096 → v < 2 ^ 32
    → word_in (put_at nat_eq P f (with_word (P f) o v) f) o ≡ v
read_same P f o v whole within fits = rw (eq-eqb f f refl) (word_in-with_word (P f) o v (omega arith) fits)

-- any other word
read_other : (P : ℕ → List ℕ) (f g o p v : ℕ) → length (P f) ≡ 4096 → o + 4 ≤ 4096 → (g ≡ f → (p + 4 ≤ o) ⊎ (o + 4 ≤ p))
    → word_in (put_at nat_eq P f (with_word (P f) o v) g) p ≡ word_in (P g) p
read_other P f g o p v whole within apart = elim (cases_eq g f) [
  | inl same ↦ rw (eq-eqb g f same) (word_in-other (P f) o p v (omega arith) (apart same) ∙ ap (λ n. word_in (P n) p) (sym same))
  | inr other ↦ rw (ne_eqb g f other) refl
]

-- two words of one frame lie apart
lie_apart : (start q pa : ℕ) → start ≤ q → start ≤ pa → q % 4 ≡ 0 → pa % 4 ≡ 0 → (q ≡ pa → ⊥)
    → q / 4096 - start / 4096 ≡ pa / 4096 - start / 4096 → (q % 4096 + 4 ≤ pa % 4096) ⊎ (pa % 4096 + 4 ≤ q % 4096)
lie_apart start q pa low low' aligned aligned' other frame = elim (cases_order q pa) [
  | inl same ↦ absurd (other same)
  | inr differ ↦ elim differ [ inl below ↦ inl (omega arith) | inr above ↦ inr (omega arith) ]
]

-- of the words of these pages, the write of one changes that one alone
one_word : (a : Area) (P : ℕ → List ℕ) (pa v : ℕ) → pa % 4 ≡ 0 → IsInside a pa → length (P (frame_at a pa)) ≡ 4096 → v < 2 ^ 32 → (q : ℕ)
    → words_of a (put_at nat_eq P (frame_at a pa) (with_word (P (frame_at a pa)) (pa % 4096) v)) q ≡ put_at nat_eq (words_of a P) pa (Some v) q
one_word a P pa v aligned inside whole fits q = elim (cases_Bool ((q % 4 == 0) && is_inside a q)) [
  | inl word ↦
      let parts : ((q % 4 == 0) ≡ true) × (is_inside a q ≡ true) = and_parts (q % 4 == 0) (is_inside a q) word in
      let bounds : (nat_le a.start q ≡ true) × (nat_lt q (a.start + a.frames * 4096) ≡ true) = and_parts (nat_le a.start q) (nat_lt q (a.start + a.frames * 4096)) parts.1 in
      let at4 : q % 4 ≡ 0 = eqb-true (q % 4) 0 parts.0 in
      let low : a.start ≤ q = leb-true a.start q bounds.0 in
      rw word (elim (cases_eq q pa) [
        | inl same ↦
            rw (eq-eqb q pa same)
            (ap Some
            (ap (λ n. word_in (put_at nat_eq P (frame_at a pa) (with_word (P (frame_at a pa)) (pa % 4096) v) (frame_at a n)) (n % 4096)) same
            ∙ read_same P (frame_at a pa) (pa % 4096) v whole (omega arith) fits))
        | inr other ↦
            rw (ne_eqb q pa other)
            (ap Some
            (read_other P (frame_at a pa) (frame_at a q) (pa % 4096) (q % 4096) v whole (omega arith) (lie_apart a.start q pa low inside.0 at4 aligned other)))
      ])
  | inr none ↦
      let other : q ≡ pa → ⊥ = λ same. false≢true (sym none ∙ (ap (λ n. (n % 4 == 0) && is_inside a n) same ∙ is_word a pa aligned inside)) in
      rw (none, ne_eqb q pa other) refl
]

-- the words after one was written: only that one changed
pub words-set_word : (old new : RamBytes) (pa v : ℕ) → area new ≡ area old
    → pages new ≡ put_at nat_eq (pages old) (frame_at (area old) pa) (with_word (pages old (frame_at (area old) pa)) (pa % 4096) v)
    → pa % 4 ≡ 0 → IsInside (area old) pa → length (pages old (frame_at (area old) pa)) ≡ 4096 → v < 2 ^ 32
    → words new ≡ put_at nat_eq (words old) pa (Some v)
unfolding words
words-set_word old new pa v same_area now aligned inside whole fits =
    ap (λ a. words_of a (pages new)) same_area
    ∙ ap (λ P. words_of (area old) P) now
    ∙ (λ i q. one_word (area old) (pages old) pa v aligned inside whole fits q i)

-- the word at an offset of a frame stands in its page
pub words-in_frame : (ram : RamBytes) (f o : ℕ) → IsPlaced (area ram) → f < (area ram).frames → o % 4 ≡ 0 → o < 4096
    → words ram (ppn_of (area ram) f * 4096 + o) ≡ Some (word_in (pages ram f) o)
unfolding words
words-in_frame ram f o placed within aligned low =
    let pa : ℕ = ppn_of (area ram) f * 4096 + o in
    let test : (((ppn_of (area ram) f * 4096 + o) % 4 == 0) && is_inside (area ram) (ppn_of (area ram) f * 4096 + o)) ≡ true =
    is_word (area ram) (ppn_of (area ram) f * 4096 + o) (omega (arith, placed.aligned)) (omega (arith, placed.aligned), omega (arith, placed.aligned)) in
    let frame : frame_at (area ram) (ppn_of (area ram) f * 4096 + o) ≡ f = omega arith in
    let offset : (ppn_of (area ram) f * 4096 + o) % 4096 ≡ o = omega arith in
    rw test (rw (frame, offset) refl)

-- where a page number has no frame there are no words
pub words-outside : (ram : RamBytes) (ppn o : ℕ) → IsPlaced (area ram) → o < 4096 → frame_of (area ram) ppn ≡ None → words ram (ppn * 4096 + o) ≡ None
unfolding words
words-outside ram ppn o placed low none = elim (cases_Bool (((ppn * 4096 + o) % 4 == 0) && is_inside (area ram) (ppn * 4096 + o))) [
  | inl word ↦
      let parts : (((ppn * 4096 + o) % 4 == 0) ≡ true) × (is_inside (area ram) (ppn * 4096 + o) ≡ true) =
      and_parts ((ppn * 4096 + o) % 4 == 0) (is_inside (area ram) (ppn * 4096 + o)) word in
      let bounds : (nat_le (area ram).start (ppn * 4096 + o) ≡ true) × (nat_lt (ppn * 4096 + o) ((area ram).start + (area ram).frames * 4096) ≡ true) =
      and_parts (nat_le (area ram).start (ppn * 4096 + o)) (nat_lt (ppn * 4096 + o) ((area ram).start + (area ram).frames * 4096)) parts.1 in
      let from : (area ram).start ≤ ppn * 4096 + o = leb-true (area ram).start (ppn * 4096 + o) bounds.0 in
      let to : ppn * 4096 + o < (area ram).start + (area ram).frames * 4096 = ltb-true (ppn * 4096 + o) ((area ram).start + (area ram).frames * 4096) bounds.1 in
      let found : frame_of (area ram) ppn ≡ Some (record { 0 = ppn - (area ram).start / 4096 }) =
      frame_of-within (area ram) ppn (omega (arith, placed.aligned)) (omega (arith, placed.aligned)) in
      absurd (none_is_not_some (record { 0 = ppn - (area ram).start / 4096 }) (sym none ∙ found))
  | inr outside ↦ rw outside refl
]
  where
    none_is_not_some : (f : Frame) → None ≡ Some f → ⊥
    none_is_not_some f same = cc

-- a page of zeros has words of zeros
pub word_in-zero : (page : List ℕ) (o : ℕ) → ((i : ℕ) → slice_index page i ≡ 0) → word_in page o ≡ 0
word_in-zero page o zero =
    let at : (i : ℕ) → slice_index (drop o page) i ≡ 0 = λ i. get_or-drop o page i 0 ∙ zero (o + i) in
    rw (at 0, at 1, at 2, at 3) refl

-- the words after a page was written: those of the page in its frame, and all others stay
pub words-with_page : (ram : RamBytes) (f : ℕ) (page : List ℕ) → f < (area ram).frames → length page ≡ 4096
    → words (with_page ram f page) ≡ words_of (area ram) (put_at nat_eq (pages ram) f page)
unfolding words
words-with_page ram f page within whole =
    ap (λ a. words_of a (pages (with_page ram f page))) (area-with_page ram f page)
    ∙ ap (λ P. words_of (area ram) P) (pages-with_page ram f page within whole)

-- what a caller needs that reads words by page number or by frame
pub ruleset word_places = (words-outside, words-in_frame)
