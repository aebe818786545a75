-- Lines of events are read as these events.
use Rattle.std.proofs.Common.{◌≡◌, ℕ, suc, ◌+◌, ◌-◌, ◌<◌, ◌≤◌, ◌==◌, Bool, true, false, List, [], ◌∷◌, ◌++◌, length, take, Option, Some, None, refl, sym, ap, ◌∙◌, arith, length-append}
use Rattle.std.specs.Prelude.{◌^◌, ◌&&◌, ◌||◌, codes, decimal, filter, nat_lt, slice_index, if◌then◌else◌}
use Rattle.std.specs.List.{onto_first, slice_split}
use Rattle.std.specs.Option.{option_map}
use Rattle.std.proofs.lemmas.Bool.Decides.{nat_tests}
use Rattle.std.proofs.lemmas.Fmt.{decimal_nonempty, length-decimal-le}
use Rattle.std.proofs.lemmas.List.Splits.{slice_split-cons_yes, slice_split-cons_no}
use Rattle.xk_base.specs.declared.events.Event.{Event}
use Rattle.xk_base.specs.declared.events.Event.TheVariants.{Tick, Pick, Irq, Kill}
use Rattle.xk_base.specs.declared.limits.TheConstants.{EVENT_FILE_LIMIT, EVENT_LINE_LIMIT}
use Rattle.std.proofs.lemmas.List.{take_at}
use Rattle.event_text.specs.EventFile.{Input, after_line, event_of, input_from, is_far, is_long, is_over, line_at, line_by, line_of_text, line_of_words, pick_by}
use Rattle.event_text.specs.Lines.{is_last, is_not_empty, lines_of, number_up_to, text_of, without_last, words_of}
use Rattle.event_text.specs.Spelling.{AreAskable, IsAskable, LinesAreRead, event_line, event_lines, event_text, spaced}
use Rattle.event_text.proofs.NumberLemmas.{ArePlain, NoByte, OneByte, are_digits, number_read}

-- ---- lines

-- a text has no byte that ends a line
pub data HasNoEnd : List ℕ → Type 0 where
  Empty : HasNoEnd []
  Onto : (byte : ℕ) (bytes : List ℕ) → (byte == 10) ≡ false → (byte == 13) ≡ false → HasNoEnd bytes → HasNoEnd (byte ∷ bytes)

no_end_append : (a b : List ℕ) → HasNoEnd a → HasNoEnd b → HasNoEnd (a ++ b)
no_end_append _ b Empty none = none
no_end_append _ b (Onto byte bytes feed return rest) none = Onto byte (bytes ++ b) feed return (no_end_append bytes b rest none)

plain_no_end : (bytes : List ℕ) → ArePlain bytes → HasNoEnd bytes
plain_no_end _ NoByte = Empty
plain_no_end _ (OneByte byte bytes one rest) = Onto byte bytes one.feed one.return (plain_no_end bytes rest)

first_line_of : (text rest : List ℕ) → HasNoEnd text → lines_of ((text ++ 10 ∷ []) ++ rest) ≡ (text ++ 10 ∷ []) ∷ lines_of rest
unfolding lines_of
first_line_of _ rest Empty = refl
first_line_of _ rest (Onto byte bytes feed return none) =
    ap (λ b. if b then (byte ∷ []) ∷ lines_of ((bytes ++ 10 ∷ []) ++ rest) else onto_first byte (lines_of ((bytes ++ 10 ∷ []) ++ rest))) feed
    ∙ ap (onto_first byte) (first_line_of bytes rest none)

some_bytes : (n : ℕ) → nat_lt 0 (suc n) ≡ true
some_bytes n = grind (arith, nat_tests)

-- the last byte of two or more is that of those after the first
last_later : (x b c : ℕ) (bytes : List ℕ) → is_last x (b ∷ c ∷ bytes) ≡ is_last x (c ∷ bytes)
last_later x b c bytes =
    let one : suc (suc (length bytes)) - 1 ≡ suc (suc (length bytes) - 1) = omega arith in
    ap (λ t. t && (slice_index (b ∷ c ∷ bytes) (suc (suc (length bytes)) - 1) == x)) (some_bytes (suc (length bytes)))
    ∙ (ap (λ k. true && (slice_index (b ∷ c ∷ bytes) k == x)) one
    ∙ sym (ap (λ t. t && (slice_index (c ∷ bytes) (suc (length bytes) - 1) == x)) (some_bytes (length bytes))))

-- the last byte of a text is none that ends a line
last_of : (text : List ℕ) → HasNoEnd text → is_last 13 text ≡ false
last_of _ Empty = refl
last_of _ (Onto byte bytes feed return none) = go byte bytes return none
  where
    go : (byte : ℕ) (bytes : List ℕ) → (byte == 13) ≡ false → HasNoEnd bytes → is_last 13 (byte ∷ bytes) ≡ false
    go byte _ return Empty = return
    go byte _ return (Onto next bytes feed return' none) = last_later 13 byte next bytes ∙ go next bytes return' none

ends_with_feed : (text : List ℕ) → is_last 10 (text ++ 10 ∷ []) ≡ true
ends_with_feed [] = refl
ends_with_feed (byte ∷ []) = refl
ends_with_feed (byte ∷ next ∷ text) = last_later 10 byte next (text ++ 10 ∷ []) ∙ ends_with_feed (next ∷ text)

front_of : (text : List ℕ) → take (length (text ++ 10 ∷ []) - 1) (text ++ 10 ∷ []) ≡ text
front_of text =
    let one : length text ≡ length (text ++ 10 ∷ []) - 1 = omega (arith, length-append text (10 ∷ [])) in
    take_at text (10 ∷ []) (length (text ++ 10 ∷ []) - 1) one

without_feed : (text : List ℕ) → without_last 10 (text ++ 10 ∷ []) ≡ text
without_feed text =
    ap (λ b. if b then take (length (text ++ 10 ∷ []) - 1) (text ++ 10 ∷ []) else text ++ 10 ∷ []) (ends_with_feed text) ∙ front_of text

text_is : (text : List ℕ) → HasNoEnd text → text_of (text ++ 10 ∷ []) ≡ text
text_is text none =
    ap (without_last 13) (without_feed text) ∙ ap (λ b. if b then take (length text - 1) text else text) (last_of text none)

-- ---- words

split_plain : (bytes : List ℕ) → ArePlain bytes → slice_split (λ b. b == 32) bytes ≡ bytes ∷ []
split_plain _ NoByte = refl
split_plain _ (OneByte byte bytes one rest) =
    slice_split-cons_no (λ b. b == 32) byte bytes one.space ∙ ap (onto_first byte) (split_plain bytes rest)

split_at : (bytes rest : List ℕ) → ArePlain bytes
    → slice_split (λ b. b == 32) (bytes ++ 32 ∷ rest) ≡ bytes ∷ slice_split (λ b. b == 32) rest
split_at _ rest NoByte = slice_split-cons_yes (λ b. b == 32) 32 rest refl
split_at _ rest (OneByte byte bytes one plain) =
    slice_split-cons_no (λ b. b == 32) byte (bytes ++ 32 ∷ rest) one.space ∙ ap (onto_first byte) (split_at bytes rest plain)

some_byte : (bytes : List ℕ) → 0 < length bytes → is_not_empty bytes ≡ true
some_byte [] some = absurd (omega (arith, some))
some_byte (byte ∷ bytes) some = refl

-- a word and a number, or two
module _ (word : List ℕ) (plain : ArePlain word) (some : is_not_empty word ≡ true) where
  kept : (words : List (List ℕ)) → filter is_not_empty (word ∷ words) ≡ word ∷ filter is_not_empty words
  kept words = rw some refl

  word_number : (n : ℕ) → n < 2 ^ 32 → words_of (word ++ spaced n) ≡ word ∷ decimal n ∷ []
  unfolding words_of
  word_number n fits =
      let wide : n < 2 ^ 64 = omega arith in
      let digits = are_digits n wide in
      ap (filter is_not_empty) (split_at word (decimal n) plain ∙ ap (λ words. word ∷ words) (split_plain (decimal n) digits.plain))
      ∙ (kept (decimal n ∷ []) ∙ ap (λ words. word ∷ words) (rw (some_byte (decimal n) (decimal_nonempty n wide)) refl))

  word_numbers : (m n : ℕ) → m < 2 ^ 32 → n < 2 ^ 32 → words_of (word ++ (spaced m ++ spaced n)) ≡ word ∷ decimal m ∷ decimal n ∷ []
  unfolding words_of
  word_numbers m n fits fits' =
      let wide : m < 2 ^ 64 = omega arith in
      let wide' : n < 2 ^ 64 = omega arith in
      ap (filter is_not_empty)
      (split_at word (decimal m ++ spaced n) plain
      ∙ ap (λ words. word ∷ words)
      (split_at (decimal m) (decimal n) (are_digits m wide).plain ∙ ap (λ words. decimal m ∷ words) (split_plain (decimal n) (are_digits n wide').plain)))
      ∙ (kept (decimal m ∷ decimal n ∷ [])
      ∙ ap (λ words. word ∷ words)
      (rw (some_byte (decimal m) (decimal_nonempty m wide)) (rw (some_byte (decimal n) (decimal_nonempty n wide')) refl)))

-- ---- events

abbrev tick : List ℕ
tick = codes "tick"

abbrev pick : List ℕ
pick = codes "pick"

abbrev irq : List ℕ
irq = codes "irq"

abbrev kill : List ℕ
kill = codes "kill"

plain_tick : ArePlain tick
plain_tick =
    OneByte _ _ (record { feed = refl; return = refl; space = refl }) (OneByte _ _ (record { feed = refl; return = refl; space = refl })
    (OneByte _ _ (record { feed = refl; return = refl; space = refl }) (OneByte _ _ (record { feed = refl; return = refl; space = refl }) NoByte)))

plain_pick : ArePlain pick
plain_pick =
    OneByte _ _ (record { feed = refl; return = refl; space = refl }) (OneByte _ _ (record { feed = refl; return = refl; space = refl })
    (OneByte _ _ (record { feed = refl; return = refl; space = refl }) (OneByte _ _ (record { feed = refl; return = refl; space = refl }) NoByte)))

plain_irq : ArePlain irq
plain_irq =
    OneByte _ _ (record { feed = refl; return = refl; space = refl }) (OneByte _ _ (record { feed = refl; return = refl; space = refl })
    (OneByte _ _ (record { feed = refl; return = refl; space = refl }) NoByte))

plain_kill : ArePlain kill
plain_kill =
    OneByte _ _ (record { feed = refl; return = refl; space = refl }) (OneByte _ _ (record { feed = refl; return = refl; space = refl })
    (OneByte _ _ (record { feed = refl; return = refl; space = refl }) (OneByte _ _ (record { feed = refl; return = refl; space = refl }) NoByte)))

-- what the text of an event is
pub record IsText (event : Event) : Type 0 where
  pub none : HasNoEnd (event_text event)
  pub short : length (event_text event) ≤ 64
  pub asks : line_of_text (event_text event) ≡ line_by (Some event)

spaced_none : (n : ℕ) → n < 2 ^ 32 → HasNoEnd (spaced n)
spaced_none n fits = Onto 32 (decimal n) refl refl (plain_no_end (decimal n) (are_digits n (omega arith)).plain)

spaced_short : (n : ℕ) → n < 2 ^ 32 → length (spaced n) ≤ 11
spaced_short n fits = let few : length (decimal n) ≤ 10 = length-decimal-le 10 n (omega arith) (omega arith) (omega arith) in omega (arith, few)

is_text : (event : Event) → IsAskable event → IsText event
unfolding event_of
is_text (Tick n) fits = record {
  none = no_end_append tick (spaced n) (plain_no_end tick plain_tick) (spaced_none n fits);
  short = (let few = spaced_short n fits in omega (arith, length-append tick (spaced n)));
  asks =
      ap line_of_words (word_number tick plain_tick refl n fits)
      ∙ ap (λ o. line_by (option_map Tick o)) (number_read 4294967295 n (omega arith) fits);
}
is_text (Pick pid tid) (fits, fits') = record {
  none =
      no_end_append pick (spaced pid.0 ++ spaced tid.0) (plain_no_end pick plain_pick)
      (no_end_append (spaced pid.0) (spaced tid.0) (spaced_none pid.0 (omega arith)) (spaced_none tid.0 (omega arith)));
  short =
      (let few = spaced_short pid.0 (omega arith) in let few' = spaced_short tid.0 (omega arith) in
      omega (arith, length-append pick (spaced pid.0 ++ spaced tid.0), length-append (spaced pid.0) (spaced tid.0)));
  asks =
      ap line_of_words (word_numbers pick plain_pick refl pid.0 tid.0 (omega arith) (omega arith))
      ∙ (ap (λ o. line_by (pick_with o (number_up_to 255 (decimal tid.0)))) (number_read 255 pid.0 (omega arith) (omega arith))
      ∙ ap (λ o. line_by (pick_with (Some pid.0) o)) (number_read 255 tid.0 (omega arith) (omega arith)));
}
  where
    pick_with : Option ℕ → Option ℕ → Option Event
    pick_with a b = pick_by a b
is_text (Irq k) fits = record {
  none = no_end_append irq (spaced k) (plain_no_end irq plain_irq) (spaced_none k (omega arith));
  short = (let few = spaced_short k (omega arith) in omega (arith, length-append irq (spaced k)));
  asks =
      ap line_of_words (word_number irq plain_irq refl k (omega arith))
      ∙ ap (λ o. line_by (option_map Irq o)) (number_read 31 k fits (omega arith));
}
is_text (Kill pid) fits = record {
  none = no_end_append kill (spaced pid.0) (plain_no_end kill plain_kill) (spaced_none pid.0 (omega arith));
  short = (let few = spaced_short pid.0 (omega arith) in omega (arith, length-append kill (spaced pid.0)));
  asks =
      ap line_of_words (word_number kill plain_kill refl pid.0 (omega arith))
      ∙ ap (λ o. line_by (option_map (λ pid. Kill (record { 0 = pid })) o)) (number_read 255 pid.0 (omega arith) (omega arith));
}

-- ---- a line and those after it

not_over : (start : ℕ) (text : List ℕ) → length text ≤ 64 → start + length (text ++ 10 ∷ []) ≤ EVENT_FILE_LIMIT
    → is_over start (text ++ 10 ∷ []) ≡ false
not_over start text short within =
    both (is_long (text ++ 10 ∷ [])) (is_far start (text ++ 10 ∷ []))
    (ap (λ (t : List ℕ). nat_lt EVENT_LINE_LIMIT (length t)) (without_feed text) ∙ grind (arith, nat_tests, short))
    (right (nat_lt 0 (length (text ++ 10 ∷ []))) (nat_lt EVENT_FILE_LIMIT (start + length (text ++ 10 ∷ []))) (grind (arith, nat_tests, within)))
  where
    both : (a b : Bool) → a ≡ false → b ≡ false → (a || b) ≡ false
    both false b e f = f
    both true b e f = e

    right : (a b : Bool) → b ≡ false → (a && b) ≡ false
    right true b e = e
    right false b e = refl

line_is : (start : ℕ) (event : Event) → IsAskable event → start + length (event_line event) ≤ EVENT_FILE_LIMIT
    → line_at start (event_line event) ≡ line_by (Some event)
unfolding line_at
line_is start event askable within =
    let is = is_text event askable in
    ap (λ b. if b then line_by None else line_of_text (text_of (event_line event)))
    (not_over start (event_text event) is.short within)
    ∙ (ap line_of_text (text_is (event_text event) is.none) ∙ is.asks)

read_from : (events : List Event) (start number : ℕ) → AreAskable events → start + length (event_lines events) ≤ EVENT_FILE_LIMIT
    → input_from start number (lines_of (event_lines events)) ≡ record { events = events; bad = None }
unfolding AreAskable input_from lines_of
read_from [] start number askable within = refl
read_from (event ∷ events) start number askable within =
    let both : length (event_lines (event ∷ events)) ≡ length (event_line event) + length (event_lines events) =
    length-append (event_line event) (event_lines events) in
    let first : start + length (event_line event) ≤ EVENT_FILE_LIMIT = omega (arith, both, within) in
    ap (input_from start number) (first_line_of (event_text event) (event_lines events) (is_text event askable.0).none)
    ∙ (ap (λ line. after_line line number (input_from (start + length (event_line event)) (number + 1) (lines_of (event_lines events))))
    (line_is start event askable.0 first)
    ∙ ap (λ (rest : Input). record { events = event ∷ rest.events; bad = rest.bad })
    (read_from events (start + length (event_line event)) (number + 1) askable.1 (omega (arith, both, within))))

pub lines_are_read : LinesAreRead
lines_are_read events askable within = read_from events 0 1 askable (omega (arith, within))
