-- Two event files behind one another ask for what each asks for: the events of both in order, and the lines of the second counted on.
use Rattle.std.proofs.Common.{◌≡◌, ◌≢◌, ◌∙◌, ap, sym, refl, ℕ, ◌+◌, ◌≤◌, ◌==◌, ◌&&◌, ◌||◌, nat_lt, Bool, true, false, List, [], ◌∷◌, ◌++◌, drop, length, None, arith}
use Rattle.std.specs.Prelude.{if◌then◌else◌}
use Rattle.std.specs.List.{list_any, onto_first}
use Rattle.std.proofs.lemmas.Bool.Decides.{nat_tests}
use Rattle.std.proofs.lemmas.List.{length-append}
use Rattle.std.proofs.lemmas.Option.{none-some}
use Rattle.xk_base.specs.declared.limits.TheConstants.{EVENT_FILE_LIMIT}
use Rattle.event_text.specs.declared.event.Line.{Line}
use Rattle.event_text.specs.declared.event.Line.TheVariants as kind
use Rattle.event_text.specs.EventFile.{Input, after_line, input_from, is_long, line_at, line_of_text}
use Rattle.event_text.specs.Held.{first_line}
use Rattle.event_text.specs.Lines.{lines_of, text_of, whole_lines}
use Rattle.event_text.specs.Joined.{JoinedAsk, counted_on}
use Rattle.event_text.specs.Plays.{with_events}
use Rattle.event_text.proofs.HeldLemmas.{first_feed, first_lines, first_other}
use Rattle.event_text.proofs.PlayLemmas.{lines_feed, lines_nothing, lines_other}

-- ---- lines

not_empty : (b : ℕ) (xs : List ℕ) → b ∷ xs ≢ []
not_empty b xs e = cc

-- a byte begins a line
some_line : (b : ℕ) (xs : List ℕ) → lines_of (b ∷ xs) ≢ []
some_line b xs none = go (b == 10) refl
  where
    first : first_line (b ∷ xs) ≡ []
    first = first_lines (b ∷ xs) none

    go : (t : Bool) → (b == 10) ≡ t → ⊥
    go true e =
        let ten : b ≡ 10 = grind (arith, nat_tests) in
        not_empty 10 [] (sym (first_feed xs) ∙ (ap (λ (c : ℕ). first_line (c ∷ xs)) (sym ten) ∙ first))
    go false e = not_empty b (first_line xs) (sym (first_other b xs e) ∙ first)

onto_more : (b : ℕ) (ls more : List (List ℕ)) → ls ≢ [] → onto_first b (ls ++ more) ≡ onto_first b ls ++ more
onto_more b [] more some = absurd (some refl)
onto_more b (l ∷ ls) more some = refl

-- bytes that are whole lines have a line feed, and so are those behind the first
whole_feed : (b : ℕ) (xs : List ℕ) → whole_lines (b ∷ xs) ≡ b ∷ xs → (list_any (λ c. c == 10) (b ∷ xs) ≡ true) × (whole_lines xs ≡ xs)
unfolding whole_lines
whole_feed b xs = go (list_any (λ c. c == 10) (b ∷ xs))
  where
    go : (t : Bool) → (if t then b ∷ whole_lines xs else []) ≡ b ∷ xs → (t ≡ true) × (whole_lines xs ≡ xs)
    go true e = (refl, ap (λ (l : List ℕ). drop 1 l) e)
    go false e = absurd (not_empty b xs (sym e))

feed_line : (xs : List ℕ) → list_any (λ c. c == 10) xs ≡ true → lines_of xs ≢ []
feed_line [] feed none = absurd (let no : false ≡ true = feed in cc)
feed_line (b ∷ xs) feed none = some_line b xs none

feed_behind : (b : ℕ) (xs : List ℕ) → (b == 10) ≡ false → list_any (λ c. c == 10) (b ∷ xs) ≡ true → list_any (λ c. c == 10) xs ≡ true
feed_behind b xs e feed = ap (λ t. t || list_any (λ c. c == 10) xs) (sym e) ∙ feed

lines_behind : (xs ys : List ℕ) → whole_lines xs ≡ xs → lines_of (xs ++ ys) ≡ lines_of xs ++ lines_of ys
lines_behind [] ys whole = ap (λ (ls : List (List ℕ)). ls ++ lines_of ys) (sym lines_nothing)
lines_behind (b ∷ xs) ys whole = go (whole_feed b xs whole).0 (lines_behind xs ys (whole_feed b xs whole).1) (b == 10) refl
  where
    go : list_any (λ c. c == 10) (b ∷ xs) ≡ true → lines_of (xs ++ ys) ≡ lines_of xs ++ lines_of ys → (t : Bool) → (b == 10) ≡ t
        → lines_of (b ∷ (xs ++ ys)) ≡ lines_of (b ∷ xs) ++ lines_of ys
    go feed rest true e =
        let ten : b ≡ 10 = grind (arith, nat_tests) in
        ap (λ (c : ℕ). lines_of (c ∷ (xs ++ ys))) ten
        ∙ (lines_feed (xs ++ ys)
        ∙ (ap (λ (ls : List (List ℕ)). (10 ∷ []) ∷ ls) rest
        ∙ (ap (λ (ls : List (List ℕ)). ls ++ lines_of ys) (sym (lines_feed xs))
        ∙ ap (λ (c : ℕ). lines_of (c ∷ xs) ++ lines_of ys) (sym ten))))
    go feed rest false e =
        lines_other b (xs ++ ys) e
        ∙ (ap (onto_first b) rest
        ∙ (onto_more b (lines_of xs) (lines_of ys) (feed_line xs (feed_behind b xs e feed))
        ∙ ap (λ (ls : List (List ℕ)). ls ++ lines_of ys) (sym (lines_other b xs e))))

-- the bytes of lines
unfoldable total : List (List ℕ) → ℕ
total [] = 0
total (l ∷ ls) = length l + total ls

total_onto : (b : ℕ) (ls : List (List ℕ)) → total (onto_first b ls) ≡ 1 + total ls
unfolding total
total_onto b [] = refl
total_onto b (l ∷ ls) = omega arith

total_lines : (xs : List ℕ) → total (lines_of xs) ≡ length xs
unfolding total
total_lines [] = ap total lines_nothing
total_lines (b ∷ xs) = go (total_lines xs) (b == 10) refl
  where
    go : total (lines_of xs) ≡ length xs → (t : Bool) → (b == 10) ≡ t → total (lines_of (b ∷ xs)) ≡ length (b ∷ xs)
    go rest true e =
        let ten : b ≡ 10 = grind (arith, nat_tests) in
        let all : total (lines_of (10 ∷ xs)) ≡ 1 + total (lines_of xs) = ap total (lines_feed xs) in
        let here : total (lines_of (b ∷ xs)) ≡ total (lines_of (10 ∷ xs)) = ap (λ (c : ℕ). total (lines_of (c ∷ xs))) ten in
        omega arith
    go rest false e =
        let all : total (lines_of (b ∷ xs)) ≡ 1 + total (lines_of xs) = ap total (lines_other b xs e) ∙ total_onto b (lines_of xs) in
        omega arith

-- ---- what they ask for

-- a line whose bytes are all within the limit
abbrev near_line : List ℕ → Line
near_line l = if is_long l || false then kind.Bad else line_of_text (text_of l)

not_far : (some : Bool) (end : ℕ) → end ≤ EVENT_FILE_LIMIT → (some && nat_lt EVENT_FILE_LIMIT end) ≡ false
not_far false end within = refl
not_far true end within = grind (arith, nat_tests)

near_is : (start : ℕ) (l : List ℕ) → start + length l ≤ EVENT_FILE_LIMIT → line_at start l ≡ near_line l
unfolding line_at
near_is start l within =
    ap (λ (far : Bool). if is_long l || far then kind.Bad else line_of_text (text_of l)) (not_far (nat_lt 0 (length l)) (start + length l) within)

line_counted : (line : Line) (number lines : ℕ) (rest : Input) → after_line line (number + lines) (counted_on lines rest) ≡ counted_on lines (after_line line number rest)
line_counted kind.Blank number lines rest = refl
line_counted (kind.Asks event) number lines rest = refl
line_counted kind.Bad number lines rest = refl

from_counted : (start far number lines : ℕ) (ls : List (List ℕ)) → start + far + total ls ≤ EVENT_FILE_LIMIT
    → input_from (start + far) (number + lines) ls ≡ counted_on lines (input_from start number ls)
unfolding input_from total
from_counted start far number lines [] within = refl
from_counted start far number lines (l ∷ ls) within =
    let bytes : start + far + (length l + total ls) ≤ EVENT_FILE_LIMIT = within in
    let moved : start + far + length l ≡ start + length l + far = omega arith in
    let next : number + lines + 1 ≡ number + 1 + lines = omega arith in
    let rest : input_from (start + length l + far) (number + 1 + lines) ls ≡ counted_on lines (input_from (start + length l) (number + 1) ls) =
    from_counted (start + length l) far (number + 1) lines ls (omega arith) in
    let same : line_at (start + far) l ≡ line_at start l = near_is (start + far) l (omega arith) ∙ sym (near_is start l (omega arith)) in
    ap (λ (s : ℕ). after_line (line_at (start + far) l) (number + lines) (input_from s (number + lines + 1) ls)) moved
    ∙ (ap (λ (n : ℕ). after_line (line_at (start + far) l) (number + lines) (input_from (start + length l + far) n ls)) next
    ∙ (ap (λ (i : Input). after_line (line_at (start + far) l) (number + lines) i) rest
    ∙ (ap (λ (line : Line). after_line line (number + lines) (counted_on lines (input_from (start + length l) (number + 1) ls))) same
    ∙ line_counted (line_at start l) number lines (input_from (start + length l) (number + 1) ls))))

-- what a line and those behind it ask for, where none of them is bad, and then others
line_behind : (line : Line) (number : ℕ) (rest all others : Input) → (after_line line number rest).bad ≡ None
    → (rest.bad ≡ None → all ≡ with_events rest.events others) → after_line line number all ≡ with_events (after_line line number rest).events others
line_behind kind.Blank number rest all others none is = is none
line_behind (kind.Asks event) number rest all others none is = ap (λ (i : Input). record { events = event ∷ i.events; bad = i.bad }) (is none)
line_behind kind.Bad number rest all others none is = absurd (none-some number (sym none))

from_behind : (start number : ℕ) (ls more : List (List ℕ)) → (input_from start number ls).bad ≡ None
    → input_from start number (ls ++ more) ≡ with_events (input_from start number ls).events (input_from (start + total ls) (number + length ls) more)
unfolding input_from total
from_behind start number [] more none =
    let same : start ≡ start + 0 = omega arith in
    let first : number ≡ number + 0 = omega arith in
    ap (λ (s : ℕ). input_from s number more) same ∙ ap (λ (n : ℕ). input_from (start + 0) n more) first
from_behind start number (l ∷ ls) more none =
    let bytes : start + length l + total ls ≡ start + (length l + total ls) = omega arith in
    let lines : number + 1 + length ls ≡ number + length (l ∷ ls) = omega arith in
    line_behind (line_at start l) number (input_from (start + length l) (number + 1) ls) (input_from (start + length l) (number + 1) (ls ++ more))
    (input_from (start + total (l ∷ ls)) (number + length (l ∷ ls)) more) none
    (λ good.
    from_behind (start + length l) (number + 1) ls more good
    ∙ (ap (λ (s : ℕ). with_events (input_from (start + length l) (number + 1) ls).events (input_from s (number + 1 + length ls) more)) bytes
    ∙ ap (λ (n : ℕ). with_events (input_from (start + length l) (number + 1) ls).events (input_from (start + total (l ∷ ls)) n more)) lines))

pub files_joined : JoinedAsk
files_joined before after join good =
    let ls = lines_of before in
    let bytes : total ls ≡ length before = total_lines before in
    let more : total (lines_of after) ≡ length after = total_lines after in
    let all : length (before ++ after) ≡ length before + length after = length-append before after in
    let short : length (before ++ after) ≤ EVENT_FILE_LIMIT = join.short in
    let within : 0 + total ls + total (lines_of after) ≤ EVENT_FILE_LIMIT = omega arith in
    ap (λ (lines : List (List ℕ)). input_from 0 1 lines) (lines_behind before after join.whole)
    ∙ (from_behind 0 1 ls (lines_of after) good
    ∙ ap (λ (i : Input). with_events (input_from 0 1 ls).events i) (from_counted 0 (total ls) 1 (length ls) (lines_of after) within))
