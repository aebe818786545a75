-- However a file is cut into pieces, a reader answers its events up to the first bad line, and that line's number.
use Rattle.std.proofs.Common.{◌≡◌, ◌≢◌, ℕ, ◌+◌, ◌-◌, ◌<◌, ◌≤◌, ◌==◌, List, [], ◌∷◌, ◌++◌, length, drop, refl, ap, sym, ◌∙◌, arith, true, false, Bool, Option, Some, None, append-nil, append_assoc, length-append, length-take}
use Rattle.std.proofs.lemmas.Grind.{common_steps}
use Rattle.std.proofs.lemmas.Bool.Decides.{nat_tests}
use Rattle.std.specs.Prelude.{nat_lt}
use Rattle.std.specs.List.{onto_first}
use Rattle.xk_base.specs.declared.events.Event.{Event}
use Rattle.event_text.specs.declared.event.Line.{Line}
use Rattle.event_text.specs.declared.event.Line.TheVariants as kind
use Rattle.event_text.specs.declared.event.NextEvent.TheVariants as answer
use Rattle.event_text.specs.Lines.{lines_of, is_last, without_last}
use Rattle.event_text.specs.EventFile.{Input, after_line, input_from, input_of, is_over, is_long, is_far, line_at}
use Rattle.event_text.specs.Held.{Reader, first_line, has_feed, known_line, front_of, past_line, past_blanks, past_blanks_by, if_blank, answer_by, answer_of, past_event, after_next, new_reader, with_bytes, rest_answer}
use Rattle.event_text.specs.Plays.{Call, takes, ends, asks, events_in, play_of, left_of, with_events, finished_reader, after_bytes, MayFollow}
use Rattle.event_text.proofs.HeldLemmas.{first_none, first_feed, first_other, one_line_none, last_feed, known_feed, first_lines}

-- a byte that is no line feed joins the first line
pub lines_other : (b : ℕ) (bytes : List ℕ) → (b == 10) ≡ false → lines_of (b ∷ bytes) ≡ onto_first b (lines_of bytes)
unfolding lines_of
lines_other b bytes other = rw other refl

pub lines_feed : (bytes : List ℕ) → lines_of (10 ∷ bytes) ≡ (10 ∷ []) ∷ lines_of bytes
unfolding lines_of
lines_feed bytes = refl

-- a first line with its line feed is taken off, whatever follows
lines_first : (held more : List ℕ) → has_feed (first_line held) ≡ true → lines_of (held ++ more) ≡ first_line held ∷ lines_of (drop (length (first_line held)) held ++ more)
lines_first [] more feed = let none = rw first_none at feed in cc
lines_first (b ∷ bytes) more feed = go (λ h. lines_first bytes more h) (b == 10) refl
  where
    go : (has_feed (first_line bytes) ≡ true → lines_of (bytes ++ more) ≡ first_line bytes ∷ lines_of (drop (length (first_line bytes)) bytes ++ more)) → (t : Bool) → (b == 10) ≡ t
        → lines_of (b ∷ bytes ++ more) ≡ first_line (b ∷ bytes) ∷ lines_of (drop (length (first_line (b ∷ bytes))) (b ∷ bytes) ++ more)
    go shorter true e =
        let ten : b ≡ 10 = grind (arith, nat_tests) in
        rw (ten, first_feed bytes) (lines_feed (bytes ++ more))
    go shorter false e =
        let later : has_feed (first_line bytes) ≡ true = rw (first_other b bytes e, e) at feed in
        rw (first_other b bytes e) (lines_other b (bytes ++ more) e ∙ ap (onto_first b) (shorter later))

-- a first line without its line feed is all that is held
pub first_all : (held : List ℕ) → has_feed (first_line held) ≡ false → (first_line held ≡ held) × (has_feed held ≡ false)
first_all [] none = (first_none, refl)
first_all (b ∷ bytes) none = go (λ h. first_all bytes h) (b == 10) refl
  where
    go : (has_feed (first_line bytes) ≡ false → (first_line bytes ≡ bytes) × (has_feed bytes ≡ false)) → (t : Bool) → (b == 10) ≡ t
        → (first_line (b ∷ bytes) ≡ b ∷ bytes) × (has_feed (b ∷ bytes) ≡ false)
    go shorter true e =
        let ten : b ≡ 10 = grind (arith, nat_tests) in
        let found = rw (ten, first_feed bytes) at none in cc
    go shorter false e =
        let both = shorter (rw (first_other b bytes e, e) at none) in
        (first_other b bytes e ∙ ap (λ (l : List ℕ). b ∷ l) both.0, rw e both.1)

-- bytes without a line feed begin the first line, whatever follows
pub record Begins (held more : List ℕ) : Type 0 where
  pub rest : List ℕ
  pub lines : List (List ℕ)
  pub is : lines_of (held ++ more) ≡ (held ++ rest) ∷ lines

other_first : (b : ℕ) (bytes : List ℕ) → has_feed (b ∷ bytes) ≡ false → ((b == 10) ≡ false) × (has_feed bytes ≡ false)
other_first b bytes none = go (b == 10) refl
  where
    go : (t : Bool) → (b == 10) ≡ t → ((b == 10) ≡ false) × (has_feed bytes ≡ false)
    go true e = let found = rw e at none in cc
    go false e = (e, rw e at none)

begins : (b : ℕ) (held more : List ℕ) → has_feed (b ∷ held) ≡ false → Begins (b ∷ held) more
begins b [] more none = go (lines_of more) refl
  where
    go : (lines : List (List ℕ)) → lines_of more ≡ lines → Begins (b ∷ []) more
    go [] e = record { rest = []; lines = []; is = lines_other b more (other_first b [] none).0 ∙ ap (onto_first b) e }
    go (line ∷ lines) e = record { rest = line; lines = lines; is = lines_other b more (other_first b [] none).0 ∙ ap (onto_first b) e }
begins b (a ∷ held) more none =
    let later = begins a held more (other_first b (a ∷ held) none).1 in
    record {
      rest = later.rest;
      lines = later.lines;
      is = lines_other b (a ∷ held ++ more) (other_first b (a ∷ held) none).0 ∙ ap (onto_first b) later.is;
    }

pub lines_nothing : lines_of [] ≡ []
unfolding lines_of
lines_nothing = refl

-- bytes without a line feed are one line, where nothing follows
lines_alone : (b : ℕ) (bytes : List ℕ) → has_feed (b ∷ bytes) ≡ false → lines_of (b ∷ bytes) ≡ (b ∷ bytes) ∷ []
lines_alone b [] none = lines_other b [] (other_first b [] none).0 ∙ ap (onto_first b) lines_nothing
lines_alone b (a ∷ bytes) none =
    lines_other b (a ∷ bytes) (other_first b (a ∷ bytes) none).0
    ∙ ap (onto_first b) (lines_alone a bytes (other_first b (a ∷ bytes) none).1)

length_without : (line : List ℕ) → length line ≤ length (without_last 10 line) + 1
length_without line = go (is_last 10 line) refl
  where
    go : (t : Bool) → is_last 10 line ≡ t → length line ≤ length (without_last 10 line) + 1
    go true e = rw e (omega (arith, length-take (length line - 1) line))
    go false e = rw e (omega arith)

long_longer : (held rest : List ℕ) → has_feed held ≡ false → is_long held ≡ true → is_long (held ++ rest) ≡ true
long_longer held [] none long = rw append-nil long
long_longer held (b ∷ rest) none long =
    let e : nat_lt 64 (length held) ≡ true = rw (last_feed held none) at long in
    let more = length_without (held ++ b ∷ rest) in
    let whole = length-append held (b ∷ rest) in
    let bound : 64 < length (without_last 10 (held ++ b ∷ rest)) = grind (arith, nat_tests) in
    grind (arith, nat_tests)

far_longer : (start : ℕ) (held rest : List ℕ) → is_far start held ≡ true → is_far start (held ++ rest) ≡ true
far_longer start held rest far = rw length-append (grind (arith, nat_tests))

-- a line that is over stays so with bytes more
over_longer : (start : ℕ) (held rest : List ℕ) → has_feed held ≡ false → is_over start held ≡ true → is_over start (held ++ rest) ≡ true
over_longer start held rest none over = go (is_long held) refl
  where
    go : (t : Bool) → is_long held ≡ t → is_over start (held ++ rest) ≡ true
    go true e = rw (long_longer held rest none e) refl
    go false e = let far : is_far start held ≡ true = rw e at over in rw (far_longer start held rest far) (grind (arith, nat_tests))

line_over : (start : ℕ) (line : List ℕ) → is_over start line ≡ true → line_at start line ≡ kind.Bad
unfolding line_at
line_over start line over = rw over refl

pub some_is : (a b : Line) → Some a ≡ Some b → a ≡ b
some_is a b e = cc

pub input_first : (start number : ℕ) (line : List ℕ) (lines : List (List ℕ)) → input_from start number (line ∷ lines) ≡ after_line (line_at start line) number (input_from (start + length line) (number + 1) lines)
unfolding input_from
input_first start number line lines = refl

-- what is left, where a line feed of the first line is held
left_feed : (r : Reader) (more : List ℕ) → has_feed (first_line r.held) ≡ true → left_of r more ≡ after_line (line_at r.start (first_line r.held)) (r.lines_done + 1) (left_of (past_line r) more)
unfolding left_of
left_feed r more feed =
    ap (input_from r.start (r.lines_done + 1)) (lines_first r.held more feed)
    ∙ input_first r.start (r.lines_done + 1) (first_line r.held) (lines_of (drop (length (first_line r.held)) r.held ++ more))

-- .. and where the file ends with the first line
left_last : (r : Reader) (b : ℕ) (bytes : List ℕ) → r.held ≡ b ∷ bytes → has_feed (b ∷ bytes) ≡ false → left_of r [] ≡ after_line (line_at r.start (first_line r.held)) (r.lines_done + 1) (left_of (past_line r) [])
unfolding left_of
left_last r b bytes e none =
    let one : first_line (b ∷ bytes) ≡ b ∷ bytes = one_line_none (b ∷ bytes) none in
    let empty : drop (length (b ∷ bytes)) (b ∷ bytes) ≡ [] = grind (arith, common_steps) in
    rw (e, one, append-nil, lines_alone b bytes none, empty, lines_nothing) (input_first r.start (r.lines_done + 1) (b ∷ bytes) [])

-- .. and where the first line is over
left_over : (r : Reader) (more : List ℕ) (b : ℕ) (bytes : List ℕ) → r.held ≡ b ∷ bytes → has_feed (b ∷ bytes) ≡ false → is_over r.start (b ∷ bytes) ≡ true → left_of r more ≡ record { events = []; bad = Some (r.lines_done + 1) }
unfolding left_of
left_over r more b bytes e none over =
    let begun = begins b bytes more none in
    let bad = line_over r.start ((b ∷ bytes) ++ begun.rest) (over_longer r.start (b ∷ bytes) begun.rest none over) in
    rw e (ap (input_from r.start (r.lines_done + 1)) begun.is
    ∙ (input_first r.start (r.lines_done + 1) ((b ∷ bytes) ++ begun.rest) begun.lines
    ∙ rw bad refl))

known_last : (start b : ℕ) (bytes : List ℕ) → known_line true start (b ∷ bytes) ≡ Some (line_at start (b ∷ bytes))
unfolding known_line
known_last start b bytes = refl

-- a line that isn't whole is known only where it is over
pub known_begun : (start b : ℕ) (bytes : List ℕ) (l : Line) → has_feed (b ∷ bytes) ≡ false → known_line false start (b ∷ bytes) ≡ Some l → (is_over start (b ∷ bytes) ≡ true) × (l ≡ kind.Bad)
unfolding known_line
known_begun start b bytes l none known = go (is_over start (b ∷ bytes)) refl
  where
    go : (o : Bool) → is_over start (b ∷ bytes) ≡ o → (is_over start (b ∷ bytes) ≡ true) × (l ≡ kind.Bad)
    go true e = let k : Some kind.Bad ≡ Some l = rw (none, e) at known in (e, sym (some_is kind.Bad l k))
    go false e = let k : None ≡ Some l = rw (none, e) at known in cc

pub known_nothing : (finished : Bool) (start : ℕ) → known_line finished start [] ≡ None
unfolding known_line
known_nothing finished start = refl

pub front_is : (r : Reader) → front_of r ≡ known_line r.finished r.start (first_line r.held)
unfolding front_of
front_is r = refl

-- what is known of the first line is what it asks for
pub left_known : (r : Reader) (more : List ℕ) (l : Line) → (r.finished ≡ true → more ≡ []) → front_of r ≡ Some l → left_of r more ≡ after_line l (r.lines_done + 1) (left_of (past_line r) more)
left_known r more l ended known = go (has_feed (first_line r.held)) refl
  where
    k : known_line r.finished r.start (first_line r.held) ≡ Some l
    k = sym (front_is r) ∙ known

    begun : (f : Bool) → r.finished ≡ f → (held : List ℕ) → r.held ≡ held → has_feed held ≡ false → first_line held ≡ held → left_of r more ≡ after_line l (r.lines_done + 1) (left_of (past_line r) more)
    begun f ef [] e none one = let n : None ≡ Some l = sym (known_nothing r.finished r.start) ∙ rw (e, one) at k in cc
    begun true ef (b ∷ bytes) e none one =
        let is : line_at r.start (b ∷ bytes) ≡ l = some_is (line_at r.start (b ∷ bytes)) l (sym (known_last r.start b bytes) ∙ rw (e, one, ef) at k) in
        let firsts : line_at r.start (first_line r.held) ≡ l = ap (line_at r.start) (ap first_line e ∙ one) ∙ is in
        rw (ended ef) (left_last r b bytes e none ∙ ap (λ (l : Line). after_line l (r.lines_done + 1) (left_of (past_line r) [])) firsts)
    begun false ef (b ∷ bytes) e none one =
        let both = known_begun r.start b bytes l none (rw (e, one, ef) at k) in
        left_over r more b bytes e none both.0 ∙ rw both.1 refl

    go : (t : Bool) → has_feed (first_line r.held) ≡ t → left_of r more ≡ after_line l (r.lines_done + 1) (left_of (past_line r) more)
    go true e =
        let is = some_is (line_at r.start (first_line r.held)) l (sym (known_feed r.finished r.start (first_line r.held) e) ∙ k) in
        left_feed r more e ∙ ap (λ (l : Line). after_line l (r.lines_done + 1) (left_of (past_line r) more)) is
    go false e = let all = first_all r.held e in begun r.finished refl r.held refl all.1 all.0

past_finished : (lines : List (List ℕ)) (r : Reader) → (past_blanks_by lines r).finished ≡ r.finished
unfolding past_blanks_by
past_finished [] r = refl
past_finished (line ∷ lines) r = go (front_of r) refl (past_finished lines (past_line r))
  where
    go : (l : Option Line) → front_of r ≡ l → (past_blanks_by lines (past_line r)).finished ≡ r.finished → (if_blank (front_of r) (past_blanks_by lines (past_line r)) r).finished ≡ r.finished
    go None e same = rw e refl
    go (Some kind.Blank) e same = rw e same
    go (Some (kind.Asks event)) e same = rw e refl
    go (Some kind.Bad) e same = rw e refl

-- good lines that are no event ask for nothing
left_past_by : (lines : List (List ℕ)) (r : Reader) (more : List ℕ) → (r.finished ≡ true → more ≡ []) → left_of (past_blanks_by lines r) more ≡ left_of r more
unfolding past_blanks_by
left_past_by [] r more ended = refl
left_past_by (line ∷ lines) r more ended = go (front_of r) refl (left_past_by lines (past_line r) more ended)
  where
    go : (l : Option Line) → front_of r ≡ l → left_of (past_blanks_by lines (past_line r)) more ≡ left_of (past_line r) more
        → left_of (if_blank (front_of r) (past_blanks_by lines (past_line r)) r) more ≡ left_of r more
    go None e later = rw e refl
    go (Some kind.Blank) e later = rw e (later ∙ sym (left_known r more kind.Blank ended e))
    go (Some (kind.Asks event)) e later = rw e refl
    go (Some kind.Bad) e later = rw e refl

blanks_finished : (r : Reader) → (past_blanks r).finished ≡ r.finished
unfolding past_blanks
blanks_finished r = past_finished (lines_of r.held) r

left_past : (r : Reader) (more : List ℕ) → (r.finished ≡ true → more ≡ []) → left_of (past_blanks r) more ≡ left_of r more
unfolding past_blanks
left_past r more ended = left_past_by (lines_of r.held) r more ended

pub next_finished : (r : Reader) → (after_next r).finished ≡ r.finished
next_finished r = go (front_of (past_blanks r)) refl
  where
    go : (l : Option Line) → front_of (past_blanks r) ≡ l → (past_event (front_of (past_blanks r)) (past_blanks r)).finished ≡ r.finished
    go None e = rw e (blanks_finished r)
    go (Some kind.Blank) e = rw e (blanks_finished r)
    go (Some (kind.Asks event)) e = rw e (blanks_finished r)
    go (Some kind.Bad) e = rw e (blanks_finished r)

rest_events : (finished : Bool) (input : Input) → with_events (events_in (rest_answer finished)) input ≡ input
rest_events true input = refl
rest_events false input = refl

-- an answer and what is left after it are what was left before
pub left_next : (r : Reader) (more : List ℕ) → (r.finished ≡ true → more ≡ []) → with_events (events_in (answer_of r)) (left_of (after_next r) more) ≡ left_of r more
left_next r more ended = go (front_of (past_blanks r)) refl
  where
    p : Reader
    p = past_blanks r

    go : (l : Option Line) → front_of (past_blanks r) ≡ l
        → with_events (events_in (answer_by (front_of (past_blanks r)) (past_blanks r))) (left_of (past_event (front_of (past_blanks r)) (past_blanks r)) more) ≡ left_of r more
    go None e = rw e (rest_events (past_blanks r).finished (left_of (past_blanks r) more) ∙ left_past r more ended)
    go (Some kind.Blank) e = rw e (left_past r more ended)
    go (Some (kind.Asks event)) e =
        rw e (sym (left_known (past_blanks r) more (kind.Asks event) (λ f. ended (sym (blanks_finished r) ∙ f)) e) ∙ left_past r more ended)
    go (Some kind.Bad) e = rw e (left_past r more ended)

-- bytes that are taken are no longer to come
pub left_bytes : (r : Reader) (bytes more : List ℕ) → left_of (with_bytes r bytes) more ≡ left_of r (bytes ++ more)
unfolding left_of
left_bytes r bytes more = rw append_assoc refl

-- the end changes nothing of what is left
pub left_finished : (r : Reader) (more : List ℕ) → left_of (finished_reader r) more ≡ left_of r more
unfolding left_of
left_finished r more = refl

-- a new reader has the whole file left
pub left_new : (more : List ℕ) → left_of new_reader more ≡ input_of more
unfolding left_of
left_new more = refl

pub with_more : (events more : List Event) (input : Input) → with_events (events ++ more) input ≡ with_events events (with_events more input)
with_more events more input = rw append_assoc refl

-- what was answered and what is left are what the file asks for
pub play_left : (calls : List Call) (more : List ℕ) → MayFollow (play_of calls) more
    → with_events (play_of calls).answered (left_of (play_of calls).reader more) ≡ input_of ((play_of calls).taken ++ more)
unfolding play_of
play_left [] more ended = left_new more
play_left (takes bytes ∷ calls) more ended = go (play_of calls).reader.finished refl ended (λ more h. play_left calls more h)
  where
    go : (f : Bool) → (play_of calls).reader.finished ≡ f
        → MayFollow (after_bytes (play_of calls).reader.finished bytes (play_of calls)) more
        → ((more : List ℕ) → MayFollow (play_of calls) more → with_events (play_of calls).answered (left_of (play_of calls).reader more) ≡ input_of ((play_of calls).taken ++ more))
        → with_events (after_bytes (play_of calls).reader.finished bytes (play_of calls)).answered (left_of (after_bytes (play_of calls).reader.finished bytes (play_of calls)).reader more)
        ≡ input_of ((after_bytes (play_of calls).reader.finished bytes (play_of calls)).taken ++ more)
    go true e may before = rw e (before more (λ f. (rw e at may) f))
    go false e may before =
        rw e (ap (with_events (play_of calls).answered) (left_bytes (play_of calls).reader bytes more)
        ∙ (before (bytes ++ more) (λ f. let no : false ≡ true = sym e ∙ f in cc)
        ∙ ap input_of (sym (append_assoc (play_of calls).taken bytes more))))
play_left (ends ∷ calls) more ended =
    ap (with_events (play_of calls).answered) (left_finished (play_of calls).reader more)
    ∙ play_left calls more (λ f. ended refl)
play_left (asks ∷ calls) more ended =
    let may : MayFollow (play_of calls) more = λ f. ended (next_finished (play_of calls).reader ∙ f) in
    with_more (play_of calls).answered (events_in (answer_of (play_of calls).reader)) (left_of (after_next (play_of calls).reader) more)
    ∙ (ap (with_events (play_of calls).answered) (left_next (play_of calls).reader more may)
    ∙ play_left calls more may)

rest_no_bad : (finished : Bool) (n : ℕ) (A : Type 0) → rest_answer finished ≡ answer.Bad n → A
rest_no_bad true n A e = cc
rest_no_bad false n A e = cc

bad_is : (m n : ℕ) → answer.Bad m ≡ answer.Bad n → m ≡ n
bad_is m n e = cc

-- where a bad line is answered, nothing else is left
pub left_bad : (r : Reader) (more : List ℕ) (n : ℕ) → (r.finished ≡ true → more ≡ []) → answer_of r ≡ answer.Bad n → left_of r more ≡ record { events = []; bad = Some n }
left_bad r more n ended bad = go (front_of (past_blanks r)) refl bad
  where
    go : (l : Option Line) → front_of (past_blanks r) ≡ l → answer_by (front_of (past_blanks r)) (past_blanks r) ≡ answer.Bad n → left_of r more ≡ record { events = []; bad = Some n }
    go None e is = rest_no_bad (past_blanks r).finished n (left_of r more ≡ record { events = []; bad = Some n }) (rw e at is)
    go (Some kind.Blank) e is = let k = rw e at is in cc
    go (Some (kind.Asks event)) e is = let k = rw e at is in cc
    go (Some kind.Bad) e is =
        sym (left_past r more ended)
        ∙ (left_known (past_blanks r) more kind.Bad (λ f. ended (sym (blanks_finished r) ∙ f)) e
        ∙ ap (λ n. record { events = []; bad = Some n }) (bad_is ((past_blanks r).lines_done + 1) n (rw e at is)))

-- a bad line is answered with what was answered before it
pub play_bad : (calls : List Call) (more : List ℕ) (n : ℕ) → MayFollow (play_of calls) more → answer_of (play_of calls).reader ≡ answer.Bad n
    → input_of ((play_of calls).taken ++ more) ≡ record { events = (play_of calls).answered; bad = Some n }
play_bad calls more n may bad =
    sym (play_left calls more may)
    ∙ (ap (with_events (play_of calls).answered) (left_bad (play_of calls).reader more n may bad)
    ∙ ap (λ (events : List Event). record { events = events; bad = Some n }) (append-nil (play_of calls).answered))

rest_end : (finished : Bool) → rest_answer finished ≡ answer.End → finished ≡ true
rest_end true e = refl
rest_end false e = cc

known_end : (start : ℕ) (line : List ℕ) → known_line true start line ≡ None → line ≡ []
unfolding known_line
known_end start [] none = refl
known_end start (b ∷ line) none = cc

left_nothing : (r : Reader) → r.held ≡ [] → left_of r [] ≡ record { events = []; bad = None }
unfolding left_of input_from
left_nothing r e = rw (e, lines_nothing) refl

-- a reader that has answered all lines held holds nothing
holds_nothing : (r : Reader) → r.finished ≡ true → front_of r ≡ None → r.held ≡ []
holds_nothing r ended none =
    let first : first_line r.held ≡ [] = known_end r.start (first_line r.held) (rw ended at (sym (front_is r) ∙ none)) in
    sym (first_all r.held (ap has_feed first)).0 ∙ first

-- where the end is answered, it was said and nothing is left
pub left_end : (r : Reader) → answer_of r ≡ answer.End → (r.finished ≡ true) × (left_of r [] ≡ record { events = []; bad = None })
left_end r end = go (front_of (past_blanks r)) refl end
  where
    go : (l : Option Line) → front_of (past_blanks r) ≡ l → answer_by (front_of (past_blanks r)) (past_blanks r) ≡ answer.End
        → (r.finished ≡ true) × (left_of r [] ≡ record { events = []; bad = None })
    go None e is =
        let ended = rest_end (past_blanks r).finished (rw e at is) in (
          sym (blanks_finished r) ∙ ended,
          sym (left_past r [] (λ f. refl)) ∙ left_nothing (past_blanks r) (holds_nothing (past_blanks r) ended e),
        )
    go (Some kind.Blank) e is = let k = rw e at is in cc
    go (Some (kind.Asks event)) e is = let k = rw e at is in cc
    go (Some kind.Bad) e is = let k = rw e at is in cc

-- the end is answered after all events of a file without a bad line
pub play_end : (calls : List Call) → answer_of (play_of calls).reader ≡ answer.End
    → ((play_of calls).reader.finished ≡ true) × (input_of (play_of calls).taken ≡ record { events = (play_of calls).answered; bad = None })
play_end calls end =
    let both = left_end (play_of calls).reader end in (
      both.0,
      ap input_of (sym (append-nil (play_of calls).taken))
          ∙ (sym (play_left calls [] (λ f. refl))
          ∙ (ap (with_events (play_of calls).answered) both.1
          ∙ ap (λ (events : List Event). record { events = events; bad = None }) (append-nil (play_of calls).answered))),
    )

blanks_bad : (lines : List (List ℕ)) (r : Reader) → front_of r ≡ Some kind.Bad → past_blanks_by lines r ≡ r
unfolding past_blanks_by
blanks_bad [] r bad = refl
blanks_bad (line ∷ lines) r bad = rw bad refl

stays_bad : (r : Reader) → front_of r ≡ Some kind.Bad → past_blanks r ≡ r
unfolding past_blanks
stays_bad r bad = blanks_bad (lines_of r.held) r bad

answer_bad : (r : Reader) → front_of r ≡ Some kind.Bad → answer_of r ≡ answer.Bad (r.lines_done + 1)
answer_bad r bad = rw (stays_bad r bad, bad) refl

-- the bad line is answered again from then on
pub bad_again : (r : Reader) (n : ℕ) → answer_of r ≡ answer.Bad n → answer_of (after_next r) ≡ answer.Bad n
bad_again r n bad = go (front_of (past_blanks r)) refl bad
  where
    go : (l : Option Line) → front_of (past_blanks r) ≡ l → answer_by (front_of (past_blanks r)) (past_blanks r) ≡ answer.Bad n
        → answer_of (past_event (front_of (past_blanks r)) (past_blanks r)) ≡ answer.Bad n
    go None e is = rest_no_bad (past_blanks r).finished n (answer_of (past_event (front_of (past_blanks r)) (past_blanks r)) ≡ answer.Bad n) (rw e at is)
    go (Some kind.Blank) e is = let k = rw e at is in cc
    go (Some (kind.Asks event)) e is = let k = rw e at is in cc
    go (Some kind.Bad) e is =
        ap answer_of (ap (λ (l : Option Line). past_event l (past_blanks r)) e)
        ∙ (answer_bad (past_blanks r) e ∙ rw e at is)

-- behind a good line the lines held are those after it
lines_past : (r : Reader) (line : List ℕ) (lines : List (List ℕ)) → lines_of r.held ≡ line ∷ lines → lines_of (drop (length (first_line r.held)) r.held) ≡ lines
lines_past r line lines e = go (has_feed (first_line r.held)) refl
  where
    tails : (a b : List ℕ) (xs ys : List (List ℕ)) → a ∷ xs ≡ b ∷ ys → xs ≡ ys
    tails a b xs ys e = cc

    alone : (held : List ℕ) → lines_of held ≡ line ∷ lines → first_line held ≡ held → has_feed held ≡ false → lines_of (drop (length (first_line held)) held) ≡ lines
    alone [] e one none = let no : [] ≡ line ∷ lines = sym lines_nothing ∙ e in cc
    alone (b ∷ bytes) e one none =
        let empty : drop (length (b ∷ bytes)) (b ∷ bytes) ≡ [] = grind (arith, common_steps) in
        rw (one, empty, lines_nothing) (tails (b ∷ bytes) line [] lines (sym (lines_alone b bytes none) ∙ e))

    go : (t : Bool) → has_feed (first_line r.held) ≡ t → lines_of (drop (length (first_line r.held)) r.held) ≡ lines
    go true f =
        let cut = simp append-nil at (lines_first r.held [] f) in
        tails (first_line r.held) line (lines_of (drop (length (first_line r.held)) r.held)) lines (sym cut ∙ e)
    go false f = let all = first_all r.held f in alone r.held e all.0 all.1

no_lines : (r : Reader) → lines_of r.held ≡ [] → front_of r ≡ None
unfolding front_of
no_lines r e = rw (first_lines r.held e) (known_nothing r.finished r.start)

no_blank_by : (lines : List (List ℕ)) (r : Reader) → lines_of r.held ≡ lines → front_of (past_blanks_by lines r) ≢ Some kind.Blank
unfolding past_blanks_by
no_blank_by [] r e = λ blank. let no : None ≡ Some kind.Blank = sym (no_lines r e) ∙ blank in cc
no_blank_by (line ∷ lines) r e = go (front_of r) refl (no_blank_by lines (past_line r) (lines_past r line lines e))
  where
    go : (l : Option Line) → front_of r ≡ l → front_of (past_blanks_by lines (past_line r)) ≢ Some kind.Blank
        → front_of (if_blank (front_of r) (past_blanks_by lines (past_line r)) r) ≢ Some kind.Blank
    go None f later = rw f (λ blank. let no : None ≡ Some kind.Blank = sym f ∙ blank in cc)
    go (Some kind.Blank) f later = rw f later
    go (Some (kind.Asks event)) f later = rw f (λ blank. let no : Some (kind.Asks event) ≡ Some kind.Blank = sym f ∙ blank in cc)
    go (Some kind.Bad) f later = rw f (λ blank. let no : Some kind.Bad ≡ Some kind.Blank = sym f ∙ blank in cc)

-- no good line that is no event is left at the front
pub no_blank : (r : Reader) → front_of (past_blanks r) ≢ Some kind.Blank
unfolding past_blanks
no_blank r = no_blank_by (lines_of r.held) r refl
