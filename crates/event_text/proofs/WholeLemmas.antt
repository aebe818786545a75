-- While a reader waits for bytes, the events that it answered are those of the whole lines that it took.
use Rattle.std.proofs.Common.{◌≡◌, ℕ, ◌+◌, ◌==◌, List, [], ◌∷◌, ◌++◌, length, drop, refl, ap, sym, ◌∙◌, true, false, Bool, Option, Some, None, append-nil, append_assoc, arith}
use Rattle.std.proofs.lemmas.Bool.Decides.{nat_tests}
use Rattle.std.specs.List.{onto_first}
use Rattle.xk_base.specs.declared.events.Event.{Event}
use Rattle.event_text.specs.declared.event.Line.{Line}
use Rattle.event_text.specs.declared.event.Line.TheVariants as kind
use Rattle.event_text.specs.Lines.{lines_of, whole_lines}
use Rattle.event_text.specs.EventFile.{Input, after_line, input_from, input_of, line_at}
use Rattle.event_text.specs.Held.{Reader, IsWaiting, first_line, has_feed, known_line, front_of, past_line, past_blanks, past_blanks_by, if_blank, answer_by, answer_of, past_event, after_next, with_bytes, rest_answer}
use Rattle.event_text.specs.Plays.{Call, takes, ends, asks, Play, events_in, after_bytes, play_of, with_events}
use Rattle.event_text.proofs.HeldLemmas.{first_none, first_feed, first_other, known_feed}
use Rattle.event_text.proofs.PlayLemmas.{front_is, first_all, input_first, known_begun, known_nothing, lines_feed, lines_nothing, lines_other, next_finished, some_is, with_more}

-- what lines ask for in the place of those that a reader holds
abbrev ahead : Reader → List ℕ → Input
ahead r bytes = input_from r.start (r.lines_done + 1) (lines_of bytes)

-- ---- whole lines

feed_longer : (xs ys : List ℕ) → has_feed xs ≡ true → has_feed (xs ++ ys) ≡ true
feed_longer [] ys feed = cc
feed_longer (b ∷ xs) ys feed = go (λ f. feed_longer xs ys f) (b == 10) refl
  where
    go : (has_feed xs ≡ true → has_feed (xs ++ ys) ≡ true) → (t : Bool) → (b == 10) ≡ t → has_feed (b ∷ xs ++ ys) ≡ true
    go shorter true e = rw e refl
    go shorter false e = rw e (shorter (rw e at feed))

whole_feed : (b : ℕ) (bytes : List ℕ) → has_feed (b ∷ bytes) ≡ true → whole_lines (b ∷ bytes) ≡ b ∷ whole_lines bytes
unfolding whole_lines
whole_feed b bytes feed = rw feed refl

-- the whole lines of bytes without a line feed are none
whole_none : (bytes : List ℕ) → has_feed bytes ≡ false → whole_lines bytes ≡ []
unfolding whole_lines
whole_none [] none = refl
whole_none (b ∷ bytes) none = rw none refl

-- a first line with its line feed is whole, whatever follows
first_whole : (held more : List ℕ) → has_feed (first_line held) ≡ true → whole_lines (first_line held ++ more) ≡ first_line held ++ whole_lines more
first_whole [] more feed = let none = rw first_none at feed in cc
first_whole (b ∷ bytes) more feed = go (λ h. first_whole bytes more h) (b == 10) refl
  where
    go : (has_feed (first_line bytes) ≡ true → whole_lines (first_line bytes ++ more) ≡ first_line bytes ++ whole_lines more) → (t : Bool) → (b == 10) ≡ t
        → whole_lines (first_line (b ∷ bytes) ++ more) ≡ first_line (b ∷ bytes) ++ whole_lines more
    go shorter true e =
        let ten : b ≡ 10 = grind (arith, nat_tests) in
        rw (ten, first_feed bytes) (whole_feed 10 more refl)
    go shorter false e =
        let later : has_feed (first_line bytes) ≡ true = rw (first_other b bytes e, e) at feed in
        let longer : has_feed (b ∷ first_line bytes ++ more) ≡ true = rw e (feed_longer (first_line bytes) more later) in
        rw (first_other b bytes e) (whole_feed b (first_line bytes ++ more) longer ∙ ap (λ (l : List ℕ). b ∷ l) (shorter later))

-- .. and a line of its own
first_apart : (held more : List ℕ) → has_feed (first_line held) ≡ true → lines_of (first_line held ++ more) ≡ first_line held ∷ lines_of more
first_apart [] more feed = let none = rw first_none at feed in cc
first_apart (b ∷ bytes) more feed = go (λ h. first_apart bytes more h) (b == 10) refl
  where
    go : (has_feed (first_line bytes) ≡ true → lines_of (first_line bytes ++ more) ≡ first_line bytes ∷ lines_of more) → (t : Bool) → (b == 10) ≡ t
        → lines_of (first_line (b ∷ bytes) ++ more) ≡ first_line (b ∷ bytes) ∷ lines_of more
    go shorter true e =
        let ten : b ≡ 10 = grind (arith, nat_tests) in
        rw (ten, first_feed bytes) (lines_feed more)
    go shorter false e =
        let later : has_feed (first_line bytes) ≡ true = rw (first_other b bytes e, e) at feed in
        rw (first_other b bytes e) (lines_other b (first_line bytes ++ more) e ∙ ap (onto_first b) (shorter later))

-- what is held is its first line and what is held behind it
first_rest : (held : List ℕ) → held ≡ first_line held ++ drop (length (first_line held)) held
first_rest [] = rw first_none refl
first_rest (b ∷ bytes) = go (first_rest bytes) (b == 10) refl
  where
    go : bytes ≡ first_line bytes ++ drop (length (first_line bytes)) bytes → (t : Bool) → (b == 10) ≡ t → b ∷ bytes ≡ first_line (b ∷ bytes) ++ drop (length (first_line (b ∷ bytes))) (b ∷ bytes)
    go shorter true e = let ten : b ≡ 10 = grind (arith, nat_tests) in rw (ten, first_feed bytes) refl
    go shorter false e = rw (first_other b bytes e) (ap (λ (l : List ℕ). b ∷ l) shorter)

-- ---- what a reader passes

-- from one reader to another whole lines are passed that ask for these events
record Passes (r past : Reader) (events : List Event) : Type 0 where
  lines : List ℕ
  whole : (more : List ℕ) → whole_lines (lines ++ more) ≡ lines ++ whole_lines more
  held : r.held ≡ lines ++ past.held
  asks : (more : List ℕ) → ahead r (lines ++ more) ≡ with_events events (ahead past more)

passes_none : (r : Reader) → Passes r r []
passes_none r = record { lines = []; whole = λ more. refl; held = refl; asks = λ more. refl }

passes_then : (r mid past : Reader) (events more : List Event) → Passes r mid events → Passes mid past more → Passes r past (events ++ more)
passes_then r mid past events more first second = record {
  lines = first.lines ++ second.lines;
  whole = λ rest.
      ap whole_lines (append_assoc first.lines second.lines rest)
      ∙ (first.whole (second.lines ++ rest)
      ∙ (ap (λ (l : List ℕ). first.lines ++ l) (second.whole rest)
      ∙ sym (append_assoc first.lines second.lines (whole_lines rest))));
  held = first.held ∙ (ap (λ (l : List ℕ). first.lines ++ l) second.held ∙ sym (append_assoc first.lines second.lines past.held));
  asks = λ rest.
      ap (ahead r) (append_assoc first.lines second.lines rest)
      ∙ (first.asks (second.lines ++ rest)
      ∙ (ap (with_events events) (second.asks rest)
      ∙ sym (with_more events more (ahead past rest))));
}

-- a good line that is known before the end of the file has its line feed
good_feed : (start : ℕ) (line : List ℕ) (l : Line) → known_line false start line ≡ Some l → (l ≡ kind.Bad → ⊥) → has_feed line ≡ true
good_feed start [] l known good = let n : None ≡ Some l = sym (known_nothing false start) ∙ known in cc
good_feed start (b ∷ bytes) l known good = go (has_feed (b ∷ bytes)) refl
  where
    go : (t : Bool) → has_feed (b ∷ bytes) ≡ t → has_feed (b ∷ bytes) ≡ true
    go true e = e
    go false e = absurd (good (known_begun start b bytes l e known).1)

passes_line : (r : Reader) (l : Line) (events : List Event) → r.finished ≡ false → front_of r ≡ Some l → (l ≡ kind.Bad → ⊥)
    → ((number : ℕ) (rest : Input) → after_line l number rest ≡ with_events events rest) → Passes r (past_line r) events
passes_line r l events unsaid known good is =
    let k : known_line false r.start (first_line r.held) ≡ Some l = ap (λ (f : Bool). known_line f r.start (first_line r.held)) (sym unsaid) ∙ (sym (front_is r) ∙ known) in
    let feed : has_feed (first_line r.held) ≡ true = good_feed r.start (first_line r.held) l k good in
    let at : line_at r.start (first_line r.held) ≡ l = some_is (line_at r.start (first_line r.held)) l (sym (known_feed false r.start (first_line r.held) feed) ∙ k) in
    record {
      lines = first_line r.held;
      whole = λ more. first_whole r.held more feed;
      held = first_rest r.held;
      asks = λ more.
          ap (input_from r.start (r.lines_done + 1)) (first_apart r.held more feed)
          ∙ (input_first r.start (r.lines_done + 1) (first_line r.held) (lines_of more)
          ∙ (ap (λ (x : Line). after_line x (r.lines_done + 1) (ahead (past_line r) more)) at
          ∙ is (r.lines_done + 1) (ahead (past_line r) more)));
    }

not_blank : kind.Blank ≡ kind.Bad → ⊥
not_blank e = cc

not_asks : (event : Event) → kind.Asks event ≡ kind.Bad → ⊥
not_asks event e = cc

passes_blanks_by : (lines : List (List ℕ)) (r : Reader) → r.finished ≡ false → Passes r (past_blanks_by lines r) []
unfolding past_blanks_by
passes_blanks_by [] r unsaid = passes_none r
passes_blanks_by (line ∷ lines) r unsaid = go (front_of r) refl (passes_blanks_by lines (past_line r) unsaid)
  where
    go : (l : Option Line) → front_of r ≡ l → Passes (past_line r) (past_blanks_by lines (past_line r)) []
        → Passes r (if_blank (front_of r) (past_blanks_by lines (past_line r)) r) []
    go None e later = rw e (passes_none r)
    go (Some kind.Blank) e later =
        rw e (passes_then r (past_line r) (past_blanks_by lines (past_line r)) [] [] (passes_line r kind.Blank [] unsaid e not_blank (λ number rest. refl)) later)
    go (Some (kind.Asks event)) e later = rw e (passes_none r)
    go (Some kind.Bad) e later = rw e (passes_none r)

open_past : (lines : List (List ℕ)) (r : Reader) → r.finished ≡ false → (past_blanks_by lines r).finished ≡ false
unfolding past_blanks_by
open_past [] r unsaid = unsaid
open_past (line ∷ lines) r unsaid = go (front_of r) refl (open_past lines (past_line r) unsaid)
  where
    go : (l : Option Line) → front_of r ≡ l → (past_blanks_by lines (past_line r)).finished ≡ false → (if_blank (front_of r) (past_blanks_by lines (past_line r)) r).finished ≡ false
    go None e later = rw e unsaid
    go (Some kind.Blank) e later = rw e later
    go (Some (kind.Asks event)) e later = rw e unsaid
    go (Some kind.Bad) e later = rw e unsaid

record Blanks (r : Reader) : Type 0 where
  passes : Passes r (past_blanks r) []
  unsaid : (past_blanks r).finished ≡ false

blanks : (r : Reader) → r.finished ≡ false → Blanks r
unfolding past_blanks
blanks r unsaid = record { passes = passes_blanks_by (lines_of r.held) r unsaid; unsaid = open_past (lines_of r.held) r unsaid }

rest_none : (finished : Bool) → events_in (rest_answer finished) ≡ []
rest_none true = refl
rest_none false = refl

-- an answer passes whole lines that ask for its event, or for none
passes_next : (r : Reader) → r.finished ≡ false → Passes r (after_next r) (events_in (answer_of r))
passes_next r unsaid = go (front_of (past_blanks r)) refl
  where
    b : Blanks r
    b = blanks r unsaid

    go : (l : Option Line) → front_of (past_blanks r) ≡ l → Passes r (past_event (front_of (past_blanks r)) (past_blanks r)) (events_in (answer_by (front_of (past_blanks r)) (past_blanks r)))
    go None e = rw (e, rest_none (past_blanks r).finished) (blanks r unsaid).passes
    go (Some kind.Blank) e = rw e (blanks r unsaid).passes
    go (Some (kind.Asks event)) e =
        rw e (passes_then r (past_blanks r) (past_line (past_blanks r)) [] (event ∷ []) (blanks r unsaid).passes
        (passes_line (past_blanks r) (kind.Asks event) (event ∷ []) (blanks r unsaid).unsaid e (not_asks event) (λ number rest. refl)))
    go (Some kind.Bad) e = rw e (blanks r unsaid).passes

-- ---- all calls

-- the bytes taken are whole lines, which ask for what was answered, and those held
record Parts (play : Play) : Type 0 where
  done : List ℕ
  whole : (more : List ℕ) → whole_lines (done ++ more) ≡ done ++ whole_lines more
  taken : play.taken ≡ done ++ play.reader.held
  asks : (more : List ℕ) → with_events play.answered (ahead play.reader more) ≡ input_of (done ++ more)

more_parts : (play : Play) (bytes : List ℕ) → Parts play → Parts (record { reader = with_bytes play.reader bytes; taken = play.taken ++ bytes; answered = play.answered })
more_parts play bytes parts = record {
  done = parts.done;
  whole = parts.whole;
  taken = ap (λ (l : List ℕ). l ++ bytes) parts.taken ∙ append_assoc parts.done play.reader.held bytes;
  asks = parts.asks;
}

next_parts : (play : Play) → play.reader.finished ≡ false → Parts play
    → Parts (record { reader = after_next play.reader; taken = play.taken; answered = play.answered ++ events_in (answer_of play.reader) })
next_parts play unsaid parts =
    let p = passes_next play.reader unsaid in
    record {
      done = parts.done ++ p.lines;
      whole = λ more.
          ap whole_lines (append_assoc parts.done p.lines more)
          ∙ (parts.whole (p.lines ++ more)
          ∙ (ap (λ (l : List ℕ). parts.done ++ l) (p.whole more)
          ∙ sym (append_assoc parts.done p.lines (whole_lines more))));
      taken = parts.taken ∙ (ap (λ (l : List ℕ). parts.done ++ l) p.held ∙ sym (append_assoc parts.done p.lines (after_next play.reader).held));
      asks = λ more.
          with_more play.answered (events_in (answer_of play.reader)) (ahead (after_next play.reader) more)
          ∙ (ap (with_events play.answered) (sym (p.asks more))
          ∙ (parts.asks (p.lines ++ more)
          ∙ ap input_of (sym (append_assoc parts.done p.lines more))));
    }

play_parts : (calls : List Call) → (play_of calls).reader.finished ≡ false → Parts (play_of calls)
unfolding play_of
play_parts [] unsaid = record { done = []; whole = λ more. refl; taken = refl; asks = λ more. refl }
play_parts (takes bytes ∷ calls) unsaid = go (play_of calls).reader.finished refl unsaid (λ o. play_parts calls o)
  where
    go : (f : Bool) → (play_of calls).reader.finished ≡ f
        → (after_bytes (play_of calls).reader.finished bytes (play_of calls)).reader.finished ≡ false
        → ((play_of calls).reader.finished ≡ false → Parts (play_of calls))
        → Parts (after_bytes (play_of calls).reader.finished bytes (play_of calls))
    go true e o before = let closed : (play_of calls).reader.finished ≡ false = rw e at o in cc
    go false e o before = rw e (more_parts (play_of calls) bytes (before e))
play_parts (ends ∷ calls) unsaid = cc
play_parts (asks ∷ calls) unsaid =
    let o : (play_of calls).reader.finished ≡ false = sym (next_finished (play_of calls).reader) ∙ unsaid in
    next_parts (play_of calls) o (play_parts calls o)

known_known : (start b : ℕ) (bytes : List ℕ) → known_line false start (b ∷ bytes) ≡ None → has_feed (b ∷ bytes) ≡ false
known_known start b bytes unknown = go (has_feed (b ∷ bytes)) refl
  where
    go : (t : Bool) → has_feed (b ∷ bytes) ≡ t → has_feed (b ∷ bytes) ≡ false
    go false e = e
    go true e = let k : None ≡ Some (line_at start (b ∷ bytes)) = sym unknown ∙ known_feed false start (b ∷ bytes) e in cc

no_feed : (start : ℕ) (line : List ℕ) → known_line false start line ≡ None → has_feed line ≡ false
no_feed start [] unknown = refl
no_feed start (b ∷ bytes) unknown = known_known start b bytes unknown

-- a reader that waits holds no line feed
waits_no_feed : (r : Reader) → IsWaiting r → has_feed r.held ≡ false
waits_no_feed r waiting =
    let k : known_line false r.start (first_line r.held) ≡ None = ap (λ (f : Bool). known_line f r.start (first_line r.held)) (sym waiting.1) ∙ (sym (front_is r) ∙ waiting.0) in
    (first_all r.held (no_feed r.start (first_line r.held) k)).1

ahead_none : (r : Reader) → ahead r [] ≡ record { events = []; bad = None }
unfolding input_from
ahead_none r = rw lines_nothing refl

-- the events answered are those of the whole lines taken
pub play_whole : (calls : List Call) → IsWaiting (play_of calls).reader
    → input_of (whole_lines (play_of calls).taken) ≡ record { events = (play_of calls).answered; bad = None }
play_whole calls waiting =
    let play = play_of calls in
    let parts = play_parts calls waiting.1 in
    let none : whole_lines play.reader.held ≡ [] = whole_none play.reader.held (waits_no_feed play.reader waiting) in
    let lines : whole_lines play.taken ≡ parts.done ++ [] = ap whole_lines parts.taken ∙ (parts.whole play.reader.held ∙ ap (λ (l : List ℕ). parts.done ++ l) none) in
    ap input_of lines
    ∙ (sym (parts.asks [])
    ∙ (ap (with_events play.answered) (ahead_none play.reader)
    ∙ ap (λ (events : List Event). record { events = events; bad = None }) (append-nil play.answered)))
