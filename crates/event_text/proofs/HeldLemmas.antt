-- Lemmas on the line that a reader holds.
use Rattle.std.proofs.Common.{◌≡◌, ℕ, zero, suc, ◌+◌, ◌-◌, ◌<◌, ◌≤◌, ◌==◌, ◌||◌, List, [], ◌∷◌, ◌++◌, length, take, drop, get_or, refl, ap, sym, ◌∙◌, arith, true, false, Bool, Option, Some, None, append-nil}
use Rattle.std.proofs.lemmas.Grind.{common_steps}
use Rattle.std.proofs.lemmas.Bool.Decides.{nat_tests}
use Rattle.std.specs.List.{onto_first}
use Rattle.std.proofs.lemmas.List.Folds.{list_any_at}
use Rattle.std.specs.Prelude.{nat_lt, ◌&&◌, not}
use Rattle.event_text.specs.declared.event.Line.{Line}
use Rattle.event_text.specs.declared.event.Line.TheVariants.{Blank, Bad}
use Rattle.event_text.specs.declared.event.NextEvent.TheVariants.{More, Bad as NextBad}
use Rattle.event_text.specs.Lines.{lines_of, is_last}
use Rattle.event_text.specs.EventFile.{is_over, is_long, is_far, line_at}
use Rattle.xk_base.specs.declared.limits.TheConstants.{EVENT_FILE_LIMIT}
use Rattle.event_text.specs.Held.{Reader, first_line, first_of, has_feed, can_grow, with_bytes, is_good, known_line, front_of, known_bad, is_whole, past_line, past_blanks, past_blanks_by, if_blank, answer_by, answer_of, past_event, after_next, rest_answer}

pub first_none : first_line [] ≡ []
unfolding first_line lines_of
first_none = refl

first_onto : (b : ℕ) (lines : List (List ℕ)) → first_of (onto_first b lines) ≡ b ∷ first_of lines
first_onto b [] = refl
first_onto b (line ∷ lines) = refl

pub first_feed : (bytes : List ℕ) → first_line (10 ∷ bytes) ≡ 10 ∷ []
unfolding first_line lines_of
first_feed bytes = refl

pub first_other : (b : ℕ) (bytes : List ℕ) → (b == 10) ≡ false → first_line (b ∷ bytes) ≡ b ∷ first_line bytes
unfolding first_line lines_of
first_other b bytes other = rw other (first_onto b (lines_of bytes))

other_of : (b : ℕ) (bytes : List ℕ) → has_feed (b ∷ bytes) ≡ false → (b == 10) ≡ false
other_of b bytes none = grind (arith, nat_tests)

rest_of_none : (b : ℕ) (bytes : List ℕ) → has_feed (b ∷ bytes) ≡ false → has_feed bytes ≡ false
rest_of_none b bytes none = grind (arith, nat_tests)

-- bytes without a line feed are of one line
pub one_line_none : (bytes : List ℕ) → has_feed bytes ≡ false → first_line bytes ≡ bytes
one_line_none [] none = first_none
one_line_none (b ∷ bytes) none =
    first_other b bytes (other_of b bytes none) ∙ ap (λ (l : List ℕ). b ∷ l) (one_line_none bytes (rest_of_none b bytes none))

-- .. and so they are with one byte more
pub one_line_more : (bytes : List ℕ) (byte : ℕ) → has_feed bytes ≡ false → first_line (bytes ++ byte ∷ []) ≡ bytes ++ byte ∷ []
unfolding first_line lines_of
one_line_more [] byte none = go (byte == 10) refl
  where
    go : (t : Bool) → (byte == 10) ≡ t → first_line (byte ∷ []) ≡ byte ∷ []
    go true e = rw e refl
    go false e = rw e refl
one_line_more (b ∷ bytes) byte none =
    first_other b (bytes ++ byte ∷ []) (other_of b bytes none)
    ∙ ap (λ (l : List ℕ). b ∷ l) (one_line_more bytes byte (rest_of_none b bytes none))

-- nothing is known where no byte is held
pub front_empty : (r : Reader) → r.held ≡ [] → front_of r ≡ None
unfolding front_of known_line
front_empty r e = rw (e, first_none) refl

-- a line with its line feed is known
pub known_feed : (finished : Bool) (start : ℕ) (line : List ℕ) → has_feed line ≡ true → known_line finished start line ≡ Some (line_at start line)
unfolding known_line
known_feed finished start [] feed = cc
known_feed true start (b ∷ line) feed = refl
known_feed false start (b ∷ line) feed = rw feed refl

-- of a line with its line feed something is known
pub front_feed : (r : Reader) → first_line r.held ≡ r.held → has_feed r.held ≡ true → front_of r ≡ Some (line_at r.start r.held)
unfolding front_of
front_feed r one feed = rw one (known_feed r.finished r.start r.held feed)

known_not_over : (finished : Bool) (start : ℕ) (line : List ℕ) → known_line finished start line ≡ None → is_over start line ≡ false
unfolding known_line
known_not_over finished start [] none = refl
known_not_over true start (b ∷ line) none = cc
known_not_over false start (b ∷ line) none = go (has_feed (b ∷ line)) refl (is_over start (b ∷ line)) refl
  where
    go : (t : Bool) → has_feed (b ∷ line) ≡ t → (o : Bool) → is_over start (b ∷ line) ≡ o → is_over start (b ∷ line) ≡ false
    go true e o f = cc
    go false e true f = cc
    go false e false f = f

-- where nothing is known, the line isn't too long
pub front_not_over : (r : Reader) → first_line r.held ≡ r.held → front_of r ≡ None → is_over r.start r.held ≡ false
unfolding front_of
front_not_over r one none = known_not_over r.finished r.start r.held (rw one at none)

-- a good line isn't empty and ends within the greatest file
pub record Within (start : ℕ) (line : List ℕ) : Type 0 where
  pub some : 0 < length line
  pub within : start + length line ≤ EVENT_FILE_LIMIT

and_false : (n m limit : ℕ) → (nat_lt 0 n && nat_lt limit m) ≡ false → 0 < n → m ≤ limit
and_false n m limit none some = grind (arith, nat_tests)

or_false : (a b : Bool) → (a || b) ≡ false → (a ≡ false) × (b ≡ false)
or_false true b none = cc
or_false false b none = (refl, none)

over_false : (start : ℕ) (line : List ℕ) → 0 < length line → is_over start line ≡ false → start + length line ≤ EVENT_FILE_LIMIT
over_false start line some none =
    and_false (length line) (start + length line) EVENT_FILE_LIMIT (or_false (is_long line) (is_far start line) none).1 some

known_good : (finished : Bool) (start : ℕ) (line : List ℕ) → is_good (known_line finished start line) ≡ true → Within start line
unfolding known_line line_at
known_good finished start [] good = cc
known_good finished start (b ∷ line) good = go (is_whole finished (b ∷ line)) refl (is_over start (b ∷ line)) refl
  where
    go : (w : Bool) → is_whole finished (b ∷ line) ≡ w → (o : Bool) → is_over start (b ∷ line) ≡ o → Within start (b ∷ line)
    go true e true f = let g = rw (e, f) at good in cc
    go true e false f = record { some = omega arith; within = over_false start (b ∷ line) (omega arith) f }
    go false e true f = let g = rw (e, f) at good in cc
    go false e false f = let g = rw (e, f) at good in cc

pub front_good : (r : Reader) → first_line r.held ≡ r.held → is_good (front_of r) ≡ true → Within r.start r.held
unfolding front_of
front_good r one good = known_good r.finished r.start r.held (rw one at good)

pub last_feed : (line : List ℕ) → has_feed line ≡ false → is_last 10 line ≡ false
last_feed line none = go (is_last 10 line) refl
  where
    go : (t : Bool) → is_last 10 line ≡ t → is_last 10 line ≡ false
    go false e = e
    go true e =
        let bound : length line - 1 < length line = grind (arith, nat_tests) in
        let there : (get_or line (length line - 1) 0 == 10) ≡ true = grind (arith, nat_tests) in
        let found = list_any_at (λ b. b == 10) line (length line - 1) 0 bound there in
        cc

long_false : (line : List ℕ) → has_feed line ≡ false → is_long line ≡ false → length line ≤ 64
long_false line none short =
    let e : nat_lt 64 (length line) ≡ false = rw (last_feed line none) at short in
    grind (arith, nat_tests)

-- where nothing is known of a line without its line feed, it has at most 64 bytes
pub front_short : (r : Reader) → first_line r.held ≡ r.held → has_feed r.held ≡ false → front_of r ≡ None → length r.held ≤ 64
front_short r one none unknown =
    long_false r.held none (or_false (is_long r.held) (is_far r.start r.held) (front_not_over r one unknown)).0

no_feed_unknown : (r : Reader) → first_line r.held ≡ r.held → front_of r ≡ None → has_feed r.held ≡ false
no_feed_unknown r one unknown = go (has_feed r.held) refl
  where
    go : (t : Bool) → has_feed r.held ≡ t → has_feed r.held ≡ false
    go false e = e
    go true e = let known = front_feed r one e in cc

-- where nothing is known of the line held, it can have one byte more
pub room_unknown : (r : Reader) → first_line r.held ≡ r.held → front_of r ≡ None → can_grow r ≡ true
room_unknown r one unknown =
    let none = no_feed_unknown r one unknown in
    let short = front_short r one none unknown in
    rw (last_feed r.held none) (grind (arith, nat_tests))

-- a reader that takes nothing knows something of the line held
pub takes_some : (r r' : Reader) (taken : ℕ) (piece : List ℕ) → r' ≡ with_bytes r (take taken piece) → first_line r'.held ≡ r'.held → can_grow r' ≡ false → front_of r ≡ None → 0 < taken
takes_some r r' zero piece e one full unknown =
    let same : r' ≡ r = e ∙ ap (λ (held : List ℕ). record { lines_done = r.lines_done; start = r.start; held = held; finished = r.finished }) (append-nil r.held) in
    let known : front_of r' ≡ None = ap front_of same ∙ unknown in
    let room = room_unknown r' one known in
    cc
takes_some r r' (suc taken) piece e one full unknown = omega arith

tail_same : (b : ℕ) (xs ys : List ℕ) → b ∷ xs ≡ b ∷ ys → xs ≡ ys
tail_same b xs ys e = cc

last_tail : (b a : ℕ) (bytes : List ℕ) → is_last 10 (b ∷ a ∷ bytes) ≡ is_last 10 (a ∷ bytes)
last_tail b a bytes = grind (arith, common_steps)

-- a line that doesn't end with its line feed has none
no_feed_last : (bytes : List ℕ) → first_line bytes ≡ bytes → is_last 10 bytes ≡ false → has_feed bytes ≡ false
no_feed_last [] one last = refl
no_feed_last (b ∷ []) one last = grind (arith, nat_tests)
no_feed_last (b ∷ a ∷ bytes) one last =
    go (λ rest. no_feed_last (a ∷ bytes) rest (sym (last_tail b a bytes) ∙ last)) (b == 10) refl
  where
    go : (first_line (a ∷ bytes) ≡ a ∷ bytes → has_feed (a ∷ bytes) ≡ false) → (t : Bool) → (b == 10) ≡ t → has_feed (b ∷ a ∷ bytes) ≡ false
    go shorter true e =
        let ten : b ≡ 10 = grind (arith, nat_tests) in
        let cut : 10 ∷ [] ≡ 10 ∷ a ∷ bytes = sym (first_feed (a ∷ bytes)) ∙ rw ten at one in
        cc
    go shorter false e =
        let rest : first_line (a ∷ bytes) ≡ a ∷ bytes = tail_same b (first_line (a ∷ bytes)) (a ∷ bytes) (sym (first_other b (a ∷ bytes) e) ∙ one) in
        rw e (shorter rest)

and_true : (a b : Bool) → (a && b) ≡ true → (a ≡ true) × (b ≡ true)
and_true true b e = (refl, e)
and_true false b e = cc

not_true : (a : Bool) → not a ≡ true → a ≡ false
not_true true e = cc
not_true false e = refl

-- what is held stays one line with one byte more, where it has room
pub room_one_line : (r : Reader) (byte : ℕ) → first_line r.held ≡ r.held → can_grow r ≡ true → first_line (r.held ++ byte ∷ []) ≡ r.held ++ byte ∷ []
room_one_line r byte one room =
    one_line_more r.held byte (no_feed_last r.held one (not_true (is_last 10 r.held) (and_true (nat_lt (length r.held) 65) (not (is_last 10 r.held)) room).1))

pub rest_more : (finished : Bool) → rest_answer finished ≡ More → finished ≡ false
rest_more true e = cc
rest_more false e = refl

stays : (lines : List (List ℕ)) (r : Reader) → r.held ≡ [] → past_blanks_by lines r ≡ r
unfolding past_blanks_by
stays [] r none = refl
stays (line ∷ lines) r none = rw (front_empty r none) refl

-- behind its one line a reader holds nothing
pub past_holds : (r : Reader) → first_line r.held ≡ r.held → drop (length (first_line r.held)) r.held ≡ []
past_holds r one = rw one (grind (arith, common_steps))

pub first_lines : (held : List ℕ) → lines_of held ≡ [] → first_line held ≡ []
unfolding first_line
first_lines held e = rw e refl

past_by : (lines : List (List ℕ)) (r : Reader) → lines_of r.held ≡ lines → first_line r.held ≡ r.held → past_blanks_by lines r ≡ if_blank (front_of r) (past_line r) r
unfolding past_blanks_by
past_by [] r e one = rw (front_empty r (sym one ∙ first_lines r.held e)) refl
past_by (line ∷ lines) r e one = ap (λ (past : Reader). if_blank (front_of r) past r) (stays lines (past_line r) (past_holds r one))

-- a reader that holds one line passes it where it is good and no event
past_one : (r : Reader) → first_line r.held ≡ r.held → past_blanks r ≡ if_blank (front_of r) (past_line r) r
unfolding past_blanks
past_one r one = past_by (lines_of r.held) r refl one

answer_at : (r past : Reader) (l : Option Line) → past_blanks r ≡ past → front_of past ≡ l → answer_of r ≡ answer_by l past
answer_at r past l e f = rw (e, f) refl

after_at : (r past : Reader) (l : Option Line) → past_blanks r ≡ past → front_of past ≡ l → after_next r ≡ past_event l past
after_at r past l e f = rw (e, f) refl

past_as : (r : Reader) (l : Option Line) → first_line r.held ≡ r.held → front_of r ≡ l → past_blanks r ≡ if_blank l (past_line r) r
past_as r l one f = past_one r one ∙ ap (λ (l : Option Line). if_blank l (past_line r) r) f

-- what a reader of one line answers, by what is known of it
pub answer_here : (r : Reader) (l : Option Line) → first_line r.held ≡ r.held → front_of r ≡ l → if_blank l (past_line r) r ≡ r → answer_of r ≡ answer_by l r
answer_here r l one f same = answer_at r r l (past_as r l one f ∙ same) f

pub after_here : (r : Reader) (l : Option Line) → first_line r.held ≡ r.held → front_of r ≡ l → if_blank l (past_line r) r ≡ r → after_next r ≡ past_event l r
after_here r l one f same = after_at r r l (past_as r l one f ∙ same) f

pub front_past : (r : Reader) → first_line r.held ≡ r.held → front_of (past_line r) ≡ None
front_past r one = front_empty (past_line r) (past_holds r one)

pub answer_blank : (r : Reader) → first_line r.held ≡ r.held → front_of r ≡ Some Blank → answer_of r ≡ rest_answer r.finished
answer_blank r one f = answer_at r (past_line r) None (past_as r (Some Blank) one f) (front_past r one)

pub after_blank : (r : Reader) → first_line r.held ≡ r.held → front_of r ≡ Some Blank → after_next r ≡ past_line r
after_blank r one f = after_at r (past_line r) None (past_as r (Some Blank) one f) (front_past r one)

-- a reader that waits holds bytes of the greatest file
pub front_within : (r : Reader) → first_line r.held ≡ r.held → r.start ≤ EVENT_FILE_LIMIT → front_of r ≡ None → r.start + length r.held ≤ EVENT_FILE_LIMIT
front_within r one start unknown = go r.held (front_not_over r one unknown)
  where
    go : (held : List ℕ) → is_over r.start held ≡ false → r.start + length held ≤ EVENT_FILE_LIMIT
    go [] over = omega arith
    go (b ∷ held) over = over_false r.start (b ∷ held) (omega arith) over

same_number : (m n : ℕ) → NextBad m ≡ NextBad n → m ≡ n
same_number m n e = cc

-- the bad line that is answered is known
pub bad_known : (r : Reader) (number n : ℕ) → front_of r ≡ Some Bad → number ≡ r.lines_done + 1 → NextBad number ≡ NextBad n → known_bad r ≡ Some n
bad_known r number n known is bad = rw known (ap (λ (m : ℕ). Some m) (sym is ∙ same_number number n bad))
