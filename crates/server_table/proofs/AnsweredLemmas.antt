-- What searches over the seats find, said of the servers by serial.
use Rattle.std.proofs.Common.{◌≡◌, ℕ, zero, suc, ◌+◌, ◌<◌, ◌≤◌, ◌==◌, Bool, true, false, if◌then◌else◌, min, List, [], ◌∷◌, length, Option, Some, None, Ok, Err, is_some, is_none, refl, ap, sym, subst, ◌∙◌, ◌⊎◌, inl, inr, arith}
use Rattle.std.specs.Option.{option_map, option_and_then}
use Rattle.std.proofs.lemmas.Bool.{cases_lt, both_ways, false_from_ne_true, eq-eqb, ne_eqb, eqb-true, cond_both, cond-true, cond-false}
use Rattle.std.specs.List.{position, cons_option, filter_map, fold, reduce}
use Rattle.std.proofs.lemmas.List.Quantifiers.{position-Some}
use Rattle.std.proofs.lemmas.Option.{none-some, same_Some}
use Rattle.std.proofs.lemmas.Slice.Eq.{bytes_eq-Decides}
use Rattle.xk_base.specs.declared.errors.XousError.TheVariants.{ServerExists, InvalidLimit}
use Rattle.xk_base.specs.declared.ids.Pid.{Pid}
use Rattle.xk_base.specs.declared.ids.Sid.{Sid}
use Rattle.xk_base.specs.declared.limits.TheConstants.{SERVER_LIMIT}
use Rattle.xk_base.specs.Tables.Counting.{count_below, least_below}
use Rattle.xk_base.specs.Tables.RowMap.{row_map}
use Rattle.xk_base.proofs.CountingLemmas.{least_below-none, least_below-same, least_below-passes, count_below-bound}
use Rattle.server_table.specs.declared.table.ServerSeat.{ServerSeat}
use Rattle.server_table.specs.Seats.{seat_has_sid, by_serial, own_serial, AreApart, AreCounted}
use Rattle.xk_base.specs.Tables.Sids.{same_sid, is_sid, serial_of}
use Rattle.server_table.specs.ServerState.{ServerState, Server, has_seat, is_of, with_sid, least_of, least_serial, seat_view, at_seat, free_seat, live_count, made_answer}
use Rattle.server_table.proofs.SerialLemmas.{within, position_is_least, least_is, least_none, by_serial_is}

-- the servers of a list of seats
abbrev pub state : List (Option ServerSeat) → ℕ → ServerState
state xs next = record { next = next; live = by_serial xs }

-- two values of one seat are one
one_seat : (xs : List (Option ServerSeat)) (i j : ℕ) (a b : ServerSeat) → row_map xs i ≡ Some a → row_map xs j ≡ Some b → i ≡ j → a ≡ b
one_seat xs i j a b g h e = same_Some a b (sym g ∙ ap (row_map xs) e ∙ h)

-- ---- identifiers

abbrev has_sid : Sid → Option Server → Bool
has_sid sid server = is_sid sid (option_map (λ s. s.sid) server)

pub same_sid-sym : (a b : Sid) → same_sid a b ≡ true → same_sid b a ≡ true
same_sid-sym a b h = (bytes_eq-Decides b.0 a.0).1 (sym ((bytes_eq-Decides a.0 b.0).0 h))

same_sid-trans : (a b c : Sid) → same_sid a c ≡ true → same_sid b c ≡ true → same_sid a b ≡ true
same_sid-trans a b c g h = (bytes_eq-Decides a.0 b.0).1 ((bytes_eq-Decides a.0 c.0).0 g ∙ sym ((bytes_eq-Decides b.0 c.0).0 h))

pub with_sid_is : (xs : List (Option ServerSeat)) (next i : ℕ) (e : ServerSeat) (sid : Sid) → AreApart xs next → length xs ≡ SERVER_LIMIT
    → row_map xs i ≡ Some e → same_sid e.sid sid ≡ true → with_sid sid (state xs next) ≡ Some e.serial
with_sid_is xs next i e sid apart size here same =
    ap (option_map serial_of) (least_is xs next i e (has_sid sid) apart size refl here same
    (λ j b h t. let one : e ≡ b = one_seat xs i j e b here h (sym (apart.sids j i b e h here (same_sid-trans b.sid e.sid sid t same))) in
    let s : e.serial.0 ≡ b.serial.0 = ap (λ x. x.serial.0) one in omega arith))

pub with_sid_none : (xs : List (Option ServerSeat)) (next : ℕ) (sid : Sid)
    → ((j : ℕ) (b : ServerSeat) → row_map xs j ≡ Some b → same_sid b.sid sid ≡ false) → with_sid sid (state xs next) ≡ None
with_sid_none xs next sid none = ap (option_map serial_of) (least_none xs next (has_sid sid) refl none)

-- a seat that is found by an identifier has it ..
pub named : (xs : List (Option ServerSeat)) (sid : Sid) (i : ℕ) → position (seat_has_sid sid) xs ≡ Some i → seat_has_sid sid (row_map xs i) ≡ true
named xs sid i found = (position-Some (seat_has_sid sid) xs i None found).1

-- .. and where none is found, no server has it
pub unnamed : (xs : List (Option ServerSeat)) (next : ℕ) (sid : Sid) → length xs ≡ SERVER_LIMIT → position (seat_has_sid sid) xs ≡ None
    → with_sid sid (state xs next) ≡ None
unnamed xs next sid size none =
    let least : least_below SERVER_LIMIT (λ i. seat_has_sid sid (row_map xs i)) ≡ None = sym (position_is_least (seat_has_sid sid) xs SERVER_LIMIT size) ∙ none in
    with_sid_none xs next sid (λ j b h.
    let l : j < length xs = within xs j b h in
    sym (ap (seat_has_sid sid) h) ∙ least_below-none SERVER_LIMIT (λ i. seat_has_sid sid (row_map xs i)) least j (omega arith))

-- an identifier that finds nothing is at no seat
pub fresh_sid : (xs : List (Option ServerSeat)) (next : ℕ) (sid : Sid) → AreApart xs next → length xs ≡ SERVER_LIMIT → with_sid sid (state xs next) ≡ None
    → (j : ℕ) (b : ServerSeat) → row_map xs j ≡ Some b → same_sid b.sid sid ≡ false
fresh_sid xs next sid apart size none j b h = false_from_ne_true (same_sid b.sid sid) (λ t.
    none-some b.serial (sym none ∙ with_sid_is xs next j b sid apart size h t))

pub fresh_sid' : (xs : List (Option ServerSeat)) (next : ℕ) (sid : Sid) → AreApart xs next → length xs ≡ SERVER_LIMIT → with_sid sid (state xs next) ≡ None
    → (j : ℕ) (b : ServerSeat) → row_map xs j ≡ Some b → same_sid sid b.sid ≡ false
fresh_sid' xs next sid apart size none j b h = false_from_ne_true (same_sid sid b.sid) (λ t.
    both_ways (same_sid b.sid sid) (fresh_sid xs next sid apart size none j b h) (same_sid-sym sid b.sid t))

-- ---- seats

pub at_seat_is : (xs : List (Option ServerSeat)) (next seat : ℕ) → AreApart xs next → length xs ≡ SERVER_LIMIT → at_seat seat (state xs next) ≡ row_map xs seat
at_seat_is xs next seat apart size = go (row_map xs seat) refl
  where
    go : (o : Option ServerSeat) → row_map xs seat ≡ o → at_seat seat (state xs next) ≡ row_map xs seat
    go None q =
        ap (option_and_then (λ n. option_map (seat_view n) (by_serial xs n)))
        (least_none xs next (has_seat seat) refl (λ j b h. ne_eqb j seat (λ e. none-some b (sym q ∙ sym (ap (row_map xs) e) ∙ h))))
        ∙ sym q
    go (Some e) q =
        ap (option_and_then (λ n. option_map (seat_view n) (by_serial xs n)))
        (least_is xs next seat e (has_seat seat) apart size refl q (eq-eqb seat seat refl)
        (λ j b h t. let one : e ≡ b = one_seat xs seat j e b q h (sym (eqb-true j seat t)) in
        let s : e.serial.0 ≡ b.serial.0 = ap (λ x. x.serial.0) one in omega arith))
        ∙ ap (option_map (seat_view e.serial.0)) (by_serial_is xs next seat e apart size q)
        ∙ sym q

pub free_seat_is : (xs : List (Option ServerSeat)) (next : ℕ) → AreApart xs next → length xs ≡ SERVER_LIMIT
    → free_seat (state xs next) ≡ least_below SERVER_LIMIT (λ i. is_none (row_map xs i))
free_seat_is xs next apart size =
    least_below-same SERVER_LIMIT (λ i. is_none (at_seat i (state xs next))) (λ i. is_none (row_map xs i)) (λ i l. ap is_none (at_seat_is xs next i apart size))

all_counted : (n : ℕ) (f : ℕ → Bool) → ((k : ℕ) → k < n → f k ≡ true) → count_below n f ≡ n
unfolding count_below
all_counted zero f h = refl
all_counted (suc n) f h =
    let before : count_below n f ≡ n = all_counted n f (λ k l. h k (omega arith)) in
    rw (before, h n (omega arith)) (omega arith)

not_all_counted : (n k : ℕ) (f : ℕ → Bool) → k < n → f k ≡ false → count_below n f < n
unfolding count_below
not_all_counted zero k f l h = absurd (omega arith)
not_all_counted (suc n) k f l h = elim (cases_lt k n) [
  | inl below ↦ let before : count_below n f < n = not_all_counted n k f below h in
      cond_both (f n) 1 0 (λ x. count_below n f + x < suc n) (λ e. omega arith) (λ e. omega arith)
  | inr above ↦ let here : f n ≡ false = subst (λ i. f i ≡ false) (let same : k ≡ n = omega arith in same) h in
      let bound : count_below n f ≤ n = count_below-bound n f in
      rw here (omega arith)
]

taken_seat : (o : Option ServerSeat) → is_none o ≡ false → is_some o ≡ true
taken_seat None h = absurd (both_ways true h refl)
taken_seat (Some e) h = refl

empty_seat : (o : Option ServerSeat) → is_none o ≡ true → is_some o ≡ false
empty_seat None h = refl
empty_seat (Some e) h = absurd (both_ways false refl h)

-- where no seat is empty the greatest number of servers is alive ..
pub full : (xs : List (Option ServerSeat)) (next : ℕ) → AreCounted xs next → ((i : ℕ) → i < SERVER_LIMIT → is_none (row_map xs i) ≡ false)
    → (live_count (state xs next) == SERVER_LIMIT) ≡ true
full xs next counted none =
    eq-eqb (live_count (state xs next)) SERVER_LIMIT
    (counted ∙ all_counted SERVER_LIMIT (λ i. is_some (row_map xs i)) (λ i l. taken_seat (row_map xs i) (none i l)))

-- .. and where one is, it isn't
pub not_full : (xs : List (Option ServerSeat)) (next i : ℕ) → AreCounted xs next → i < SERVER_LIMIT → is_none (row_map xs i) ≡ true
    → (live_count (state xs next) == SERVER_LIMIT) ≡ false
not_full xs next i counted l empty =
    let fewer : count_below SERVER_LIMIT (λ j. is_some (row_map xs j)) < SERVER_LIMIT =
    not_all_counted SERVER_LIMIT i (λ j. is_some (row_map xs j)) l (empty_seat (row_map xs i) empty) in
    let same : live_count (state xs next) ≡ count_below SERVER_LIMIT (λ j. is_some (row_map xs j)) = counted in
    ne_eqb (live_count (state xs next)) SERVER_LIMIT (λ e. omega arith)

-- the seat that is found empty is
pub empty_is : (xs : List (Option ServerSeat)) (i : ℕ) → least_below SERVER_LIMIT (λ j. is_none (row_map xs j)) ≡ Some i → row_map xs i ≡ None
empty_is xs i h = go (row_map xs i) (least_below-passes SERVER_LIMIT (λ j. is_none (row_map xs j)) i h)
  where
    go : (o : Option ServerSeat) → is_none o ≡ true → o ≡ None
    go None t = refl
    go (Some e) t = absurd (both_ways false refl t)

no_value : {X : Type 0} (o : Option X) → is_some o ≡ false → o ≡ None
no_value None h = refl
no_value (Some x) h = absurd (both_ways true h refl)

pub with_sid_missing : (sid : Sid) (s : ServerState) → is_some (with_sid sid s) ≡ false → with_sid sid s ≡ None
with_sid_missing sid s h = no_value (with_sid sid s) h

-- ---- the answer to a new server

pub answer_limit : (sid : Sid) (s : ServerState) → is_some (with_sid sid s) ≡ false → (live_count s == SERVER_LIMIT) ≡ true → made_answer sid s ≡ Err InvalidLimit
answer_limit sid s new many =
    cond-false (is_some (with_sid sid s)) (Err ServerExists) (if live_count s == SERVER_LIMIT then Err InvalidLimit else Ok (serial_of s.next)) new
    ∙ cond-true (live_count s == SERVER_LIMIT) (Err InvalidLimit) (Ok (serial_of s.next)) many

pub answer_ok : (sid : Sid) (s : ServerState) → is_some (with_sid sid s) ≡ false → (live_count s == SERVER_LIMIT) ≡ false → made_answer sid s ≡ Ok (serial_of s.next)
answer_ok sid s new few =
    cond-false (is_some (with_sid sid s)) (Err ServerExists) (if live_count s == SERVER_LIMIT then Err InvalidLimit else Ok (serial_of s.next)) new
    ∙ cond-false (live_count s == SERVER_LIMIT) (Err InvalidLimit) (Ok (serial_of s.next)) few

-- ---- the least server of a process

-- a server of the process with the number m as its serial stands among the seats
record Found (xs : List (Option ServerSeat)) (pid : Pid) (m : ℕ) : Type 0 where
  seat : ℕ
  server : ServerSeat
  here : row_map xs seat ≡ Some server
  number : server.serial.0 ≡ m
  of : (server.pid.0 == pid.0) ≡ true

-- m is no more than the serial of any server of the process among the seats
abbrev IsBelow : List (Option ServerSeat) → Pid → ℕ → Type 0
IsBelow xs pid m = (j : ℕ) (b : ServerSeat) → row_map xs j ≡ Some b → (b.pid.0 == pid.0) ≡ true → m ≤ b.serial.0

-- no server of the process stands among the seats
abbrev HasNone : List (Option ServerSeat) → Pid → Type 0
HasNone xs pid = (j : ℕ) (b : ServerSeat) → row_map xs j ≡ Some b → (b.pid.0 == pid.0) ≡ false

-- one seat more in front
found_behind : (x : Option ServerSeat) (xs : List (Option ServerSeat)) (pid : Pid) (m : ℕ) → Found xs pid m → Found (x ∷ xs) pid m
found_behind x xs pid m f = record { seat = suc f.seat; server = f.server; here = f.here; number = f.number; of = f.of }

below_behind : (x : Option ServerSeat) (xs : List (Option ServerSeat)) (pid : Pid) (m : ℕ) → ((b : ServerSeat) → x ≡ Some b → (b.pid.0 == pid.0) ≡ true → m ≤ b.serial.0)
    → IsBelow xs pid m → IsBelow (x ∷ xs) pid m
below_behind x xs pid m first rest zero b e t = first b e t
below_behind x xs pid m first rest (suc j) b e t = rest j b e t

none_behind : (x : Option ServerSeat) (xs : List (Option ServerSeat)) (pid : Pid) → ((b : ServerSeat) → x ≡ Some b → (b.pid.0 == pid.0) ≡ false)
    → HasNone xs pid → HasNone (x ∷ xs) pid
none_behind x xs pid first rest zero b e = first b e
none_behind x xs pid first rest (suc j) b e = rest j b e

-- the least of a number and of the serials of the process
record IsLow (xs : List (Option ServerSeat)) (pid : Pid) (a m : ℕ) : Type 0 where
  low : m ≤ a
  reached : (m ≡ a) ⊎ Found xs pid m
  below : IsBelow xs pid m

low_behind : (x : Option ServerSeat) (xs : List (Option ServerSeat)) (pid : Pid) (a m : ℕ) → ((b : ServerSeat) → x ≡ Some b → (b.pid.0 == pid.0) ≡ false)
    → IsLow xs pid a m → IsLow (x ∷ xs) pid a m
low_behind x xs pid a m other l = record {
  low = l.low;
  reached = elim l.reached [
    | inl same ↦ inl same
    | inr found ↦ inr (found_behind x xs pid m found)
  ];
  below = below_behind x xs pid m (λ b e t. absurd (both_ways (b.pid.0 == pid.0) (other b e) t)) l.below;
}

folded_low : (pid : Pid) (xs : List (Option ServerSeat)) (a : ℕ) → IsLow xs pid a (fold min a (filter_map (own_serial pid) xs))
folded_low pid [] a = record { low = omega arith; reached = inl refl; below = λ j b e t. absurd (none-some b e) }
folded_low pid (None ∷ xs) a = low_behind None xs pid a (fold min a (filter_map (own_serial pid) xs)) (λ b e. absurd (none-some b e)) (folded_low pid xs a)
folded_low pid (Some s ∷ xs) a = go (s.pid.0 == pid.0) refl (folded_low pid xs)
  where
    rest : List ℕ
    rest = filter_map (own_serial pid) xs

    go : (c : Bool) → (s.pid.0 == pid.0) ≡ c → ((n : ℕ) → IsLow xs pid n (fold min n rest)) → IsLow (Some s ∷ xs) pid a (fold min a (cons_option (if c then Some s.serial.0 else None) rest))
    go false q lower = low_behind (Some s) xs pid a (fold min a rest) (λ b e. ap (λ x. x.pid.0 == pid.0) (sym (same_Some s b e)) ∙ q) (lower a)
    go true q lower =
        let l : IsLow xs pid (min a s.serial.0) (fold min (min a s.serial.0) rest) = lower (min a s.serial.0) in
        let least : fold min (min a s.serial.0) rest ≤ min a s.serial.0 = l.low in
        record {
          low = omega arith;
          reached = elim l.reached [
            | inl same ↦ elim (cases_lt a s.serial.0) [
              | inl less ↦ inl (omega arith)
              | inr other ↦ inr (record { seat = 0; server = s; here = refl; number = omega arith; of = q })
            ]
            | inr found ↦ inr (found_behind (Some s) xs pid (fold min (min a s.serial.0) rest) found)
          ];
          below = below_behind (Some s) xs pid (fold min (min a s.serial.0) rest)
              (λ b e t. let same : s.serial.0 ≡ b.serial.0 = ap (λ x. x.serial.0) (same_Some s b e) in omega arith) l.below;
        }

-- the least of the serials of the process, if there is one
abbrev IsLeastOf : List (Option ServerSeat) → Pid → Option ℕ → Type 0
IsLeastOf xs pid None = HasNone xs pid
IsLeastOf xs pid (Some m) = Found xs pid m × IsBelow xs pid m

reduced_least : (pid : Pid) (xs : List (Option ServerSeat)) → IsLeastOf xs pid (reduce min (filter_map (own_serial pid) xs))
reduced_least pid [] = λ j b e. absurd (none-some b e)
reduced_least pid (x ∷ xs) = first x refl (reduced_least pid xs)
  where
    passed : (o : Option ℕ) → ((b : ServerSeat) → x ≡ Some b → (b.pid.0 == pid.0) ≡ false) → IsLeastOf xs pid o → IsLeastOf (x ∷ xs) pid o
    passed None other none = none_behind x xs pid other none
    passed (Some m) other least =
        (found_behind x xs pid m least.0, below_behind x xs pid m (λ b e t. absurd (both_ways (b.pid.0 == pid.0) (other b e) t)) least.1)

    first : (y : Option ServerSeat) → x ≡ y → IsLeastOf xs pid (reduce min (filter_map (own_serial pid) xs)) → IsLeastOf (x ∷ xs) pid (reduce min (cons_option (own_serial pid y) (filter_map (own_serial pid) xs)))
    first None e least = passed (reduce min (filter_map (own_serial pid) xs)) (λ b g. absurd (none-some b (sym e ∙ g))) least
    first (Some s) e least = go (s.pid.0 == pid.0) refl
      where
        rest : List ℕ
        rest = filter_map (own_serial pid) xs

        go : (c : Bool) → (s.pid.0 == pid.0) ≡ c → IsLeastOf (x ∷ xs) pid (reduce min (cons_option (if c then Some s.serial.0 else None) rest))
        go false q = passed (reduce min rest) (λ b g. ap (λ y. y.pid.0 == pid.0) (sym (same_Some s b (sym e ∙ g))) ∙ q) least
        go true q =
            let l : IsLow xs pid s.serial.0 (fold min s.serial.0 rest) = folded_low pid xs s.serial.0 in
            let low : fold min s.serial.0 rest ≤ s.serial.0 = l.low in (
              elim l.reached [
                | inl same ↦ record { seat = 0; server = s; here = e; number = sym same; of = q }
                | inr found ↦ found_behind x xs pid (fold min s.serial.0 rest) found
              ],
              below_behind x xs pid (fold min s.serial.0 rest)
                  (λ b g t. let one : s.serial.0 ≡ b.serial.0 = ap (λ y. y.serial.0) (same_Some s b (sym e ∙ g)) in omega arith) l.below,
            )

-- .. is that of the least server of the process
pub least_of_is : (xs : List (Option ServerSeat)) (next : ℕ) (pid : Pid) → AreApart xs next → length xs ≡ SERVER_LIMIT
    → least_of pid (state xs next) ≡ option_map serial_of (reduce min (filter_map (own_serial pid) xs))
least_of_is xs next pid apart size = ap (option_map serial_of) (go (reduce min (filter_map (own_serial pid) xs)) (reduced_least pid xs))
  where
    go : (o : Option ℕ) → IsLeastOf xs pid o → least_serial (is_of pid) (state xs next) ≡ o
    go None none = least_none xs next (is_of pid) refl none
    go (Some m) least =
        let f = least.0 in
        let low : IsBelow xs pid m = least.1 in
        least_is xs next f.seat f.server (is_of pid) apart size refl f.here f.of
        (λ j b g t. let no_more : m ≤ b.serial.0 = low j b g t in let same : f.server.serial.0 ≡ m = f.number in omega arith)
        ∙ ap Some f.number
