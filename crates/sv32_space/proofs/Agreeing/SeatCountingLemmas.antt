-- There are as many used seats as pages and orphans.
use Rattle.std.proofs.Common.{◌≡◌, ℕ, zero, suc, ◌+◌, ◌-◌, ◌*◌, ◌<◌, ◌≤◌, Bool, true, false, not, ◌&&◌, ◌||◌, Option, Some, None, refl, sym, ap, subst, ◌∙◌, inl, inr, arith}
use Rattle.std.specs.Prelude.{is_some, nat_lt, ◌==◌}
use Rattle.std.specs.Option.{option_and_then}
use Rattle.std.proofs.lemmas.Bool.{cases_Bool, cases_lt, cond-true, cond-false, and_from, eq-eqb, ne_eqb, lt-ltb, both_ways, false≢true}
use Rattle.std.proofs.lemmas.Bool.Decides.{nat_tests}
use Rattle.xk_base.specs.declared.ids.Place.{Place}
use Rattle.xk_base.specs.Tables.Counting.{count_below}
use Rattle.xk_base.proofs.CountingLemmas.{count_below-one}
use Rattle.phys_pages.specs.declared.infos.LoanInfo.{LoanInfo}
use Rattle.phys_pages.specs.declared.infos.PageInfo.{PageInfo}
use Rattle.phys_pages.specs.declared.infos.Seat.{Seat}
use Rattle.phys_pages.specs.declared.infos.Seat.TheVariants.{Frame, Slot}
use Rattle.phys_pages.specs.Owners.{Extent, HasSeat, frame_seat, slot_seat}
use Rattle.ledger_model.specs.Ledger.{Ledger, is_counted, pages}
use Rattle.ledger_model.specs.Places.{count_places, is_user_place, place_at}
use Rattle.ledger_model.proofs.LedgerLemmas.{cases_Option}
use Rattle.ledger_model.proofs.Loans.NumberingLemmas.{number_of, number_of-place_at, number_of-bound, place_at-number_of, count_places-split, count_places-same}
use Rattle.sv32_space.specs.declared.sides.Side.TheVariants.{Own}
use Rattle.sv32_space.specs.Agreement.{Infos, EntriesAgree, lender_side, holder_side, right_in, seat_in, is_nobody}
use Rattle.sv32_space.specs.declared.sides.Entry.{Entry}
use Rattle.sv32_space.specs.declared.sides.Entry.TheVariants.{At}
use Rattle.sv32_space.specs.Entries.{Entries}
use Rattle.sv32_space.specs.EntryLedger.{SeatBytes, IsWellPlaced, ledger_of, orphan_of_loan, orphan_of_info, table_seat, used_seats}
use Rattle.sv32_space.specs.StandsFor.{has_page}
use Rattle.sv32_space.proofs.Agreeing.StandingLemmas.{name_in, page_info, seats_differ, well_placed}
use Rattle.sv32_space.proofs.Ledgers.EntryLedgerLemmas.{home_at, orphan_at, orphan_of_holder}
use Rattle.sv32_space.proofs.Ledgers.LoanLedgerLemmas.{lent_page}

-- ---- what one test counts, another counts at other numbers

-- each number that passes goes to a number of its own that passes
pub count_into : (m n : ℕ) (f g : ℕ → Bool) (to : ℕ → ℕ)
    → ((k : ℕ) → k < m → f k ≡ true → to k < n)
    → ((k : ℕ) → k < m → f k ≡ true → g (to k) ≡ true)
    → ((j k : ℕ) → j < m → k < m → f j ≡ true → f k ≡ true → to j ≡ to k → j ≡ k)
    → count_below m f ≤ count_below n g
unfolding count_below
count_into zero n f g to low passes apart = omega arith
count_into (suc m) n f g to low passes apart = elim (cases_Bool (f m)) [
  | inr fails ↦
      let before : count_below m f ≤ count_below n g = count_into m n f g to (λ k l. low k (omega arith)) (λ k l. passes k (omega arith)) (λ j k a b. apart j k (omega arith) (omega arith)) in
      rw fails (omega arith)
  | inl holds ↦
      let last : m < suc m = omega arith in
      let without : ℕ → Bool = λ k. g k && not (k == to m) in
      let gone : (g (to m) && not (to m == to m)) ≡ false = rw (eq-eqb (to m) (to m) refl) (and_false (g (to m))) in
      let one : count_below n g ≡ count_below n (λ k. g k && not (k == to m)) + 1 =
      count_below-one n (to m) g (λ k. g k && not (k == to m)) (low m last holds) (passes m last holds) gone
      (λ j l ne. rw (ne_eqb j (to m) ne) (sym (and_true (g j)))) in
      let before : count_below m f ≤ count_below n (λ k. g k && not (k == to m)) =
      count_into m n f (λ k. g k && not (k == to m)) to (λ k l. low k (omega arith))
      (λ k l t. and_from (g (to k)) (not (to k == to m)) (passes k (omega arith) t)
      (rw (ne_eqb (to k) (to m) (λ same. let e : k ≡ m = apart k m (omega arith) last t holds same in omega arith)) refl))
      (λ j k a b. apart j k (omega arith) (omega arith)) in
      rw holds (omega arith)
]
  where
    and_false : (b : Bool) → (b && false) ≡ false
    and_false true = refl
    and_false false = refl

    and_true : (b : Bool) → (b && true) ≡ b
    and_true true = refl
    and_true false = refl

-- ---- the numbers of seats

seat_number : Extent → Seat → ℕ
seat_number table (Frame f) = f.0 - table.first
seat_number table (Slot s) = table.frames + s.0

seat_number-bound : (table : Extent) (s : Seat) → HasSeat table s → seat_number table s < table.frames + table.slots
unfolding seat_number
seat_number-bound table (Frame f) h = let a = h.0 in let b = h.1 in omega arith
seat_number-bound table (Slot s) h = let a = h in omega arith

table_seat-number : (table : Extent) (s : Seat) → HasSeat table s → table_seat table (seat_number table s) ≡ s
unfolding seat_number
table_seat-number table (Frame f) h =
    let a : table.first ≤ f.0 = h.0 in let b : f.0 < table.first + table.frames = h.1 in
    cond-true (nat_lt (f.0 - table.first) table.frames) (frame_seat (table.first + (f.0 - table.first))) (slot_seat ((f.0 - table.first) - table.frames)) (lt-ltb (f.0 - table.first) table.frames (omega arith))
    ∙ ap frame_seat (omega arith)
table_seat-number table (Slot s) h =
    cond-false (nat_lt (table.frames + s.0) table.frames) (frame_seat (table.first + (table.frames + s.0))) (slot_seat ((table.frames + s.0) - table.frames)) (grind (arith, nat_tests))
    ∙ ap slot_seat (omega arith)

number-table_seat : (table : Extent) (k : ℕ) → k < table.frames + table.slots → seat_number table (table_seat table k) ≡ k
unfolding seat_number
number-table_seat table k l = elim (cases_lt k table.frames) [
  | inl below ↦ ap (seat_number table) (cond-true (nat_lt k table.frames) (frame_seat (table.first + k)) (slot_seat (k - table.frames)) (lt-ltb k table.frames below)) ∙ omega arith
  | inr above ↦ ap (seat_number table) (cond-false (nat_lt k table.frames) (frame_seat (table.first + k)) (slot_seat (k - table.frames)) (grind (arith, nat_tests))) ∙ omega arith
]

-- ---- pages and seats

or_true : (b : Bool) → (b || true) ≡ true
or_true true = refl
or_true false = refl

module _ (procs : ℕ) (E : Entries) (I : Infos) (B : SeatBytes) (agree : EntriesAgree procs E I) where
  abbrev ledger : Ledger
  ledger = ledger_of E I B

  -- the page of a used seat has its name there, and names the seat
  record SeatHasPage (s : Seat) : Type 0 where
    page : has_page ledger (name_in (I s)) ≡ true
    seat : seat_in (E (name_in (I s))) ≡ s
    lies : is_user_place procs (name_in (I s)) ≡ true

  -- by the entry at the name
  has_page_at : (s : Seat) (p : Place) (e : Entry) → name_in (I s) ≡ p → E p ≡ Some e → seat_in (Some e) ≡ s → has_page ledger p ≡ true → SeatHasPage s
  has_page_at s p e name h same there = record {
    page = ap (has_page ledger) name ∙ there;
    seat = ap (λ q. seat_in (E q)) name ∙ (ap seat_in h ∙ same);
    lies = ap (is_user_place procs) name ∙ (sym (agree.spelled p) ∙ ap is_some h);
  }

  used_page : (s : Seat) (info : PageInfo) → I s ≡ Some info → SeatHasPage s
  used_page s info i = by_parts info.home info.loan i
    where
      by_parts : (h : Option Place) (l : Option LoanInfo) → I s ≡ Some (record { home = h; loan = l }) → SeatHasPage s
      by_parts None None j = absurd (both_ways (is_nobody (I s)) (agree.used s) (ap is_nobody j))
      by_parts None (Some loan) j =
          let e : E loan.holder ≡ Some (At (holder_side loan.kind) s) = agree.holder s None loan j in
          let o : ledger.orphan loan.holder ≡ Some (orphan_of_loan (B s) loan) =
          orphan_at E I B loan.holder (At (holder_side loan.kind) s) e ∙ (orphan_of_holder loan.kind (I s) (B s) ∙ ap (option_and_then (orphan_of_info (B s))) j) in
          has_page_at s loan.holder (At (holder_side loan.kind) s) (ap name_in j) e refl
          (ap (λ x. is_counted (ledger.home loan.holder) || is_some x) o ∙ or_true (is_counted (ledger.home loan.holder)))
      by_parts (Some home) None j =
          let e : E home ≡ Some (At (Own (right_in (E home))) s) = agree.home s home j in
          has_page_at s home (At (Own (right_in (E home))) s) (ap name_in j) e refl
          (ap (λ x. is_counted x || is_some (ledger.orphan home)) (home_at E I B home (At (Own (right_in (E home))) s) e))
      by_parts (Some home) (Some loan) j =
          has_page_at s home (At (lender_side loan.kind (right_in (E home))) s) (ap name_in j) (agree.lender s home loan j) refl
          (ap (λ x. is_counted x || is_some (ledger.orphan home)) (lent_page procs E I B home s loan agree j))

  -- pages and orphans are counted at the places that have a page
  counted_apart : (p : Place) (a b : Bool) → (is_some (ledger.orphan p) ≡ true → is_counted (ledger.home p) ≡ false)
      → (has_page ledger p && is_counted (ledger.home p) ≡ is_counted (ledger.home p))
      × (has_page ledger p && not (is_counted (ledger.home p)) ≡ is_some (ledger.orphan p))
  counted_apart p a b h = by_tests (is_counted (ledger.home p)) (is_some (ledger.orphan p)) h
    where
      by_tests : (c o : Bool) → (o ≡ true → c ≡ false) → ((c || o) && c ≡ c) × ((c || o) && not c ≡ o)
      by_tests true true k = absurd (false≢true (sym (k refl)))
      by_tests true false k = (refl, refl)
      by_tests false true k = (refl, refl)
      by_tests false false k = (refl, refl)

  not_both : (p : Place) → is_some (ledger.orphan p) ≡ true → is_counted (ledger.home p) ≡ false
  not_both p h = elim (cases_Option (ledger.orphan p)) [
    | inl none ↦ absurd (both_ways (is_some (ledger.orphan p)) (ap is_some none) h)
    | inr some ↦ let placed : IsWellPlaced procs ledger = well_placed procs E I B agree in ap is_counted (placed.orphan_no_home p some.0 some.1)
  ]

  pages_at_names : count_places procs (has_page ledger) ≡ pages procs ledger
  unfolding pages
  pages_at_names = count_places-split procs (has_page ledger) (λ p. is_counted (ledger.home p))
      ∙ (ap (λ n. n + count_places procs (λ p. has_page ledger p && not (is_counted (ledger.home p))))
      (count_places-same procs (λ p. has_page ledger p && is_counted (ledger.home p)) (λ p. is_counted (ledger.home p)) (λ p. (counted_apart p true true (not_both p)).0))
      ∙ ap (λ n. count_places procs (λ p. is_counted (ledger.home p)) + n)
      (count_places-same procs (λ p. has_page ledger p && not (is_counted (ledger.home p))) (λ p. is_some (ledger.orphan p)) (λ p. (counted_apart p true true (not_both p)).1)))

  module _ (table : Extent) (within : (s : Seat) (info : PageInfo) → I s ≡ Some info → HasSeat table s) where
    there : (o : Option PageInfo) → is_some o ≡ true → (info : PageInfo) × (o ≡ Some info)
    there None h = absurd (false≢true h)
    there (Some info) h = (info, refl)

    -- a page goes to its seat
    pages_into_seats : count_places procs (has_page ledger) ≤ used_seats table I
    unfolding count_places used_seats
    pages_into_seats = count_into (20464 * procs) (table.frames + table.slots) (λ k. has_page ledger (place_at k)) (λ k. is_some (I (table_seat table k)))
        (λ k. seat_number table (seat_in (E (place_at k))))
        (λ k l h. let i : (info : PageInfo) × (I (seat_in (E (place_at k))) ≡ Some info) = page_info procs E I B agree (place_at k) h in
        seat_number-bound table (seat_in (E (place_at k))) (within (seat_in (E (place_at k))) i.0 i.1))
        (λ k l h. let i : (info : PageInfo) × (I (seat_in (E (place_at k))) ≡ Some info) = page_info procs E I B agree (place_at k) h in
        ap (λ s. is_some (I s)) (table_seat-number table (seat_in (E (place_at k))) (within (seat_in (E (place_at k))) i.0 i.1)) ∙ ap is_some i.1)
        (λ j k a b x y same.
        let i : (info : PageInfo) × (I (seat_in (E (place_at j))) ≡ Some info) = page_info procs E I B agree (place_at j) x in
        let o : (info : PageInfo) × (I (seat_in (E (place_at k))) ≡ Some info) = page_info procs E I B agree (place_at k) y in
        let seats : seat_in (E (place_at j)) ≡ seat_in (E (place_at k)) =
        sym (table_seat-number table (seat_in (E (place_at j))) (within (seat_in (E (place_at j))) i.0 i.1))
        ∙ (ap (table_seat table) same ∙ table_seat-number table (seat_in (E (place_at k))) (within (seat_in (E (place_at k))) o.0 o.1)) in
        sym (number_of-place_at j) ∙ (ap number_of (seats_differ procs E I B agree (place_at j) (place_at k) x y seats) ∙ number_of-place_at k))

    -- a used seat goes to the name of its page
    seats_into_pages : used_seats table I ≤ count_places procs (has_page ledger)
    unfolding count_places used_seats
    seats_into_pages = count_into (table.frames + table.slots) (20464 * procs) (λ k. is_some (I (table_seat table k))) (λ k. has_page ledger (place_at k))
        (λ k. number_of (name_in (I (table_seat table k))))
        (λ k l h. let u : SeatHasPage (table_seat table k) = at k h in number_of-bound procs (name_in (I (table_seat table k))) u.lies)
        (λ k l h. let u : SeatHasPage (table_seat table k) = at k h in
        ap (has_page ledger) (place_at-number_of procs (name_in (I (table_seat table k))) u.lies) ∙ u.page)
        (λ j k a b x y same.
        let u : SeatHasPage (table_seat table j) = at j x in let v : SeatHasPage (table_seat table k) = at k y in
        let names : name_in (I (table_seat table j)) ≡ name_in (I (table_seat table k)) =
        sym (place_at-number_of procs (name_in (I (table_seat table j))) u.lies) ∙ (ap place_at same ∙ place_at-number_of procs (name_in (I (table_seat table k))) v.lies) in
        let seats : table_seat table j ≡ table_seat table k = sym u.seat ∙ (ap (λ p. seat_in (E p)) names ∙ v.seat) in
        sym (number-table_seat table j a) ∙ (ap (seat_number table) seats ∙ number-table_seat table k b))
      where
        at : (k : ℕ) → is_some (I (table_seat table k)) ≡ true → SeatHasPage (table_seat table k)
        at k h = let i : (info : PageInfo) × (I (table_seat table k) ≡ Some info) = there (I (table_seat table k)) h in used_page (table_seat table k) i.0 i.1

    pub used_seats_are_pages : used_seats table I ≡ pages procs ledger
    used_seats_are_pages =
        let a : count_places procs (has_page ledger) ≤ used_seats table I = pages_into_seats in
        let b : used_seats table I ≤ count_places procs (has_page ledger) = seats_into_pages in
        let c : used_seats table I ≡ count_places procs (has_page ledger) = omega arith in
        c ∙ pages_at_names

-- where each seat of a table is used, there are as many pages as seats
count_all : (n : ℕ) (f : ℕ → Bool) → ((k : ℕ) → k < n → f k ≡ true) → count_below n f ≡ n
unfolding count_below
count_all zero f h = refl
count_all (suc n) f h =
    let before : count_below n f ≡ n = count_all n f (λ k l. h k (omega arith)) in
    let last : f n ≡ true = h n (omega arith) in
    rw last (omega arith)

table_seat-has : (table : Extent) (k : ℕ) → k < table.frames + table.slots → HasSeat table (table_seat table k)
table_seat-has table k l = elim (cases_lt k table.frames) [
  | inl below ↦ subst (HasSeat table) (sym (cond-true (nat_lt k table.frames) (frame_seat (table.first + k)) (slot_seat (k - table.frames)) (lt-ltb k table.frames below)))
      (in_frames table.first table.frames k below)
  | inr above ↦ subst (HasSeat table) (sym (cond-false (nat_lt k table.frames) (frame_seat (table.first + k)) (slot_seat (k - table.frames)) (grind (arith, nat_tests)))) (omega arith)
]
  where
    in_frames : (first frames i : ℕ) → i < frames → (first ≤ first + i) × (first + i < first + frames)
    in_frames first frames i h = (omega arith, omega arith)

pub all_used : (procs : ℕ) (E : Entries) (I : Infos) (B : SeatBytes) (table : Extent) → EntriesAgree procs E I
    → ((s : Seat) (info : PageInfo) → I s ≡ Some info → HasSeat table s)
    → ((s : Seat) → HasSeat table s → is_some (I s) ≡ true)
    → pages procs (ledger_of E I B) ≡ table.frames + table.slots
unfolding used_seats
all_used procs E I B table agree within all =
    sym (used_seats_are_pages procs E I B agree table within)
    ∙ count_all (table.frames + table.slots) (λ k. is_some (I (table_seat table k))) (λ k l. all (table_seat table k) (table_seat-has table k l))
