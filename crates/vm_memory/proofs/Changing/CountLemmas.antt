-- As many seats are used as there are pages, so that a frame is free while the capacity holds.
use Rattle.std.proofs.Common.{◌≡◌, ℕ, zero, suc, ◌+◌, ◌-◌, ◌<◌, ◌≤◌, Bool, true, false, if◌then◌else◌, Option, Some, None, refl, sym, ap, subst, ◌∙◌, inl, inr, arith}
use Rattle.std.specs.Prelude.{is_some, nat_lt}
use Rattle.std.proofs.lemmas.Bool.{both_ways, cases_eq, cases_lt, cond-true, cond-false, lt-ltb, le-ltb}
use Rattle.xk_base.specs.Tables.Counting.{count_below}
use Rattle.xk_base.proofs.CountingLemmas.{count_below-bound, count_below-same}
use Rattle.phys_pages.specs.declared.infos.PageInfo.{PageInfo}
use Rattle.phys_pages.specs.Owners.{AreFramesUsed, OwnerTable, Extent, extent, infos, frame_seat, slot_seat}
use Rattle.phys_pages.proofs.OwnerLemmas.{infos-within}
use Rattle.ledger_model.specs.Ledger.{pages}
use Rattle.ledger_model.specs.Steps.{zero_page}
use Rattle.sv32_space.specs.Agreement.{EntriesAgree, HasUnusedFrame}
use Rattle.sv32_space.specs.Entries.{Entries}
use Rattle.sv32_space.specs.EntryLedger.{ledger_of, table_seat, used_seats}
use Rattle.sv32_space.proofs.Agreeing.SeatCountingLemmas.{used_seats_are_pages}
use Rattle.vm_memory.specs.Bytes.{used_frames, used_slots}

count_join : (a b : ℕ) (f : ℕ → Bool) → count_below (a + b) f ≡ count_below a f + count_below b (λ k. f (a + k))
unfolding count_below
count_join a zero f =
    let e : a + 0 ≡ a = omega arith in
    ap (λ n. count_below n f) e ∙ omega arith
count_join a (suc b) f =
    let e : a + suc b ≡ suc (a + b) = omega arith in
    let h : count_below (a + b) f ≡ count_below a f + count_below b (λ k. f (a + k)) = count_join a b f in
    ap (λ n. count_below n f) e ∙ omega (arith, h)

-- where fewer pass than there are, one fails
fails_somewhere : (n : ℕ) (f : ℕ → Bool) → count_below n f < n → (k : ℕ) × (k < n) × (f k ≡ false)
unfolding count_below
fails_somewhere zero f h = absurd (omega arith)
fails_somewhere (suc n) f h = by_last (f n) refl h (λ few. fails_somewhere n f few)
  where
    by_last : (b : Bool) → f n ≡ b → count_below n f + (if b then 1 else 0) < suc n
        → (count_below n f < n → (k : ℕ) × (k < n) × (f k ≡ false)) → (k : ℕ) × (k < suc n) × (f k ≡ false)
    by_last false e g before = (n, omega arith, e)
    by_last true e g before =
        let found : (k : ℕ) × (k < n) × (f k ≡ false) = before (omega arith) in
        (found.0, omega (arith, found.1), found.2)

-- where none passes, each fails
pub zero_each : (n : ℕ) (f : ℕ → Bool) → count_below n f ≡ 0 → (k : ℕ) → k < n → f k ≡ false
unfolding count_below
zero_each zero f h k low = absurd (omega (arith, low))
zero_each (suc n) f h k low = by_last (f n) refl h (λ e l. zero_each n f e k l)
  where
    by_last : (b : Bool) → f n ≡ b → count_below n f + (if b then 1 else 0) ≡ 0 → (count_below n f ≡ 0 → k < n → f k ≡ false) → f k ≡ false
    by_last true e g before = absurd (omega arith)
    by_last false e g before = elim (cases_eq k n) [
      | inl same ↦ ap f same ∙ e
      | inr apart ↦ before (omega arith) (omega (arith, low, apart))
    ]

-- where each passes, all count
pub each_counts : (n : ℕ) (f : ℕ → Bool) → ((k : ℕ) → k < n → f k ≡ true) → n ≤ count_below n f
each_counts n f h = elim (cases_lt (count_below n f) n) [
  | inl few ↦
      let found : (k : ℕ) × (k < n) × (f k ≡ false) = fails_somewhere n f few in
      absurd (both_ways (f found.0) found.2 (h found.0 found.1))
  | inr all ↦ all
]

-- where all count, each passes
pub each_of_all : (n : ℕ) (f : ℕ → Bool) → n ≤ count_below n f → (k : ℕ) → k < n → f k ≡ true
unfolding count_below
each_of_all zero f h k low = absurd (omega (arith, low))
each_of_all (suc n) f h k low = by_last (f n) refl h (λ all. each_of_all n f all k)
  where
    by_last : (b : Bool) → f n ≡ b → suc n ≤ count_below n f + (if b then 1 else 0) → (n ≤ count_below n f → k < n → f k ≡ true) → f k ≡ true
    by_last false e g before = let bound : count_below n f ≤ n = count_below-bound n f in absurd (omega (arith, g, bound))
    by_last true e g before = elim (cases_eq k n) [
      | inl same ↦ ap f same ∙ e
      | inr apart ↦ before (omega (arith, g)) (omega (arith, low, apart))
    ]

-- no frame is free where as many are used as there are
pub frames_full : (owners : OwnerTable) → (extent owners).frames ≤ used_frames owners → AreFramesUsed owners ((extent owners).first + (extent owners).frames)
frames_full owners all k from to =
    let there : (extent owners).first + (k - (extent owners).first) ≡ k = omega (arith, from) in
    subst (λ n. is_some (infos owners (frame_seat n)) ≡ true) there
    (each_of_all (extent owners).frames (λ j. is_some (infos owners (frame_seat ((extent owners).first + j)))) all (k - (extent owners).first) (omega (arith, from, to)))

-- no more frames and slots are used than there are
pub frames_few : (owners : OwnerTable) → used_frames owners ≤ (extent owners).frames
frames_few owners = count_below-bound (extent owners).frames (λ k. is_some (infos owners (frame_seat ((extent owners).first + k))))

pub slots_few : (owners : OwnerTable) → used_slots owners ≤ (extent owners).slots
slots_few owners = count_below-bound (extent owners).slots (λ k. is_some (infos owners (slot_seat k)))

frame_there : (t : Extent) (k : ℕ) → k < t.frames → table_seat t k ≡ frame_seat (t.first + k)
frame_there t k l = cond-true (nat_lt k t.frames) (frame_seat (t.first + k)) (slot_seat (k - t.frames)) (lt-ltb k t.frames l)

slot_there : (t : Extent) (k : ℕ) → table_seat t (t.frames + k) ≡ slot_seat k
slot_there t k =
    let past : t.frames ≤ t.frames + k = omega arith in
    let rest : t.frames + k - t.frames ≡ k = omega arith in
    cond-false (nat_lt (t.frames + k) t.frames) (frame_seat (t.first + (t.frames + k))) (slot_seat (t.frames + k - t.frames)) (le-ltb (t.frames + k) t.frames past)
    ∙ ap slot_seat rest

-- THE COUNT: as many frames and slots are used as there are pages
pub seats_count : (procs : ℕ) (E : Entries) (owners : OwnerTable) → EntriesAgree procs E (infos owners)
    → used_frames owners + used_slots owners ≡ pages procs (ledger_of E (infos owners) (λ s. zero_page))
unfolding used_seats
seats_count procs E owners agree =
    let t : Extent = extent owners in
    let frames : count_below t.frames (λ k. is_some (infos owners (table_seat t k))) ≡ used_frames owners =
    count_below-same t.frames _ _ (λ k l. ap (λ s. is_some (infos owners s)) (frame_there t k l)) in
    let slots : count_below t.slots (λ k. is_some (infos owners (table_seat t (t.frames + k)))) ≡ used_slots owners =
    count_below-same t.slots _ _ (λ k l. ap (λ s. is_some (infos owners s)) (slot_there t k)) in
    let joined : count_below (t.frames + t.slots) (λ k. is_some (infos owners (table_seat t k)))
    ≡ count_below t.frames (λ k. is_some (infos owners (table_seat t k))) + count_below t.slots (λ k. is_some (infos owners (table_seat t (t.frames + k)))) =
    count_join t.frames t.slots (λ k. is_some (infos owners (table_seat t k))) in
    sym (joined ∙ (λ i. frames i + slots i))
    ∙ used_seats_are_pages procs E (infos owners) (λ s. zero_page) agree (extent owners) (infos-within owners)

none_there : (o : Option PageInfo) → is_some o ≡ false → o ≡ None
none_there None e = refl
none_there (Some info) e = cc

-- a frame is free where fewer are used than the table has
pub frame_left : (owners : OwnerTable) → used_frames owners < (extent owners).frames → HasUnusedFrame (extent owners) (infos owners)
frame_left owners few =
    let left : (k : ℕ) × (k < (extent owners).frames) × (is_some (infos owners (frame_seat ((extent owners).first + k))) ≡ false) =
    fails_somewhere (extent owners).frames (λ k. is_some (infos owners (frame_seat ((extent owners).first + k)))) few in
    record {
      frame = (extent owners).first + left.0;
      within = (omega arith, omega (arith, left.1));
      free = none_there (infos owners (frame_seat ((extent owners).first + left.0))) left.2;
    }
