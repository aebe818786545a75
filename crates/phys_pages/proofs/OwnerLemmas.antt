-- What the owner table says after a write of one seat.
use Rattle.std.proofs.Common.{◌≡◌, ◌==◌, ◌+◌, ◌-◌, ◌<◌, ◌≤◌, ℕ, true, false, cond, List, length, Option, Some, None, nat_eq, nat_le, set, refl, sym, ap, ◌∙◌, inl, inr, ◌⊎◌, arith}
use Rattle.std.proofs.lemmas.Bool.{cases_lt, cases_eq, cond-true, cond-false, eq-eqb, ne_eqb, le-leb, lt-leb}
use Rattle.std.proofs.lemmas.List.{get_or_past}
use Rattle.xk_base.specs.Tables.Counting.{put_at}
use Rattle.xk_base.specs.Tables.RowMap.{row_map}
use Rattle.xk_base.proofs.RowMapLemmas.{row_map_set}
use Rattle.xk_base.specs.declared.ids.Frame.{Frame as FrameNumber}
use Rattle.xk_base.specs.declared.ids.Slot.{Slot as SlotNumber}
use Rattle.phys_pages.specs.declared.infos.PageInfo.{PageInfo}
use Rattle.phys_pages.specs.declared.infos.Seat.{Seat}
use Rattle.phys_pages.specs.declared.infos.Seat.TheVariants.{Frame, Slot}
use Rattle.phys_pages.specs.Owners.{OwnerTable, infos, extent, HasSeat, seat_eq}

some_is_not_none : (info : PageInfo) → Some info ≡ None → ⊥
some_is_not_none info same = cc

-- a write at a frame
pub infos-set_frame : (first : ℕ) (frames slots : List (Option PageInfo)) (f : FrameNumber) (info : Option PageInfo)
    → first ≤ f.0 → f.0 < first + length frames
    → infos (record { first = first; frames = set frames (f.0 - first) info; slots = slots }) ≡ put_at seat_eq (infos (record { first = first; frames = frames; slots = slots })) (Frame f) info
unfolding infos
infos-set_frame first frames slots f info low high = λ i s. at s i
  where
    at : (s : Seat) → infos (record { first = first; frames = set frames (f.0 - first) info; slots = slots }) s ≡ put_at seat_eq (infos (record { first = first; frames = frames; slots = slots })) (Frame f) info s
    at (Slot s) = refl
    at (Frame g) = elim (cases_lt g.0 first) [
      | inl below ↦
          rw (lt-leb first g.0 below, ne_eqb g.0 f.0 (λ same. omega arith)) refl
      | inr above ↦
          rw (le-leb first g.0 above)
          (ap (λ m. m (g.0 - first)) (row_map_set frames (f.0 - first) info (omega arith)) ∙ same_test g.0 above)
    ]
      where
        same_test : (n : ℕ) → first ≤ n → put_at nat_eq (row_map frames) (f.0 - first) info (n - first) ≡ cond (n == f.0) info (row_map frames (n - first))
        same_test n above = elim (cases_eq n f.0) [
          | inl same ↦ rw (eq-eqb n f.0 same, eq-eqb (n - first) (f.0 - first) (omega arith)) refl
          | inr apart ↦ rw (ne_eqb n f.0 apart, ne_eqb (n - first) (f.0 - first) (λ same. apart (omega arith))) refl
        ]

-- a write at a slot
pub infos-set_slot : (first : ℕ) (frames slots : List (Option PageInfo)) (s : SlotNumber) (info : Option PageInfo)
    → s.0 < length slots
    → infos (record { first = first; frames = frames; slots = set slots s.0 info }) ≡ put_at seat_eq (infos (record { first = first; frames = frames; slots = slots })) (Slot s) info
unfolding infos
infos-set_slot first frames slots s info within = λ i q. at q i
  where
    at : (q : Seat) → infos (record { first = first; frames = frames; slots = set slots s.0 info }) q ≡ put_at seat_eq (infos (record { first = first; frames = frames; slots = slots })) (Slot s) info q
    at (Frame f) = refl
    at (Slot r) = ap (λ m. m r.0) (row_map_set slots s.0 info within)

-- two seats are one or not, and the test tells
pub seat_tells : (s t : Seat) → ((s ≡ t) × (seat_eq s t ≡ true)) ⊎ ((s ≡ t → ⊥) × (seat_eq s t ≡ false))
seat_tells (Frame f) (Frame g) = elim (cases_eq f.0 g.0) [
  | inl same ↦ inl (ap (λ n. Frame (record { 0 = n })) same, eq-eqb f.0 g.0 same)
  | inr apart ↦ inr (λ same. apart (cc), ne_eqb f.0 g.0 apart)
]
seat_tells (Frame f) (Slot s) = inr (λ same. (cc), refl)
seat_tells (Slot s) (Frame f) = inr (λ same. (cc), refl)
seat_tells (Slot s) (Slot r) = elim (cases_eq s.0 r.0) [
  | inl same ↦ inl (ap (λ n. Slot (record { 0 = n })) same, eq-eqb s.0 r.0 same)
  | inr apart ↦ inr (λ same. apart (cc), ne_eqb s.0 r.0 apart)
]

-- a seat that says whose page it has is one of the table
pub infos-within : (t : OwnerTable) (s : Seat) (info : PageInfo) → infos t s ≡ Some info → HasSeat (extent t) s
unfolding infos extent
infos-within t (Frame f) info here = elim (cases_lt f.0 t.first) [
  | inl below ↦ absurd (some_is_not_none info (sym here ∙ cond-false (nat_le t.first f.0) (row_map t.frames (f.0 - t.first)) None (lt-leb t.first f.0 below)))
  | inr above ↦ elim (cases_lt (f.0 - t.first) (length t.frames)) [
    | inl within ↦ (above, omega arith)
    | inr past ↦
        absurd (some_is_not_none info (sym here
        ∙ cond-true (nat_le t.first f.0) (row_map t.frames (f.0 - t.first)) None (le-leb t.first f.0 above)
        ∙ get_or_past t.frames (f.0 - t.first) None past))
  ]
]
infos-within t (Slot s) info here = elim (cases_lt s.0 (length t.slots)) [
  | inl within ↦ within
  | inr past ↦ absurd (some_is_not_none info (sym here ∙ get_or_past t.slots s.0 None past))
]
