-- Frames and their physical page numbers.
use Rattle.std.proofs.Common.{◌≡◌, ◌+◌, ◌-◌, ◌/◌, ◌<◌, ◌≤◌, ℕ, true, ◌&&◌, nat_le, nat_lt, Some, None, refl, ap, inl, inr, arith}
use Rattle.std.proofs.lemmas.Bool.{cases_Bool, and_from, and_parts, leb-true, ltb-true, le-leb, lt-ltb}
use Rattle.xk_base.specs.declared.ids.Frame.{Frame}
use Rattle.phys_pages.specs.Ram.{Area, ppn_of, frame_of}

-- the frame of a page number of RAM
pub frame_of-within : (a : Area) (ppn : ℕ) → a.start / 4096 ≤ ppn → ppn - a.start / 4096 < a.frames → frame_of a ppn ≡ Some (record { 0 = ppn - a.start / 4096 })
frame_of-within a ppn low high =
    rw (and_from (nat_le (a.start / 4096) ppn) (nat_lt (ppn - a.start / 4096) a.frames) (le-leb (a.start / 4096) ppn low) (lt-ltb (ppn - a.start / 4096) a.frames high)) refl

-- the frame of a frame's page number is that frame
pub frame_of-ppn_of : (a : Area) (f : Frame) → f.0 < a.frames → frame_of a (ppn_of a f.0) ≡ Some f
frame_of-ppn_of a f within =
    let first : ℕ = a.start / 4096 in
    let n : (a.start / 4096 + f.0) - a.start / 4096 ≡ f.0 = omega arith in
    rw n
    (rw (and_from (nat_le (a.start / 4096) (a.start / 4096 + f.0)) (nat_lt f.0 a.frames) (le-leb (a.start / 4096) (a.start / 4096 + f.0) (omega arith)) (lt-ltb f.0 a.frames within)) refl)

-- a page number that has a frame is that frame's, and the frame is one of RAM
pub ppn_of-frame_of : (a : Area) (ppn : ℕ) (f : Frame) → frame_of a ppn ≡ Some f → (ppn_of a f.0 ≡ ppn) × (f.0 < a.frames)
ppn_of-frame_of a ppn f found = elim (cases_Bool (nat_le (a.start / 4096) ppn && nat_lt (ppn - a.start / 4096) a.frames)) [
  | inl here ↦
      let parts : (nat_le (a.start / 4096) ppn ≡ true) × (nat_lt (ppn - a.start / 4096) a.frames ≡ true) = and_parts (nat_le (a.start / 4096) ppn) (nat_lt (ppn - a.start / 4096) a.frames) here in
      let low : a.start / 4096 ≤ ppn = leb-true (a.start / 4096) ppn parts.0 in
      let high : ppn - a.start / 4096 < a.frames = ltb-true (ppn - a.start / 4096) a.frames parts.1 in
      let given = rw here at found in
      let number : ppn - a.start / 4096 ≡ f.0 = the_same (record { 0 = ppn - a.start / 4096 }) f given in
      (omega arith, omega arith)
  | inr none ↦
      let given = rw none at found in
      absurd (none_is_not_some f given)
]
  where
    the_same : (g h : Frame) → Some g ≡ Some h → g.0 ≡ h.0
    the_same g h same = let e : g ≡ h = cc in ap (λ (x : Frame). x.0) e

    none_is_not_some : (g : Frame) → None ≡ Some g → ⊥
    none_is_not_some g same = cc
