-- An entry has one spelling.
use Rattle.std.proofs.Common.{◌≡◌, ◌==◌, ◌-◌, ◌/◌, ◌<◌, ℕ, Bool, true, false, cond, ◌&&◌, nat_le, nat_lt, Option, Some, None, refl, sym, ap, subst, ◌∙◌, inl, inr, arith}
use Rattle.std.proofs.lemmas.Bool.{cases_Bool, eqb-true, le-ltb}
use Rattle.std.proofs.lemmas.Option.{none-some, same_Some}
use Rattle.xk_base.specs.declared.ids.Frame.{Frame as FrameNumber}
use Rattle.phys_pages.specs.declared.infos.Seat.TheVariants.{Frame, Slot}
use Rattle.phys_pages.specs.Ram.{Area, IsPlaced, ppn_of, frame_of}
use Rattle.phys_pages.proofs.AreaLemmas.{frame_of-ppn_of, ppn_of-frame_of}
use Rattle.sv32_space.specs.declared.sides.Side.{Side}
use Rattle.sv32_space.specs.declared.sides.Side.TheVariants.{Own, LentOut, LentIn, MutOut, MutIn}
use Rattle.sv32_space.specs.declared.sides.EntryKind.{EntryKind}
use Rattle.sv32_space.specs.declared.sides.EntryKind.TheVariants.{Free as FreeKind, Here, Out}
use Rattle.sv32_space.specs.declared.sides.Entry.{Entry}
use Rattle.sv32_space.specs.declared.sides.Entry.TheVariants.{Free, At, OnConsole}
use Rattle.sv32_space.specs.Spellings.{right_of, IsKind}
use Rattle.sv32_space.specs.SpelledEntries.{IsEntry, console_ppn, console_entry, entry_here, entry_of_kind, kind_for}

-- the console's page is no frame of RAM, which ends below it
pub console_has_no_frame : (a : Area) → IsPlaced a → frame_of a console_ppn ≡ None
console_has_no_frame a placed =
    let outside : (nat_le (a.start / 4096) console_ppn && nat_lt (console_ppn - a.start / 4096) a.frames) ≡ false =
    past (nat_le (a.start / 4096) console_ppn) (nat_lt (console_ppn - a.start / 4096) a.frames) (le-ltb (console_ppn - a.start / 4096) a.frames (omega (arith, placed.aligned, placed.below_device))) in
    rw outside refl
  where
    past : (b c : Bool) → c ≡ false → (b && c) ≡ false
    past true c no' = no'
    past false c no' = refl

-- an entry is read from its spelling
pub entry_again : (a : Area) (entry : Entry) → IsPlaced a → IsEntry a entry → entry_of_kind a (Some (kind_for a entry)) ≡ Some entry
entry_again a Free placed is = refl
entry_again a (At side (Frame f)) placed is = ap (λ frame. entry_here side (ppn_of a f.0) frame) (frame_of-ppn_of a f is)
entry_again a (At side (Slot s)) placed is = refl
entry_again a (OnConsole w) placed is = ap (λ frame. entry_here (Own (right_of w false)) console_ppn frame) (console_has_no_frame a placed)

cond_none : (b : Bool) (x y : Entry) → cond b None (Some x) ≡ Some y → (b ≡ false) × (x ≡ y)
cond_none true x y found = absurd (none-some y found)
cond_none false x y found = (refl, same_Some x y found)

-- the console's entry is that of an owner without x
console_is : (a : Area) (side : Side) (entry : Entry) → console_entry side ≡ Some entry → (Here side console_ppn ≡ kind_for a entry) × IsEntry a entry
console_is a (Own right) entry found =
    let parts = cond_none right.x (OnConsole right.w) entry found in
    (ap (λ x. Here (Own (right_of right.w x)) console_ppn) parts.0 ∙ ap (λ e. kind_for a e) parts.1, subst (λ e. IsEntry a e) parts.1 tt)
console_is a (LentOut right) entry found = absurd (none-some entry found)
console_is a LentIn entry found = absurd (none-some entry found)
console_is a (MutOut x) entry found = absurd (none-some entry found)
console_is a MutIn entry found = absurd (none-some entry found)

here_is : (a : Area) (side : Side) (ppn : ℕ) (frame : Option FrameNumber) (entry : Entry) → frame_of a ppn ≡ frame
    → entry_here side ppn frame ≡ Some entry → (Here side ppn ≡ kind_for a entry) × IsEntry a entry
here_is a side ppn (Some f) entry there found =
    let parts : (ppn_of a f.0 ≡ ppn) × (f.0 < a.frames) = ppn_of-frame_of a ppn f there in
    let is : At side (Frame f) ≡ entry = same_Some (At side (Frame f)) entry found in
    (ap (λ n. Here side n) (sym parts.0) ∙ ap (λ e. kind_for a e) is, subst (λ e. IsEntry a e) is parts.1)
here_is a side ppn None entry there found = elim (cases_Bool (ppn == console_ppn)) [
  | inl page ↦
      let given = rw page at found in
      let parts = console_is a side entry given in
      (ap (λ n. Here side n) (eqb-true ppn console_ppn page) ∙ parts.0, parts.1)
  | inr other ↦ let given = rw other at found in absurd (none-some entry given)
]

-- what an entry is read from is its spelling
pub kind_is : (a : Area) (kind : EntryKind) (entry : Entry) → entry_of_kind a (Some kind) ≡ Some entry → kind ≡ kind_for a entry
kind_is a FreeKind entry found = ap (λ e. kind_for a e) (same_Some Free entry found)
kind_is a (Here side ppn) entry found = (here_is a side ppn (frame_of a ppn) entry refl found).0
kind_is a (Out side slot) entry found = ap (λ e. kind_for a e) (same_Some (At side (Slot (record { 0 = slot }))) entry found)

-- .. and it is an entry of this RAM
pub entry_is : (a : Area) (kind : EntryKind) (entry : Entry) → IsKind kind → entry_of_kind a (Some kind) ≡ Some entry → IsEntry a entry
entry_is a FreeKind entry fits found = subst (λ e. IsEntry a e) (same_Some Free entry found) tt
entry_is a (Here side ppn) entry fits found = (here_is a side ppn (frame_of a ppn) entry refl found).1
entry_is a (Out side slot) entry fits found = subst (λ e. IsEntry a e) (same_Some (At side (Slot (record { 0 = slot }))) entry found) fits
