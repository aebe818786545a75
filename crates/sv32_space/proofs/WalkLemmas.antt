-- Where a walk ends.
use Rattle.std.proofs.Common.{◌≡◌, ◌+◌, ◌-◌, ◌*◌, ◌/◌, ◌<◌, ◌≤◌, ℕ, Bool, true, false, cond, ◌&&◌, nat_le, Some, None, refl, sym, ap, ◌∙◌, arith}
use Rattle.std.proofs.lemmas.Bool.{le-ltb}
use Rattle.xk_base.specs.declared.ids.Frame.{Frame}
use Rattle.xk_base.specs.declared.pages.Access.{Access}
use Rattle.phys_pages.specs.Ram.{RamBytes, Area, IsPlaced, area, ppn_of, frame_of}
use Rattle.phys_pages.proofs.WordLemmas.{words-outside}
use Rattle.sv32_space.specs.Walk.{entry_in_table, entry_ppn, vpn_0, from_last_level, from_last_entry, from_pointer}

abbrev frame : ℕ → Frame
frame n = record { 0 = n }

no_frame : (a : Area) (f : ℕ) → a.frames ≤ f → frame_of a (ppn_of a f) ≡ None
no_frame a f past =
    let f_is : (a.start / 4096 + f) - a.start / 4096 ≡ f = omega arith in
    rw (f_is, le-ltb f a.frames past) (none (nat_le (a.start / 4096) (a.start / 4096 + f)))
  where
    none : (b : Bool) → cond (b && false) (Some (frame f)) None ≡ None
    none true = refl
    none false = refl

-- a frame past the end of RAM has no table
pub no_entry_outside : (ram : RamBytes) (f index : ℕ) → IsPlaced (area ram) → (area ram).frames ≤ f → index < 1024
    → None ≡ entry_in_table ram (ppn_of (area ram) f) index
no_entry_outside ram f index placed past low =
    sym (words-outside ram (ppn_of (area ram) f) (4 * index) placed (omega arith) (no_frame (area ram) f past))

-- a table in RAM is read on
pub from_table : (ram : RamBytes) (entry va ppn last : ℕ) (access : Access) → ppn ≡ entry_ppn entry
    → Some last ≡ entry_in_table ram ppn (vpn_0 va) → from_last_level last va access ≡ from_pointer ram entry va access
from_table ram entry va ppn last access is there =
    ap (λ e. from_last_entry e va access) there ∙ ap (λ n. from_last_entry (entry_in_table ram n (vpn_0 va)) va access) is
