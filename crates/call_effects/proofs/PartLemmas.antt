-- A law about some parts of the machine has to be shown of the calls that can change one of them alone.
use Rattle.std.proofs.Common.{◌≡◌, ℕ, Bool, true, false, List, refl, sym, subst}
use Rattle.syscall_codec.specs.CallWords.{call_number}
use Rattle.machine_model.specs.Calling.Calls.{call}
use Rattle.machine_model.specs.State.Changes.{Change, Outcome, Refused, Retried, Served}
use Rattle.machine_model.specs.State.Machine.{Machine}
use Rattle.call_effects.specs.Deciding.{decide, rows, unhandled_row}
use Rattle.call_effects.specs.Footprints.{LeavesAllBut, Part, footprint}
use Rattle.call_effects.specs.Verdicts.{Row}
use Rattle.call_effects.proofs.FootprintLemmas.{calls_leave_the_rest}
use Rattle.call_effects.proofs.MeantLemmas.{calls_meant}
use Rattle.machine_model.proofs.Calling.TableLemmas.{OfRows, of_row}
use Rattle.call_effects.proofs.ServedLemmas.{OfPlan, OfServed, done, of_plan}

-- the test tells of the parts that a call can change whether one of those that the law is about is among them
module _ (test : List Part → Bool) (P : Change → Type 0) (m : Machine) (w : List ℕ) where
  abbrev can_change : ℕ → Bool
  can_change number = test (footprint number)

  -- what is to be shown of a row, where the call has its number
  abbrev OfCall : ℕ → Row → Type 0
  OfCall number row = call_number w ≡ number → OfPlan (λ plan. P (done m plan)) (row m w)

  -- this of the rows of the calls that can change one, in the order of the table
  abbrev pub OfChanging : Type 0
  OfChanging = OfRows can_change OfCall rows

  changing : OfChanging → can_change (call_number w) ≡ true → OfServed P (call m w)
  unfolding decide
  changing of can =
      subst (OfServed P) (sym (calls_meant m w))
      (of_plan P m (decide m w) (λ none. of_row can_change OfCall (call_number w) can unhandled_row (λ same. tt) rows of refl))

  -- .. and of whatever change leaves them
  pub of_parts : OfChanging → ((change : Change) → LeavesAllBut (footprint (call_number w)) m change.machine → can_change (call_number w) ≡ false → P change)
      → OfServed P (call m w)
  of_parts of leaves = go (can_change (call_number w)) refl
    where
      left : can_change (call_number w) ≡ false → (outcome : Outcome) → call m w ≡ outcome → OfServed P outcome
      left untouched (Refused error) e = tt
      left untouched Retried e = tt
      left untouched (Served change) e = leaves change (calls_leave_the_rest m w change e) untouched

      go : (b : Bool) → can_change (call_number w) ≡ b → OfServed P (call m w)
      go true e = changing of e
      go false e = left e (call m w) refl
