-- The first refusal of a list, by the tests that were gone through.
use Rattle.std.proofs.Common.{◌≡◌, ℕ, ◌+◌, ◌<◌, Bool, true, false, List, length, get_or, drop, Some, refl, ap, add-one, drop-cons}
use Rattle.std.specs.Prelude.{if◌then◌else◌}
use Rattle.xk_base.specs.declared.errors.XousError.{XousError}
use Rattle.machine_model.specs.State.Changes.{first_refusal}

-- from place k on: the test there decides
first_from : (tests : List (Bool × XousError)) (k : ℕ) (d : Bool × XousError) → k < length tests
    → first_refusal (drop k tests) ≡ (if (get_or tests k d).0 then Some (get_or tests k d).1 else first_refusal (drop (k + 1) tests))
first_from tests k d l = rw add-one (ap first_refusal (drop-cons tests k d l))

-- it holds: the error there is the answer
pub first_holds : (tests : List (Bool × XousError)) (k : ℕ) (d : Bool × XousError) → k < length tests → (get_or tests k d).0 ≡ true
    → first_refusal (drop k tests) ≡ Some (get_or tests k d).1
first_holds tests k d l h = rw (first_from tests k d l, h) refl

-- it does not: the answer is that of the rest
pub first_passes : (tests : List (Bool × XousError)) (k : ℕ) (d : Bool × XousError) → k < length tests → (get_or tests k d).0 ≡ false
    → first_refusal (drop k tests) ≡ first_refusal (drop (k + 1) tests)
first_passes tests k d l h = rw (first_from tests k d l, h) refl
