-- A reading that goes on: it stays within its file, and what it gave is what it no longer has left.
use Rattle.std.proofs.Common.{◌≡◌, ◌<◌, ◌≤◌, ℕ, Bool, true, false, cond, Option, Some, List, ◌++◌, length, take, drop, refl, sym, ap, subst, ◌∙◌, arith}
use Rattle.std.proofs.lemmas.List.{take-append-drop, take-append-le, length-take-le, take_all}
use Rattle.std.proofs.lemmas.Option.{same_Some}
use Rattle.xk_ports.specs.declared.mem_host.Reading.{Reading}
use Rattle.xk_ports.specs.MemHostView.{bytes_at, left_in, IsReadingOf}

-- a reading within its file
pub IsReadingOf-some : (files : List (List ℕ × List ℕ)) (reading : Reading) → reading.file < length files → reading.at ≤ length (bytes_at files reading.file) → IsReadingOf files (Some reading)
IsReadingOf-some files reading one within =
    λ x e.
    let P : Reading → Type 0 = λ r. (r.file < length files) × (r.at ≤ length (bytes_at files r.file)) in
    subst P (same_Some reading x e) (one, within)

-- the reading of the slot at which a file is picked
pub IsReadingOf-get : (files : List (List ℕ × List ℕ)) (first second : Option Reading) (reading : Reading) (is_first : Bool) → IsReadingOf files first → IsReadingOf files second → Some reading ≡ cond is_first first second → IsReadingOf files (Some reading)
IsReadingOf-get files first second reading true a b is = λ r e. a r (sym is ∙ e)
IsReadingOf-get files first second reading false a b is = λ r e. b r (sym is ∙ e)

-- the readings with another one at a slot
pub IsReadingOf-set : (files : List (List ℕ × List ℕ)) (first second : Option Reading) (reading : Reading) (is_first : Bool) → IsReadingOf files first → IsReadingOf files second → IsReadingOf files (Some reading) → IsReadingOf files (cond is_first (Some reading) first) × IsReadingOf files (cond is_first second (Some reading))
IsReadingOf-set files first second reading true a b here = (here, b)
IsReadingOf-set files first second reading false a b here = (a, here)

-- what the slot has left
pub left_in-get : (files : List (List ℕ × List ℕ)) (first second : Option Reading) (reading : Reading) (is_first : Bool) → Some reading ≡ cond is_first first second → cond is_first (left_in files first) (left_in files second) ≡ Some (drop reading.at (bytes_at files reading.file))
left_in-get files first second reading true is = ap (left_in files) (sym is)
left_in-get files first second reading false is = ap (left_in files) (sym is)

-- what the slot has left with another reading
pub left_in-set : (files : List (List ℕ × List ℕ)) (first second : Option Reading) (reading : Reading) (is_first : Bool) → cond is_first (left_in files (cond is_first (Some reading) first)) (left_in files (cond is_first second (Some reading))) ≡ Some (drop reading.at (bytes_at files reading.file))
left_in-set files first second reading true = refl
left_in-set files first second reading false = refl

-- what was given stands before what is left
pub given-before-left : (left into : List ℕ) (n : ℕ) → n ≤ length left → take n (take n left ++ drop n into) ++ drop n left ≡ left
given-before-left left into n fits =
    let whole : n ≤ length (take n left) = omega (arith, length-take-le n left fits) in
    let short : length (take n left) ≤ n = omega (arith, length-take-le n left fits) in
    rw (take-append-le n (take n left) (drop n into) whole, take_all n (take n left) short) (take-append-drop n left)
