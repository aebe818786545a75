-- A call of a number that no row with the part has leaves that part.
use Rattle.std.proofs.Common.{◌≡◌, ℕ, Bool, true, false, List, [], ◌∷◌, ◌==◌, ◌&&◌, refl, sym, ap, ◌∙◌}
use Rattle.std.specs.Prelude.{◌||◌, if◌then◌else◌}
use Rattle.std.specs.List.{list_any}
use Rattle.std.proofs.lemmas.Bool.{false≢true}
use Rattle.call_effects.specs.Footprints.{Part, footprint, footprint_at, footprints, names}

-- the calls that can change a part have one of these numbers
abbrev pub is_number_of : Part → ℕ → List (ℕ × List Part) → Bool
is_number_of part number others = list_any (λ row. names row.1 part && (number == row.0)) others

passed_over : (x rest : Bool) → rest ≡ true → ((x && false) || rest) ≡ true
passed_over true rest e = e
passed_over false rest e = e

named_at : (part : Part) (number : ℕ) (others : List (ℕ × List Part)) → names (footprint_at number others) part ≡ true
    → is_number_of part number others ≡ true
named_at part number [] e = absurd (false≢true e)
named_at part number (row ∷ others) e = go (number == row.0) e (named_at part number others)
  where
    go : (b : Bool) → names (if b then row.1 else footprint_at number others) part ≡ true
        → (names (footprint_at number others) part ≡ true → is_number_of part number others ≡ true)
        → ((names row.1 part && b) || is_number_of part number others) ≡ true
    go true named later = ap (λ x. (x && true) || is_number_of part number others) named
    go false named later = passed_over (names row.1 part) (is_number_of part number others) (later named)

pub unnamed_by : (part : Part) (number : ℕ) → is_number_of part number footprints ≡ false → names (footprint number) part ≡ false
unnamed_by part number other = go (names (footprint number) part) refl
  where
    go : (b : Bool) → names (footprint number) part ≡ b → b ≡ false
    go false e = refl
    go true e = absurd (false≢true (sym other ∙ named_at part number footprints e))
