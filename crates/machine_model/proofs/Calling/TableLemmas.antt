-- A table walked once for all laws over it: what is shown of each row that is chosen holds of the row of each number that is.
use Rattle.std.proofs.Common.{◌≡◌, ℕ, Bool, true, false, List, [], ◌∷◌, refl, sym, ap, ◌∙◌, subst}
use Rattle.std.specs.Bool.{⊤}
use Rattle.std.specs.Prelude.{◌==◌, if◌then◌else◌}
use Rattle.std.proofs.lemmas.Bool.{eqb-true, false≢true}
use Rattle.machine_model.specs.Calling.Questions.{Question, with_questions}
use Rattle.machine_model.specs.Calling.Tables.{row_of}

-- the first too, where the test says so
abbrev pub BothIf : Bool → Type 0 → Type 0 → Type 0
BothIf true A B = A × B
BothIf false A B = B

-- what is shown of one row, and of the rows after it
infixr 5 ◌also◌
pub ◌also◌ : {A B : Type 0} → A → B → A × B
◌also◌ one others = (one, others)

module _ {A : Type 0} (chosen : ℕ → Bool) (P : ℕ → A → Type 0) where
  -- this of each row that is chosen, with its number
  abbrev pub OfRows : List (ℕ × A) → Type 0
  OfRows [] = ⊤
  OfRows (row ∷ others) = BothIf (chosen row.0) (P row.0 row.1) (OfRows others)

  both_if : (b : Bool) (A B : Type 0) → A → B → BothIf b A B
  both_if true A B one others = (one, others)
  both_if false A B one others = others

  -- what is shown of all calls that only ask, and of the rows after theirs
  pub of_questions : (row_for : Question → A) → ((number : ℕ) (question : Question) → P number (row_for question))
      → (questions : List (ℕ × Question)) (others : List (ℕ × A)) → OfRows others → OfRows (with_questions row_for questions others)
  of_questions row_for each [] others of = of
  of_questions row_for each (question ∷ more) others of =
      both_if (chosen question.0) (P question.0 (row_for question.1)) (OfRows (with_questions row_for more others))
      (each question.0 question.1) (of_questions row_for each more others of)

  rest_of : (b : Bool) (A B : Type 0) → BothIf b A B → B
  rest_of true A B of = of.1
  rest_of false A B of = of

  first_of : (b : Bool) (A B : Type 0) → b ≡ true → BothIf b A B → A
  first_of true A B e of = of.0
  first_of false A B e of = absurd (false≢true e)

  module _ (number : ℕ) (is_chosen : chosen number ≡ true) (absent : A) (unhandled : P number absent) where
    pub of_row : (rows : List (ℕ × A)) → OfRows rows → P number (row_of absent number rows)
    of_row [] of = unhandled
    of_row (row ∷ others) of = go (of_row others (rest_of (chosen row.0) (P row.0 row.1) (OfRows others) of)) (number == row.0) refl
      where
        this : (number == row.0) ≡ true → P number row.1
        this e =
            let same : number ≡ row.0 = eqb-true number row.0 e in
            subst (λ k. P k row.1) (sym same) (first_of (chosen row.0) (P row.0 row.1) (OfRows others) (ap chosen (sym same) ∙ is_chosen) of)

        go : P number (row_of absent number others) → (b : Bool) → (number == row.0) ≡ b
            → P number (if b then row.1 else row_of absent number others)
        go later true e = this e
        go later false e = later
