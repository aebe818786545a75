-- An order that is played move by move leads where it leads.
use Rattle.std.proofs.Common.{◌≡◌, ◌<◌, ◌≤◌, ◌+◌, ℕ, List, length, drop, get_or, [], ◌∷◌, ◌++◌, Option, Some, None, true, is_some, IsSome, refl, sym, ap, ◌∙◌}
use Rattle.std.specs.Option.{option_and_then}
use Rattle.std.proofs.lemmas.Bool.{false≢true}
use Rattle.std.proofs.lemmas.List.{drop_all, drop_more}
use Rattle.std.proofs.lemmas.Option.{none-some}
use Rattle.order_model.specs.declared.moves.Move.{Move}
use Rattle.order_model.specs.Moves.{Asked, Point, leads, leads_by}
use Rattle.order_player.specs.Runs.{IsReached}

module _ (asked : Asked) (p : Point) (move : Move) (rest : List Move) where
  -- where an order leads somewhere, so does its first move
  first_leads : IsSome (leads_by asked p (move ∷ rest)) → IsSome (leads asked p move)
  unfolding leads_by
  first_leads h = go (leads asked p move) h
    where
      go : (o : Option Point) → is_some (option_and_then (λ next. leads_by asked next rest) o) ≡ true → IsSome o
      go None h = absurd (false≢true h)
      go (Some next) h = refl

  -- and behind it the rest leads where all do
  rest_leads : (next : Point) → leads asked p move ≡ Some next → leads_by asked p (move ∷ rest) ≡ leads_by asked next rest
  unfolding leads_by
  rest_leads next is = ap (option_and_then (λ next. leads_by asked next rest)) is

none_lead : (asked : Asked) (p : Point) → leads_by asked p [] ≡ Some p
unfolding leads_by
none_lead asked p = refl

-- the moves of an order before one of this number were played, so that the others lead where all do
module _ (asked : Asked) (start p : Point) (order : List Move) (i : ℕ) (so_far : leads_by asked p (drop i order) ≡ leads_by asked start order) where
  -- then the next may be made
  pub next_leads : (d : Move) → i < length order → IsSome (leads_by asked start order) → IsSome (leads asked p (get_or order i d))
  next_leads d inside somewhere =
      let split = drop_more order i d inside in
      let there = ap is_some (sym (ap (leads_by asked p) split) ∙ so_far) ∙ somewhere in
      first_leads asked p (get_or order i d) (drop (i + 1) order) there

  -- and where it was made, those behind it lead where all do
  pub later_lead : (d : Move) (next : Point) → i < length order → leads asked p (get_or order i d) ≡ Some next
      → leads_by asked next (drop (i + 1) order) ≡ leads_by asked start order
  later_lead d next inside is =
      sym (rest_leads asked p (get_or order i d) (drop (i + 1) order) next is)
      ∙ (sym (ap (leads_by asked p) (drop_more order i d inside)) ∙ so_far)

  -- all were played
  pub all_led : length order ≤ i → leads_by asked start order ≡ Some p
  all_led end = sym so_far ∙ (ap (leads_by asked p) (drop_all i order end) ∙ none_lead asked p)

-- ---- points that are reached

leads_by-more : (asked : Asked) (order : List Move) (p q : Point) (move : Move) → leads_by asked p order ≡ Some q
    → leads_by asked p (order ++ move ∷ []) ≡ leads_by asked q (move ∷ [])
unfolding leads_by
leads_by-more asked [] p q move is =
    ap (λ (o : Option Point). option_and_then (λ (x : Point). leads_by asked x (move ∷ [])) o) is
leads_by-more asked (first ∷ order) p q move is = go (leads asked p first) is (λ next. leads_by-more asked order next q move)
  where
    go : (o : Option Point) → option_and_then (λ (next : Point). leads_by asked next order) o ≡ Some q
        → ((next : Point) → leads_by asked next order ≡ Some q → leads_by asked next (order ++ move ∷ []) ≡ leads_by asked q (move ∷ []))
        → option_and_then (λ (next : Point). leads_by asked next (order ++ move ∷ [])) o ≡ leads_by asked q (move ∷ [])
    go None none later = absurd (none-some q none)
    go (Some next) there later = later next there

one_move : (asked : Asked) (p next : Point) (move : Move) → leads asked p move ≡ Some next → leads_by asked p (move ∷ []) ≡ Some next
unfolding leads_by
one_move asked p next move is = ap (λ (o : Option Point). option_and_then (λ (x : Point). leads_by asked x []) o) is

pub reached_start : (asked : Asked) (p : Point) → IsReached asked p p
reached_start asked p = record { order = []; leads = none_lead asked p }

pub reached_on : (asked : Asked) (start p next : Point) (move : Move) → IsReached asked start p → leads asked p move ≡ Some next
    → IsReached asked start next
reached_on asked start p next move reached is = record {
  order = reached.order ++ move ∷ [];
  leads = leads_by-more asked reached.order start p move reached.leads ∙ one_move asked p next move is;
}
