-- The two listings of a ledger. The table of its pages is the first and then the second.
use Rattle.std.specs.Prelude.{ℕ, is_some, List}
use Rattle.xk_base.specs.declared.ids.Place.{Place}
use Rattle.ledger_model.specs.Ledger.{Ledger}
use Rattle.ledger_model.specs.Places.{listed_places}

-- the homes, in the order of places
unfoldable pub home_places : ℕ → Ledger → List Place
home_places procs ledger = listed_places procs (λ p. is_some (ledger.home p))

-- the places of orphans, in the order of places
unfoldable pub orphan_places : ℕ → Ledger → List Place
orphan_places procs ledger = listed_places procs (λ p. is_some (ledger.orphan p))
