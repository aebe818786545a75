-- What a change of the ledger leaves of the loan of one number: each of its pages at its home, and each of its orphans, as it is.
use Rattle.std.specs.Prelude.{◌≡◌, if◌then◌else◌, Option, Some, None}
use Rattle.std.specs.Option.{option_and_then}
use Rattle.xk_base.specs.declared.ids.Number.{Number}
use Rattle.xk_base.specs.declared.ids.Place.{Place}
use Rattle.ledger_model.specs.Ledger.{Ledger, Page, Orphan}
use Rattle.ledger_model.specs.Loans.{same_number}
use Rattle.ledger_model.specs.Steps.{has_number}

-- the page, if it is on loan by that number
abbrev pub lent_page_of : Number → Option Page → Option Page
lent_page_of number o = option_and_then (λ page. if has_number number page.loan then Some page else None) o

-- the orphan, if it is one of that number
abbrev pub orphan_of : Number → Option Orphan → Option Orphan
orphan_of number o = option_and_then (λ orphan. if same_number orphan.number number then Some orphan else None) o

-- pages on loan by the number and orphans of it are the same, with their rights and their bytes
pub record Leaves (number : Number) (before after : Ledger) : Type 0 where
  pub homes : (p : Place) → lent_page_of number (after.home p) ≡ lent_page_of number (before.home p)
  pub orphans : (p : Place) → orphan_of number (after.orphan p) ≡ orphan_of number (before.orphan p)
