-- Ledger steps by the places of their pages. Where a step of a loan goes page by page, what is done so far is such a step:
-- the first i pages of the run have changed. `make`, `remove`, `reduce`, `lend` and `give` are by places already.
use Rattle.std.specs.Prelude.{ℕ, Bool, Option, Some, None, if◌then◌else◌}
use Rattle.std.specs.Option.{option_and_then, option_map}
use Rattle.xk_base.specs.declared.ids.Place.{Place}
use Rattle.ledger_model.specs.Ledger.{Ledger, Page, PageLoan, Orphan}
use Rattle.ledger_model.specs.Places.{same_place, in_run, moved}
use Rattle.ledger_model.specs.Steps.{orphan_with}

-- a page comes to a place
unfoldable pub place_page : Place → Page → Ledger → Ledger
place_page place page ledger = record ledger { home = λ p. if same_place p place then Some page else ledger.home p }

abbrev pub without_loan : Page → Page
without_loan page = record page { loan = None }

-- the loans of the pages at these homes end
unfoldable pub end_at : (Place → Bool) → Ledger → Ledger
end_at places ledger = record ledger {
  home = λ p. if places p then option_map without_loan (ledger.home p) else ledger.home p;
}

abbrev pub loan_held_at : Place → PageLoan → PageLoan
loan_held_at to loan = record loan { holder = to }

abbrev pub page_held_at : Place → Page → Page
page_held_at to page = record page { loan = option_map (loan_held_at to) page.loan }

-- the loan of page i of the run at `from` has its holder at place i of the run at `to`
unfoldable pub pass_run : Place → ℕ → Place → Ledger → Ledger
pass_run from n to ledger = record ledger {
  home = λ p. if in_run from n p then option_map (page_held_at (moved from to p)) (ledger.home p) else ledger.home p;
}

-- the orphans at these places go
unfoldable pub forget_orphans : (Place → Bool) → Ledger → Ledger
forget_orphans places ledger = record ledger { orphan = λ p. if places p then None else ledger.orphan p }

-- the orphan that a page on loan becomes
abbrev pub orphan_of_page : Page → Option Orphan
orphan_of_page page = option_and_then (λ loan. orphan_with loan page.contents) page.loan

-- the homes of the run at `from` go, and page i becomes an orphan at place i of the run at `to`, which held it
unfoldable pub orphan_run : Place → ℕ → Place → Ledger → Ledger
orphan_run from n to ledger = record {
  home = λ p. if in_run from n p then None else ledger.home p;
  orphan = λ q. if in_run to n q then option_and_then orphan_of_page (ledger.home (moved to from q)) else ledger.orphan q;
}
