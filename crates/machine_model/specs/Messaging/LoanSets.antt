-- The loans of many messages at once: the ledger steps `end` and `orphan` for each number of a set.
use Rattle.std.specs.Prelude.{ℕ, Bool, false, if◌then◌else◌, Option, Some, None}
use Rattle.std.specs.Option.{option_and_then, option_map, option_or}
use Rattle.xk_base.specs.declared.ids.Number.{Number}
use Rattle.ledger_model.specs.Ledger.{Ledger, Page, PageLoan, Orphan}
use Rattle.ledger_model.specs.Reach.{lender_of}
use Rattle.ledger_model.specs.Steps.{orphan_with}

-- ---- end

-- the loan of a page, but for one of these numbers
abbrev pub loan_but : (Number → Bool) → Option PageLoan → Option PageLoan
loan_but ends o = option_and_then (λ loan. if ends loan.number then None else Some loan) o

-- the page without such a loan
abbrev pub freed_but : (Number → Bool) → Page → Page
freed_but ends page = record page { loan = loan_but ends page.loan }

-- an orphan, but for one of these numbers
abbrev pub orphan_but : (Number → Bool) → Option Orphan → Option Orphan
orphan_but ends o = option_and_then (λ orphan. if ends orphan.number then None else Some orphan) o

-- loans of these numbers become none, and orphans of these numbers go
unfoldable pub end_loans : (Number → Bool) → Ledger → Ledger
end_loans ends ledger = record {
  home = λ p. option_map (freed_but ends) (ledger.home p);
  orphan = λ p. orphan_but ends (ledger.orphan p);
}

-- ---- orphan

-- the loan is one of these numbers
abbrev pub is_lent_by : (Number → Bool) → Option PageLoan → Bool
is_lent_by goes None = false
is_lent_by goes (Some loan) = goes loan.number

-- a page, unless it is on loan by one of these numbers
abbrev pub page_but : (Number → Bool) → Option Page → Option Page
page_but goes o = option_and_then (λ page. if is_lent_by goes page.loan then None else Some page) o

-- the orphan that a page on loan by one of these numbers becomes
abbrev pub orphan_of_page : (Number → Bool) → Page → Option Orphan
orphan_of_page goes page =
    option_and_then (λ loan. if goes loan.number then orphan_with loan page.contents else None) page.loan

-- homes of these numbers go, and their holder places become orphans of the same kind, bytes and number
unfoldable pub orphan_loans : ℕ → (Number → Bool) → Ledger → Ledger
orphan_loans procs goes ledger = record {
  home = λ p. page_but goes (ledger.home p);
  orphan = λ q. option_or
      (option_and_then (orphan_of_page goes) (option_and_then ledger.home (lender_of procs ledger q)))
      (ledger.orphan q);
}
