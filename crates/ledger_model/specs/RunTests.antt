-- What is asked of the places of a run before their pages change.
use Rattle.std.specs.Prelude.{ℕ, ◌+◌, Bool, true, false, not, ◌&&◌, ◌||◌, nat_le, is_some, Option, Some, None}
use Rattle.std.specs.List.{list_any}
use Rattle.xk_base.specs.declared.ids.Place.{Place}
use Rattle.xk_base.specs.declared.pages.LoanKind.{LoanKind}
use Rattle.xk_base.specs.declared.pages.LoanKind.TheVariants.{Shared, Exclusive}
use Rattle.xk_base.specs.declared.pages.Right.{Right}
use Rattle.xk_base.specs.declared.windows.Window.{Window}
use Rattle.xk_base.specs.Numbers.Windows.{first_page, last_page}
use Rattle.ledger_model.specs.Conditions.{is_console, is_within}
use Rattle.ledger_model.specs.Ledger.{Ledger, Page}
use Rattle.ledger_model.specs.Places.{run, first_place}
use Rattle.ledger_model.specs.Reach.{Role, FreePlace, HomePlace, HolderPlace, OrphanPlace, role_at, is_free}

-- the n pages from a page number on lie in the window
abbrev pub fits_window : Window → ℕ → ℕ → Bool
fits_window window first n = nat_le (first_page window) first && nat_le (first + n) (last_page window + 1)

-- a place of the run is a home, a holder place or an orphan's place
unfoldable pub any_used : ℕ → Ledger → Place → ℕ → Bool
any_used procs ledger first n = list_any (λ p. not (is_free procs ledger p)) (run first n)

-- a place of the run has neither a page of its process nor a page that is lent to it
unfoldable pub any_free : ℕ → Ledger → Place → ℕ → Bool
any_free procs ledger first n = list_any (is_free procs ledger) (run first n)

-- the page at a place of that role is on loan, on the lender's side or on the holder's; an orphan counts as lent to
-- its holder
abbrev pub is_on_loan : Role → Bool
is_on_loan FreePlace = false
is_on_loan (HomePlace page) = is_some page.loan
is_on_loan (HolderPlace home loan) = true
is_on_loan (OrphanPlace orphan) = true

-- a page of the run is on loan on either side
unfoldable pub any_on_loan : ℕ → Ledger → Place → ℕ → Bool
any_on_loan procs ledger first n = list_any (λ p. is_on_loan (role_at procs ledger p)) (run first n)

-- the right asks for W or X where the page has it not
abbrev pub asks_more : Right → Option Page → Bool
asks_more asked None = false
asks_more asked (Some page) = not (is_within asked page.right)

-- a page of the run, at its home, has not what the right asks for
unfoldable pub any_lacks : Right → Ledger → Place → ℕ → Bool
any_lacks asked ledger first n = list_any (λ p. asks_more asked (ledger.home p)) (run first n)

-- a page of the run is the console
unfoldable pub any_console : Ledger → Place → ℕ → Bool
any_console ledger first n = list_any (λ p. is_console (ledger.home p)) (run first n)

-- a page of the run can't be sent: it is on loan on either side, or is the console, or is to be lent mutably and has no W
abbrev pub any_not_sent : ℕ → Ledger → Place → ℕ → Bool → Bool
any_not_sent procs ledger first n mutably =
    any_on_loan procs ledger first n || any_console ledger first n
    || (mutably && any_lacks (record { w = true; x = false }) ledger first n)

-- a loan of that kind lends mutably
abbrev pub is_exclusive : LoanKind → Bool
is_exclusive Shared = false
is_exclusive Exclusive = true

-- a process has mapped the console
unfoldable pub console_mapped : ℕ → Ledger → Bool
console_mapped procs ledger = is_some (first_place procs (λ p. is_console (ledger.home p)))
