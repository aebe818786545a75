-- What is asked of the places of a run, by what `at` tells of each.
use Rattle.std.specs.Prelude.{ℕ, Bool, true, false, not, is_some}
use Rattle.std.specs.List.{list_any}
use Rattle.xk_base.specs.declared.ids.Pid.{Pid}
use Rattle.xk_base.specs.declared.ids.Place.{Place}
use Rattle.xk_base.specs.declared.windows.Window.TheVariants.{Map}
use Rattle.xk_base.specs.declared.pages.Right.{Right}
use Rattle.ledger_model.specs.Conditions.{is_console, is_within}
use Rattle.ledger_model.specs.Ledger.{Ledger}
use Rattle.ledger_model.specs.LeastRun.{window_pages, window_place}
use Rattle.ledger_model.specs.Places.{run}
use Rattle.ledger_model.specs.RunTests.{any_used, any_free, any_on_loan, any_lacks}
use Rattle.page_views.specs.declared.places.Here.{Here}
use Rattle.page_views.specs.declared.places.Here.TheVariants.{Nothing, Own, Lent}
use Rattle.page_views.specs.declared.run_tests.RunTest.{RunTest}
use Rattle.page_views.specs.declared.run_tests.RunTest.TheVariants.{Used, Free, OnLoan, Lacks}

abbrev pub is_nothing : Here → Bool
is_nothing Nothing = true
is_nothing (Own right console loan) = false
is_nothing (Lent kind lender number) = false

abbrev pub is_loan_here : Here → Bool
is_loan_here Nothing = false
is_loan_here (Own right console loan) = is_some loan
is_loan_here (Lent kind lender number) = true

abbrev pub lacks_here : Right → Here → Bool
lacks_here asked Nothing = false
lacks_here asked (Own right console loan) = not (is_within asked right)
lacks_here asked (Lent kind lender number) = false

abbrev pub passes : RunTest → Here → Bool
passes Used here = not (is_nothing here)
passes Free here = is_nothing here
passes OnLoan here = is_loan_here here
passes (Lacks right) here = lacks_here right here

-- a place of the run passes the test
abbrev pub any_passes : RunTest → ℕ → Ledger → Place → ℕ → Bool
any_passes Used procs ledger first n = any_used procs ledger first n
any_passes Free procs ledger first n = any_free procs ledger first n
any_passes OnLoan procs ledger first n = any_on_loan procs ledger first n
any_passes (Lacks right) procs ledger first n = any_lacks right ledger first n

-- a place of a process's Map window has the console
abbrev pub has_console : Ledger → Pid → Bool
has_console ledger pid = list_any (λ p. is_console (ledger.home p)) (run (window_place pid Map 0) (window_pages Map))
