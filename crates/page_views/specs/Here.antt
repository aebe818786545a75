-- What the ledger has at a place, as `at` tells it.
use Rattle.std.specs.Prelude.{ℕ, not, Some, None}
use Rattle.std.specs.Option.{option_map}
use Rattle.xk_base.specs.declared.ids.Place.{Place}
use Rattle.phys_pages.specs.declared.infos.LoanInfo.{LoanInfo}
use Rattle.ledger_model.specs.Ledger.{Ledger, PageLoan, has_bytes}
use Rattle.ledger_model.specs.Reach.{Role, FreePlace, HomePlace, HolderPlace, OrphanPlace, role_at}
use Rattle.page_views.specs.declared.places.Here.{Here}
use Rattle.page_views.specs.declared.places.Here.TheVariants.{Nothing, Own, Lent}

abbrev pub info_of_loan : PageLoan → LoanInfo
info_of_loan loan = record { holder = loan.holder; kind = loan.kind; number = loan.number }

-- by what the place is: a home, a holder place of a loan, an orphan's place, or none of these
abbrev pub here_of : Role → Here
here_of FreePlace = Nothing
here_of (HomePlace page) = Own page.right (not (has_bytes page.contents)) (option_map info_of_loan page.loan)
here_of (HolderPlace home loan) = Lent loan.kind (Some home) loan.number
here_of (OrphanPlace orphan) = Lent orphan.kind None orphan.number

abbrev pub here_at : ℕ → Ledger → Place → Here
here_at procs ledger place = here_of (role_at procs ledger place)
