-- The table of a state's pages: a line for each page, in the order of homes, and then one for each orphan, in the order of the
-- places where they are held.
use Rattle.std.specs.Prelude.{ℕ, Bool, true, false, List, [], ◌++◌, Option, Some, None, if◌then◌else◌, codes, decimal}
use Rattle.std.specs.List.{flat_map}
use Rattle.ledger_model.specs.Listings.{home_places, orphan_places}
use Rattle.machine_model.specs.State.Machine.{Machine}
use Rattle.phys_pages.specs.declared.infos.LoanInfo.{LoanInfo}
use Rattle.trace_text.specs.Words.{hex_text}
use Rattle.page_views.specs.Here.{here_at}
use Rattle.page_views.specs.declared.places.Here.{Here}
use Rattle.page_views.specs.declared.places.Here.TheVariants.{Lent, Nothing, Own}
use Rattle.xk_base.specs.declared.ids.Number.{Number}
use Rattle.xk_base.specs.declared.ids.Place.{Place}
use Rattle.xk_base.specs.declared.pages.LoanKind.{LoanKind}
use Rattle.xk_base.specs.declared.pages.LoanKind.TheVariants.{Exclusive, Shared}
use Rattle.xk_base.specs.declared.pages.Right.{Right}

-- a place: its pid in decimal, and its page number as five hexadecimal digits
abbrev pub place_text : Place → List ℕ
place_text place = decimal place.pid.0 ++ codes " " ++ hex_text 5 place.vpn.0

-- a right: a page may be read, and written or not, and executed or not
abbrev pub right_text : Right → List ℕ
right_text right = codes "r" ++ (if right.w then codes "w" else codes "-") ++ (if right.x then codes "x" else codes "-")

abbrev pub kind_text : LoanKind → List ℕ
kind_text Shared = codes "lent"
kind_text Exclusive = codes "mutable"

-- the number of a message
abbrev pub message_text : Number → List ℕ
message_text number = codes " msg " ++ decimal number.0

-- a loan: its kind, where its holder has the page, and the number of its message
abbrev pub loan_text : LoanInfo → List ℕ
loan_text loan = kind_text loan.kind ++ codes " to " ++ place_text loan.holder ++ message_text loan.number

-- what is said of a page behind its right: its loan, or that it is the console, or that it is its owner's alone
abbrev pub hold_text : Bool → Option LoanInfo → List ℕ
hold_text console (Some loan) = loan_text loan
hold_text true None = codes "console"
hold_text false None = codes "own"

-- the line of a page at its home. Its right is its owner's, also while it is on loan
abbrev pub page_line : Place → Here → List ℕ
page_line place (Own right console loan) =
    place_text place ++ codes " " ++ right_text right ++ codes " " ++ hold_text console loan ++ codes "\n"
page_line place (Lent kind lender number) = []
page_line place Nothing = []

-- the line of an orphan, a lent page without a lender, at the place where it is held
abbrev pub orphan_line : Place → Here → List ℕ
orphan_line place (Lent kind None number) =
    codes "orphan " ++ place_text place ++ codes " " ++ kind_text kind ++ message_text number ++ codes "\n"
orphan_line place (Lent kind (Some lender) number) = []
orphan_line place (Own right console loan) = []
orphan_line place Nothing = []

-- what is at a place of the machine
abbrev pub here_in : Machine → Place → Here
here_in m place = here_at m.processes m.ledger place

-- the lines of all pages, and of all orphans
unfoldable pub pages_text : Machine → List ℕ
pages_text m = flat_map (λ place. page_line place (here_in m place)) (home_places m.processes m.ledger)

unfoldable pub orphans_text : Machine → List ℕ
orphans_text m = flat_map (λ place. orphan_line place (here_in m place)) (orphan_places m.processes m.ledger)

-- the table
abbrev pub table_of : Machine → List ℕ
table_of m = pages_text m ++ orphans_text m
