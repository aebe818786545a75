-- Small ledgers: a ledger as two lists of entries, pages by their homes and orphans by their places.
use Rattle.std.specs.Prelude.{ℕ, Bool, true, ◌&&◌, if◌then◌else◌, List, [], ◌∷◌}
use Rattle.std.specs.List.{find}
use Rattle.std.specs.Option.{option_map}
use Rattle.xk_base.specs.declared.ids.Place.{Place}
use Rattle.ledger_model.specs.declared.small.LoanEntry.{LoanEntry}
use Rattle.ledger_model.specs.declared.small.OrphanEntry.{OrphanEntry}
use Rattle.ledger_model.specs.declared.small.PageEntry.{PageEntry}
use Rattle.ledger_model.specs.declared.small.PlaceRole.{PlaceRole}
use Rattle.ledger_model.specs.declared.small.PlaceRole.TheVariants as role
use Rattle.ledger_model.specs.declared.small.Reached.{Reached}
use Rattle.ledger_model.specs.declared.small.Reached.TheVariants as reached
use Rattle.ledger_model.specs.Ledger.{Ledger, Console, Bytes, Page, PageLoan, Orphan, PageName, Homed, Orphaned}
use Rattle.ledger_model.specs.Places.{same_place, is_before, is_user_place}
use Rattle.ledger_model.specs.Reach.{Role, FreePlace, HomePlace, HolderPlace, OrphanPlace}
use Rattle.ledger_model.specs.Steps.{zero_page}

abbrev pub loan_of_entry : LoanEntry → PageLoan
loan_of_entry e = record { holder = e.holder; kind = e.kind; number = e.number }

-- the page of an entry; its bytes are zeros
abbrev pub page_of_entry : PageEntry → Page
page_of_entry e = record {
  right = e.right;
  contents = if e.console then Console else Bytes zero_page;
  loan = option_map loan_of_entry e.loan;
}

abbrev pub orphan_of_entry : OrphanEntry → Orphan
orphan_of_entry e = record { kind = e.kind; bytes = zero_page; number = e.number }

-- the ledger that two lists spell
unfoldable pub ledger_of : List PageEntry → List OrphanEntry → Ledger
ledger_of pages orphans = record {
  home = λ p. option_map page_of_entry (find (λ e. same_place e.home p) pages);
  orphan = λ p. option_map orphan_of_entry (find (λ e. same_place e.holder p) orphans);
}

abbrev pub is_before_first : Place → List PageEntry → Bool
is_before_first p [] = true
is_before_first p (e ∷ es) = is_before p e.home

-- the homes of the entries are user places of the processes and ascend
abbrev pub is_listed : ℕ → List PageEntry → Bool
is_listed procs [] = true
is_listed procs (e ∷ es) = is_user_place procs e.home && (is_before_first e.home es && is_listed procs es)

-- the page that an answer names
abbrev pub name_of : Reached → PageName
name_of (reached.Page p) = Homed p
name_of (reached.Orphan p) = Orphaned p

-- the role that an answer tells
abbrev pub role_of : PlaceRole → Role
role_of role.Free = FreePlace
role_of (role.Home e) = HomePlace (page_of_entry e)
role_of (role.Holder home e) = HolderPlace home (loan_of_entry e)
role_of (role.Orphan e) = OrphanPlace (orphan_of_entry e)
