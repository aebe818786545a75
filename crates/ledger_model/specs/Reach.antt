-- Reach: which access a process has at a place, and to which page.
use Rattle.std.specs.Prelude.{ℕ, Bool, true, false, if◌then◌else◌, Option, Some, None}
use Rattle.xk_base.specs.declared.ids.Place.{Place}
use Rattle.xk_base.specs.declared.pages.Access.{Access}
use Rattle.xk_base.specs.declared.pages.Access.TheVariants.{Fetch, Load, Store}
use Rattle.xk_base.specs.declared.pages.LoanKind.{LoanKind}
use Rattle.xk_base.specs.declared.pages.LoanKind.TheVariants.{Shared, Exclusive}
use Rattle.xk_base.specs.declared.pages.Right.{Right}
use Rattle.ledger_model.specs.Ledger.{Ledger, Page, PageLoan, Orphan, PageName, Homed, Orphaned, loan_at}
use Rattle.ledger_model.specs.Places.{same_place, first_place}

-- whether a loan has its holder at the place
abbrev pub is_held_at : Place → Option PageLoan → Bool
is_held_at place None = false
is_held_at place (Some loan) = same_place loan.holder place

-- the home of the page that is on loan to a place, or None where none is
unfoldable pub lender_of : ℕ → Ledger → Place → Option Place
lender_of procs ledger place = first_place procs (λ p. is_held_at place (loan_at ledger p))

-- What a place is: the home of a page, the holder place of a loan (with the home of the lent page),
-- the place of an orphan, or free.
pub data Role : Type 0 where
  FreePlace : Role
  HomePlace : Page → Role
  HolderPlace : Place → PageLoan → Role
  OrphanPlace : Orphan → Role

abbrev pub lent_role : Place → Option PageLoan → Role
lent_role home None = FreePlace
lent_role home (Some loan) = HolderPlace home loan

-- the role of a place to which the page with this home is on loan
abbrev pub holder_role : Ledger → Option Place → Role
holder_role ledger None = FreePlace
holder_role ledger (Some home) = lent_role home (loan_at ledger home)

abbrev pub orphan_or_holder : Option Orphan → Role → Role
orphan_or_holder None other = other
orphan_or_holder (Some orphan) other = OrphanPlace orphan

abbrev pub home_or : Option Page → Role → Role
home_or None other = other
home_or (Some page) other = HomePlace page

unfoldable pub role_at : ℕ → Ledger → Place → Role
role_at procs ledger place =
    home_or (ledger.home place) (orphan_or_holder (ledger.orphan place) (holder_role ledger (lender_of procs ledger place)))

-- The table of accesses.
--     The place is            Load   Store                     Fetch
--     home, no loan           yes    where the right has w     where the right has x
--     home, Shared loan       yes    no                        where the right has x
--     home, Exclusive loan    no     no                        no
--     holder place, Shared    yes    no                        no
--     holder place, Exclusive yes    yes                       no
--     any other               no     no                        no
-- The place of an orphan is a holder place.
abbrev pub owner_may : Right → Access → Bool
owner_may right Load = true
owner_may right Store = right.w
owner_may right Fetch = right.x

abbrev pub lender_may : LoanKind → Right → Access → Bool
lender_may Shared right Load = true
lender_may Shared right Store = false
lender_may Shared right Fetch = right.x
lender_may Exclusive right Load = false
lender_may Exclusive right Store = false
lender_may Exclusive right Fetch = false

abbrev pub holder_may : LoanKind → Access → Bool
holder_may Shared Load = true
holder_may Shared Store = false
holder_may Shared Fetch = false
holder_may Exclusive Load = true
holder_may Exclusive Store = true
holder_may Exclusive Fetch = false

abbrev pub home_may : Right → Option PageLoan → Access → Bool
home_may right None access = owner_may right access
home_may right (Some loan) access = lender_may loan.kind right access

abbrev pub may : Role → Access → Bool
may FreePlace access = false
may (HomePlace page) access = home_may page.right page.loan access
may (HolderPlace home loan) access = holder_may loan.kind access
may (OrphanPlace orphan) access = holder_may orphan.kind access

-- the page that stands at a place with that role
abbrev pub page_at_role : Place → Role → Option PageName
page_at_role place FreePlace = None
page_at_role place (HomePlace page) = Some (Homed place)
page_at_role place (HolderPlace home loan) = Some (Homed home)
page_at_role place (OrphanPlace orphan) = Some (Orphaned place)

-- the page that the process of the place reaches there by the access, or None where it hasn't that access
unfoldable pub reach : ℕ → Ledger → Place → Access → Option PageName
reach procs ledger place access =
    if may (role_at procs ledger place) access then page_at_role place (role_at procs ledger place) else None

abbrev pub is_free_role : Role → Bool
is_free_role FreePlace = true
is_free_role (HomePlace page) = false
is_free_role (HolderPlace home loan) = false
is_free_role (OrphanPlace orphan) = false

-- a place that is no home, holder place or orphan's place
unfoldable pub is_free : ℕ → Ledger → Place → Bool
is_free procs ledger place = is_free_role (role_at procs ledger place)
