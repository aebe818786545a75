-- What a place is and where an access leads, by the entry of the place.
use Rattle.std.specs.Prelude.{Bool, true, false, if◌then◌else◌, Option, Some, None}
use Rattle.xk_base.specs.declared.pages.LoanKind.TheVariants.{Shared, Exclusive}
use Rattle.phys_pages.specs.declared.infos.PageInfo.{PageInfo}
use Rattle.xk_base.specs.declared.pages.Access.{Access}
use Rattle.phys_pages.specs.declared.infos.Seat.{Seat}
use Rattle.phys_pages.specs.declared.infos.Seat.TheVariants.{Frame, Slot}
use Rattle.ledger_model.specs.Reach.{owner_may}
use Rattle.sv32_space.specs.declared.sides.Side.{Side}
use Rattle.sv32_space.specs.declared.sides.Side.TheVariants.{Own, LentOut, LentIn, MutOut, MutIn}
use Rattle.sv32_space.specs.Agreement.{home_in, loan_in, number_of}
use Rattle.sv32_space.specs.declared.sides.Entry.{Entry}
use Rattle.sv32_space.specs.declared.sides.Entry.TheVariants.{Free, At, OnConsole}
use Rattle.sv32_space.specs.EntryReach.{side_may}
use Rattle.page_views.specs.declared.places.Here.{Here}
use Rattle.page_views.specs.declared.places.Here.TheVariants as here
use Rattle.page_views.specs.declared.targets.Target.{Target}
use Rattle.page_views.specs.declared.targets.Target.TheVariants.{Page, Console, Nothing}

-- where an access leads: to the frame of a page, to the console, or nowhere. A page that is out isn't reached before it is
-- brought in
abbrev pub seat_target : Bool → Seat → Target
seat_target given (Frame f) = if given then Page f else Nothing
seat_target given (Slot s) = Nothing

abbrev pub entry_target : Option Entry → Access → Target
entry_target None access = Nothing
entry_target (Some Free) access = Nothing
entry_target (Some (At side seat)) access = seat_target (side_may side access) seat
entry_target (Some (OnConsole w)) access = if owner_may (record { w = w; x = false }) access then Console else Nothing

abbrev pub is_page_target : Target → Bool
is_page_target (Page f) = true
is_page_target Console = false
is_page_target Nothing = false

abbrev pub is_given_target : Target → Bool
is_given_target (Page f) = true
is_given_target Console = true
is_given_target Nothing = false

-- what `at` tells of a side, by what the owner table says of the seat
abbrev pub side_here : Side → Option PageInfo → Here
side_here (Own right) info = here.Own right false None
side_here (LentOut right) info = here.Own right false (loan_in info)
side_here LentIn info = here.Lent Shared (home_in info) (number_of (loan_in info))
side_here (MutOut x) info = here.Own (record { w = true; x = x }) false (loan_in info)
side_here MutIn info = here.Lent Exclusive (home_in info) (number_of (loan_in info))
