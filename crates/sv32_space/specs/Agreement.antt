-- Entries and owners agree. An entry names the seat of a page, and says which side of the page its place has and, on the
-- owner's side, the right. The owner table names for each used seat the home of its page and its loan. So rights stand in
-- entries alone, and message numbers in the owner table alone.
--     The page's loan        its home says        the holder's place says
--     none                   Own                  (there is none)
--     Shared                 LentOut              LentIn
--     Exclusive              MutOut               MutIn
--     an orphan, Shared      (there is none)      LentIn
--     an orphan, Exclusive   (there is none)      MutIn
use Rattle.std.specs.Prelude.{◌≡◌, ℕ, ◌+◌, ◌/◌, Bool, true, false, ◌&&◌, is_some, is_none, IsTrue, Option, Some, None}
use Rattle.xk_base.specs.Tables.Circle.{is_pid}
use Rattle.xk_base.specs.Numbers.Limits.{table_frames}
use Rattle.xk_base.specs.declared.ids.Number.{Number}
use Rattle.xk_base.specs.declared.ids.Place.{Place}
use Rattle.xk_base.specs.declared.pages.LoanKind.{LoanKind}
use Rattle.xk_base.specs.declared.pages.LoanKind.TheVariants.{Shared, Exclusive}
use Rattle.xk_base.specs.declared.pages.Right.{Right}
use Rattle.phys_pages.specs.declared.infos.LoanInfo.{LoanInfo}
use Rattle.phys_pages.specs.declared.infos.PageInfo.{PageInfo}
use Rattle.phys_pages.specs.declared.infos.Seat.{Seat}
use Rattle.phys_pages.specs.Owners.{Extent, HasSeat, frame_seat}
use Rattle.ledger_model.specs.Places.{is_user_place}
use Rattle.sv32_space.specs.declared.sides.Side.{Side}
use Rattle.sv32_space.specs.declared.sides.Side.TheVariants.{Own, LentOut, LentIn, MutOut, MutIn}
use Rattle.sv32_space.specs.declared.sides.Entry.{Entry}
use Rattle.sv32_space.specs.declared.sides.Entry.TheVariants.{Free, At, OnConsole}
use Rattle.sv32_space.specs.Entries.{Entries}

-- what the owner table says of each seat; none where the seat is free
abbrev pub Infos : Type 0
Infos = Seat → Option PageInfo

-- ---- what the owner table says of a page

-- a page at its home, without a loan
abbrev pub owned_by : Place → PageInfo
owned_by home = record { home = Some home; loan = None }

-- a page on loan; without a home it is an orphan
abbrev pub on_loan : Option Place → LoanInfo → PageInfo
on_loan home loan = record { home = home; loan = Some loan }

-- ---- the sides of a loan, by its kind

-- what the lender's entry says. The former right of a page on Exclusive loan has w
abbrev pub lender_side : LoanKind → Right → Side
lender_side Shared right = LentOut right
lender_side Exclusive right = MutOut right.x

-- what the holder's entry says
abbrev pub holder_side : LoanKind → Side
holder_side Shared = LentIn
holder_side Exclusive = MutIn

-- ---- the parts of an entry and of an info. Where there is no such part, any value serves

abbrev pub right_of_side : Side → Right
right_of_side (Own right) = right
right_of_side (LentOut right) = right
right_of_side LentIn = record { w = false; x = false }
right_of_side (MutOut x) = record { w = true; x = x }
right_of_side MutIn = record { w = false; x = false }

abbrev pub right_of_entry : Entry → Right
right_of_entry Free = record { w = false; x = false }
right_of_entry (At side seat) = right_of_side side
right_of_entry (OnConsole w) = record { w = w; x = false }

-- the right, or former right, that a home's entry tells
abbrev pub right_in : Option Entry → Right
right_in None = record { w = false; x = false }
right_in (Some entry) = right_of_entry entry

-- the seat that an entry names
abbrev pub seat_of_entry : Entry → Seat
seat_of_entry Free = frame_seat 0
seat_of_entry (At side seat) = seat
seat_of_entry (OnConsole w) = frame_seat 0

abbrev pub seat_in : Option Entry → Seat
seat_in None = frame_seat 0
seat_in (Some entry) = seat_of_entry entry

abbrev pub home_in : Option PageInfo → Option Place
home_in None = None
home_in (Some info) = info.home

abbrev pub loan_in : Option PageInfo → Option LoanInfo
loan_in None = None
loan_in (Some info) = info.loan

abbrev pub holder_of : Option LoanInfo → Place
holder_of None = record { pid = record { 0 = 0 }; vpn = record { 0 = 0 } }
holder_of (Some loan) = loan.holder

abbrev pub number_of : Option LoanInfo → Number
number_of None = record { 0 = 0 }
number_of (Some loan) = loan.number

-- the loan of that kind, with the holder and the number that the info tells
abbrev pub loan_told : LoanKind → Option PageInfo → LoanInfo
loan_told kind info = record { holder = holder_of (loan_in info); kind = kind; number = number_of (loan_in info) }

-- the loan of that kind to that place, with the number that the info tells
abbrev pub loan_to : Place → LoanKind → Option PageInfo → LoanInfo
loan_to holder kind info = record { holder = holder; kind = kind; number = number_of (loan_in info) }

-- a used seat whose page has neither a home nor a loan
abbrev pub is_nobody_info : PageInfo → Bool
is_nobody_info info = is_none info.home && is_none info.loan

abbrev pub is_nobody : Option PageInfo → Bool
is_nobody None = false
is_nobody (Some info) = is_nobody_info info

-- ---- the agreement

-- The entries of `procs` processes agree with the owners.
pub record EntriesAgree (procs : ℕ) (E : Entries) (I : Infos) : Type 0 where
  -- each place in a window of a process has an entry, and no other place has one
  pub spelled : (p : Place) → is_some (E p) ≡ is_user_place procs p
  -- each used seat has a home or a loan
  pub used : (s : Seat) → is_nobody (I s) ≡ false
  -- the entries of its home and of its loan's holder name it, with the sides that the loan gives
  pub home : (s : Seat) (home : Place) → I s ≡ Some (owned_by home) → E home ≡ Some (At (Own (right_in (E home))) s)
  pub lender : (s : Seat) (home : Place) (loan : LoanInfo) → I s ≡ Some (on_loan (Some home) loan)
      → E home ≡ Some (At (lender_side loan.kind (right_in (E home))) s)
  pub holder : (s : Seat) (home : Option Place) (loan : LoanInfo) → I s ≡ Some (on_loan home loan)
      → E loan.holder ≡ Some (At (holder_side loan.kind) s)
  -- and each entry that names a seat is that of its home or of its holder
  pub own : (q : Place) (right : Right) (s : Seat) → E q ≡ Some (At (Own right) s) → I s ≡ Some (owned_by q)
  pub lent_out : (q : Place) (right : Right) (s : Seat) → E q ≡ Some (At (LentOut right) s)
      → I s ≡ Some (on_loan (Some q) (loan_told Shared (I s)))
  pub mut_out : (q : Place) (x : Bool) (s : Seat) → E q ≡ Some (At (MutOut x) s)
      → I s ≡ Some (on_loan (Some q) (loan_told Exclusive (I s)))
  pub lent_in : (q : Place) (s : Seat) → E q ≡ Some (At LentIn s)
      → I s ≡ Some (on_loan (home_in (I s)) (loan_to q Shared (I s)))
  pub mut_in : (q : Place) (s : Seat) → E q ≡ Some (At MutIn s)
      → I s ≡ Some (on_loan (home_in (I s)) (loan_to q Exclusive (I s)))

-- how many processes there are, as a table of owners tells it, which begins after the frames of their tables
abbrev pub procs_of : Extent → ℕ
procs_of table = table.first / 21

-- A frame of the table has no page. The kernel keeps one free to exchange pages with.
pub record HasUnusedFrame (table : Extent) (I : Infos) : Type 0 where
  pub frame : ℕ
  pub within : HasSeat table (frame_seat frame)
  pub free : I (frame_seat frame) ≡ None

-- Entries and owners agree, with n processes. The owner table covers the frames of RAM, which are `frames`, from the first
-- after the tables on; the spaces of the pids 2 to n + 1 are made; and their entries agree with the owners.
pub record Agrees (is_made : ℕ → Type 0) (frames : ℕ) (E : Entries) (table : Extent) (I : Infos) : Type 0 where
  pub first : table.first ≡ table_frames (procs_of table)
  pub last : table.first + table.frames ≡ frames
  pub made : (pid : ℕ) → IsTrue (is_pid (procs_of table) pid) → is_made pid
  pub entries : EntriesAgree (procs_of table) E I
