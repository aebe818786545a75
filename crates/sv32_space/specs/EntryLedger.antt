-- The ledger that entries, owners and the bytes of seats make. At a home the entry tells the right, the owner table the
-- loan; at a holder's place an orphan stands where the owner table has no home for the seat. A page that is out is there
-- like any other: its seat is a slot.
use Rattle.std.specs.Prelude.{◌≡◌, ℕ, ◌+◌, ◌-◌, Bool, true, false, nat_lt, is_none, is_some, IsTrue, List, Option, Some, None}
use Rattle.std.specs.Prelude.{if◌then◌else◌}
use Rattle.std.specs.Option.{option_and_then, option_map}
use Rattle.xk_base.specs.declared.ids.Place.{Place}
use Rattle.xk_base.specs.Tables.Counting.{count_below}
use Rattle.xk_base.specs.declared.pages.LoanKind.TheVariants.{Exclusive}
use Rattle.phys_pages.specs.Owners.{Extent, frame_seat, slot_seat}
use Rattle.phys_pages.specs.declared.infos.LoanInfo.{LoanInfo}
use Rattle.phys_pages.specs.declared.infos.PageInfo.{PageInfo}
use Rattle.phys_pages.specs.declared.infos.Seat.{Seat}
use Rattle.ledger_model.specs.Ledger.{Ledger, Console, Bytes, Page, PageLoan, Orphan, loan_at}
use Rattle.ledger_model.specs.Places.{is_user_place}
use Rattle.sv32_space.specs.declared.sides.Side.{Side}
use Rattle.sv32_space.specs.declared.sides.Side.TheVariants.{Own, LentOut, LentIn, MutOut, MutIn}
use Rattle.sv32_space.specs.Agreement.{Infos, loan_in, right_of_side}
use Rattle.sv32_space.specs.declared.sides.Entry.{Entry}
use Rattle.sv32_space.specs.declared.sides.Entry.TheVariants.{Free, At, OnConsole}
use Rattle.sv32_space.specs.Entries.{Entries}

-- what the page at each seat holds
abbrev pub SeatBytes : Type 0
SeatBytes = Seat → List ℕ

abbrev pub page_loan : LoanInfo → PageLoan
page_loan loan = record { holder = loan.holder; kind = loan.kind; number = loan.number }

-- the page whose home has that side of it
abbrev pub page_of_side : Side → Option PageInfo → List ℕ → Option Page
page_of_side (Own right) info bytes = Some (record { right = right; contents = Bytes bytes; loan = None })
page_of_side (LentOut right) info bytes =
    Some (record { right = right; contents = Bytes bytes; loan = option_map page_loan (loan_in info) })
page_of_side LentIn info bytes = None
page_of_side (MutOut x) info bytes =
    Some (record { right = right_of_side (MutOut x); contents = Bytes bytes; loan = option_map page_loan (loan_in info) })
page_of_side MutIn info bytes = None

abbrev pub page_of_entry : Infos → SeatBytes → Entry → Option Page
page_of_entry I B Free = None
page_of_entry I B (At side s) = page_of_side side (I s) (B s)
page_of_entry I B (OnConsole w) = Some (record { right = record { w = w; x = false }; contents = Console; loan = None })

abbrev pub orphan_of_loan : List ℕ → LoanInfo → Orphan
orphan_of_loan bytes loan = record { kind = loan.kind; bytes = bytes; number = loan.number }

-- the orphan that a page on loan is, where it has no home
abbrev pub orphan_of_info : List ℕ → PageInfo → Option Orphan
orphan_of_info bytes info = if is_none info.home then option_map (orphan_of_loan bytes) info.loan else None

abbrev pub orphan_of_side : Side → Option PageInfo → List ℕ → Option Orphan
orphan_of_side (Own right) info bytes = None
orphan_of_side (LentOut right) info bytes = None
orphan_of_side LentIn info bytes = option_and_then (orphan_of_info bytes) info
orphan_of_side (MutOut x) info bytes = None
orphan_of_side MutIn info bytes = option_and_then (orphan_of_info bytes) info

abbrev pub orphan_of_entry : Infos → SeatBytes → Entry → Option Orphan
orphan_of_entry I B Free = None
orphan_of_entry I B (At side s) = orphan_of_side side (I s) (B s)
orphan_of_entry I B (OnConsole w) = None

unfoldable pub ledger_of : Entries → Infos → SeatBytes → Ledger
ledger_of E I B = record {
  home = λ p. option_and_then (page_of_entry I B) (E p);
  orphan = λ p. option_and_then (orphan_of_entry I B) (E p);
}

-- an entry at which nothing stands; where there is no entry, nothing stands either
abbrev pub is_free_entry : Option Entry → Bool
is_free_entry None = true
is_free_entry (Some Free) = true
is_free_entry (Some (At side s)) = false
is_free_entry (Some (OnConsole w)) = false

-- the k-th seat of a table: its frames in their order, then its slots
abbrev pub table_seat : Extent → ℕ → Seat
table_seat table k = if nat_lt k table.frames then frame_seat (table.first + k) else slot_seat (k - table.frames)

-- how many seats of a table are used
unfoldable pub used_seats : Extent → Infos → ℕ
used_seats table I = count_below (table.frames + table.slots) (λ k. is_some (I (table_seat table k)))

-- What of a lawful ledger holds of every ledger that agreeing entries and owners make, by the names of `IsLawful`.
pub record IsWellPlaced (procs : ℕ) (ledger : Ledger) : Type 0 where
  pub home_lies : (p : Place) (page : Page) → ledger.home p ≡ Some page → IsTrue (is_user_place procs p)
  pub holder_lies : (p : Place) (loan : PageLoan) → loan_at ledger p ≡ Some loan → IsTrue (is_user_place procs loan.holder)
  pub orphan_lies : (p : Place) (orphan : Orphan) → ledger.orphan p ≡ Some orphan → IsTrue (is_user_place procs p)
  pub holders_differ : (p q : Place) (a b : PageLoan) → loan_at ledger p ≡ Some a → loan_at ledger q ≡ Some b
      → a.holder ≡ b.holder → p ≡ q
  pub holder_no_home : (p : Place) (loan : PageLoan) → loan_at ledger p ≡ Some loan → ledger.home loan.holder ≡ None
  pub holder_no_orphan : (p : Place) (loan : PageLoan) → loan_at ledger p ≡ Some loan → ledger.orphan loan.holder ≡ None
  pub orphan_no_home : (p : Place) (orphan : Orphan) → ledger.orphan p ≡ Some orphan → ledger.home p ≡ None
  pub console_no_loan : (p : Place) (page : Page) → ledger.home p ≡ Some page → page.contents ≡ Console → page.loan ≡ None
  pub console_no_fetch : (p : Place) (page : Page) → ledger.home p ≡ Some page → page.contents ≡ Console
      → page.right.x ≡ false
  pub exclusive_writable : (p : Place) (page : Page) (loan : PageLoan) → ledger.home p ≡ Some page
      → page.loan ≡ Some loan → loan.kind ≡ Exclusive → page.right.w ≡ true
