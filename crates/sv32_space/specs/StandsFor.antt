-- Stands for: what ties the entries of all address spaces, the bytes of frames and what the slots of the swap store hold to a
-- ledger of `procs` processes. It says nothing of how a program keeps track of owners. Each page of the ledger but the
-- console, and each orphan, has a seat: a frame or a slot. A page is named by its home, an orphan by its holder's place.
use Rattle.std.specs.Prelude.{◌≡◌, ◌≢◌, ℕ, ◌<◌, ◌≤◌, Bool, false, ◌||◌, is_some, if◌then◌else◌, IsTrue, List, Option, Some, None}
use Rattle.std.specs.Option.{option_and_then}
use Rattle.xk_base.specs.Tables.Circle.{is_pid}
use Rattle.xk_base.specs.Numbers.Limits.{table_frames}
use Rattle.xk_base.specs.declared.ids.Frame.{Frame as FrameNumber}
use Rattle.xk_base.specs.declared.ids.Place.{Place}
use Rattle.xk_base.specs.declared.pages.Right.{Right}
use Rattle.phys_pages.specs.declared.infos.Seat.{Seat}
use Rattle.phys_pages.specs.declared.infos.Seat.TheVariants.{Frame, Slot}
use Rattle.phys_pages.specs.Owners.{frame_seat}
use Rattle.ledger_model.specs.Ledger.{Ledger, Console, Bytes, Page, PageLoan, Orphan, loan_at, is_counted}
use Rattle.ledger_model.specs.Places.{is_user_place}
use Rattle.ledger_model.specs.Reach.{is_free}
use Rattle.ledger_model.specs.WholePages.{is_page}
use Rattle.sv32_space.specs.declared.sides.Side.{Side}
use Rattle.sv32_space.specs.declared.sides.Side.TheVariants.{Own}
use Rattle.sv32_space.specs.Agreement.{lender_side, holder_side}
use Rattle.sv32_space.specs.declared.sides.Entry.TheVariants.{Free, At, OnConsole}
use Rattle.sv32_space.specs.Entries.{Entries}

-- a place at which a page that has a seat has its name
abbrev pub has_page : Ledger → Place → Bool
has_page ledger p = is_counted (ledger.home p) || is_some (ledger.orphan p)

-- the side that a home has of its page, by right and loan
abbrev pub home_side : Right → Option PageLoan → Side
home_side right None = Own right
home_side right (Some loan) = lender_side loan.kind right

-- Parts 2 and 3. The entry of each place is the one spelling of what the ledger has there: Own, LentOut or MutOut at a home,
-- by its loan and right; LentIn or MutIn at a holder's place or an orphan's; Free elsewhere. A home and its holder's place
-- name one seat. The console is Own at the console's page.
pub record AreSpelled (procs : ℕ) (E : Entries) (ledger : Ledger) (seat : Place → Seat) : Type 0 where
  pub home : (p : Place) (page : Page) (bytes : List ℕ) → ledger.home p ≡ Some page → page.contents ≡ Bytes bytes
      → E p ≡ Some (At (home_side page.right page.loan) (seat p))
  pub holder : (p : Place) (loan : PageLoan) → loan_at ledger p ≡ Some loan
      → E loan.holder ≡ Some (At (holder_side loan.kind) (seat p))
  pub orphan : (p : Place) (orphan : Orphan) → ledger.orphan p ≡ Some orphan
      → E p ≡ Some (At (holder_side orphan.kind) (seat p))
  pub free : (p : Place) → IsTrue (is_user_place procs p) → IsTrue (is_free procs ledger p) → E p ≡ Some Free
  pub console : (p : Place) (page : Page) → ledger.home p ≡ Some page → page.contents ≡ Console
      → E p ≡ Some (OnConsole page.right.w)
  pub console_no_fetch : (p : Place) (page : Page) → ledger.home p ≡ Some page → page.contents ≡ Console
      → page.right.x ≡ false
  pub console_no_loan : (p : Place) (page : Page) → ledger.home p ≡ Some page → page.contents ≡ Console
      → page.loan ≡ None

-- A store tells lists of bytes. One counts only where it is a page.
abbrev pub told_page : List ℕ → Option (List ℕ)
told_page bytes = if is_page bytes then Some bytes else None

-- what is told of a slot, where the store tells what its slots hold
abbrev pub told_slot : Option (ℕ → List ℕ) → ℕ → Option (List ℕ)
told_slot held s = option_and_then (λ slots. told_page (slots s)) held

-- the bytes that are told of a seat: those of a frame always, and those of a slot where the store tells a page there
abbrev pub told_bytes : (ℕ → List ℕ) → Option (ℕ → List ℕ) → Seat → Option (List ℕ)
told_bytes pages held (Frame f) = Some (pages f.0)
told_bytes pages held (Slot s) = told_slot held s.0

-- Part 4. A page in a frame has that frame's bytes. A page that is out has the bytes of its slot.
pub record AreBytes (told : Seat → Option (List ℕ)) (ledger : Ledger) (seat : Place → Seat) : Type 0 where
  pub home : (p : Place) (page : Page) (bytes known : List ℕ) → ledger.home p ≡ Some page → page.contents ≡ Bytes bytes
      → told (seat p) ≡ Some known → bytes ≡ known
  pub orphan : (p : Place) (orphan : Orphan) (known : List ℕ) → ledger.orphan p ≡ Some orphan
      → told (seat p) ≡ Some known → orphan.bytes ≡ known

-- Part 5, its first two sentences. No two pages have one seat, and no page has a frame of a table; RAM has `frames` frames.
pub record AreSeatsApart (procs frames : ℕ) (ledger : Ledger) (seat : Place → Seat) : Type 0 where
  pub apart : (p q : Place) → IsTrue (has_page ledger p) → IsTrue (has_page ledger q) → seat p ≡ seat q → p ≡ q
  pub no_table : (p : Place) (f : FrameNumber) → IsTrue (has_page ledger p) → seat p ≡ Frame f → table_frames procs ≤ f.0
  pub in_ram : (p : Place) (f : FrameNumber) → IsTrue (has_page ledger p) → seat p ≡ Frame f → f.0 < frames

-- Part 5, its last sentence. A frame outside the tables has no page.
pub record HasFreeFrame (procs frames : ℕ) (ledger : Ledger) (seat : Place → Seat) : Type 0 where
  pub frame : ℕ
  pub no_table : table_frames procs ≤ frame
  pub in_ram : frame < frames
  pub free : (p : Place) → IsTrue (has_page ledger p) → seat p ≢ frame_seat frame

-- What RAM and the swap store show of the pages of `procs` processes: how many frames there are, the entry of each place, and the
-- bytes that are told of each seat.
pub record Shown : Type 0 where
  pub procs : ℕ
  pub frames : ℕ
  pub entries : Entries
  pub told : Seat → Option (List ℕ)

-- All parts but the last sentence of part 5, which isn't claimed between the two halves of an exchange. Part 1 is `tables`:
-- the root and the tables of each process are as they were made.
pub record StandsAt (tables_made : ℕ → Type 0) (shown : Shown) (ledger : Ledger) (seat : Place → Seat) : Type 0 where
  pub tables : (pid : ℕ) → IsTrue (is_pid shown.procs pid) → tables_made pid
  pub spelled : AreSpelled shown.procs shown.entries ledger seat
  pub bytes : AreBytes shown.told ledger seat
  pub apart : AreSeatsApart shown.procs shown.frames ledger seat

-- What is shown stands for the ledger.
pub record StandsFor (tables_made : ℕ → Type 0) (shown : Shown) (ledger : Ledger) : Type 0 where
  pub seat : Place → Seat
  pub stands : StandsAt tables_made shown ledger seat
  pub room : HasFreeFrame shown.procs shown.frames ledger seat
