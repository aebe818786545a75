-- The ledger: every page of the machine by its home place, with its right, its bytes and at most one
-- loan, and every orphan by its holder's place. The owner of a page is the process of its home. An
-- orphan is a page whose lender died while another process held it: its owner is the kernel.
use Rattle.std.specs.Prelude.{ℕ, ◌+◌, Bool, true, false, is_some, slice_index, List, Option, Some, None}
use Rattle.std.specs.Option.{option_map}
use Rattle.xk_base.specs.declared.ids.Number.{Number}
use Rattle.xk_base.specs.declared.ids.Place.{Place}
use Rattle.xk_base.specs.declared.pages.LoanKind.{LoanKind}
use Rattle.xk_base.specs.declared.pages.Right.{Right}
use Rattle.ledger_model.specs.Places.{count_places}

-- what a page holds: its 4096 bytes, or the console in their place
pub data Contents : Type 0 where
  Console : Contents
  Bytes : List ℕ → Contents

-- the loan of one page: where its holder has it, of which kind, and by which message
pub record PageLoan : Type 0 where
  pub holder : Place
  pub kind : LoanKind
  pub number : Number

-- a page at its home. Its right is its owner's, and stays while it is on loan
pub record Page : Type 0 where
  pub right : Right
  pub contents : Contents
  pub loan : Option PageLoan

-- a page without an owner among the processes, at its holder's place
pub record Orphan : Type 0 where
  pub kind : LoanKind
  pub bytes : List ℕ
  pub number : Number

-- Two finite maps: only user places of the processes have a value (`IsLawful`).
pub record Ledger : Type 0 where
  pub home : Place → Option Page
  pub orphan : Place → Option Orphan

-- a ledger with no page
abbrev pub empty_ledger : Ledger
empty_ledger = record { home = λ p. None; orphan = λ p. None }

-- a page is named by its home, and an orphan by its holder's place
pub data PageName : Type 0 where
  Homed : Place → PageName
  Orphaned : Place → PageName

-- what the named page holds, or None where there is no such page
abbrev pub contents_of : Ledger → PageName → Option Contents
contents_of ledger (Homed p) = option_map (λ page. page.contents) (ledger.home p)
contents_of ledger (Orphaned p) = option_map (λ orphan. Bytes orphan.bytes) (ledger.orphan p)

-- the loan of a page, and of the page at a home
abbrev pub loan_of : Option Page → Option PageLoan
loan_of None = None
loan_of (Some page) = page.loan

abbrev pub loan_at : Ledger → Place → Option PageLoan
loan_at ledger p = loan_of (ledger.home p)

-- whether it is bytes, and not the console
abbrev pub has_bytes : Contents → Bool
has_bytes Console = false
has_bytes (Bytes bytes) = true

-- its byte at an offset; a load from the console gives 0
abbrev pub byte_of : ℕ → Contents → ℕ
byte_of offset Console = 0
byte_of offset (Bytes bytes) = slice_index bytes offset

-- a page that counts against the capacity: any but the console
abbrev pub is_counted : Option Page → Bool
is_counted None = false
is_counted (Some page) = has_bytes page.contents

-- how many pages and orphans there are, with `procs` processes and without the console
unfoldable pub pages : ℕ → Ledger → ℕ
pages procs ledger = count_places procs (λ p. is_counted (ledger.home p)) + count_places procs (λ p. is_some (ledger.orphan p))
