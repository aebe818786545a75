-- Which pages and loans of a state stand again while a kernel is resumed.
use Rattle.std.specs.Prelude.{◌≡◌, ℕ, Bool, true, false, ◌&&◌, ◌||◌, ◌==◌, List, ◌++◌, take, slice_get, if◌then◌else◌, Option, Some, None}
use Rattle.std.specs.List.{flat_map, list_any}
use Rattle.std.specs.Option.{option_and_then, option_map, option_map_or}
use Rattle.ledger_model.specs.Ledger.{Bytes, Ledger, Page, PageLoan, Orphan, has_bytes}
use Rattle.ledger_model.specs.Places.{in_run, moved}
use Rattle.snapshot_rows.specs.declared.state.MessageRow.{MessageRow}
use Rattle.snapshot_rows.specs.declared.state.PageRow.{PageRow}
use Rattle.snapshot_rows.specs.declared.state.ServerRow.{ServerRow}
use Rattle.snapshot_rows.specs.declared.state.State.{State}
use Rattle.xk_base.specs.declared.ids.Place.{Place}
use Rattle.xk_base.specs.declared.pages.Right.{Right}
use Rattle.resume_path.specs.Resumable.{state_ledger}

-- ---- a part of a ledger

-- the orphans of these messages, the pages at these homes, and the loans of these messages
pub record Standing : Type 0 where
  pub orphans : ℕ → Bool
  pub homes : Place → Bool
  pub loans : ℕ → Bool

abbrev pub loan_among : (ℕ → Bool) → Option PageLoan → Option PageLoan
loan_among numbers o = option_and_then (λ loan. if numbers loan.number.0 then Some loan else None) o

abbrev pub page_among : (ℕ → Bool) → Page → Page
page_among numbers page = record page { loan = loan_among numbers page.loan }

abbrev pub orphan_among : (ℕ → Bool) → Option Orphan → Option Orphan
orphan_among numbers o = option_and_then (λ orphan. if numbers orphan.number.0 then Some orphan else None) o

-- what of the ledger stands so far: pages are there with their rights and bytes, and on loan where their loans stand
unfoldable pub standing : Standing → Ledger → Ledger
standing so_far ledger = record {
  home = λ p. if so_far.homes p then option_map (page_among so_far.loans) (ledger.home p) else None;
  orphan = λ p. orphan_among so_far.orphans (ledger.orphan p);
}

abbrev pub standing_of : List ℕ → State → Standing → Ledger
standing_of file s so_far = standing so_far (state_ledger file s)

-- ---- messages and pages of the first rows

-- the messages of a server: the queued, then the held
abbrev pub row_messages : ServerRow → List MessageRow
row_messages server = server.queued ++ server.held

abbrev pub is_numbered : ℕ → MessageRow → Bool
is_numbered number message = message.number == number

abbrev pub has_message : List MessageRow → ℕ → Bool
has_message messages number = list_any (is_numbered number) messages

-- the number is that of a message of the first `i` servers, or of the first `j` messages of the one behind them
abbrev pub is_message_before : List ServerRow → ℕ → ℕ → ℕ → Bool
is_message_before servers i j number =
    has_message (flat_map row_messages (take i servers)) number
    || option_map_or (λ (server : ServerRow). has_message (take j (row_messages server)) number) (slice_get servers i) false

-- the place is the home of one of the first `k` pages
abbrev pub is_home_before : List PageRow → ℕ → Place → Bool
is_home_before pages k place = list_any (λ (page : PageRow). page.pid == place.pid.0 && page.page == place.vpn.0) (take k pages)

-- ---- the order in which a kernel is resumed: orphans by their messages, pages, and loans by their messages

abbrev pub orphans_of : (ℕ → Bool) → Standing
orphans_of numbers = record { orphans = numbers; homes = λ p. false; loans = λ number. false }

abbrev pub orphans_before : List ServerRow → ℕ → ℕ → Standing
orphans_before servers i j = orphans_of (is_message_before servers i j)

abbrev pub pages_before : List PageRow → ℕ → Standing
pages_before pages k = record { orphans = λ number. true; homes = is_home_before pages k; loans = λ number. false }

abbrev pub loans_before : List ServerRow → ℕ → ℕ → Standing
loans_before servers i j = record { orphans = λ number. true; homes = λ p. true; loans = is_message_before servers i j }

-- ---- orphans on their way: pages that are made for them, filled, and then lent

-- the right of a page while it is filled
abbrev pub filling_right : Right
filling_right = record { w = true; x = false }

-- an orphan as a page of a lender
abbrev pub page_of_orphan : Orphan → Page
page_of_orphan orphan = record { right = filling_right; contents = Bytes orphan.bytes; loan = None }

-- a ledger with the orphans that another one has at the run at `to` as pages at the run at `from`
unfoldable pub with_orphan_pages : Ledger → Place → ℕ → Place → Ledger → Ledger
with_orphan_pages whole from n to ledger = record ledger {
  home = λ p. if in_run from n p then option_map page_of_orphan (whole.orphan (moved from to p)) else ledger.home p;
}

-- the place is the home of a page with bytes and that right, which isn't on loan
pub record IsHomeOf (ledger : Ledger) (place : Place) (right : Right) : Type 0 where
  pub page : Page
  pub there : ledger.home place ≡ Some page
  pub its_right : page.right ≡ right
  pub no_loan : page.loan ≡ None
  pub bytes : has_bytes page.contents ≡ true

-- a ledger without pages, with the orphans that another one has at the run and its own elsewhere
unfoldable pub with_orphans : Ledger → Place → ℕ → Ledger → Ledger
with_orphans whole to n ledger = record {
  home = λ p. None;
  orphan = λ p. if in_run to n p then whole.orphan p else ledger.orphan p;
}
