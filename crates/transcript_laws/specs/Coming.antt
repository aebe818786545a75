-- How a page comes to a place of a process: the process makes it there, or a message brings it.
use Rattle.std.specs.Prelude.{◌≡◌, ℕ, ◌⊎◌, ◌==◌, ◌||◌, Bool, true, is_some, List, Some, None}
use Rattle.xk_base.specs.declared.ids.Place.{Place}
use Rattle.xk_base.specs.declared.messages.Message.{Message}
use Rattle.xk_base.specs.declared.messages.MsgKind.TheVariants.{Move}
use Rattle.syscall_codec.specs.CallNumbers.{increase_heap, map_memory}
use Rattle.syscall_codec.specs.CallWords.{call_number}
use Rattle.ledger_model.specs.Ledger.{Ledger, Orphan, Page, PageLoan, loan_at}
use Rattle.ledger_model.specs.Places.{in_run}
use Rattle.machine_model.specs.Messaging.Messages.{is_lend}
use Rattle.machine_model.specs.Runs.Isolation.{IsNewPage}
use Rattle.machine_model.specs.Runs.Matched.{Matched}
use Rattle.machine_model.specs.Runs.Moments.{Cause, caused}
use Rattle.machine_model.specs.State.Machine.{Machine, Server}
use Rattle.transcript_laws.specs.Serving.{Arrives, IsSentTo, IsServedBy}

-- the number is that of a call that makes pages
abbrev pub makes_pages : ℕ → Bool
makes_pages call = (call == map_memory) || (call == increase_heap)

-- the place is one of those that the message tells: in the process of its server, from its first page on
abbrev pub is_told_place : Server → Message → Place → Bool
is_told_place server message p = in_run (record { pid = server.pid; vpn = message.first }) message.count p

-- a thread of the place's process makes the page
pub record IsMade (p : Place) (page : Page) (cause : Cause) (m : Machine) : Type 0 where
  pub words : List ℕ
  pub served : IsServedBy p.pid words cause m
  pub makes : makes_pages (call_number words) ≡ true
  pub new : IsNewPage page

-- a message of kind Move, which is sent now, brings the page from a place of the sender's process, where none stands afterwards
pub record IsMoved (p : Place) (page : Page) (cause : Cause) (m : Machine) (after : Ledger) : Type 0 where
  pub n : ℕ
  pub server : Server
  pub there : m.servers n ≡ Some server
  pub message : Message
  pub sent : IsSentTo n message cause m
  pub moves : message.kind ≡ Move
  pub place : is_told_place server message p ≡ true
  pub from : Place
  pub own : from.pid ≡ sent.pid
  pub stood : m.ledger.home from ≡ Some page
  pub left : after.home from ≡ None

-- a lend or mutable lend, which is sent or forwarded now, has the number of the loan, and its holder's place
pub record IsLent (loan : PageLoan) (cause : Cause) (m : Machine) : Type 0 where
  pub n : ℕ
  pub server : Server
  pub there : m.servers n ≡ Some server
  pub message : Message
  pub arrives : Arrives n message cause m
  pub lends : is_lend message.kind ≡ true
  pub numbered : message.number ≡ loan.number
  pub place : is_told_place server message loan.holder ≡ true

-- a page is on loan to the place
pub record IsLentTo (q : Place) (ledger : Ledger) : Type 0 where
  pub home : Place
  pub loan : PageLoan
  pub lent : loan_at ledger home ≡ Some loan
  pub held : loan.holder ≡ q

-- what comes to which place in a step, an event or the end of a turn
pub record PagesCome (cause : Cause) (m : Machine) (after : Ledger) : Type 0 where
  -- a page stands where none stood: its process makes it, or a message moves it there
  pub homes : (p : Place) (page : Page) → m.ledger.home p ≡ None → after.home p ≡ Some page
      → IsMade p page cause m ⊎ IsMoved p page cause m after
  -- a page is on loan to its holder as before, or a message puts it there
  pub loans : (p : Place) (loan : PageLoan) → loan_at after p ≡ Some loan → (loan_at m.ledger p ≡ Some loan) ⊎ IsLent loan cause m
  -- an orphan is where one was, or where a page was on loan
  pub orphans : (q : Place) (orphan : Orphan) → after.orphan q ≡ Some orphan → (is_some (m.ledger.orphan q) ≡ true) ⊎ IsLentTo q m.ledger

-- .. whatever leads from a matched state to the next
abbrev pub AllPagesCome : Type 0
AllPagesCome = (cause : Cause) (m : Machine) → Matched m → PagesCome cause m (caused cause m).ledger
