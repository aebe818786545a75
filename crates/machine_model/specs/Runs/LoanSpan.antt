-- The span of a loan: the states of a run in which a loan or an orphan has its number. Numbers are not used twice, so that it
-- is one stretch of the run. It is said here how it begins, what stays while it lasts, how it ends, and what stands after it.
-- The pages of a loan go by their index in its run, so that they are the same pages when the loan is forwarded and when they
-- become orphans.
use Rattle.std.specs.Prelude.{◌≡◌, ℕ, ◌<◌, ◌≤◌, ◌⊎◌, Bool, true, false, ◌&&◌, ◌||◌, ◌==◌, List, length, slice_get, Option, Some, None}
use Rattle.std.specs.List.{list_any}
use Rattle.std.specs.Option.{option_map, option_map_or}
use Rattle.xk_base.specs.declared.ids.Number.{Number}
use Rattle.xk_base.specs.declared.ids.Pid.{Pid}
use Rattle.xk_base.specs.declared.ids.Place.{Place}
use Rattle.xk_base.specs.declared.ids.ThreadId.{ThreadId}
use Rattle.xk_base.specs.declared.pages.LoanKind.TheVariants.{Shared, Exclusive}
use Rattle.xk_base.specs.declared.pages.Right.{Right}
use Rattle.syscall_codec.specs.CallNumbers.{send_message, try_send_message, return_memory, forward_message}
use Rattle.syscall_codec.specs.CallWords.{call_number, return_token, forward_token}
use Rattle.ledger_model.specs.Ledger.{Ledger, Contents, Page, PageName, Homed, Orphaned, contents_of}
use Rattle.ledger_model.specs.Loans.{LoanRun, Stands, IsFresh, loans}
use Rattle.ledger_model.specs.Places.{place_after}
use Rattle.machine_model.specs.Stepping.Acts.{does_instruction, call_by, is_call_served}
use Rattle.machine_model.specs.State.Machine.{Machine, Server}
use Rattle.machine_model.specs.Runs.Matched.{Matched, is_living}
use Rattle.machine_model.specs.Messaging.Messages.{is_lend, is_lend_of, new_number}
use Rattle.machine_model.specs.Runs.Moments.{Moment, ByStep, IsRun, state_at}
use Rattle.machine_model.specs.State.Order.{actor}
use Rattle.machine_model.specs.Messaging.SendCalls.{named_kind}
use Rattle.machine_model.specs.State.Servers.{messages_of}

-- ---- the loan in one state

-- the state is in the span, in which the loan of the number stands: exactly its pages are on loan by the number, or are orphans
pub record IsOut (number : Number) (m : Machine) (loan : LoanRun) : Type 0 where
  pub numbered : loan.number ≡ number
  pub some : 1 ≤ loan.count
  pub stands : Stands (loans m.ledger) loan

-- the state is not in the span: no loan and no orphan has the number
abbrev pub IsIn : Number → Machine → Type 0
IsIn number m = IsFresh (loans m.ledger) number

-- page i of the loan: at its home, or where the lender is dead an orphan at its holder's place
abbrev pub page_name : LoanRun → ℕ → PageName
page_name loan i = option_map_or (λ home. Homed (place_after home i)) loan.lender (Orphaned (place_after loan.holder i))

-- what it holds
abbrev pub page_bytes : Machine → LoanRun → ℕ → Option Contents
page_bytes m loan i = contents_of m.ledger (page_name loan i)

-- the right of a page at its home; an orphan has none
abbrev pub right_of_name : Ledger → PageName → Option Right
right_of_name ledger (Homed p) = option_map (λ page. page.right) (ledger.home p)
right_of_name ledger (Orphaned p) = None

-- its right at its home
abbrev pub page_right : Machine → LoanRun → ℕ → Option Right
page_right m loan i = right_of_name m.ledger (page_name loan i)

-- the page without a loan
abbrev pub unlent : Page → Page
unlent page = record page { loan = None }

-- ---- what happens to it

-- the step is an instruction of a thread of the process
pub record IsInstructionOf (pid : Pid) (before : Machine) (moment : Moment) : Type 0 where
  pub who : ThreadId
  pub step : moment.cause ≡ ByStep
  pub by_who : actor before ≡ Some who
  pub of_process : who.pid ≡ pid
  pub instruction : does_instruction before who ≡ true

-- the step is a call of a thread of the process, and it is served
pub record IsServedCallOf (pid : Pid) (words : List ℕ) (before : Machine) (moment : Moment) : Type 0 where
  pub who : ThreadId
  pub step : moment.cause ≡ ByStep
  pub by_who : actor before ≡ Some who
  pub of_process : who.pid ≡ pid
  pub call : call_by before who ≡ Some words
  pub served : is_call_served before who words ≡ true

-- the number of either call that sends
abbrev pub is_send : ℕ → Bool
is_send number = number == send_message || number == try_send_message

-- a send of a lend or a mutable lend
abbrev pub is_lend_call : List ℕ → Bool
is_lend_call words = is_send (call_number words) && option_map_or is_lend (named_kind words) false

-- It opens with an accepted lend or mutable lend by a thread of the lender, which takes this number. Just before, each page
-- stood at its home without a loan, with the same right and bytes.
pub record Opens (number : Number) (loan : LoanRun) (before : Machine) (moment : Moment) : Type 0 where
  pub home : Place
  pub lender : loan.lender ≡ Some home
  pub words : List ℕ
  pub accepted : IsServedCallOf home.pid words before moment
  pub lends : is_lend_call words ≡ true
  pub number_taken : number ≡ new_number before
  pub pages : (k : ℕ) (page : Page) → k < loan.count → moment.machine.ledger.home (place_after home k) ≡ Some page
      → before.ledger.home (place_after home k) ≡ Some (unlent page)

-- its holder's process forwards its message
pub record IsForwarded (number : Number) (loan : LoanRun) (before : Machine) (moment : Moment) : Type 0 where
  pub words : List ℕ
  pub served : IsServedCallOf loan.holder.pid words before moment
  pub forwards : call_number words ≡ forward_message
  pub token : forward_token words ≡ number.0

-- its holder's process returns it
pub record IsReturned (number : Number) (loan : LoanRun) (before : Machine) (moment : Moment) : Type 0 where
  pub words : List ℕ
  pub served : IsServedCallOf loan.holder.pid words before moment
  pub returns : call_number words ≡ return_memory
  pub token : return_token words ≡ number.0

-- the server that has its message ends
pub record IsServerGone (number : Number) (before : Machine) (moment : Moment) : Type 0 where
  pub serial : ℕ
  pub server : Server
  pub live : before.servers serial ≡ Some server
  pub sent : list_any (is_lend_of number) (messages_of server) ≡ true
  pub gone : moment.machine.servers serial ≡ None

-- its lender dies while its message is queued
pub record IsLenderGone (number : Number) (loan : LoanRun) (before : Machine) (moment : Moment) : Type 0 where
  pub serial : ℕ
  pub server : Server
  pub live : before.servers serial ≡ Some server
  pub queued : list_any (is_lend_of number) server.queued ≡ true
  pub home : Place
  pub lender : loan.lender ≡ Some home
  pub lived : is_living before home.pid ≡ true
  pub died : is_living moment.machine home.pid ≡ false

-- one of these ends the loan
abbrev pub Closes : Number → LoanRun → Machine → Moment → Type 0
Closes number loan before moment =
    IsReturned number loan before moment ⊎ (IsServerGone number before moment ⊎ IsLenderGone number loan before moment)

-- ---- The six parts, over the moments of a run from its start. Where the loan is out in the start already, its span has no state
-- before it in the run: then its first state says what parts 3 and 6 say of the one just before.

pub record LoanSpan (start : Machine) (moments : List Moment) (number : Number) : Type 0 where
  -- Each state is in the span, with one loan, or is not.
  pub in_or_out : (i : ℕ) → i ≤ length moments
      → IsIn number (state_at start moments i) ⊎ ((loan : LoanRun) × IsOut number (state_at start moments i) loan)
  -- The span is one stretch.
  pub unbroken : (i j k : ℕ) (a c : LoanRun) → i ≤ j → j ≤ k → k ≤ length moments
      → IsOut number (state_at start moments i) a → IsOut number (state_at start moments k) c
      → (b : LoanRun) × IsOut number (state_at start moments j) b
  -- 1. How it begins.
  pub opens : (i : ℕ) (moment : Moment) (loan : LoanRun) → slice_get moments i ≡ Some moment
      → IsIn number (state_at start moments i) → IsOut number moment.machine loan
      → Opens number loan (state_at start moments i) moment
  -- 2. The kind and how many pages there are stay in all its states.
  pub kind : (i j : ℕ) (a b : LoanRun) → i ≤ length moments → j ≤ length moments
      → IsOut number (state_at start moments i) a → IsOut number (state_at start moments j) b
      → (a.kind ≡ b.kind) × (a.count ≡ b.count)
  -- .. While it has a lender, the homes stay,
  pub homes : (i j : ℕ) (a b : LoanRun) (p q : Place) → i ≤ length moments → j ≤ length moments
      → IsOut number (state_at start moments i) a → IsOut number (state_at start moments j) b
      → a.lender ≡ Some p → b.lender ≡ Some q → p ≡ q
  -- .. and the rights.
  pub rights : (i j k : ℕ) (a b : LoanRun) (p q : Place) → i ≤ length moments → j ≤ length moments
      → IsOut number (state_at start moments i) a → IsOut number (state_at start moments j) b
      → a.lender ≡ Some p → b.lender ≡ Some q → k < a.count
      → page_right (state_at start moments i) a k ≡ page_right (state_at start moments j) b k
  -- .. The holder's places change only in a step in which a thread of the holder forwards that number.
  pub holders : (i : ℕ) (moment : Moment) (a b : LoanRun) → slice_get moments i ≡ Some moment
      → IsOut number (state_at start moments i) a → IsOut number moment.machine b
      → (a.holder ≡ b.holder) ⊎ IsForwarded number a (state_at start moments i) moment
  -- 3. Under Shared the bytes of each page are the same in all its states,
  pub shared : (i j k : ℕ) (a b : LoanRun) → i ≤ length moments → j ≤ length moments
      → IsOut number (state_at start moments i) a → IsOut number (state_at start moments j) b
      → a.kind ≡ Shared → k < a.count
      → page_bytes (state_at start moments i) a k ≡ page_bytes (state_at start moments j) b k
  -- .. and as just before it, where that state is one of the run.
  pub as_before : (i j k : ℕ) (first : Moment) (a b : LoanRun) → slice_get moments i ≡ Some first → j ≤ length moments
      → IsIn number (state_at start moments i) → IsOut number first.machine a → IsOut number (state_at start moments j) b
      → a.kind ≡ Shared → k < a.count
      → page_bytes (state_at start moments i) a k ≡ page_bytes (state_at start moments j) b k
  -- 4. Under Exclusive they change only in an instruction of a thread of the process that is the holder in the state before.
  pub exclusive : (i k : ℕ) (moment : Moment) (a b : LoanRun) → slice_get moments i ≡ Some moment
      → IsOut number (state_at start moments i) a → IsOut number moment.machine b
      → a.kind ≡ Exclusive → k < a.count
      → (page_bytes (state_at start moments i) a k ≡ page_bytes moment.machine b k)
      ⊎ IsInstructionOf a.holder.pid (state_at start moments i) moment
  -- 5. How it ends: the holder is that of its last state.
  pub ends : (i : ℕ) (moment : Moment) (loan : LoanRun) → slice_get moments i ≡ Some moment
      → IsOut number (state_at start moments i) loan → IsIn number moment.machine
      → Closes number loan (state_at start moments i) moment
  -- 6. Where it has a lender to the end, who lives in the first state after, each page stands at its home without a loan, with
  -- the right and the bytes of its last state,
  pub gives_back : (i k : ℕ) (last : Moment) (loan : LoanRun) (home : Place) (page : Page) → slice_get moments i ≡ Some last
      → IsOut number (state_at start moments i) loan → IsIn number last.machine
      → loan.lender ≡ Some home → is_living last.machine home.pid ≡ true → k < loan.count
      → (state_at start moments i).ledger.home (place_after home k) ≡ Some page
      → last.machine.ledger.home (place_after home k) ≡ Some (unlent page)
  -- .. and that is the right from just before the span, where that state is one of the run.
  pub right_back : (i j k : ℕ) (first last : Moment) (a b : LoanRun) (home : Place)
      → slice_get moments i ≡ Some first → IsIn number (state_at start moments i) → IsOut number first.machine a
      → slice_get moments j ≡ Some last → IsOut number (state_at start moments j) b → IsIn number last.machine
      → b.lender ≡ Some home → is_living last.machine home.pid ≡ true → k < b.count
      → page_right last.machine b k ≡ page_right (state_at start moments i) b k

-- every number of every run from a state that is matched has such a span
abbrev pub SpansHold : Type 0
SpansHold = (start : Machine) (moments : List Moment) (number : Number) → Matched start → IsRun start moments
    → LoanSpan start moments number
