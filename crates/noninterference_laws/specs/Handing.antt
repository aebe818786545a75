-- Which pages an act hands over, said of the pages as they are before it.
use Rattle.std.specs.Prelude.{◌≡◌, ℕ, ◌==◌, ◌&&◌, Bool, true, false, List, [], ◌∷◌, if◌then◌else◌, Some, None}
use Rattle.xk_base.specs.declared.ids.Number.{Number}
use Rattle.xk_base.specs.declared.ids.Pid.{Pid}
use Rattle.xk_base.specs.declared.ids.Place.{Place}
use Rattle.xk_base.specs.declared.ids.ThreadId.{ThreadId}
use Rattle.syscall_codec.specs.CallNumbers.{destroy_server, forward_message, return_memory}
use Rattle.syscall_codec.specs.CallNumbers.{send_message, terminate_process, try_send_message}
use Rattle.syscall_codec.specs.CallWords.{call_number, send_address}
use Rattle.ledger_model.specs.Ledger.{Homed, Ledger, Orphaned, PageName, contents_of, loan_at}
use Rattle.ledger_model.specs.Loans.{same_number}
use Rattle.ledger_model.specs.Places.{in_run}
use Rattle.machine_model.specs.Calling.MemoryCalls.{caller_place}
use Rattle.machine_model.specs.Calling.ServerCalls.{named_server, named_sid}
use Rattle.machine_model.specs.Ending.Closing.{is_message_at}
use Rattle.machine_model.specs.Ending.Ends.{has_threads}
use Rattle.machine_model.specs.Messaging.ForwardCalls.{passed_number}
use Rattle.machine_model.specs.Messaging.LoanSets.{is_lent_by}
use Rattle.machine_model.specs.Messaging.ReturnCalls.{named_number}
use Rattle.machine_model.specs.Messaging.SendCalls.{sends_pages, sent_pages}
use Rattle.machine_model.specs.Runs.Matched.{Matched}
use Rattle.machine_model.specs.Runs.Moments.{ByKill}
use Rattle.machine_model.specs.State.Machine.{Machine}
use Rattle.machine_model.specs.State.Order.{actor}
use Rattle.machine_model.specs.State.Servers.{is_server_of}
use Rattle.machine_model.specs.State.Threads.{put_thread}
use Rattle.noninterference_laws.specs.Acting.{Act, Arms, Calls, DoesAlike, EndsHandler, EndsThread, Faults, HandsAlike, Prints, Silent}
use Rattle.noninterference_laws.specs.Acting.{act_of}
use Rattle.noninterference_laws.specs.Inside.{Group, SameButInside}

-- ---- sets of pages

abbrev pub no_pages : PageName → Bool
no_pages page = false

-- the pages with their homes in a run
abbrev pub run_pages : Place → ℕ → PageName → Bool
run_pages first n (Homed p) = in_run first n p
run_pages first n (Orphaned p) = false

-- the pages that are on loan by a number which passes the test
abbrev pub lent_pages : (Number → Bool) → Ledger → PageName → Bool
lent_pages test ledger (Homed p) = is_lent_by test (loan_at ledger p)
lent_pages test ledger (Orphaned p) = false

-- ---- of each act

-- a send hands over the pages that it carries
abbrev pub sent_over : Machine → List ℕ → PageName → Bool
sent_over m w page = sends_pages w && run_pages (caller_place m (send_address w)) (sent_pages w) page

-- ReturnMemory and ForwardMessage hand over the pages of the loan
abbrev pub returned_over : Machine → List ℕ → PageName → Bool
returned_over m w = lent_pages (λ number. same_number number (named_number w)) m.ledger

abbrev pub forwarded_over : Machine → List ℕ → PageName → Bool
forwarded_over m w = lent_pages (λ number. same_number number (passed_number w)) m.ledger

-- DestroyServer hands over what is on loan to the server, by messages queued there too
abbrev pub destroyed_over : Machine → List ℕ → PageName → Bool
destroyed_over m w = lent_pages (is_message_at (λ n. n == (named_server m (named_sid w)).0) m) m.ledger

-- the death of a process hands over what is on loan to its servers
abbrev pub left_over : Machine → Pid → PageName → Bool
left_over m pid = lent_pages (is_message_at (λ n. is_server_of pid (m.servers n)) m) m.ledger

-- the end of a thread hands over that of its process, where it is the last one above tid 1
abbrev pub ended_over : Machine → ThreadId → PageName → Bool
ended_over m who = if has_threads (put_thread who None m) who.pid then no_pages else left_over m who.pid

abbrev pub terminated_over : Machine → List ℕ → PageName → Bool
terminated_over m w = left_over m m.cursor.pid

-- no other call hands over anything
abbrev pub handings : List (ℕ × (Machine → List ℕ → PageName → Bool))
handings =
    (send_message, sent_over)
    ∷ (try_send_message, sent_over)
    ∷ (return_memory, returned_over)
    ∷ (forward_message, forwarded_over)
    ∷ (destroy_server, destroyed_over)
    ∷ (terminate_process, terminated_over)
    ∷ []

abbrev pub handing_at : ℕ → List (ℕ × (Machine → List ℕ → PageName → Bool)) → Machine → List ℕ → PageName → Bool
handing_at number [] m w = no_pages
handing_at number (row ∷ rows) m w = if number == row.0 then row.1 m w else handing_at number rows m w

-- the pages that a call with these words hands over
abbrev pub called_over : Machine → List ℕ → PageName → Bool
called_over m w = handing_at (call_number w) handings m w

-- the pages that a step of the thread hands over, by its act
abbrev pub act_over : Machine → ThreadId → Act → PageName → Bool
act_over m who Silent = no_pages
act_over m who (Prints byte) = no_pages
act_over m who (Arms compare) = no_pages
act_over m who (Calls words) = called_over (record m { cursor = who }) words
act_over m who (Faults cause value) = left_over m who.pid
act_over m who (EndsThread a0) = ended_over m who
act_over m who EndsHandler = no_pages

-- ---- in two states

-- each page of the set holds the same in both
abbrev pub HoldAlike : (PageName → Bool) → Machine → Machine → Type 0
HoldAlike pages m n = (page : PageName) → pages page ≡ true → contents_of m.ledger page ≡ contents_of n.ledger page

-- the step of the thread is this act in both, and the pages that it hands over hold the same
pub record HandsOver (who : ThreadId) (act : Act) (m n : Machine) : Type 0 where
  pub one : act_of m who ≡ Some act
  pub other : act_of n who ≡ Some act
  pub pages : HoldAlike (act_over m who act) m n

-- What the pages hold before is enough: a step of the group, and the death of a process, are alike in two states that are the same but
-- for the inside, where the pages that they hand over hold the same.
pub record PagesAreEnough : Type 0 where
  pub steps : (group : Group) (who : ThreadId) (act : Act) (m n : Machine) → Matched m → SameButInside group m n
      → actor m ≡ Some who → group who.pid.0 ≡ true → HandsOver who act m n → DoesAlike group who m n
  pub kills : (group : Group) (pid : Pid) (m n : Machine) → Matched m → SameButInside group m n → HoldAlike (left_over m pid) m n
      → HandsAlike group (ByKill pid) m n
