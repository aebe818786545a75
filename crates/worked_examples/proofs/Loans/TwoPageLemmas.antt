-- The row of a mutable lend of two pages, by evaluation but for where the pages go.
use Rattle.std.proofs.Common.{◌≡◌, ℕ, ◌+◌, true, List, [], ◌∷◌, Some, refl, ap, ◌∙◌, arith}
use Rattle.std.specs.Prelude.{nat_le}
use Rattle.xk_base.specs.declared.pages.Width.TheVariants.{Word}
use Rattle.xk_base.specs.declared.windows.Window.TheVariants.{Message}
use Rattle.syscall_codec.specs.CallWords.{send_cid}
use Rattle.xk_base.specs.Tables.Circle.{listed_ids}
use Rattle.xk_base.specs.Tables.Counting.{least_below, listed_below, count_below}
use Rattle.syscall_codec.specs.ReplyWords.{eight_words}
use Rattle.ledger_model.specs.Ledger.{pages}
use Rattle.ledger_model.specs.LeastRun.{is_free_run, window_place}
use Rattle.ledger_model.specs.Places.{run, count_places, first_place, place_at}
use Rattle.ledger_model.specs.Reach.{is_free, role_at, lender_of, reach}
use Rattle.ledger_model.specs.RunTests.{any_free, any_on_loan, any_console, any_lacks}
use Rattle.ledger_model.specs.Steps.{make, lend, end_loan, write, zero_page}
use Rattle.machine_model.specs.Calling.Calls.{call}
use Rattle.machine_model.specs.State.Changes.{settled, call_settled}
use Rattle.machine_model.specs.Hart.Instructions.{loads, stores, writes, following, Executed, Stores}
use Rattle.machine_model.specs.State.Machine.{Machine, Server}
use Rattle.machine_model.specs.Calling.MemoryCalls.{increase_call}
use Rattle.machine_model.specs.Messaging.ReceiveCalls.{receive_call}
use Rattle.machine_model.specs.Messaging.Receivers.{receiver}
use Rattle.machine_model.specs.Messaging.ReturnCalls.{holder_of, return_memory_call}
use Rattle.machine_model.specs.Worked.Rows.{id_of, pid_of, small_machine, told_all, after_all}
use Rattle.machine_model.specs.Messaging.SendCalls.{send_call, sent_to, sent_pages, arrival}
use Rattle.machine_model.specs.Calling.ServerCalls.{create_server_call, connect_call}
use Rattle.machine_model.specs.State.Servers.{with_sid, live_servers, server_at}
use Rattle.machine_model.specs.State.Views.{memory_of, stored}
use Rattle.worked_examples.proofs.ArrivalLemmas.{arrives_at, told_from, after_from}
use Rattle.worked_examples.specs.TwoPages.{two_pages_begin, two_pages_begin_told, two_pages_send, two_pages_send_told, two_pages_lent}
use Rattle.worked_examples.specs.TwoPages.{first_written, both_written, two_pages_return, two_pages_return_told, two_pages_returned}

-- 3.2 is about to lend its pages
pub lending : Machine
unfolding after_all small_machine
lending = record (after_all two_pages_begin (small_machine 2)) { cursor = id_of 3 2 }

pub words : List ℕ
words = eight_words (16 ∷ 2 ∷ 1 ∷ 7 ∷ 0x2000_0000 ∷ 8192 ∷ 0 ∷ 0 ∷ [])

pub server : Server
server = record { sid = record { 0 = 1 ∷ 2 ∷ 3 ∷ 4 ∷ [] }; pid = record { 0 = 2 }; queued = []; held = [] }

there : server_at lending (send_cid words) ≡ Some server
unfolding words server lending after_all small_machine call call_settled settled least_below listed_below listed_ids count_below with_sid live_servers create_server_call connect_call receive_call increase_call pages count_places place_at any_free any_on_loan any_lacks make run is_free role_at lender_of first_place
there = refl

free : is_free_run lending.processes lending.ledger (window_place server.pid Message 0) (sent_pages words) ≡ true
unfolding words server is_free_run lending after_all small_machine call call_settled settled least_below listed_below listed_ids count_below with_sid live_servers create_server_call connect_call receive_call increase_call pages count_places place_at any_free any_on_loan any_lacks make run is_free role_at lender_of first_place
free = refl

small : nat_le (0 + sent_pages words) 4096 ≡ true
unfolding words
small = refl

arrives : arrival lending words ≡ Some (window_place server.pid Message 0).vpn
arrives = arrives_at lending words server 0 there (omega arith) small free (λ j l. absurd (omega arith))

passes : call lending words ≡ sent_to lending words (arrival lending words)
unfolding words send_call any_console lending after_all small_machine call call_settled settled least_below listed_below listed_ids count_below with_sid live_servers create_server_call connect_call receive_call increase_call pages count_places place_at any_free any_on_loan any_lacks make run is_free role_at lender_of first_place
passes = refl

comes : call lending words ≡ sent_to lending words (Some (window_place server.pid Message 0).vpn)
comes = passes ∙ ap (sent_to lending words) arrives

pub begun : told_all two_pages_begin (small_machine 2) ≡ two_pages_begin_told
unfolding told_all lending after_all small_machine call call_settled settled least_below listed_below listed_ids count_below with_sid live_servers create_server_call connect_call receive_call increase_call pages count_places place_at any_free any_on_loan any_lacks make run is_free role_at lender_of first_place
begun = refl

told_since : told_all two_pages_send (after_all two_pages_begin (small_machine 2)) ≡ told_from lending [] (call lending words)
unfolding told_all lending words told_from
told_since = refl

told_then : told_from lending [] (sent_to lending words (Some (window_place server.pid Message 0).vpn)) ≡ two_pages_send_told
unfolding told_from told_all words server receiver lending after_all small_machine call call_settled settled least_below listed_below listed_ids count_below with_sid live_servers create_server_call connect_call receive_call increase_call pages count_places place_at any_free any_on_loan any_lacks make run is_free role_at lender_of first_place
told_then = refl

pub sent : told_all two_pages_send (after_all two_pages_begin (small_machine 2)) ≡ two_pages_send_told
sent = told_since ∙ (ap (told_from lending []) comes ∙ told_then)

-- the pages have arrived
pub there_now : Machine
there_now = after_from lending [] (sent_to lending words (Some (window_place server.pid Message 0).vpn))

lent_since : two_pages_lent ≡ after_from lending [] (call lending words)
unfolding after_all lending words after_from
lent_since = refl

lent_is : two_pages_lent ≡ there_now
unfolding there_now
lent_is = lent_since ∙ ap (after_from lending []) comes

-- what pid 2 does with the pages
abbrev pub one : Machine → Machine
one m = stored (pid_of 2) 0x4000_0000 Word 0x1122_3344 m

abbrev pub both : Machine → Machine
both m = stored (pid_of 2) 0x4000_1000 Word 0x5566_7788 (one m)

abbrev pub store_at : ℕ → Machine → List ℕ → ℕ → ℕ → Executed
store_at address m regs pc value = stores (memory_of m (pid_of 2)) regs pc address Word value

abbrev pub load_at : ℕ → Machine → List ℕ → ℕ → ℕ → Executed
load_at address m regs pc rd = loads (memory_of m (pid_of 3)) regs pc rd address Word (λ v. v)

first_then : (regs : List ℕ) (pc value : ℕ) → store_at 0x4000_0000 there_now regs pc value ≡ Stores 0x4000_0000 Word value regs (following pc)
unfolding there_now after_from memory_of reach words server receiver lend lending after_all small_machine call call_settled settled least_below listed_below listed_ids count_below with_sid live_servers create_server_call connect_call receive_call increase_call pages count_places place_at any_free any_on_loan any_lacks make run is_free role_at lender_of first_place
first_then regs pc value = refl

pub first_stores : (regs : List ℕ) (pc value : ℕ) → store_at 0x4000_0000 two_pages_lent regs pc value ≡ Stores 0x4000_0000 Word value regs (following pc)
first_stores regs pc value = ap (λ m. store_at 0x4000_0000 m regs pc value) lent_is ∙ first_then regs pc value

second_then : (regs : List ℕ) (pc value : ℕ) → store_at 0x4000_1000 (one there_now) regs pc value ≡ Stores 0x4000_1000 Word value regs (following pc)
unfolding stored write zero_page there_now after_from memory_of reach words server receiver lend lending after_all small_machine call call_settled settled least_below listed_below listed_ids count_below with_sid live_servers create_server_call connect_call receive_call increase_call pages count_places place_at any_free any_on_loan any_lacks make run is_free role_at lender_of first_place
second_then regs pc value = refl

pub second_stores : (regs : List ℕ) (pc value : ℕ) → store_at 0x4000_1000 first_written regs pc value ≡ Stores 0x4000_1000 Word value regs (following pc)
second_stores regs pc value = ap (λ m. store_at 0x4000_1000 (one m) regs pc value) lent_is ∙ second_then regs pc value

returned_then : told_all two_pages_return (both there_now) ≡ two_pages_return_told
unfolding told_all holder_of return_memory_call end_loan stored write zero_page there_now after_from memory_of reach words server receiver
    lend lending after_all small_machine call call_settled settled least_below listed_below listed_ids count_below with_sid live_servers
    create_server_call connect_call receive_call increase_call pages count_places place_at any_free any_on_loan any_lacks make run is_free
    role_at lender_of first_place
returned_then = refl

pub returned : told_all two_pages_return both_written ≡ two_pages_return_told
returned = ap (λ m. told_all two_pages_return (both m)) lent_is ∙ returned_then

first_load_then : (regs : List ℕ) (pc rd : ℕ) → load_at 0x2000_0000 (after_all two_pages_return (both there_now)) regs pc rd ≡ writes regs pc rd 0x1122_3344
unfolding holder_of return_memory_call end_loan stored write zero_page there_now after_from memory_of reach words server receiver lend
    lending after_all small_machine call call_settled settled least_below listed_below listed_ids count_below with_sid live_servers
    create_server_call connect_call receive_call increase_call pages count_places place_at any_free any_on_loan any_lacks make run is_free
    role_at lender_of first_place
first_load_then regs pc rd = refl

pub first_loads : (regs : List ℕ) (pc rd : ℕ) → load_at 0x2000_0000 two_pages_returned regs pc rd ≡ writes regs pc rd 0x1122_3344
first_loads regs pc rd = ap (λ m. load_at 0x2000_0000 (after_all two_pages_return (both m)) regs pc rd) lent_is ∙ first_load_then regs pc rd

second_load_then : (regs : List ℕ) (pc rd : ℕ) → load_at 0x2000_1000 (after_all two_pages_return (both there_now)) regs pc rd ≡ writes regs pc rd 0x5566_7788
unfolding holder_of return_memory_call end_loan stored write zero_page there_now after_from memory_of reach words server receiver lend
    lending after_all small_machine call call_settled settled least_below listed_below listed_ids count_below with_sid live_servers
    create_server_call connect_call receive_call increase_call pages count_places place_at any_free any_on_loan any_lacks make run is_free
    role_at lender_of first_place
second_load_then regs pc rd = refl

pub second_loads : (regs : List ℕ) (pc rd : ℕ) → load_at 0x2000_1000 two_pages_returned regs pc rd ≡ writes regs pc rd 0x5566_7788
second_loads regs pc rd = ap (λ m. load_at 0x2000_1000 (after_all two_pages_return (both m)) regs pc rd) lent_is ∙ second_load_then regs pc rd

-- the row
pub ruleset two_page_rules = (begun, sent, first_stores, second_stores, returned, first_loads, second_loads)
