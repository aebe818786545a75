-- The row of a lend to an own server, by evaluation but for where its page goes.
use Rattle.std.proofs.Common.{◌≡◌, ℕ, ◌+◌, true, List, [], ◌∷◌, Some, refl, ap, ◌∙◌, arith}
use Rattle.std.specs.Prelude.{nat_le}
use Rattle.xk_base.specs.declared.pages.Width.TheVariants.{Word}
use Rattle.xk_base.specs.declared.windows.Window.TheVariants.{Message}
use Rattle.syscall_codec.specs.CallWords.{send_cid}
use Rattle.xk_base.specs.Tables.Circle.{listed_ids}
use Rattle.xk_base.specs.Tables.Counting.{least_below, listed_below, count_below}
use Rattle.syscall_codec.specs.ReplyWords.{eight_words}
use Rattle.ledger_model.specs.Ledger.{pages}
use Rattle.ledger_model.specs.LeastRun.{is_free_run, window_place}
use Rattle.ledger_model.specs.Places.{run, count_places, first_place, place_at}
use Rattle.ledger_model.specs.Reach.{is_free, role_at, lender_of, reach}
use Rattle.ledger_model.specs.RunTests.{any_free, any_on_loan, any_console, any_lacks}
use Rattle.ledger_model.specs.Steps.{make, lend, end_loan, write, zero_page}
use Rattle.machine_model.specs.Calling.Calls.{call}
use Rattle.machine_model.specs.State.Changes.{settled, call_settled}
use Rattle.machine_model.specs.Hart.Instructions.{loads, writes, Executed, Traps, load_page_fault}
use Rattle.machine_model.specs.State.Machine.{Machine, Server}
use Rattle.machine_model.specs.Calling.MemoryCalls.{increase_call}
use Rattle.machine_model.specs.Messaging.ReceiveCalls.{receive_call}
use Rattle.machine_model.specs.Messaging.Receivers.{receiver}
use Rattle.machine_model.specs.Messaging.ReturnCalls.{holder_of, return_memory_call}
use Rattle.machine_model.specs.Worked.Rows.{id_of, pid_of, small_machine, told_all, after_all}
use Rattle.machine_model.specs.Messaging.SendCalls.{send_call, sent_to, sent_pages, arrival}
use Rattle.machine_model.specs.Calling.ServerCalls.{create_server_call}
use Rattle.machine_model.specs.State.Servers.{with_sid, live_servers, server_at}
use Rattle.machine_model.specs.Calling.ThreadCalls.{create_call, free_tid}
use Rattle.machine_model.specs.State.Views.{memory_of, stored}
use Rattle.worked_examples.proofs.ArrivalLemmas.{arrives_at, told_from, after_from}
use Rattle.worked_examples.specs.OwnServer.{own_server_begin, own_server_begin_told, own_server_written, own_server_send}
use Rattle.worked_examples.specs.OwnServer.{own_server_send_told, own_server_lent, own_server_return, own_server_return_told}
use Rattle.worked_examples.specs.OwnServer.{own_server_returned}

-- 2.2 is about to lend its page
pub lending : Machine
unfolding after_all small_machine
lending = record own_server_written { cursor = id_of 2 2 }

pub words : List ℕ
words = eight_words (16 ∷ 2 ∷ 2 ∷ 7 ∷ 0x2000_0000 ∷ 4096 ∷ 0 ∷ 0 ∷ [])

pub server : Server
server = record { sid = record { 0 = 1 ∷ 2 ∷ 3 ∷ 4 ∷ [] }; pid = record { 0 = 2 }; queued = []; held = [] }

there : server_at lending (send_cid words) ≡ Some server
unfolding words server lending stored write zero_page reach after_all small_machine call call_settled settled least_below listed_below listed_ids count_below with_sid live_servers create_server_call receive_call increase_call create_call free_tid pages count_places place_at any_free any_on_loan any_lacks make run is_free role_at lender_of first_place
there = refl

free : is_free_run lending.processes lending.ledger (window_place server.pid Message 0) (sent_pages words) ≡ true
unfolding words server is_free_run lending stored write zero_page reach after_all small_machine call call_settled settled least_below listed_below listed_ids count_below with_sid live_servers create_server_call receive_call increase_call create_call free_tid pages count_places place_at any_free any_on_loan any_lacks make run is_free role_at lender_of first_place
free = refl

small : nat_le (0 + sent_pages words) 4096 ≡ true
unfolding words
small = refl

arrives : arrival lending words ≡ Some (window_place server.pid Message 0).vpn
arrives = arrives_at lending words server 0 there (omega arith) small free (λ j l. absurd (omega arith))

passes : call lending words ≡ sent_to lending words (arrival lending words)
unfolding words send_call any_console lending stored write zero_page reach after_all small_machine call call_settled settled least_below listed_below listed_ids count_below with_sid live_servers create_server_call receive_call increase_call create_call free_tid pages count_places place_at any_free any_on_loan any_lacks make run is_free role_at lender_of first_place
passes = refl

comes : call lending words ≡ sent_to lending words (Some (window_place server.pid Message 0).vpn)
comes = passes ∙ ap (sent_to lending words) arrives

pub begun : told_all own_server_begin (small_machine 2) ≡ own_server_begin_told
unfolding told_all lending stored write zero_page reach after_all small_machine call call_settled settled least_below listed_below listed_ids count_below with_sid live_servers create_server_call receive_call increase_call create_call free_tid pages count_places place_at any_free any_on_loan any_lacks make run is_free role_at lender_of first_place
begun = refl

told_since : told_all own_server_send own_server_written ≡ told_from lending [] (call lending words)
unfolding told_all lending words told_from
told_since = refl

told_then : told_from lending [] (sent_to lending words (Some (window_place server.pid Message 0).vpn)) ≡ own_server_send_told
unfolding told_from told_all words server receiver lending stored write zero_page reach after_all small_machine call call_settled settled least_below listed_below listed_ids count_below with_sid live_servers create_server_call receive_call increase_call create_call free_tid pages count_places place_at any_free any_on_loan any_lacks make run is_free role_at lender_of first_place
told_then = refl

pub sent : told_all own_server_send own_server_written ≡ own_server_send_told
sent = told_since ∙ (ap (told_from lending []) comes ∙ told_then)

-- the page has arrived
pub there_now : Machine
there_now = after_from lending [] (sent_to lending words (Some (window_place server.pid Message 0).vpn))

lent_since : own_server_lent ≡ after_from lending [] (call lending words)
unfolding after_all lending words after_from
lent_since = refl

lent_is : own_server_lent ≡ there_now
unfolding there_now
lent_is = lent_since ∙ ap (after_from lending []) comes

-- a load of a word by pid 2
abbrev pub load_at : ℕ → Machine → List ℕ → ℕ → ℕ → Executed
load_at address m regs pc rd = loads (memory_of m (pid_of 2)) regs pc rd address Word (λ v. v)

lender_then : (regs : List ℕ) (pc rd : ℕ) → load_at 0x2000_0000 there_now regs pc rd ≡ writes regs pc rd 0x1122_3344
unfolding there_now after_from memory_of words server receiver lend lending stored write zero_page reach after_all small_machine call call_settled settled least_below listed_below listed_ids count_below with_sid live_servers create_server_call receive_call increase_call create_call free_tid pages count_places place_at any_free any_on_loan any_lacks make run is_free role_at lender_of first_place
lender_then regs pc rd = refl

pub lender_loads : (regs : List ℕ) (pc rd : ℕ) → load_at 0x2000_0000 own_server_lent regs pc rd ≡ writes regs pc rd 0x1122_3344
lender_loads regs pc rd = ap (λ m. load_at 0x2000_0000 m regs pc rd) lent_is ∙ lender_then regs pc rd

holder_then : (regs : List ℕ) (pc rd : ℕ) → load_at 0x4000_0000 there_now regs pc rd ≡ writes regs pc rd 0x1122_3344
unfolding there_now after_from memory_of words server receiver lend lending stored write zero_page reach after_all small_machine call call_settled settled least_below listed_below listed_ids count_below with_sid live_servers create_server_call receive_call increase_call create_call free_tid pages count_places place_at any_free any_on_loan any_lacks make run is_free role_at lender_of first_place
holder_then regs pc rd = refl

pub holder_loads : (regs : List ℕ) (pc rd : ℕ) → load_at 0x4000_0000 own_server_lent regs pc rd ≡ writes regs pc rd 0x1122_3344
holder_loads regs pc rd = ap (λ m. load_at 0x4000_0000 m regs pc rd) lent_is ∙ holder_then regs pc rd

returned_then : told_all own_server_return there_now ≡ own_server_return_told
unfolding told_all holder_of return_memory_call end_loan there_now after_from words server receiver lend lending stored write zero_page
    reach after_all small_machine call call_settled settled least_below listed_below listed_ids count_below with_sid live_servers
    create_server_call receive_call increase_call create_call free_tid pages count_places place_at any_free any_on_loan any_lacks make run
    is_free role_at lender_of first_place
returned_then = refl

pub returned : told_all own_server_return own_server_lent ≡ own_server_return_told
returned = ap (told_all own_server_return) lent_is ∙ returned_then

home_then : (regs : List ℕ) (pc rd : ℕ) → load_at 0x2000_0000 (after_all own_server_return there_now) regs pc rd ≡ writes regs pc rd 0x1122_3344
unfolding holder_of return_memory_call end_loan there_now after_from memory_of words server receiver lend lending stored write zero_page
    reach after_all small_machine call call_settled settled least_below listed_below listed_ids count_below with_sid live_servers
    create_server_call receive_call increase_call create_call free_tid pages count_places place_at any_free any_on_loan any_lacks make run
    is_free role_at lender_of first_place
home_then regs pc rd = refl

pub home_loads : (regs : List ℕ) (pc rd : ℕ) → load_at 0x2000_0000 own_server_returned regs pc rd ≡ writes regs pc rd 0x1122_3344
home_loads regs pc rd = ap (λ m. load_at 0x2000_0000 (after_all own_server_return m) regs pc rd) lent_is ∙ home_then regs pc rd

traps_then : (regs : List ℕ) (pc rd : ℕ) → load_at 0x4000_0000 (after_all own_server_return there_now) regs pc rd ≡ Traps load_page_fault 0x4000_0000
unfolding holder_of return_memory_call end_loan there_now after_from memory_of words server receiver lend lending stored write zero_page
    reach after_all small_machine call call_settled settled least_below listed_below listed_ids count_below with_sid live_servers
    create_server_call receive_call increase_call create_call free_tid pages count_places place_at any_free any_on_loan any_lacks make run
    is_free role_at lender_of first_place
traps_then regs pc rd = refl

pub returned_traps : (regs : List ℕ) (pc rd : ℕ) → load_at 0x4000_0000 own_server_returned regs pc rd ≡ Traps load_page_fault 0x4000_0000
returned_traps regs pc rd = ap (λ m. load_at 0x4000_0000 (after_all own_server_return m) regs pc rd) lent_is ∙ traps_then regs pc rd

-- the row
pub ruleset own_server_rules = (begun, sent, lender_loads, holder_loads, returned, home_loads, returned_traps)
