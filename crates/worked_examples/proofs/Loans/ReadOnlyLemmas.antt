-- The row of a read-only page, by evaluation but for where its page goes.
use Rattle.std.proofs.Common.{◌≡◌, ℕ, ◌+◌, true, List, [], ◌∷◌, Some, refl, ap, ◌∙◌, arith}
use Rattle.std.specs.Prelude.{nat_le}
use Rattle.xk_base.specs.declared.pages.Width.TheVariants.{Word}
use Rattle.xk_base.specs.declared.windows.Window.TheVariants.{Message}
use Rattle.syscall_codec.specs.CallWords.{send_cid}
use Rattle.xk_base.specs.Tables.Circle.{listed_ids}
use Rattle.xk_base.specs.Tables.Counting.{least_below, listed_below, count_below}
use Rattle.syscall_codec.specs.ReplyWords.{eight_words}
use Rattle.ledger_model.specs.Ledger.{pages}
use Rattle.ledger_model.specs.LeastRun.{is_free_run, window_place}
use Rattle.ledger_model.specs.Places.{run, count_places, first_place, place_at}
use Rattle.ledger_model.specs.Reach.{is_free, role_at, lender_of, reach}
use Rattle.ledger_model.specs.RunTests.{any_free, any_on_loan, any_console, any_lacks}
use Rattle.ledger_model.specs.Steps.{make, reduce, lend, end_loan, write, zero_page}
use Rattle.machine_model.specs.Calling.Calls.{call}
use Rattle.machine_model.specs.State.Changes.{settled, call_settled}
use Rattle.machine_model.specs.Hart.Instructions.{loads, stores, writes, Executed, Traps, store_page_fault}
use Rattle.machine_model.specs.State.Machine.{Machine, Server}
use Rattle.machine_model.specs.Calling.MemoryCalls.{increase_call, update_call}
use Rattle.machine_model.specs.Messaging.ReceiveCalls.{receive_call}
use Rattle.machine_model.specs.Messaging.Receivers.{receiver}
use Rattle.machine_model.specs.Messaging.ReturnCalls.{holder_of, return_memory_call}
use Rattle.machine_model.specs.Worked.Rows.{id_of, pid_of, small_machine, told_all, after_all}
use Rattle.machine_model.specs.Messaging.SendCalls.{send_call, sent_to, sent_pages, arrival}
use Rattle.machine_model.specs.Calling.ServerCalls.{create_server_call, connect_call}
use Rattle.machine_model.specs.State.Servers.{with_sid, live_servers, server_at}
use Rattle.machine_model.specs.Calling.ThreadCalls.{create_call, free_tid}
use Rattle.machine_model.specs.State.Views.{memory_of, stored}
use Rattle.worked_examples.proofs.ArrivalLemmas.{arrives_at, told_from, after_from}
use Rattle.worked_examples.specs.ReadOnly.{read_only_written, read_only_reduce, read_only_reduce_told, read_only_reduced, read_only_return}
use Rattle.worked_examples.specs.ReadOnly.{read_only_row, read_only_told, read_only_lent, read_only_returned}

-- 3.2 is about to lend its page
pub lending : Machine
unfolding after_all small_machine
lending = record read_only_reduced { cursor = id_of 3 2 }

pub words : List ℕ
words = eight_words (16 ∷ 2 ∷ 2 ∷ 7 ∷ 0x2000_0000 ∷ 4096 ∷ 0 ∷ 0 ∷ [])

pub server : Server
server = record { sid = record { 0 = 1 ∷ 2 ∷ 3 ∷ 4 ∷ [] }; pid = record { 0 = 2 }; queued = []; held = [] }

there : server_at lending (send_cid words) ≡ Some server
unfolding words server lending stored write zero_page reach after_all small_machine call call_settled settled least_below listed_below listed_ids count_below with_sid live_servers create_server_call connect_call receive_call increase_call create_call free_tid pages count_places place_at update_call any_free any_on_loan any_lacks reduce make run is_free role_at lender_of first_place
there = refl

free : is_free_run lending.processes lending.ledger (window_place server.pid Message 0) (sent_pages words) ≡ true
unfolding words server is_free_run lending stored write zero_page reach after_all small_machine call call_settled settled least_below listed_below listed_ids count_below with_sid live_servers create_server_call connect_call receive_call increase_call create_call free_tid pages count_places place_at update_call any_free any_on_loan any_lacks reduce make run is_free role_at lender_of first_place
free = refl

small : nat_le (0 + sent_pages words) 4096 ≡ true
unfolding words
small = refl

arrives : arrival lending words ≡ Some (window_place server.pid Message 0).vpn
arrives = arrives_at lending words server 0 there (omega arith) small free (λ j l. absurd (omega arith))

passes : call lending words ≡ sent_to lending words (arrival lending words)
unfolding words send_call any_console lending stored write zero_page reach after_all small_machine call call_settled settled least_below listed_below listed_ids count_below with_sid live_servers create_server_call connect_call receive_call increase_call create_call free_tid pages count_places place_at update_call any_free any_on_loan any_lacks reduce make run is_free role_at lender_of first_place
passes = refl

comes : call lending words ≡ sent_to lending words (Some (window_place server.pid Message 0).vpn)
comes = passes ∙ ap (sent_to lending words) arrives

told_since : told_all read_only_row read_only_reduced ≡ told_from lending read_only_return (call lending words)
unfolding told_all lending words told_from
told_since = refl

told_then : told_from lending read_only_return (sent_to lending words (Some (window_place server.pid Message 0).vpn)) ≡ read_only_told
unfolding told_from told_all words server receiver holder_of return_memory_call lend end_loan lending stored write zero_page reach after_all
    small_machine call call_settled settled least_below listed_below listed_ids count_below with_sid live_servers create_server_call
    connect_call receive_call increase_call create_call free_tid pages count_places place_at update_call any_free any_on_loan any_lacks
    reduce make run is_free role_at lender_of first_place
told_then = refl

pub told : told_all read_only_row read_only_reduced ≡ read_only_told
told = told_since ∙ (ap (told_from lending read_only_return) comes ∙ told_then)

pub reduced : told_all read_only_reduce read_only_written ≡ read_only_reduce_told
unfolding told_all stored write zero_page reach after_all small_machine call call_settled settled least_below listed_below listed_ids count_below with_sid live_servers create_server_call connect_call receive_call increase_call create_call free_tid pages count_places place_at update_call any_free any_on_loan any_lacks reduce make run is_free role_at lender_of first_place
reduced = refl

-- a store of a word by pid 3 to its page
abbrev pub store_in : Machine → List ℕ → ℕ → ℕ → Executed
store_in m regs pc value = stores (memory_of m (pid_of 3)) regs pc 0x2000_0000 Word value

lent_since : read_only_lent ≡ after_from lending [] (call lending words)
unfolding after_all lending words after_from
lent_since = refl

lent_then : (regs : List ℕ) (pc value : ℕ) → store_in (after_from lending [] (sent_to lending words (Some (window_place server.pid Message 0).vpn))) regs pc value ≡ Traps store_page_fault 0x2000_0000
unfolding after_from memory_of words server receiver lend lending stored write zero_page reach after_all small_machine call call_settled
    settled least_below listed_below listed_ids count_below with_sid live_servers create_server_call connect_call receive_call increase_call
    create_call free_tid pages count_places place_at update_call any_free any_on_loan any_lacks reduce make run is_free role_at lender_of
    first_place
lent_then regs pc value = refl

pub lent_traps : (regs : List ℕ) (pc value : ℕ) → store_in read_only_lent regs pc value ≡ Traps store_page_fault 0x2000_0000
lent_traps regs pc value =
    ap (λ m. store_in m regs pc value) (lent_since ∙ ap (after_from lending []) comes) ∙ lent_then regs pc value

returned_since : read_only_returned ≡ after_from lending read_only_return (call lending words)
unfolding after_all lending words after_from
returned_since = refl

returned_then : (regs : List ℕ) (pc value : ℕ) → store_in (after_from lending read_only_return (sent_to lending words (Some (window_place server.pid Message 0).vpn))) regs pc value ≡ Traps store_page_fault 0x2000_0000
unfolding after_from memory_of words server receiver holder_of return_memory_call lend end_loan lending stored write zero_page reach
    after_all small_machine call call_settled settled least_below listed_below listed_ids count_below with_sid live_servers
    create_server_call connect_call receive_call increase_call create_call free_tid pages count_places place_at update_call any_free
    any_on_loan any_lacks reduce make run is_free role_at lender_of first_place
returned_then regs pc value = refl

pub returned_traps : (regs : List ℕ) (pc value : ℕ) → store_in read_only_returned regs pc value ≡ Traps store_page_fault 0x2000_0000
returned_traps regs pc value =
    ap (λ m. store_in m regs pc value) (returned_since ∙ ap (after_from lending read_only_return) comes) ∙ returned_then regs pc value

-- a load of the word by pid 2, at its address, and by pid 3 after the return
abbrev pub load_in : ℕ → ℕ → Machine → List ℕ → ℕ → ℕ → Executed
load_in pid address m regs pc rd = loads (memory_of m (pid_of pid)) regs pc rd address Word (λ v. v)

lent_load_then : (regs : List ℕ) (pc rd : ℕ) → load_in 2 0x4000_0000 (after_from lending [] (sent_to lending words (Some (window_place server.pid Message 0).vpn))) regs pc rd ≡ writes regs pc rd 0x1122_3344
unfolding after_from memory_of words server receiver lend lending stored write zero_page reach after_all small_machine call call_settled
    settled least_below listed_below listed_ids count_below with_sid live_servers create_server_call connect_call receive_call increase_call
    create_call free_tid pages count_places place_at update_call any_free any_on_loan any_lacks reduce make run is_free role_at lender_of
    first_place
lent_load_then regs pc rd = refl

pub lent_loads : (regs : List ℕ) (pc rd : ℕ) → load_in 2 0x4000_0000 read_only_lent regs pc rd ≡ writes regs pc rd 0x1122_3344
lent_loads regs pc rd =
    ap (λ m. load_in 2 0x4000_0000 m regs pc rd) (lent_since ∙ ap (after_from lending []) comes) ∙ lent_load_then regs pc rd

returned_load_then : (regs : List ℕ) (pc rd : ℕ) → load_in 3 0x2000_0000 (after_from lending read_only_return (sent_to lending words (Some (window_place server.pid Message 0).vpn))) regs pc rd ≡ writes regs pc rd 0x1122_3344
unfolding after_from memory_of words server receiver holder_of return_memory_call lend end_loan lending stored write zero_page reach
    after_all small_machine call call_settled settled least_below listed_below listed_ids count_below with_sid live_servers
    create_server_call connect_call receive_call increase_call create_call free_tid pages count_places place_at update_call any_free
    any_on_loan any_lacks reduce make run is_free role_at lender_of first_place
returned_load_then regs pc rd = refl

pub returned_loads : (regs : List ℕ) (pc rd : ℕ) → load_in 3 0x2000_0000 read_only_returned regs pc rd ≡ writes regs pc rd 0x1122_3344
returned_loads regs pc rd =
    ap (λ m. load_in 3 0x2000_0000 m regs pc rd) (returned_since ∙ ap (after_from lending read_only_return) comes) ∙ returned_load_then regs pc rd

-- the row
pub ruleset read_only_rules = (reduced, told, lent_loads, lent_traps, returned_loads, returned_traps)
