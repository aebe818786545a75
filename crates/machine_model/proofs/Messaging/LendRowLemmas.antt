-- The worked row of a lend. Where its page goes is found by a law, since the search for it goes through all places; the rest is
-- evaluated.
use Rattle.std.proofs.Common.{◌≡◌, ℕ, ◌+◌, true, List, [], ◌∷◌, ◌++◌, Some, refl, ap, ◌∙◌, arith}
use Rattle.std.specs.Prelude.{◌&&◌, nat_le, drop}
use Rattle.std.specs.Option.{option_map, option_and_then}
use Rattle.xk_base.specs.declared.records.What.{What}
use Rattle.xk_base.specs.declared.windows.Window.TheVariants.{Message}
use Rattle.syscall_codec.specs.CallWords.{send_cid}
use Rattle.xk_base.specs.Tables.Circle.{listed_ids}
use Rattle.xk_base.specs.Tables.Counting.{least_below, listed_below, count_below}
use Rattle.syscall_codec.specs.ReplyWords.{eight_words}
use Rattle.xk_base.proofs.CountingLemmas.{least_below-Some}
use Rattle.ledger_model.specs.Ledger.{pages}
use Rattle.ledger_model.specs.LeastRun.{least_run, is_free_run, window_place}
use Rattle.ledger_model.specs.Places.{run, count_places, first_place, place_at}
use Rattle.ledger_model.specs.Reach.{is_free, role_at, lender_of}
use Rattle.ledger_model.specs.RunTests.{any_free, any_used, any_on_loan, any_console, any_lacks, console_mapped}
use Rattle.ledger_model.specs.Steps.{make, make_console, reduce, lend, end_loan, forget}
use Rattle.machine_model.specs.Calling.Calls.{call}
use Rattle.machine_model.specs.State.Changes.{Outcome, settled, call_settled}
use Rattle.machine_model.specs.Ending.Closing.{any_server, closed, servers_closed, senders_queued_gone, senders_held_gone}
use Rattle.machine_model.specs.Ending.Ends.{death, forgotten}
use Rattle.machine_model.specs.Stepping.Events.{killed}
use Rattle.machine_model.specs.Messaging.LoanSets.{end_loans, orphan_loans}
use Rattle.machine_model.specs.State.Machine.{Machine, Server}
use Rattle.machine_model.specs.Calling.MemoryCalls.{increase_call, update_call, map_call}
use Rattle.machine_model.specs.Messaging.ReceiveCalls.{receive_call}
use Rattle.machine_model.specs.Messaging.Receivers.{receiver}
use Rattle.machine_model.specs.Messaging.ReturnCalls.{holder_of, return_memory_call}
use Rattle.machine_model.specs.Worked.LendRows.{lend_begin, lend_begin_told, lend_row, lend_told, orphan_row, orphan_told, refusal_row, refusal_told}
use Rattle.machine_model.specs.Worked.Rows.{Deed, id_of, small_machine, told_all, after_all}
use Rattle.machine_model.specs.Messaging.SendCalls.{send_call, try_send_call, sent_to, sent_pages, arrival, message_run}
use Rattle.machine_model.specs.Calling.ServerCalls.{create_server_call, connect_call}
use Rattle.machine_model.specs.State.Servers.{with_sid, live_servers, server_at}
use Rattle.machine_model.specs.Calling.ThreadCalls.{create_call, free_tid}

-- the first run of the window is free: it is the least
first_run_free : (m : Machine) (n : ℕ) (server : Server) → nat_le (0 + n) 4096 ≡ true
    → is_free_run m.processes m.ledger (window_place server.pid Message 0) n ≡ true
    → message_run m n server ≡ Some (record { 0 = 0x4_0000 })
unfolding least_run
first_run_free m n server small free =
    ap (option_map (λ k. (window_place server.pid Message k).vpn))
    (least_below-Some 4096 (λ k. nat_le (k + n) 4096 && is_free_run m.processes m.ledger (window_place server.pid Message k) n) 0 (omega arith)
    (rw (small, free) refl) (λ j l. absurd (omega arith)))

-- 3.2 is about to lend its page
pub lending : Machine
unfolding after_all small_machine
lending = record (after_all lend_begin (small_machine 2)) { cursor = id_of 3 2 }

-- by a send of that kind
pub words : ℕ → List ℕ
words kind = eight_words (16 ∷ 2 ∷ kind ∷ 7 ∷ 0x2000_0000 ∷ 4096 ∷ 0 ∷ 0 ∷ [])

pub server : Server
server = record { sid = record { 0 = 1 ∷ 2 ∷ 3 ∷ 4 ∷ [] }; pid = record { 0 = 2 }; queued = []; held = [] }

there : (kind : ℕ) → server_at lending (send_cid (words kind)) ≡ Some server
unfolding words server lending after_all small_machine call call_settled settled least_below listed_below listed_ids count_below with_sid live_servers create_server_call connect_call receive_call increase_call create_call free_tid pages count_places place_at
there kind = refl

free : (kind : ℕ) → is_free_run lending.processes lending.ledger (window_place server.pid Message 0) (sent_pages (words kind)) ≡ true
unfolding words server is_free_run lending after_all small_machine call call_settled settled least_below listed_below listed_ids count_below with_sid live_servers create_server_call connect_call receive_call increase_call create_call free_tid pages count_places place_at run is_free role_at lender_of first_place make
free kind = refl

small : (kind : ℕ) → nat_le (0 + sent_pages (words kind)) 4096 ≡ true
unfolding words
small kind = refl

arrives : (kind : ℕ) → arrival lending (words kind) ≡ Some (record { 0 = 0x4_0000 })
unfolding arrival
arrives kind =
    ap (option_and_then (message_run lending (sent_pages (words kind)))) (there kind)
    ∙ first_run_free lending (sent_pages (words kind)) server (small kind) (free kind)

-- by its words, up to where its pages go, the send is accepted
lend_passes : call lending (words 2) ≡ sent_to lending (words 2) (arrival lending (words 2))
unfolding words send_call any_free any_on_loan any_console any_lacks lending after_all small_machine call call_settled settled least_below listed_below listed_ids count_below with_sid live_servers create_server_call connect_call receive_call increase_call create_call free_tid pages count_places place_at run is_free role_at lender_of first_place make
lend_passes = refl

lend_mut_passes : call lending (words 1) ≡ sent_to lending (words 1) (arrival lending (words 1))
unfolding words send_call any_free any_on_loan any_console any_lacks lending after_all small_machine call call_settled settled least_below listed_below listed_ids count_below with_sid live_servers create_server_call connect_call receive_call increase_call create_call free_tid pages count_places place_at run is_free role_at lender_of first_place make
lend_mut_passes = refl

-- what is told from the send on, by what comes of it
pub told_from : List Deed → Outcome → List What
told_from rest outcome = (call_settled lending outcome).told ++ told_all rest (call_settled lending outcome).machine

from_lend : told_all lend_row (after_all lend_begin (small_machine 2)) ≡ told_from (drop 1 lend_row) (call lending (words 2))
unfolding told_all lending words told_from
from_lend = refl

from_lend_mut : told_all orphan_row (after_all lend_begin (small_machine 2)) ≡ told_from (drop 1 orphan_row) (call lending (words 1))
unfolding told_all lending words told_from
from_lend_mut = refl

after_lend : told_from (drop 1 lend_row) (sent_to lending (words 2) (Some (record { 0 = 0x4_0000 }))) ≡ lend_told
unfolding told_from told_all words make receiver holder_of return_memory_call lend end_loan lending after_all small_machine call call_settled settled least_below listed_below listed_ids count_below with_sid live_servers create_server_call connect_call receive_call increase_call create_call free_tid pages count_places place_at
after_lend = refl

after_lend_mut : told_from (drop 1 orphan_row) (sent_to lending (words 1) (Some (record { 0 = 0x4_0000 }))) ≡ orphan_told
unfolding told_from told_all words try_send_call any_free any_on_loan any_console any_lacks receiver holder_of return_memory_call lend
    end_loan killed death servers_closed closed any_server senders_queued_gone senders_held_gone end_loans orphan_loans forgotten forget
    lending after_all small_machine call call_settled settled least_below listed_below listed_ids count_below with_sid live_servers
    create_server_call connect_call receive_call increase_call create_call free_tid pages count_places place_at run is_free role_at
    lender_of first_place make
after_lend_mut = refl

pub lent_and_returned : told_all lend_row (after_all lend_begin (small_machine 2)) ≡ lend_told
lent_and_returned = from_lend ∙ (ap (told_from (drop 1 lend_row)) (lend_passes ∙ ap (sent_to lending (words 2)) (arrives 2)) ∙ after_lend)

pub orphan_returned : told_all orphan_row (after_all lend_begin (small_machine 2)) ≡ orphan_told
orphan_returned =
    from_lend_mut ∙ (ap (told_from (drop 1 orphan_row)) (lend_mut_passes ∙ ap (sent_to lending (words 1)) (arrives 1)) ∙ after_lend_mut)

pub begun : told_all lend_begin (small_machine 2) ≡ lend_begin_told
unfolding told_all lending after_all small_machine call call_settled settled least_below listed_below listed_ids count_below with_sid live_servers create_server_call connect_call receive_call increase_call create_call free_tid pages count_places place_at
begun = refl

pub sends_refused : told_all refusal_row (after_all lend_begin (small_machine 2)) ≡ refusal_told
unfolding told_all try_send_call update_call map_call any_free any_used any_on_loan any_console any_lacks console_mapped reduce make_console
    lending after_all small_machine call call_settled settled least_below listed_below listed_ids count_below with_sid live_servers
    create_server_call connect_call receive_call increase_call create_call free_tid pages count_places place_at run is_free role_at
    lender_of first_place make
sends_refused = refl
