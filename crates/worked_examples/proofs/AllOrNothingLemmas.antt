-- The row of a send of which one page is on loan, by evaluation but for where the pages go.
use Rattle.std.proofs.Common.{◌≡◌, ℕ, zero, suc, ◌+◌, ◌<◌, true, false, List, [], ◌∷◌, Some, refl, ap, ◌∙◌, arith}
use Rattle.std.specs.Prelude.{nat_le, unwrap_or, drop}
use Rattle.xk_base.specs.declared.windows.Window.TheVariants.{Message}
use Rattle.syscall_codec.specs.CallWords.{send_cid}
use Rattle.xk_base.specs.Tables.Circle.{listed_ids}
use Rattle.xk_base.specs.Tables.Counting.{least_below, listed_below, count_below}
use Rattle.syscall_codec.specs.ReplyWords.{eight_words}
use Rattle.ledger_model.specs.Ledger.{pages}
use Rattle.ledger_model.specs.LeastRun.{is_free_run, window_place}
use Rattle.ledger_model.specs.Places.{run, count_places, first_place, place_at}
use Rattle.ledger_model.specs.Reach.{is_free, role_at, lender_of}
use Rattle.ledger_model.specs.RunTests.{any_free, any_on_loan, any_console, any_lacks}
use Rattle.ledger_model.specs.Steps.{make, lend}
use Rattle.machine_model.specs.Calling.Calls.{call}
use Rattle.machine_model.specs.State.Changes.{settled, call_settled}
use Rattle.machine_model.specs.State.Machine.{Machine, Server}
use Rattle.machine_model.specs.Calling.MemoryCalls.{increase_call}
use Rattle.machine_model.specs.Messaging.ReceiveCalls.{receive_call}
use Rattle.machine_model.specs.Messaging.Receivers.{receiver}
use Rattle.machine_model.specs.Worked.Rows.{id_of, pid_of, small_machine, told_all, after_all}
use Rattle.machine_model.specs.Messaging.SendCalls.{send_call, sent_to, sent_pages, arrival}
use Rattle.machine_model.specs.Calling.ServerCalls.{create_server_call, connect_call}
use Rattle.machine_model.specs.State.Servers.{with_sid, live_servers, server_at}
use Rattle.machine_model.specs.Calling.ThreadCalls.{create_call, free_tid}
use Rattle.xk_base.specs.Numbers.Windows.{page_of}
use Rattle.worked_examples.proofs.ArrivalLemmas.{arrives_at, told_from, after_from}
use Rattle.worked_examples.specs.AllOrNothing.{four_pages_begin, four_pages_begin_told, four_pages_refused, four_pages_refused_told}
use Rattle.worked_examples.specs.AllOrNothing.{after_refusal, three_pages_row, three_pages_told}

-- 3.3 is about to lend the last page
pub lending : Machine
unfolding after_all small_machine
lending = record (after_all four_pages_begin (small_machine 2)) { cursor = id_of 3 3 }

pub words : List ℕ
words = eight_words (16 ∷ 2 ∷ 2 ∷ 7 ∷ 0x2000_3000 ∷ 4096 ∷ 0 ∷ 0 ∷ [])

pub server : Server
server = record { sid = record { 0 = 1 ∷ 2 ∷ 3 ∷ 4 ∷ [] }; pid = record { 0 = 2 }; queued = []; held = [] }

there : server_at lending (send_cid words) ≡ Some server
unfolding words server lending after_all small_machine call call_settled settled least_below listed_below listed_ids count_below with_sid live_servers create_server_call connect_call receive_call increase_call create_call free_tid pages count_places place_at any_free any_on_loan any_lacks make run is_free role_at lender_of first_place
there = refl

free : is_free_run lending.processes lending.ledger (window_place server.pid Message 0) (sent_pages words) ≡ true
unfolding words server is_free_run lending after_all small_machine call call_settled settled least_below listed_below listed_ids count_below with_sid live_servers create_server_call connect_call receive_call increase_call create_call free_tid pages count_places place_at any_free any_on_loan any_lacks make run is_free role_at lender_of first_place
free = refl

small : nat_le (0 + sent_pages words) 4096 ≡ true
unfolding words
small = refl

arrives : arrival lending words ≡ Some (window_place server.pid Message 0).vpn
arrives = arrives_at lending words server 0 there (omega arith) small free (λ j l. absurd (omega arith))

passes : call lending words ≡ sent_to lending words (arrival lending words)
unfolding words send_call any_console lending after_all small_machine call call_settled settled least_below listed_below listed_ids count_below with_sid live_servers create_server_call connect_call receive_call increase_call create_call free_tid pages count_places place_at any_free any_on_loan any_lacks make run is_free role_at lender_of first_place
passes = refl

comes : call lending words ≡ sent_to lending words (Some (window_place server.pid Message 0).vpn)
comes = passes ∙ ap (sent_to lending words) arrives

pub begun : told_all four_pages_begin (small_machine 2) ≡ four_pages_begin_told
unfolding told_all lending after_all small_machine call call_settled settled least_below listed_below listed_ids count_below with_sid live_servers create_server_call connect_call receive_call increase_call create_call free_tid pages count_places place_at any_free any_on_loan any_lacks make run is_free role_at lender_of first_place
begun = refl

told_since : told_all four_pages_refused (after_all four_pages_begin (small_machine 2)) ≡ told_from lending (drop 1 four_pages_refused) (call lending words)
unfolding told_all lending words told_from
told_since = refl

told_then : told_from lending (drop 1 four_pages_refused) (sent_to lending words (Some (window_place server.pid Message 0).vpn)) ≡ four_pages_refused_told
unfolding told_from told_all words server receiver lend send_call any_console lending after_all small_machine call call_settled settled least_below listed_below listed_ids count_below with_sid live_servers create_server_call connect_call receive_call increase_call create_call free_tid pages count_places place_at any_free any_on_loan any_lacks make run is_free role_at lender_of first_place
told_then = refl

pub refused : told_all four_pages_refused (after_all four_pages_begin (small_machine 2)) ≡ four_pages_refused_told
refused = told_since ∙ (ap (told_from lending (drop 1 four_pages_refused)) comes ∙ told_then)

-- the last page has arrived, and the send of all four was refused
pub refusal_left : Machine
refusal_left = after_from lending (drop 1 four_pages_refused) (sent_to lending words (Some (window_place server.pid Message 0).vpn))

left_since : after_refusal ≡ after_from lending (drop 1 four_pages_refused) (call lending words)
unfolding after_all lending words after_from
left_since = refl

left_is : after_refusal ≡ refusal_left
unfolding refusal_left
left_is = left_since ∙ ap (after_from lending (drop 1 four_pages_refused)) comes

none_then : any_on_loan 2 refusal_left.ledger (page_of (pid_of 3) 0x2000_0000) 3 ≡ false
unfolding refusal_left after_from words server receiver lend send_call any_console lending after_all small_machine call call_settled settled least_below listed_below listed_ids count_below with_sid live_servers create_server_call connect_call receive_call increase_call create_call free_tid pages count_places place_at any_free any_on_loan any_lacks make run is_free role_at lender_of first_place
none_then = refl

pub none_lent : any_on_loan 2 after_refusal.ledger (page_of (pid_of 3) 0x2000_0000) 3 ≡ false
none_lent = ap (λ m. any_on_loan 2 m.ledger (page_of (pid_of 3) 0x2000_0000) 3) left_is ∙ none_then

-- 3.2 is about to lend the other three
pub lending_rest : Machine
lending_rest = record refusal_left { cursor = id_of 3 2 }

pub rest_words : List ℕ
rest_words = eight_words (16 ∷ 2 ∷ 2 ∷ 7 ∷ 0x2000_0000 ∷ 12288 ∷ 0 ∷ 0 ∷ [])

-- the server holds the first message now
pub holder : Server
holder = unwrap_or (server_at lending_rest (send_cid rest_words)) server

rest_there : server_at lending_rest (send_cid rest_words) ≡ Some holder
unfolding rest_words holder lending_rest refusal_left after_from words server receiver lend send_call any_console lending after_all
    small_machine call call_settled settled least_below listed_below listed_ids count_below with_sid live_servers create_server_call
    connect_call receive_call increase_call create_call free_tid pages count_places place_at any_free any_on_loan any_lacks make run is_free
    role_at lender_of first_place
rest_there = refl

first_used : is_free_run lending_rest.processes lending_rest.ledger (window_place holder.pid Message 0) (sent_pages rest_words) ≡ false
unfolding rest_words holder is_free_run lending_rest refusal_left after_from words server receiver lend send_call any_console lending
    after_all small_machine call call_settled settled least_below listed_below listed_ids count_below with_sid live_servers
    create_server_call connect_call receive_call increase_call create_call free_tid pages count_places place_at any_free any_on_loan
    any_lacks make run is_free role_at lender_of first_place
first_used = refl

none_before : (j : ℕ) → j < 1 → is_free_run lending_rest.processes lending_rest.ledger (window_place holder.pid Message j) (sent_pages rest_words) ≡ false
none_before zero l = first_used
none_before (suc j) l = absurd (omega arith)

rest_free : is_free_run lending_rest.processes lending_rest.ledger (window_place holder.pid Message 1) (sent_pages rest_words) ≡ true
unfolding rest_words holder is_free_run lending_rest refusal_left after_from words server receiver lend send_call any_console lending
    after_all small_machine call call_settled settled least_below listed_below listed_ids count_below with_sid live_servers
    create_server_call connect_call receive_call increase_call create_call free_tid pages count_places place_at any_free any_on_loan
    any_lacks make run is_free role_at lender_of first_place
rest_free = refl

rest_small : nat_le (1 + sent_pages rest_words) 4096 ≡ true
unfolding rest_words
rest_small = refl

rest_arrives : arrival lending_rest rest_words ≡ Some (window_place holder.pid Message 1).vpn
rest_arrives = arrives_at lending_rest rest_words holder 1 rest_there (omega arith) rest_small rest_free none_before

rest_passes : call lending_rest rest_words ≡ sent_to lending_rest rest_words (arrival lending_rest rest_words)
unfolding rest_words lending_rest refusal_left after_from words server receiver lend send_call any_console lending after_all small_machine
    call call_settled settled least_below listed_below listed_ids count_below with_sid live_servers create_server_call connect_call
    receive_call increase_call create_call free_tid pages count_places place_at any_free any_on_loan any_lacks make run is_free role_at
    lender_of first_place
rest_passes = refl

rest_comes : call lending_rest rest_words ≡ sent_to lending_rest rest_words (Some (window_place holder.pid Message 1).vpn)
rest_comes = rest_passes ∙ ap (sent_to lending_rest rest_words) rest_arrives

rest_since : told_all three_pages_row refusal_left ≡ told_from lending_rest (drop 1 three_pages_row) (call lending_rest rest_words)
unfolding told_all lending_rest rest_words told_from
rest_since = refl

rest_then : told_from lending_rest (drop 1 three_pages_row) (sent_to lending_rest rest_words (Some (window_place holder.pid Message 1).vpn)) ≡ three_pages_told
unfolding told_from told_all rest_words holder lending_rest refusal_left after_from words server receiver lend send_call any_console lending
    after_all small_machine call call_settled settled least_below listed_below listed_ids count_below with_sid live_servers
    create_server_call connect_call receive_call increase_call create_call free_tid pages count_places place_at any_free any_on_loan
    any_lacks make run is_free role_at lender_of first_place
rest_then = refl

pub three_sent : told_all three_pages_row after_refusal ≡ three_pages_told
three_sent =
    ap (told_all three_pages_row) left_is
    ∙ (rest_since ∙ (ap (told_from lending_rest (drop 1 three_pages_row)) rest_comes ∙ rest_then))

-- the row
pub ruleset all_or_nothing_rules = (begun, refused, none_lent, three_sent)
