-- The row of a server that is destroyed with its loans, by evaluation but for where the pages go.
use Rattle.std.proofs.Common.{◌≡◌, ℕ, true, false, List, [], ◌∷◌, refl, arith}
use Rattle.std.specs.Prelude.{drop, map, unwrap_or}
use Rattle.xk_base.specs.declared.ids.Place.{Place}
use Rattle.xk_base.specs.declared.pages.LoanKind.TheVariants.{Exclusive}
use Rattle.syscall_codec.specs.CallWords.{send_cid}
use Rattle.xk_base.specs.Tables.Circle.{listed_ids}
use Rattle.xk_base.specs.Tables.Counting.{least_below, listed_below, count_below}
use Rattle.syscall_codec.specs.ReplyWords.{eight_words}
use Rattle.rv32_words.specs.Reading.{insn_at}
use Rattle.ledger_model.specs.Ledger.{Ledger}
use Rattle.ledger_model.specs.Places.{run}
use Rattle.ledger_model.specs.Reach.{is_free, reach, role_at}
use Rattle.ledger_model.specs.RunTests.{any_free, any_on_loan, any_console, any_lacks}
use Rattle.ledger_model.specs.Steps.{lend, write, zero_page}
use Rattle.machine_model.specs.Calling.Calls.{call}
use Rattle.machine_model.specs.Calling.ServerCalls.{create_server_call, connect_call, destroy_call}
use Rattle.machine_model.specs.Ending.Closing.{any_server, closed, destroyed}
use Rattle.machine_model.specs.Hart.Atomics.{execute_at, execute, atomic_at}
use Rattle.machine_model.specs.Hart.Instructions.{execute_base}
use Rattle.machine_model.specs.Messaging.LoanSets.{end_loans}
use Rattle.machine_model.specs.Messaging.ReceiveCalls.{receive_call}
use Rattle.machine_model.specs.Messaging.Receivers.{receiver}
use Rattle.machine_model.specs.Messaging.SendCalls.{send_call}
use Rattle.machine_model.specs.State.Changes.{settled, call_settled}
use Rattle.machine_model.specs.State.Machine.{Machine, Server}
use Rattle.machine_model.specs.State.Order.{actor}
use Rattle.machine_model.specs.State.Servers.{with_sid, live_servers, server_at}
use Rattle.machine_model.specs.State.Views.{memory_of, stored}
use Rattle.machine_model.specs.Stepping.Acts.{call_by}
use Rattle.machine_model.specs.Stepping.Step.{step, step_by}
use Rattle.machine_model.specs.Worked.Rows.{small_machine, id_of, what_of}
use Rattle.worked_examples.specs.Playing.{told_by, left_by, expected, code, first_pages, listed_ledger, coded_machine, IsToldAs}
use Rattle.worked_examples.proofs.ArrivalLemmas.{fails_below_one}
use Rattle.worked_examples.proofs.Loans.HomeLemmas.{IsCovered, places_in, covered_listed, covered_lend, free_place, used_place}
use Rattle.worked_examples.proofs.PlayingLemmas.{told_on, call_step}
use Rattle.worked_examples.proofs.SendingLemmas.{IsSending, sending, sends, send_told, send_left, sent_step, window_at_receiver}
use Rattle.worked_examples.specs.Deaths.{two_connected, lend_queued, second_lend_queued, destroy_row}

homes : List Place
homes = places_in (first_pages 3)

begun : IsToldAs two_connected (coded_machine 3)
unfolding told_by expected coded_machine small_machine listed_ledger code step step_by actor memory_of reach role_at execute_at execute execute_base atomic_at insn_at call call_settled settled least_below listed_below listed_ids count_below with_sid live_servers create_server_call connect_call
begun = refl

-- 3.2 is about to lend a page
pub lender_words : List ℕ
lender_words = 16 ∷ 2 ∷ 1 ∷ 7 ∷ 0x2000_0000 ∷ 4096 ∷ 0 ∷ 0 ∷ []

pub lender_server : Server
lender_server =
    unwrap_or (server_at (sending (id_of 3 2) lender_words (left_by two_connected (coded_machine 3))) (send_cid (eight_words lender_words)))
    (record { sid = record { 0 = [] }; pid = record { 0 = 0 }; queued = []; held = [] })

pub lender_ledger : Ledger
lender_ledger = listed_ledger (first_pages 3)

lender_covered : IsCovered homes lender_ledger
unfolding homes lender_ledger
lender_covered = covered_listed (first_pages 3)

lender_free : is_free 3 lender_ledger (window_at_receiver 0) ≡ true
unfolding homes lender_ledger listed_ledger lend write
lender_free = free_place 3 homes lender_ledger (window_at_receiver 0) lender_covered refl refl refl

lender_is : IsSending (id_of 3 2) lender_words (left_by two_connected (coded_machine 3)) lender_server 3 lender_ledger
unfolding lender_words lender_server lender_ledger call_by any_free any_on_loan any_console any_lacks run is_free send_call left_by coded_machine small_machine listed_ledger code step step_by actor memory_of reach role_at execute_at execute execute_base atomic_at insn_at call call_settled settled least_below listed_below listed_ids count_below with_sid live_servers create_server_call connect_call
lender_is =
    record { turn = refl; makes = refl; there = refl; own = refl; one = refl; processes = refl; ledger = refl; passes = refl }

lender_steps : step (sending (id_of 3 2) lender_words (left_by two_connected (coded_machine 3))) ≡ sent_step (id_of 3 2) lender_words (left_by two_connected (coded_machine 3)) 0
lender_steps =
    sends (id_of 3 2) lender_words (left_by two_connected (coded_machine 3)) lender_server 3 lender_ledger 0 lender_is (omega arith) refl lender_free
    (λ j b. absurd (omega arith))

pub one_queued : Machine
one_queued = (sent_step (id_of 3 2) lender_words (left_by two_connected (coded_machine 3)) 0).machine

lender_tells : map what_of (sent_step (id_of 3 2) lender_words (left_by two_connected (coded_machine 3)) 0).records ≡ expected lend_queued
unfolding lender_words expected sent_step call_step receiver lend left_by coded_machine small_machine listed_ledger code step step_by actor memory_of reach role_at execute_at execute execute_base atomic_at insn_at call call_settled settled least_below listed_below listed_ids count_below with_sid live_servers create_server_call connect_call
lender_tells = refl

lender_told : IsToldAs lend_queued (left_by two_connected (coded_machine 3))
unfolding lender_words expected
lender_told = send_told (id_of 3 2) lender_words _ (left_by two_connected (coded_machine 3)) 0 lender_steps lender_tells

lender_left : left_by lend_queued (left_by two_connected (coded_machine 3)) ≡ one_queued
unfolding lender_words one_queued left_by
lender_left = send_left (id_of 3 2) lender_words [] (left_by two_connected (coded_machine 3)) 0 lender_steps

-- 4.2 is about to lend a page
pub second_words : List ℕ
second_words = 16 ∷ 2 ∷ 1 ∷ 8 ∷ 0x2000_0000 ∷ 4096 ∷ 0 ∷ 0 ∷ []

pub second_server : Server
second_server =
    unwrap_or (server_at (sending (id_of 4 2) second_words one_queued) (send_cid (eight_words second_words)))
    (record { sid = record { 0 = [] }; pid = record { 0 = 0 }; queued = []; held = [] })

pub second_ledger : Ledger
second_ledger = lend (record { pid = record { 0 = 3 }; vpn = record { 0 = 0x2_0000 } }) 1 (window_at_receiver 0) Exclusive (record { 0 = 1 }) lender_ledger

second_covered : IsCovered homes second_ledger
unfolding homes second_ledger
second_covered = covered_lend homes (record { pid = record { 0 = 3 }; vpn = record { 0 = 0x2_0000 } }) 1 (window_at_receiver 0) Exclusive (record { 0 = 1 }) lender_ledger lender_covered

second_free : is_free 3 second_ledger (window_at_receiver 1) ≡ true
unfolding homes second_ledger lender_ledger listed_ledger lend write
second_free = free_place 3 homes second_ledger (window_at_receiver 1) second_covered refl refl refl

second_used_0 : is_free 3 second_ledger (window_at_receiver 0) ≡ false
unfolding second_ledger lender_ledger listed_ledger lend write
second_used_0 = used_place 3 second_ledger (window_at_receiver 0) (record { pid = record { 0 = 3 }; vpn = record { 0 = 0x2_0000 } }) refl refl refl refl

second_is : IsSending (id_of 4 2) second_words one_queued second_server 3 second_ledger
unfolding second_words second_server second_ledger call_by any_free any_on_loan any_console any_lacks run is_free send_call one_queued
    sent_step call_step lender_words lender_ledger receiver lend left_by coded_machine small_machine listed_ledger code step step_by actor
    memory_of reach role_at execute_at execute execute_base atomic_at insn_at call call_settled settled least_below listed_below listed_ids
    count_below with_sid live_servers create_server_call connect_call
second_is =
    record { turn = refl; makes = refl; there = refl; own = refl; one = refl; processes = refl; ledger = refl; passes = refl }

second_steps : step (sending (id_of 4 2) second_words one_queued) ≡ sent_step (id_of 4 2) second_words one_queued 1
second_steps =
    sends (id_of 4 2) second_words one_queued second_server 3 second_ledger 1 second_is (omega arith) refl second_free
    (fails_below_one (λ j. is_free 3 second_ledger (window_at_receiver j)) second_used_0)

pub two_queued : Machine
two_queued = (sent_step (id_of 4 2) second_words one_queued 1).machine

second_tells : map what_of (sent_step (id_of 4 2) second_words one_queued 1).records ≡ expected second_lend_queued
unfolding second_words expected sent_step call_step receiver lend one_queued lender_words lender_ledger left_by coded_machine small_machine listed_ledger code step step_by actor memory_of reach role_at execute_at execute execute_base atomic_at insn_at call call_settled settled least_below listed_below listed_ids count_below with_sid live_servers create_server_call connect_call
second_tells = refl

second_told : IsToldAs second_lend_queued one_queued
unfolding second_words expected
second_told = send_told (id_of 4 2) second_words _ one_queued 1 second_steps second_tells

second_left : left_by second_lend_queued one_queued ≡ two_queued
unfolding second_words two_queued left_by
second_left = send_left (id_of 4 2) second_words [] one_queued 1 second_steps

destroyed_told : IsToldAs (drop 5 destroy_row) two_queued
unfolding told_by expected receive_call destroy_call destroyed closed any_server end_loans stored write zero_page two_queued second_words
    second_ledger one_queued sent_step call_step lender_words lender_ledger receiver lend left_by coded_machine small_machine listed_ledger
    code step step_by actor memory_of reach role_at execute_at execute execute_base atomic_at insn_at call call_settled settled least_below
    listed_below listed_ids count_below with_sid live_servers create_server_call connect_call
destroyed_told = refl

pub server_destroyed : IsToldAs destroy_row (coded_machine 3)
server_destroyed =
    told_on two_connected (drop 3 destroy_row) (coded_machine 3) (left_by two_connected (coded_machine 3)) begun refl
    (told_on lend_queued (drop 4 destroy_row) (left_by two_connected (coded_machine 3)) one_queued lender_told lender_left
    (told_on second_lend_queued (drop 5 destroy_row) one_queued two_queued second_told second_left destroyed_told))
