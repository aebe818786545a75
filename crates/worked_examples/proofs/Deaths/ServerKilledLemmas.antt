-- The row of a server that is killed with its loans and a queued move, by evaluation but for where the pages go.
use Rattle.std.proofs.Common.{◌≡◌, ℕ, true, false, List, [], ◌∷◌, None, refl, ap, ◌∙◌, arith}
use Rattle.std.specs.Prelude.{drop, map, unwrap_or}
use Rattle.xk_base.specs.declared.ids.Place.{Place}
use Rattle.xk_base.specs.declared.pages.LoanKind.TheVariants.{Shared, Exclusive}
use Rattle.syscall_codec.specs.CallWords.{send_cid}
use Rattle.xk_base.specs.Tables.Circle.{listed_ids}
use Rattle.xk_base.specs.Tables.Counting.{least_below, listed_below, count_below}
use Rattle.syscall_codec.specs.ReplyWords.{eight_words}
use Rattle.xk_base.specs.Numbers.Windows.{page_of}
use Rattle.rv32_words.specs.Reading.{insn_at}
use Rattle.ledger_model.specs.Ledger.{Ledger}
use Rattle.ledger_model.specs.Places.{run}
use Rattle.ledger_model.specs.Reach.{is_free, reach, role_at}
use Rattle.ledger_model.specs.RunTests.{any_free, any_on_loan, any_console, any_lacks}
use Rattle.ledger_model.specs.Steps.{lend, give, forget, write, zero_page}
use Rattle.machine_model.specs.Calling.Calls.{call}
use Rattle.machine_model.specs.Calling.ServerCalls.{create_server_call, connect_call}
use Rattle.machine_model.specs.Calling.ThreadCalls.{create_call, free_tid}
use Rattle.machine_model.specs.Ending.Closing.{any_server, closed, servers_closed, senders_queued_gone, senders_held_gone}
use Rattle.machine_model.specs.Ending.Ends.{death, forgotten}
use Rattle.machine_model.specs.Hart.Atomics.{execute_at, execute, atomic_at}
use Rattle.machine_model.specs.Hart.Instructions.{execute_base}
use Rattle.machine_model.specs.Messaging.LoanSets.{end_loans, orphan_loans}
use Rattle.machine_model.specs.Messaging.ReceiveCalls.{receive_call}
use Rattle.machine_model.specs.Messaging.Receivers.{receiver}
use Rattle.machine_model.specs.Messaging.SendCalls.{send_call}
use Rattle.machine_model.specs.State.Changes.{settled, call_settled}
use Rattle.machine_model.specs.State.Machine.{Machine, Server}
use Rattle.machine_model.specs.State.Order.{actor}
use Rattle.machine_model.specs.State.Servers.{with_sid, live_servers, server_at}
use Rattle.machine_model.specs.State.Views.{memory_of, stored}
use Rattle.machine_model.specs.Stepping.Acts.{call_by}
use Rattle.machine_model.specs.Stepping.Events.{killed}
use Rattle.machine_model.specs.Stepping.Step.{step, step_by}
use Rattle.machine_model.specs.Worked.Rows.{small_machine, id_of, pid_of, what_of}
use Rattle.worked_examples.specs.Playing.{told_by, left_by, expected, code, first_pages, listed_ledger, coded_machine, IsToldAs}
use Rattle.worked_examples.proofs.ArrivalLemmas.{fails_below_one, fails_below_two, fails_below_three}
use Rattle.worked_examples.proofs.Loans.HomeLemmas.{IsCovered, places_in, covered_listed, covered_lend, free_place, used_place}
use Rattle.worked_examples.proofs.PlayingLemmas.{told_on, left_on, call_step}
use Rattle.worked_examples.proofs.SendingLemmas.{IsSending, sending, sends, send_told, send_left, sent_step, window_at_receiver}
use Rattle.worked_examples.specs.Deaths.{three_connected, lend_queued, second_lend_queued, third_lend_queued, move_queued}
use Rattle.worked_examples.specs.Deaths.{server_killed_row, server_killed}

homes : List Place
homes = places_in (first_pages 4)

begun : IsToldAs three_connected (coded_machine 4)
unfolding told_by expected create_call free_tid coded_machine small_machine listed_ledger code step step_by actor memory_of reach role_at execute_at execute execute_base atomic_at insn_at call call_settled settled least_below listed_below listed_ids count_below with_sid live_servers create_server_call connect_call
begun = refl

-- 3.2 is about to lend a page
pub lender_words : List ℕ
lender_words = 16 ∷ 2 ∷ 1 ∷ 7 ∷ 0x2000_0000 ∷ 4096 ∷ 0 ∷ 0 ∷ []

pub lender_server : Server
lender_server =
    unwrap_or (server_at (sending (id_of 3 2) lender_words (left_by three_connected (coded_machine 4))) (send_cid (eight_words lender_words)))
    (record { sid = record { 0 = [] }; pid = record { 0 = 0 }; queued = []; held = [] })

pub lender_ledger : Ledger
lender_ledger = listed_ledger (first_pages 4)

lender_covered : IsCovered homes lender_ledger
unfolding homes lender_ledger
lender_covered = covered_listed (first_pages 4)

lender_free : is_free 4 lender_ledger (window_at_receiver 0) ≡ true
unfolding homes lender_ledger listed_ledger lend write
lender_free = free_place 4 homes lender_ledger (window_at_receiver 0) lender_covered refl refl refl

lender_is : IsSending (id_of 3 2) lender_words (left_by three_connected (coded_machine 4)) lender_server 4 lender_ledger
unfolding lender_words lender_server lender_ledger call_by any_free any_on_loan any_console any_lacks run is_free send_call create_call
    free_tid left_by coded_machine small_machine listed_ledger code step step_by actor memory_of reach role_at execute_at execute
    execute_base atomic_at insn_at call call_settled settled least_below listed_below listed_ids count_below with_sid live_servers
    create_server_call connect_call
lender_is =
    record { turn = refl; makes = refl; there = refl; own = refl; one = refl; processes = refl; ledger = refl; passes = refl }

lender_steps : step (sending (id_of 3 2) lender_words (left_by three_connected (coded_machine 4))) ≡ sent_step (id_of 3 2) lender_words (left_by three_connected (coded_machine 4)) 0
lender_steps =
    sends (id_of 3 2) lender_words (left_by three_connected (coded_machine 4)) lender_server 4 lender_ledger 0 lender_is (omega arith) refl lender_free
    (λ j b. absurd (omega arith))

pub one_queued : Machine
one_queued = (sent_step (id_of 3 2) lender_words (left_by three_connected (coded_machine 4)) 0).machine

lender_tells : map what_of (sent_step (id_of 3 2) lender_words (left_by three_connected (coded_machine 4)) 0).records ≡ expected lend_queued
unfolding lender_words expected sent_step call_step receiver lend create_call free_tid left_by coded_machine small_machine listed_ledger code step step_by actor memory_of reach role_at execute_at execute execute_base atomic_at insn_at call call_settled settled least_below listed_below listed_ids count_below with_sid live_servers create_server_call connect_call
lender_tells = refl

lender_told : IsToldAs lend_queued (left_by three_connected (coded_machine 4))
unfolding lender_words expected
lender_told = send_told (id_of 3 2) lender_words _ (left_by three_connected (coded_machine 4)) 0 lender_steps lender_tells

lender_left : left_by lend_queued (left_by three_connected (coded_machine 4)) ≡ one_queued
unfolding lender_words one_queued left_by
lender_left = send_left (id_of 3 2) lender_words [] (left_by three_connected (coded_machine 4)) 0 lender_steps

-- 4.2 is about to lend a page
pub second_words : List ℕ
second_words = 16 ∷ 2 ∷ 1 ∷ 8 ∷ 0x2000_0000 ∷ 4096 ∷ 0 ∷ 0 ∷ []

pub second_server : Server
second_server =
    unwrap_or (server_at (sending (id_of 4 2) second_words one_queued) (send_cid (eight_words second_words)))
    (record { sid = record { 0 = [] }; pid = record { 0 = 0 }; queued = []; held = [] })

pub second_ledger : Ledger
second_ledger = lend (record { pid = record { 0 = 3 }; vpn = record { 0 = 0x2_0000 } }) 1 (window_at_receiver 0) Exclusive (record { 0 = 1 }) lender_ledger

second_covered : IsCovered homes second_ledger
unfolding homes second_ledger
second_covered = covered_lend homes (record { pid = record { 0 = 3 }; vpn = record { 0 = 0x2_0000 } }) 1 (window_at_receiver 0) Exclusive (record { 0 = 1 }) lender_ledger lender_covered

second_free : is_free 4 second_ledger (window_at_receiver 1) ≡ true
unfolding homes second_ledger lender_ledger listed_ledger lend write
second_free = free_place 4 homes second_ledger (window_at_receiver 1) second_covered refl refl refl

second_used_0 : is_free 4 second_ledger (window_at_receiver 0) ≡ false
unfolding second_ledger lender_ledger listed_ledger lend write
second_used_0 = used_place 4 second_ledger (window_at_receiver 0) (record { pid = record { 0 = 3 }; vpn = record { 0 = 0x2_0000 } }) refl refl refl refl

second_is : IsSending (id_of 4 2) second_words one_queued second_server 4 second_ledger
unfolding second_words second_server second_ledger call_by any_free any_on_loan any_console any_lacks run is_free send_call one_queued
    sent_step call_step lender_words lender_ledger receiver lend create_call free_tid left_by coded_machine small_machine listed_ledger code
    step step_by actor memory_of reach role_at execute_at execute execute_base atomic_at insn_at call call_settled settled least_below
    listed_below listed_ids count_below with_sid live_servers create_server_call connect_call
second_is =
    record { turn = refl; makes = refl; there = refl; own = refl; one = refl; processes = refl; ledger = refl; passes = refl }

second_steps : step (sending (id_of 4 2) second_words one_queued) ≡ sent_step (id_of 4 2) second_words one_queued 1
second_steps =
    sends (id_of 4 2) second_words one_queued second_server 4 second_ledger 1 second_is (omega arith) refl second_free
    (fails_below_one (λ j. is_free 4 second_ledger (window_at_receiver j)) second_used_0)

pub two_queued : Machine
two_queued = (sent_step (id_of 4 2) second_words one_queued 1).machine

second_tells : map what_of (sent_step (id_of 4 2) second_words one_queued 1).records ≡ expected second_lend_queued
unfolding second_words expected sent_step call_step receiver lend one_queued lender_words lender_ledger create_call free_tid left_by coded_machine small_machine listed_ledger code step step_by actor memory_of reach role_at execute_at execute execute_base atomic_at insn_at call call_settled settled least_below listed_below listed_ids count_below with_sid live_servers create_server_call connect_call
second_tells = refl

second_told : IsToldAs second_lend_queued one_queued
unfolding second_words expected
second_told = send_told (id_of 4 2) second_words _ one_queued 1 second_steps second_tells

second_left : left_by second_lend_queued one_queued ≡ two_queued
unfolding second_words two_queued left_by
second_left = send_left (id_of 4 2) second_words [] one_queued 1 second_steps

-- 3.3 is about to lend the other page of its process
pub third_words : List ℕ
third_words = 16 ∷ 2 ∷ 2 ∷ 9 ∷ 0x2000_1000 ∷ 4096 ∷ 0 ∷ 0 ∷ []

pub third_server : Server
third_server =
    unwrap_or (server_at (sending (id_of 3 3) third_words two_queued) (send_cid (eight_words third_words)))
    (record { sid = record { 0 = [] }; pid = record { 0 = 0 }; queued = []; held = [] })

pub third_ledger : Ledger
third_ledger = lend (record { pid = record { 0 = 4 }; vpn = record { 0 = 0x2_0000 } }) 1 (window_at_receiver 1) Exclusive (record { 0 = 2 }) second_ledger

third_covered : IsCovered homes third_ledger
unfolding homes third_ledger
third_covered = covered_lend homes (record { pid = record { 0 = 4 }; vpn = record { 0 = 0x2_0000 } }) 1 (window_at_receiver 1) Exclusive (record { 0 = 2 }) second_ledger second_covered

third_free : is_free 4 third_ledger (window_at_receiver 2) ≡ true
unfolding homes third_ledger second_ledger lender_ledger listed_ledger lend write
third_free = free_place 4 homes third_ledger (window_at_receiver 2) third_covered refl refl refl

third_used_0 : is_free 4 third_ledger (window_at_receiver 0) ≡ false
unfolding third_ledger second_ledger lender_ledger listed_ledger lend write
third_used_0 = used_place 4 third_ledger (window_at_receiver 0) (record { pid = record { 0 = 3 }; vpn = record { 0 = 0x2_0000 } }) refl refl refl refl

third_used_1 : is_free 4 third_ledger (window_at_receiver 1) ≡ false
unfolding third_ledger second_ledger lender_ledger listed_ledger lend write
third_used_1 = used_place 4 third_ledger (window_at_receiver 1) (record { pid = record { 0 = 4 }; vpn = record { 0 = 0x2_0000 } }) refl refl refl refl

third_is : IsSending (id_of 3 3) third_words two_queued third_server 4 third_ledger
unfolding third_words third_server third_ledger call_by any_free any_on_loan any_console any_lacks run is_free send_call two_queued
    second_words second_ledger one_queued sent_step call_step lender_words lender_ledger receiver lend create_call free_tid left_by
    coded_machine small_machine listed_ledger code step step_by actor memory_of reach role_at execute_at execute execute_base atomic_at
    insn_at call call_settled settled least_below listed_below listed_ids count_below with_sid live_servers create_server_call connect_call
third_is =
    record { turn = refl; makes = refl; there = refl; own = refl; one = refl; processes = refl; ledger = refl; passes = refl }

third_steps : step (sending (id_of 3 3) third_words two_queued) ≡ sent_step (id_of 3 3) third_words two_queued 2
third_steps =
    sends (id_of 3 3) third_words two_queued third_server 4 third_ledger 2 third_is (omega arith) refl third_free
    (fails_below_two (λ j. is_free 4 third_ledger (window_at_receiver j)) third_used_0 third_used_1)

pub three_queued : Machine
three_queued = (sent_step (id_of 3 3) third_words two_queued 2).machine

third_tells : map what_of (sent_step (id_of 3 3) third_words two_queued 2).records ≡ expected third_lend_queued
unfolding third_words expected sent_step call_step receiver lend two_queued second_words second_ledger one_queued lender_words lender_ledger
    create_call free_tid left_by coded_machine small_machine listed_ledger code step step_by actor memory_of reach role_at execute_at
    execute execute_base atomic_at insn_at call call_settled settled least_below listed_below listed_ids count_below with_sid live_servers
    create_server_call connect_call
third_tells = refl

third_told : IsToldAs third_lend_queued two_queued
unfolding third_words expected
third_told = send_told (id_of 3 3) third_words _ two_queued 2 third_steps third_tells

third_left : left_by third_lend_queued two_queued ≡ three_queued
unfolding third_words three_queued left_by
third_left = send_left (id_of 3 3) third_words [] two_queued 2 third_steps

-- 5.2 is about to move a page
pub mover_words : List ℕ
mover_words = 16 ∷ 2 ∷ 3 ∷ 10 ∷ 0x2000_0000 ∷ 4096 ∷ 0 ∷ 0 ∷ []

pub mover_server : Server
mover_server =
    unwrap_or (server_at (sending (id_of 5 2) mover_words three_queued) (send_cid (eight_words mover_words)))
    (record { sid = record { 0 = [] }; pid = record { 0 = 0 }; queued = []; held = [] })

pub mover_ledger : Ledger
mover_ledger = lend (record { pid = record { 0 = 3 }; vpn = record { 0 = 0x2_0001 } }) 1 (window_at_receiver 2) Shared (record { 0 = 3 }) third_ledger

mover_covered : IsCovered homes mover_ledger
unfolding homes mover_ledger
mover_covered = covered_lend homes (record { pid = record { 0 = 3 }; vpn = record { 0 = 0x2_0001 } }) 1 (window_at_receiver 2) Shared (record { 0 = 3 }) third_ledger third_covered

mover_free : is_free 4 mover_ledger (window_at_receiver 3) ≡ true
unfolding homes mover_ledger third_ledger second_ledger lender_ledger listed_ledger lend write
mover_free = free_place 4 homes mover_ledger (window_at_receiver 3) mover_covered refl refl refl

mover_used_0 : is_free 4 mover_ledger (window_at_receiver 0) ≡ false
unfolding mover_ledger third_ledger second_ledger lender_ledger listed_ledger lend write
mover_used_0 = used_place 4 mover_ledger (window_at_receiver 0) (record { pid = record { 0 = 3 }; vpn = record { 0 = 0x2_0000 } }) refl refl refl refl

mover_used_1 : is_free 4 mover_ledger (window_at_receiver 1) ≡ false
unfolding mover_ledger third_ledger second_ledger lender_ledger listed_ledger lend write
mover_used_1 = used_place 4 mover_ledger (window_at_receiver 1) (record { pid = record { 0 = 4 }; vpn = record { 0 = 0x2_0000 } }) refl refl refl refl

mover_used_2 : is_free 4 mover_ledger (window_at_receiver 2) ≡ false
unfolding mover_ledger third_ledger second_ledger lender_ledger listed_ledger lend write
mover_used_2 = used_place 4 mover_ledger (window_at_receiver 2) (record { pid = record { 0 = 3 }; vpn = record { 0 = 0x2_0001 } }) refl refl refl refl

mover_is : IsSending (id_of 5 2) mover_words three_queued mover_server 4 mover_ledger
unfolding mover_words mover_server mover_ledger call_by any_free any_on_loan any_console any_lacks run is_free send_call three_queued
    third_words third_ledger two_queued second_words second_ledger one_queued sent_step call_step lender_words lender_ledger receiver lend
    create_call free_tid left_by coded_machine small_machine listed_ledger code step step_by actor memory_of reach role_at execute_at
    execute execute_base atomic_at insn_at call call_settled settled least_below listed_below listed_ids count_below with_sid live_servers
    create_server_call connect_call
mover_is =
    record { turn = refl; makes = refl; there = refl; own = refl; one = refl; processes = refl; ledger = refl; passes = refl }

mover_steps : step (sending (id_of 5 2) mover_words three_queued) ≡ sent_step (id_of 5 2) mover_words three_queued 3
mover_steps =
    sends (id_of 5 2) mover_words three_queued mover_server 4 mover_ledger 3 mover_is (omega arith) refl mover_free
    (fails_below_three (λ j. is_free 4 mover_ledger (window_at_receiver j)) mover_used_0 mover_used_1 mover_used_2)

pub all_queued : Machine
all_queued = (sent_step (id_of 5 2) mover_words three_queued 3).machine

mover_tells : map what_of (sent_step (id_of 5 2) mover_words three_queued 3).records ≡ expected move_queued
unfolding mover_words expected sent_step call_step receiver lend three_queued third_words third_ledger two_queued second_words second_ledger
    one_queued lender_words lender_ledger create_call free_tid left_by coded_machine small_machine listed_ledger code step step_by actor
    memory_of reach role_at execute_at execute execute_base atomic_at insn_at call call_settled settled least_below listed_below listed_ids
    count_below with_sid live_servers create_server_call connect_call
mover_tells = refl

mover_told : IsToldAs move_queued three_queued
unfolding mover_words expected
mover_told = send_told (id_of 5 2) mover_words _ three_queued 3 mover_steps mover_tells

mover_left : left_by move_queued three_queued ≡ all_queued
unfolding mover_words all_queued left_by
mover_left = send_left (id_of 5 2) mover_words [] three_queued 3 mover_steps

killed_told : IsToldAs (drop 9 server_killed_row) all_queued
unfolding told_by expected receive_call killed death servers_closed closed any_server senders_queued_gone senders_held_gone end_loans
    orphan_loans forgotten forget stored write zero_page create_call free_tid all_queued mover_words mover_ledger give three_queued
    third_words third_ledger two_queued second_words second_ledger one_queued sent_step call_step lender_words lender_ledger receiver lend
    left_by coded_machine small_machine listed_ledger code step step_by actor memory_of reach role_at execute_at execute execute_base
    atomic_at insn_at call call_settled settled least_below listed_below listed_ids count_below with_sid live_servers create_server_call
    connect_call
killed_told = refl

pub server_killed_told : IsToldAs server_killed_row (coded_machine 4)
server_killed_told =
    told_on three_connected (drop 5 server_killed_row) (coded_machine 4) (left_by three_connected (coded_machine 4)) begun refl
    (told_on lend_queued (drop 6 server_killed_row) (left_by three_connected (coded_machine 4)) one_queued lender_told lender_left
    (told_on second_lend_queued (drop 7 server_killed_row) one_queued two_queued second_told second_left
    (told_on third_lend_queued (drop 8 server_killed_row) two_queued three_queued third_told third_left
    (told_on move_queued (drop 9 server_killed_row) three_queued all_queued mover_told mover_left killed_told))))

killed_is : server_killed ≡ left_by (drop 9 server_killed_row) all_queued
killed_is =
    left_on three_connected (drop 5 server_killed_row) (coded_machine 4) (left_by three_connected (coded_machine 4)) refl
    ∙ (left_on lend_queued (drop 6 server_killed_row) (left_by three_connected (coded_machine 4)) one_queued lender_left
    ∙ (left_on second_lend_queued (drop 7 server_killed_row) one_queued two_queued second_left
    ∙ (left_on third_lend_queued (drop 8 server_killed_row) two_queued three_queued third_left
    ∙ left_on move_queued (drop 9 server_killed_row) three_queued all_queued mover_left)))

none_there_then : (left_by (drop 9 server_killed_row) all_queued).ledger.home (page_of (pid_of 2) 0x4000_3000) ≡ None
unfolding receive_call killed death servers_closed closed any_server senders_queued_gone senders_held_gone end_loans orphan_loans forgotten
    forget stored write zero_page create_call free_tid all_queued mover_words mover_ledger give three_queued third_words third_ledger
    two_queued second_words second_ledger one_queued sent_step call_step lender_words lender_ledger receiver lend left_by coded_machine
    small_machine listed_ledger code step step_by actor memory_of reach role_at execute_at execute execute_base atomic_at insn_at call
    call_settled settled least_below listed_below listed_ids count_below with_sid live_servers create_server_call connect_call
none_there_then = refl

pub none_there : server_killed.ledger.home (page_of (pid_of 2) 0x4000_3000) ≡ None
none_there = ap (λ m. m.ledger.home (page_of (pid_of 2) 0x4000_3000)) killed_is ∙ none_there_then

none_left_then : (left_by (drop 9 server_killed_row) all_queued).ledger.home (page_of (pid_of 5) 0x2000_0000) ≡ None
unfolding receive_call killed death servers_closed closed any_server senders_queued_gone senders_held_gone end_loans orphan_loans forgotten
    forget stored write zero_page create_call free_tid all_queued mover_words mover_ledger give three_queued third_words third_ledger
    two_queued second_words second_ledger one_queued sent_step call_step lender_words lender_ledger receiver lend left_by coded_machine
    small_machine listed_ledger code step step_by actor memory_of reach role_at execute_at execute execute_base atomic_at insn_at call
    call_settled settled least_below listed_below listed_ids count_below with_sid live_servers create_server_call connect_call
none_left_then = refl

pub none_left : server_killed.ledger.home (page_of (pid_of 5) 0x2000_0000) ≡ None
none_left = ap (λ m. m.ledger.home (page_of (pid_of 5) 0x2000_0000)) killed_is ∙ none_left_then

-- the row
pub ruleset server_killed_rules = (server_killed_told, none_there, none_left)
