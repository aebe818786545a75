-- The row of a sender that is killed while its message is queued, by evaluation but for where the pages go.
use Rattle.std.proofs.Common.{◌≡◌, ℕ, true, List, [], ◌∷◌, refl, arith}
use Rattle.std.specs.Prelude.{drop, map, unwrap_or}
use Rattle.xk_base.specs.declared.ids.Place.{Place}
use Rattle.syscall_codec.specs.CallWords.{send_cid}
use Rattle.xk_base.specs.Tables.Circle.{listed_ids}
use Rattle.xk_base.specs.Tables.Counting.{least_below, listed_below, count_below}
use Rattle.syscall_codec.specs.ReplyWords.{eight_words}
use Rattle.rv32_words.specs.Reading.{insn_at}
use Rattle.ledger_model.specs.Ledger.{Ledger}
use Rattle.ledger_model.specs.Places.{run}
use Rattle.ledger_model.specs.Reach.{is_free, reach, role_at}
use Rattle.ledger_model.specs.RunTests.{any_free, any_on_loan, any_console, any_lacks}
use Rattle.ledger_model.specs.Steps.{lend, forget, write}
use Rattle.machine_model.specs.Calling.Calls.{call}
use Rattle.machine_model.specs.Calling.ServerCalls.{create_server_call, connect_call}
use Rattle.machine_model.specs.Ending.Closing.{any_server, closed, servers_closed, senders_queued_gone, senders_held_gone}
use Rattle.machine_model.specs.Ending.Ends.{death, forgotten}
use Rattle.machine_model.specs.Hart.Atomics.{execute_at, execute, atomic_at}
use Rattle.machine_model.specs.Hart.Instructions.{execute_base}
use Rattle.machine_model.specs.Messaging.LoanSets.{end_loans, orphan_loans}
use Rattle.machine_model.specs.Messaging.ReceiveCalls.{try_receive_call}
use Rattle.machine_model.specs.Messaging.Receivers.{receiver}
use Rattle.machine_model.specs.Messaging.SendCalls.{send_call}
use Rattle.machine_model.specs.State.Changes.{settled, call_settled}
use Rattle.machine_model.specs.State.Machine.{Machine, Server}
use Rattle.machine_model.specs.State.Order.{actor}
use Rattle.machine_model.specs.State.Servers.{with_sid, live_servers, server_at}
use Rattle.machine_model.specs.State.Views.{memory_of}
use Rattle.machine_model.specs.Stepping.Acts.{call_by}
use Rattle.machine_model.specs.Stepping.Events.{killed}
use Rattle.machine_model.specs.Stepping.Step.{step, step_by}
use Rattle.machine_model.specs.Worked.Rows.{small_machine, id_of, what_of}
use Rattle.worked_examples.specs.Playing.{told_by, left_by, expected, code, first_pages, listed_ledger, coded_machine, IsToldAs}
use Rattle.worked_examples.proofs.Loans.HomeLemmas.{IsCovered, places_in, covered_listed, free_place}
use Rattle.worked_examples.proofs.PlayingLemmas.{told_on, call_step}
use Rattle.worked_examples.proofs.SendingLemmas.{IsSending, sending, sends, send_told, send_left, sent_step, window_at_receiver}
use Rattle.worked_examples.specs.Deaths.{lend_queued, queued_sender_row}
use Rattle.worked_examples.specs.Scalars.{server_made}

homes : List Place
homes = places_in (first_pages 2)

begun : IsToldAs server_made (coded_machine 2)
unfolding told_by expected coded_machine small_machine listed_ledger code step step_by actor memory_of reach role_at execute_at execute execute_base atomic_at insn_at call call_settled settled least_below listed_below listed_ids count_below with_sid live_servers create_server_call connect_call
begun = refl

-- 3.2 is about to lend the page
pub lender_words : List ℕ
lender_words = 16 ∷ 2 ∷ 1 ∷ 7 ∷ 0x2000_0000 ∷ 4096 ∷ 0 ∷ 0 ∷ []

pub lender_server : Server
lender_server =
    unwrap_or (server_at (sending (id_of 3 2) lender_words (left_by server_made (coded_machine 2))) (send_cid (eight_words lender_words)))
    (record { sid = record { 0 = [] }; pid = record { 0 = 0 }; queued = []; held = [] })

pub lender_ledger : Ledger
lender_ledger = listed_ledger (first_pages 2)

lender_covered : IsCovered homes lender_ledger
unfolding homes lender_ledger
lender_covered = covered_listed (first_pages 2)

lender_free : is_free 2 lender_ledger (window_at_receiver 0) ≡ true
unfolding homes lender_ledger listed_ledger lend write
lender_free = free_place 2 homes lender_ledger (window_at_receiver 0) lender_covered refl refl refl

lender_is : IsSending (id_of 3 2) lender_words (left_by server_made (coded_machine 2)) lender_server 2 lender_ledger
unfolding lender_words lender_server lender_ledger call_by any_free any_on_loan any_console any_lacks run is_free send_call left_by coded_machine small_machine listed_ledger code step step_by actor memory_of reach role_at execute_at execute execute_base atomic_at insn_at call call_settled settled least_below listed_below listed_ids count_below with_sid live_servers create_server_call connect_call
lender_is =
    record { turn = refl; makes = refl; there = refl; own = refl; one = refl; processes = refl; ledger = refl; passes = refl }

lender_steps : step (sending (id_of 3 2) lender_words (left_by server_made (coded_machine 2))) ≡ sent_step (id_of 3 2) lender_words (left_by server_made (coded_machine 2)) 0
lender_steps =
    sends (id_of 3 2) lender_words (left_by server_made (coded_machine 2)) lender_server 2 lender_ledger 0 lender_is (omega arith) refl lender_free
    (λ j b. absurd (omega arith))

pub queued : Machine
queued = (sent_step (id_of 3 2) lender_words (left_by server_made (coded_machine 2)) 0).machine

lender_tells : map what_of (sent_step (id_of 3 2) lender_words (left_by server_made (coded_machine 2)) 0).records ≡ expected lend_queued
unfolding lender_words expected sent_step call_step receiver lend left_by coded_machine small_machine listed_ledger code step step_by actor memory_of reach role_at execute_at execute execute_base atomic_at insn_at call call_settled settled least_below listed_below listed_ids count_below with_sid live_servers create_server_call connect_call
lender_tells = refl

lender_told : IsToldAs lend_queued (left_by server_made (coded_machine 2))
unfolding lender_words expected
lender_told = send_told (id_of 3 2) lender_words _ (left_by server_made (coded_machine 2)) 0 lender_steps lender_tells

lender_left : left_by lend_queued (left_by server_made (coded_machine 2)) ≡ queued
unfolding lender_words queued left_by
lender_left = send_left (id_of 3 2) lender_words [] (left_by server_made (coded_machine 2)) 0 lender_steps

killed_told : IsToldAs (drop 3 queued_sender_row) queued
unfolding told_by expected try_receive_call killed death servers_closed closed any_server senders_queued_gone senders_held_gone end_loans
    orphan_loans forgotten forget queued sent_step call_step lender_words receiver lend left_by coded_machine small_machine listed_ledger
    code step step_by actor memory_of reach role_at execute_at execute execute_base atomic_at insn_at call call_settled settled least_below
    listed_below listed_ids count_below with_sid live_servers create_server_call connect_call
killed_told = refl

pub queued_sender_killed : IsToldAs queued_sender_row (coded_machine 2)
queued_sender_killed =
    told_on server_made (drop 2 queued_sender_row) (coded_machine 2) (left_by server_made (coded_machine 2)) begun refl
    (told_on lend_queued (drop 3 queued_sender_row) (left_by server_made (coded_machine 2)) queued lender_told lender_left killed_told)
