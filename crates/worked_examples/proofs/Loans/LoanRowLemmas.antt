-- Rows of loans and moves, by evaluation but for where the pages go.
use Rattle.std.proofs.Common.{◌≡◌, ℕ, true, List, [], ◌∷◌, None, refl, ap, ◌∙◌, arith}
use Rattle.std.specs.Prelude.{drop, map, unwrap_or}
use Rattle.xk_base.specs.declared.ids.Place.{Place}
use Rattle.xk_base.specs.declared.pages.Width.TheVariants.{Word}
use Rattle.syscall_codec.specs.CallWords.{send_cid}
use Rattle.xk_base.specs.Tables.Circle.{listed_ids}
use Rattle.xk_base.specs.Tables.Counting.{least_below, listed_below, count_below}
use Rattle.syscall_codec.specs.ReplyWords.{eight_words}
use Rattle.xk_base.specs.UserMemory.{low_bytes, number_at}
use Rattle.xk_base.specs.Numbers.Windows.{page_of}
use Rattle.rv32_words.specs.Reading.{insn_at}
use Rattle.ledger_model.specs.Ledger.{Ledger, Homed}
use Rattle.ledger_model.specs.Places.{run}
use Rattle.ledger_model.specs.Reach.{is_free, reach, role_at}
use Rattle.ledger_model.specs.RunTests.{any_free, any_on_loan, any_console, any_lacks}
use Rattle.ledger_model.specs.Steps.{lend, end_loan, give, forget, write, zero_page}
use Rattle.machine_model.specs.Calling.Calls.{call}
use Rattle.machine_model.specs.Calling.ServerCalls.{create_server_call, connect_call}
use Rattle.machine_model.specs.Calling.ThreadCalls.{create_call, free_tid}
use Rattle.machine_model.specs.Ending.Closing.{any_server, closed, servers_closed, senders_queued_gone, senders_held_gone}
use Rattle.machine_model.specs.Ending.Ends.{death, forgotten}
use Rattle.machine_model.specs.Hart.Atomics.{execute_at, execute, atomic_at}
use Rattle.machine_model.specs.Hart.Instructions.{execute_base}
use Rattle.machine_model.specs.Messaging.LoanSets.{end_loans, orphan_loans}
use Rattle.machine_model.specs.Messaging.ReceiveCalls.{receive_call}
use Rattle.machine_model.specs.Messaging.Receivers.{receiver}
use Rattle.machine_model.specs.Messaging.ReturnCalls.{holder_of, return_memory_call}
use Rattle.machine_model.specs.Messaging.SendCalls.{send_call}
use Rattle.machine_model.specs.State.Changes.{settled, call_settled}
use Rattle.machine_model.specs.State.Machine.{Machine, Server}
use Rattle.machine_model.specs.State.Order.{actor}
use Rattle.machine_model.specs.State.Servers.{with_sid, live_servers, server_at}
use Rattle.machine_model.specs.State.Views.{memory_of, stored}
use Rattle.machine_model.specs.Stepping.Acts.{call_by}
use Rattle.machine_model.specs.Stepping.Step.{step, step_by}
use Rattle.machine_model.specs.Worked.Rows.{small_machine, id_of, pid_of, what_of}
use Rattle.worked_examples.specs.Playing.{told_by, left_by, expected, code, first_pages, listed_ledger, coded_machine, IsToldAs}
use Rattle.worked_examples.proofs.Loans.HomeLemmas.{IsCovered, places_in, covered_listed, covered_write, free_place}
use Rattle.worked_examples.proofs.PlayingLemmas.{told_on, left_on, call_step}
use Rattle.worked_examples.proofs.SendingLemmas.{IsSending, sending, sends, send_told, send_left, sent_step, window_at_receiver}
use Rattle.worked_examples.specs.Loans.{word_stored, shared_lend, move, return_row, fault_row, move_row, after_return, after_move}

homes : List Place
homes = places_in (first_pages 2)

begun : IsToldAs word_stored (coded_machine 2)
unfolding told_by expected receive_call create_call free_tid stored write zero_page coded_machine small_machine listed_ledger code step step_by actor memory_of reach role_at execute_at execute execute_base atomic_at insn_at call call_settled settled least_below listed_below listed_ids count_below with_sid live_servers create_server_call connect_call
begun = refl

-- 3.2 is about to lend the page
pub lender_words : List ℕ
lender_words = 16 ∷ 2 ∷ 2 ∷ 7 ∷ 0x2000_0000 ∷ 4096 ∷ 0 ∷ 0 ∷ []

pub lender_server : Server
lender_server =
    unwrap_or (server_at (sending (id_of 3 2) lender_words (left_by word_stored (coded_machine 2))) (send_cid (eight_words lender_words)))
    (record { sid = record { 0 = [] }; pid = record { 0 = 0 }; queued = []; held = [] })

pub lender_ledger : Ledger
lender_ledger = write (Homed (record { pid = record { 0 = 3 }; vpn = record { 0 = 0x2_0000 } })) 0 (low_bytes Word 0x1122_3344) (listed_ledger (first_pages 2))

lender_covered : IsCovered homes lender_ledger
unfolding homes lender_ledger
lender_covered = covered_write homes (record { pid = record { 0 = 3 }; vpn = record { 0 = 0x2_0000 } }) 0 (low_bytes Word 0x1122_3344) (listed_ledger (first_pages 2)) (covered_listed (first_pages 2))

lender_free : is_free 2 lender_ledger (window_at_receiver 0) ≡ true
unfolding homes lender_ledger listed_ledger lend write
lender_free = free_place 2 homes lender_ledger (window_at_receiver 0) lender_covered refl refl refl

lender_is : IsSending (id_of 3 2) lender_words (left_by word_stored (coded_machine 2)) lender_server 2 lender_ledger
unfolding lender_words lender_server lender_ledger call_by any_free any_on_loan any_console any_lacks run is_free send_call receive_call
    create_call free_tid stored write zero_page left_by coded_machine small_machine listed_ledger code step step_by actor memory_of reach
    role_at execute_at execute execute_base atomic_at insn_at call call_settled settled least_below listed_below listed_ids count_below
    with_sid live_servers create_server_call connect_call
lender_is =
    record { turn = refl; makes = refl; there = refl; own = refl; one = refl; processes = refl; ledger = refl; passes = refl }

lender_steps : step (sending (id_of 3 2) lender_words (left_by word_stored (coded_machine 2))) ≡ sent_step (id_of 3 2) lender_words (left_by word_stored (coded_machine 2)) 0
lender_steps =
    sends (id_of 3 2) lender_words (left_by word_stored (coded_machine 2)) lender_server 2 lender_ledger 0 lender_is (omega arith) refl lender_free
    (λ j b. absurd (omega arith))

pub lent : Machine
lent = (sent_step (id_of 3 2) lender_words (left_by word_stored (coded_machine 2)) 0).machine

lender_tells : map what_of (sent_step (id_of 3 2) lender_words (left_by word_stored (coded_machine 2)) 0).records ≡ expected shared_lend
unfolding lender_words expected sent_step call_step receiver lend receive_call create_call free_tid stored write zero_page left_by coded_machine small_machine listed_ledger code step step_by actor memory_of reach role_at execute_at execute execute_base atomic_at insn_at call call_settled settled least_below listed_below listed_ids count_below with_sid live_servers create_server_call connect_call
lender_tells = refl

lender_told : IsToldAs shared_lend (left_by word_stored (coded_machine 2))
unfolding lender_words expected
lender_told = send_told (id_of 3 2) lender_words _ (left_by word_stored (coded_machine 2)) 0 lender_steps lender_tells

lender_left : left_by shared_lend (left_by word_stored (coded_machine 2)) ≡ lent
unfolding lender_words lent left_by
lender_left = send_left (id_of 3 2) lender_words [] (left_by word_stored (coded_machine 2)) 0 lender_steps

-- ---- the rows of the lend

returned_told : IsToldAs (drop 6 return_row) lent
unfolding told_by expected holder_of return_memory_call end_loan lent sent_step call_step lender_words receiver lend receive_call
    create_call free_tid stored write zero_page left_by coded_machine small_machine listed_ledger code step step_by actor memory_of reach
    role_at execute_at execute execute_base atomic_at insn_at call call_settled settled least_below listed_below listed_ids count_below
    with_sid live_servers create_server_call connect_call
returned_told = refl

pub returned_row : IsToldAs return_row (coded_machine 2)
returned_row =
    told_on word_stored (drop 5 return_row) (coded_machine 2) (left_by word_stored (coded_machine 2)) begun refl
    (told_on shared_lend (drop 6 return_row) (left_by word_stored (coded_machine 2)) lent lender_told lender_left returned_told)

returned_is : after_return ≡ left_by (drop 6 return_row) lent
returned_is =
    left_on word_stored (drop 5 return_row) (coded_machine 2) (left_by word_stored (coded_machine 2)) refl
    ∙ left_on shared_lend (drop 6 return_row) (left_by word_stored (coded_machine 2)) lent lender_left

word_then : number_at (memory_of (left_by (drop 6 return_row) lent) (pid_of 3)).byte 0x2000_0000 Word ≡ 0x5566_7788
unfolding holder_of return_memory_call end_loan lent sent_step call_step lender_words receiver lend receive_call create_call free_tid stored
    write zero_page left_by coded_machine small_machine listed_ledger code step step_by actor memory_of reach role_at execute_at execute
    execute_base atomic_at insn_at call call_settled settled least_below listed_below listed_ids count_below with_sid live_servers
    create_server_call connect_call
word_then = refl

pub word_after : number_at (memory_of after_return (pid_of 3)).byte 0x2000_0000 Word ≡ 0x5566_7788
word_after = ap (λ m. number_at (memory_of m (pid_of 3)).byte 0x2000_0000 Word) returned_is ∙ word_then

faulted : IsToldAs (drop 6 fault_row) lent
unfolding told_by expected death servers_closed closed any_server senders_queued_gone senders_held_gone end_loans orphan_loans forgotten
    forget lent sent_step call_step lender_words receiver lend receive_call create_call free_tid stored write zero_page left_by
    coded_machine small_machine listed_ledger code step step_by actor memory_of reach role_at execute_at execute execute_base atomic_at
    insn_at call call_settled settled least_below listed_below listed_ids count_below with_sid live_servers create_server_call connect_call
faulted = refl

pub store_faults : IsToldAs fault_row (coded_machine 2)
store_faults =
    told_on word_stored (drop 5 fault_row) (coded_machine 2) (left_by word_stored (coded_machine 2)) begun refl
    (told_on shared_lend (drop 6 fault_row) (left_by word_stored (coded_machine 2)) lent lender_told lender_left faulted)

-- 3.2 is about to move the page
pub mover_words : List ℕ
mover_words = 16 ∷ 2 ∷ 3 ∷ 7 ∷ 0x2000_0000 ∷ 4096 ∷ 5 ∷ 6 ∷ []

pub mover_server : Server
mover_server =
    unwrap_or (server_at (sending (id_of 3 2) mover_words (left_by word_stored (coded_machine 2))) (send_cid (eight_words mover_words)))
    (record { sid = record { 0 = [] }; pid = record { 0 = 0 }; queued = []; held = [] })

pub mover_ledger : Ledger
mover_ledger = write (Homed (record { pid = record { 0 = 3 }; vpn = record { 0 = 0x2_0000 } })) 0 (low_bytes Word 0x1122_3344) (listed_ledger (first_pages 2))

mover_covered : IsCovered homes mover_ledger
unfolding homes mover_ledger
mover_covered = covered_write homes (record { pid = record { 0 = 3 }; vpn = record { 0 = 0x2_0000 } }) 0 (low_bytes Word 0x1122_3344) (listed_ledger (first_pages 2)) (covered_listed (first_pages 2))

mover_free : is_free 2 mover_ledger (window_at_receiver 0) ≡ true
unfolding homes mover_ledger listed_ledger lend write
mover_free = free_place 2 homes mover_ledger (window_at_receiver 0) mover_covered refl refl refl

mover_is : IsSending (id_of 3 2) mover_words (left_by word_stored (coded_machine 2)) mover_server 2 mover_ledger
unfolding mover_words mover_server mover_ledger call_by any_free any_on_loan any_console any_lacks run is_free send_call receive_call
    create_call free_tid stored write zero_page left_by coded_machine small_machine listed_ledger code step step_by actor memory_of reach
    role_at execute_at execute execute_base atomic_at insn_at call call_settled settled least_below listed_below listed_ids count_below
    with_sid live_servers create_server_call connect_call
mover_is =
    record { turn = refl; makes = refl; there = refl; own = refl; one = refl; processes = refl; ledger = refl; passes = refl }

mover_steps : step (sending (id_of 3 2) mover_words (left_by word_stored (coded_machine 2))) ≡ sent_step (id_of 3 2) mover_words (left_by word_stored (coded_machine 2)) 0
mover_steps =
    sends (id_of 3 2) mover_words (left_by word_stored (coded_machine 2)) mover_server 2 mover_ledger 0 mover_is (omega arith) refl mover_free
    (λ j b. absurd (omega arith))

pub given : Machine
given = (sent_step (id_of 3 2) mover_words (left_by word_stored (coded_machine 2)) 0).machine

mover_tells : map what_of (sent_step (id_of 3 2) mover_words (left_by word_stored (coded_machine 2)) 0).records ≡ expected move
unfolding mover_words expected sent_step call_step receiver lend receive_call create_call free_tid stored write zero_page left_by coded_machine small_machine listed_ledger code step step_by actor memory_of reach role_at execute_at execute execute_base atomic_at insn_at call call_settled settled least_below listed_below listed_ids count_below with_sid live_servers create_server_call connect_call
mover_tells = refl

mover_told : IsToldAs move (left_by word_stored (coded_machine 2))
unfolding mover_words expected
mover_told = send_told (id_of 3 2) mover_words _ (left_by word_stored (coded_machine 2)) 0 mover_steps mover_tells

mover_left : left_by move (left_by word_stored (coded_machine 2)) ≡ given
unfolding mover_words given left_by
mover_left = send_left (id_of 3 2) mover_words [] (left_by word_stored (coded_machine 2)) 0 mover_steps

-- ---- the row of the move

moved_told : IsToldAs (drop 6 move_row) given
unfolding told_by expected given sent_step call_step mover_words receiver give receive_call create_call free_tid stored write zero_page
    left_by coded_machine small_machine listed_ledger code step step_by actor memory_of reach role_at execute_at execute execute_base
    atomic_at insn_at call call_settled settled least_below listed_below listed_ids count_below with_sid live_servers create_server_call
    connect_call
moved_told = refl

pub moved_row : IsToldAs move_row (coded_machine 2)
moved_row =
    told_on word_stored (drop 5 move_row) (coded_machine 2) (left_by word_stored (coded_machine 2)) begun refl
    (told_on move (drop 6 move_row) (left_by word_stored (coded_machine 2)) given mover_told mover_left moved_told)

moved_is : after_move ≡ left_by (drop 6 move_row) given
moved_is =
    left_on word_stored (drop 5 move_row) (coded_machine 2) (left_by word_stored (coded_machine 2)) refl
    ∙ left_on move (drop 6 move_row) (left_by word_stored (coded_machine 2)) given mover_left

-- a word of the receiver's page afterwards
abbrev pub word_at : ℕ → Machine → ℕ
word_at address m = number_at (memory_of m (pid_of 2)).byte address Word

came_then : word_at 0x4000_0000 (left_by (drop 6 move_row) given) ≡ 0x1122_3344
unfolding given sent_step call_step mover_words receiver give receive_call create_call free_tid stored write zero_page left_by coded_machine small_machine listed_ledger code step step_by actor memory_of reach role_at execute_at execute execute_base atomic_at insn_at call call_settled settled least_below listed_below listed_ids count_below with_sid live_servers create_server_call connect_call
came_then = refl

pub word_came : word_at 0x4000_0000 after_move ≡ 0x1122_3344
word_came = ap (word_at 0x4000_0000) moved_is ∙ came_then

stored_then : word_at 0x4000_0004 (left_by (drop 6 move_row) given) ≡ 0x5566_7788
unfolding given sent_step call_step mover_words receiver give receive_call create_call free_tid stored write zero_page left_by coded_machine small_machine listed_ledger code step step_by actor memory_of reach role_at execute_at execute execute_base atomic_at insn_at call call_settled settled least_below listed_below listed_ids count_below with_sid live_servers create_server_call connect_call
stored_then = refl

pub word_stored_there : word_at 0x4000_0004 after_move ≡ 0x5566_7788
word_stored_there = ap (word_at 0x4000_0004) moved_is ∙ stored_then

left_then : (left_by (drop 6 move_row) given).ledger.home (page_of (pid_of 3) 0x2000_0000) ≡ None
unfolding given sent_step call_step mover_words receiver give receive_call create_call free_tid stored write zero_page left_by coded_machine small_machine listed_ledger code step step_by actor memory_of reach role_at execute_at execute execute_base atomic_at insn_at call call_settled settled least_below listed_below listed_ids count_below with_sid live_servers create_server_call connect_call
left_then = refl

pub page_left : after_move.ledger.home (page_of (pid_of 3) 0x2000_0000) ≡ None
page_left = ap (λ m. m.ledger.home (page_of (pid_of 3) 0x2000_0000)) moved_is ∙ left_then

-- the row of a moved page
pub ruleset moved_page_rules = (moved_row, word_came, word_stored_there, page_left)
