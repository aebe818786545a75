-- Rows of ForwardMessage, by evaluation but for where the pages go.
use Rattle.std.proofs.Common.{◌≡◌, ℕ, true, List, [], ◌∷◌, refl, arith}
use Rattle.std.specs.Prelude.{drop, map, unwrap_or}
use Rattle.xk_base.specs.declared.ids.Place.{Place}
use Rattle.xk_base.specs.declared.pages.LoanKind.TheVariants.{Exclusive}
use Rattle.syscall_codec.specs.CallWords.{send_cid, forward_cid}
use Rattle.xk_base.specs.Tables.Circle.{listed_ids}
use Rattle.xk_base.specs.Tables.Counting.{least_below, listed_below, count_below}
use Rattle.syscall_codec.specs.ReplyWords.{eight_words}
use Rattle.rv32_words.specs.Reading.{insn_at}
use Rattle.ledger_model.specs.Ledger.{Ledger}
use Rattle.ledger_model.specs.Places.{run}
use Rattle.ledger_model.specs.Reach.{is_free, reach, role_at}
use Rattle.ledger_model.specs.RunTests.{any_free, any_on_loan, any_console, any_lacks}
use Rattle.ledger_model.specs.Steps.{lend, end_loan, forget, write, zero_page, pass}
use Rattle.machine_model.specs.Calling.Calls.{call}
use Rattle.machine_model.specs.Calling.ServerCalls.{create_server_call, connect_call}
use Rattle.machine_model.specs.Ending.Closing.{any_server, closed, servers_closed, senders_queued_gone, senders_held_gone}
use Rattle.machine_model.specs.Ending.Ends.{death, forgotten}
use Rattle.machine_model.specs.Hart.Atomics.{execute_at, execute, atomic_at}
use Rattle.machine_model.specs.Hart.Instructions.{execute_base}
use Rattle.machine_model.specs.Messaging.LoanSets.{end_loans, orphan_loans}
use Rattle.machine_model.specs.Messaging.ReceiveCalls.{receive_call}
use Rattle.machine_model.specs.Messaging.Receivers.{receiver}
use Rattle.machine_model.specs.Messaging.ReturnCalls.{holder_of, return_memory_call}
use Rattle.machine_model.specs.Messaging.SendCalls.{send_call}
use Rattle.machine_model.specs.State.Changes.{settled, call_settled}
use Rattle.machine_model.specs.State.Machine.{Machine, Server}
use Rattle.machine_model.specs.State.Order.{actor}
use Rattle.machine_model.specs.State.Servers.{with_sid, live_servers, server_at}
use Rattle.machine_model.specs.State.Views.{memory_of, stored}
use Rattle.machine_model.specs.Stepping.Acts.{call_by}
use Rattle.machine_model.specs.Stepping.Events.{killed}
use Rattle.machine_model.specs.Stepping.Step.{step, step_by}
use Rattle.machine_model.specs.Worked.Rows.{small_machine, id_of, what_of}
use Rattle.worked_examples.specs.Playing.{told_by, left_by, expected, code, first_pages, listed_ledger, coded_machine, IsToldAs}
use Rattle.worked_examples.proofs.Loans.HomeLemmas.{IsCovered, places_in, covered_listed, covered_lend, free_place, covered_pass}
use Rattle.worked_examples.proofs.PlayingLemmas.{told_on, call_step}
use Rattle.worked_examples.proofs.SendingLemmas.{IsSending, sending, sends, send_told, send_left, sent_step, window_at_receiver}
use Rattle.worked_examples.specs.Forwards.{two_servers_made, mutable_lend, forward, connected_back, forward_back, returned_at_last}
use Rattle.worked_examples.specs.Forwards.{forward_row, forwarder_killed_row, forward_back_row, forward_refused_row}
use Rattle.machine_model.specs.Messaging.ForwardCalls.{forward_call}
use Rattle.worked_examples.proofs.PassingLemmas.{IsPassing, passes_on, forward_told, forward_left, passed_step, window_of}

homes : List Place
homes = places_in (first_pages 3)

made : IsToldAs two_servers_made (coded_machine 3)
unfolding told_by expected coded_machine small_machine listed_ledger code step step_by actor memory_of reach role_at execute_at execute execute_base atomic_at insn_at call call_settled settled least_below listed_below listed_ids count_below with_sid live_servers create_server_call connect_call receive_call
made = refl

-- 3.2 is about to lend
pub lender_words : List ℕ
lender_words = 16 ∷ 2 ∷ 1 ∷ 7 ∷ 0x2000_0000 ∷ 4096 ∷ 0 ∷ 0 ∷ []

pub lender_server : Server
lender_server =
    unwrap_or (server_at (sending (id_of 3 2) lender_words (left_by two_servers_made (coded_machine 3))) (send_cid (eight_words lender_words)))
    (record { sid = record { 0 = [] }; pid = record { 0 = 0 }; queued = []; held = [] })

pub lender_ledger : Ledger
lender_ledger = listed_ledger (first_pages 3)

lender_covered : IsCovered homes lender_ledger
unfolding homes lender_ledger
lender_covered = covered_listed (first_pages 3)

lender_free : is_free 3 lender_ledger (window_at_receiver 0) ≡ true
unfolding homes lender_ledger listed_ledger lend write
lender_free = free_place 3 homes lender_ledger (window_at_receiver 0) lender_covered refl refl refl

lender_is : IsSending (id_of 3 2) lender_words (left_by two_servers_made (coded_machine 3)) lender_server 3 lender_ledger
unfolding lender_words lender_server lender_ledger call_by any_free any_on_loan any_console any_lacks run is_free send_call receive_call
    left_by coded_machine small_machine listed_ledger code step step_by actor memory_of reach role_at execute_at execute execute_base
    atomic_at insn_at call call_settled settled least_below listed_below listed_ids count_below with_sid live_servers create_server_call
    connect_call
lender_is =
    record { turn = refl; makes = refl; there = refl; own = refl; one = refl; processes = refl; ledger = refl; passes = refl }

lender_steps : step (sending (id_of 3 2) lender_words (left_by two_servers_made (coded_machine 3))) ≡ sent_step (id_of 3 2) lender_words (left_by two_servers_made (coded_machine 3)) 0
lender_steps =
    sends (id_of 3 2) lender_words (left_by two_servers_made (coded_machine 3)) lender_server 3 lender_ledger 0 lender_is (omega arith) refl lender_free
    (λ j b. absurd (omega arith))

pub lent : Machine
lent = (sent_step (id_of 3 2) lender_words (left_by two_servers_made (coded_machine 3)) 0).machine

lender_tells : map what_of (sent_step (id_of 3 2) lender_words (left_by two_servers_made (coded_machine 3)) 0).records ≡ expected mutable_lend
unfolding lender_words expected sent_step call_step receiver lend receive_call left_by coded_machine small_machine listed_ledger code step step_by actor memory_of reach role_at execute_at execute execute_base atomic_at insn_at call call_settled settled least_below listed_below listed_ids count_below with_sid live_servers create_server_call connect_call
lender_tells = refl

lender_told : IsToldAs mutable_lend (left_by two_servers_made (coded_machine 3))
unfolding lender_words expected
lender_told = send_told (id_of 3 2) lender_words _ (left_by two_servers_made (coded_machine 3)) 0 lender_steps lender_tells

lender_left : left_by mutable_lend (left_by two_servers_made (coded_machine 3)) ≡ lent
unfolding lender_words lent left_by
lender_left = send_left (id_of 3 2) lender_words [] (left_by two_servers_made (coded_machine 3)) 0 lender_steps

-- 2.2 is about to pass it on
pub passer_words : List ℕ
passer_words = 44 ∷ 1 ∷ 3 ∷ []

pub passer_server : Server
passer_server =
    unwrap_or (server_at (sending (id_of 2 2) passer_words lent) (forward_cid (eight_words passer_words)))
    (record { sid = record { 0 = [] }; pid = record { 0 = 0 }; queued = []; held = [] })

pub passer_ledger : Ledger
passer_ledger = lend (record { pid = record { 0 = 3 }; vpn = record { 0 = 0x2_0000 } }) 1 (window_at_receiver 0) Exclusive (record { 0 = 1 }) lender_ledger

passer_covered : IsCovered homes passer_ledger
unfolding homes passer_ledger
passer_covered = covered_lend homes (record { pid = record { 0 = 3 }; vpn = record { 0 = 0x2_0000 } }) 1 (window_at_receiver 0) Exclusive (record { 0 = 1 }) lender_ledger lender_covered

passer_free : is_free 3 passer_ledger (window_of 4) ≡ true
unfolding homes passer_ledger lender_ledger listed_ledger lend pass
passer_free = free_place 3 homes passer_ledger (window_of 4) passer_covered refl refl refl

passer_is : IsPassing (id_of 2 2) passer_words lent passer_server 4 3 passer_ledger
unfolding passer_words passer_server passer_ledger lender_ledger call_by forward_call holder_of lent sent_step call_step lender_words
    receiver lend zero_page left_by coded_machine small_machine listed_ledger code step step_by actor memory_of reach role_at execute_at
    execute execute_base atomic_at insn_at call call_settled settled least_below listed_below listed_ids count_below with_sid live_servers
    create_server_call connect_call receive_call
passer_is =
    record { turn = refl; makes = refl; there = refl; own = refl; one = refl; processes = refl; ledger = refl; passes = refl }

passer_steps : step (sending (id_of 2 2) passer_words lent) ≡ passed_step (id_of 2 2) passer_words lent 4
passer_steps = passes_on (id_of 2 2) passer_words lent passer_server 4 3 passer_ledger passer_is passer_free

pub passed : Machine
passed = (passed_step (id_of 2 2) passer_words lent 4).machine

passer_tells : map what_of (passed_step (id_of 2 2) passer_words lent 4).records ≡ expected forward
unfolding passer_words expected passed_step call_step pass holder_of lent sent_step lender_words receiver lend zero_page left_by
    coded_machine small_machine listed_ledger code step step_by actor memory_of reach role_at execute_at execute execute_base atomic_at
    insn_at call call_settled settled least_below listed_below listed_ids count_below with_sid live_servers create_server_call connect_call
    receive_call
passer_tells = refl

passer_told : IsToldAs forward lent
unfolding passer_words expected
passer_told = forward_told (id_of 2 2) passer_words _ lent 4 passer_steps passer_tells

passer_left : left_by forward lent ≡ passed
unfolding passer_words passed left_by
passer_left = forward_left (id_of 2 2) passer_words [] lent 4 passer_steps

-- 4.2 connects back
pub connected : Machine
connected = left_by connected_back passed

connected_told : IsToldAs connected_back passed
unfolding told_by expected passed passed_step passer_words forward_call holder_of pass lent sent_step call_step lender_words receiver lend
    zero_page left_by coded_machine small_machine listed_ledger code step step_by actor memory_of reach role_at execute_at execute
    execute_base atomic_at insn_at call call_settled settled least_below listed_below listed_ids count_below with_sid live_servers
    create_server_call connect_call receive_call
connected_told = refl

connected_left : left_by connected_back passed ≡ connected
unfolding connected
connected_left = refl

-- 4.2 is about to pass it back
pub back_words : List ℕ
back_words = 44 ∷ 1 ∷ 3 ∷ []

pub back_server : Server
back_server =
    unwrap_or (server_at (sending (id_of 4 2) back_words connected) (forward_cid (eight_words back_words)))
    (record { sid = record { 0 = [] }; pid = record { 0 = 0 }; queued = []; held = [] })

pub back_ledger : Ledger
back_ledger = pass (record { 0 = 1 }) (window_of 2) (window_of 4) passer_ledger

back_covered : IsCovered homes back_ledger
unfolding homes back_ledger
back_covered = covered_pass homes (record { 0 = 1 }) (window_of 2) (window_of 4) passer_ledger passer_covered

back_free : is_free 3 back_ledger (window_of 2) ≡ true
unfolding homes back_ledger passer_ledger lender_ledger listed_ledger lend pass
back_free = free_place 3 homes back_ledger (window_of 2) back_covered refl refl refl

back_is : IsPassing (id_of 4 2) back_words connected back_server 2 3 back_ledger
unfolding back_words back_server back_ledger passer_ledger lender_ledger call_by forward_call holder_of connected passed passed_step
    passer_words pass lent sent_step call_step lender_words receiver lend zero_page left_by coded_machine small_machine listed_ledger code
    step step_by actor memory_of reach role_at execute_at execute execute_base atomic_at insn_at call call_settled settled least_below
    listed_below listed_ids count_below with_sid live_servers create_server_call connect_call receive_call
back_is =
    record { turn = refl; makes = refl; there = refl; own = refl; one = refl; processes = refl; ledger = refl; passes = refl }

back_steps : step (sending (id_of 4 2) back_words connected) ≡ passed_step (id_of 4 2) back_words connected 2
back_steps = passes_on (id_of 4 2) back_words connected back_server 2 3 back_ledger back_is back_free

pub passed_back : Machine
passed_back = (passed_step (id_of 4 2) back_words connected 2).machine

back_tells : map what_of (passed_step (id_of 4 2) back_words connected 2).records ≡ expected forward_back
unfolding back_words expected passed_step call_step pass holder_of connected passed passer_words forward_call lent sent_step lender_words
    receiver lend zero_page left_by coded_machine small_machine listed_ledger code step step_by actor memory_of reach role_at execute_at
    execute execute_base atomic_at insn_at call call_settled settled least_below listed_below listed_ids count_below with_sid live_servers
    create_server_call connect_call receive_call
back_tells = refl

back_told : IsToldAs forward_back connected
unfolding back_words expected
back_told = forward_told (id_of 4 2) back_words _ connected 2 back_steps back_tells

back_left : left_by forward_back connected ≡ passed_back
unfolding back_words passed_back left_by
back_left = forward_left (id_of 4 2) back_words [] connected 2 back_steps

-- ---- the rows

returned : IsToldAs (drop 8 forward_row) passed
unfolding told_by expected return_memory_call end_loan passed passed_step passer_words forward_call holder_of pass lent sent_step call_step
    lender_words receiver lend zero_page left_by coded_machine small_machine listed_ledger code step step_by actor memory_of reach role_at
    execute_at execute execute_base atomic_at insn_at call call_settled settled least_below listed_below listed_ids count_below with_sid
    live_servers create_server_call connect_call receive_call
returned = refl

pub forwarded : IsToldAs forward_row (coded_machine 3)
forwarded =
    told_on two_servers_made (drop 6 forward_row) (coded_machine 3) (left_by two_servers_made (coded_machine 3)) made refl
    (told_on mutable_lend (drop 7 forward_row) (left_by two_servers_made (coded_machine 3)) lent lender_told lender_left
    (told_on forward (drop 8 forward_row) lent passed passer_told passer_left returned))

returned_later : IsToldAs (drop 8 forwarder_killed_row) passed
unfolding told_by expected return_memory_call end_loan killed death servers_closed closed any_server senders_queued_gone senders_held_gone
    end_loans orphan_loans forgotten forget passed passed_step passer_words forward_call holder_of pass lent sent_step call_step
    lender_words receiver lend zero_page left_by coded_machine small_machine listed_ledger code step step_by actor memory_of reach role_at
    execute_at execute execute_base atomic_at insn_at call call_settled settled least_below listed_below listed_ids count_below with_sid
    live_servers create_server_call connect_call receive_call
returned_later = refl

pub forwarder_killed : IsToldAs forwarder_killed_row (coded_machine 3)
forwarder_killed =
    told_on two_servers_made (drop 6 forwarder_killed_row) (coded_machine 3) (left_by two_servers_made (coded_machine 3)) made refl
    (told_on mutable_lend (drop 7 forwarder_killed_row) (left_by two_servers_made (coded_machine 3)) lent lender_told lender_left
    (told_on forward (drop 8 forwarder_killed_row) lent passed passer_told passer_left returned_later))

back_returned : IsToldAs returned_at_last passed_back
unfolding told_by expected return_memory_call end_loan stored write passed_back back_words connected passed passed_step passer_words
    forward_call holder_of pass lent sent_step call_step lender_words receiver lend zero_page left_by coded_machine small_machine
    listed_ledger code step step_by actor memory_of reach role_at execute_at execute execute_base atomic_at insn_at call call_settled
    settled least_below listed_below listed_ids count_below with_sid live_servers create_server_call connect_call receive_call
back_returned = refl

pub forwarded_back : IsToldAs forward_back_row (coded_machine 3)
forwarded_back =
    told_on two_servers_made (drop 6 forward_back_row) (coded_machine 3) (left_by two_servers_made (coded_machine 3)) made refl
    (told_on mutable_lend (drop 7 forward_back_row) (left_by two_servers_made (coded_machine 3)) lent lender_told lender_left
    (told_on forward (drop 8 forward_back_row) lent passed passer_told passer_left
    (told_on connected_back (drop 9 forward_back_row) passed connected connected_told connected_left
    (told_on forward_back (drop 10 forward_back_row) connected passed_back back_told back_left back_returned))))

refused : IsToldAs (drop 7 forward_refused_row) lent
unfolding told_by expected forward_call holder_of lent sent_step call_step lender_words receiver lend zero_page left_by coded_machine small_machine listed_ledger code step step_by actor memory_of reach role_at execute_at execute execute_base atomic_at insn_at call call_settled settled least_below listed_below listed_ids count_below with_sid live_servers create_server_call connect_call receive_call
refused = refl

pub forward_refused : IsToldAs forward_refused_row (coded_machine 3)
forward_refused =
    told_on two_servers_made (drop 6 forward_refused_row) (coded_machine 3) (left_by two_servers_made (coded_machine 3)) made refl
    (told_on mutable_lend (drop 7 forward_refused_row) (left_by two_servers_made (coded_machine 3)) lent lender_told lender_left
    refused)
