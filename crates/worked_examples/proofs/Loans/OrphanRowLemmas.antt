-- The row of a server that stores to an orphan, by evaluation but for where the pages go and who lent them.
use Rattle.std.proofs.Common.{◌≡◌, ℕ, true, List, [], ◌∷◌, Option, Some, refl, ap, ◌∙◌, arith}
use Rattle.std.specs.Option.{option_and_then, option_or}
use Rattle.std.specs.Prelude.{drop, map, unwrap_or, if◌then◌else◌}
use Rattle.xk_base.specs.declared.ids.Place.{Place}
use Rattle.xk_base.specs.declared.pages.LoanKind.TheVariants.{Exclusive}
use Rattle.syscall_codec.specs.CallWords.{send_cid}
use Rattle.xk_base.specs.Tables.Circle.{listed_ids}
use Rattle.xk_base.specs.Tables.Counting.{least_below, listed_below, count_below}
use Rattle.syscall_codec.specs.ReplyWords.{eight_words}
use Rattle.rv32_words.specs.Reading.{insn_at}
use Rattle.ledger_model.specs.Ledger.{Ledger, Orphan}
use Rattle.ledger_model.specs.Places.{run, same_place}
use Rattle.ledger_model.specs.Reach.{is_free, lender_of, reach, role_at}
use Rattle.ledger_model.specs.RunTests.{any_free, any_on_loan, any_console, any_lacks}
use Rattle.ledger_model.specs.Steps.{lend, end_loan, forget, write, zero_page}
use Rattle.machine_model.specs.Calling.Calls.{call}
use Rattle.machine_model.specs.Calling.ServerCalls.{create_server_call, connect_call}
use Rattle.machine_model.specs.Ending.Closing.{any_server, is_held_from, closed, servers_closed, senders_queued_gone, senders_held_gone}
use Rattle.machine_model.specs.Ending.Ends.{death, forgotten}
use Rattle.machine_model.specs.Hart.Atomics.{execute_at, execute, atomic_at}
use Rattle.machine_model.specs.Hart.Instructions.{execute_base}
use Rattle.machine_model.specs.Messaging.LoanSets.{end_loans, orphan_loans, orphan_of_page}
use Rattle.machine_model.specs.Messaging.ReceiveCalls.{receive_call}
use Rattle.machine_model.specs.Messaging.Receivers.{receiver}
use Rattle.machine_model.specs.Messaging.ReturnCalls.{holder_of, return_memory_call}
use Rattle.machine_model.specs.Messaging.SendCalls.{send_call}
use Rattle.machine_model.specs.State.Changes.{settled, call_settled}
use Rattle.machine_model.specs.State.Machine.{Machine, Server}
use Rattle.machine_model.specs.State.Order.{actor}
use Rattle.machine_model.specs.State.Servers.{with_sid, live_servers, server_at}
use Rattle.machine_model.specs.State.Views.{memory_of, stored}
use Rattle.machine_model.specs.Stepping.Acts.{call_by}
use Rattle.machine_model.specs.Stepping.Events.{killed}
use Rattle.machine_model.specs.Stepping.Step.{step, step_by}
use Rattle.machine_model.specs.Worked.Rows.{small_machine, id_of, pid_of, what_of}
use Rattle.worked_examples.specs.Playing.{told_by, left_by, expected, code, first_pages, listed_ledger, coded_machine, IsToldAs}
use Rattle.worked_examples.proofs.Loans.HomeLemmas.{IsCovered, places_in, covered_listed, covered_lend, covered_end, lender_found}
use Rattle.worked_examples.proofs.Loans.HomeLemmas.{known_orphan, free_place}
use Rattle.worked_examples.proofs.PlayingLemmas.{told_on, call_step}
use Rattle.worked_examples.proofs.SendingLemmas.{IsSending, sending, sends, send_told, send_left, sent_step, window_at_receiver}
use Rattle.worked_examples.specs.Deaths.{server_waits, lent_mutably, lender_killed, orphan_row}

homes : List Place
homes = places_in (first_pages 2)

begun : IsToldAs server_waits (coded_machine 2)
unfolding told_by expected receive_call coded_machine small_machine listed_ledger code step step_by actor memory_of reach role_at execute_at execute execute_base atomic_at insn_at call call_settled settled least_below listed_below listed_ids count_below with_sid live_servers create_server_call connect_call
begun = refl

-- 3.2 is about to lend the page
pub lender_words : List ℕ
lender_words = 16 ∷ 2 ∷ 1 ∷ 7 ∷ 0x2000_0000 ∷ 4096 ∷ 0 ∷ 0 ∷ []

pub lender_server : Server
lender_server =
    unwrap_or (server_at (sending (id_of 3 2) lender_words (left_by server_waits (coded_machine 2))) (send_cid (eight_words lender_words)))
    (record { sid = record { 0 = [] }; pid = record { 0 = 0 }; queued = []; held = [] })

pub lender_ledger : Ledger
lender_ledger = listed_ledger (first_pages 2)

lender_covered : IsCovered homes lender_ledger
unfolding homes lender_ledger
lender_covered = covered_listed (first_pages 2)

lender_free : is_free 2 lender_ledger (window_at_receiver 0) ≡ true
unfolding homes lender_ledger listed_ledger lend write
lender_free = free_place 2 homes lender_ledger (window_at_receiver 0) lender_covered refl refl refl

lender_is : IsSending (id_of 3 2) lender_words (left_by server_waits (coded_machine 2)) lender_server 2 lender_ledger
unfolding lender_words lender_server lender_ledger call_by any_free any_on_loan any_console any_lacks run is_free send_call receive_call
    left_by coded_machine small_machine listed_ledger code step step_by actor memory_of reach role_at execute_at execute execute_base
    atomic_at insn_at call call_settled settled least_below listed_below listed_ids count_below with_sid live_servers create_server_call
    connect_call
lender_is =
    record { turn = refl; makes = refl; there = refl; own = refl; one = refl; processes = refl; ledger = refl; passes = refl }

lender_steps : step (sending (id_of 3 2) lender_words (left_by server_waits (coded_machine 2))) ≡ sent_step (id_of 3 2) lender_words (left_by server_waits (coded_machine 2)) 0
lender_steps =
    sends (id_of 3 2) lender_words (left_by server_waits (coded_machine 2)) lender_server 2 lender_ledger 0 lender_is (omega arith) refl lender_free
    (λ j b. absurd (omega arith))

pub lent : Machine
lent = (sent_step (id_of 3 2) lender_words (left_by server_waits (coded_machine 2)) 0).machine

lender_tells : map what_of (sent_step (id_of 3 2) lender_words (left_by server_waits (coded_machine 2)) 0).records ≡ expected lent_mutably
unfolding lender_words expected sent_step call_step receiver lend receive_call left_by coded_machine small_machine listed_ledger code step step_by actor memory_of reach role_at execute_at execute execute_base atomic_at insn_at call call_settled settled least_below listed_below listed_ids count_below with_sid live_servers create_server_call connect_call
lender_tells = refl

lender_told : IsToldAs lent_mutably (left_by server_waits (coded_machine 2))
unfolding lender_words expected
lender_told = send_told (id_of 3 2) lender_words _ (left_by server_waits (coded_machine 2)) 0 lender_steps lender_tells

lender_left : left_by lent_mutably (left_by server_waits (coded_machine 2)) ≡ lent
unfolding lender_words lent left_by
lender_left = send_left (id_of 3 2) lender_words [] (left_by server_waits (coded_machine 2)) 0 lender_steps

-- ---- the lender dies

pub lender_home : Place
lender_home = record { pid = record { 0 = 3 }; vpn = record { 0 = 0x2_0000 } }

-- the machine before the messages of the dead that are held become senderless
pub closing : Machine
closing = senders_queued_gone (pid_of 3) (servers_closed (pid_of 3) lent).machine

lent_covered : IsCovered homes lent.ledger
unfolding homes lender_home lent sent_step call_step lender_words receiver lend receive_call left_by coded_machine small_machine listed_ledger code step step_by actor memory_of reach role_at execute_at execute execute_base atomic_at insn_at call call_settled settled least_below listed_below listed_ids count_below with_sid live_servers create_server_call connect_call
lent_covered = covered_lend homes lender_home 1 (window_at_receiver 0) Exclusive (record { 0 = 1 }) (listed_ledger (first_pages 2)) (covered_listed (first_pages 2))

closing_covered : IsCovered homes closing.ledger
unfolding closing senders_queued_gone servers_closed closed
closing_covered = covered_end homes _ _ (covered_end homes _ _ lent_covered)

lender_at : lender_of 2 closing.ledger (window_at_receiver 0) ≡ Some lender_home
unfolding homes lender_home closing killed death servers_closed closed any_server senders_queued_gone senders_held_gone end_loans
    orphan_loans forgotten forget lent sent_step call_step lender_words receiver lend receive_call left_by coded_machine small_machine
    listed_ledger code step step_by actor memory_of reach role_at execute_at execute execute_base atomic_at insn_at call call_settled
    settled least_below listed_below listed_ids count_below with_sid live_servers create_server_call connect_call
lender_at = lender_found 2 homes closing.ledger (window_at_receiver 0) lender_home closing_covered refl refl refl

pub orphan : Orphan
orphan = record { kind = Exclusive; bytes = zero_page; number = record { 0 = 1 } }

pub dead : Machine
dead = left_by lender_killed lent

-- the orphan at the holder's place, by its lender
abbrev pub orphan_by : Option Place → Option Orphan
orphan_by o =
    option_or (option_and_then (orphan_of_page (is_held_from (pid_of 3) closing)) (option_and_then closing.ledger.home o)) (closing.ledger.orphan (window_at_receiver 0))

by_lender : dead.ledger.orphan (window_at_receiver 0) ≡ orphan_by (lender_of 2 closing.ledger (window_at_receiver 0))
unfolding dead closing killed death servers_closed closed any_server senders_queued_gone senders_held_gone end_loans orphan_loans forgotten
    forget lent sent_step call_step lender_words receiver lend receive_call left_by coded_machine small_machine listed_ledger code step
    step_by actor memory_of reach role_at execute_at execute execute_base atomic_at insn_at call call_settled settled least_below
    listed_below listed_ids count_below with_sid live_servers create_server_call connect_call
by_lender = refl

by_home : orphan_by (Some lender_home) ≡ Some orphan
unfolding lender_home orphan closing killed death servers_closed closed any_server senders_queued_gone senders_held_gone end_loans
    orphan_loans forgotten forget lent sent_step call_step lender_words receiver lend receive_call left_by coded_machine small_machine
    listed_ledger code step step_by actor memory_of reach role_at execute_at execute execute_base atomic_at insn_at call call_settled
    settled least_below listed_below listed_ids count_below with_sid live_servers create_server_call connect_call
by_home = refl

-- the machine with that orphan
pub known : Machine
known = record dead { ledger = record dead.ledger { orphan = λ q. if same_place q (window_at_receiver 0) then Some orphan else dead.ledger.orphan q } }

dead_is : left_by lender_killed lent ≡ known
unfolding dead known
dead_is =
    ap (λ l. record dead { ledger = l })
    (known_orphan dead.ledger (window_at_receiver 0) (Some orphan) (by_lender ∙ (ap orphan_by lender_at ∙ by_home)))

gone_told : IsToldAs lender_killed lent
unfolding told_by expected killed death servers_closed closed any_server senders_queued_gone senders_held_gone end_loans orphan_loans
    forgotten forget lent sent_step call_step lender_words receiver lend receive_call left_by coded_machine small_machine listed_ledger code
    step step_by actor memory_of reach role_at execute_at execute execute_base atomic_at insn_at call call_settled settled least_below
    listed_below listed_ids count_below with_sid live_servers create_server_call connect_call
gone_told = refl

stored_told : IsToldAs (drop 5 orphan_row) known
unfolding told_by expected stored write holder_of return_memory_call end_loan orphan known dead killed death servers_closed closed
    any_server senders_queued_gone senders_held_gone end_loans orphan_loans forgotten forget lent sent_step call_step lender_words receiver
    lend receive_call left_by coded_machine small_machine listed_ledger code step step_by actor memory_of reach role_at execute_at execute
    execute_base atomic_at insn_at call call_settled settled least_below listed_below listed_ids count_below with_sid live_servers
    create_server_call connect_call
stored_told = refl

pub orphan_stored : IsToldAs orphan_row (coded_machine 2)
orphan_stored =
    told_on server_waits (drop 3 orphan_row) (coded_machine 2) (left_by server_waits (coded_machine 2)) begun refl
    (told_on lent_mutably (drop 4 orphan_row) (left_by server_waits (coded_machine 2)) lent lender_told lender_left
    (told_on lender_killed (drop 5 orphan_row) lent known gone_told dead_is stored_told))
