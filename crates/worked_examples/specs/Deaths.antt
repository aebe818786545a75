-- Rows of deaths with loans: a server's store to an orphan, a sender that is killed while its message is queued, a server that is
-- destroyed, and one that is killed. The identifier of the server is 1, 2, 3, 4; pid 2 makes it.
use Rattle.std.specs.Prelude.{List, [], ◌∷◌, ◌++◌}
use Rattle.xk_base.specs.declared.records.What.TheVariants.{Reply, Gone}
use Rattle.syscall_codec.specs.ReplyWords.{eight_words}
use Rattle.machine_model.specs.State.Machine.{Machine}
use Rattle.machine_model.specs.Worked.Rows.{id_of, pid_of}
use Rattle.worked_examples.specs.Playing.{Line, calls, stores_word, kills, left_by, coded_machine}
use Rattle.worked_examples.specs.Scalars.{server_made}

-- ---- an orphan

abbrev pub server_waits : List Line
server_waits = server_made ++ (calls (id_of 2 2) (15 ∷ 1 ∷ 2 ∷ 3 ∷ 4 ∷ []) [] ∷ [])

-- 3.2 lends a page mutably, and 2.2 gets it
abbrev pub lent_mutably : List Line
lent_mutably =
    calls (id_of 3 2) (16 ∷ 2 ∷ 1 ∷ 7 ∷ 0x2000_0000 ∷ 4096 ∷ 0 ∷ 0 ∷ [])
    (Reply (id_of 2 2) (9 ∷ 1 ∷ 1 ∷ 7 ∷ 0x4000_0000 ∷ 4096 ∷ 0 ∷ 0 ∷ []) ∷ [])
    ∷ []

abbrev pub lender_killed : List Line
lender_killed = kills (pid_of 3) (Gone (pid_of 3) ∷ []) ∷ []

-- The lender dies. The server stores to the page, and returns it to nobody, once.
abbrev pub orphan_row : List Line
orphan_row = server_waits ++ (lent_mutably ++ (lender_killed ++ (
    stores_word (id_of 2 2) 0x4000_0000 0x1122_3344 []
    ∷ calls (id_of 2 2) (20 ∷ 1 ∷ 0x4000_0000 ∷ 4096 ∷ 0 ∷ 0 ∷ []) (Reply (id_of 2 2) (eight_words (0 ∷ [])) ∷ [])
    ∷ calls (id_of 2 2) (20 ∷ 1 ∷ 0x4000_0000 ∷ 4096 ∷ 0 ∷ 0 ∷ []) (Reply (id_of 2 2) (eight_words (1 ∷ 25 ∷ [])) ∷ [])
    ∷ [])))

-- ---- a queued message

-- 3.2 lends a page, and nobody waits for it
abbrev pub lend_queued : List Line
lend_queued = calls (id_of 3 2) (16 ∷ 2 ∷ 1 ∷ 7 ∷ 0x2000_0000 ∷ 4096 ∷ 0 ∷ 0 ∷ []) [] ∷ []

-- 3.2 dies: its message is taken out
abbrev pub queued_sender_row : List Line
queued_sender_row = server_made ++ (lend_queued ++ (
    kills (pid_of 3) (Gone (pid_of 3) ∷ [])
    ∷ calls (id_of 2 2) (28 ∷ 1 ∷ 2 ∷ 3 ∷ 4 ∷ []) (Reply (id_of 2 2) (eight_words (0 ∷ [])) ∷ [])
    ∷ []))

-- ---- a server that is destroyed

abbrev pub two_connected : List Line
two_connected = server_made ++ (
    calls (id_of 4 2) (17 ∷ 1 ∷ 2 ∷ 3 ∷ 4 ∷ []) (Reply (id_of 4 2) (eight_words (7 ∷ 2 ∷ [])) ∷ [])
    ∷ [])

-- 4.2 lends a page mutably, which stands at the server behind that of 3.2
abbrev pub second_lend_queued : List Line
second_lend_queued = calls (id_of 4 2) (16 ∷ 2 ∷ 1 ∷ 8 ∷ 0x2000_0000 ∷ 4096 ∷ 0 ∷ 0 ∷ []) [] ∷ []

-- 2.2 receives the first and destroys the server: both lenders are answered in their order, and store to their pages as before
abbrev pub destroy_row : List Line
destroy_row = two_connected ++ (lend_queued ++ (second_lend_queued ++ (
    calls (id_of 2 2) (15 ∷ 1 ∷ 2 ∷ 3 ∷ 4 ∷ []) (Reply (id_of 2 2) (9 ∷ 1 ∷ 1 ∷ 7 ∷ 0x4000_0000 ∷ 4096 ∷ 0 ∷ 0 ∷ []) ∷ [])
    ∷ calls (id_of 2 2) (41 ∷ 1 ∷ 2 ∷ 3 ∷ 4 ∷ [])
    (Reply (id_of 2 2) (eight_words (0 ∷ [])) ∷ Reply (id_of 3 2) (eight_words (1 ∷ 9 ∷ []))
    ∷ Reply (id_of 4 2) (eight_words (1 ∷ 9 ∷ [])) ∷ [])
    ∷ stores_word (id_of 3 2) 0x2000_0000 0x1122_3344 []
    ∷ stores_word (id_of 4 2) 0x2000_0000 0x1122_3344 []
    ∷ [])))

-- ---- a server that is killed

-- 4.2 and 5.2 connect too, and 3.2 makes a second thread
abbrev pub three_connected : List Line
three_connected = two_connected ++ (
    calls (id_of 5 2) (17 ∷ 1 ∷ 2 ∷ 3 ∷ 4 ∷ []) (Reply (id_of 5 2) (eight_words (7 ∷ 2 ∷ [])) ∷ [])
    ∷ calls (id_of 3 2) (18 ∷ 65536 ∷ []) (Reply (id_of 3 2) (eight_words (10 ∷ 3 ∷ [])) ∷ [])
    ∷ [])

-- 3.3 lends the other page of its process, which stands at the server behind those of 3.2 and 4.2
abbrev pub third_lend_queued : List Line
third_lend_queued = calls (id_of 3 3) (16 ∷ 2 ∷ 2 ∷ 9 ∷ 0x2000_1000 ∷ 4096 ∷ 0 ∷ 0 ∷ []) [] ∷ []

-- 5.2 moves a page
abbrev pub move_queued : List Line
move_queued =
    calls (id_of 5 2) (16 ∷ 2 ∷ 3 ∷ 10 ∷ 0x2000_0000 ∷ 4096 ∷ 0 ∷ 0 ∷ []) (Reply (id_of 5 2) (eight_words (0 ∷ [])) ∷ []) ∷ []

-- 2.2 receives the first lend. Pid 2 dies: the lenders are answered in ascending order, and store to their pages as before.
abbrev pub server_killed_row : List Line
server_killed_row = three_connected ++ (lend_queued ++ (second_lend_queued ++ (third_lend_queued ++ (move_queued ++ (
    calls (id_of 2 2) (15 ∷ 1 ∷ 2 ∷ 3 ∷ 4 ∷ []) (Reply (id_of 2 2) (9 ∷ 1 ∷ 1 ∷ 7 ∷ 0x4000_0000 ∷ 4096 ∷ 0 ∷ 0 ∷ []) ∷ [])
    ∷ kills (pid_of 2)
    (Reply (id_of 3 2) (eight_words (1 ∷ 9 ∷ [])) ∷ Reply (id_of 3 3) (eight_words (1 ∷ 9 ∷ []))
    ∷ Reply (id_of 4 2) (eight_words (1 ∷ 9 ∷ [])) ∷ Gone (pid_of 2) ∷ [])
    ∷ stores_word (id_of 3 2) 0x2000_0000 0x1122_3344 []
    ∷ stores_word (id_of 3 3) 0x2000_1000 0x1122_3344 []
    ∷ stores_word (id_of 4 2) 0x2000_0000 0x1122_3344 []
    ∷ [])))))

-- what it leaves
abbrev pub server_killed : Machine
server_killed = left_by server_killed_row (coded_machine 4)
