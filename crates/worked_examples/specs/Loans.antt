-- Rows of loans and moves: a store after a return, a store during a loan, and an accepted move. The identifier of the server is 1, 2,
-- 3, 4; pid 2 makes it.
use Rattle.std.specs.Prelude.{List, [], ◌∷◌, ◌++◌}
use Rattle.xk_base.specs.declared.records.What.TheVariants.{Fault, Reply, Gone}
use Rattle.syscall_codec.specs.ReplyWords.{eight_words}
use Rattle.machine_model.specs.State.Machine.{Machine}
use Rattle.machine_model.specs.Worked.Rows.{id_of, pid_of}
use Rattle.worked_examples.specs.Playing.{Line, calls, stores_word, left_by, coded_machine}
use Rattle.worked_examples.specs.Scalars.{server_made}

-- 3.2 makes a second thread and stores a word in its heap. 2.2 waits.
abbrev pub word_stored : List Line
word_stored = server_made ++ (
    calls (id_of 3 2) (18 ∷ 65536 ∷ []) (Reply (id_of 3 2) (eight_words (10 ∷ 3 ∷ [])) ∷ [])
    ∷ stores_word (id_of 3 2) 0x2000_0000 0x1122_3344 []
    ∷ calls (id_of 2 2) (15 ∷ 1 ∷ 2 ∷ 3 ∷ 4 ∷ []) []
    ∷ [])

-- 3.2 lends the page, and 2.2 gets it
abbrev pub shared_lend : List Line
shared_lend =
    calls (id_of 3 2) (16 ∷ 2 ∷ 2 ∷ 7 ∷ 0x2000_0000 ∷ 4096 ∷ 0 ∷ 0 ∷ [])
    (Reply (id_of 2 2) (9 ∷ 1 ∷ 2 ∷ 7 ∷ 0x4000_0000 ∷ 4096 ∷ 0 ∷ 0 ∷ []) ∷ [])
    ∷ []

-- 2.2 returns it, and 3.2 stores there as before
abbrev pub return_row : List Line
return_row = word_stored ++ (shared_lend ++ (
    calls (id_of 2 2) (20 ∷ 1 ∷ 0x4000_0000 ∷ 4096 ∷ 0 ∷ 0 ∷ [])
    (Reply (id_of 2 2) (eight_words (0 ∷ [])) ∷ Reply (id_of 3 2) (eight_words (18 ∷ 0 ∷ 0 ∷ [])) ∷ [])
    ∷ stores_word (id_of 3 2) 0x2000_0000 0x5566_7788 []
    ∷ []))

-- 3.3 stores there during the loan: a page fault, which ends its process
abbrev pub fault_row : List Line
fault_row = word_stored ++ (shared_lend ++ (
    stores_word (id_of 3 3) 0x2000_0000 0x5566_7788 (Fault (id_of 3 3) 15 0x2000_0000 ∷ Gone (pid_of 3) ∷ [])
    ∷ []))

-- 3.2 moves the page, and 2.2 gets it
abbrev pub move : List Line
move =
    calls (id_of 3 2) (16 ∷ 2 ∷ 3 ∷ 7 ∷ 0x2000_0000 ∷ 4096 ∷ 5 ∷ 6 ∷ [])
    (Reply (id_of 2 2) (9 ∷ 1 ∷ 3 ∷ 7 ∷ 0x4000_0000 ∷ 4096 ∷ 5 ∷ 6 ∷ []) ∷ Reply (id_of 3 2) (eight_words (0 ∷ [])) ∷ [])
    ∷ []

-- the page is the receiver's, which stores to it
abbrev pub move_row : List Line
move_row = word_stored ++ (move ++ (stores_word (id_of 2 2) 0x4000_0004 0x5566_7788 [] ∷ []))

-- what they leave
abbrev pub after_return : Machine
after_return = left_by return_row (coded_machine 2)

abbrev pub after_move : Machine
after_move = left_by move_row (coded_machine 2)
