-- Worked rows of lent pages. The identifier of the server is 1, 2, 3, 4.
use Rattle.std.specs.Prelude.{List, [], ◌∷◌}
use Rattle.xk_base.specs.declared.records.What.{What}
use Rattle.xk_base.specs.declared.records.What.TheVariants.{Reply, Gone}
use Rattle.syscall_codec.specs.ReplyWords.{eight_words}
use Rattle.machine_model.specs.Worked.Rows.{Deed, Calls, Kills, pid_of, id_of}

-- 2.2 waits. 3.2 makes a heap of one page, and a second thread.
abbrev pub lend_begin : List Deed
lend_begin =
    Calls (id_of 2 2) (14 ∷ 1 ∷ 2 ∷ 3 ∷ 4 ∷ [])
    ∷ Calls (id_of 2 2) (15 ∷ 1 ∷ 2 ∷ 3 ∷ 4 ∷ [])
    ∷ Calls (id_of 3 2) (17 ∷ 1 ∷ 2 ∷ 3 ∷ 4 ∷ [])
    ∷ Calls (id_of 3 2) (10 ∷ 4096 ∷ [])
    ∷ Calls (id_of 3 2) (18 ∷ 65536 ∷ [])
    ∷ []

abbrev pub lend_begin_told : List What
lend_begin_told =
    Reply (id_of 2 2) (eight_words (19 ∷ 1 ∷ 2 ∷ 3 ∷ 4 ∷ 2 ∷ []))
    ∷ Reply (id_of 3 2) (eight_words (7 ∷ 2 ∷ []))
    ∷ Reply (id_of 3 2) (eight_words (3 ∷ 0x2000_0000 ∷ 4096 ∷ []))
    ∷ Reply (id_of 3 2) (eight_words (10 ∷ 3 ∷ []))
    ∷ []

-- 3.2 lends its page, and 2.2 gets it in that step. It returns it by a wrong size, by the right one, and again.
abbrev pub lend_row : List Deed
lend_row =
    Calls (id_of 3 2) (16 ∷ 2 ∷ 2 ∷ 7 ∷ 0x2000_0000 ∷ 4096 ∷ 0 ∷ 0 ∷ [])
    ∷ Calls (id_of 2 2) (20 ∷ 1 ∷ 0x4000_0000 ∷ 8192 ∷ [])
    ∷ Calls (id_of 2 2) (20 ∷ 1 ∷ 0x4000_0000 ∷ 4096 ∷ 7 ∷ 9 ∷ [])
    ∷ Calls (id_of 2 2) (20 ∷ 1 ∷ 0x4000_0000 ∷ 4096 ∷ 7 ∷ 9 ∷ [])
    ∷ []

abbrev pub lend_told : List What
lend_told =
    Reply (id_of 2 2) (9 ∷ 1 ∷ 2 ∷ 7 ∷ 0x4000_0000 ∷ 4096 ∷ 0 ∷ 0 ∷ [])
    ∷ Reply (id_of 2 2) (eight_words (1 ∷ 2 ∷ []))
    ∷ Reply (id_of 2 2) (eight_words (0 ∷ [])) ∷ Reply (id_of 3 2) (eight_words (18 ∷ 7 ∷ 9 ∷ []))
    ∷ Reply (id_of 2 2) (eight_words (1 ∷ 25 ∷ []))
    ∷ []

-- 3.2 lends its page mutably, and 2.2 gets it. 3.3 can't send it, nor two pages of which the second isn't there; 2.2 can't send
-- it on, also when its lender is dead. After the return it is no more.
abbrev pub orphan_row : List Deed
orphan_row =
    Calls (id_of 3 2) (16 ∷ 2 ∷ 1 ∷ 7 ∷ 0x2000_0000 ∷ 4096 ∷ 0 ∷ 0 ∷ [])
    ∷ Calls (id_of 3 3) (24 ∷ 2 ∷ 2 ∷ 7 ∷ 0x2000_0000 ∷ 4096 ∷ [])
    ∷ Calls (id_of 3 3) (24 ∷ 2 ∷ 2 ∷ 7 ∷ 0x2000_0000 ∷ 8192 ∷ [])
    ∷ Calls (id_of 2 2) (24 ∷ 2 ∷ 2 ∷ 7 ∷ 0x4000_0000 ∷ 4096 ∷ [])
    ∷ Kills (pid_of 3)
    ∷ Calls (id_of 2 2) (24 ∷ 2 ∷ 2 ∷ 7 ∷ 0x4000_0000 ∷ 4096 ∷ [])
    ∷ Calls (id_of 2 2) (20 ∷ 1 ∷ 0x4000_0000 ∷ 4096 ∷ [])
    ∷ Calls (id_of 2 2) (20 ∷ 1 ∷ 0x4000_0000 ∷ 4096 ∷ [])
    ∷ Calls (id_of 2 2) (24 ∷ 2 ∷ 2 ∷ 7 ∷ 0x4000_0000 ∷ 4096 ∷ [])
    ∷ []

abbrev pub orphan_told : List What
orphan_told =
    Reply (id_of 2 2) (9 ∷ 1 ∷ 1 ∷ 7 ∷ 0x4000_0000 ∷ 4096 ∷ 0 ∷ 0 ∷ [])
    ∷ Reply (id_of 3 3) (eight_words (1 ∷ 19 ∷ []))
    ∷ Reply (id_of 3 3) (eight_words (1 ∷ 2 ∷ []))
    ∷ Reply (id_of 2 2) (eight_words (1 ∷ 19 ∷ []))
    ∷ Gone (pid_of 3)
    ∷ Reply (id_of 2 2) (eight_words (1 ∷ 19 ∷ []))
    ∷ Reply (id_of 2 2) (eight_words (0 ∷ []))
    ∷ Reply (id_of 2 2) (eight_words (1 ∷ 25 ∷ []))
    ∷ Reply (id_of 2 2) (eight_words (1 ∷ 2 ∷ []))
    ∷ []

-- Sends of 3.3 that are refused: no connection; no kind; no length; an address inside a page; a hole; a mutable lend of a page
-- that lost its W; the console.
abbrev pub refusal_row : List Deed
refusal_row =
    Calls (id_of 3 3) (24 ∷ 3 ∷ 0 ∷ [])
    ∷ Calls (id_of 3 3) (24 ∷ 2 ∷ 0 ∷ [])
    ∷ Calls (id_of 3 3) (24 ∷ 2 ∷ 6 ∷ [])
    ∷ Calls (id_of 3 3) (24 ∷ 2 ∷ 3 ∷ 7 ∷ 0x2000_0000 ∷ 0 ∷ [])
    ∷ Calls (id_of 3 3) (24 ∷ 2 ∷ 3 ∷ 7 ∷ 0x2000_0004 ∷ 4096 ∷ [])
    ∷ Calls (id_of 3 3) (24 ∷ 2 ∷ 3 ∷ 7 ∷ 0x2000_0000 ∷ 8192 ∷ [])
    ∷ Calls (id_of 3 3) (12 ∷ 0x2000_0000 ∷ 4096 ∷ 2 ∷ [])
    ∷ Calls (id_of 3 3) (24 ∷ 2 ∷ 1 ∷ 7 ∷ 0x2000_0000 ∷ 4096 ∷ [])
    ∷ Calls (id_of 3 3) (2 ∷ 0xF000_0000 ∷ 0x6000_0000 ∷ 4096 ∷ 6 ∷ [])
    ∷ Calls (id_of 3 3) (24 ∷ 2 ∷ 2 ∷ 7 ∷ 0x6000_0000 ∷ 4096 ∷ [])
    ∷ []

abbrev pub refusal_told : List What
refusal_told =
    Reply (id_of 3 3) (eight_words (1 ∷ 9 ∷ []))
    ∷ Reply (id_of 3 3) (eight_words (1 ∷ 18 ∷ []))
    ∷ Reply (id_of 3 3) (eight_words (1 ∷ 18 ∷ []))
    ∷ Reply (id_of 3 3) (eight_words (1 ∷ 1 ∷ []))
    ∷ Reply (id_of 3 3) (eight_words (1 ∷ 1 ∷ []))
    ∷ Reply (id_of 3 3) (eight_words (1 ∷ 2 ∷ []))
    ∷ Reply (id_of 3 3) (eight_words (0 ∷ []))
    ∷ Reply (id_of 3 3) (eight_words (1 ∷ 19 ∷ []))
    ∷ Reply (id_of 3 3) (eight_words (3 ∷ 0x6000_0000 ∷ 4096 ∷ []))
    ∷ Reply (id_of 3 3) (eight_words (1 ∷ 19 ∷ []))
    ∷ []
