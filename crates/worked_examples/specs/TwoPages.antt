-- Mutable lend of two pages. The identifier of the server is 1, 2, 3, 4.
use Rattle.std.specs.Prelude.{List, [], ◌∷◌}
use Rattle.xk_base.specs.declared.pages.Width.TheVariants.{Word}
use Rattle.xk_base.specs.declared.records.What.{What}
use Rattle.xk_base.specs.declared.records.What.TheVariants.{Reply}
use Rattle.syscall_codec.specs.ReplyWords.{eight_words}
use Rattle.machine_model.specs.State.Machine.{Machine}
use Rattle.machine_model.specs.Worked.Rows.{Deed, Calls, pid_of, id_of, small_machine, after_all}
use Rattle.machine_model.specs.State.Views.{stored}

-- 2.2 waits. 3.2 makes a heap of two pages.
abbrev pub two_pages_begin : List Deed
two_pages_begin =
    Calls (id_of 2 2) (14 ∷ 1 ∷ 2 ∷ 3 ∷ 4 ∷ [])
    ∷ Calls (id_of 2 2) (15 ∷ 1 ∷ 2 ∷ 3 ∷ 4 ∷ [])
    ∷ Calls (id_of 3 2) (17 ∷ 1 ∷ 2 ∷ 3 ∷ 4 ∷ [])
    ∷ Calls (id_of 3 2) (10 ∷ 8192 ∷ [])
    ∷ []

abbrev pub two_pages_begin_told : List What
two_pages_begin_told =
    Reply (id_of 2 2) (eight_words (19 ∷ 1 ∷ 2 ∷ 3 ∷ 4 ∷ 2 ∷ []))
    ∷ Reply (id_of 3 2) (eight_words (7 ∷ 2 ∷ []))
    ∷ Reply (id_of 3 2) (eight_words (3 ∷ 0x2000_0000 ∷ 8192 ∷ []))
    ∷ []

-- 3.2 lends both pages mutably, and 2.2 gets them in that step
abbrev pub two_pages_send : List Deed
two_pages_send = Calls (id_of 3 2) (16 ∷ 2 ∷ 1 ∷ 7 ∷ 0x2000_0000 ∷ 8192 ∷ 0 ∷ 0 ∷ []) ∷ []

abbrev pub two_pages_send_told : List What
two_pages_send_told = Reply (id_of 2 2) (9 ∷ 1 ∷ 1 ∷ 7 ∷ 0x4000_0000 ∷ 8192 ∷ 0 ∷ 0 ∷ []) ∷ []

-- the machine during the loan
abbrev pub two_pages_lent : Machine
two_pages_lent = after_all two_pages_send (after_all two_pages_begin (small_machine 2))

-- 2.2 stores a word in the first page, and then one in the second
abbrev pub first_written : Machine
first_written = stored (pid_of 2) 0x4000_0000 Word 0x1122_3344 two_pages_lent

abbrev pub both_written : Machine
both_written = stored (pid_of 2) 0x4000_1000 Word 0x5566_7788 first_written

-- .. and returns the pages
abbrev pub two_pages_return : List Deed
two_pages_return = Calls (id_of 2 2) (20 ∷ 1 ∷ 0x4000_0000 ∷ 8192 ∷ 7 ∷ 9 ∷ []) ∷ []

abbrev pub two_pages_return_told : List What
two_pages_return_told =
    Reply (id_of 2 2) (eight_words (0 ∷ [])) ∷ Reply (id_of 3 2) (eight_words (18 ∷ 7 ∷ 9 ∷ []))
    ∷ []

abbrev pub two_pages_returned : Machine
two_pages_returned = after_all two_pages_return both_written
