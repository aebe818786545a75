-- Own server: a page is lent to a server of the lender's own process. Its identifier is 1, 2, 3, 4.
use Rattle.std.specs.Prelude.{List, [], ◌∷◌}
use Rattle.xk_base.specs.declared.pages.Width.TheVariants.{Word}
use Rattle.xk_base.specs.declared.records.What.{What}
use Rattle.xk_base.specs.declared.records.What.TheVariants.{Reply}
use Rattle.syscall_codec.specs.ReplyWords.{eight_words}
use Rattle.machine_model.specs.State.Machine.{Machine}
use Rattle.machine_model.specs.Worked.Rows.{Deed, Calls, pid_of, id_of, small_machine, after_all}
use Rattle.machine_model.specs.State.Views.{stored}

-- 2.2 makes the server, and a second thread, which waits there. It makes a heap of one page.
abbrev pub own_server_begin : List Deed
own_server_begin =
    Calls (id_of 2 2) (14 ∷ 1 ∷ 2 ∷ 3 ∷ 4 ∷ [])
    ∷ Calls (id_of 2 2) (18 ∷ 65536 ∷ [])
    ∷ Calls (id_of 2 3) (15 ∷ 1 ∷ 2 ∷ 3 ∷ 4 ∷ [])
    ∷ Calls (id_of 2 2) (10 ∷ 4096 ∷ [])
    ∷ []

abbrev pub own_server_begin_told : List What
own_server_begin_told =
    Reply (id_of 2 2) (eight_words (19 ∷ 1 ∷ 2 ∷ 3 ∷ 4 ∷ 2 ∷ []))
    ∷ Reply (id_of 2 2) (eight_words (10 ∷ 3 ∷ []))
    ∷ Reply (id_of 2 2) (eight_words (3 ∷ 0x2000_0000 ∷ 4096 ∷ []))
    ∷ []

-- 2.2 stores a word in its page
abbrev pub own_server_written : Machine
own_server_written = stored (pid_of 2) 0x2000_0000 Word 0x1122_3344 (after_all own_server_begin (small_machine 2))

-- .. and lends it by its own connection, and 2.3 gets it in that step
abbrev pub own_server_send : List Deed
own_server_send = Calls (id_of 2 2) (16 ∷ 2 ∷ 2 ∷ 7 ∷ 0x2000_0000 ∷ 4096 ∷ 0 ∷ 0 ∷ []) ∷ []

abbrev pub own_server_send_told : List What
own_server_send_told = Reply (id_of 2 3) (9 ∷ 1 ∷ 2 ∷ 7 ∷ 0x4000_0000 ∷ 4096 ∷ 0 ∷ 0 ∷ []) ∷ []

-- the machine during the loan
abbrev pub own_server_lent : Machine
own_server_lent = after_all own_server_send own_server_written

-- 2.3 returns the page
abbrev pub own_server_return : List Deed
own_server_return = Calls (id_of 2 3) (20 ∷ 1 ∷ 0x4000_0000 ∷ 4096 ∷ 0 ∷ 0 ∷ []) ∷ []

abbrev pub own_server_return_told : List What
own_server_return_told =
    Reply (id_of 2 2) (eight_words (18 ∷ 0 ∷ 0 ∷ [])) ∷ Reply (id_of 2 3) (eight_words (0 ∷ []))
    ∷ []

abbrev pub own_server_returned : Machine
own_server_returned = after_all own_server_return own_server_lent
