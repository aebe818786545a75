-- Read-only page. The identifier of the server is 1, 2, 3, 4.
use Rattle.std.specs.Prelude.{List, [], ◌∷◌, ◌++◌}
use Rattle.xk_base.specs.declared.pages.Width.TheVariants.{Word}
use Rattle.xk_base.specs.declared.records.What.{What}
use Rattle.xk_base.specs.declared.records.What.TheVariants.{Reply}
use Rattle.syscall_codec.specs.ReplyWords.{eight_words}
use Rattle.machine_model.specs.Worked.LendRows.{lend_begin}
use Rattle.machine_model.specs.State.Machine.{Machine}
use Rattle.machine_model.specs.Worked.Rows.{Deed, Calls, pid_of, id_of, small_machine, after_all}
use Rattle.machine_model.specs.State.Views.{stored}

-- As in the row of a lend, 2.2 waits at its server and 3.2 has a heap of one page. 3.2 stores a word there.
abbrev pub read_only_written : Machine
read_only_written = stored (pid_of 3) 0x2000_0000 Word 0x1122_3344 (after_all lend_begin (small_machine 2))

-- It gives up W at the page.
abbrev pub read_only_reduce : List Deed
read_only_reduce = Calls (id_of 3 2) (12 ∷ 0x2000_0000 ∷ 4096 ∷ 2 ∷ []) ∷ []

abbrev pub read_only_reduce_told : List What
read_only_reduce_told = Reply (id_of 3 2) (eight_words (0 ∷ [])) ∷ []

-- It lends the page, and 2.2 gets it in that step
abbrev pub read_only_send : List Deed
read_only_send = Calls (id_of 3 2) (16 ∷ 2 ∷ 2 ∷ 7 ∷ 0x2000_0000 ∷ 4096 ∷ 0 ∷ 0 ∷ []) ∷ []

-- .. and returns it
abbrev pub read_only_return : List Deed
read_only_return = Calls (id_of 2 2) (20 ∷ 1 ∷ 0x4000_0000 ∷ 4096 ∷ 0 ∷ 0 ∷ []) ∷ []

abbrev pub read_only_row : List Deed
read_only_row = read_only_send ++ read_only_return

abbrev pub read_only_told : List What
read_only_told =
    Reply (id_of 2 2) (9 ∷ 1 ∷ 2 ∷ 7 ∷ 0x4000_0000 ∷ 4096 ∷ 0 ∷ 0 ∷ [])
    ∷ Reply (id_of 2 2) (eight_words (0 ∷ [])) ∷ Reply (id_of 3 2) (eight_words (18 ∷ 0 ∷ 0 ∷ []))
    ∷ []

-- the machine before the loan, during it and after the return
abbrev pub read_only_reduced : Machine
read_only_reduced = after_all read_only_reduce read_only_written

abbrev pub read_only_lent : Machine
read_only_lent = after_all read_only_send read_only_reduced

abbrev pub read_only_returned : Machine
read_only_returned = after_all read_only_row read_only_reduced
