-- All or nothing: a send of pages of which one is on loan lends none of them. The identifier of the server is 1, 2, 3, 4.
use Rattle.std.specs.Prelude.{List, [], ◌∷◌}
use Rattle.xk_base.specs.declared.records.What.{What}
use Rattle.xk_base.specs.declared.records.What.TheVariants.{Reply}
use Rattle.syscall_codec.specs.ReplyWords.{eight_words}
use Rattle.machine_model.specs.State.Machine.{Machine}
use Rattle.machine_model.specs.Worked.Rows.{Deed, Calls, id_of, small_machine, after_all}

-- 2.2 waits. 3.2 makes a heap of four pages, and a second thread.
abbrev pub four_pages_begin : List Deed
four_pages_begin =
    Calls (id_of 2 2) (14 ∷ 1 ∷ 2 ∷ 3 ∷ 4 ∷ [])
    ∷ Calls (id_of 2 2) (15 ∷ 1 ∷ 2 ∷ 3 ∷ 4 ∷ [])
    ∷ Calls (id_of 3 2) (17 ∷ 1 ∷ 2 ∷ 3 ∷ 4 ∷ [])
    ∷ Calls (id_of 3 2) (10 ∷ 16384 ∷ [])
    ∷ Calls (id_of 3 2) (18 ∷ 65536 ∷ [])
    ∷ []

abbrev pub four_pages_begin_told : List What
four_pages_begin_told =
    Reply (id_of 2 2) (eight_words (19 ∷ 1 ∷ 2 ∷ 3 ∷ 4 ∷ 2 ∷ []))
    ∷ Reply (id_of 3 2) (eight_words (7 ∷ 2 ∷ []))
    ∷ Reply (id_of 3 2) (eight_words (3 ∷ 0x2000_0000 ∷ 16384 ∷ []))
    ∷ Reply (id_of 3 2) (eight_words (10 ∷ 3 ∷ []))
    ∷ []

-- 3.3 lends the last page, and 2.2 holds it. 3.2 sends all four, and is refused.
abbrev pub four_pages_refused : List Deed
four_pages_refused =
    Calls (id_of 3 3) (16 ∷ 2 ∷ 2 ∷ 7 ∷ 0x2000_3000 ∷ 4096 ∷ 0 ∷ 0 ∷ [])
    ∷ Calls (id_of 3 2) (16 ∷ 2 ∷ 2 ∷ 7 ∷ 0x2000_0000 ∷ 16384 ∷ 0 ∷ 0 ∷ [])
    ∷ []

abbrev pub four_pages_refused_told : List What
four_pages_refused_told =
    Reply (id_of 2 2) (9 ∷ 1 ∷ 2 ∷ 7 ∷ 0x4000_0000 ∷ 4096 ∷ 0 ∷ 0 ∷ [])
    ∷ Reply (id_of 3 2) (eight_words (1 ∷ 19 ∷ []))
    ∷ []

-- the machine after the refusal
abbrev pub after_refusal : Machine
after_refusal = after_all four_pages_refused (after_all four_pages_begin (small_machine 2))

-- 3.2 sends the other three, and 2.2 receives them
abbrev pub three_pages_row : List Deed
three_pages_row =
    Calls (id_of 3 2) (16 ∷ 2 ∷ 2 ∷ 7 ∷ 0x2000_0000 ∷ 12288 ∷ 0 ∷ 0 ∷ [])
    ∷ Calls (id_of 2 2) (15 ∷ 1 ∷ 2 ∷ 3 ∷ 4 ∷ [])
    ∷ []

abbrev pub three_pages_told : List What
three_pages_told = Reply (id_of 2 2) (9 ∷ 2 ∷ 2 ∷ 7 ∷ 0x4000_1000 ∷ 12288 ∷ 0 ∷ 0 ∷ []) ∷ []
