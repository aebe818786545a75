-- The worked row of the ends of the Map window.
use Rattle.std.specs.Prelude.{List, [], ◌∷◌}
use Rattle.xk_base.specs.declared.records.What.{What}
use Rattle.xk_base.specs.declared.records.What.TheVariants.{Reply}
use Rattle.syscall_codec.specs.ReplyWords.{eight_words}
use Rattle.machine_model.specs.Worked.Rows.{Deed, Calls, id_of}

-- The ends of the Map window, by 2.2: its last page is mapped; two pages from there on leave it; a size of 0; flags without R, and
-- an unknown flag; the page that is mapped already.
abbrev pub map_row : List Deed
map_row =
    Calls (id_of 2 2) (2 ∷ 0 ∷ 0x60FF_F000 ∷ 4096 ∷ 6 ∷ [])
    ∷ Calls (id_of 2 2) (2 ∷ 0 ∷ 0x60FF_F000 ∷ 8192 ∷ 6 ∷ [])
    ∷ Calls (id_of 2 2) (2 ∷ 0 ∷ 0x60FF_F000 ∷ 0 ∷ 6 ∷ [])
    ∷ Calls (id_of 2 2) (2 ∷ 0 ∷ 0x60FF_F000 ∷ 4096 ∷ 4 ∷ [])
    ∷ Calls (id_of 2 2) (2 ∷ 0 ∷ 0x60FF_F000 ∷ 4096 ∷ 32 ∷ [])
    ∷ Calls (id_of 2 2) (2 ∷ 0 ∷ 0x60FF_F000 ∷ 4096 ∷ 6 ∷ [])
    ∷ []

abbrev pub map_told : List What
map_told =
    Reply (id_of 2 2) (eight_words (3 ∷ 0x60FF_F000 ∷ 4096 ∷ []))
    ∷ Reply (id_of 2 2) (eight_words (1 ∷ 2 ∷ []))
    ∷ Reply (id_of 2 2) (eight_words (1 ∷ 1 ∷ []))
    ∷ Reply (id_of 2 2) (eight_words (1 ∷ 18 ∷ []))
    ∷ Reply (id_of 2 2) (eight_words (1 ∷ 18 ∷ []))
    ∷ Reply (id_of 2 2) (eight_words (1 ∷ 4 ∷ []))
    ∷ []
