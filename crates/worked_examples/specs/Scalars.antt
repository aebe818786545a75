-- Rows of scalars: an answer of two values, two threads that wait at a server, and a server without a free slot. The identifier of
-- the server is 1, 2, 3, 4.
use Rattle.std.specs.Prelude.{List, [], ◌∷◌, ◌++◌, replicate}
use Rattle.xk_base.specs.declared.records.What.TheVariants.{Reply, Retry}
use Rattle.syscall_codec.specs.ReplyWords.{eight_words}
use Rattle.machine_model.specs.Worked.Rows.{id_of}
use Rattle.worked_examples.specs.Playing.{Line, calls}

-- 2.2 makes the server, and 3.2 connects
abbrev pub server_made : List Line
server_made =
    calls (id_of 2 2) (14 ∷ 1 ∷ 2 ∷ 3 ∷ 4 ∷ []) (Reply (id_of 2 2) (eight_words (19 ∷ 1 ∷ 2 ∷ 3 ∷ 4 ∷ 2 ∷ [])) ∷ [])
    ∷ calls (id_of 3 2) (17 ∷ 1 ∷ 2 ∷ 3 ∷ 4 ∷ []) (Reply (id_of 3 2) (eight_words (7 ∷ 2 ∷ [])) ∷ [])
    ∷ []

-- 2.2 waits. 3.2 sends a blocking scalar, which 2.2 gets and answers by two values.
abbrev pub two_values_row : List Line
two_values_row = server_made ++ (
    calls (id_of 2 2) (15 ∷ 1 ∷ 2 ∷ 3 ∷ 4 ∷ []) []
    ∷ calls (id_of 3 2) (16 ∷ 2 ∷ 5 ∷ 7 ∷ 10 ∷ 11 ∷ 12 ∷ 13 ∷ []) (Reply (id_of 2 2) (9 ∷ 1 ∷ 5 ∷ 7 ∷ 10 ∷ 11 ∷ 12 ∷ 13 ∷ []) ∷ [])
    ∷ calls (id_of 2 2) (27 ∷ 1 ∷ 5 ∷ 6 ∷ [])
    (Reply (id_of 2 2) (eight_words (0 ∷ [])) ∷ Reply (id_of 3 2) (eight_words (15 ∷ 5 ∷ 6 ∷ [])) ∷ [])
    ∷ [])

-- 2.3 waits before 2.2 does. The first of two scalars goes to 2.2, which has the lesser tid.
abbrev pub two_receivers_row : List Line
two_receivers_row = server_made ++ (
    calls (id_of 2 2) (18 ∷ 65536 ∷ []) (Reply (id_of 2 2) (eight_words (10 ∷ 3 ∷ [])) ∷ [])
    ∷ calls (id_of 2 3) (15 ∷ 1 ∷ 2 ∷ 3 ∷ 4 ∷ []) []
    ∷ calls (id_of 2 2) (15 ∷ 1 ∷ 2 ∷ 3 ∷ 4 ∷ []) []
    ∷ calls (id_of 3 2) (16 ∷ 2 ∷ 4 ∷ 7 ∷ 10 ∷ 11 ∷ 12 ∷ 13 ∷ [])
    (Reply (id_of 2 2) (9 ∷ 1 ∷ 4 ∷ 7 ∷ 10 ∷ 11 ∷ 12 ∷ 13 ∷ []) ∷ Reply (id_of 3 2) (eight_words (0 ∷ [])) ∷ [])
    ∷ calls (id_of 3 2) (16 ∷ 2 ∷ 4 ∷ 8 ∷ [])
    (Reply (id_of 2 3) (9 ∷ 2 ∷ 4 ∷ 8 ∷ 0 ∷ 0 ∷ 0 ∷ 0 ∷ []) ∷ Reply (id_of 3 2) (eight_words (0 ∷ [])) ∷ [])
    ∷ [])

-- 3.2 waits on a blocking scalar, and 3.3 fills the other 127 slots with scalars. The next send is refused, or retried, also when
-- the blocking scalar was received, since what is held keeps its slot. Once it is returned, a send is accepted.
abbrev pub full_server_row : List Line
full_server_row = server_made ++ (
    calls (id_of 3 2) (18 ∷ 65536 ∷ []) (Reply (id_of 3 2) (eight_words (10 ∷ 3 ∷ [])) ∷ [])
    ∷ calls (id_of 3 2) (16 ∷ 2 ∷ 5 ∷ 7 ∷ []) []
    ∷ (replicate 127 (calls (id_of 3 3) (24 ∷ 2 ∷ 4 ∷ 8 ∷ []) (Reply (id_of 3 3) (eight_words (0 ∷ [])) ∷ [])) ++ (
    calls (id_of 3 3) (24 ∷ 2 ∷ 4 ∷ 8 ∷ []) (Reply (id_of 3 3) (eight_words (1 ∷ 15 ∷ [])) ∷ [])
    ∷ calls (id_of 3 3) (16 ∷ 2 ∷ 4 ∷ 8 ∷ []) (Retry (id_of 3 3) ∷ [])
    ∷ calls (id_of 2 2) (15 ∷ 1 ∷ 2 ∷ 3 ∷ 4 ∷ []) (Reply (id_of 2 2) (9 ∷ 1 ∷ 5 ∷ 7 ∷ 0 ∷ 0 ∷ 0 ∷ 0 ∷ []) ∷ [])
    ∷ calls (id_of 3 3) (16 ∷ 2 ∷ 4 ∷ 8 ∷ []) (Retry (id_of 3 3) ∷ [])
    ∷ calls (id_of 2 2) (26 ∷ 1 ∷ 5 ∷ [])
    (Reply (id_of 2 2) (eight_words (0 ∷ [])) ∷ Reply (id_of 3 2) (eight_words (14 ∷ 5 ∷ [])) ∷ [])
    ∷ calls (id_of 3 3) (16 ∷ 2 ∷ 4 ∷ 8 ∷ []) (Reply (id_of 3 3) (eight_words (0 ∷ [])) ∷ [])
    ∷ [])))
