-- Rows of ForwardMessage: a server passes a lend on to a server of another process. The identifiers of the servers are 1, 2, 3, 4
-- and 5, 6, 7, 8.
use Rattle.std.specs.Prelude.{List, [], ◌∷◌, ◌++◌}
use Rattle.xk_base.specs.declared.records.What.TheVariants.{Reply, Gone}
use Rattle.syscall_codec.specs.ReplyWords.{eight_words}
use Rattle.machine_model.specs.Worked.Rows.{id_of, pid_of}
use Rattle.worked_examples.specs.Playing.{Line, calls, kills, stores_word}

-- 2.2 and 4.2 make a server each and wait there, 2.2 with the connection 3 to that of 4.2. 3.2 connects to that of 2.2.
abbrev pub two_servers_made : List Line
two_servers_made =
    calls (id_of 2 2) (14 ∷ 1 ∷ 2 ∷ 3 ∷ 4 ∷ []) (Reply (id_of 2 2) (eight_words (19 ∷ 1 ∷ 2 ∷ 3 ∷ 4 ∷ 2 ∷ [])) ∷ [])
    ∷ calls (id_of 4 2) (14 ∷ 5 ∷ 6 ∷ 7 ∷ 8 ∷ []) (Reply (id_of 4 2) (eight_words (19 ∷ 5 ∷ 6 ∷ 7 ∷ 8 ∷ 2 ∷ [])) ∷ [])
    ∷ calls (id_of 2 2) (17 ∷ 5 ∷ 6 ∷ 7 ∷ 8 ∷ []) (Reply (id_of 2 2) (eight_words (7 ∷ 3 ∷ [])) ∷ [])
    ∷ calls (id_of 3 2) (17 ∷ 1 ∷ 2 ∷ 3 ∷ 4 ∷ []) (Reply (id_of 3 2) (eight_words (7 ∷ 2 ∷ [])) ∷ [])
    ∷ calls (id_of 2 2) (15 ∷ 1 ∷ 2 ∷ 3 ∷ 4 ∷ []) []
    ∷ calls (id_of 4 2) (15 ∷ 5 ∷ 6 ∷ 7 ∷ 8 ∷ []) []
    ∷ []

-- 3.2 lends a page mutably, and 2.2 gets it
abbrev pub mutable_lend : List Line
mutable_lend =
    calls (id_of 3 2) (16 ∷ 2 ∷ 1 ∷ 7 ∷ 0x2000_0000 ∷ 4096 ∷ 0 ∷ 0 ∷ [])
    (Reply (id_of 2 2) (9 ∷ 1 ∷ 1 ∷ 7 ∷ 0x4000_0000 ∷ 4096 ∷ 0 ∷ 0 ∷ []) ∷ [])
    ∷ []

-- 2.2 passes it on, and 4.2 gets it
abbrev pub forward : List Line
forward =
    calls (id_of 2 2) (44 ∷ 1 ∷ 3 ∷ [])
    (Reply (id_of 2 2) (eight_words (0 ∷ [])) ∷ Reply (id_of 4 2) (9 ∷ 1 ∷ 1 ∷ 7 ∷ 0x4000_0000 ∷ 4096 ∷ 0 ∷ 0 ∷ []) ∷ [])
    ∷ []

-- 4.2 returns it with offset 3 and valid 4, and 3.2 gets both
abbrev pub forwarded_return : List Line
forwarded_return =
    calls (id_of 4 2) (20 ∷ 1 ∷ 0x4000_0000 ∷ 4096 ∷ 3 ∷ 4 ∷ [])
    (Reply (id_of 3 2) (eight_words (18 ∷ 3 ∷ 4 ∷ [])) ∷ Reply (id_of 4 2) (eight_words (0 ∷ [])) ∷ [])
    ∷ []

-- 4.2 connects to the server of 2.2, with the connection 3
abbrev pub connected_back : List Line
connected_back = calls (id_of 4 2) (17 ∷ 1 ∷ 2 ∷ 3 ∷ 4 ∷ []) (Reply (id_of 4 2) (eight_words (7 ∷ 3 ∷ [])) ∷ []) ∷ []

-- .. and passes the message back, which is queued there, since 2.2 doesn't wait
abbrev pub forward_back : List Line
forward_back = calls (id_of 4 2) (44 ∷ 1 ∷ 3 ∷ []) (Reply (id_of 4 2) (eight_words (0 ∷ [])) ∷ []) ∷ []

-- 2.2 receives it and returns it, and 3.2 stores to its page as before
abbrev pub returned_at_last : List Line
returned_at_last =
    calls (id_of 2 2) (15 ∷ 1 ∷ 2 ∷ 3 ∷ 4 ∷ []) (Reply (id_of 2 2) (9 ∷ 1 ∷ 1 ∷ 7 ∷ 0x4000_0000 ∷ 4096 ∷ 0 ∷ 0 ∷ []) ∷ [])
    ∷ calls (id_of 2 2) (20 ∷ 1 ∷ 0x4000_0000 ∷ 4096 ∷ 5 ∷ 6 ∷ [])
    (Reply (id_of 2 2) (eight_words (0 ∷ [])) ∷ Reply (id_of 3 2) (eight_words (18 ∷ 5 ∷ 6 ∷ [])) ∷ [])
    ∷ stores_word (id_of 3 2) 0x2000_0000 0x1122_3344 []
    ∷ []

-- once passed on, 2.2 holds the message no more, and 4.2 returns it
abbrev pub forward_row : List Line
forward_row = two_servers_made ++ (mutable_lend ++ (forward ++ (
    calls (id_of 2 2) (20 ∷ 1 ∷ 0x4000_0000 ∷ 4096 ∷ 0 ∷ 0 ∷ []) (Reply (id_of 2 2) (eight_words (1 ∷ 25 ∷ [])) ∷ [])
    ∷ forwarded_return)))

-- pid 2 dies after it passed the message on, which the loan and its lender don't notice
abbrev pub forwarder_killed_row : List Line
forwarder_killed_row = two_servers_made ++ (mutable_lend ++ (forward ++ (kills (pid_of 2) (Gone (pid_of 2) ∷ []) ∷ forwarded_return)))

-- the message is passed on and back
abbrev pub forward_back_row : List Line
forward_back_row = two_servers_made ++ (mutable_lend ++ (forward ++ (connected_back ++ (forward_back ++ returned_at_last))))

-- 2.2 can't pass on what it doesn't hold; nor by a connection that isn't there; nor to the server that holds the message
abbrev pub forward_refused_row : List Line
forward_refused_row = two_servers_made ++ (mutable_lend ++ (
    calls (id_of 2 2) (44 ∷ 2 ∷ 3 ∷ []) (Reply (id_of 2 2) (eight_words (1 ∷ 25 ∷ [])) ∷ [])
    ∷ calls (id_of 2 2) (44 ∷ 1 ∷ 4 ∷ []) (Reply (id_of 2 2) (eight_words (1 ∷ 9 ∷ [])) ∷ [])
    ∷ calls (id_of 2 2) (44 ∷ 1 ∷ 2 ∷ []) (Reply (id_of 2 2) (eight_words (1 ∷ 18 ∷ [])) ∷ [])
    ∷ []))
