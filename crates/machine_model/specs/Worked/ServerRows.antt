-- Worked rows of servers, scalars, deaths and interrupts. The identifier of the server is 1, 2, 3, 4; pid 2 makes it where not
-- said otherwise.
use Rattle.std.specs.Prelude.{List, [], ◌∷◌, ◌++◌, replicate}
use Rattle.xk_base.specs.declared.records.What.{What}
use Rattle.xk_base.specs.declared.records.What.TheVariants.{Reply, Retry, Irq, Gone}
use Rattle.syscall_codec.specs.ReplyWords.{eight_words}
use Rattle.machine_model.specs.Worked.Rows.{Deed, Calls, Raises, EndsHandler, Kills, pid_of, id_of}

-- 2.2 claims interrupt 4, with argument 9. It comes, and twice more while its handler runs; then the handler ends twice.
abbrev pub pending_row : List Deed
pending_row =
    Calls (id_of 2 2) (5 ∷ 4 ∷ 65536 ∷ 9 ∷ [])
    ∷ Raises 4 ∷ Raises 4 ∷ Raises 4
    ∷ EndsHandler (pid_of 2) ∷ EndsHandler (pid_of 2)
    ∷ []

abbrev pub pending_told : List What
pending_told = Reply (id_of 2 2) (eight_words (0 ∷ [])) ∷ Irq (pid_of 2) 4 ∷ Irq (pid_of 2) 4 ∷ []

-- 3.2 connects and sends a blocking scalar, which 2.2 receives and answers; a second answer is refused.
abbrev pub scalar_row : List Deed
scalar_row =
    Calls (id_of 2 2) (14 ∷ 1 ∷ 2 ∷ 3 ∷ 4 ∷ [])
    ∷ Calls (id_of 3 2) (17 ∷ 1 ∷ 2 ∷ 3 ∷ 4 ∷ [])
    ∷ Calls (id_of 3 2) (16 ∷ 2 ∷ 5 ∷ 7 ∷ 10 ∷ 11 ∷ 12 ∷ 13 ∷ [])
    ∷ Calls (id_of 2 2) (15 ∷ 1 ∷ 2 ∷ 3 ∷ 4 ∷ [])
    ∷ Calls (id_of 2 2) (26 ∷ 1 ∷ 99 ∷ [])
    ∷ Calls (id_of 2 2) (26 ∷ 1 ∷ 99 ∷ [])
    ∷ []

abbrev pub scalar_told : List What
scalar_told =
    Reply (id_of 2 2) (eight_words (19 ∷ 1 ∷ 2 ∷ 3 ∷ 4 ∷ 2 ∷ []))
    ∷ Reply (id_of 3 2) (eight_words (7 ∷ 2 ∷ []))
    ∷ Reply (id_of 2 2) (9 ∷ 1 ∷ 5 ∷ 7 ∷ 10 ∷ 11 ∷ 12 ∷ 13 ∷ [])
    ∷ Reply (id_of 2 2) (eight_words (0 ∷ [])) ∷ Reply (id_of 3 2) (eight_words (14 ∷ 99 ∷ []))
    ∷ Reply (id_of 2 2) (eight_words (1 ∷ 25 ∷ []))
    ∷ []

-- 3.2 connects before there is a server, and again once there is. 2.2 waits, and gets a scalar in the step of its send.
abbrev pub waiting_row : List Deed
waiting_row =
    Calls (id_of 3 2) (17 ∷ 1 ∷ 2 ∷ 3 ∷ 4 ∷ [])
    ∷ Calls (id_of 3 2) (25 ∷ 1 ∷ 2 ∷ 3 ∷ 4 ∷ [])
    ∷ Calls (id_of 2 2) (14 ∷ 1 ∷ 2 ∷ 3 ∷ 4 ∷ [])
    ∷ Calls (id_of 2 2) (28 ∷ 1 ∷ 2 ∷ 3 ∷ 4 ∷ [])
    ∷ Calls (id_of 2 2) (15 ∷ 1 ∷ 2 ∷ 3 ∷ 4 ∷ [])
    ∷ Calls (id_of 3 2) (17 ∷ 1 ∷ 2 ∷ 3 ∷ 4 ∷ [])
    ∷ Calls (id_of 3 2) (16 ∷ 2 ∷ 4 ∷ 7 ∷ 10 ∷ 11 ∷ 12 ∷ 13 ∷ [])
    ∷ []

abbrev pub waiting_told : List What
waiting_told =
    Retry (id_of 3 2)
    ∷ Reply (id_of 3 2) (eight_words (1 ∷ 9 ∷ []))
    ∷ Reply (id_of 2 2) (eight_words (19 ∷ 1 ∷ 2 ∷ 3 ∷ 4 ∷ 2 ∷ []))
    ∷ Reply (id_of 2 2) (eight_words (0 ∷ []))
    ∷ Reply (id_of 3 2) (eight_words (7 ∷ 2 ∷ []))
    ∷ Reply (id_of 2 2) (9 ∷ 1 ∷ 4 ∷ 7 ∷ 10 ∷ 11 ∷ 12 ∷ 13 ∷ []) ∷ Reply (id_of 3 2) (eight_words (0 ∷ []))
    ∷ []

-- Pid 2 dies while 3.2 waits on a queued blocking scalar. Pid 4 makes a server under the same identifier: the old connection
-- doesn't lead there.
abbrev pub stale_row : List Deed
stale_row =
    Calls (id_of 2 2) (14 ∷ 1 ∷ 2 ∷ 3 ∷ 4 ∷ [])
    ∷ Calls (id_of 3 2) (17 ∷ 1 ∷ 2 ∷ 3 ∷ 4 ∷ [])
    ∷ Calls (id_of 3 2) (16 ∷ 2 ∷ 5 ∷ [])
    ∷ Kills (pid_of 2) ∷ Kills (pid_of 2) ∷ Kills (pid_of 1)
    ∷ Calls (id_of 4 2) (14 ∷ 1 ∷ 2 ∷ 3 ∷ 4 ∷ [])
    ∷ Calls (id_of 3 2) (16 ∷ 2 ∷ 4 ∷ [])
    ∷ Calls (id_of 3 2) (17 ∷ 1 ∷ 2 ∷ 3 ∷ 4 ∷ [])
    ∷ Calls (id_of 3 2) (16 ∷ 3 ∷ 4 ∷ [])
    ∷ []

abbrev pub stale_told : List What
stale_told =
    Reply (id_of 2 2) (eight_words (19 ∷ 1 ∷ 2 ∷ 3 ∷ 4 ∷ 2 ∷ []))
    ∷ Reply (id_of 3 2) (eight_words (7 ∷ 2 ∷ []))
    ∷ Reply (id_of 3 2) (eight_words (1 ∷ 9 ∷ [])) ∷ Gone (pid_of 2)
    ∷ Reply (id_of 4 2) (eight_words (19 ∷ 1 ∷ 2 ∷ 3 ∷ 4 ∷ 2 ∷ []))
    ∷ Reply (id_of 3 2) (eight_words (1 ∷ 9 ∷ []))
    ∷ Reply (id_of 3 2) (eight_words (7 ∷ 3 ∷ []))
    ∷ Reply (id_of 3 2) (eight_words (0 ∷ []))
    ∷ []

-- 3.2 dies while 2.2 holds its blocking scalar: the answer goes to nobody, and is the last.
abbrev pub senderless_row : List Deed
senderless_row =
    Calls (id_of 2 2) (14 ∷ 1 ∷ 2 ∷ 3 ∷ 4 ∷ [])
    ∷ Calls (id_of 3 2) (17 ∷ 1 ∷ 2 ∷ 3 ∷ 4 ∷ [])
    ∷ Calls (id_of 3 2) (16 ∷ 2 ∷ 5 ∷ [])
    ∷ Calls (id_of 2 2) (15 ∷ 1 ∷ 2 ∷ 3 ∷ 4 ∷ [])
    ∷ Kills (pid_of 3)
    ∷ Calls (id_of 2 2) (27 ∷ 1 ∷ [])
    ∷ Calls (id_of 2 2) (27 ∷ 1 ∷ [])
    ∷ Calls (id_of 2 2) (41 ∷ 1 ∷ 2 ∷ 3 ∷ 4 ∷ [])
    ∷ Calls (id_of 2 2) (28 ∷ 1 ∷ 2 ∷ 3 ∷ 4 ∷ [])
    ∷ []

abbrev pub senderless_told : List What
senderless_told =
    Reply (id_of 2 2) (eight_words (19 ∷ 1 ∷ 2 ∷ 3 ∷ 4 ∷ 2 ∷ []))
    ∷ Reply (id_of 3 2) (eight_words (7 ∷ 2 ∷ []))
    ∷ Reply (id_of 2 2) (9 ∷ 1 ∷ 5 ∷ 0 ∷ 0 ∷ 0 ∷ 0 ∷ 0 ∷ [])
    ∷ Gone (pid_of 3)
    ∷ Reply (id_of 2 2) (eight_words (0 ∷ []))
    ∷ Reply (id_of 2 2) (eight_words (1 ∷ 25 ∷ []))
    ∷ Reply (id_of 2 2) (eight_words (0 ∷ []))
    ∷ Reply (id_of 2 2) (eight_words (1 ∷ 9 ∷ []))
    ∷ []

-- 4.2, 3.3, 3.2 and 2.3, a thread of the server's own process, wait on blocking scalars, of which 2.2 received the first. Pid 2
-- dies: they are answered in ascending order, that of the dying process too.
abbrev pub kill_row : List Deed
kill_row =
    Calls (id_of 2 2) (14 ∷ 1 ∷ 2 ∷ 3 ∷ 4 ∷ [])
    ∷ Calls (id_of 2 2) (18 ∷ 65536 ∷ [])
    ∷ Calls (id_of 3 2) (17 ∷ 1 ∷ 2 ∷ 3 ∷ 4 ∷ [])
    ∷ Calls (id_of 3 2) (18 ∷ 65536 ∷ [])
    ∷ Calls (id_of 4 2) (17 ∷ 1 ∷ 2 ∷ 3 ∷ 4 ∷ [])
    ∷ Calls (id_of 4 2) (16 ∷ 2 ∷ 5 ∷ [])
    ∷ Calls (id_of 3 3) (16 ∷ 2 ∷ 5 ∷ [])
    ∷ Calls (id_of 3 2) (16 ∷ 2 ∷ 5 ∷ [])
    ∷ Calls (id_of 2 3) (16 ∷ 2 ∷ 5 ∷ [])
    ∷ Calls (id_of 2 2) (15 ∷ 1 ∷ 2 ∷ 3 ∷ 4 ∷ [])
    ∷ Kills (pid_of 2)
    ∷ []

abbrev pub kill_told : List What
kill_told =
    Reply (id_of 2 2) (eight_words (19 ∷ 1 ∷ 2 ∷ 3 ∷ 4 ∷ 2 ∷ []))
    ∷ Reply (id_of 2 2) (eight_words (10 ∷ 3 ∷ []))
    ∷ Reply (id_of 3 2) (eight_words (7 ∷ 2 ∷ []))
    ∷ Reply (id_of 3 2) (eight_words (10 ∷ 3 ∷ []))
    ∷ Reply (id_of 4 2) (eight_words (7 ∷ 2 ∷ []))
    ∷ Reply (id_of 2 2) (9 ∷ 1 ∷ 5 ∷ 0 ∷ 0 ∷ 0 ∷ 0 ∷ 0 ∷ [])
    ∷ Reply (id_of 2 3) (eight_words (1 ∷ 9 ∷ []))
    ∷ Reply (id_of 3 2) (eight_words (1 ∷ 9 ∷ []))
    ∷ Reply (id_of 3 3) (eight_words (1 ∷ 9 ∷ []))
    ∷ Reply (id_of 4 2) (eight_words (1 ∷ 9 ∷ []))
    ∷ Gone (pid_of 2)
    ∷ []

-- 3.2 fills the server with 128 scalars. Another is refused, or retried, until one is received.
abbrev pub full_row : List Deed
full_row =
    Calls (id_of 2 2) (14 ∷ 1 ∷ 2 ∷ 3 ∷ 4 ∷ [])
    ∷ Calls (id_of 3 2) (17 ∷ 1 ∷ 2 ∷ 3 ∷ 4 ∷ [])
    ∷ (replicate 128 (Calls (id_of 3 2) (24 ∷ 2 ∷ 4 ∷ 7 ∷ [])) ++ (
    Calls (id_of 3 2) (24 ∷ 2 ∷ 4 ∷ 7 ∷ [])
    ∷ Calls (id_of 3 2) (16 ∷ 2 ∷ 4 ∷ 7 ∷ [])
    ∷ Calls (id_of 2 2) (15 ∷ 1 ∷ 2 ∷ 3 ∷ 4 ∷ [])
    ∷ Calls (id_of 3 2) (16 ∷ 2 ∷ 4 ∷ 7 ∷ [])
    ∷ Calls (id_of 3 2) (24 ∷ 2 ∷ 4 ∷ 7 ∷ [])
    ∷ []))

abbrev pub full_told : List What
full_told =
    Reply (id_of 2 2) (eight_words (19 ∷ 1 ∷ 2 ∷ 3 ∷ 4 ∷ 2 ∷ []))
    ∷ Reply (id_of 3 2) (eight_words (7 ∷ 2 ∷ []))
    ∷ (replicate 128 (Reply (id_of 3 2) (eight_words (0 ∷ []))) ++ (
    Reply (id_of 3 2) (eight_words (1 ∷ 15 ∷ []))
    ∷ Retry (id_of 3 2)
    ∷ Reply (id_of 2 2) (9 ∷ 1 ∷ 4 ∷ 7 ∷ 0 ∷ 0 ∷ 0 ∷ 0 ∷ [])
    ∷ Reply (id_of 3 2) (eight_words (0 ∷ []))
    ∷ Reply (id_of 3 2) (eight_words (1 ∷ 15 ∷ []))
    ∷ []))

-- 3.2 frees an interrupt that it hasn't claimed; claims one that isn't there, and one with a handler inside an instruction. 2.2
-- claims interrupt 4, 3.2 can neither claim nor free it, and the interrupt thread can't wait for a message.
abbrev pub interrupt_row : List Deed
interrupt_row =
    Calls (id_of 3 2) (6 ∷ 4 ∷ [])
    ∷ Calls (id_of 3 2) (5 ∷ 32 ∷ 0x10000 ∷ 0 ∷ [])
    ∷ Calls (id_of 3 2) (5 ∷ 4 ∷ 0x10002 ∷ 0 ∷ [])
    ∷ Calls (id_of 2 2) (5 ∷ 4 ∷ 0x10000 ∷ 0 ∷ [])
    ∷ Calls (id_of 3 2) (5 ∷ 4 ∷ 0x10000 ∷ 0 ∷ [])
    ∷ Calls (id_of 3 2) (6 ∷ 4 ∷ [])
    ∷ Calls (id_of 2 1) (15 ∷ 1 ∷ 2 ∷ 3 ∷ 4 ∷ [])
    ∷ Calls (id_of 2 2) (6 ∷ 4 ∷ [])
    ∷ []

abbrev pub interrupt_told : List What
interrupt_told =
    Reply (id_of 3 2) (eight_words (1 ∷ 5 ∷ []))
    ∷ Reply (id_of 3 2) (eight_words (1 ∷ 5 ∷ []))
    ∷ Reply (id_of 3 2) (eight_words (1 ∷ 1 ∷ []))
    ∷ Reply (id_of 2 2) (eight_words (0 ∷ []))
    ∷ Reply (id_of 3 2) (eight_words (1 ∷ 6 ∷ []))
    ∷ Reply (id_of 3 2) (eight_words (1 ∷ 5 ∷ []))
    ∷ Reply (id_of 2 1) (eight_words (1 ∷ 18 ∷ []))
    ∷ Reply (id_of 2 2) (eight_words (0 ∷ []))
    ∷ []

-- 2.2 holds a blocking scalar of 3.2, which dies: it is returned once. Then 2.3 waits at the server, and 2.2 destroys it.
abbrev pub death_row : List Deed
death_row =
    Calls (id_of 2 2) (14 ∷ 1 ∷ 2 ∷ 3 ∷ 4 ∷ [])
    ∷ Calls (id_of 2 2) (18 ∷ 65536 ∷ [])
    ∷ Calls (id_of 3 2) (17 ∷ 1 ∷ 2 ∷ 3 ∷ 4 ∷ [])
    ∷ Calls (id_of 3 2) (16 ∷ 2 ∷ 5 ∷ [])
    ∷ Calls (id_of 2 2) (15 ∷ 1 ∷ 2 ∷ 3 ∷ 4 ∷ [])
    ∷ Kills (pid_of 3)
    ∷ Calls (id_of 2 2) (26 ∷ 1 ∷ 5 ∷ [])
    ∷ Calls (id_of 2 2) (26 ∷ 1 ∷ 5 ∷ [])
    ∷ Calls (id_of 2 3) (15 ∷ 1 ∷ 2 ∷ 3 ∷ 4 ∷ [])
    ∷ Calls (id_of 2 2) (41 ∷ 1 ∷ 2 ∷ 3 ∷ 4 ∷ [])
    ∷ []

abbrev pub death_told : List What
death_told =
    Reply (id_of 2 2) (eight_words (19 ∷ 1 ∷ 2 ∷ 3 ∷ 4 ∷ 2 ∷ []))
    ∷ Reply (id_of 2 2) (eight_words (10 ∷ 3 ∷ []))
    ∷ Reply (id_of 3 2) (eight_words (7 ∷ 2 ∷ []))
    ∷ Reply (id_of 2 2) (9 ∷ 1 ∷ 5 ∷ 0 ∷ 0 ∷ 0 ∷ 0 ∷ 0 ∷ [])
    ∷ Gone (pid_of 3)
    ∷ Reply (id_of 2 2) (eight_words (0 ∷ []))
    ∷ Reply (id_of 2 2) (eight_words (1 ∷ 25 ∷ []))
    ∷ Reply (id_of 2 2) (eight_words (0 ∷ [])) ∷ Reply (id_of 2 3) (eight_words (1 ∷ 9 ∷ []))
    ∷ []
