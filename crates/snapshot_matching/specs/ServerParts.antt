-- What the invariant of the machine asks of servers and their messages, as tests of the rows.
use Rattle.std.specs.Prelude.{ℕ, ◌+◌, ◌≤◌, ◌==◌, ◌&&◌, ◌||◌, not, nat_le, nat_lt, nat_eq, if◌then◌else◌, Bool, List, ◌++◌, length, map}
use Rattle.std.specs.Cmp.Lexicographic.{pointwise}
use Rattle.std.specs.List.{list_all, flat_map, count_by}
use Rattle.snapshot_rows.specs.declared.state.MessageRow.{MessageRow}
use Rattle.snapshot_rows.specs.declared.state.ProcRow.{ProcRow}
use Rattle.snapshot_rows.specs.declared.state.ServerRow.{ServerRow}
use Rattle.snapshot_rows.specs.Machines.{processes_of}
use Rattle.xk_base.specs.declared.limits.TheConstants.{SERVER_LIMIT}

-- a server of a living process
abbrev pub is_server_living : List ProcRow → ServerRow → Bool
is_server_living procs s = (processes_of procs s.pid).alive

-- every message of it, queued or held, has one of 128 slots
abbrev pub has_slots : ServerRow → Bool
has_slots s = nat_le (length s.queued + length s.held) 128

-- they are one server, or have two identifiers
abbrev pub is_apart : ServerRow → ServerRow → Bool
is_apart s t = s.serial == t.serial || not (pointwise nat_eq s.sid t.sid)

-- all messages of a server pass a test
abbrev pub all_messages : (MessageRow → Bool) → ServerRow → Bool
all_messages good s = list_all good s.queued && list_all good s.held

-- its serial is below the next one, and the numbers of its messages below the next number
abbrev pub is_below_next : ℕ → ℕ → ServerRow → Bool
is_below_next number serial s = nat_lt s.serial serial && all_messages (λ m. nat_lt m.number number) s

-- all serials of a process's connections are below the next one
abbrev pub leads_below : ℕ → ProcRow → Bool
leads_below serial p = list_all (λ s. nat_lt s serial) p.serials

-- ---- messages among all

-- a message of this number, and as that of a thread, which is its sender
abbrev pub is_numbered : ℕ → MessageRow → Bool
is_numbered number m = m.number == number

abbrev pub is_sent_as : ℕ → ℕ → ℕ → MessageRow → Bool
is_sent_as number pid tid m = m.number == number && (not (m.sender_pid == 0) && (pid == m.sender_pid && tid == m.sender_tid))

-- .. and as a lend or mutable lend
abbrev pub is_lent_by : ℕ → MessageRow → Bool
is_lent_by number m = m.number == number && (m.kind == 1 || m.kind == 2)

-- how many messages of a server pass a test
abbrev pub many_at : (MessageRow → Bool) → ServerRow → ℕ
many_at good s = count_by good s.queued + count_by good s.held

-- the messages of a server, queued and held
abbrev pub messages_at : ServerRow → List MessageRow
messages_at s = s.queued ++ s.held

-- no number is that of two messages of all servers
abbrev pub AreMessagesApart : List ServerRow → Type 0
AreMessagesApart rows = (number : ℕ) → count_by (is_numbered number) (flat_map messages_at rows) ≤ 1

-- the number of a message as a key of two numbers, and those of a server's messages
abbrev pub message_key : MessageRow → ℕ × ℕ
message_key m = (m.number, 0)

abbrev pub message_keys : ServerRow → List (ℕ × ℕ)
message_keys s = map message_key s.queued ++ map message_key s.held

-- there are few servers, with slots for their messages, of living processes, and no two have one identifier
abbrev pub are_few_apart : List ProcRow → List ServerRow → Bool
are_few_apart procs rows =
    nat_le (length rows) SERVER_LIMIT
    && (list_all has_slots rows && (list_all (is_server_living procs) rows && list_all (λ s. list_all (is_apart s) rows) rows))

-- ---- senders

-- it is to be answered: a lend of either kind or a blocking scalar
abbrev pub is_to_answer : MessageRow → Bool
is_to_answer m = m.kind == 1 || (m.kind == 2 || m.kind == 5)

-- it has a sender exactly where it is to be answered
abbrev pub is_queueable : MessageRow → Bool
is_queueable m = if m.sender_pid == 0 then not (is_to_answer m) else is_to_answer m

-- it carries pages, or has no first page and no count
abbrev pub is_sized : MessageRow → Bool
is_sized m = m.kind == 1 || (m.kind == 2 || (m.kind == 3 || (m.first == 0 && m.count == 0)))

-- the messages of a server are queued, held and sized as their kinds say
abbrev pub are_messages_right : ServerRow → Bool
are_messages_right s = list_all is_queueable s.queued && (list_all is_to_answer s.held && all_messages is_sized s)
