-- Who waits for the answer to which message, as messages say it and as threads do.
use Rattle.std.specs.Prelude.{◌≡◌, ℕ, ◌==◌, ◌&&◌, Bool, if◌then◌else◌, List, [], ◌∷◌, ◌++◌}
use Rattle.std.specs.List.{flat_map, count_by}
use Rattle.snapshot_rows.specs.declared.state.MessageRow.{MessageRow}
use Rattle.snapshot_rows.specs.declared.state.ServerRow.{ServerRow}
use Rattle.snapshot_rows.specs.declared.state.ThreadRow.{ThreadRow}
use Rattle.snapshot_matching.specs.declared.waits.Wait.{Wait}
use Rattle.snapshot_rows.specs.declared.states.TheConstants.{WAITING}

-- the sender of a message, where it has one, as a list of at most one
abbrev pub message_wait : MessageRow → List Wait
message_wait m = if m.sender_pid == 0 then [] else (record { pid = m.sender_pid; tid = m.sender_tid; number = m.number }) ∷ []

-- the senders of the messages of a server, queued and held
abbrev pub waits_of : ServerRow → List Wait
waits_of s = flat_map message_wait s.queued ++ flat_map message_wait s.held

-- a thread, where it is Waiting
abbrev pub thread_wait : ThreadRow → List Wait
thread_wait t = if t.state == WAITING then (record { pid = t.pid; tid = t.tid; number = t.waits }) ∷ [] else []

-- it is a wait of the thread of this pid and tid
abbrev pub is_wait_at : ℕ × ℕ → Wait → Bool
is_wait_at k w = w.pid == k.0 && w.tid == k.1

abbrev pub same_wait : Wait → Wait → Bool
same_wait a b = a.pid == b.pid && (a.tid == b.tid && a.number == b.number)

-- each stands equally often in both
abbrev pub HaveSameWaits : List Wait → List Wait → Type 0
HaveSameWaits said kept = (w : Wait) → count_by (same_wait w) said ≡ count_by (same_wait w) kept

-- .. and each test is passed equally often
abbrev pub AreAlikeWaits : List Wait → List Wait → Type 0
AreAlikeWaits said kept = (test : Wait → Bool) → count_by test said ≡ count_by test kept
