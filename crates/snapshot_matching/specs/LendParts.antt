-- Lends, as their messages say them and as runs of pages on loan do.
use Rattle.std.specs.Prelude.{◌≡◌, ℕ, ◌+◌, ◌==◌, ◌&&◌, ◌||◌, not, Bool, true, false, if◌then◌else◌, List, [], ◌∷◌, ◌++◌}
use Rattle.std.specs.Bool.{beq}
use Rattle.std.specs.List.{flat_map, count_by}
use Rattle.snapshot_rows.specs.declared.state.MessageRow.{MessageRow}
use Rattle.snapshot_rows.specs.declared.state.ServerRow.{ServerRow}
use Rattle.snapshot_matching.specs.declared.lends.Lend.{Lend}
use Rattle.snapshot_rows.specs.declared.runs.Run.{Run}

-- a message at a server of a process, where it is a lend or mutable lend, as a list of at most one
abbrev pub message_lend : ℕ → MessageRow → List Lend
message_lend pid m =
    if m.kind == 1 || m.kind == 2 then (record {
      number = m.number;
      shared = m.kind == 2;
      is_lent = not (m.sender_pid == 0);
      lender = m.sender_pid;
      holder = pid;
      first = m.first;
      end = m.first + m.count;
    }) ∷ [] else []

-- the lends of a server, queued and held
abbrev pub lends_of : ServerRow → List Lend
lends_of s = flat_map (message_lend s.pid) s.queued ++ flat_map (message_lend s.pid) s.held

-- the lend of a run of pages that a process lends
abbrev pub loan_lend : Run → Lend
loan_lend r = record {
  number = r.number;
  shared = r.shared;
  is_lent = true;
  lender = r.pid;
  holder = r.holder_pid;
  first = r.holder_page;
  end = r.end;
}

-- .. and of a run of orphans
abbrev pub orphan_lend : Run → Lend
orphan_lend r = record {
  number = r.number;
  shared = r.shared;
  is_lent = false;
  lender = 0;
  holder = r.holder_pid;
  first = r.holder_page;
  end = r.end;
}

abbrev pub is_lend_numbered : ℕ → Lend → Bool
is_lend_numbered number l = l.number == number

-- they are one lend
abbrev pub same_lend : Lend → Lend → Bool
same_lend a b =
    a.number == b.number && (beq a.shared b.shared && (beq a.is_lent b.is_lent
    && (a.lender == b.lender && (a.holder == b.holder && (a.first == b.first && a.end == b.end)))))

-- each lend stands equally often in both
abbrev pub HaveSame : List Lend → List Lend → Type 0
HaveSame said made = (l : Lend) → count_by (same_lend l) said ≡ count_by (same_lend l) made

-- .. and each test is passed equally often
abbrev pub AreAlike : List Lend → List Lend → Type 0
AreAlike said made = (test : Lend → Bool) → count_by test said ≡ count_by test made
