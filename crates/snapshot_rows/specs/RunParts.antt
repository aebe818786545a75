-- Runs of pages on loan, told from the rows: what the invariant of the machine asks of the loans of one number.
use Rattle.std.specs.Prelude.{ℕ, ◌+◌, ◌≤◌, ◌==◌, ◌&&◌, Bool, if◌then◌else◌, List, [], ◌∷◌, map}
use Rattle.std.specs.Bool.{beq}
use Rattle.std.specs.List.{flat_map, count_by}
use Rattle.xk_base.specs.declared.ids.Number.{Number}
use Rattle.ledger_model.specs.Lawful.{IsOneRun}
use Rattle.ledger_model.specs.Ledger.{Ledger}
use Rattle.snapshot_rows.specs.declared.state.OrphanRow.{OrphanRow}
use Rattle.snapshot_rows.specs.declared.state.PageRow.{PageRow}
use Rattle.snapshot_rows.specs.declared.runs.Run.{Run}

-- ---- one page on loan is a run of one

-- a page, where it is on loan, as a list of at most one
abbrev pub run_of : PageRow → List Run
run_of p =
    if p.kind == 0 then [] else (record {
      pid = p.pid;
      page = p.page;
      holder_pid = p.holder_pid;
      holder_page = p.holder_page;
      end = p.holder_page + 1;
      shared = p.kind == 1;
      number = p.number;
    }) ∷ []

-- an orphan has its holder's place alone
abbrev pub orphan_run : OrphanRow → Run
orphan_run o = record {
  pid = o.pid;
  page = o.page;
  holder_pid = o.pid;
  holder_page = o.page;
  end = o.page + 1;
  shared = o.kind == 1;
  number = o.number;
}

-- ---- pages side by side are one run

-- a page stands right before a run of its loan, at its home and at its holder's
abbrev pub is_followed_by : Run → Run → Bool
is_followed_by r s =
    (r.pid == s.pid && (r.page + 1 == s.page))
    && ((r.holder_pid == s.holder_pid && (r.end == s.holder_page)) && (beq r.shared s.shared && r.number == s.number))

-- a page in front of runs joins the first, where that follows it
abbrev pub join : Run → List Run → List Run
join r [] = r ∷ []
join r (s ∷ ss) = if is_followed_by r s then record r { end = s.end } ∷ ss else r ∷ s ∷ ss

abbrev pub joined : List Run → List Run
joined [] = []
joined (r ∷ rs) = join r (joined rs)

-- the runs of pages on loan, and of orphans, in order of their places
abbrev pub loan_runs : List PageRow → List Run
loan_runs pages = joined (flat_map run_of pages)

abbrev pub orphan_runs : List OrphanRow → List Run
orphan_runs orphans = joined (map orphan_run orphans)

-- ---- numbers of runs

abbrev pub is_run_of : ℕ → Run → Bool
is_run_of number r = r.number == number

-- no number is that of two runs
abbrev pub AreNumbersApart : List Run → List Run → Type 0
AreNumbersApart loans orphans = (number : ℕ) → count_by (is_run_of number) loans + count_by (is_run_of number) orphans ≤ 1

-- the numbers of runs as keys of two numbers
abbrev pub run_keys : List Run → List (ℕ × ℕ)
run_keys runs = map (λ r. (r.number, 0)) runs

-- part 1 of loans: the entries of each number are one run
abbrev pub AreOneRuns : Ledger → Type 0
AreOneRuns ledger = (number : Number) → IsOneRun ledger number
