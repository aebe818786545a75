-- The keys of rows, and rows that stand in ascending order of them.
use Rattle.std.specs.Prelude.{◌≡◌, ℕ, ◌+◌, ◌≤◌, ◌==◌, if◌then◌else◌, ⊤, List, [], ◌∷◌, length, Option, Some, None}
use Rattle.snapshot_rows.specs.declared.state.State.{State}
use Rattle.snapshot_rows.specs.declared.state.ThreadRow.{ThreadRow}
use Rattle.snapshot_rows.specs.declared.state.ServerRow.{ServerRow}
use Rattle.snapshot_rows.specs.declared.state.ClaimRow.{ClaimRow}
use Rattle.snapshot_rows.specs.declared.state.PageRow.{PageRow}
use Rattle.snapshot_rows.specs.declared.state.OrphanRow.{OrphanRow}
use Rattle.xk_base.specs.declared.limits.TheConstants.{PROCESS_LIMIT}

-- ---- keys

abbrev pub thread_key : ThreadRow → ℕ × ℕ
thread_key t = (t.pid, t.tid)

abbrev pub server_key : ServerRow → ℕ
server_key s = s.serial

abbrev pub claim_key : ClaimRow → ℕ
claim_key c = c.number

abbrev pub page_key : PageRow → ℕ × ℕ
page_key p = (p.pid, p.page)

abbrev pub orphan_key : OrphanRow → ℕ × ℕ
orphan_key o = (o.pid, o.page)

-- ---- order

-- the least number behind that of the row before
abbrev pub after : Option ℕ → ℕ
after None = 0
after (Some before) = before + 1

-- the least first number of a key of two behind that of the row before
abbrev pub least_first : ℕ → Option (ℕ × ℕ) → ℕ
least_first least None = least
least_first least (Some before) = before.0

-- the least second number beside that first one
abbrev pub least_second : ℕ → Option (ℕ × ℕ) → ℕ → ℕ
least_second least None first = least
least_second least (Some before) first = if before.0 == first then before.1 + 1 else least

-- Each row has the form that one has behind the key of the row before it.
abbrev pub AreInOrder : {A K : Type 0} → (Option K → A → Type 0) → (A → K) → Option K → List A → Type 0
AreInOrder form key before [] = ⊤
AreInOrder form key before (x ∷ xs) = form before x × AreInOrder form key (Some (key x)) xs

-- rows stand in ascending order of a key
abbrev pub Ascend : {A : Type 0} → (A → ℕ) → List A → Type 0
Ascend key rows = AreInOrder (λ before x. after before ≤ key x) key None rows

-- .. and of a key of two numbers
abbrev pub AscendInTwo : {A : Type 0} → (A → ℕ × ℕ) → List A → Type 0
AscendInTwo key rows =
    AreInOrder (λ before x. (least_first 0 before ≤ (key x).0) × (least_second 0 before (key x).0 ≤ (key x).1)) key None rows

-- the rows of a state stand in order of their keys, and there are as many processes as it says
pub record AreRowsInOrder (s : State) : Type 0 where
  pub procs : length s.procs ≡ s.n
  pub few : s.n ≤ PROCESS_LIMIT
  pub threads : AscendInTwo thread_key s.threads
  pub servers : Ascend server_key s.servers
  pub claims : Ascend claim_key s.claims
  pub pages : AscendInTwo page_key s.pages
  pub orphans : AscendInTwo orphan_key s.orphans
