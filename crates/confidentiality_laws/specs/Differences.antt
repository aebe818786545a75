-- Where the pages come from that differ between two runs side by side: a difference is moved with its page, and none is made.
use Rattle.std.specs.Prelude.{◌≡◌, ℕ, ◌⊎◌, List}
use Rattle.ledger_model.specs.Ledger.{Ledger, PageName, contents_of}
use Rattle.machine_model.specs.Runs.Isolation.{without_bytes}
use Rattle.machine_model.specs.Runs.Matched.{Matched}
use Rattle.machine_model.specs.Runs.Moments.{Cause, ByStep, Moment, caused, state_at}
use Rattle.machine_model.specs.State.Machine.{Machine}
use Rattle.confidentiality_laws.specs.TwoRuns.{ActsAlike, IsSideBySide}

-- the page holds, in both ledgers, what one page held in the two before
pub record HoldsWhat (before other : Ledger) (after other_after : Ledger) (page old : PageName) : Type 0 where
  pub here : contents_of after page ≡ contents_of before old
  pub there : contents_of other_after page ≡ contents_of other old

-- each page is the same in both, or holds in both what one and the same page held before
abbrev pub OnlyMovesDifferences : (before other after other_after : Ledger) → Type 0
OnlyMovesDifferences before other after other_after =
    (page : PageName) → (contents_of after page ≡ contents_of other_after page)
    ⊎ ((old : PageName) × HoldsWhat before other after other_after page old)

-- .. after whatever leads from two states that are the same but for bytes to the next, and in a step the process can load no page
-- that differs
abbrev pub CausesMakeNoDifference : Type 0
CausesMakeNoDifference =
    (cause : Cause) (m n : Machine) → Matched m → without_bytes m ≡ without_bytes n → (cause ≡ ByStep → ActsAlike m n)
    → OnlyMovesDifferences m.ledger n.ledger (caused cause m).ledger (caused cause n).ledger

-- .. and so it is at each moment of two runs side by side from a matched state: what differs then differed at the start
abbrev pub DifferencesComeFromTheStart : Type 0
DifferencesComeFromTheStart =
    (m n : Machine) (moments others : List Moment) → IsSideBySide m n moments others → Matched m
    → (i : ℕ) → OnlyMovesDifferences m.ledger n.ledger (state_at m moments i).ledger (state_at n others i).ledger
