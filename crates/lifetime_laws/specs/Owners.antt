-- The owner of a page: whose it is changes by a move alone, and by its owner's death. So the pages of a process are what it had, what it
-- allocated and what was moved to it, less what it released, what it moved and what its death took.
use Rattle.std.specs.Prelude.{◌≡◌, ◌⊎◌, ℕ, ◌+◌, ◌==◌, Bool, true, false, ◌&&◌, not, List, [], ◌∷◌, length}
use Rattle.std.specs.Option.{option_map_or}
use Rattle.xk_base.specs.declared.ids.Number.{Number}
use Rattle.xk_base.specs.declared.ids.Pid.{Pid}
use Rattle.xk_base.specs.declared.limits.TheConstants.{PROCESS_LIMIT}
use Rattle.xk_base.specs.declared.messages.MsgKind.TheVariants.{Move}
use Rattle.ledger_model.specs.Ledger.{Homed, Ledger, Orphaned, PageName}
use Rattle.machine_model.specs.Runs.Matched.{Matched}
use Rattle.machine_model.specs.Runs.Moments.{IsRun, Moment, state_at}
use Rattle.machine_model.specs.State.Machine.{Machine}
use Rattle.lifetime_laws.specs.Causes.{Dies, IsSentBy}
use Rattle.lifetime_laws.specs.Counts.{count_names}
use Rattle.lifetime_laws.specs.Deeds.{Deed, LivesOn, Moving, Orphaning, stands}
use Rattle.lifetime_laws.specs.Lives.{PagesLive}

-- the process owns the page; the owner of an orphan is the kernel
abbrev pub is_owned : Pid → PageName → Bool
is_owned pid (Homed p) = p.pid.0 == pid.0
is_owned pid (Orphaned q) = false

-- ---- one page

-- a page that the process owns after the moment was its own before, or another owner moved it to the process
abbrev pub GainsByMoves : Type 0
GainsByMoves =
    (before : Machine) (moment : Moment) (old new : PageName) (deed : Deed) (pid : Pid) → LivesOn before moment old deed new
    → is_owned pid new ≡ true
    → (is_owned pid old ≡ true)
    ⊎ ((owner : Pid) × (number : Number) × (deed ≡ Moving number) × (is_owned owner old ≡ true) × IsSentBy owner pid Move number before moment)

-- a page that the process owned before the moment is its own after it, or the process moved it to another, or died while it was on loan
abbrev pub LosesByMoves : Type 0
LosesByMoves =
    (before : Machine) (moment : Moment) (old new : PageName) (deed : Deed) (pid : Pid) → LivesOn before moment old deed new
    → is_owned pid old ≡ true
    → (is_owned pid new ≡ true)
    ⊎ (((receiver : Pid) × (number : Number) × (deed ≡ Moving number) × (is_owned receiver new ≡ true) × IsSentBy pid receiver Move number before moment)
    ⊎ ((number : Number) × (deed ≡ Orphaning number) × Dies pid before moment))

-- ---- how many

-- how many pages the process owns
abbrev pub owned_pages : Pid → Ledger → ℕ
owned_pages pid ledger = count_names PROCESS_LIMIT (λ name. stands ledger name && is_owned pid name)

-- how many pages are its own after the moment and weren't before, and how many were its own before and aren't after
abbrev pub gained_in : Pid → (before : Machine) (moment : Moment) → PagesLive before moment → ℕ
gained_in pid before moment live =
    count_names PROCESS_LIMIT
    (λ new. (stands moment.machine.ledger new && is_owned pid new) && not (option_map_or (is_owned pid) (live.from new) false))

abbrev pub lost_in : Pid → (before : Machine) (moment : Moment) → PagesLive before moment → ℕ
lost_in pid before moment live =
    count_names PROCESS_LIMIT
    (λ old. (stands before.ledger old && is_owned pid old) && not (option_map_or (is_owned pid) (live.to old) false))

-- the process gains so many and loses so many in the moments of a run
unfoldable pub IsCountedOf : Pid → Machine → List Moment → ℕ → ℕ → Type 0
IsCountedOf pid start [] gained lost = (gained ≡ 0) × (lost ≡ 0)
IsCountedOf pid start (moment ∷ moments) gained lost =
    (live : PagesLive start moment) × (later_gained : ℕ) × (later_lost : ℕ) × IsCountedOf pid moment.machine moments later_gained later_lost
    × (gained ≡ gained_in pid start moment live + later_gained) × (lost ≡ lost_in pid start moment live + later_lost)

-- in every run from a matched state
abbrev pub EveryOwnerBalances : Type 0
EveryOwnerBalances =
    (start : Machine) (moments : List Moment) (pid : Pid) → Matched start → IsRun start moments
    → (gained : ℕ) × (lost : ℕ) × IsCountedOf pid start moments gained lost
    × (owned_pages pid start.ledger + gained ≡ owned_pages pid (state_at start moments (length moments)).ledger + lost)
