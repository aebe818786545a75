-- Pages as numbers: what stood and what was allocated is what stands and what was released.
use Rattle.std.specs.Prelude.{◌≡◌, ℕ, ◌+◌, Bool, ◌&&◌, not, is_some, List, [], ◌∷◌, length}
use Rattle.xk_base.specs.declared.events.Event.{Event}
use Rattle.xk_base.specs.declared.limits.TheConstants.{PROCESS_LIMIT}
use Rattle.ledger_model.specs.Ledger.{Homed, Ledger, Orphaned, PageName}
use Rattle.ledger_model.specs.Places.{count_places}
use Rattle.machine_model.specs.Runs.Matched.{Matched}
use Rattle.machine_model.specs.Runs.Moments.{IsRun, Moment, state_at}
use Rattle.machine_model.specs.State.Machine.{Machine}
use Rattle.machine_laws.specs.HistoryMoments.{moments_of}
use Rattle.lifetime_laws.specs.Deeds.{stands}
use Rattle.lifetime_laws.specs.Lives.{PagesLive}

-- how many names of pages pass a test, with `procs` processes
abbrev pub count_names : ℕ → (PageName → Bool) → ℕ
count_names procs test = count_places procs (λ p. test (Homed p)) + count_places procs (λ q. test (Orphaned q))

-- how many pages and orphans stand, the console too
abbrev pub page_count : Ledger → ℕ
page_count ledger = count_names PROCESS_LIMIT (stands ledger)

-- how many pages that stand after the moment are allocated in it, and how many that stood before are released
abbrev pub made_in : (before : Machine) (moment : Moment) → PagesLive before moment → ℕ
made_in before moment live = count_names PROCESS_LIMIT (λ new. stands moment.machine.ledger new && not (is_some (live.from new)))

abbrev pub gone_in : (before : Machine) (moment : Moment) → PagesLive before moment → ℕ
gone_in before moment live = count_names PROCESS_LIMIT (λ old. stands before.ledger old && not (is_some (live.to old)))

-- so many are allocated and so many are released in the moments of a run
unfoldable pub IsCounted : Machine → List Moment → ℕ → ℕ → Type 0
IsCounted start [] made gone = (made ≡ 0) × (gone ≡ 0)
IsCounted start (moment ∷ moments) made gone =
    (live : PagesLive start moment) × (later_made : ℕ) × (later_gone : ℕ) × IsCounted moment.machine moments later_made later_gone
    × (made ≡ made_in start moment live + later_made) × (gone ≡ gone_in start moment live + later_gone)

-- in every run from a matched state the pages at the start and those allocated are as many as those that stand at the end and those released
abbrev pub EveryRunBalances : Type 0
EveryRunBalances =
    (start : Machine) (moments : List Moment) → Matched start → IsRun start moments
    → (made : ℕ) × (gone : ℕ) × IsCounted start moments made gone
    × (page_count start.ledger + made ≡ page_count (state_at start moments (length moments)).ledger + gone)

-- .. and in every history
abbrev pub EveryHistoryBalances : Type 0
EveryHistoryBalances =
    (events : List Event) (limit : ℕ) (start : Machine) → Matched start
    → (made : ℕ) × (gone : ℕ) × IsCounted start (moments_of events limit start) made gone
    × (page_count start.ledger + made
    ≡ page_count (state_at start (moments_of events limit start) (length (moments_of events limit start))).ledger + gone)
