-- The life of a page over a run and a history: it stood at the start or was allocated in one moment, it was written, lent, returned and
-- moved by these deeds in this order, and it stands at the end or was released in one moment.
use Rattle.std.specs.Prelude.{◌≡◌, ◌⊎◌, ℕ, true, List, [], ◌∷◌, drop, length, take}
use Rattle.xk_base.specs.declared.events.Event.{Event}
use Rattle.ledger_model.specs.Ledger.{PageName}
use Rattle.machine_model.specs.Runs.Matched.{Matched}
use Rattle.machine_model.specs.Runs.Moments.{Cause, IsRun, Moment, moment_of, state_at}
use Rattle.machine_model.specs.State.Machine.{Machine}
use Rattle.machine_laws.specs.HistoryMoments.{moments_of}
use Rattle.lifetime_laws.specs.Deeds.{Allocated, Deed, LivesOn, Released, stands}
use Rattle.lifetime_laws.specs.Tracing.{AreTraced}

-- ---- one moment

-- one page before the moment lives on as one after it, by some deed
abbrev pub LivesThrough : Machine → Moment → PageName → PageName → Type 0
LivesThrough before moment old new = (deed : Deed) × LivesOn before moment old deed new

-- each page after the moment lived before it or is allocated in it, and each before it lives on or is released in it
abbrev pub PagesLive : Machine → Moment → Type 0
PagesLive before moment =
    AreTraced before.ledger moment.machine.ledger (LivesThrough before moment) (Allocated before moment) (Released before moment)

-- ---- a run

-- the page `old` of the start is the page `new` of the last state, by these deeds, one for each moment
unfoldable pub IsLine : Machine → List Moment → PageName → List Deed → PageName → Type 0
IsLine start [] old [] new = old ≡ new
IsLine start [] old (deed ∷ deeds) new = ⊥
IsLine start (moment ∷ moments) old [] new = ⊥
IsLine start (moment ∷ moments) old (deed ∷ deeds) new =
    (next : PageName) × LivesOn start moment old deed next × IsLine moment.machine moments next deeds new

abbrev pub HasLine : Machine → List Moment → PageName → PageName → Type 0
HasLine start moments old new = (deeds : List Deed) × IsLine start moments old deeds new

-- the page `new` of the last state was allocated in a moment of the run, and has had its line since
unfoldable pub IsMade : Machine → List Moment → PageName → Type 0
IsMade start [] new = ⊥
IsMade start (moment ∷ moments) new =
    ((first : PageName) × Allocated start moment first × HasLine moment.machine moments first new)
    ⊎ IsMade moment.machine moments new

-- the page `old` of the start had its line up to a moment of the run in which it was released
unfoldable pub IsGone : Machine → List Moment → PageName → Type 0
IsGone start [] old = ⊥
IsGone start (moment ∷ moments) old =
    ((next : PageName) × LivesThrough start moment old next × IsGone moment.machine moments next) ⊎ Released start moment old

-- so it is of all pages from the start to the last state
abbrev pub RunLives : Machine → List Moment → Type 0
RunLives start moments =
    AreTraced start.ledger (state_at start moments (length moments)).ledger (HasLine start moments) (IsMade start moments) (IsGone start moments)

-- ---- one page in one state of a run

-- The life of the page that stands at this name after i moments: how it came there, and what becomes of it.
pub record HasLife (start : Machine) (moments : List Moment) (i : ℕ) (name : PageName) : Type 0 where
  -- it stood at the start, or was allocated in one of these moments
  pub came : ((old : PageName) × (stands start.ledger old ≡ true) × HasLine start (take i moments) old name)
      ⊎ IsMade start (take i moments) name
  -- it stands at the end, or is released in one of the others
  pub goes : ((new : PageName) × (stands (state_at start moments (length moments)).ledger new ≡ true)
      × HasLine (state_at start moments i) (drop i moments) name new)
      ⊎ IsGone (state_at start moments i) (drop i moments) name

-- ---- the laws

-- whatever leads from a matched state to the next
abbrev pub EveryMomentLives : Type 0
EveryMomentLives = (cause : Cause) (m : Machine) → Matched m → PagesLive m (moment_of cause m)

abbrev pub EveryRunLives : Type 0
EveryRunLives = (start : Machine) (moments : List Moment) → Matched start → IsRun start moments → RunLives start moments

abbrev pub EveryPageLives : Type 0
EveryPageLives =
    (start : Machine) (moments : List Moment) (i : ℕ) (name : PageName) → Matched start → IsRun start moments
    → stands (state_at start moments i).ledger name ≡ true → HasLife start moments i name

abbrev pub EveryHistoryLives : Type 0
EveryHistoryLives = (events : List Event) (limit : ℕ) (start : Machine) → Matched start → RunLives start (moments_of events limit start)
