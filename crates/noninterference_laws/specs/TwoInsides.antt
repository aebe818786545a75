-- What a group of processes keeps inside is seen by nobody: over one cause, two runs, and two histories.
use Rattle.std.specs.Prelude.{◌≡◌, ℕ, List, map, slice_get, Some}
use Rattle.xk_base.specs.declared.events.Event.{Event}
use Rattle.machine_model.specs.Runs.Matched.{Matched}
use Rattle.machine_model.specs.Runs.Moments.{Cause, IsRun, Moment, caused, state_at}
use Rattle.machine_model.specs.State.Machine.{Machine}
use Rattle.machine_laws.specs.Records.{records_by, records_of}
use Rattle.machine_laws.specs.History.{History, history}
use Rattle.machine_laws.specs.HistoryMoments.{moments_of}
use Rattle.noninterference_laws.specs.Acting.{ActsAlike}
use Rattle.noninterference_laws.specs.Inside.{Group, SameButInside}

-- ---- one cause

-- the same is told, and the states are the same but for the inside afterwards
pub record StaysInside (group : Group) (cause : Cause) (m n : Machine) : Type 0 where
  pub records : records_by cause m ≡ records_by cause n
  pub states : SameButInside group (caused cause m) (caused cause n)

abbrev pub InsideIsUnseen : Type 0
InsideIsUnseen =
    (group : Group) (cause : Cause) (m n : Machine) → Matched m → SameButInside group m n → ActsAlike group cause m n
    → StaysInside group cause m n

-- ---- two runs

-- two runs of one list of causes, in which the group acts alike at each moment
pub record RunsActAlike (group : Group) (m n : Machine) (moments others : List Moment) : Type 0 where
  pub run : IsRun m moments
  pub other : IsRun n others
  pub causes : map (λ moment. moment.cause) moments ≡ map (λ moment. moment.cause) others
  pub start : SameButInside group m n
  pub acts : (i : ℕ) (moment : Moment) → slice_get moments i ≡ Some moment
      → ActsAlike group moment.cause (state_at m moments i) (state_at n others i)

-- their records are the same, and at each moment they are the same but for the inside
pub record RunsStayInside (group : Group) (m n : Machine) (moments others : List Moment) : Type 0 where
  pub records : records_of m moments ≡ records_of n others
  pub states : (i : ℕ) → SameButInside group (state_at m moments i) (state_at n others i)

abbrev pub RunsKeepInside : Type 0
RunsKeepInside =
    (group : Group) (m n : Machine) (moments others : List Moment) → Matched m → RunsActAlike group m n moments others
    → RunsStayInside group m n moments others

-- ---- two histories

-- at each moment of the first history of one list of events the group acts alike in both
abbrev pub ActAlong : Group → List Event → ℕ → Machine → Machine → Type 0
ActAlong group events limit m n =
    (i : ℕ) (moment : Moment) → slice_get (moments_of events limit m) i ≡ Some moment
    → ActsAlike group moment.cause (state_at m (moments_of events limit m) i) (state_at n (moments_of events limit n) i)

-- .. and the starts are the same but for the inside
pub record HistoriesActAlike (group : Group) (events : List Event) (limit : ℕ) (m n : Machine) : Type 0 where
  pub start : SameButInside group m n
  pub acts : ActAlong group events limit m n

-- two histories have the same records, met the limit alike, and end in states that are the same but for the inside
pub record TellTheSameOutside (group : Group) (one other : History) : Type 0 where
  pub records : one.records ≡ other.records
  pub met : one.met ≡ other.met
  pub last : SameButInside group one.machine other.machine

abbrev pub HistoriesKeepInside : Type 0
HistoriesKeepInside =
    (group : Group) (events : List Event) (limit : ℕ) (m n : Machine) → Matched m → HistoriesActAlike group events limit m n
    → TellTheSameOutside group (history events limit m) (history events limit n)
