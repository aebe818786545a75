-- The word of an LR and its SC. While the reservation stands, memory changes only by stores of its thread. So an SC that succeeds finds
-- the word that the LR loaded, if the thread stored nothing in between.
use Rattle.std.specs.Prelude.{◌≡◌, ℕ, ◌+◌, ◌<◌, ◌≤◌, ◌⊎◌, suc, Bool, true, false, List, slice_get, Some}
use Rattle.std.specs.Bool.{⊤}
use Rattle.std.specs.Option.{option_and_then, option_map_or}
use Rattle.xk_base.specs.declared.ids.ThreadId.{ThreadId}
use Rattle.xk_base.specs.declared.pages.Width.TheVariants.{Word}
use Rattle.xk_base.specs.UserMemory.{number_at}
use Rattle.machine_model.specs.Hart.Instructions.{Executed, Next, Stores, StoresToConsole, StoresToTimer, CallsKernel, Traps}
use Rattle.machine_model.specs.Runs.Moments.{Cause, ByStep, ByPick, ByIrq, ByKill, ByTurn, Moment, IsRun, state_at}
use Rattle.machine_model.specs.Runs.Reserving.{IsReserving, IsSucceeding}
use Rattle.machine_model.specs.State.Machine.{Machine, Reservation}
use Rattle.machine_model.specs.State.Order.{actor}
use Rattle.machine_model.specs.State.Views.{memory_of}
use Rattle.machine_model.specs.Stepping.Acts.{executes}

-- ---- stores

-- the instruction stores to memory, not to the console or the timer
abbrev pub is_store : Executed → Bool
is_store (Next regs pc) = false
is_store (Stores address width value regs pc) = true
is_store (StoresToConsole offset value regs pc) = false
is_store (StoresToTimer offset width value regs pc) = false
is_store CallsKernel = false
is_store (Traps cause value) = false

-- the step of this thread is such an instruction
unfoldable pub does_store : Machine → ThreadId → Bool
does_store m who = option_map_or is_store (option_and_then (executes m who) (m.threads who)) false

-- what leads to the next state is no store
abbrev pub StoresNothing : Machine → Cause → Type 0
StoresNothing m ByStep = (who : ThreadId) → actor m ≡ Some who → does_store m who ≡ false
StoresNothing m (ByPick who) = ⊤
StoresNothing m (ByIrq k) = ⊤
StoresNothing m (ByKill pid) = ⊤
StoresNothing m ByTurn = ⊤

-- none of the moments from the first to before the second is a store
abbrev pub AreNoStores : Machine → List Moment → ℕ → ℕ → Type 0
AreNoStores start moments first second =
    (k : ℕ) (between : Moment) → first ≤ k → k < second → slice_get moments k ≡ Some between
    → StoresNothing (state_at start moments k) between.cause

-- ---- the word

-- the word that stands in memory at the address, as the thread's process sees it: what an LR loads there, outside of the timer's page
abbrev pub word_seen : Machine → ThreadId → ℕ → ℕ
word_seen m who address = number_at (memory_of m who.pid).byte address Word

-- a moment that stores nothing leaves the word
abbrev pub LeavesWord : Reservation → Machine → List Moment → ℕ → Type 0
LeavesWord r start moments k =
    (between : Moment) → slice_get moments k ≡ Some between → StoresNothing (state_at start moments k) between.cause
    → word_seen (state_at start moments (suc k)) r.who r.address ≡ word_seen (state_at start moments k) r.who r.address

-- An LR of the thread reserved the address before moment `end`, and the reservation has stood since. The word changes only by stores of
-- the thread; so it is the one that the LR found, if the thread stored nothing in between.
pub record HasLoaded (r : Reservation) (start : Machine) (moments : List Moment) (end : ℕ) : Type 0 where
  pub from : ℕ
  pub moment : Moment
  pub there : slice_get moments from ≡ Some moment
  pub before : from < end
  pub reserving : IsReserving r (state_at start moments from) moment.cause
  pub stands : (k : ℕ) → from < k → k ≤ end → (state_at start moments k).reserved ≡ Some r
  pub leaves : (k : ℕ) → from ≤ k → k < end → LeavesWord r start moments k
  pub word : AreNoStores start moments (from + 1) end
      → word_seen (state_at start moments end) r.who r.address ≡ word_seen (state_at start moments from) r.who r.address

-- .. or the reservation has stood since the start, and the word is the one of the start, if the thread stored nothing since.
pub record HadLoaded (r : Reservation) (start : Machine) (moments : List Moment) (end : ℕ) : Type 0 where
  pub stands : (k : ℕ) → k ≤ end → (state_at start moments k).reserved ≡ Some r
  pub leaves : (k : ℕ) → k < end → LeavesWord r start moments k
  pub word : AreNoStores start moments 0 end → word_seen (state_at start moments end) r.who r.address ≡ word_seen start r.who r.address

-- So it is of each SC that succeeds, in every run.
abbrev pub EveryScFindsItsWord : Type 0
EveryScFindsItsWord =
    (start : Machine) (moments : List Moment) (i : ℕ) (moment : Moment) (r : Reservation) → IsRun start moments
    → slice_get moments i ≡ Some moment → IsSucceeding r (state_at start moments i) moment.cause
    → HasLoaded r start moments i ⊎ HadLoaded r start moments i
