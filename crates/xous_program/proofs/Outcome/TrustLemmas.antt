-- When what the pages of a run hold is known.
use Rattle.std.proofs.Common.{◌≡◌, ◌==◌, ◌||◌, ◌⊎◌, ◌∙◌, inl, inr, true, List, ap, sym, subst}
use Rattle.event_text.specs.EventFile.{Input}
use Rattle.machine_model.specs.Runs.Moments.{Moment}
use Rattle.machine_model.specs.State.Machine.{Machine}
use Rattle.machine_laws.specs.HistoryMoments.{moments_of}
use Rattle.vm_memory.specs.Bytes.{MeansBytes, is_known, none_out}
use Rattle.vm_memory.specs.Memory.{Size, size, store_of}
use Rattle.xk_kernel.specs.Knowing.{is_trusted}
use Rattle.xk_kernel.specs.Sound.{Keeps}
use Rattle.xk_kernel.specs.declared.kernel.Kernel.{Kernel}
use Rattle.xk_ports.specs.declared.store.SwapStore.{Ghosts as SwapStore}
use Rattle.event_player.specs.Gathering.{Text}
use Rattle.event_player.specs.Playing.{IsKnown, Run}
use Rattle.event_player.specs.Rooms.{ComesFull, IsFull, Room}
use Rattle.event_player.specs.Standing.{Begins, Stand, room_in, stand}
use Rattle.event_player.proofs.Playing.FullLemmas.{full_start}
use Rattle.event_player.proofs.Playing.StandingLemmas.{near_means, room_stays, trust_stays, trusted_means}
use Rattle.xous_program.specs.Outcome.Sides.{IsTrusted, store_side}
use Rattle.xous_program.specs.Outcome.Starts.{Booted, KnowsPages}

-- what a call says of trust by its store, a kernel says by its own
pub trusted_side : {W : Type 0} {S : SwapStore W} {old new : Kernel W}
    → Keeps S old new
    → IsTrusted (store_side S (store_of old.mem) (store_of new.mem)) (size old.mem).slots → is_trusted S new ≡ true
trusted_side {S = S} {new = new} keeps trusted = ap (λ (s : Size). is_known S new.mem || (s.slots == 0)) keeps.size ∙ trusted

-- a run comes full in the room that it began in
pub full_on : (one other : Room) (start : Machine) (moments : List Moment) → other ≡ one → ComesFull other start moments → ComesFull one start moments
full_on one other start moments same full = let C : Room → Type 0 = λ room. ComesFull room start moments in subst C same full

-- what was booted on a kernel
abbrev pub booted_on : {W : Type 0} → Machine → Kernel W → Booted
booted_on start kernel = record { machine = start; room = room_in kernel; slots = (size kernel.mem).slots }

-- .. and so it is with what the pages hold
pub known_side : {W : Type 0} {S : SwapStore W} {old new : Kernel W} (run : Run S) (after : Text) (input : Input) → Keeps S old new
    → KnowsPages (store_side S (store_of old.mem) (store_of new.mem)) (booted_on run.start old) run.limit input.events → IsKnown run (stand S new after) input
known_side run after input keeps (inl trusted) = inl (trusted_side keeps trusted)
known_side {old = old} {new = new} run after input keeps (inr never) =
    inr (λ full. never (full_on (room_in old) (room_in new) run.start (moments_of input.events run.limit run.start) (room_stays keeps) full))

-- what is known later was known before
pub known_before : {W : Type 0} {S : SwapStore W} {old new : Kernel W} (run : Run S) (before after : Text) (input : Input) → Keeps S old new
    → IsKnown run (stand S new after) input → IsKnown run (stand S old before) input
known_before run before after input keeps (inl trusted) = inl (sym (trust_stays keeps) ∙ trusted)
known_before {old = old} {new = new} run before after input keeps (inr never) =
    inr (λ full. never (full_on (room_in new) (room_in old) run.start (moments_of input.events run.limit run.start) (sym (room_stays keeps)) full))

-- a run stands at its start
pub known_start : {W : Type 0} {S : SwapStore W} (run : Run S) (now : Stand) (input : Input) → Begins run.start now → IsKnown run now input → now.machine ≡ run.start
known_start run now input begins (inl trusted) = begins.trusted trusted
known_start run now input begins (inr never) = go begins.near
  where
    go : ((now.near ≡ true) × (now.machine ≡ run.start)) ⊎ IsFull now.room run.start → now.machine ≡ run.start
    go (inl both) = both.1
    go (inr full) = absurd (never (full_start now.room run.start (moments_of input.events run.limit run.start) full))

-- the bytes of a kernel's pages are known, where none is out but in a full run
pub known_means : {W : Type 0} (S : SwapStore W) (k : Kernel W) (run : Run S) (text : Text) (input : Input)
    → (none_out k.mem ≡ true) ⊎ ComesFull (room_in k) run.start (moments_of input.events run.limit run.start)
    → IsKnown run (stand S k text) input → MeansBytes S k.mem
known_means S k run text input near (inl trusted) = trusted_means S k trusted
known_means S k run text input near (inr never) = go near
  where
    go : (none_out k.mem ≡ true) ⊎ ComesFull (room_in k) run.start (moments_of input.events run.limit run.start) → MeansBytes S k.mem
    go (inl none) = near_means S k none
    go (inr full) = absurd (never full)
