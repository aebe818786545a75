-- Events are played while the bytes of their file come in.
use Rattle.std.specs.Prelude.{◌≡◌, ◌⊎◌, ◌+◌, ℕ, Bool, true, false, List, [], ◌++◌, Option, Some, None, Result, Ok, Err}
use Rattle.event_text.specs.EventFile.{Input, input_of}
use Rattle.event_text.specs.Held.{Reader}
use Rattle.event_text.specs.Lines.{whole_lines}
use Rattle.event_text.specs.Plays.{Call, play_of}
use Rattle.xk_base.specs.declared.events.Event.{Event}
use Rattle.xk_base.specs.declared.events.Event.TheVariants.{Tick}
use Rattle.machine_model.specs.State.Machine.{Machine}
use Rattle.machine_laws.specs.History.{history, play}
use Rattle.machine_laws.specs.HistoryMoments.{event_moments, moments_of}
use Rattle.xk_kernel.specs.Moments.{Stood, Throughout}
use Rattle.xk_kernel.specs.declared.kernel.Kernel.{Kernel}
use Rattle.xk_ports.specs.Told.{GrowsByProperPrefix, Consumes}
use Rattle.xk_ports.specs.declared.store.SwapStore.{Ghosts as SwapStore}
use Rattle.event_player.specs.declared.telling.Telling.{Telling}
use Rattle.event_player.specs.declared.ending.Ending.{Ending}
use Rattle.event_player.specs.declared.ending.Ending.TheVariants as why
use Rattle.event_player.specs.declared.event_file.RunFault.{RunFault}
use Rattle.event_player.specs.declared.event_file.RunFault.TheVariants as faults
use Rattle.event_player.specs.declared.events.Advance.{Advance}
use Rattle.event_player.specs.declared.events.Advance.TheVariants.{Played, Waits, Ended}
use Rattle.event_player.specs.declared.events.PlayFault.{PlayFault}
use Rattle.event_player.specs.declared.events.PlayFault.TheVariants.{Write, Swap}
use Rattle.event_player.specs.Gathering.{Gathered, GatheredPart, Gathers, GathersSome, StaysSilent, Text}
use Rattle.event_player.specs.History.{MayEnd, history_of, with_ending}
use Rattle.event_player.specs.Rooms.{ComesFull}
use Rattle.host_io.specs.Reading.{IsTold}
use Rattle.event_player.specs.Standing.{Stand}
use Rattle.event_player.specs.Telling.{told}
use Rattle.event_player.specs.Writing.{Wrote, WroteSome}

-- ---- an event

-- The store failed in a step of the event: what is told of so many of its steps was put or is held, and for each state up to there there
-- stood a kernel; and where no page was out before the event, some state up to the step behind them has more pages than there are frames for.
pub record StopsIn (stood : Machine → Type 0) (tells : Telling) (event : Event) (limit : ℕ) (old new : Stand) : Type 0 where
  pub some : GathersSome tells old.text new.text limit (λ done. with_ending why.Played (play event done old.machine))
  pub through : Throughout stood old.machine (event_moments event some.done old.machine)
  pub soon : old.near ≡ true → ComesFull old.room old.machine (event_moments event (some.done + 1) old.machine)

-- The event was played, exactly what is told of its records was put or is held, and for each of its states there stood a kernel; or a proper
-- part from the front of what is told was put, where a write failed; or it came so far as to the step in which the store failed.
abbrev pub Comes : (Machine → Type 0) → Telling → Event → ℕ → Stand → Stand → Result Ending PlayFault → Type 0
Comes stood tells event limit old new (Ok ending) =
    Gathered tells old.text new.text (with_ending why.Played (play event limit old.machine)) ending
    × (new.machine ≡ (play event limit old.machine).machine)
    × Throughout stood old.machine (event_moments event limit old.machine)
Comes stood tells event limit old new (Err Write) =
    GatheredPart tells old.text new.text (with_ending why.Played (play event limit old.machine))
Comes stood tells event limit old new (Err Swap) = StopsIn stood tells event limit old new

-- no page is out afterwards, and the store didn't fail
abbrev pub StaysNear : Stand → Result Ending PlayFault → Type 0
StaysNear new (Ok ending) = new.near ≡ true
StaysNear new (Err Write) = new.near ≡ true
StaysNear new (Err Swap) = ⊥

-- an event ends with its last step or at the limit, and at no line
abbrev pub EndsAtNoLine : Result Ending PlayFault → Type 0
EndsAtNoLine (Ok why.Played) = Unit {0}
EndsAtNoLine (Ok why.LimitMet) = Unit {0}
EndsAtNoLine (Ok (why.BadLine line)) = ⊥
EndsAtNoLine (Err fault) = Unit {0}

-- a command that tells nothing as records come touched nothing, unless a write failed
abbrev pub KeepsSilence : Telling → Text → Text → Result Ending PlayFault → Type 0
KeepsSilence tells before after (Ok ending) = StaysSilent tells before after
KeepsSilence tells before after (Err Swap) = StaysSilent tells before after
KeepsSilence tells before after (Err Write) = Unit {0}

-- So it is where the kernel is trusted; and so it is without trust where no page was out, and none is then, unless some state of the
-- event has more pages than there are frames for. How it ends, and whether the sink is touched, never rests on trust.
pub record Plays (stood : Machine → Type 0) (tells : Telling) (event : Event) (limit : ℕ) (old new : Stand)
    (result : Result Ending PlayFault) : Type 0 where
  pub trusted : old.trusted ≡ true → Comes stood tells event limit old new result
  pub near : old.near ≡ true
      → (StaysNear new result × Comes stood tells event limit old new result)
      ⊎ ComesFull old.room old.machine (event_moments event limit old.machine)
  pub ends : EndsAtNoLine result
  pub silent : KeepsSilence tells old.text new.text result

-- A tick of which so many steps were left was played on: whatever comes of the steps that are left then comes of all of them, and so do
-- the kernels that stood since the one, with those since the other. A fault ends it.
abbrev pub PlaysOn : (Machine → Type 0) → (Machine → Type 0) → Telling → ℕ → ℕ → Stand → Stand → Result ℕ PlayFault → Type 0
PlaysOn stood since tells left limit old new (Ok rest) =
    (last : Stand) (result : Result Ending PlayFault)
    → Plays since tells (Tick rest) limit new last result → Plays stood tells (Tick left) limit old last result
PlaysOn stood since tells left limit old new (Err fault) = Plays stood tells (Tick left) limit old new (Err fault)

-- ---- the events of a file

-- the kernel on which a run starts, what is told of it, its step limit, its first machine, and what stood on the sink then
pub record Run {W : Type 0} (S : SwapStore W) : Type 0 where
  pub first : Kernel W
  pub tells : Telling
  pub limit : ℕ
  pub start : Machine
  pub begun : Text

abbrev pub run_from : {W : Type 0} (S : SwapStore W) → Kernel W → Telling → ℕ → Machine → Text → Run S
run_from S first tells limit start begun =
    record { first = first; tells = tells; limit = limit; start = start; begun = begun }

-- for each state of the run over these events, up to so many steps, there stood a kernel
abbrev pub StoodOver : {W : Type 0} {S : SwapStore W} → Run S → List Event → ℕ → Type 0
StoodOver {S = S} run events limit = Throughout (Stood S run.first) run.start (moments_of events limit run.start)

-- The run stands where these events lead: they don't meet the limit, exactly what is told as their records come was put or is held, and for
-- each of their states there stood a kernel.
pub record Follows {W : Type 0} {S : SwapStore W} (run : Run S) (events : List Event) (now : Stand) : Type 0 where
  pub unmet : (history events run.limit run.start).met ≡ false
  pub there : (history events run.limit run.start).machine ≡ now.machine
  pub gathered : Gathers run.begun now.text (told run.tells (history events run.limit run.start).records)
  pub stood : StoodOver run events run.limit

-- So it is where the kernel is trusted; and so it is without trust, and no page is out, unless some state so far has more pages than
-- there are frames for.
pub record Reaches {W : Type 0} {S : SwapStore W} (run : Run S) (events : List Event) (now : Stand) : Type 0 where
  pub trusted : now.trusted ≡ true → Follows run events now
  pub near : ((now.near ≡ true) × Follows run events now) ⊎ ComesFull now.room run.start (moments_of events run.limit run.start)

-- what was played so far: after some calls of a reader, with which it took these bytes, the events that it answered
pub record HasPlayed {W : Type 0} {S : SwapStore W} (run : Run S) (taken : List ℕ) (reader : Reader) (now : Stand) : Type 0 where
  pub calls : List Call
  pub is_reader : (play_of calls).reader ≡ reader
  pub took : (play_of calls).taken ≡ taken
  pub reaches : Reaches run (play_of calls).answered now
  pub silent : StaysSilent run.tells run.begun now.text

-- a file that begins with these bytes, whatever bytes follow; none do once the end was said
abbrev pub ForEach : List ℕ → Bool → (Input → Type 0) → Type 0
ForEach taken finished P = (more : List ℕ) → (finished ≡ true → more ≡ []) → P (input_of (taken ++ more))

-- What the pages of the run hold is known where it stands: its kernel is trusted, or no state of the run over these events has more pages
-- than there are frames for, so that no page is ever out.
abbrev pub IsKnown : {W : Type 0} {S : SwapStore W} → Run S → Stand → Input → Type 0
IsKnown run now input = (now.trusted ≡ true) ⊎ (¬ ComesFull now.room run.start (moments_of input.events run.limit run.start))

-- where all events of the file were played, no page is out, unless some state has more pages than there are frames for
abbrev pub IsNearAtEnd : {W : Type 0} {S : SwapStore W} → Run S → List ℕ → Bool → Stand → Type 0
IsNearAtEnd run taken finished now =
    ForEach taken finished (λ input. (now.near ≡ true) ⊎ ComesFull now.room run.start (moments_of input.events run.limit run.start))

-- The run ended so, as it may over such a file. Where what its pages hold is known, its history ended so, on this machine, what is told as
-- its records come was put or is held, and for each of its states there stood a kernel.
pub record EndsSo {W : Type 0} {S : SwapStore W} (run : Run S) (taken : List ℕ) (finished : Bool) (now : Stand) (ending : Ending) : Type 0 where
  pub may : ForEach taken finished (λ input. MayEnd input ending)
  pub exact : ForEach taken finished (λ input. IsKnown run now input
      → Gathered run.tells run.begun now.text (history_of input run.limit run.start) ending
      × (now.machine ≡ (history_of input run.limit run.start).machine)
      × StoodOver run input.events run.limit)
  pub near : ending ≡ why.Played → IsNearAtEnd run taken finished now
  pub silent : StaysSilent run.tells run.begun now.text

-- What is told of so many steps of a run over such a file was put or is held, for each state up to there there stood a kernel, and some state
-- up to the step behind them has more pages than there are frames for.
pub record GathersSoon {W : Type 0} {S : SwapStore W} (run : Run S) (now : Stand) (input : Input) : Type 0 where
  pub some : GathersSome run.tells run.begun now.text run.limit (λ done. history_of input done run.start)
  pub stood : StoodOver run input.events some.done
  pub soon : ComesFull now.room run.start (moments_of input.events (some.done + 1) run.start)

-- The store failed, and some state has more pages than there are frames for. Where the kernel is trusted, that is no later than in the step
-- behind those of which is told.
pub record StopsSo {W : Type 0} {S : SwapStore W} (run : Run S) (taken : List ℕ) (finished : Bool) (now : Stand) : Type 0 where
  pub exact : ForEach taken finished (λ input. now.trusted ≡ true → GathersSoon run now input)
  pub full : ForEach taken finished (λ input. ComesFull now.room run.start (moments_of input.events run.limit run.start))
  pub silent : StaysSilent run.tells run.begun now.text

-- where a write failed, a proper part from the front of what is told of the history was put
abbrev pub FailsSo : {W : Type 0} {S : SwapStore W} → Run S → List ℕ → Bool → Stand → PlayFault → Type 0
FailsSo run taken finished now Write =
    ForEach taken finished (λ input. IsKnown run now input
    → GatheredPart run.tells run.begun now.text (history_of input run.limit run.start))
FailsSo run taken finished now Swap = StopsSo run taken finished now

-- what came of an answer of the reader
abbrev pub Advances : {W : Type 0} {S : SwapStore W} → Run S → List ℕ → Bool → Reader → Stand → Result Advance PlayFault → Type 0
Advances run taken finished reader now (Ok Played) = HasPlayed run taken reader now
Advances run taken finished reader now (Ok Waits) = HasPlayed run taken reader now
Advances run taken finished reader now (Ok (Ended ending)) = EndsSo run taken finished now ending
Advances run taken finished reader now (Err fault) = FailsSo run taken finished now fault

-- the history ended, or it goes on where the reader waits for bytes
abbrev pub Goes : {W : Type 0} {S : SwapStore W} → Run S → List ℕ → Bool → Reader → Stand → Result (Option Ending) PlayFault → Type 0
Goes run taken finished reader now (Ok None) = HasPlayed run taken reader now
Goes run taken finished reader now (Ok (Some ending)) = EndsSo run taken finished now ending
Goes run taken finished reader now (Err fault) = FailsSo run taken finished now fault

-- The file was played to this ending, as it may end. Where what the pages hold is known, this is how its history ended, exactly what is told
-- as its records come was written, and for each of its states there stood a kernel. After all events no page is out, unless some state has
-- more pages than there are frames for.
pub record PlaysOut {W : Type 0} {S : SwapStore W} (run : Run S) (left : Option (List ℕ)) (now : Stand) (ending : Ending) : Type 0 where
  pub bytes : List ℕ
  pub file : IsTold left bytes
  pub may : MayEnd (input_of bytes) ending
  pub exact : IsKnown run now (input_of bytes)
      → Wrote run.tells run.begun.out now.text.out (history_of (input_of bytes) run.limit run.start) ending
      × (now.machine ≡ (history_of (input_of bytes) run.limit run.start).machine)
      × StoodOver run (input_of bytes).events run.limit
  pub near : ending ≡ why.Played
      → (now.near ≡ true) ⊎ ComesFull now.room run.start (moments_of (input_of bytes).events run.limit run.start)
  pub silent : StaysSilent run.tells run.begun now.text

-- a write failed: a proper part from the front of what is told of the history was written
pub record PlaysInPart {W : Type 0} {S : SwapStore W} (run : Run S) (left : Option (List ℕ)) (now : Stand) : Type 0 where
  pub bytes : List ℕ
  pub file : IsTold left bytes
  pub exact : IsKnown run now (input_of bytes)
      → GrowsByProperPrefix run.begun.out now.text.out (told run.tells (history_of (input_of bytes) run.limit run.start).records)

-- Exactly what is told of so many steps was written, for each state up to there there stood a kernel, and some state up to the step behind
-- them has more pages than there are frames for.
pub record WroteSoon {W : Type 0} {S : SwapStore W} (run : Run S) (bytes : List ℕ) (now : Stand) : Type 0 where
  pub some : WroteSome run.tells run.begun.out now.text.out run.limit (λ done. history_of (input_of bytes) done run.start)
  pub stood : StoodOver run (input_of bytes).events some.done
  pub soon : ComesFull now.room run.start (moments_of (input_of bytes).events (some.done + 1) run.start)

-- The store failed: some state has more pages than there are frames for. Where the kernel is trusted, that is no later than in the step behind
-- those of which exactly what is told was written.
pub record PlaysSome {W : Type 0} {S : SwapStore W} (run : Run S) (left : Option (List ℕ)) (now : Stand) : Type 0 where
  pub bytes : List ℕ
  pub file : IsTold left bytes
  pub exact : now.trusted ≡ true → WroteSoon run bytes now
  pub full : ComesFull now.room run.start (moments_of (input_of bytes).events run.limit run.start)
  pub silent : StaysSilent run.tells run.begun now.text

-- A read failed: of the bytes that were read no whole line is bad, and, where what the pages hold is known, the history of these lines was
-- played and written, and for each of its states there stood a kernel.
pub record PlaysLines {W : Type 0} {S : SwapStore W} (run : Run S) (left left_after : Option (List ℕ)) (now : Stand) : Type 0 where
  pub read : List ℕ
  pub taken : Consumes left left_after read
  pub may : MayEnd (input_of (whole_lines read)) why.Played
  pub exact : IsKnown run now (input_of (whole_lines read))
      → Wrote run.tells run.begun.out now.text.out (history_of (input_of (whole_lines read)) run.limit run.start) why.Played
      × StoodOver run (input_of (whole_lines read)).events run.limit
  pub silent : StaysSilent run.tells run.begun now.text

-- What came of a file, by the bytes that were left of it before and after.
abbrev pub Runs : {W : Type 0} {S : SwapStore W} → Run S → Option (List ℕ) → Option (List ℕ) → Stand → Result Ending RunFault → Type 0
Runs run left left_after now (Ok ending) = PlaysOut run left now ending
Runs run left left_after now (Err faults.Write) = PlaysInPart run left now
Runs run left left_after now (Err faults.Swap) = PlaysSome run left now
Runs run left left_after now (Err faults.Read) = PlaysLines run left left_after now
