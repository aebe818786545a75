-- A call whose run is played is complete, interrupted or rejected.
use Rattle.std.proofs.Common.{◌≡◌, ◌⊎◌, inl, inr, ℕ, Bool, true, false, List, [], ◌∷◌, Option, Some, refl, sym, ap, ◌∙◌, subst}
use Rattle.event_text.specs.EventFile.{Input, input_of}
use Rattle.event_text.specs.Lines.{whole_lines}
use Rattle.event_player.specs.Gathering.{Puts}
use Rattle.event_player.specs.History.{History, run_of}
use Rattle.event_player.specs.Rooms.{Room}
use Rattle.event_player.specs.Telling.{output, told}
use Rattle.event_player.specs.declared.ending.Ending.{Ending}
use Rattle.event_player.specs.declared.ending.Ending.TheVariants.{Played, LimitMet, BadLine}
use Rattle.event_player.specs.declared.telling.Telling.{Telling}
use Rattle.host_io.specs.Reading.{AsksFor, IsFile, IsReadOf}
use Rattle.kernel_args.specs.declared.faults.ArgFault.{ArgFault}
use Rattle.machine_model.specs.State.Machine.{Machine}
use Rattle.xk_ports.specs.Told.{Grows, GrowsByProperPrefix}
use Rattle.xk_ports.specs.declared.host.FileSlot.TheVariants.{First, Second}
use Rattle.xous_program.specs.Headline.{IsComplete, IsInterrupted, IsRejected}
use Rattle.xous_program.specs.Outcome.Images.{Refuses}
use Rattle.xous_program.specs.Outcome.Plays.{AsksBoth, HasCause, RanFull, RanSomeSteps, RanWholeLines, Tells}
use Rattle.xous_program.specs.Outcome.Prefixes.{IsKnown, IsReadOut, Opened, ReadsFiles, ReadsLines, TellsNoEvents, WritesLines, WritesSteps}
use Rattle.xous_program.specs.Outcome.Said.{GivesRun, HasEvents, HasFault, HasImageFault, IsSaved, Run, Running, Starts, Task, event_file, status_of, tells_of, text_of}
use Rattle.xous_program.specs.Outcome.Sides.{Call, HasFile, HostRose, IsTrusted, IsUnwritten}
use Rattle.xous_program.specs.Outcome.Starts.{Booted, KnowsPages, StopsIn}
use Rattle.xous_program.specs.Words.{Command, Play}
use Rattle.program_status.specs.declared.status.Status.{Status}
use Rattle.program_status.specs.declared.status.Status.TheVariants.{Done, Usage, ReadFault, WriteFault, ImageFault, EventFault, StepLimit, SwapFault, NoMemory}

-- the three cases
abbrev pub Three : Command → Call → Status → Type 0
Three command call status = IsComplete command call ⊎ IsInterrupted command call status ⊎ IsRejected command call status

-- by the status that the call has
pub three_of : (command : Command) (call : Call) (status : Status) → call.status ≡ status → Three command call status → Three command call call.status
three_of command call status e three = let P : Status → Type 0 = λ s. Three command call s in subst P (sym e) three

-- ---- files that were asked for

pub first_unopened : (call : Call) (name : List ℕ) → AsksFor call.host.asked call.host.asked_after First name → Opened call false
first_unopened call name asked = (record { slot = First; name = name; picked = asked.0 } ∷ [], asked.1, refl)

-- where both were asked for, the event file was opened if it was picked
pub both_opened : (play : Play) (call : Call) (picked : Bool) → AsksBoth play call picked → Opened call picked
both_opened play call true asked = (
  record { slot = First; name = play.image; picked = true } ∷ record { slot = Second; name = play.events; picked = true } ∷ [],
  asked,
  refl,
)
both_opened play call false asked = (
  record { slot = First; name = play.image; picked = true } ∷ record { slot = Second; name = play.events; picked = false } ∷ [],
  asked,
  refl,
)

-- ---- before a run

pub refused_three : (command : Command) (call : Call) (name : List ℕ) (slots : Option ℕ) (status : Status) → ReadsFiles command → Opened call false
    → ((fault : ArgFault) → HasImageFault call.host.files name slots fault → HasFault call.host.files command fault)
    → Refuses call.host.files name slots (HostRose call) status → IsUnwritten call → Three command call status
refused_three command call name slots (ImageFault fault) reads unopened has refused unwritten = inr (inr (has fault refused, unwritten))
refused_three command call name slots ReadFault reads unopened has refused unwritten =
    inr (inl (refused, inl (record { reads = reads; unopened = unopened; unwritten = unwritten })))
refused_three command call name slots NoMemory reads unopened has refused unwritten = inr (inr (unopened, unwritten))
refused_three command call name slots Done reads unopened has refused unwritten = absurd refused
refused_three command call name slots Usage reads unopened has refused unwritten = absurd refused
refused_three command call name slots SwapFault reads unopened has refused unwritten = absurd refused
refused_three command call name slots WriteFault reads unopened has refused unwritten = absurd refused
refused_three command call name slots (EventFault line) reads unopened has refused unwritten = absurd refused
refused_three command call name slots (StepLimit limit) reads unopened has refused unwritten = absurd refused

pub stopped_three : (command : Command) (call : Call) (room : Room) (slots : ℕ) (name : Option (List ℕ)) (machine : Machine) (status : Status)
    → TellsNoEvents command call → Opened call false → StopsIn room slots name machine call.store status → Three command call status
stopped_three command call room slots name machine NoMemory none unopened stopped = inr (inr (unopened, none.unwritten))
stopped_three command call room slots name machine SwapFault none unopened stopped = inr (inl (stopped.0, inl none))
stopped_three command call room slots name machine Done none unopened stopped = absurd stopped
stopped_three command call room slots name machine Usage none unopened stopped = absurd stopped
stopped_three command call room slots name machine ReadFault none unopened stopped = absurd stopped
stopped_three command call room slots name machine WriteFault none unopened stopped = absurd stopped
stopped_three command call room slots name machine (ImageFault fault) none unopened stopped = absurd stopped
stopped_three command call room slots name machine (EventFault line) none unopened stopped = absurd stopped
stopped_three command call room slots name machine (StepLimit limit) none unopened stopped = absurd stopped

pub unpicked_three : (command : Command) (call : Call) → call.status ≡ ReadFault → HostRose call → ReadsFiles command → Opened call false → IsUnwritten call
    → Three command call call.status
unpicked_three command call e rose reads unopened unwritten =
    three_of command call ReadFault e (inr (inl (rose, inl (record { reads = reads; unopened = unopened; unwritten = unwritten }))))

-- ---- a run

-- the run of these events
abbrev pub run_over : Booted → ℕ → Input → Run
run_over booted limit input = record { booted = booted; limit = limit; input = input }

-- A command plays events as this one of those that tell, on what was booted.
pub record PlaysSo (command : Command) (call : Call) (play : Play) (booted : Booted) : Type 0 where
  pub starts : (input : Input) → Starts call.host.files command (run_over booted play.limit input)
  pub named : event_file command ≡ Some play.events
  pub events : (bytes : List ℕ) → IsFile call.host.files play.events bytes → HasEvents call.host.files command (input_of bytes)

pub given_over : (command : Command) (call : Call) (play : Play) (booted : Booted) (bytes : List ℕ) → PlaysSo command call play booted
    → IsFile call.host.files play.events bytes → GivesRun call.host.files command (run_over booted play.limit (input_of bytes))
given_over command call play booted bytes so is_file = record { starts = so.starts (input_of bytes); events = so.events bytes is_file }

pub lines_over : (command : Command) (call : Call) (play : Play) (booted : Booted) (bytes : List ℕ) → PlaysSo command call play booted
    → HasFile call.host.files play.events → IsReadOf call.host.files play.events call.host.left bytes
    → ReadsLines command call (run_over booted play.limit (input_of (whole_lines bytes)))
lines_over command call play booted bytes so there read = record {
  starts = so.starts (input_of (whole_lines bytes));
  name = play.events;
  named = so.named;
  there = there;
  bytes = bytes;
  read = read;
  lines = refl;
}

pub known_over : (command : Command) (call : Call) (play : Play) (booted : Booted) (bytes : List ℕ) → PlaysSo command call play booted → IsKnown command call
    → IsFile call.host.files play.events bytes → KnowsPages call.store booted play.limit (input_of bytes).events
known_over command call play booted bytes so known is_file =
    known (run_over booted play.limit (input_of bytes)) (inl (given_over command call play booted bytes so is_file))

pub known_lines : (command : Command) (call : Call) (play : Play) (booted : Booted) (bytes : List ℕ) → PlaysSo command call play booted → IsKnown command call
    → HasFile call.host.files play.events → IsReadOf call.host.files play.events call.host.left bytes
    → KnowsPages call.store booted play.limit (input_of (whole_lines bytes)).events
known_lines command call play booted bytes so known there read =
    known (run_over booted play.limit (input_of (whole_lines bytes))) (inr (lines_over command call play booted bytes so there read))

-- a store that failed is trusted, since some state of the run is full
pub trusted_over : (command : Command) (call : Call) (play : Play) (booted : Booted) → PlaysSo command call play booted → IsKnown command call
    → RanFull play booted.room booted.machine call → IsTrusted call.store booted.slots
trusted_over command call play booted so known ran = go (known_over command call play booted ran.events so known ran.is_file)
  where
    go : KnowsPages call.store booted play.limit (input_of ran.events).events → IsTrusted call.store booted.slots
    go (inl trusted) = trusted
    go (inr never) = absurd (never ran.full)

-- ---- a run that is told

-- the command writes what is told
pub record TellsSo (command : Command) (play : Play) : Type 0 where
  pub text : (h : History) → text_of command h ≡ output play.tells h
  pub tells : tells_of command ≡ play.tells
  pub saved : (task : Task) → IsSaved command task

-- what it tells as records come
puts_told : (command : Command) (play : Play) (before after : Option (List ℕ)) (h : History) → tells_of command ≡ play.tells
    → Puts before after (told play.tells h.records) → Puts before after (told (tells_of command) h.records)
puts_told command play before after h tells puts =
    let P : Telling → Type 0 = λ tells. Puts before after (told tells h.records) in subst P (sym tells) puts

pub lines_told : (command : Command) (call : Call) (play : Play) (booted : Booted) → PlaysSo command call play booted → tells_of command ≡ play.tells
    → IsKnown command call → Opened call true → RanWholeLines play booted call → WritesLines command call
lines_told command call play booted so tells known opened ran =
    let wrote = ran.exact (known_lines command call play booted ran.bytes so known ran.there ran.read) in
    record {
      opened = opened;
      run = run_over booted play.limit (input_of (whole_lines ran.bytes));
      read = lines_over command call play booted ran.bytes so ran.there ran.read;
      played = wrote.ended;
      written = puts_told command play call.out.written call.out.written_after (run_of play.limit booted.machine (whole_lines ran.bytes)) tells
          (record { grown = wrote.written; still = wrote.still });
    }

complete_told : (command : Command) (call : Call) (play : Play) (booted : Booted) (bytes : List ℕ) (status : Status) (ending : Ending)
    → PlaysSo command call play booted → TellsSo command play → IsFile call.host.files play.events bytes
    → call.status ≡ status → status ≡ status_of play.limit ending → (run_of play.limit booted.machine bytes).ending ≡ ending
    → Grows call.out.written call.out.written_after (output play.tells (run_of play.limit booted.machine bytes))
    → (call.status ≡ Done → IsReadOut command call) → IsComplete command call
complete_told command call play booted bytes status ending so tell is_file is stated ended written read =
    let h = run_of play.limit booted.machine bytes in
    let T : List ℕ → Type 0 = λ text. Grows call.out.written call.out.written_after text in
    let run : Run = run_over booted play.limit (input_of bytes) in
    record {
      task = Running run;
      given = given_over command call play booted bytes so is_file;
      status = is ∙ stated ∙ ap (status_of play.limit) (sym ended);
      written = subst T (sym (tell.text h)) written;
      read = read;
      saved = tell.saved (Running run);
    }

steps_told : (command : Command) (call : Call) (play : Play) (booted : Booted) → PlaysSo command call play booted → TellsSo command play → Opened call true
    → (ran : RanSomeSteps play booted call) → IsTrusted call.store booted.slots → WritesSteps command call
steps_told command call play booted so tell opened ran trusted =
    let some = (ran.exact trusted).some in
    record {
      opened = opened;
      run = run_over booted play.limit (input_of ran.events);
      given = given_over command call play booted ran.events so ran.is_file;
      done = some.done;
      within = some.within;
      met = some.met;
      written = puts_told command play call.out.written call.out.written_after (run_of some.done booted.machine ran.events) tell.tells
          (record { grown = some.written; still = some.still });
    }

pub told_three : (command : Command) (call : Call) (play : Play) (booted : Booted) (status : Status)
    → PlaysSo command call play booted → TellsSo command play → IsKnown command call → Opened call true → call.status ≡ status
    → HasCause play booted.room booted.machine call status → Tells play booted call status → (call.status ≡ Done → IsReadOut command call) → Three command call status
told_three command call play booted Done so tell known opened is cause ran read =
    let wrote = ran.exact (known_over command call play booted ran.events so known ran.is_file) in
    inl (complete_told command call play booted ran.events Done Played so tell ran.is_file is refl wrote.ended wrote.written read)
told_three command call play booted (EventFault line) so tell known opened is cause ran read =
    let wrote = ran.exact (known_over command call play booted ran.events so known ran.is_file) in
    inl (complete_told command call play booted ran.events (EventFault line) (BadLine line) so tell ran.is_file is refl wrote.ended wrote.written read)
told_three command call play booted (StepLimit limit) so tell known opened is cause ran read =
    let wrote = ran.exact (known_over command call play booted ran.events so known ran.is_file) in
    inl (complete_told command call play booted ran.events (StepLimit limit) LimitMet so tell ran.is_file is (ap (λ (l : ℕ). StepLimit l) cause) wrote.ended wrote.written read)
told_three command call play booted SwapFault so tell known opened is cause ran read =
    inr (inl (cause.0, inr (steps_told command call play booted so tell opened ran (trusted_over command call play booted so known cause.1))))
told_three command call play booted WriteFault so tell known opened is cause ran read =
    let h = run_of play.limit booted.machine ran.events in
    let T : List ℕ → Type 0 = λ text. GrowsByProperPrefix call.out.written call.out.written_after text in
    inr (inl (
      cause,
      record {
        task = Running (run_over booted play.limit (input_of ran.events));
        given = given_over command call play booted ran.events so ran.is_file;
        written = subst T (sym (tell.text h)) (ran.exact (known_over command call play booted ran.events so known ran.is_file));
      },
    ))
told_three command call play booted ReadFault so tell known opened is cause ran read =
    inr (inl (cause, inr (lines_told command call play booted so tell.tells known opened ran)))
told_three command call play booted Usage so tell known opened is cause ran read = absurd ran
told_three command call play booted NoMemory so tell known opened is cause ran read = absurd ran
told_three command call play booted (ImageFault fault) so tell known opened is cause ran read = absurd ran
