-- The parts of a call, put together.
use Rattle.std.proofs.Common.{◌≡◌, ◌≤◌, inl, inr, ℕ, Bool, List, [], ◌∷◌, ◌++◌, Option, Some, None, true, false, refl, sym, ap, ◌∙◌, subst, arith}
use Rattle.xk_base.specs.Outside.{Rose}
use Rattle.xk_ports.specs.Host.{FileAsked, IsLeftOf}
use Rattle.xk_ports.specs.Store.{StoreAsked}
use Rattle.xk_ports.specs.Told.{Grows, GrowsByProperPrefix}
use Rattle.xk_ports.specs.declared.host.FileSlot.TheVariants.{First, Second}
use Rattle.xk_ports.proofs.ToldLemmas.{Grows-append}
use Rattle.event_text.specs.EventFile.{input_of}
use Rattle.machine_model.specs.State.Machine.{Machine}
use Rattle.event_player.specs.declared.telling.Telling.{Telling}
use Rattle.event_player.specs.declared.ending.Ending.{Ending}
use Rattle.event_player.specs.declared.ending.Ending.TheVariants.{Played, LimitMet, BadLine}
use Rattle.program_status.specs.declared.status.Status.{Status}
use Rattle.program_status.specs.declared.status.Status.TheVariants.{Done, Usage, ReadFault, WriteFault, ImageFault, EventFault, StepLimit, SwapFault, NoMemory}
use Rattle.xous_program.specs.Finish.{EndsBooted, Finishes, Starts}
use Rattle.event_player.specs.History.{History, MayEnd, run_of}
use Rattle.xous_program.specs.Outcome.Plays.{AsksBoth, EndsPlay, HasCause, Ran, RanWholeLines, Tells}
use Rattle.xous_program.specs.Outcome.Sides.{Call, HasFile, Prepares, StoreSide, Told}
use Rattle.event_player.specs.Rooms.{Room}
use Rattle.xous_program.specs.Outcome.Starts.{Booted, KnowsPages, room_of}
use Rattle.xous_program.specs.Outcome.Images.{plan_in}
use Rattle.host_io.specs.Reading.{Asked, IsFile, IsTold}
use Rattle.host_io.proofs.ToldLemmas.{front_later, front_longer}
use Rattle.event_player.specs.Telling.{closing, output, told}
use Rattle.xous_program.specs.Words.{Play}
use Rattle.event_player.specs.Writing.{Wrote}

-- a count that rose later rose
pub rose_after : (old mid new : ℕ) → old ≤ mid → Rose mid new → Rose old new
rose_after old mid new later rose = omega arith

-- ---- what is told

same_closing : (tells : Telling) (h : History) (ending : Ending) (m : Machine) → h.ending ≡ ending → m ≡ h.machine → closing tells m ending ≡ closing tells h.machine h.ending
same_closing tells h ending m is there =
    ap (λ (x : Machine). closing tells x ending) there ∙ ap (λ (e : Ending). closing tells h.machine e) (sym is)

pub grows_whole : (tells : Telling) (before mid after : Option (List ℕ)) (h : History) (ending : Ending) (m : Machine) → h.ending ≡ ending → m ≡ h.machine
    → Grows before mid (told tells h.records) → Grows mid after (closing tells m ending) → Grows before after (output tells h)
grows_whole tells before mid after h ending m is there first last =
    let P : List ℕ → Type 0 = λ text. Grows before after (told tells h.records ++ text) in
    subst P (same_closing tells h ending m is there) (Grows-append before mid after (told tells h.records) (closing tells m ending) first last)

pub front_whole : (tells : Telling) (before mid after : Option (List ℕ)) (h : History) (ending : Ending) (m : Machine) → h.ending ≡ ending → m ≡ h.machine
    → Grows before mid (told tells h.records) → GrowsByProperPrefix mid after (closing tells m ending) → GrowsByProperPrefix before after (output tells h)
front_whole tells before mid after h ending m is there first last =
    let P : List ℕ → Type 0 = λ text. GrowsByProperPrefix before after (told tells h.records ++ text) in
    subst P (same_closing tells h ending m is there) (front_later before mid after (told tells h.records) (closing tells m ending) first last)

-- a part of what is told as the records come is a part of all that is told
pub part_of_whole : (tells : Telling) (before after : Option (List ℕ)) (h : History) → GrowsByProperPrefix before after (told tells h.records)
    → GrowsByProperPrefix before after (output tells h)
part_of_whole tells before after h front = front_longer before after (told tells h.records) (closing tells h.machine h.ending) front

-- ---- the event file

-- a file that was opened is there
pub has_file : (file : Told) (name : List ℕ) (left : Option (List ℕ)) → IsLeftOf file name left → HasFile file name
has_file None name left of = tt
has_file (Some file) name left of = (of file refl).0

pub finished_cause : (play : Play) (room : Room) (machine last : Machine) (call : Call) (mid : Option (List ℕ)) (faults : ℕ) (ending : Ending) (status : Status)
    → call.out.faults ≤ faults
    → Finishes play last ending (record { written = mid; written_after = call.out.written_after; faults = faults; faults_after = call.out.faults_after }) status
    → HasCause play room machine call status
finished_cause play room machine last call mid faults ending Done later finished = tt
finished_cause play room machine last call mid faults ending (EventFault line) later finished = tt
finished_cause play room machine last call mid faults ending (StepLimit limit) later finished = finished.0
finished_cause play room machine last call mid faults ending WriteFault later finished = rose_after call.out.faults faults call.out.faults_after later finished.0
finished_cause play room machine last call mid faults ending Usage later finished = absurd finished
finished_cause play room machine last call mid faults ending SwapFault later finished = absurd finished
finished_cause play room machine last call mid faults ending ReadFault later finished = absurd finished
finished_cause play room machine last call mid faults ending NoMemory later finished = absurd finished
finished_cause play room machine last call mid faults ending (ImageFault fault) later finished = absurd finished

-- what the history is, where what the pages hold is known, and what was written of it as its records came
abbrev pub Came : Play → Booted → Machine → Call → Option (List ℕ) → List ℕ → Ending → Type 0
Came play booted last call mid events ending =
    KnowsPages call.store booted play.limit (input_of events).events
    → Wrote play.tells call.out.written mid (run_of play.limit booted.machine events) ending × (last ≡ (run_of play.limit booted.machine events).machine)

ran_out : (play : Play) (booted : Booted) (last : Machine) (call : Call) (mid : Option (List ℕ)) (events : List ℕ) (ending is : Ending)
    → IsFile call.host.files play.events events → MayEnd (input_of events) ending → Came play booted last call mid events ending → ending ≡ is
    → Grows mid call.out.written_after (closing play.tells last ending) → Ran play booted call is
ran_out play booted last call mid events ending is is_file may came same written = record {
  events = events;
  is_file = is_file;
  may = subst (MayEnd (input_of events)) same may;
  exact = λ known.
      let all = came known in
      record {
        ended = all.0.ended ∙ same;
        written = grows_whole play.tells call.out.written mid call.out.written_after (run_of play.limit booted.machine events) ending last all.0.ended all.1 all.0.written written;
      };
}

pub finished_tells : (play : Play) (booted : Booted) (last : Machine) (call : Call) (mid : Option (List ℕ)) (faults : ℕ) (events : List ℕ) (ending : Ending) (status : Status)
    → IsFile call.host.files play.events events → MayEnd (input_of events) ending → Came play booted last call mid events ending
    → Finishes play last ending (record { written = mid; written_after = call.out.written_after; faults = faults; faults_after = call.out.faults_after }) status
    → Tells play booted call status
finished_tells play booted last call mid faults events ending Done is_file may came finished =
    ran_out play booted last call mid events ending Played is_file may came finished.0 finished.1
finished_tells play booted last call mid faults events ending (EventFault line) is_file may came finished =
    ran_out play booted last call mid events ending (BadLine line) is_file may came finished.0 finished.1
finished_tells play booted last call mid faults events ending (StepLimit limit) is_file may came finished =
    ran_out play booted last call mid events ending LimitMet is_file may came finished.1 finished.2
finished_tells play booted last call mid faults events ending WriteFault is_file may came finished = record {
  events = events;
  is_file = is_file;
  exact = λ known.
      let all = came known in
      front_whole play.tells call.out.written mid call.out.written_after (run_of play.limit booted.machine events) ending last all.0.ended all.1 all.0.written finished.1;
}
finished_tells play booted last call mid faults events ending Usage is_file may came finished = absurd finished
finished_tells play booted last call mid faults events ending SwapFault is_file may came finished = absurd finished
finished_tells play booted last call mid faults events ending ReadFault is_file may came finished = absurd finished
finished_tells play booted last call mid faults events ending NoMemory is_file may came finished = absurd finished
finished_tells play booted last call mid faults events ending (ImageFault fault) is_file may came finished = absurd finished

-- ---- a call that began earlier

-- what was asked for, and the counts, when the call began
pub record Before : Type 0 where
  pub files_asked : Option (List FileAsked)
  pub host_faults : ℕ
  pub prepared : Option (List StoreAsked)
  pub store_faults : ℕ

-- the same call from there, at a host of these files
abbrev pub begun_at : Told → Before → Call → Call
begun_at files before call = record call {
  host = record call.host { files = files; asked = before.files_asked; faults = before.host_faults };
  store = record call.store { asked = before.prepared; faults = before.store_faults };
}

-- the counts didn't fall before
pub record IsBefore (before : Before) (call : Call) : Type 0 where
  pub host : before.host_faults ≤ call.host.faults
  pub store : before.store_faults ≤ call.store.faults

pub cause_earlier : (play : Play) (room : Room) (machine : Machine) (before : Before) (call : Call) (status : Status) → IsBefore before call
    → HasCause play room machine call status → HasCause play room machine (begun_at call.host.files before call) status
cause_earlier play room machine before call Done later cause = tt
cause_earlier play room machine before call (EventFault line) later cause = tt
cause_earlier play room machine before call (StepLimit limit) later cause = cause
cause_earlier play room machine before call ReadFault later cause = rose_after before.host_faults call.host.faults call.host.faults_after later.host cause
cause_earlier play room machine before call WriteFault later cause = cause
cause_earlier play room machine before call SwapFault later cause = (
  rose_after before.store_faults call.store.faults call.store.faults_after later.store cause.0,
  record { events = cause.1.events; is_file = cause.1.is_file; full = cause.1.full },
)
cause_earlier play room machine before call Usage later cause = absurd cause
cause_earlier play room machine before call NoMemory later cause = absurd cause
cause_earlier play room machine before call (ImageFault fault) later cause = absurd cause

ran_earlier : (play : Play) (booted : Booted) (before : Before) (call : Call) (ending : Ending) → Ran play booted call ending
    → Ran play booted (begun_at call.host.files before call) ending
ran_earlier play booted before call ending ran = record {
  events = ran.events;
  is_file = ran.is_file;
  may = ran.may;
  exact = λ known. let all = ran.exact known in record { ended = all.ended; written = all.written };
}

pub lines_earlier : (play : Play) (booted : Booted) (before : Before) (call : Call) → RanWholeLines play booted call
    → RanWholeLines play booted (begun_at call.host.files before call)
lines_earlier play booted before call ran =
    record { there = ran.there; bytes = ran.bytes; read = ran.read; may = ran.may; exact = λ known. ran.exact known; silent = λ silent. ran.silent silent }

pub tells_earlier : (play : Play) (booted : Booted) (before : Before) (call : Call) (status : Status) → Tells play booted call status
    → Tells play booted (begun_at call.host.files before call) status
tells_earlier play booted before call Done told = ran_earlier play booted before call Played told
tells_earlier play booted before call (EventFault line) told = ran_earlier play booted before call (BadLine line) told
tells_earlier play booted before call (StepLimit limit) told = ran_earlier play booted before call LimitMet told
tells_earlier play booted before call SwapFault told =
    record { events = told.events; is_file = told.is_file; exact = λ trusted. let all = told.exact trusted in record { some = all.some; soon = all.soon }; silent = λ silent. told.silent silent }
tells_earlier play booted before call WriteFault told = record { events = told.events; is_file = told.is_file; exact = λ known. told.exact known }
tells_earlier play booted before call ReadFault told = lines_earlier play booted before call told
tells_earlier play booted before call Usage told = absurd told
tells_earlier play booted before call NoMemory told = absurd told
tells_earlier play booted before call (ImageFault fault) told = absurd told

abbrev pub booted_as : Machine → Room → ℕ → Booted
booted_as machine room slots = record { machine = machine; room = room; slots = slots }

-- what was booted, by its room and its slots
pub booted_is : (booted : Booted) (room : Room) (slots : ℕ) → booted.room ≡ room → booted.slots ≡ slots → booted ≡ booted_as booted.machine room slots
booted_is booted room slots rooms same =
    ap (λ (r : Room). booted_as booted.machine r booted.slots) rooms ∙ ap (λ (s : ℕ). booted_as booted.machine room s) same

-- both files were asked for
pub asks_both : (play : Play) (before : Before) (call : Call) (picked : Bool)
    → Asked before.files_asked call.host.asked First play.image true → Asked call.host.asked call.host.asked_after Second play.events picked
    → AsksBoth play (begun_at call.host.files before call) picked
asks_both play before call picked first second =
    Grows-append before.files_asked call.host.asked call.host.asked_after (record { slot = First; name = play.image; picked = true } ∷ []) (record { slot = Second; name = play.events; picked = picked } ∷ []) first second

-- ---- whole calls

-- the store was prepared before the run began, and no more preparations were asked for
pub prepared_earlier : (play : Play) (booted : Booted) (before : Before) (call : Call) (side : StoreSide) (starts : Starts play call.host.files booted side)
    → side.asked ≡ before.prepared → side.asked_after ≡ call.store.asked → call.store.asked_after ≡ call.store.asked
    → Prepares (begun_at call.host.files before call).store (plan_in starts.image).slots play.store true
prepared_earlier play booted before call side starts first last stays =
    let S : ℕ → Type 0 = λ slots. Prepares side slots play.store true in
    let A : Option (List StoreAsked) → Type 0 = λ asked. Grows asked side.asked_after (record { slots = (plan_in starts.image).slots; name = play.store; prepared = true } ∷ []) in
    let B : Option (List StoreAsked) → Type 0 = λ asked. Grows before.prepared asked (record { slots = (plan_in starts.image).slots; name = play.store; prepared = true } ∷ []) in
    subst B (last ∙ sym stays) (subst A first (subst S starts.slots starts.prepared))

ends_earlier : (play : Play) (booted : Booted) (before : Before) (call : Call) (side : StoreSide) → Starts play call.host.files booted side
    → side.asked ≡ before.prepared → side.asked_after ≡ call.store.asked → call.store.asked_after ≡ call.store.asked
    → IsBefore before call → Asked before.files_asked call.host.asked First play.image true → IsTold call.host.image_left []
    → EndsBooted play booted call → EndsPlay play (begun_at call.host.files before call)
ends_earlier play booted before call side starts first last stays later asked read (inl unpicked) =
    inr (inr (inl (record {
      asked = asks_both play before call false asked unpicked.asked;
      ended = unpicked.ended;
      cause = rose_after before.host_faults call.host.faults call.host.faults_after later.host unpicked.cause;
      machine = booted.machine;
      image = starts.image;
      prepared = prepared_earlier play booted before call side starts first last stays;
      unwritten = unpicked.unwritten;
    })))
ends_earlier play booted before call side starts first last stays later asked read (inr picked) =
    let R : Room → Type 0 = λ room. HasCause play room booted.machine call call.status in
    let T : Booted → Type 0 = λ b. Tells play b (begun_at call.host.files before call) call.status in
    inr (inr (inr (record {
      asked = asks_both play before call true asked picked.asked;
      machine = booted.machine;
      image = starts.image;
      prepared = prepared_earlier play booted before call side starts first last stays;
      cause = cause_earlier play (room_of (plan_in starts.image)) booted.machine before call call.status later (subst R starts.room picked.cause);
      content = subst T (booted_is booted (room_of (plan_in starts.image)) (plan_in starts.image).slots starts.room starts.slots)
          (tells_earlier play booted before call call.status picked.content);
      image_read = λ done. read;
      events_read = picked.events_read;
    })))

pub ends_booted : (play : Play) (booted : Booted) (files : Told) (before : Before) (call : Call) (side : StoreSide) → call.host.files ≡ files → Starts play files booted side
    → side.asked ≡ before.prepared → side.asked_after ≡ call.store.asked → call.store.asked_after ≡ call.store.asked
    → IsBefore before call → Asked before.files_asked call.host.asked First play.image true → IsTold call.host.image_left []
    → EndsBooted play booted call → EndsPlay play (begun_at files before call)
ends_booted play booted files before call side same starts first last stays later asked read ended =
    let S : Told → Type 0 = λ f. Starts play f booted side in
    let P : Told → Type 0 = λ f. EndsPlay play (begun_at f before call) in
    subst P same (ends_earlier play booted before call side (subst S (sym same) starts) first last stays later asked read ended)
