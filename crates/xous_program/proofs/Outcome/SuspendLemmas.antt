-- The parts of a call of `suspend`, put together.
use Rattle.std.proofs.Common.{◌≡◌, ◌<◌, ◌≤◌, ◌+◌, ◌⊎◌, inl, inr, ℕ, Bool, true, false, List, [], ◌∷◌, length, Option, Some, None, Result, Ok, Err, IfErr, IsErrAnd}
use Rattle.std.proofs.Common.{refl, sym, ap, ◌∙◌, subst, arith}
use Rattle.boot_plan.specs.Capacity.{capacity, page_frames}
use Rattle.boot_plan.specs.declared.plans.BootPlan.{BootPlan}
use Rattle.event_text.specs.EventFile.{input_of}
use Rattle.machine_model.specs.Runs.Matched.{Matched}
use Rattle.machine_model.specs.State.Machine.{Machine}
use Rattle.suspend_image.specs.Saveable.{IsSpellable}
use Rattle.suspend_image.specs.Sheets.{room_for}
use Rattle.suspend_image.specs.StateBytes.{saved_bytes}
use Rattle.sv32_space.specs.Tie.{Held}
use Rattle.vm_memory.specs.Memory.{Size, capacity_of, processes as processes_in, size}
use Rattle.xk_base.specs.Outside.{Rose}
use Rattle.xk_base.specs.declared.records.Rec.{Rec}
use Rattle.machine_laws.specs.HistoryMoments.{moments_of}
use Rattle.xk_kernel.specs.Sound.{Keeps}
use Rattle.xk_kernel.specs.State.{machine_of}
use Rattle.xk_kernel.specs.declared.kernel.Kernel.{Kernel}
use Rattle.xk_ports.specs.declared.store.SwapStore.{Ghosts as SwapStore}
use Rattle.xk_ports.specs.Host.{IsLeftOf}
use Rattle.xk_ports.specs.Told.{Grows, GrowsByProperPrefix}
use Rattle.xk_ports.specs.declared.host.FileSlot.TheVariants.{First}
use Rattle.event_player.specs.declared.telling.Telling.TheVariants.{Nothing}
use Rattle.event_player.specs.declared.ending.Ending.{Ending}
use Rattle.event_player.specs.declared.ending.Ending.TheVariants.{Played, LimitMet, BadLine}
use Rattle.program_status.specs.declared.status.Status.{Status}
use Rattle.program_status.specs.declared.status.Status.TheVariants.{Done, Usage, ReadFault, WriteFault, ImageFault, EventFault, StepLimit, SwapFault, NoMemory}
use Rattle.xous_program.specs.Finish.{EndsSilently, HasSaveCause, SavesState, Starts}
use Rattle.event_player.specs.Gathering.{StaysSilent, Text}
use Rattle.event_player.specs.History.{History, MayEnd, run_of}
use Rattle.xous_program.specs.Outcome.Images.{plan_in}
use Rattle.xous_program.specs.Outcome.Plays.{HasCause, RanFull}
use Rattle.xous_program.specs.Outcome.Sides.{Call, StoreSide, Told}
use Rattle.program_status.specs.Notes.{SinkSide}
use Rattle.event_player.specs.Rooms.{ComesFull, Room}
use Rattle.xous_program.specs.Outcome.Starts.{Booted, KnowsPages, room_of}
use Rattle.xous_program.specs.Outcome.Suspends.{EndsSuspend, RanUnsaved, Saves, saved_at, saved_of, silent}
use Rattle.event_player.specs.Playing.{PlaysOut, Run, run_from}
use Rattle.machine_laws.specs.Reserved.{IsReservedByThread}
use Rattle.host_io.specs.Reading.{Asked, IsFile, IsTold}
use Rattle.event_player.specs.Standing.{Stand, room_in}
use Rattle.event_player.specs.Telling.{is_silent, told}
use Rattle.xous_program.specs.Words.{Play, Suspend}
use Rattle.machine_laws.proofs.Histories.ReservedLemmas.{history_reserved}
use Rattle.xous_program.proofs.Outcome.TopLemmas.{Before, IsBefore, asks_both, begun_at, booted_is, cause_earlier, lines_earlier, prepared_earlier, rose_after}
use Rattle.xous_program.proofs.Outcome.TrustLemmas.{full_on}
use Rattle.host_io.proofs.ReadingLemmas.{told_file}
use Rattle.event_player.proofs.Playing.GatheringLemmas.{second_none}

-- ---- the start

-- what holds of an error holds of an answer that is it
pub if_error : {T E : Type 0} (r : Result T E) (P : E → Type 0) (e : E) → IsErrAnd r (λ x. x ≡ e) → P e → IfErr r P
if_error (Ok x) P e same p = tt
if_error (Err x) P e same p = subst P (sym same) p

at_most_itself : (n : ℕ) → n ≤ n
at_most_itself n = omega arith

-- a sheet that was made for a plan has the room that every state of its run has
pub sheet_room : {W : Type 0} (held : W → Held) (k : Kernel W) (plan : BootPlan) (n cap room : ℕ) → room_in k ≡ room_of plan
    → (size k.mem).slots ≡ plan.slots → n ≡ length plan.procs → cap ≡ capacity plan.frames (length plan.procs) plan.slots → room ≡ room_for n cap
    → room_for (machine_of held k).processes (machine_of held k).capacity ≤ room
unfolding machine_of
sheet_room held k plan n cap room same slots processes pages is =
    let own : ℕ = room_for (processes_in k.mem) (capacity_of k.mem) in
    let needed : own ≡ room_for (length plan.procs) (capacity plan.frames (length plan.procs) plan.slots) =
    ap (λ (r : Room). room_for r.processes (r.frames + (size k.mem).slots)) same
    ∙ ap (λ (s : ℕ). room_for (length plan.procs) (page_frames plan.frames (length plan.procs) + s)) slots in
    let made : room ≡ room_for (length plan.procs) (capacity plan.frames (length plan.procs) plan.slots) =
    is ∙ (ap (λ (x : ℕ). room_for x cap) processes ∙ ap (λ (x : ℕ). room_for (length plan.procs) x) pages) in
    let L : ℕ → Type 0 = λ x. own ≤ x in
    subst L (needed ∙ sym made) (at_most_itself own)

-- .. which stays so
pub room_kept : {W : Type 0} {S : SwapStore W} {old new : Kernel W} (room : ℕ)
    → Keeps S old new → room_for (machine_of S.held old).processes (machine_of S.held old).capacity ≤ room
    → room_for (machine_of S.held new).processes (machine_of S.held new).capacity ≤ room
unfolding machine_of
room_kept room keeps within =
    let F : Size → Type 0 = λ s. room_for s.procs (capacity s.area.frames s.procs s.slots) ≤ room in subst F (sym keeps.size) within

-- ---- nothing is told

nothing_told : (records : List Rec) → told Nothing records ≡ []
nothing_told [] = refl
nothing_told (rec ∷ records) = nothing_told records

-- a sink on which nothing stands of a run wasn't touched
pub untouched : {W : Type 0} {S : SwapStore W} (run : Run S) (now : Stand) → run.tells ≡ Nothing → run.begun.held ≡ [] → StaysSilent run.tells run.begun now.text → now.text.out ≡ run.begun.out
untouched run now nothing none stays = ap (λ (t : Text). t.out) (stays (ap is_silent nothing) none)

-- ---- the last state

-- in a state without a reservation, each reservation is that of a thread
unreserved_known : (m : Machine) → m.reserved ≡ None → IsReservedByThread m
unreserved_known m none = λ r is. absurd (let d : None ≡ Some r = sym none ∙ is in cc)

-- its reservation is that of a thread of the processes
pub last_reserver : (limit : ℕ) (events : List ℕ) (old start last : Machine) → old ≡ start → Matched old → old.reserved ≡ None
    → last ≡ (run_of limit start events).machine → IsReservedByThread last
last_reserver limit events old start last is matched none there =
    let known : IsReservedByThread start = subst IsReservedByThread is (unreserved_known old none) in
    subst IsReservedByThread (sym there) (history_reserved (input_of events).events limit start (subst Matched is matched) known)

-- where a page is out at the end of the events, some state of the run had more pages than there are frames for
pub full_where_out : {W : Type 0} (S : SwapStore W) (first : Kernel W) (play : Play) (room : Room) (start : Machine) (call : Call) (begun : Text) (left : Option (List ℕ)) (now : Stand)
    → IsLeftOf call.host.files play.events left → now.room ≡ room → PlaysOut (run_from S first play.tells play.limit start begun) left now Played
    → now.near ≡ false → RanFull play room start call
full_where_out S first play room start call begun left now of same plays out = record {
  events = plays.bytes;
  is_file = told_file call.host.files play.events left plays.bytes of plays.file;
  full = go (plays.near refl);
}
  where
    go : (now.near ≡ true) ⊎ ComesFull now.room start (moments_of (input_of plays.bytes).events play.limit start)
        → ComesFull room start (moments_of (input_of plays.bytes).events play.limit start)
    go (inl near) = absurd (cc)
    go (inr full) = full_on room now.room start (moments_of (input_of plays.bytes).events play.limit start) same full

pub saved_cause : (play : Play) (room : Room) (machine : Machine) (call : Call) (near : Bool) (mid : Option (List ℕ)) (faults : ℕ) (store : StoreSide)
    (status : Status) → call.out.faults ≤ faults → call.store.faults ≤ store.faults → store.faults_after ≡ call.store.faults_after
    → (near ≡ false → RanFull play room machine call)
    → HasSaveCause near (record {
      written = mid;
      written_after = call.out.written_after;
      faults = faults;
      faults_after = call.out.faults_after;
    }) store status → HasCause play room machine call status
saved_cause play room machine call near mid faults store Done later before same full cause = tt
saved_cause play room machine call near mid faults store WriteFault later before same full cause =
    rose_after call.out.faults faults call.out.faults_after later cause
saved_cause play room machine call near mid faults store SwapFault later before same full cause =
    let R : ℕ → Type 0 = λ after. Rose store.faults after in
    (rose_after call.store.faults store.faults call.store.faults_after before (subst R same cause.0), full cause.1)
saved_cause play room machine call near mid faults store Usage later before same full cause = absurd cause
saved_cause play room machine call near mid faults store ReadFault later before same full cause = absurd cause
saved_cause play room machine call near mid faults store NoMemory later before same full cause = absurd cause
saved_cause play room machine call near mid faults store (ImageFault fault) later before same full cause = absurd cause
saved_cause play room machine call near mid faults store (EventFault line) later before same full cause = absurd cause
saved_cause play room machine call near mid faults store (StepLimit limit) later before same full cause = absurd cause

-- the history of the events was played, to this machine, and this was saved
pub record SavedFrom (suspend : Suspend) (start last : Machine) (events : List ℕ) (out : SinkSide) (status : Status) : Type 0 where
  pub ended : (run_of suspend.limit start events).ending ≡ Played
  pub there : last ≡ (run_of suspend.limit start events).machine
  pub saved : SavesState last out status

-- .. where what the pages hold is known
abbrev pub CameTo : Suspend → Booted → Machine → Call → List ℕ → SinkSide → Status → Type 0
CameTo suspend booted last call events out status =
    KnowsPages call.store booted suspend.limit (input_of events).events → SavedFrom suspend booted.machine last events out status

pub saved_tells : (suspend : Suspend) (booted : Booted) (last : Machine) (call : Call) (near : Bool) (mid : Option (List ℕ)) (faults : ℕ) (store : StoreSide)
    (events : List ℕ) (status : Status) → IsFile call.host.files suspend.events events → MayEnd (input_of events) Played → mid ≡ call.out.written
    → CameTo suspend booted last call events (record {
      written = mid;
      written_after = call.out.written_after;
      faults = faults;
      faults_after = call.out.faults_after;
    }) status
    → HasSaveCause near (record {
      written = mid;
      written_after = call.out.written_after;
      faults = faults;
      faults_after = call.out.faults_after;
    }) store status → Saves suspend booted call status
saved_tells suspend booted last call near mid faults store events Done is_file may same came cause = record {
  events = events;
  is_file = is_file;
  may = may;
  exact = λ known.
      let all = came known in
      let G : Option (List ℕ) → Type 0 = λ out. Grows out call.out.written_after (saved_bytes last) in
      let M : Machine → Type 0 = λ m. Grows call.out.written call.out.written_after (saved_bytes m) in
      record { ended = all.ended; spelled = subst IsSpellable all.there all.saved.0; written = subst M all.there (subst G same all.saved.1) };
}
saved_tells suspend booted last call near mid faults store events WriteFault is_file may same came cause = record {
  events = events;
  is_file = is_file;
  exact = λ known.
      let all = came known in
      let h : History = run_of suspend.limit booted.machine events in
      let G : Option (List ℕ) → Type 0 = λ out. GrowsByProperPrefix out call.out.written_after (saved_bytes last) in
      let B : List ℕ → Type 0 = λ bytes. GrowsByProperPrefix call.out.written call.out.written_after bytes in
      let whole : saved_bytes last ≡ saved_of h = ap saved_bytes all.there ∙ ap (λ (e : Ending). saved_at h.machine e) (sym all.ended) in
      subst B whole (subst G same all.saved);
}
saved_tells suspend booted last call near mid faults store events SwapFault is_file may same came cause = cause.2 ∙ same
saved_tells suspend booted last call near mid faults store events Usage is_file may same came cause = absurd cause
saved_tells suspend booted last call near mid faults store events ReadFault is_file may same came cause = absurd cause
saved_tells suspend booted last call near mid faults store events NoMemory is_file may same came cause = absurd cause
saved_tells suspend booted last call near mid faults store events (ImageFault fault) is_file may same came cause = absurd cause
saved_tells suspend booted last call near mid faults store events (EventFault line) is_file may same came cause = absurd cause
saved_tells suspend booted last call near mid faults store events (StepLimit limit) is_file may same came cause = absurd cause

-- nothing is told as records come: no write of it can have failed
pub part_of_saved : (before after : Option (List ℕ)) (h : History) → GrowsByProperPrefix before after (told Nothing h.records)
    → GrowsByProperPrefix before after (saved_of h)
part_of_saved before after h part =
    let none : part.1 ≡ [] = second_none part.0 part.1 (sym part.3 ∙ nothing_told h.records) in
    let some : 0 < 0 = subst (λ (l : List ℕ). 0 < length l) none part.2 in
    absurd (omega (arith, some))

-- ---- a call that began earlier

unsaved_earlier : (suspend : Suspend) (booted : Booted) (before : Before) (call : Call) (ending : Ending) → RanUnsaved suspend booted call ending
    → RanUnsaved suspend booted (begun_at call.host.files before call) ending
unsaved_earlier suspend booted before call ending ran =
    record { events = ran.events; is_file = ran.is_file; may = ran.may; exact = λ known. ran.exact known; unwritten = ran.unwritten }

saves_earlier : (suspend : Suspend) (booted : Booted) (before : Before) (call : Call) (status : Status) → Saves suspend booted call status
    → Saves suspend booted (begun_at call.host.files before call) status
saves_earlier suspend booted before call Done saved = record {
  events = saved.events;
  is_file = saved.is_file;
  may = saved.may;
  exact = λ known. let all = saved.exact known in record { ended = all.ended; spelled = all.spelled; written = all.written };
}
saves_earlier suspend booted before call (EventFault line) saved = unsaved_earlier suspend booted before call (BadLine line) saved
saves_earlier suspend booted before call (StepLimit limit) saved = unsaved_earlier suspend booted before call LimitMet saved
saves_earlier suspend booted before call SwapFault saved = saved
saves_earlier suspend booted before call WriteFault saved = record { events = saved.events; is_file = saved.is_file; exact = λ known. saved.exact known }
saves_earlier suspend booted before call ReadFault saved = (lines_earlier (silent suspend) booted before call saved.0, saved.1)
saves_earlier suspend booted before call Usage saved = absurd saved
saves_earlier suspend booted before call NoMemory saved = absurd saved
saves_earlier suspend booted before call (ImageFault fault) saved = absurd saved

-- ---- whole calls

saved_earlier : (suspend : Suspend) (booted : Booted) (before : Before) (call : Call) (side : StoreSide)
    → Starts (silent suspend) call.host.files booted side
    → side.asked ≡ before.prepared → side.asked_after ≡ call.store.asked → call.store.asked_after ≡ call.store.asked
    → IsBefore before call → Asked before.files_asked call.host.asked First suspend.image true → IsTold call.host.image_left []
    → EndsSilently suspend booted call → EndsSuspend suspend (begun_at call.host.files before call)
saved_earlier suspend booted before call side starts first last stays later asked read (inl unpicked) =
    inr (inr (inl (record {
      asked = asks_both (silent suspend) before call false asked unpicked.asked;
      ended = unpicked.ended;
      cause = rose_after before.host_faults call.host.faults call.host.faults_after later.host unpicked.cause;
      machine = booted.machine;
      image = starts.image;
      prepared = prepared_earlier (silent suspend) booted before call side starts first last stays;
      unwritten = unpicked.unwritten;
    })))
saved_earlier suspend booted before call side starts first last stays later asked read (inr picked) =
    let R : Room → Type 0 = λ room. HasCause (silent suspend) room booted.machine call call.status in
    let T : Booted → Type 0 = λ b. Saves suspend b (begun_at call.host.files before call) call.status in
    inr (inr (inr (record {
      asked = asks_both (silent suspend) before call true asked picked.asked;
      machine = booted.machine;
      image = starts.image;
      prepared = prepared_earlier (silent suspend) booted before call side starts first last stays;
      cause = cause_earlier (silent suspend) (room_of (plan_in starts.image)) booted.machine before call call.status later
          (subst R starts.room picked.cause);
      content = subst T (booted_is booted (room_of (plan_in starts.image)) (plan_in starts.image).slots starts.room starts.slots)
          (saves_earlier suspend booted before call call.status picked.content);
      image_read = λ done. read;
      events_read = picked.events_read;
    })))

pub ends_suspended : (suspend : Suspend) (booted : Booted) (files : Told) (before : Before) (call : Call) (side : StoreSide)
    → call.host.files ≡ files → Starts (silent suspend) files booted side
    → side.asked ≡ before.prepared → side.asked_after ≡ call.store.asked → call.store.asked_after ≡ call.store.asked
    → IsBefore before call → Asked before.files_asked call.host.asked First suspend.image true → IsTold call.host.image_left []
    → EndsSilently suspend booted call → EndsSuspend suspend (begun_at files before call)
ends_suspended suspend booted files before call side same starts first last stays later asked read ended =
    let S : Told → Type 0 = λ f. Starts (silent suspend) f booted side in
    let P : Told → Type 0 = λ f. EndsSuspend suspend (begun_at f before call) in
    subst P same (saved_earlier suspend booted before call side (subst S (sym same) starts) first last stays later asked read ended)
