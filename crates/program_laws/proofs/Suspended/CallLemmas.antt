-- A run that is suspended in one call and goes on in another ends as it does in one call.
use Rattle.std.proofs.Common.{◌≡◌, ◌∙◌, ◌≤◌, ◌<◌, ap, sym, subst, refl, ℕ, ◌+◌, ◌-◌, ◌/◌, List, ◌++◌, drop, length, Option, Some, arith}
use Rattle.std.specs.Prelude.{IfSome}
use Rattle.std.proofs.lemmas.List.{drop_at}
use Rattle.std.proofs.lemmas.Option.{same_Some}
use Rattle.kernel_args.specs.declared.args.Args.{Args}
use Rattle.boot_plan.specs.Capacity.{capacity}
use Rattle.boot_plan.specs.FirstPages.{plan_of}
use Rattle.boot_plan.specs.Lawful.{IsLawfulPlan}
use Rattle.boot_plan.specs.Slots.{slots_used}
use Rattle.boot_plan.proofs.LawfulPlanLemmas.{lawful_plan}
use Rattle.event_text.specs.Lines.{lines_of}
use Rattle.host_io.specs.Reading.{IsFile}
use Rattle.machine_model.specs.Runs.Matched.{Matched}
use Rattle.machine_model.specs.Runs.Moments.{Cause, caused}
use Rattle.machine_model.specs.State.Machine.{Machine}
use Rattle.machine_laws.proofs.Histories.LimitLemmas.{history_within}
use Rattle.machine_laws.proofs.Histories.MomentLemmas.{history_last, moments_keep}
use Rattle.machine_laws.specs.HistoryMoments.{moments_of}
use Rattle.event_text.specs.EventFile.{input_of}
use Rattle.resume_path.specs.Resumable.{CanSplit}
use Rattle.snapshot_laws.specs.Keeping.{IsSameSize}
use Rattle.snapshot_laws.proofs.SizeLemmas.{cause_size}
use Rattle.snapshot_rows.specs.declared.state.State.{State}
use Rattle.snapshot_rows.specs.Machines.{machine_of}
use Rattle.suspend_image.specs.Saveable.{IsSpellable, SpellsMachine}
use Rattle.suspend_image.specs.StateBytes.{saved_bytes}
use Rattle.suspend_image.proofs.Saved.RoomLemmas.{saved_fits}
use Rattle.suspend_image.proofs.Saved.StateAgainLemmas.{saved_spelled}
use Rattle.xk_base.specs.Numbers.Limits.{table_frames}
use Rattle.xk_base.specs.declared.limits.TheConstants.{SLOT_LIMIT}
use Rattle.xk_kernel.specs.Start.{start}
use Rattle.xk_ports.specs.Told.{Grows}
use Rattle.event_player.specs.declared.ending.Ending.{Ending}
use Rattle.event_player.specs.declared.ending.Ending.TheVariants.{Played, LimitMet, BadLine}
use Rattle.event_player.specs.declared.telling.Telling.{Telling}
use Rattle.event_player.specs.declared.telling.Telling.TheVariants.{Trace}
use Rattle.event_player.specs.History.{History, run_of}
use Rattle.event_player.specs.Telling.{output, told}
use Rattle.xous_program.specs.declared.commands.states.TheConstants.{STATE_LIMIT}
use Rattle.program_status.specs.declared.status.Status.TheVariants.{Done, EventFault, StepLimit}
use Rattle.xous_program.specs.Headline.{IsComplete, SuspendingIsInvisible}
use Rattle.xous_program.specs.Outcome.Images.{Boots}
use Rattle.program_status.specs.Plans.{IsSoundImage}
use Rattle.xous_program.specs.Outcome.Resumes.{limit_from}
use Rattle.xous_program.specs.Outcome.Said.{Converting, Gives, GivesRun, IsSaved, Planning, Run, Running, Task, history_in, said, status_of}
use Rattle.xous_program.specs.Outcome.Sides.{Call}
use Rattle.xous_program.specs.Outcome.Splits.{Setup}
use Rattle.xous_program.specs.Outcome.Suspends.{saved_at}
use Rattle.xous_program.specs.Outcome.SuspendedCalls.{EndAsOne, GoesOn, IsOneRun, SavesTo, TwoPartRun, behind_lines}
use Rattle.xous_program.specs.StateFiles.{Restores}
use Rattle.xous_program.specs.Words.{Plays, Resume, Resumes, Suspend, Suspends}
use Rattle.xous_program.proofs.Images.MatchedLemmas.{no_plan_fault}
use Rattle.program_laws.proofs.CompleteLemmas.{PlayedOut, out_of, same_history}
use Rattle.program_laws.proofs.Files.StateLemmas.{one_machine}
use Rattle.program_laws.proofs.ResumedLemmas.{within_limit}
use Rattle.program_laws.proofs.Splitting.SplitLemmas.{only_start}
use Rattle.program_laws.proofs.Suspended.RunLemmas.{IsBehind, runs_behind, status_behind, told_behind}

-- ---- the call that suspends

-- the setup boots a machine, all events were played on it, and the file has the state bytes of the last state
record SavedOut (setup : Setup) (events state : List ℕ) (limit : ℕ) : Type 0 where
  machine : Machine
  boots : Boots setup.image setup.asked machine
  played : (run_of limit machine events).ending ≡ Played
  spellable : IsSpellable (run_of limit machine events).machine
  saved : state ≡ saved_bytes (run_of limit machine events).machine

-- what grew by two lists from the same bytes grew by the same
grown_once : (before state text : List ℕ) (old new : Option (List ℕ)) → old ≡ Some before → new ≡ Some (before ++ state) → Grows old new text → state ≡ text
grown_once before state text old new is became grows =
    go (subst (λ (o : Option (List ℕ)). Grows o (Some (before ++ state)) text) is (subst (λ (n : Option (List ℕ)). Grows old n text) became grows))
  where
    go : Grows (Some before) (Some (before ++ state)) text → state ≡ text
    go g =
        let first : before ≡ g.0 = same_Some before g.0 g.1 in
        let all : before ++ state ≡ before ++ text = g.2 ∙ ap (λ (front : List ℕ). front ++ text) (sym first) in
        sym (drop_at before state (length before) refl) ∙ (ap (λ (l : List ℕ). drop (length before) l) all ∙ drop_at before text (length before) refl)

-- a status of Done is that of a history whose events were all played
done_played : (limit : ℕ) (ending : Ending) → status_of limit ending ≡ Done → ending ≡ Played
done_played limit Played e = refl
done_played limit LimitMet e = absurd (let differ : StepLimit limit ≡ Done = e in cc)
done_played limit (BadLine line) e = absurd (let differ : EventFault line ≡ Done = e in cc)

module _ (setup : Setup) (events state : List ℕ) (suspend : Suspend) (call : Call) (s : SavesTo setup events state suspend call) where
  is_bytes : (name bytes whole : List ℕ) → s.files name ≡ Some whole → IsFile call.host.files name bytes → bytes ≡ whole
  is_bytes name bytes whole file read =
      same_Some bytes whole (sym (subst (λ (files : Option (List ℕ → Option (List ℕ))). IsFile files name bytes) s.told read) ∙ file)

  run_saved : (run : Run) → GivesRun call.host.files (Suspends suspend) run → call.status ≡ (said (Suspends suspend) (Running run)).status
      → Grows call.out.written call.out.written_after (said (Suspends suspend) (Running run)).text → IsSaved (Suspends suspend) (Running run)
      → SavedOut setup events state suspend.limit
  run_saved run given status written spelled =
      let starts = given.starts in
      let image = starts.image in
      let boots : Boots setup.image setup.asked starts.machine =
      subst (λ (asked : Option ℕ). Boots setup.image asked starts.machine) s.slots
      (subst (λ (bytes : List ℕ). Boots bytes suspend.slots starts.machine) (is_bytes suspend.image image.bytes setup.image s.image image.read) image.boots) in
      let input : run.input ≡ input_of events =
      given.events.2 ∙ ap input_of (is_bytes suspend.events given.events.0 events s.event_file given.events.1) in
      let same : history_in run ≡ run_of suspend.limit starts.machine events =
      same_history run starts.machine suspend.limit (input_of events) (ap (λ b. b.machine) starts.booted) starts.limit input in
      let ended : (history_in run).ending ≡ Played = done_played run.limit (history_in run).ending (sym status ∙ s.done) in
      let wrote : Grows call.out.written call.out.written_after (saved_bytes (history_in run).machine) =
      subst (λ (e : Ending). Grows call.out.written call.out.written_after (saved_at (history_in run).machine e)) ended written in
      let saved : state ≡ saved_bytes (history_in run).machine =
      grown_once s.before state (saved_bytes (history_in run).machine) call.out.written call.out.written_after s.unwritten s.written wrote in
      record {
        machine = starts.machine;
        boots = boots;
        played = sym (ap (λ (h : History). h.ending) same) ∙ ended;
        spellable = subst (λ (h : History). IsSpellable h.machine) same (spelled ended);
        saved = saved ∙ ap (λ (h : History). saved_bytes h.machine) same;
      }

  task_saved : (task : Task) → Gives call.host.files (Suspends suspend) task → call.status ≡ (said (Suspends suspend) task).status
      → Grows call.out.written call.out.written_after (said (Suspends suspend) task).text → IsSaved (Suspends suspend) task
      → SavedOut setup events state suspend.limit
  task_saved (Running run) given status written spelled = run_saved run given status written spelled
  task_saved (Planning plan) given status written spelled = absurd given
  task_saved (Converting bytes) given status written spelled = absurd given

  suspended : IsComplete (Suspends suspend) call → SavedOut setup events state suspend.limit
  suspended complete = task_saved complete.task complete.given complete.status complete.written complete.saved

-- ---- a run goes on from its file

-- a history keeps the size of the machine
same_size : (limit : ℕ) (machine : Machine) (events : List ℕ) → IsSameSize machine (run_of limit machine events).machine
same_size limit machine events =
    let es = (input_of events).events in
    subst (IsSameSize machine) (history_last es limit machine)
    (moments_keep (IsSameSize machine) kept es limit machine (refl, refl) (length (moments_of es limit machine)))
  where
    kept : (cause : Cause) (m : Machine) → IsSameSize machine m → IsSameSize machine (caused cause m)
    kept cause m h = let s = cause_size cause m in (s.0 ∙ h.0, s.1 ∙ h.1)

-- the machine has room for as many pages as so many frames and slots have, and its frames are enough for the tables
record HasRoom (frames slots : ℕ) (m : Machine) : Type 0 where
  pages : m.capacity ≡ capacity frames m.processes slots
  tables : table_frames m.processes + 2 ≤ frames

later_room : (frames slots : ℕ) (one later : Machine) → IsSameSize one later → HasRoom frames slots one → HasRoom frames slots later
later_room frames slots one later same room = record {
  pages = same.0 ∙ (room.pages ∙ ap (λ n. capacity frames n slots) (sym same.1));
  tables = subst (λ n. table_frames n + 2 ≤ frames) (sym same.1) room.tables;
}

-- so its pages can be split into them
fewer_slots : (frames tables slots pages : ℕ) → pages ≡ frames - tables - 1 + slots → tables + 2 ≤ frames → slots < pages
fewer_slots frames tables slots pages is enough = omega arith

few_frames : (frames tables slots pages : ℕ) → pages ≡ frames - tables - 1 + slots → tables + 2 ≤ frames → frames ≤ 16384
    → tables + 1 + (pages - slots) ≤ 16384
few_frames frames tables slots pages is enough few = omega arith

module _ (setup : Setup) (args : Args) (few : IfSome setup.asked (λ n. n ≤ SLOT_LIMIT)) (sound : IsSoundImage setup.image setup.asked args) where
  lawful : IsLawfulPlan (length setup.image) (plan_of args setup.asked)
  lawful = lawful_plan args setup.image setup.asked sound.spelled.sound few (no_plan_fault setup.image setup.asked args sound.spelled sound.no_fault)

  start_room : HasRoom (args.ram_size / 4096) (slots_used args setup.asked) (start (plan_of args setup.asked) setup.image)
  unfolding start
  start_room = record { pages = refl; tables = lawful.tables }

  can_split : (m : Machine) (state : State) (file : List ℕ) → machine_of file state ≡ m → HasRoom (args.ram_size / 4096) (slots_used args setup.asked) m
      → CanSplit state (slots_used args setup.asked)
  can_split m state file same room =
      let frames = args.ram_size / 4096 in
      let slots = slots_used args setup.asked in
      let pages : state.cap ≡ m.capacity = ap (λ (x : Machine). x.capacity) same in
      let processes : m.processes ≡ state.n = ap (λ (x : Machine). x.processes) (sym same) in
      let has : state.cap ≡ capacity frames state.n slots = pages ∙ (room.pages ∙ ap (λ n. capacity frames n slots) processes) in
      let tables : table_frames state.n + 2 ≤ frames = subst (λ n. table_frames n + 2 ≤ frames) processes room.tables in
      record {
        fewer = fewer_slots frames (table_frames state.n) slots state.cap has tables;
        frames = few_frames frames (table_frames state.n) slots state.cap has tables lawful.frames;
        few = lawful.slots;
      }

  file_short : (m : Machine) → IsSpellable m → length (saved_bytes m) ≤ STATE_LIMIT
  file_short m is =
      let fits = saved_fits m is.matched is.saveable.sizes in
      let room = is.saveable.capacity in
      let processes = is.matched.body.processes.few in
      omega (arith, fits, room, processes)

  restores : (m : Machine) → IsSpellable m → HasRoom (args.ram_size / 4096) (slots_used args setup.asked) m → Restores (saved_bytes m) (slots_used args setup.asked) m
  restores m is room =
      let spells : SpellsMachine (saved_bytes m) m = saved_spelled m is.matched is.saveable in
      record {
        state = spells.state;
        sound = record {
          short = file_short m is;
          resumable = record {
            spelled = spells.spelled;
            matched = subst (λ (x : Machine). Matched x) (sym spells.machine) is.matched;
          };
          split = can_split m spells.state (saved_bytes m) spells.machine room;
        };
        resumed = sym spells.machine;
      }

-- ---- the call that goes on

-- the events were played to an end on the machine of the file, and all that `trace` tells of that was written
record WentOn (machine : Machine) (events : List ℕ) (limit : ℕ) (call : Call) : Type 0 where
  status : call.status ≡ status_of limit (run_of limit machine events).ending
  written : Grows call.out.written call.out.written_after (output Trace (run_of limit machine events))

module _ (many : ℕ) (state events : List ℕ) (resume : Resume) (call : Call) (g : GoesOn many state events resume call)
    (machine : Machine) (file : Restores state many machine) where
  are_bytes : (name bytes whole : List ℕ) → g.files name ≡ Some whole → IsFile call.host.files name bytes → bytes ≡ whole
  are_bytes name bytes whole named read =
      same_Some bytes whole (sym (subst (λ (files : Option (List ℕ → Option (List ℕ))). IsFile files name bytes) g.told read) ∙ named)

  run_resumed : (run : Run) → GivesRun call.host.files (Resumes resume) run → call.status ≡ (said (Resumes resume) (Running run)).status
      → Grows call.out.written call.out.written_after (said (Resumes resume) (Running run)).text → WentOn machine events (limit_from resume.limit machine) call
  run_resumed run given status written =
      let starts = given.starts in
      let there : Restores state many starts.machine =
      subst (λ (slots : ℕ). Restores state slots starts.machine) g.slots
      (subst (λ (b : List ℕ). Restores b resume.slots starts.machine) (are_bytes resume.state starts.state.bytes state g.state_file starts.state.read)
      starts.state.restores) in
      let same : starts.machine ≡ machine = one_machine state many starts.machine machine there file in
      let input : run.input ≡ input_of events =
      given.events.2 ∙ ap input_of (are_bytes resume.events given.events.0 events g.event_file given.events.1) in
      let most : run.limit ≡ limit_from resume.limit machine = starts.limit ∙ ap (limit_from resume.limit) same in
      let history : history_in run ≡ run_of (limit_from resume.limit machine) machine events =
      same_history run machine (limit_from resume.limit machine) (input_of events) (ap (λ b. b.machine) starts.booted ∙ same) most input in
      record {
        status =
            status ∙ (ap (λ (h : History). status_of run.limit h.ending) history
            ∙ ap (λ (l : ℕ). status_of l (run_of (limit_from resume.limit machine) machine events).ending) most);
        written = subst (λ (bytes : List ℕ). Grows call.out.written call.out.written_after bytes) (ap (output Trace) history) written;
      }

  task_resumed : (task : Task) → Gives call.host.files (Resumes resume) task → call.status ≡ (said (Resumes resume) task).status
      → Grows call.out.written call.out.written_after (said (Resumes resume) task).text → WentOn machine events (limit_from resume.limit machine) call
  task_resumed (Running run) given status written = run_resumed run given status written
  task_resumed (Planning plan) given status written = absurd given
  task_resumed (Converting bytes) given status written = absurd given

  went_on : IsComplete (Resumes resume) call → WentOn machine events (limit_from resume.limit machine) call
  went_on complete = task_resumed complete.task complete.given complete.status complete.written

-- ---- all three

module _ (run : TwoPartRun) (is : IsOneRun run) (saves : IsComplete (Suspends run.suspend) run.first)
    (goes_on : IsComplete (Resumes run.resume) run.second) (plays : IsComplete (Plays run.play) run.whole) where
  saved : SavedOut run.setup run.before run.state run.play.limit
  saved =
      subst (SavedOut run.setup run.before run.state) is.suspend_limit
      (suspended run.setup run.before run.state run.suspend run.first is.suspends saves)

  whole : PlayedOut run.setup (run.before ++ run.after) run.play run.whole
  whole = out_of run.setup (run.before ++ run.after) run.play run.whole is.plays plays

  abbrev begun : Machine
  begun = start (plan_of run.args run.setup.asked) run.setup.image

  first : saved.machine ≡ begun
  first = only_start run.setup saved.machine run.args is.sound saved.boots

  same : whole.machine ≡ saved.machine
  same = only_start run.setup whole.machine run.args is.sound whole.boots ∙ sym first

  abbrev last : Machine
  last = (run_of run.play.limit saved.machine run.before).machine

  room : HasRoom (run.args.ram_size / 4096) (slots_used run.args run.setup.asked) last
  room =
      let frames = run.args.ram_size / 4096 in
      let slots = slots_used run.args run.setup.asked in
      later_room frames slots saved.machine last (same_size run.play.limit saved.machine run.before)
      (subst (HasRoom frames slots) (sym first) (start_room run.setup run.args is.few is.sound))

  file : Restores run.state (slots_used run.args run.setup.asked) last
  file =
      subst (λ (bytes : List ℕ). Restores bytes (slots_used run.args run.setup.asked) last) (sym saved.saved)
      (restores run.setup run.args is.few is.sound last saved.spellable room)

  no_steps : saved.machine.steps ≤ run.play.limit
  unfolding start
  no_steps = let zero : saved.machine.steps ≡ 0 = ap (λ (m : Machine). m.steps) first in omega arith

  limit_stays : limit_from run.resume.limit last ≡ run.play.limit
  limit_stays =
      ap (λ limit. limit_from limit last) is.resume_limit
      ∙ within_limit run.play.limit last (history_within (input_of run.before).events run.play.limit saved.machine no_steps)

  second : WentOn last run.after run.play.limit run.second
  second =
      subst (λ limit. WentOn last run.after limit run.second) limit_stays
      (went_on (slots_used run.args run.setup.asked) run.state run.after run.resume run.second is.goes_on last file goes_on)

  behind : IsBehind (length (lines_of run.before)) (run_of run.play.limit saved.machine (run.before ++ run.after))
      (run_of run.play.limit saved.machine run.before) (run_of run.play.limit last run.after)
  behind = runs_behind run.before run.after is.files run.play.limit saved.machine saved.played

  pub ends_as_one : EndAsOne run
  ends_as_one =
      let lines = length (lines_of run.before) in
      let limit = run.play.limit in
      let all = run_of limit saved.machine (run.before ++ run.after) in
      let one = run_of limit saved.machine run.before in
      let two = run_of limit last run.after in
      let told_all : output run.play.tells (run_of limit whole.machine (run.before ++ run.after)) ≡ told Trace one.records ++ output Trace two =
      ap (λ (tells : Telling). output tells (run_of limit whole.machine (run.before ++ run.after))) is.traces
      ∙ (ap (λ (m : Machine). output Trace (run_of limit m (run.before ++ run.after))) same ∙ told_behind lines all one two behind) in
      record {
        short = subst (λ (bytes : List ℕ). length bytes ≤ STATE_LIMIT) (sym saved.saved) (file_short run.setup run.args is.few is.sound last saved.spellable);
        machine = saved.machine;
        boots = saved.boots;
        status =
            whole.status
            ∙ (ap (λ (m : Machine). status_of limit (run_of limit m (run.before ++ run.after)).ending) same
            ∙ (ap (status_of limit) behind.ending
            ∙ (status_behind lines limit two.ending ∙ ap (behind_lines lines) (sym second.status))));
        text = output Trace two;
        written = second.written;
        whole_written = subst (λ (text : List ℕ). Grows run.whole.out.written run.whole.out.written_after text) told_all whole.written;
      }

pub suspending_invisible : SuspendingIsInvisible
suspending_invisible = ends_as_one
