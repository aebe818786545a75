-- Every call is complete, interrupted or rejected, by its command.
use Rattle.std.proofs.Common.{◌≡◌, ◌≤◌, inl, inr, ℕ, Bool, true, false, List, [], Option, None, Some, refl, sym, ap, ◌∙◌, subst}
use Rattle.std.specs.Prelude.{if◌then◌else◌}
use Rattle.boot_plan.specs.declared.plans.BootPlan.{BootPlan}
use Rattle.demo_load.proofs.LoadHistoryLemmas.{load_meets_no_limit}
use Rattle.demo_load.specs.Events.{load_machine, load_plan}
use Rattle.demo_load.specs.declared.TheConstants.{CLIENT_LIMIT}
use Rattle.event_player.specs.History.{History, run_of}
use Rattle.event_player.specs.declared.ending.Ending.{Ending}
use Rattle.event_player.specs.declared.ending.Ending.TheVariants.{Played, LimitMet, BadLine}
use Rattle.event_text.specs.EventFile.{input_of}
use Rattle.host_io.specs.Reading.{IsFile, IsTold}
use Rattle.machine_model.specs.State.Machine.{Machine}
use Rattle.suspend_image.specs.Saveable.{IsSpellable}
use Rattle.xk_base.specs.declared.limits.TheConstants.{DEFAULT_STEPS, SLOT_LIMIT}
use Rattle.xk_ports.specs.Told.{Grows}
use Rattle.xk_ports.proofs.ToldLemmas.{Grows-none}
use Rattle.xous_program.specs.Headline.{IsComplete}
use Rattle.xous_program.specs.Outcome.Check.{EndsCheck, Summarizes}
use Rattle.xous_program.specs.Outcome.Convert.{EndsConvert, IsConversion, Writes}
use Rattle.xous_program.specs.Outcome.Demo.{Demonstrates, EndsDemo, TellsDemo}
use Rattle.xous_program.specs.Outcome.Ends.{EndsCommand}
use Rattle.xous_program.specs.Outcome.Images.{Image, IsPlanned, plan_in}
use Rattle.xous_program.specs.Outcome.Plays.{EndsPlay, HasCause}
use Rattle.xous_program.specs.Outcome.Prefixes.{IsKnown, IsReadOut, Opened}
use Rattle.xous_program.specs.Outcome.Resumes.{EndsResume, resumed_on, traced}
use Rattle.xous_program.specs.Outcome.Said.{GivesRun, IsInLimits, Planning, Converting, Running, history_in, load_run, status_of}
use Rattle.xous_program.specs.Outcome.Sides.{Call, HostRose, IsUnwritten, OutRose}
use Rattle.xous_program.specs.Outcome.Starts.{Booted, booted_of, room_of}
use Rattle.xous_program.specs.Outcome.States.{RefusesState, StateFile, room_from}
use Rattle.xous_program.specs.Outcome.Suspends.{EndsSuspend, Saves, saved_at, saved_of, silent}
use Rattle.xous_program.specs.Words.{Check, Command, Plays, Checks, Converts, Demo, Suspends, Resumes, Play, Resume, Suspend}
use Rattle.program_status.specs.declared.status.Status.{Status}
use Rattle.program_status.specs.declared.status.Status.TheVariants.{Done, Usage, ReadFault, WriteFault, ImageFault, EventFault, StepLimit, SwapFault, NoMemory}
use Rattle.xous_program.proofs.Headline.RunLemmas.{PlaysSo, Three, both_opened, first_unopened, given_over, known_over, lines_told}
use Rattle.xous_program.proofs.Headline.RunLemmas.{refused_three, run_over, stopped_three, told_three, unpicked_three}

-- nothing was written
grows_nothing : {X : Type 0} (before after : Option (List X)) → after ≡ before → Grows before after []
grows_nothing {X} before after same = let P : Option (List X) → Type 0 = λ now. Grows before now [] in subst P (sym same) (Grows-none before)

-- ---- `trace`, `run` and `ledger`

pub starts_so : (play : Play) (call : Call) (machine : Machine) (image : Image call.host.files play.image play.slots machine)
    → PlaysSo (Plays play) call play (booted_of (plan_in image) machine)
starts_so play call machine image = record {
  starts = λ input. record { machine = machine; image = image; booted = refl; limit = refl };
  named = refl;
  events = λ bytes is_file. (bytes, is_file, refl);
}

play_three : (play : Play) (call : Call) → EndsPlay play call → IsKnown (Plays play) call → Three (Plays play) call call.status
play_three play call (inl refused) known =
    refused_three (Plays play) call play.image play.slots call.status tt (first_unopened call play.image refused.image.asked) (λ fault has. has)
    refused.image.refused refused.image.unwritten
play_three play call (inr (inl unstarted)) known =
    let plan : BootPlan = plan_in unstarted.image in
    let unopened = first_unopened call play.image (true, unstarted.asked) in
    let so = starts_so play call unstarted.machine unstarted.image in
    stopped_three (Plays play) call (room_of plan) plan.slots play.store unstarted.machine call.status
    (record {
      run = run_over (booted_of plan unstarted.machine) play.limit;
      starts = so.starts;
      untold = unopened;
      unwritten = unstarted.unwritten;
    })
    unopened unstarted.stopped
play_three play call (inr (inr (inl unpicked))) known =
    unpicked_three (Plays play) call unpicked.ended unpicked.cause tt (both_opened play call false unpicked.asked) unpicked.unwritten
play_three play call (inr (inr (inr played))) known =
    told_three (Plays play) call play (booted_of (plan_in played.image) played.machine) call.status (starts_so play call played.machine played.image)
    (record { text = λ h. refl; tells = refl; saved = λ task. tt }) known (both_opened play call true played.asked) refl played.cause played.content
    (λ done. (played.image_read done, played.events_read done))

-- ---- `suspend`

pub suspends_so : (suspend : Suspend) (call : Call) (machine : Machine) (image : Image call.host.files suspend.image suspend.slots machine)
    → PlaysSo (Suspends suspend) call (silent suspend) (booted_of (plan_in image) machine)
suspends_so suspend call machine image = record {
  starts = λ input. record { machine = machine; image = image; booted = refl; limit = refl };
  named = refl;
  events = λ bytes is_file. (bytes, is_file, refl);
}

-- what was saved of a history that ended so
saved_ended : (h : History) (ending : Ending) (before after : Option (List ℕ)) → h.ending ≡ ending → Grows before after (saved_at h.machine ending)
    → Grows before after (saved_of h)
saved_ended h ending before after ended grown =
    let P : Ending → Type 0 = λ e. Grows before after (saved_at h.machine e) in subst P (sym ended) grown

complete_saved : (suspend : Suspend) (call : Call) (booted : Booted) (bytes : List ℕ) (status : Status) (ending : Ending)
    → PlaysSo (Suspends suspend) call (silent suspend) booted → IsFile call.host.files suspend.events bytes
    → call.status ≡ status → status ≡ status_of suspend.limit ending → (run_of suspend.limit booted.machine bytes).ending ≡ ending
    → Grows call.out.written call.out.written_after (saved_at (run_of suspend.limit booted.machine bytes).machine ending)
    → (call.status ≡ Done → IsReadOut (Suspends suspend) call)
    → ((run_of suspend.limit booted.machine bytes).ending ≡ Played → IsSpellable (run_of suspend.limit booted.machine bytes).machine)
    → IsComplete (Suspends suspend) call
complete_saved suspend call booted bytes status ending so is_file is stated ended grown read spelled =
    let h = run_of suspend.limit booted.machine bytes in
    record {
      task = Running (run_over booted suspend.limit (input_of bytes));
      given = given_over (Suspends suspend) call (silent suspend) booted bytes so is_file;
      status = is ∙ stated ∙ ap (status_of suspend.limit) (sym ended);
      written = saved_ended h ending call.out.written call.out.written_after ended grown;
      read = read;
      saved = spelled;
    }

-- histories that end otherwise aren't saved
met_unplayed : (h : History) → h.ending ≡ LimitMet → h.ending ≡ Played → IsSpellable h.machine
met_unplayed h met played = absurd (let differ : LimitMet ≡ Played = sym met ∙ played in cc)

bad_unplayed : (h : History) (line : ℕ) → h.ending ≡ BadLine line → h.ending ≡ Played → IsSpellable h.machine
bad_unplayed h line bad played = absurd (let differ : BadLine line ≡ Played = sym bad ∙ played in cc)

saved_three : (suspend : Suspend) (call : Call) (booted : Booted) (status : Status)
    → PlaysSo (Suspends suspend) call (silent suspend) booted → IsKnown (Suspends suspend) call → Opened call true → call.status ≡ status
    → HasCause (silent suspend) booted.room booted.machine call status → Saves suspend booted call status
    → (call.status ≡ Done → IsReadOut (Suspends suspend) call) → Three (Suspends suspend) call status
saved_three suspend call booted Done so known opened is cause ran read =
    let wrote = ran.exact (known_over (Suspends suspend) call (silent suspend) booted ran.events so known ran.is_file) in
    inl (complete_saved suspend call booted ran.events Done Played so ran.is_file is refl wrote.ended wrote.written read (λ played. wrote.spelled))
saved_three suspend call booted (EventFault line) so known opened is cause ran read =
    let ended = ran.exact (known_over (Suspends suspend) call (silent suspend) booted ran.events so known ran.is_file) in
    inl (complete_saved suspend call booted ran.events (EventFault line) (BadLine line) so ran.is_file is refl ended
    (grows_nothing call.out.written call.out.written_after ran.unwritten) read (bad_unplayed (run_of suspend.limit booted.machine ran.events) line ended))
saved_three suspend call booted (StepLimit limit) so known opened is cause ran read =
    let ended = ran.exact (known_over (Suspends suspend) call (silent suspend) booted ran.events so known ran.is_file) in
    inl (complete_saved suspend call booted ran.events (StepLimit limit) LimitMet so ran.is_file is (ap (λ (l : ℕ). StepLimit l) cause) ended
    (grows_nothing call.out.written call.out.written_after ran.unwritten) read (met_unplayed (run_of suspend.limit booted.machine ran.events) ended))
saved_three suspend call booted SwapFault so known opened is cause unwritten read =
    inr (inl (cause.0, inl (record { run = run_over booted suspend.limit; starts = so.starts; untold = tt; unwritten = unwritten })))
saved_three suspend call booted WriteFault so known opened is cause ran read =
    inr (inl (
      cause,
      record {
        task = Running (run_over booted suspend.limit (input_of ran.events));
        given = given_over (Suspends suspend) call (silent suspend) booted ran.events so ran.is_file;
        written = ran.exact (known_over (Suspends suspend) call (silent suspend) booted ran.events so known ran.is_file);
      },
    ))
saved_three suspend call booted ReadFault so known opened is cause ran read =
    inr (inl (cause, inr (lines_told (Suspends suspend) call (silent suspend) booted so refl known opened ran.0)))
saved_three suspend call booted Usage so known opened is cause ran read = absurd ran
saved_three suspend call booted NoMemory so known opened is cause ran read = absurd ran
saved_three suspend call booted (ImageFault fault) so known opened is cause ran read = absurd ran

suspend_three : (suspend : Suspend) (call : Call) → EndsSuspend suspend call → IsKnown (Suspends suspend) call → Three (Suspends suspend) call call.status
suspend_three suspend call (inl refused) known =
    refused_three (Suspends suspend) call suspend.image suspend.slots call.status tt (first_unopened call suspend.image refused.image.asked) (λ fault has. has)
    refused.image.refused refused.image.unwritten
suspend_three suspend call (inr (inl unstarted)) known =
    let plan : BootPlan = plan_in unstarted.image in
    let so = suspends_so suspend call unstarted.machine unstarted.image in
    stopped_three (Suspends suspend) call (room_of plan) plan.slots None unstarted.machine call.status
    (record { run = run_over (booted_of plan unstarted.machine) suspend.limit; starts = so.starts; untold = tt; unwritten = unstarted.unwritten })
    (first_unopened call suspend.image (true, unstarted.asked)) unstarted.stopped
suspend_three suspend call (inr (inr (inl unpicked))) known =
    unpicked_three (Suspends suspend) call unpicked.ended unpicked.cause tt (both_opened (silent suspend) call false unpicked.asked) unpicked.unwritten
suspend_three suspend call (inr (inr (inr saved))) known =
    saved_three suspend call (booted_of (plan_in saved.image) saved.machine) call.status (suspends_so suspend call saved.machine saved.image) known
    (both_opened (silent suspend) call true saved.asked) refl saved.cause saved.content (λ done. (saved.image_read done, saved.events_read done))

-- ---- `resume`

unread_three : (resume : Resume) (call : Call) (status : Status) → RefusesState call.host.files resume.state resume.slots (HostRose call) status
    → Opened call false → IsUnwritten call → Three (Resumes resume) call status
unread_three resume call (ImageFault fault) refused unopened unwritten = inr (inr (refused, unwritten))
unread_three resume call ReadFault refused unopened unwritten =
    inr (inl (refused, inl (record { reads = tt; unopened = unopened; unwritten = unwritten })))
unread_three resume call NoMemory refused unopened unwritten = inr (inr (unopened, unwritten))
unread_three resume call Done refused unopened unwritten = absurd refused
unread_three resume call Usage refused unopened unwritten = absurd refused
unread_three resume call SwapFault refused unopened unwritten = absurd refused
unread_three resume call WriteFault refused unopened unwritten = absurd refused
unread_three resume call (EventFault line) refused unopened unwritten = absurd refused
unread_three resume call (StepLimit limit) refused unopened unwritten = absurd refused

pub resumes_so : (resume : Resume) (call : Call) (machine : Machine) → StateFile call.host.files resume.state resume.slots machine
    → PlaysSo (Resumes resume) call (traced resume machine) (resumed_on machine resume.slots)
resumes_so resume call machine state = record {
  starts = λ input. record { machine = machine; state = state; booted = refl; limit = refl };
  named = refl;
  events = λ bytes is_file. (bytes, is_file, refl);
}

resume_three : (resume : Resume) (call : Call) → EndsResume resume call → IsKnown (Resumes resume) call → Three (Resumes resume) call call.status
resume_three resume call (inl unread) known =
    unread_three resume call call.status unread.refused (first_unopened call resume.state unread.asked) unread.unwritten
resume_three resume call (inr (inl unresumed)) known =
    let unopened = first_unopened call resume.state (true, unresumed.asked) in
    let so = resumes_so resume call unresumed.machine unresumed.state in
    stopped_three (Resumes resume) call (room_from unresumed.machine resume.slots) resume.slots None unresumed.machine call.status
    (record {
      run = run_over (resumed_on unresumed.machine resume.slots) (traced resume unresumed.machine).limit;
      starts = so.starts;
      untold = unopened;
      unwritten = unresumed.unwritten;
    })
    unopened unresumed.stopped
resume_three resume call (inr (inr (inl unpicked))) known =
    unpicked_three (Resumes resume) call unpicked.ended unpicked.cause tt (both_opened (traced resume unpicked.machine) call false unpicked.asked) unpicked.unwritten
resume_three resume call (inr (inr (inr resumed))) known =
    told_three (Resumes resume) call (traced resume resumed.machine) (resumed_on resumed.machine resume.slots) call.status
    (resumes_so resume call resumed.machine resumed.state) (record { text = λ h. refl; tells = refl; saved = λ task. tt }) known
    (both_opened (traced resume resumed.machine) call true resumed.asked) refl resumed.cause resumed.content
    (λ done. (resumed.state_read done, resumed.events_read done))

-- ---- `check`

summarized_three : (check : Check) (plan : BootPlan) (call : Call) (status : Status) → call.status ≡ status → IsPlanned call.host.files check.image check.slots plan
    → (status ≡ WriteFault → OutRose call) → Summarizes plan call.out status → (call.status ≡ Done → IsTold call.host.image_left []) → Three (Checks check) call status
summarized_three check plan call Done is planned cause wrote read =
    inl (record { task = Planning plan; given = planned; status = is; written = wrote; read = read; saved = tt })
summarized_three check plan call WriteFault is planned cause wrote read =
    inr (inl (cause refl, record { task = Planning plan; given = planned; written = wrote }))
summarized_three check plan call Usage is planned cause wrote read = absurd wrote
summarized_three check plan call ReadFault is planned cause wrote read = absurd wrote
summarized_three check plan call NoMemory is planned cause wrote read = absurd wrote
summarized_three check plan call SwapFault is planned cause wrote read = absurd wrote
summarized_three check plan call (ImageFault fault) is planned cause wrote read = absurd wrote
summarized_three check plan call (EventFault line) is planned cause wrote read = absurd wrote
summarized_three check plan call (StepLimit limit) is planned cause wrote read = absurd wrote

check_three : (check : Check) (call : Call) → EndsCheck check call → Three (Checks check) call call.status
check_three check call (inl unplanned) =
    refused_three (Checks check) call check.image check.slots call.status tt (first_unopened call check.image unplanned.asked) (λ fault has. has)
    unplanned.refused unplanned.unwritten
check_three check call (inr planned) =
    summarized_three check planned.plan call call.status refl planned.planned planned.cause planned.content planned.image_read

-- ---- `convert`

converted_three : (image bytes : List ℕ) (call : Call) (status : Status) → call.status ≡ status → IsConversion call.host.files image bytes
    → (status ≡ WriteFault → OutRose call) → Writes bytes call.out status → IsTold call.host.image_left [] → Three (Converts image) call status
converted_three image bytes call Done is conversion cause wrote read =
    inl (record { task = Converting bytes; given = (conversion, wrote.0); status = is; written = wrote.1; read = λ done. read; saved = tt })
converted_three image bytes call WriteFault is conversion cause wrote read =
    inr (inl (cause refl, record { task = Converting bytes; given = (conversion, wrote.0); written = wrote.1 }))
converted_three image bytes call (ImageFault fault) is conversion cause wrote read = inr (inr (inr (bytes, conversion, wrote.0, wrote.1), wrote.2))
converted_three image bytes call Usage is conversion cause wrote read = absurd wrote
converted_three image bytes call ReadFault is conversion cause wrote read = absurd wrote
converted_three image bytes call NoMemory is conversion cause wrote read = absurd wrote
converted_three image bytes call SwapFault is conversion cause wrote read = absurd wrote
converted_three image bytes call (EventFault line) is conversion cause wrote read = absurd wrote
converted_three image bytes call (StepLimit limit) is conversion cause wrote read = absurd wrote

convert_three : (image : List ℕ) (call : Call) → EndsConvert image call → Three (Converts image) call call.status
convert_three image call (inl unplanned) =
    refused_three (Converts image) call image (Some SLOT_LIMIT) call.status tt (first_unopened call image unplanned.asked) (λ fault has. inl has)
    unplanned.refused unplanned.unwritten
convert_three image call (inr converted) =
    converted_three image converted.bytes call call.status refl converted.conversion converted.cause converted.content converted.image_read

-- ---- `demo`

pub load_given : (clients : ℕ) (call : Call) → GivesRun call.host.files (Demo clients) (load_run clients)
load_given clients call = record { starts = record { booted = refl; limit = refl }; events = refl }

-- it doesn't meet the limit
load_done : (clients : ℕ) → clients ≤ CLIENT_LIMIT → Done ≡ status_of DEFAULT_STEPS (history_in (load_run clients)).ending
load_done clients few = ap (λ (met : Bool). status_of DEFAULT_STEPS (if met then LimitMet else Played)) (sym (load_meets_no_limit clients few))

demo_told : (clients : ℕ) (call : Call) (status : Status) → clients ≤ CLIENT_LIMIT → Opened call false → call.status ≡ status
    → (status ≡ WriteFault → OutRose call) → TellsDemo clients call.out call.store status → Three (Demo clients) call status
demo_told clients call Done few unopened is cause wrote =
    inl (record {
      task = Running (load_run clients);
      given = load_given clients call;
      status = is ∙ load_done clients few;
      written = wrote;
      read = λ done. tt;
      saved = tt;
    })
demo_told clients call WriteFault few unopened is cause wrote =
    inr (inl (cause refl, record { task = Running (load_run clients); given = load_given clients call; written = wrote }))
demo_told clients call SwapFault few unopened is cause wrote =
    inr (inl (
      wrote.0,
      inl (record {
        run = run_over (booted_of (load_plan clients) (load_machine clients)) DEFAULT_STEPS;
        starts = λ input. record { booted = refl; limit = refl };
        untold = unopened;
        unwritten = wrote.2;
      }),
    ))
demo_told clients call NoMemory few unopened is cause wrote = absurd wrote
demo_told clients call Usage few unopened is cause wrote = absurd wrote
demo_told clients call ReadFault few unopened is cause wrote = absurd wrote
demo_told clients call (ImageFault fault) few unopened is cause wrote = absurd wrote
demo_told clients call (EventFault line) few unopened is cause wrote = absurd wrote
demo_told clients call (StepLimit limit) few unopened is cause wrote = absurd wrote

demo_unopened : (clients : ℕ) (call : Call) → EndsDemo clients call → Opened call false
demo_unopened clients call ends = ([], grows_nothing call.host.asked call.host.asked_after ends.asked, refl)

demo_three : (clients : ℕ) (call : Call) → clients ≤ CLIENT_LIMIT → EndsDemo clients call → Three (Demo clients) call call.status
demo_three clients call few ends = go ends.content
  where
    go : Demonstrates clients call.out call.store call.status → Three (Demo clients) call call.status
    go (inl unstarted) =
        let plan : BootPlan = load_plan clients in
        let unopened = demo_unopened clients call ends in
        stopped_three (Demo clients) call (room_of plan) plan.slots None (load_machine clients) call.status
        (record {
          run = run_over (booted_of plan (load_machine clients)) DEFAULT_STEPS;
          starts = λ input. record { booted = refl; limit = refl };
          untold = unopened;
          unwritten = unstarted.unwritten;
        })
        unopened unstarted.stopped
    go (inr played) = demo_told clients call call.status few (demo_unopened clients call ends) refl ends.cause played.content

-- ---- every command

pub command_three : (command : Command) (call : Call) → IsInLimits command → EndsCommand command call → IsKnown command call
    → Three command call call.status
command_three (Plays play) call limits ends known = play_three play call ends known
command_three (Suspends suspend) call limits ends known = suspend_three suspend call ends known
command_three (Resumes resume) call limits ends known = resume_three resume call ends known
command_three (Checks check) call limits ends known = check_three check call ends.0
command_three (Converts image) call limits ends known = convert_three image call ends.0
command_three (Demo clients) call limits ends known = demo_three clients call limits ends
