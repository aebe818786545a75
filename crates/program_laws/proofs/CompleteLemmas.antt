-- What a complete call that plays events ended with, by the bytes of the files that it names; and which calls are complete.
use Rattle.std.proofs.Common.{◌≡◌, ◌⊎◌, ◌∙◌, ap, sym, subst, inl, inr, ℕ, true, false, List, Option, Some}
use Rattle.std.proofs.lemmas.Option.{same_Some}
use Rattle.event_player.specs.History.{History, history_of, run_of}
use Rattle.event_player.specs.Telling.{output}
use Rattle.event_text.specs.EventFile.{Input, input_of}
use Rattle.host_io.specs.Reading.{IsFile}
use Rattle.kernel_args.specs.declared.faults.ArgFault.{ArgFault}
use Rattle.machine_model.specs.State.Machine.{Machine}
use Rattle.xk_ports.specs.Told.{Grows}
use Rattle.program_status.specs.declared.status.Status.{Status}
use Rattle.program_status.specs.declared.status.Status.TheVariants.{Done, Usage, ReadFault, WriteFault, ImageFault, EventFault, StepLimit, SwapFault, NoMemory}
use Rattle.xous_program.specs.Headline.{IsComplete, IsInterrupted, IsRejected}
use Rattle.xous_program.specs.Outcome.Images.{Boots}
use Rattle.xous_program.specs.Outcome.Said.{Gives, GivesRun, HasFault, Planning, Converting, Run, Running, Task, history_in, said, status_of}
use Rattle.xous_program.specs.Outcome.Sides.{Call}
use Rattle.xous_program.specs.Outcome.SplitCalls.{PlaysOn}
use Rattle.xous_program.specs.Outcome.Splits.{Setup}
use Rattle.xous_program.specs.Words.{Command, Play, Plays}
use Rattle.program_laws.specs.Uninterrupted.{UninterruptedAreComplete, is_cut_short}

-- ---- calls that nothing cuts short

true_false : true ≡ false → ⊥
true_false e = cc

not_interrupted : (command : Command) (call : Call) (status : Status) → is_cut_short status ≡ false → IsInterrupted command call status → ⊥
not_interrupted command call ReadFault whole i = true_false whole
not_interrupted command call WriteFault whole i = true_false whole
not_interrupted command call SwapFault whole i = true_false whole
not_interrupted command call NoMemory whole i = i
not_interrupted command call Done whole i = i
not_interrupted command call Usage whole i = i
not_interrupted command call (ImageFault fault) whole i = i
not_interrupted command call (EventFault line) whole i = i
not_interrupted command call (StepLimit limit) whole i = i

not_rejected : (command : Command) (call : Call) (status : Status) → is_cut_short status ≡ false
    → ((fault : ArgFault) → HasFault call.host.files command fault → ⊥) → IsRejected command call status → ⊥
not_rejected command call NoMemory whole sound i = true_false whole
not_rejected command call (ImageFault fault) whole sound i = sound fault i.0
not_rejected command call ReadFault whole sound i = i
not_rejected command call WriteFault whole sound i = i
not_rejected command call SwapFault whole sound i = i
not_rejected command call Done whole sound i = i
not_rejected command call Usage whole sound i = i
not_rejected command call (EventFault line) whole sound i = i
not_rejected command call (StepLimit limit) whole sound i = i

pub uninterrupted_complete : UninterruptedAreComplete
uninterrupted_complete command call is = go (is.answered is.known)
  where
    go : IsComplete command call ⊎ IsInterrupted command call call.status ⊎ IsRejected command call call.status → IsComplete command call
    go (inl complete) = complete
    go (inr (inl interrupted)) = absurd (not_interrupted command call call.status is.whole interrupted)
    go (inr (inr rejected)) = absurd (not_rejected command call call.status is.whole is.sound rejected)

-- ---- the history of a run

pub same_history : (run : Run) (machine : Machine) (limit : ℕ) (input : Input) → run.booted.machine ≡ machine → run.limit ≡ limit → run.input ≡ input
    → history_in run ≡ history_of input limit machine
same_history run machine limit input there most plays =
    ap (λ (i : Input). history_of i run.limit run.booted.machine) plays
    ∙ (ap (λ (l : ℕ). history_of input l run.booted.machine) most ∙ ap (λ (m : Machine). history_of input limit m) there)

-- ---- `trace`, `run` and `ledger`

-- the setup boots a machine, on which the events were played to an end, and all that is told of that was written
pub record PlayedOut (setup : Setup) (events : List ℕ) (play : Play) (call : Call) : Type 0 where
  pub machine : Machine
  pub boots : Boots setup.image setup.asked machine
  pub status : call.status ≡ status_of play.limit (run_of play.limit machine events).ending
  pub written : Grows call.out.written call.out.written_after (output play.tells (run_of play.limit machine events))

module _ (setup : Setup) (events : List ℕ) (play : Play) (call : Call) (plays : PlaysOn setup events play call) where
  is_bytes : (name bytes whole : List ℕ) → plays.files name ≡ Some whole → IsFile call.host.files name bytes → bytes ≡ whole
  is_bytes name bytes whole file read = same_Some bytes whole (sym (subst (λ (files : Option (List ℕ → Option (List ℕ))). IsFile files name bytes) plays.told read) ∙ file)

  run_out : (run : Run) → GivesRun call.host.files (Plays play) run → call.status ≡ (said (Plays play) (Running run)).status
      → Grows call.out.written call.out.written_after (said (Plays play) (Running run)).text → PlayedOut setup events play call
  run_out run given status written =
      let starts = given.starts in
      let image = starts.image in
      let boots : Boots setup.image setup.asked starts.machine =
      subst (λ (asked : Option ℕ). Boots setup.image asked starts.machine) plays.slots
      (subst (λ (bytes : List ℕ). Boots bytes play.slots starts.machine) (is_bytes play.image image.bytes setup.image plays.image image.read) image.boots) in
      let input : run.input ≡ input_of events =
      given.events.2 ∙ ap input_of (is_bytes play.events given.events.0 events plays.event_file given.events.1) in
      let same : history_in run ≡ run_of play.limit starts.machine events =
      same_history run starts.machine play.limit (input_of events) (ap (λ b. b.machine) starts.booted) starts.limit input in
      record {
        machine = starts.machine;
        boots = boots;
        status =
            status ∙ (ap (λ (h : History). status_of run.limit h.ending) same
            ∙ ap (λ (l : ℕ). status_of l (run_of play.limit starts.machine events).ending) starts.limit);
        written = subst (λ (bytes : List ℕ). Grows call.out.written call.out.written_after bytes) (ap (output play.tells) same) written;
      }

  task_out : (task : Task) → Gives call.host.files (Plays play) task → call.status ≡ (said (Plays play) task).status
      → Grows call.out.written call.out.written_after (said (Plays play) task).text → PlayedOut setup events play call
  task_out (Running run) given status written = run_out run given status written
  task_out (Planning plan) given status written = absurd given
  task_out (Converting bytes) given status written = absurd given

  pub out_of : IsComplete (Plays play) call → PlayedOut setup events play call
  out_of complete = task_out complete.task complete.given complete.status complete.written
