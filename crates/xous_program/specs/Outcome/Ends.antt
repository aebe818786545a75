-- How every call ends, by its words.
use Rattle.std.specs.Prelude.{Option, Some, None}
use Rattle.program_status.specs.declared.status.Status.TheVariants.{Usage}
use Rattle.xous_program.specs.Outcome.Check.{EndsCheck}
use Rattle.xous_program.specs.Outcome.Convert.{EndsConvert}
use Rattle.xous_program.specs.Outcome.Demo.{EndsDemo}
use Rattle.xous_program.specs.Outcome.Plays.{EndsPlay}
use Rattle.xous_program.specs.Outcome.Sides.{Call, IsUnprepared, IsUntouched}
use Rattle.xous_program.specs.Outcome.Resumes.{EndsResume}
use Rattle.xous_program.specs.Outcome.Suspends.{EndsSuspend}
use Rattle.xous_program.specs.Words.{Command, Plays, Checks, Converts, Demo, Suspends, Resumes}

-- by its command; `check` and `convert` don't prepare the store
abbrev pub EndsCommand : Command → Call → Type 0
EndsCommand (Plays play) call = EndsPlay play call
EndsCommand (Checks check) call = EndsCheck check call × IsUnprepared call.store
EndsCommand (Converts image) call = EndsConvert image call × IsUnprepared call.store
EndsCommand (Demo clients) call = EndsDemo clients call
EndsCommand (Suspends suspend) call = EndsSuspend suspend call
EndsCommand (Resumes resume) call = EndsResume resume call

-- What holds of a call whose words are this command, or none.
abbrev pub Ends : Option Command → Call → Type 0
Ends None call = IsUntouched Usage call
Ends (Some command) call = EndsCommand command call
