-- With which words the sender of a message is answered.
use Rattle.std.specs.Prelude.{◌≡◌, ◌≢◌, ℕ, ◌⊎◌, true, List, None, Some}
use Rattle.std.specs.Bool.{⊤}
use Rattle.std.specs.List.{All}
use Rattle.xk_base.specs.declared.errors.XousError.TheVariants.{ServerNotFound}
use Rattle.xk_base.specs.declared.ids.Number.{Number}
use Rattle.xk_base.specs.declared.ids.ThreadId.{ThreadId}
use Rattle.xk_base.specs.declared.records.Rec.{Rec}
use Rattle.xk_base.specs.declared.records.What.{What}
use Rattle.xk_base.specs.declared.records.What.TheVariants.{Call, Reply, Retry, Byte, Fault, End, Irq, Gone}
use Rattle.syscall_codec.specs.CallWords.{call_number, return_token}
use Rattle.syscall_codec.specs.ReplyWords.{refused_words}
use Rattle.machine_laws.specs.Records.{records_by}
use Rattle.machine_model.specs.Runs.Matched.{Matched, waits_for}
use Rattle.machine_model.specs.Runs.Moments.{Cause, caused}
use Rattle.machine_model.specs.State.Machine.{Machine, Server}
use Rattle.machine_model.specs.State.Order.{actor}
use Rattle.machine_model.specs.Stepping.Acts.{call_by}
use Rattle.transcript_laws.specs.CallKinds.{words_back}
use Rattle.transcript_laws.specs.Following.{Lacks, is_return_call, keeping}
use Rattle.transcript_laws.specs.Serving.{DiesIn, IsDestroyed, told_by}

-- the words that a return gives the sender
abbrev pub words_of_return : List ℕ → List ℕ
words_of_return w = words_back (call_number w) w

-- the caller of this step returns the message, with these words for its sender
pub record IsReturnedWith (number : Number) (words : List ℕ) (m : Machine) : Type 0 where
  pub who : ThreadId
  pub acts : actor m ≡ Some who
  pub call : List ℕ
  pub calls : call_by m who ≡ Some call
  pub returns : is_return_call (call_number call) ≡ true
  pub token : return_token call ≡ number.0
  pub given : words ≡ words_of_return call

-- the server that has the message, queued or held, ends now: its process dies, or a thread of it destroys the server
pub record IsUnserved (number : Number) (cause : Cause) (m : Machine) : Type 0 where
  pub n : ℕ
  pub server : Server
  pub there : m.servers n ≡ Some server
  pub had : keeping number (Some server) ≢ Lacks
  pub gone : (caused cause m).servers n ≡ None
  pub ends : DiesIn (told_by cause m) server.pid ⊎ IsDestroyed n server cause m

-- the words are those of the return of the message; or they say that there is no server, and the server that has it ends
abbrev pub IsAnswerTo : Number → List ℕ → Cause → Machine → Type 0
IsAnswerTo number words cause m = IsReturnedWith number words m ⊎ ((words ≡ refused_words ServerNotFound) × IsUnserved number cause m)

-- a reply to a thread that waits for the answer to a message is that answer; of other records nothing is asked
abbrev pub IsSenderAnswered : Cause → Machine → What → Type 0
IsSenderAnswered cause m (Call who words) = ⊤
IsSenderAnswered cause m (Reply who words) = (number : Number) → waits_for m.threads who number ≡ true → IsAnswerTo number words cause m
IsSenderAnswered cause m (Retry who) = ⊤
IsSenderAnswered cause m (Byte who byte) = ⊤
IsSenderAnswered cause m (Fault who code value) = ⊤
IsSenderAnswered cause m (End who) = ⊤
IsSenderAnswered cause m (Irq pid k) = ⊤
IsSenderAnswered cause m (Gone pid) = ⊤

-- of whatever leads from a matched state, also where the sender is of the server's own process
abbrev pub SendersAreAnswered : Type 0
SendersAreAnswered = (cause : Cause) (m : Machine) → Matched m → All (λ (rec : Rec). IsSenderAnswered cause m rec.what) (records_by cause m)
