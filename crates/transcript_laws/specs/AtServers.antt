-- At which server a message is, since when it is there, and that no other server delivers, returns, forwards or ends it.
use Rattle.std.specs.Prelude.{◌≡◌, ◌≢◌, ℕ, ◌<◌, ◌≤◌, ◌⊎◌, ◌&&◌, true, false, List, length, slice_get, Some}
use Rattle.std.specs.List.{list_any}
use Rattle.xk_base.specs.declared.ids.Number.{Number}
use Rattle.xk_base.specs.declared.ids.Pid.{Pid}
use Rattle.xk_base.specs.declared.ids.ThreadId.{ThreadId}
use Rattle.xk_base.specs.declared.messages.Message.{Message}
use Rattle.syscall_codec.specs.CallNumbers.{forward_message}
use Rattle.syscall_codec.specs.CallWords.{call_number, forward_token, return_token}
use Rattle.xk_base.specs.Calls.Kinds.{is_answered}
use Rattle.machine_model.specs.Messaging.Messages.{is_of_number, is_sent_from}
use Rattle.machine_model.specs.Runs.LoanSpan.{IsServedCallOf}
use Rattle.machine_model.specs.Runs.Moments.{Cause, Moment, state_at}
use Rattle.machine_model.specs.State.Machine.{Machine, Server}
use Rattle.transcript_laws.specs.Contents.{RepliesAt}
use Rattle.transcript_laws.specs.Following.{Holds, Lacks, Over, Stands, is_message_of, is_return_call, keeping}
use Rattle.transcript_laws.specs.Serving.{Arrives, DiesIn, IsDelivered, IsDestroyed, IsReturned, told_by}

-- ---- where it is, and since when

-- the message of the number is queued or held at server n
abbrev pub IsAt : Number → ℕ → Machine → Type 0
IsAt number n m = keeping number (m.servers n) ≢ Lacks

-- the cause brings it to server n: it is sent to that server, or forwarded there
pub record Brings (number : Number) (n : ℕ) (cause : Cause) (m : Machine) : Type 0 where
  pub message : Message
  pub numbered : message.number ≡ number
  pub arrives : Arrives n message cause m

-- moment i of the run does
pub record BringsAt (number : Number) (n : ℕ) (start : Machine) (moments : List Moment) (i : ℕ) : Type 0 where
  pub moment : Moment
  pub there : slice_get moments i ≡ Some moment
  pub brings : Brings number n moment.cause (state_at start moments i)

-- Since when it is at server n, in the state after j moments: it was there from the start on, or moment i brought it there; and
-- it was there in every state from then on.
pub data IsAtSince (number : Number) (n : ℕ) (start : Machine) (moments : List Moment) (j : ℕ) : Type 0 where
  SinceStart : ((k : ℕ) → k ≤ j → IsAt number n (state_at start moments k)) → IsAtSince number n start moments j
  SinceMoment : (i : ℕ) → i < j → BringsAt number n start moments i
      → ((k : ℕ) → i < k → k ≤ j → IsAt number n (state_at start moments k)) → IsAtSince number n start moments j

-- server n has it before moment j, or gets it in that moment
abbrev pub HasItAt : Number → ℕ → Machine → List Moment → ℕ → Type 0
HasItAt number n start moments j = IsAtSince number n start moments j ⊎ BringsAt number n start moments j

-- ---- deliveries, returns and forwards

-- the server that delivers it to the thread in moment j has it
pub record IsGivenAt (number : Number) (who : ThreadId) (start : Machine) (moments : List Moment) (j : ℕ) : Type 0 where
  pub moment : Moment
  pub there : slice_get moments j ≡ Some moment
  pub message : Message
  pub numbered : message.number ≡ number
  pub given : IsDelivered who message moment.cause (state_at start moments j)
  pub has : HasItAt number given.n start moments j

-- the call is a return or a forward of the number
abbrev pub GivesUp : Number → List ℕ → Type 0
GivesUp number words =
    ((is_return_call (call_number words) ≡ true) × (return_token words ≡ number.0))
    ⊎ ((call_number words ≡ forward_message) × (forward_token words ≡ number.0))

-- a thread of the process makes such a call in moment j, and it is served
pub record GivesUpAt (number : Number) (pid : Pid) (start : Machine) (moments : List Moment) (j : ℕ) : Type 0 where
  pub moment : Moment
  pub there : slice_get moments j ≡ Some moment
  pub words : List ℕ
  pub served : IsServedCallOf pid words (state_at start moments j) moment
  pub gives : GivesUp number words

-- a server of the process holds it before moment j
pub record IsHeldAt (number : Number) (pid : Pid) (start : Machine) (moments : List Moment) (j : ℕ) : Type 0 where
  pub n : ℕ
  pub server : Server
  pub there : (state_at start moments j).servers n ≡ Some server
  pub own : server.pid ≡ pid
  pub holds : keeping number ((state_at start moments j).servers n) ≡ Holds
  pub since : IsAtSince number n start moments j

-- ---- the law of one server

pub record HaveOneServer (start : Machine) (moments : List Moment) : Type 0 where
  -- a message that is at a server was there from the start on, or was sent or forwarded to it, and stayed
  pub since : (number : Number) (n j : ℕ) → j ≤ length moments → IsAt number n (state_at start moments j)
      → IsAtSince number n start moments j
  -- it is at no other
  pub one : (number : Number) (n other j : ℕ) → IsAt number n (state_at start moments j) → IsAt number other (state_at start moments j)
      → n ≡ other
  -- a server that has it delivers it
  pub delivered : (number : Number) (words : List ℕ) (j : ℕ) (reply : RepliesAt words start moments j) → is_message_of number words ≡ true
      → IsGivenAt number reply.who start moments j
  -- the server that holds it returns or forwards it
  pub given_up : (number : Number) (pid : Pid) (j : ℕ) → GivesUpAt number pid start moments j → IsHeldAt number pid start moments j

-- ---- how it ends

-- the cause ends the message that server n has, or gets
pub data EndsAt (number : Number) (n : ℕ) (cause : Cause) (m : Machine) : Type 0 where
  -- a thread of the server's process returns it
  ByReturn : (server : Server) → m.servers n ≡ Some server → IsReturned number server cause m → EndsAt number n cause m
  -- it has no answer, and is delivered by the server
  ByDelivery : (who : ThreadId) (message : Message) (given : IsDelivered who message cause m) → given.n ≡ n → message.number ≡ number
      → is_answered message.kind ≡ false → EndsAt number n cause m
  -- the server's process dies, or a thread of it destroys the server
  ByServer : (server : Server) → m.servers n ≡ Some server → DiesIn (told_by cause m) server.pid ⊎ IsDestroyed n server cause m
      → EndsAt number n cause m
  -- it is queued there, and the process dies whose thread waits for its answer
  BySender : (server : Server) (pid : Pid) → m.servers n ≡ Some server → DiesIn (told_by cause m) pid
      → list_any (λ message. is_of_number number message && is_sent_from pid message) server.queued ≡ true → EndsAt number n cause m

-- a moment of the run does, and the server has it then
pub record EndsIn (number : Number) (start : Machine) (moments : List Moment) : Type 0 where
  pub j : ℕ
  pub moment : Moment
  pub there : slice_get moments j ≡ Some moment
  pub n : ℕ
  pub has : HasItAt number n start moments j
  pub ends : EndsAt number n moment.cause (state_at start moments j)

-- Each message that was accepted is at a server in the end, which has it since it was sent or forwarded there; or it was over at the
-- start; or it was ended at the server that had it.
abbrev pub EndsAtItsServer : Machine → List Moment → Type 0
EndsAtItsServer start moments =
    (number : Number) → number.0 < (state_at start moments (length moments)).next_number
    → ((n : ℕ) × IsAtSince number n start moments (length moments)) ⊎ (Stands number start Over ⊎ EndsIn number start moments)
