-- In which order a server receives what it has queued, and delivers what comes to it.
use Rattle.std.specs.Prelude.{◌≡◌, ◌≢◌, ℕ, suc, ◌<◌, ◌≤◌, ◌⊎◌, ◌&&◌, true, List, ◌∷◌, ◌++◌, slice_get, Some}
use Rattle.std.specs.List.{list_any}
use Rattle.xk_base.specs.declared.ids.Number.{Number}
use Rattle.xk_base.specs.declared.ids.Pid.{Pid}
use Rattle.xk_base.specs.declared.messages.Message.{Message}
use Rattle.syscall_codec.specs.ReplyWords.{message_words}
use Rattle.machine_model.specs.Messaging.Messages.{is_of_number, is_sent_from, oldest}
use Rattle.machine_model.specs.Runs.Moments.{Moment, state_at}
use Rattle.machine_model.specs.State.Machine.{Machine, Server}
use Rattle.transcript_laws.specs.AtServers.{IsAt}
use Rattle.transcript_laws.specs.Contents.{RepliesAt}
use Rattle.transcript_laws.specs.Following.{Lacks, Queues, keeping}
use Rattle.transcript_laws.specs.Serving.{DiesIn, IsDelivered, told_by}

-- in the queue the message of the first number stands before that of the second, so that it is the older one
pub record StandsBefore (first second : Number) (queue : List Message) : Type 0 where
  pub before : List Message
  pub one : Message
  pub between : List Message
  pub two : Message
  pub later : List Message
  pub here : queue ≡ before ++ (one ∷ between ++ (two ∷ later))
  pub is_first : one.number ≡ first
  pub is_second : two.number ≡ second

-- so it is at the server
pub record StandsBeforeAt (n : ℕ) (first second : Number) (m : Machine) : Type 0 where
  pub server : Server
  pub there : m.servers n ≡ Some server
  pub stands : StandsBefore first second server.queued

-- the message isn't the one that the server gives next to who receives
abbrev pub IsNotNext : ℕ → Number → Machine → Type 0
IsNotNext n number m = (server : Server) (x : Message) → m.servers n ≡ Some server → oldest server.queued ≡ Some x → x.number ≢ number

-- as long as the first message stays queued at the server, the second, which stands behind it, isn't next
abbrev pub OrderKept : Machine → List Moment → Type 0
OrderKept start moments =
    (n : ℕ) (first second : Number) (i j : ℕ) → i ≤ j → StandsBeforeAt n first second (state_at start moments i)
    → ((k : ℕ) → i ≤ k → k ≤ j → keeping first ((state_at start moments k).servers n) ≡ Queues)
    → IsNotNext n second (state_at start moments j)

-- ---- over the records of a run

-- a record of moment k delivers the message, and server n is the one that does
pub record DeliversAt (number : Number) (n : ℕ) (start : Machine) (moments : List Moment) (k : ℕ) : Type 0 where
  pub words : List ℕ
  pub reply : RepliesAt words start moments k
  pub message : Message
  pub numbered : message.number ≡ number
  pub tells : words ≡ message_words message
  pub given : IsDelivered reply.who message reply.moment.cause (state_at start moments k)
  pub by_server : given.n ≡ n

-- the message is queued at server n, and in moment k the process dies whose thread waits for the answer to it
pub record IsGivenUpAt (number : Number) (n : ℕ) (start : Machine) (moments : List Moment) (k : ℕ) : Type 0 where
  pub moment : Moment
  pub there : slice_get moments k ≡ Some moment
  pub server : Server
  pub live : (state_at start moments k).servers n ≡ Some server
  pub pid : Pid
  pub dies : DiesIn (told_by moment.cause (state_at start moments k)) pid
  pub queued : list_any (λ message. is_of_number number message && is_sent_from pid message) server.queued ≡ true

-- the message waits at server n
abbrev pub WaitsAt : Number → ℕ → Machine → Type 0
WaitsAt number n m = keeping number (m.servers n) ≡ Queues

-- it comes to server n in moment i, sent or forwarded there (`HaveOneServer`): it isn't there before, and is there then
abbrev pub ComesAt : Number → ℕ → Machine → List Moment → ℕ → Type 0
ComesAt number n start moments i =
    (keeping number ((state_at start moments i).servers n) ≡ Lacks) × IsAt number n (state_at start moments (suc i))

-- A server delivers in the order in which messages came to it. So as long as none is given up, the k-th that comes is the k-th that
-- a record delivers.
pub record DeliveredInOrder (start : Machine) (moments : List Moment) : Type 0 where
  -- what comes joins the queue behind all that wait, also what is forwarded
  pub joins : (n : ℕ) (first second : Number) (i : ℕ) → WaitsAt first n (state_at start moments i) → ComesAt second n start moments i
      → StandsBeforeAt n first second (state_at start moments (suc i))
  -- while one waits, no other is delivered that doesn't wait, too
  pub none_at_once : (n : ℕ) (first second : Number) (i : ℕ) → WaitsAt first n (state_at start moments i)
      → DeliversAt second n start moments i → WaitsAt second n (state_at start moments i)
  -- one that stands before another is delivered earlier, or is given up
  pub in_order : (n : ℕ) (first second : Number) (i j : ℕ) → i ≤ j → StandsBeforeAt n first second (state_at start moments i)
      → ((k : ℕ) → i ≤ k → k ≤ j → IsAt second n (state_at start moments k)) → DeliversAt second n start moments j
      → (k : ℕ) × (i ≤ k) × (k < j) × (DeliversAt first n start moments k ⊎ IsGivenUpAt first n start moments k)
