-- A server that is prompt, and how soon the sender of a message is answered by it.
use Rattle.std.specs.Prelude.{◌≡◌, ℕ, zero, suc, ◌+◌, ◌*◌, ◌<◌, ◌≤◌, true, false, if◌then◌else◌, List, [], ◌∷◌, slice_get, Some}
use Rattle.std.specs.Option.{option_map_or}
use Rattle.xk_base.specs.declared.ids.Number.{Number}
use Rattle.xk_base.specs.declared.ids.ThreadId.{ThreadId}
use Rattle.xk_base.specs.declared.limits.TheConstants.{MESSAGE_LIMIT}
use Rattle.xk_base.specs.declared.messages.Message.{Message}
use Rattle.machine_model.specs.Messaging.Messages.{is_of_number, oldest}
use Rattle.machine_model.specs.Runs.Matched.{waits_for}
use Rattle.machine_model.specs.Runs.Moments.{Moment, state_at}
use Rattle.machine_model.specs.State.Machine.{Machine, Server}
use Rattle.machine_model.specs.State.Order.{ready_at}
use Rattle.transcript_laws.specs.Answered.{IsAnswerTo}
use Rattle.transcript_laws.specs.AtServers.{IsAt}
use Rattle.transcript_laws.specs.Contents.{RepliesAt}
use Rattle.transcript_laws.specs.Following.{Holds, keeping}
use Rattle.transcript_laws.specs.Order.{WaitsAt}
use Rattle.transcript_laws.specs.Serving.{DiesIn, told_by}
use Rattle.transcript_laws.specs.Turns.{DoesStep, IsOrderKept}
use Rattle.lifetime_laws.specs.Scheduling.{KeepsTurns, steps_ahead}

-- ---- messages at a server

-- what is queued at server n, the oldest first
abbrev pub queue_at : ℕ → Machine → List Message
queue_at n m = option_map_or (λ (server : Server). server.queued) (m.servers n) []

-- the message of the number is the oldest queued there
abbrev pub IsNextAt : Number → ℕ → Machine → Type 0
IsNextAt number n m = (message : Message) × (oldest (queue_at n m) ≡ Some message) × (message.number ≡ number)

-- a thread of the server received it, and it isn't returned or forwarded yet
abbrev pub IsHeldAt : Number → ℕ → Machine → Type 0
IsHeldAt number n m = keeping number (m.servers n) ≡ Holds

-- how many messages stand before it in a queue; all of them, if it isn't queued there
unfoldable pub ahead_of : Number → List Message → ℕ
ahead_of number [] = 0
ahead_of number (message ∷ messages) = if is_of_number number message then 0 else suc (ahead_of number messages)

-- ---- own steps of a thread

-- so many steps of the thread are among the moments from the first to before the last
unfoldable pub DoesSteps : ℕ → ThreadId → Machine → List Moment → ℕ → ℕ → Type 0
DoesSteps zero who start moments first last = first ≤ last
DoesSteps (suc n) who start moments first last =
    (i : ℕ) × (first ≤ i) × (i < last) × DoesStep who start moments i × DoesSteps n who start moments (suc i) last

-- ---- prompt servers

-- The threads that work at a server: one that receives, and for each message the one that returns or forwards it. They may be one thread.
pub record Workers : Type 0 where
  pub receiver : ThreadId
  pub holder : Number → ThreadId

-- The workers of server n are prompt from the first moment to the last. Within `pace` own steps the receiver takes the oldest queued
-- message, and the holder gives up what is held. While there is such work they are Ready: they wait for nobody else.
pub record IsPrompt (pace n : ℕ) (workers : Workers) (start : Machine) (moments : List Moment) (first last : ℕ) : Type 0 where
  pub receives : (number : Number) (i j : ℕ) → first ≤ i → j ≤ last → IsNextAt number n (state_at start moments i)
      → DoesSteps pace workers.receiver start moments i j
      → (k : ℕ) × (i ≤ k) × (k ≤ j) × ¬ WaitsAt number n (state_at start moments k)
  pub gives_up : (number : Number) (i j : ℕ) → first ≤ i → j ≤ last → IsHeldAt number n (state_at start moments i)
      → DoesSteps pace (workers.holder number) start moments i j
      → (k : ℕ) × (i ≤ k) × (k ≤ j) × ¬ IsHeldAt number n (state_at start moments k)
  pub receiver_ready : (number : Number) (i : ℕ) → first ≤ i → i ≤ last → WaitsAt number n (state_at start moments i)
      → ready_at (state_at start moments i) workers.receiver ≡ true
  pub holder_ready : (number : Number) (i : ℕ) → first ≤ i → i ≤ last → IsHeldAt number n (state_at start moments i)
      → ready_at (state_at start moments i) (workers.holder number) ≡ true

-- no handler of an interrupt takes a turn from the workers of the server, and none of them loses one
pub record HaveTurns (workers : Workers) (start : Machine) (moments : List Moment) (first last : ℕ) : Type 0 where
  pub order : IsOrderKept start moments first last
  pub receiver : KeepsTurns workers.receiver start moments first last
  pub holder : (number : Number) → KeepsTurns (workers.holder number) start moments first last

-- a prompt server whose workers get their turns
pub record IsServing (pace n : ℕ) (workers : Workers) (start : Machine) (moments : List Moment) (first last : ℕ) : Type 0 where
  pub prompt : IsPrompt pace n workers start moments first last
  pub turns : HaveTurns workers start moments first last

-- ---- how long a message is at a prompt server

-- a worker does `pace` own steps in at most so many steps of all threads
abbrev pub steps_of_work : ℕ → ℕ → ℕ → ℕ
steps_of_work most processes pace = pace * (steps_ahead most processes + 1)

-- So many steps are enough for a message with that many before it: for each of them, for itself, and for its return.
abbrev pub steps_at_server : ℕ → ℕ → ℕ → ℕ → ℕ
steps_at_server most processes pace ahead = (ahead + 2) * steps_of_work most processes pace

-- the step by which the message has left server n
abbrev pub deadline : ℕ → ℕ → ℕ → Number → ℕ → Machine → ℕ
deadline most processes pace number n m = m.steps + steps_at_server most processes pace (ahead_of number (queue_at n m))

-- the message is at server n in each state from the first moment to the last
abbrev pub IsAtThrough : Number → ℕ → Machine → List Moment → ℕ → ℕ → Type 0
IsAtThrough number n start moments first last = (i : ℕ) → first ≤ i → i ≤ last → IsAt number n (state_at start moments i)

-- A message leaves a prompt server by its deadline: as long as it is there, fewer steps are done.
abbrev pub LeavesInTime : ℕ → Machine → List Moment → Type 0
LeavesInTime most start moments =
    (pace n : ℕ) (workers : Workers) (number : Number) (first last : ℕ) → first ≤ last → IsServing pace n workers start moments first last
    → IsAtThrough number n start moments first last
    → (state_at start moments last).steps < deadline most start.processes pace number n (state_at start moments first)

-- ---- its sender

-- Between the moments no thread forwards the message from one server to another: at which one it is, it stays until its end.
abbrev pub StaysAt : Number → ℕ → Machine → List Moment → ℕ → ℕ → Type 0
StaysAt number n start moments first last =
    (i other : ℕ) → first ≤ i → i ≤ last → IsAt number other (state_at start moments i) → other ≡ n

-- What ends the wait of the thread for the answer to its message in moment i: a reply with the words of the message's return, or one that
-- there is no server, because the message's server ends (`IsAnswerTo`); or the death of the thread's process.
pub data EndsWait (who : ThreadId) (number : Number) (start : Machine) (moments : List Moment) (i : ℕ) : Type 0 where
  ByReply : (words : List ℕ) (reply : RepliesAt words start moments i) → reply.who ≡ who
      → IsAnswerTo number words reply.moment.cause (state_at start moments i) → EndsWait who number start moments i
  ByDeath : (moment : Moment) → slice_get moments i ≡ Some moment → DiesIn (told_by moment.cause (state_at start moments i)) who.pid
      → EndsWait who number start moments i

-- It waits up to moment i, which ends that.
pub record IsAnsweredIn (who : ThreadId) (number : Number) (start : Machine) (moments : List Moment) (i : ℕ) : Type 0 where
  pub waited : waits_for (state_at start moments i).threads who number ≡ true
  pub freed : waits_for (state_at start moments (suc i)).threads who number ≡ false
  pub ends : EndsWait who number start moments i

-- The sender of a message at a prompt server is answered by the message's deadline, if the run goes on until then.
abbrev pub IsAnsweredInTime : ℕ → Machine → List Moment → Type 0
IsAnsweredInTime most start moments =
    (pace n : ℕ) (workers : Workers) (who : ThreadId) (number : Number) (first last : ℕ) → first ≤ last
    → IsServing pace n workers start moments first last → StaysAt number n start moments first last
    → waits_for (state_at start moments first).threads who number ≡ true
    → deadline most start.processes pace number n (state_at start moments first) ≤ (state_at start moments last).steps
    → (i : ℕ) × (first ≤ i) × (i < last) × IsAnsweredIn who number start moments i
    × ((state_at start moments (suc i)).steps ≤ deadline most start.processes pace number n (state_at start moments first))

-- ---- forwards

-- The message goes from one prompt server to the next: it is at so many servers more than one, one after another.
pub data Travels (pace : ℕ) (workers : ℕ → Workers) (number : Number) (start : Machine) (moments : List Moment) : ℕ → ℕ → ℕ → Type 0 where
  Stays : (n first last : ℕ) → first ≤ last → IsServing pace n (workers n) start moments first last
      → IsAtThrough number n start moments first last → Travels pace workers number start moments 0 first last
  GoesOn : (n hops first until last : ℕ) → first ≤ until → IsServing pace n (workers n) start moments first until
      → IsAtThrough number n start moments first until → Travels pace workers number start moments hops (suc until) last
      → Travels pace workers number start moments (suc hops) first last

-- at each server at most all but one of its messages stand before it
abbrev pub steps_of_travel : ℕ → ℕ → ℕ → ℕ → ℕ
steps_of_travel most processes pace hops = (hops + 1) * ((MESSAGE_LIMIT + 1) * steps_of_work most processes pace)

-- As long as a message is at prompt servers, fewer steps are done than are enough for that many of them.
abbrev pub TravelsInTime : ℕ → Machine → List Moment → Type 0
TravelsInTime most start moments =
    (pace hops : ℕ) (workers : ℕ → Workers) (number : Number) (first last : ℕ) → Travels pace workers number start moments hops first last
    → (state_at start moments last).steps < (state_at start moments first).steps + steps_of_travel most start.processes pace hops
