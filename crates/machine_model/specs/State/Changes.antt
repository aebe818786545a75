-- What happens in a step or an event, and the one place where it becomes the next state and its records.
use Rattle.std.specs.Prelude.{ℕ, Bool, true, false, is_some, List, [], ◌∷◌, ◌++◌, map, unwrap_or, if◌then◌else◌, Option, Some, None}
use Rattle.xk_base.specs.declared.errors.XousError.{XousError}
use Rattle.xk_base.specs.declared.ids.Pid.{Pid}
use Rattle.xk_base.specs.declared.records.What.{What}
use Rattle.xk_base.specs.declared.records.What.TheVariants.{Reply, Retry, Irq, Gone}
use Rattle.xk_base.specs.Tables.Circle.{listed_ids}
use Rattle.syscall_codec.specs.ReplyWords.{refused_words}
use Rattle.machine_model.specs.State.Machine.{Machine, Thread}
use Rattle.machine_model.specs.State.Order.{turn}
use Rattle.machine_model.specs.State.Threads.{Answers, no_answers, give_answers, change_thread, passed}
use Rattle.xk_base.specs.Calls.Registers.{with_arguments}

-- an interrupt that was taken out of the pending set, and whose handler starts in the process
pub record Delivery : Type 0 where
  pub pid : Pid
  pub number : ℕ

-- A change of the machine: the state without the answers to threads, these answers, the interrupt that is delivered,
-- and the process that died.
pub record Change : Type 0 where
  pub machine : Machine
  pub answers : Answers
  pub delivery : Option Delivery
  pub gone : Option Pid

-- a change that answers nobody
abbrev pub only : Machine → Change
only m = record { machine = m; answers = no_answers; delivery = None; gone = None }

-- a change that answers these threads
abbrev pub answering : Answers → Machine → Change
answering answers m = record { machine = m; answers = answers; delivery = None; gone = None }

-- the next state, and what the transcript tells of it, in its order
pub record Told : Type 0 where
  pub machine : Machine
  pub told : List What

-- ---- records

-- a record for each answered thread, in ascending order of threads
abbrev pub replies : ℕ → Answers → List What
replies processes answers = map (λ id. Reply id (unwrap_or (answers id) [])) (listed_ids processes (λ id. is_some (answers id)))

-- the record of an interrupt whose handler starts
abbrev pub delivery_told : Option Delivery → List What
delivery_told None = []
delivery_told (Some d) = Irq d.pid d.number ∷ []

-- the record of a death
abbrev pub death_told : Option Pid → List What
death_told None = []
death_told (Some pid) = Gone pid ∷ []

-- replies in ascending order of thread, then the interrupt, then the death
abbrev pub change_told : ℕ → Change → List What
change_told processes change = replies processes change.answers ++ (delivery_told change.delivery ++ death_told change.gone)

-- ---- settled

-- a change takes place: the answers are given
unfoldable pub settled : Change → Told
settled change = record {
  machine = give_answers change.answers change.machine;
  told = change_told change.machine.processes change;
}

-- what comes of a system call
pub data Outcome : Type 0 where
  Refused : XousError → Outcome
  Retried : Outcome
  Served : Change → Outcome

-- a refused caller is past its call and has the error in its reply registers
abbrev pub with_refusal : XousError → Thread → Thread
with_refusal error t = passed (record t { regs = with_arguments (refused_words error) t.regs })

-- The call of the cursor's thread takes place. A refusal changes the caller's pc and a0 to a7 and nothing else. A
-- retry ends the turn and changes nothing else: the caller will make the call again. A served caller is past its call,
-- also where it waits.
unfoldable pub call_settled : Machine → Outcome → Told
call_settled m (Refused error) = record {
  machine = change_thread m.cursor (with_refusal error) m;
  told = Reply m.cursor (refused_words error) ∷ [];
}
call_settled m Retried = record { machine = turn m; told = Retry m.cursor ∷ [] }
call_settled m (Served change) = settled (record change { machine = change_thread m.cursor passed change.machine })

-- ---- refusals

-- the error of the first test that holds
abbrev pub first_refusal : List (Bool × XousError) → Option XousError
first_refusal [] = None
first_refusal (r ∷ rs) = if r.0 then Some r.1 else first_refusal rs

-- refused, where there is an error, and else what follows
abbrev pub refused_or : Option XousError → Outcome → Outcome
refused_or None outcome = outcome
refused_or (Some error) outcome = Refused error

-- refused by the first test that holds, and else what follows
abbrev pub unless_refused : List (Bool × XousError) → Outcome → Outcome
unless_refused refusals outcome = refused_or (first_refusal refusals) outcome

-- retried where the test holds, and else what follows
abbrev pub unless_retried : Bool → Outcome → Outcome
unless_retried true outcome = Retried
unless_retried false outcome = outcome

-- what comes of a call that the cursor's thread makes with these eight words
abbrev pub Call : Type 0
Call = Machine → List ℕ → Outcome
