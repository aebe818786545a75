-- Who makes a system call, and what came of it before its caller is past it: the one outcome of the call, by its row of the table.
use Rattle.xk_ports.specs.declared.store.SwapStore.{Ghosts as SwapStore}
use Rattle.std.specs.Prelude.{◌≡◌, ℕ, ◌<◌, ◌==◌, ◌&&◌, Bool, true, List, Result, Ok, Err, [], ◌∷◌, not}
use Rattle.std.specs.Bool.{⊤}
use Rattle.std.specs.List.{list_any}
use Rattle.machine_model.specs.State.Changes.{Outcome, Refused, Retried, Served, call_settled, only, answering, unless_refused}
use Rattle.machine_model.specs.State.Connections.{connect_caller, own_connections}
use Rattle.machine_model.specs.Runs.Matched.{Matched}
use Rattle.machine_model.specs.State.Machine.{Machine}
use Rattle.machine_model.specs.State.Order.{ready_at}
use Rattle.machine_model.specs.State.Threads.{answer_to}
use Rattle.sv32_space.specs.Tie.{Held}
use Rattle.syscall_codec.specs.Replies.{words_of}
use Rattle.syscall_codec.specs.CallNumbers.{receive_message, send_message, return_memory, terminate_process, try_send_message}
use Rattle.syscall_codec.specs.CallNumbers.{return_scalar1, return_scalar2, try_receive_message, destroy_server, forward_message}
use Rattle.syscall_codec.specs.CallNumbers.{is_call_number}
use Rattle.syscall_codec.specs.CallWords.{call_number, is_refused_to_handler}
use Rattle.syscall_codec.specs.ReplyWords.{connection_words}
use Rattle.xk_base.specs.Tables.Connections.{cid_for, has_room}
use Rattle.xk_base.specs.declared.errors.XousError.{XousError}
use Rattle.xk_base.specs.declared.errors.XousError.TheVariants.{InvalidLimit}
use Rattle.xk_base.specs.declared.ids.Serial.{Serial}
use Rattle.xk_base.specs.declared.ids.ThreadId.{ThreadId}
use Rattle.xk_kernel.specs.Knowing.{ComesTo, IsCrowded}
use Rattle.xk_kernel.specs.Sound.{IsUsable, IsWhole}
use Rattle.xk_kernel.specs.State.{machine_of}
use Rattle.xk_kernel.specs.declared.kernel.Kernel.{Kernel}
use Rattle.xk_kernel.specs.declared.kernel.calls.CallerFate.{CallerFate}
use Rattle.xk_kernel.specs.declared.kernel.calls.CallerFate.TheVariants.{Answered, Waits, Retries}
use Rattle.xk_base.specs.declared.limits.TheConstants.{STEP_LIMIT}

-- the kernel is sound and usable, and the thread whose turn it is can make a call
pub record IsCaller {W : Type 0} (S : SwapStore W) (k : Kernel W) : Type 0 where
  pub whole : IsWhole S k
  pub usable : IsUsable k
  pub matched : Matched (machine_of S.held k)
  pub few : k.steps < STEP_LIMIT
  pub ready : ready_at (machine_of S.held k) k.cursor ≡ true

-- the caller is the interrupt thread, and the call can make it wait
abbrev pub is_refused_caller : Machine → List ℕ → Bool
is_refused_caller m words = m.cursor.tid.0 == 1 && is_refused_to_handler words

-- the numbers of the calls on messages, and of those that end a process or a server
abbrev pub other_numbers : List ℕ
other_numbers =
    receive_message ∷ send_message ∷ return_memory ∷ terminate_process ∷ try_send_message ∷ return_scalar1 ∷ return_scalar2
    ∷ try_receive_message ∷ destroy_server ∷ forward_message ∷ []

-- the number of any other call: its caller is answered once it is served
abbrev pub is_plain_number : ℕ → Bool
is_plain_number k = is_call_number k && not (list_any (λ n. n == k) other_numbers)

abbrev pub is_plain_call : List ℕ → Bool
is_plain_call words = is_plain_number (call_number words)

-- the outcome of a call of the thread whose caller fares so, where the machine is this one after it: the caller is answered, or
-- waits, or will make the call again
abbrev pub outcome_by : ThreadId → Machine → CallerFate → Outcome
outcome_by who m (Answered reply) = Served (answering (answer_to who (words_of reply)) m)
outcome_by who m Waits = Served (only m)
outcome_by who m Retries = Retried

-- the outcome of a call of the thread that was answered so, where the machine is this one after it
abbrev pub outcome_of : ThreadId → Machine → Result CallerFate XousError → Outcome
outcome_of who m (Err error) = Refused error
outcome_of who m (Ok fate) = outcome_by who m fate

-- The outcome of a call over the state that it comes to: that of its row, with the machine as it is but for bytes, and wholly where
-- these are known.
pub record ServesAs (known : Type 0) (who : ThreadId) (new : Machine) (outcome : Outcome)
    (served : Result CallerFate XousError) : Type 0 where
  pub target : Machine
  pub is : outcome_of who target served ≡ outcome
  pub comes : ComesTo known new target

-- the state that a call with this outcome leads to has more pages than there are frames for
abbrev pub CrowdsBy : {W : Type 0} → (W → Held) → Kernel W → Outcome → Type 0
CrowdsBy held k outcome = IsCrowded k (call_settled (machine_of held k) outcome).machine.ledger

-- this holds after a call that isn't done, as it is refused or will be made again
abbrev pub IfUndone : Result CallerFate XousError → Type 0 → Type 0
IfUndone (Err error) P = P
IfUndone (Ok Retries) P = P
IfUndone (Ok (Answered reply)) P = ⊤
IfUndone (Ok Waits) P = ⊤

-- the outcome of a connection to a server that is alive: there may be no room for one
abbrev pub connected_outcome : Machine → Serial → Outcome
connected_outcome m serial =
    unless_refused ((not (has_room serial (own_connections m)), InvalidLimit) ∷ [])
    (Served (answering (answer_to m.cursor (connection_words (cid_for serial (own_connections m)))) (connect_caller serial m)))
