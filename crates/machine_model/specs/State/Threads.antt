-- Threads: how they begin, and how they are changed and answered.
use Rattle.std.specs.Prelude.{ℕ, List, [], ◌∷◌, replicate, if◌then◌else◌, Option, Some, None}
use Rattle.std.specs.Option.{option_map, option_or}
use Rattle.xk_base.specs.declared.ids.Pid.{Pid}
use Rattle.xk_base.specs.declared.ids.ThreadId.{ThreadId}
use Rattle.xk_base.specs.Tables.Circle.{same_thread}
use Rattle.xk_base.specs.Tables.Counting.{put_at}
use Rattle.xk_base.specs.Calls.Registers.{with_reg, with_arguments}
use Rattle.syscall_codec.specs.ReplyWords.{eight_words}
use Rattle.machine_model.specs.Hart.Instructions.{following}
use Rattle.machine_model.specs.State.Machine.{Machine, Thread, ThreadState, Ready, Idle, Claim}

-- ---- addresses and registers of the calling convention

-- a fetch here by a thread above tid 1 ends that thread
abbrev pub thread_return : ℕ
thread_return = 0xFF80_3000

-- a fetch here by tid 1 ends the interrupt handler
abbrev pub handler_return : ℕ
handler_return = 0xFF80_2000

-- the end of the stack pages that a process begins with
abbrev pub first_stack : ℕ
first_stack = 0x8000_0000

-- the end of the interrupt thread's stack page
abbrev pub handler_stack : ℕ
handler_stack = 0x7F00_1000

-- registers that begin with these values of ra, which is x1, and sp, which is x2, and these arguments from a0 on, all
-- else 0
abbrev pub fresh_registers : ℕ → ℕ → List ℕ → List ℕ
fresh_registers ra sp arguments = with_arguments (eight_words arguments) (with_reg (with_reg (replicate 32 0) 1 ra) 2 sp)

-- ---- threads at their beginning

-- a thread that begins at an address
abbrev pub new_thread : ℕ → ℕ → List ℕ → Thread
new_thread entry sp arguments = record { pc = entry; regs = fresh_registers thread_return sp arguments; state = Ready }

-- the first thread of a process, whose tid is 2
abbrev pub first_thread : ℕ → Thread
first_thread entry = new_thread entry first_stack []

-- the interrupt thread of a process, whose tid is 1, before the first interrupt
abbrev pub first_handler_thread : Thread
first_handler_thread = record { pc = 0; regs = replicate 32 0; state = Idle }

-- the interrupt thread as the handler of number k begins
abbrev pub handler_thread : ℕ → Claim → Thread
handler_thread k claim = record {
  pc = claim.handler;
  regs = fresh_registers handler_return handler_stack (k ∷ claim.argument ∷ []);
  state = Ready;
}

-- ---- changes of one thread

abbrev pub thread_id : Pid → ℕ → ThreadId
thread_id pid tid = record { pid = pid; tid = record { 0 = tid } }

-- the machine with another thread, or none, at that id
abbrev pub put_thread : ThreadId → Option Thread → Machine → Machine
put_thread id thread m = record m { threads = put_at same_thread m.threads id thread }

-- the machine with that thread changed, where there is one
abbrev pub change_thread : ThreadId → (Thread → Thread) → Machine → Machine
change_thread id change m = put_thread id (option_map change (m.threads id)) m

abbrev pub with_state : ThreadState → Thread → Thread
with_state state t = record t { state = state }

-- past the instruction at its pc
abbrev pub passed : Thread → Thread
passed t = record t { pc = following t.pc }

abbrev pub with_registers : List ℕ → ℕ → Thread → Thread
with_registers regs pc t = record t { regs = regs; pc = pc }

-- ---- answers

-- the eight words that each thread is answered, and none for a thread that is not
abbrev pub Answers : Type 0
Answers = ThreadId → Option (List ℕ)

abbrev pub no_answers : Answers
no_answers id = None

-- these words for that thread alone
abbrev pub answer_to : ThreadId → List ℕ → Answers
answer_to who words id = if same_thread id who then Some words else None

-- the answers of both; a thread that is in both has the first
abbrev pub both_answers : Answers → Answers → Answers
both_answers some others id = option_or (some id) (others id)

-- an answered thread has the words in a0 to a7 and is Ready
abbrev pub with_answer : Option (List ℕ) → Thread → Thread
with_answer None t = t
with_answer (Some words) t = record t { regs = with_arguments words t.regs; state = Ready }

-- every thread that is answered has its answer
abbrev pub give_answers : Answers → Machine → Machine
give_answers answers m = record m { threads = λ id. option_map (with_answer (answers id)) (m.threads id) }
