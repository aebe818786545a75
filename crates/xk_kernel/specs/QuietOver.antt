-- Quiet steps over the memory of a kernel alone, while the kernel has lent it: what is said of them is said of every kernel that has
-- this memory.
use Rattle.xk_ports.specs.declared.store.SwapStore.{Ghosts as SwapStore}
use Rattle.std.specs.Prelude.{◌≡◌, ℕ, ◌+◌, ◌<◌, ◌≤◌, ◌%◌, Bool, false, Option, Some}
use Rattle.machine_model.specs.Runs.Matched.{Matched}
use Rattle.machine_model.specs.State.Machine.{Machine, Thread}
use Rattle.machine_model.specs.Stepping.Timer.{is_due}
use Rattle.sv32_space.specs.Tie.{Held}
use Rattle.thread_table.specs.Lending.{with_thread}
use Rattle.thread_table.specs.Shown.{process_count, threads_of}
use Rattle.thread_table.specs.declared.table.Threads.{Threads}
use Rattle.thread_table.specs.declared.thread.Thread.{Thread as TableThread}
use Rattle.vm_memory.specs.Bytes.{MeansBytes}
use Rattle.vm_memory.specs.Memory.{IsUsable}
use Rattle.vm_memory.specs.Using.UserView.{KeepsRest}
use Rattle.vm_memory.specs.declared.memory.Memory.{Memory}
use Rattle.xk_base.specs.Tables.Circle.{same_thread}
use Rattle.xk_base.specs.Tables.Counting.{put_at}
use Rattle.xk_base.specs.declared.ids.ThreadId.{ThreadId}
use Rattle.xk_kernel.specs.Quiet.{GoesQuietly, RunsQuietly, StepsIfQuiet, in_hand, steps_after}
use Rattle.xk_kernel.specs.Sound.{IsWhole}
use Rattle.xk_kernel.specs.State.{machine_of}
use Rattle.xk_kernel.specs.declared.kernel.Kernel.{Kernel}
use Rattle.xk_parts.specs.Shown.{thread_of}

-- the kernel with this memory, at the turn of that thread
abbrev pub around : {W : Type 0} → Memory W → ThreadId → Kernel W → Kernel W
around mem who k = record k { mem = mem; cursor = who }

-- a thread of the kernel may do quiet steps out of its table: the kernel is whole and matched
pub record MayStep {W : Type 0} (S : SwapStore W) (k : Kernel W) : Type 0 where
  pub whole : IsWhole S k
  pub matched : Matched (machine_of S.held k)

-- what a kernel has lent for quiet steps: its memory, and a thread out of its table, with the address that it has reserved
pub record Lent (W : Type 0) : Type 0 where
  pub mem : Memory W
  pub thread : Thread
  pub reserved : Option ℕ

-- the machine of the kernel with what is lent in hand, after so many steps
abbrev pub machine_with : {W : Type 0} → (W → Held) → Kernel W → ThreadId → Lent W → ℕ → Machine
machine_with held k who lent n = in_hand who lent.thread lent.reserved n (machine_of held (around lent.mem who k))

-- What came of a step that was to be done only if it is quiet, in every kernel around the memory whose timer isn't due at its end,
-- with any number of steps done before it, where bytes mean something.
abbrev pub StepsOver : {W : Type 0} → SwapStore W → ThreadId → Lent W → Lent W → Bool → Type 0
StepsOver {W} S who old new quiet =
    (k : Kernel W) → MayStep S (around old.mem who k) → (n : ℕ) → is_due k.timer (n + 1) ≡ false → MeansBytes S old.mem
    → StepsIfQuiet quiet (machine_with S.held k who old n) (machine_with S.held k who new (steps_after quiet n))

-- a quiet run of at most so many steps, in every kernel around the memory whose timer isn't due at the end of any of them
abbrev pub RunsOver : {W : Type 0} → SwapStore W → ThreadId → Lent W → Lent W → ℕ → ℕ → Type 0
RunsOver {W} S who old new most done =
    (k : Kernel W) → MayStep S (around old.mem who k) → ((j : ℕ) → j < most → is_due k.timer (k.steps + j + 1) ≡ false)
    → MeansBytes S old.mem
    → RunsQuietly most done (machine_with S.held k who old k.steps) (machine_with S.held k who new (k.steps + done))

-- ---- the states of a quiet run

-- so many steps were done, each of them quiet, in every such kernel
abbrev pub GoesOver : {W : Type 0} → SwapStore W → ThreadId → Lent W → Lent W → ℕ → Type 0
GoesOver {W} S who old new done =
    (k : Kernel W) → MayStep S (around old.mem who k) → ((j : ℕ) → j < done → is_due k.timer (k.steps + j + 1) ≡ false)
    → MeansBytes S old.mem → GoesQuietly done (machine_with S.held k who old k.steps) (machine_with S.held k who new (k.steps + done))

-- a thread as it is taken out of its table, with the address that it has reserved, and the memory that is lent to it
pub record Taken (W : Type 0) : Type 0 where
  pub mem : Memory W
  pub thread : TableThread
  pub reserved : Option ℕ

abbrev pub lent_to : {W : Type 0} → Taken W → Lent W
lent_to taken = record { mem = taken.mem; thread = thread_of taken.thread; reserved = taken.reserved }

-- A quiet run came by this after so many steps, each of them quiet. What the accesses of the process keep was kept, and the thread was as
-- ready as before.
pub record CameBy {W : Type 0} (S : SwapStore W) (who : ThreadId) (old : Taken W) (done : ℕ) : Type 0 where
  pub taken : Taken W
  pub goes : GoesOver S who (lent_to old) (lent_to taken) done
  pub rest : KeepsRest S who.pid old.mem taken.mem
  pub usable : IsUsable taken.mem
  pub state : taken.thread.state ≡ old.thread.state
  pub aligned : taken.thread.pc % 4 ≡ 0

-- after each number of steps up to this one it came by such
abbrev pub CameByAll : {W : Type 0} → SwapStore W → ThreadId → Taken W → ℕ → Type 0
CameByAll S who old done = (n : ℕ) → n ≤ done → CameBy S who old n

-- ---- a thread that is put back

-- the table with this thread in place of one that it has: that is its thread of that id, and it has room for as many processes
pub record PutsThread (table : Threads) (who : ThreadId) (thread : TableThread) : Type 0 where
  pub threads : threads_of (with_thread table who thread) ≡ put_at same_thread (threads_of table) who (Some thread)
  pub count : process_count (with_thread table who thread) ≡ process_count table
