-- `jal x0, 0` jumps to itself: a Ready thread at it spins, so a pick and a tick in turn can starve all others.
use Rattle.std.specs.Prelude.{◌≡◌, ℕ, ◌%◌, ◌<◌, true, false, if◌then◌else◌, ◌∷◌, replicate, Some, None}
use Rattle.xk_base.specs.declared.ids.ThreadId.{ThreadId}
use Rattle.xk_base.specs.declared.pages.Access.TheVariants.{Fetch}
use Rattle.xk_base.specs.declared.pages.Width.TheVariants.{Word}
use Rattle.xk_base.specs.UserMemory.{number_at}
use Rattle.xk_base.specs.Numbers.Windows.{page_of}
use Rattle.ledger_model.specs.Ledger.{Bytes, Page}
use Rattle.ledger_model.specs.Places.{same_place}
use Rattle.machine_model.specs.State.Machine.{Machine, Ready, Thread}
use Rattle.machine_model.specs.State.Views.{memory_of}
use Rattle.machine_model.specs.Stepping.Step.{ends_handler, ends_thread}
use Rattle.machine_model.specs.Worked.Rows.{id_of, pid_of, small_machine}
use Rattle.transcript_laws.specs.Turns.{IsAtRisk, Spins}

-- the word of `jal x0, 0`
abbrev pub jump_to_itself : ℕ
jump_to_itself = 0x6F

-- The thread is Ready, and its next instruction is that jump.
pub record IsAtJump (who : ThreadId) (m : Machine) : Type 0 where
  pub thread : Thread
  pub there : m.threads who ≡ Some thread
  pub ready : thread.state ≡ Ready
  pub thread_goes_on : ends_thread who thread.pc ≡ false
  pub handler_goes_on : ends_handler who thread.pc ≡ false
  pub fetches : (memory_of m who.pid).may Fetch thread.pc ≡ true
  pub word : number_at (memory_of m who.pid).byte thread.pc Word ≡ jump_to_itself
  pub aligned : thread.pc % 4 ≡ 0
  pub fits : thread.pc < 4294967296

-- So it spins.
abbrev pub JumpSpins : Type 0
JumpSpins = (m : Machine) (who : ThreadId) → IsAtJump who m → Spins who m

-- ---- a witness

-- a page that begins with the jump, and may be executed
abbrev pub jumping_page : Page
jumping_page = record { right = record { w = false; x = true }; contents = Bytes (jump_to_itself ∷ replicate 4095 0); loan = None }

-- two processes, each with its first thread at 0x10000, where the first has that page
abbrev pub jumping_machine : Machine
jumping_machine = record (small_machine 2) {
  ledger = record {
    home = λ p. if same_place p (page_of (pid_of 2) 0x10000) then Some jumping_page else None;
    orphan = λ p. None;
  };
}

-- So the premise of `picks_can_starve` can be met.
abbrev pub SomeIsAtRisk : Type 0
SomeIsAtRisk = IsAtRisk (id_of 2 2) (id_of 3 2) jumping_machine
