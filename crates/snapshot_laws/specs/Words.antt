-- What of a machine a word of 32 bits holds, and that it fits into one.
use Rattle.std.specs.Prelude.{◌≡◌, ℕ, ◌≤◌, List, All, length, slice_index, Some}
use Rattle.xk_base.specs.declared.ids.ThreadId.{ThreadId}
use Rattle.xk_base.specs.declared.messages.Message.{Message}
use Rattle.ledger_model.specs.WholePages.{HasWholePages}
use Rattle.machine_model.specs.State.Machine.{Claim, Machine, Reservation, Server, Thread}
use Rattle.machine_model.specs.State.Servers.{messages_of}

-- the greatest word
abbrev pub greatest : ℕ
greatest = 0xFFFFFFFF

abbrev pub AreWords : List ℕ → Type 0
AreWords numbers = All (λ n. n ≤ greatest) numbers

-- a thread has 32 registers, of which x0 is 0 (RISC-V Unprivileged ISA, 2.1)
pub record AreRegisters (regs : List ℕ) : Type 0 where
  pub many : length regs ≡ 32
  pub x0 : slice_index regs 0 ≡ 0
  pub words : AreWords regs

pub record IsThreadOfWords (t : Thread) : Type 0 where
  pub pc : t.pc ≤ greatest
  pub regs : AreRegisters t.regs

-- an identifier and a message have four words
pub record AreFourWords (numbers : List ℕ) : Type 0 where
  pub four : length numbers ≡ 4
  pub words : AreWords numbers

pub record IsMessageOfWords (m : Message) : Type 0 where
  pub number : m.number.0 ≤ greatest
  pub id : m.id ≤ greatest
  pub words : AreFourWords m.words
  pub first : m.first.0 ≤ greatest
  pub count : m.count ≤ greatest

pub record IsServerOfWords (s : Server) : Type 0 where
  pub sid : AreFourWords s.sid.0
  pub messages : All IsMessageOfWords (messages_of s)

pub record IsClaimOfWords (c : Claim) : Type 0 where
  pub handler : c.handler ≤ greatest
  pub argument : c.argument ≤ greatest

-- .. of the whole machine; its pages have bytes
pub record IsMachineOfWords (m : Machine) : Type 0 where
  pub whole : HasWholePages m.ledger
  pub threads : (id : ThreadId) (t : Thread) → m.threads id ≡ Some t → IsThreadOfWords t
  pub servers : (serial : ℕ) (s : Server) → m.servers serial ≡ Some s → IsServerOfWords s
  pub claims : (number : ℕ) (c : Claim) → m.claims number ≡ Some c → IsClaimOfWords c
  pub compare : (at : ℕ) → m.compare ≡ Some at → at ≤ greatest
  pub reserved : (r : Reservation) → m.reserved ≡ Some r → r.address ≤ greatest
