-- What a kernel has beside its pages fits into the words of a state: its types keep it so.
use Rattle.std.specs.Prelude.{◌≡◌, ℕ, ◌≤◌, ◌<◌, List, ◌∷◌, length, All, Option, Some}
use Rattle.machine_model.specs.State.Machine.{Machine, Reservation, Server, Thread}
use Rattle.machine_model.specs.State.Servers.{messages_of}
use Rattle.suspend_image.specs.Reading.{greatest}
use Rattle.suspend_image.specs.Saveable.{IsClaimSaveable, IsMessageSaveable, IsThreadSaveable}
use Rattle.xk_base.specs.Tables.Circle.{id_at, thread_ids}
use Rattle.xk_base.specs.declared.limits.TheConstants.{INTERRUPT_LIMIT}
use Rattle.xk_base.specs.declared.messages.Message.{Message}

-- what a map has at numbers below n is such
abbrev pub EachBelow : {A : Type 0} → ℕ → (ℕ → Option A) → (A → Type 0) → Type 0
EachBelow {A} n map Is = (k : ℕ) (value : A) → k < n → map k ≡ Some value → Is value

-- x0 to x31, each a word; x0 is 0
pub record AreRegisters (regs : List ℕ) : Type 0 where
  pub many : length regs ≡ 32
  pub zero : (others : List ℕ) × (regs ≡ 0 ∷ others)
  pub words : All (λ r. r ≤ greatest) regs

pub record IsThreadFit (t : Thread) : Type 0 where
  pub registers : length t.regs ≡ 32
  pub words : IsThreadSaveable t

pub record IsMessageFit (m : Message) : Type 0 where
  pub four : length m.words ≡ 4
  pub words : IsMessageSaveable m

pub record IsServerFit (s : Server) : Type 0 where
  pub four : length s.sid.0 ≡ 4
  pub sid : All (λ w. w ≤ greatest) s.sid.0
  pub messages : All IsMessageFit (messages_of s)

-- the compare value, and the address that is reserved
pub record AreNumbersFit (m : Machine) : Type 0 where
  pub compare : (at : ℕ) → m.compare ≡ Some at → at ≤ greatest
  pub reserved : (r : Reservation) → m.reserved ≡ Some r → r.address ≤ greatest

-- all that a machine has beside its pages
pub record IsFit (m : Machine) : Type 0 where
  pub numbers : AreNumbersFit m
  pub threads : EachBelow (thread_ids m.processes) (λ k. m.threads (id_at k)) IsThreadFit
  pub servers : EachBelow m.next_serial m.servers IsServerFit
  pub claims : EachBelow INTERRUPT_LIMIT m.claims IsClaimSaveable
