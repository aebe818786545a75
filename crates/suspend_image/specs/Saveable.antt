-- What state bytes ask of a state of the machine beside its invariant: sizes, and numbers that fit into words. The types of the kernel
-- keep it of the state that it holds.
use Rattle.std.specs.Prelude.{◌≡◌, ℕ, ◌≤◌, IsTrue, List, ◌∷◌, length, Some, All}
use Rattle.xk_base.specs.declared.ids.Place.{Place}
use Rattle.xk_base.specs.declared.ids.ThreadId.{ThreadId}
use Rattle.xk_base.specs.declared.messages.Message.{Message}
use Rattle.xk_base.specs.Tables.Circle.{is_thread_id}
use Rattle.ledger_model.specs.Ledger.{Page, PageLoan, Orphan}
use Rattle.ledger_model.specs.WholePages.{HasWholePages}
use Rattle.machine_model.specs.State.Machine.{Machine, Thread, Server, Claim, Reservation}
use Rattle.machine_model.specs.State.Servers.{messages_of}
use Rattle.machine_model.specs.Runs.Matched.{Matched}
use Rattle.snapshot_rows.specs.declared.state.State.{State}
use Rattle.suspend_image.specs.Forms.{Spells}
use Rattle.snapshot_rows.specs.Machines.{machine_of}
use Rattle.suspend_image.specs.Reading.{greatest}
use Rattle.suspend_image.specs.SavedRows.{state_waits}
use Rattle.xk_base.specs.declared.limits.TheConstants.{STEP_LIMIT}

-- A thread has 32 registers, an identifier and a message have four words, and a page has 4,096 bytes.
pub record HasSizes (m : Machine) : Type 0 where
  pub registers : (id : ThreadId) (t : Thread) → m.threads id ≡ Some t → length t.regs ≡ 32
  pub identifiers : (serial : ℕ) (s : Server) → m.servers serial ≡ Some s → length s.sid.0 ≡ 4
  pub words : (serial : ℕ) (s : Server) → m.servers serial ≡ Some s → All (λ message. length message.words ≡ 4) (messages_of s)
  pub whole : HasWholePages m.ledger

-- the first register is 0
pub record IsThreadSaveable (t : Thread) : Type 0 where
  pub pc : t.pc ≤ greatest
  pub waits : state_waits t.state ≤ greatest
  pub zero : (others : List ℕ) × (t.regs ≡ 0 ∷ others)
  pub regs : All (λ r. r ≤ greatest) t.regs

pub record IsMessageSaveable (m : Message) : Type 0 where
  pub number : m.number.0 ≤ greatest
  pub id : m.id ≤ greatest
  pub words : All (λ w. w ≤ greatest) m.words
  pub first : m.first.0 ≤ greatest
  pub count : m.count ≤ greatest

pub record IsServerSaveable (s : Server) : Type 0 where
  pub sid : All (λ w. w ≤ greatest) s.sid.0
  pub messages : All IsMessageSaveable (messages_of s)

pub record IsClaimSaveable (c : Claim) : Type 0 where
  pub handler : c.handler ≤ greatest
  pub argument : c.argument ≤ greatest

pub record IsSaveable (m : Machine) : Type 0 where
  pub sizes : HasSizes m
  pub capacity : m.capacity ≤ 32768
  pub some_process : 1 ≤ m.processes
  pub steps : m.steps ≤ STEP_LIMIT
  pub cursor : IsTrue (is_thread_id m.processes m.cursor)
  pub compare : (at : ℕ) → m.compare ≡ Some at → at ≤ greatest
  pub reserved_by : (r : Reservation) → m.reserved ≡ Some r → IsTrue (is_thread_id m.processes r.who)
  pub reserved_at : (r : Reservation) → m.reserved ≡ Some r → r.address ≤ greatest
  pub threads : (id : ThreadId) (t : Thread) → m.threads id ≡ Some t → IsThreadSaveable t
  pub servers : (serial : ℕ) (s : Server) → m.servers serial ≡ Some s → IsServerSaveable s
  pub claims : (number : ℕ) (c : Claim) → m.claims number ≡ Some c → IsClaimSaveable c
  pub loans : (p : Place) (page : Page) (loan : PageLoan) → m.ledger.home p ≡ Some page → page.loan ≡ Some loan → loan.number.0 ≤ greatest
  pub orphans : (p : Place) (o : Orphan) → m.ledger.orphan p ≡ Some o → o.number.0 ≤ greatest

-- a file spells rows that say this state of the machine
pub record SpellsMachine (file : List ℕ) (m : Machine) : Type 0 where
  pub state : State
  pub spelled : Spells file state
  pub machine : machine_of file state ≡ m

-- a state of the machine that state bytes spell
pub record IsSpellable (m : Machine) : Type 0 where
  pub matched : Matched m
  pub saveable : IsSaveable m
