-- The parts of the machine's invariant in their order, and the first that fails.
use Rattle.std.specs.Prelude.{ℕ, ◌<◌, ◌&&◌, Bool}
use Rattle.std.specs.List.{list_all}
use Rattle.ledger_model.specs.Loans.{loans}
use Rattle.machine_model.specs.State.Machine.{Machine}
use Rattle.machine_model.specs.Runs.Matched.{AreHomesLiving, IsLedgerMatched, AreLoansMatched, AreSendersMatched, AreReceiversMatched}
use Rattle.machine_model.specs.Runs.Matched.{AreJoinersMatched, AreThreadsMatched, AreHandlersMatched, AreHeapsMatched, AreThreadIdsMatched}
use Rattle.machine_model.specs.Runs.Matched.{AreProcessesMatched, AreServersMatched, AreClaimsMatched, AreNextAbove, AreNextStepped}
use Rattle.machine_model.specs.Runs.Matched.{IsTimerMatched}
use Rattle.snapshot_matching.specs.declared.parts.Part.{Part}
use Rattle.snapshot_matching.specs.declared.parts.Part.TheVariants as parts
use Rattle.snapshot_rows.specs.declared.state.State.{State}
use Rattle.snapshot_matching.specs.ProcessParts.{are_processes_told, is_claim_living}
use Rattle.snapshot_matching.specs.ThreadParts.{is_thread_living}
use Rattle.snapshot_rows.specs.PageParts.{is_home_living}
use Rattle.snapshot_matching.specs.ServerParts.{are_few_apart, is_below_next, leads_below}

-- ---- part 8 as tests of the rows

-- part 8 without the steps and the numbers of messages
abbrev pub are_keys_told : State → Bool
are_keys_told s =
    list_all (is_thread_living s.n s.procs) s.threads && (list_all (is_home_living s.procs) s.pages && (are_processes_told s.n s.procs
    && (are_few_apart s.procs s.servers && (list_all (is_claim_living s.procs) s.claims
    && (list_all (is_below_next s.next_number s.next_serial) s.servers && list_all (leads_below s.next_serial) s.procs)))))

-- ---- the parts

abbrev pub number_of : Part → ℕ
number_of parts.Ledger = 1
number_of parts.Loans = 2
number_of parts.Senders = 3
number_of parts.Receivers = 4
number_of parts.Joiners = 5
number_of parts.Threads = 6
number_of parts.Heaps = 7
number_of parts.Keys = 8
number_of parts.Timer = 9

-- part 8: keys, limits and the dead
pub record AreKeysMatched (m : Machine) : Type 0 where
  pub ids : AreThreadIdsMatched m.processes m.process m.threads
  pub pages : AreHomesLiving m.process m.ledger
  pub processes : AreProcessesMatched m.processes m.process
  pub servers : AreServersMatched m.process m.servers
  pub claims : AreClaimsMatched m.process m.claims m.pending
  pub above : AreNextAbove m.next_number m.next_serial m.process m.servers
  pub stepped : AreNextStepped m.next_number m.next_serial m.steps

-- what a part says of the machine
abbrev pub Holds : Part → Machine → Type 0
Holds parts.Ledger m = IsLedgerMatched m.processes m.capacity m.process m.ledger
Holds parts.Loans m = AreLoansMatched (loans m.ledger) m.servers
Holds parts.Senders m = AreSendersMatched m.threads m.servers
Holds parts.Receivers m = AreReceiversMatched m.threads m.servers
Holds parts.Joiners m = AreJoinersMatched m.threads
Holds parts.Threads m = AreThreadsMatched m.process m.threads × AreHandlersMatched m.claims
Holds parts.Heaps m = AreHeapsMatched m.process m.ledger
Holds parts.Keys m = AreKeysMatched m
Holds parts.Timer m = IsTimerMatched m.compare m.claims

-- the part fails, and all before it hold
pub record IsFirstUnmatched (m : Machine) (part : Part) : Type 0 where
  pub fails : Holds part m → ⊥
  pub earlier : (other : Part) → number_of other < number_of part → Holds other m
