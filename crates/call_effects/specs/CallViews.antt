-- What calls depend on: two machines that differ in nothing of it give one verdict on each call.
use Rattle.std.specs.Prelude.{◌≡◌, ℕ, false, List, [], None}
use Rattle.std.specs.Option.{option_map}
use Rattle.ledger_model.specs.Loans.{bare}
use Rattle.machine_model.specs.Calling.Calls.{call}
use Rattle.machine_model.specs.State.Machine.{Machine, Thread}
use Rattle.call_effects.specs.Deciding.{decide}
use Rattle.call_effects.specs.Verdicts.{meant}

-- of a thread its state alone
abbrev pub state_alone : Thread → Thread
state_alone t = record t { pc = 0; regs = [] }

-- All that calls depend on. Left out are the bytes of pages, the registers and pcs of threads, the count of steps, the reservation, the
-- timer's compare value, and which interrupts are pending. The words of the call come from the caller's registers, and are given apart.
abbrev pub call_view : Machine → Machine
call_view m = record m {
  ledger = bare m.ledger;
  threads = λ id. option_map state_alone (m.threads id);
  steps = 0;
  reserved = None;
  compare = None;
  pending = λ k. false;
}

-- the call has one verdict in both machines, and so does the same in each: it is refused or retried alike, or has the same effects in
-- the same order, and the same answers
pub record IsDecidedAlike (m n : Machine) (words : List ℕ) : Type 0 where
  pub verdict : decide m words ≡ decide n words
  pub one : call m words ≡ meant m (decide n words)
  pub other : call n words ≡ meant n (decide n words)

abbrev pub CallsDependOnTheirView : Type 0
CallsDependOnTheirView = (m n : Machine) (words : List ℕ) → call_view m ≡ call_view n → IsDecidedAlike m n words
