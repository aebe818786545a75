-- What the number of a call means, by its row of the table of calls, and that calls of a number keep the machine matched.
use Rattle.std.proofs.Common.{◌≡◌, ℕ, true, List, ap}
use Rattle.syscall_codec.specs.CallWords.{call_number}
use Rattle.machine_model.specs.Calling.Calls.{any_refusals, call, call_at, call_table}
use Rattle.machine_model.specs.State.Changes.{Call, unless_refused}
use Rattle.machine_model.specs.Runs.Matched.{Matched}
use Rattle.machine_model.specs.State.Machine.{Machine}
use Rattle.machine_model.specs.State.Order.{ready_at}
use Rattle.machine_laws.proofs.Calling.AnsweredCallLemmas.{Keeps}

-- a call of this number is that one, unless it is refused as any call is
abbrev pub Means : ℕ → Call → Type 0
Means n served = (m : Machine) (w : List ℕ) → call_number w ≡ n → call m w ≡ unless_refused (any_refusals m w) (served m w)

-- .. as its row says
pub row_is_meant : (n : ℕ) → Means n (call_at n call_table)
unfolding call
row_is_meant n m w e = ap (λ k. unless_refused (any_refusals m w) (call_at k call_table m w)) e

-- each call of this number that a Ready thread makes keeps the machine matched
abbrev pub KeepsNumber : ℕ → Type 0
KeepsNumber n = (m : Machine) → Matched m → ready_at m m.cursor ≡ true → (w : List ℕ) → call_number w ≡ n → Keeps m (call m w)
