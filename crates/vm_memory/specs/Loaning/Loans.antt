-- What each call that begins, changes or ends a loan, and each that moves pages, keeps of a memory.
use Rattle.xk_ports.specs.declared.store.SwapStore.{Ghosts as SwapStore}
use Rattle.std.specs.Prelude.{◌≡◌, ℕ, Bool, true}
use Rattle.std.specs.Option.{option_map_or}
use Rattle.ledger_model.specs.Loans.{LoanRun}
use Rattle.sv32_space.specs.Tie.{Held}
use Rattle.vm_memory.specs.declared.memory.Memory.{Memory}
use Rattle.vm_memory.specs.Bytes.{MeansBytes, none_out}
use Rattle.vm_memory.specs.Memory.{has_failed, size, store_of}
use Rattle.vm_memory.specs.Pages.Changing.{TakesNoSeat}
use Rattle.vm_memory.specs.Sound.{IsSound}
use Rattle.vm_memory.specs.Tie.{IsTied}

-- It is sound and tied to its ledger. How large it is, its store, and whether a call has failed stay.
pub record KeepsSeats {W : Type 0} (S : SwapStore W) (old new : Memory W) : Type 0 where
  pub sound : IsSound S.slot_count new
  pub tie : IsTied S.held new
  pub size : size new ≡ size old
  pub store : store_of new ≡ store_of old
  pub failed : has_failed new ≡ has_failed old
  pub seats : TakesNoSeat old new
  pub none : none_out old ≡ true → none_out new ≡ true
  pub means : MeansBytes S old → MeansBytes S new

-- how many orphans end with a loan: its pages, where it has no lender
abbrev pub orphans_of : LoanRun → ℕ
orphans_of loan = option_map_or (λ from. 0) loan.lender loan.count
