-- What a call of the program does by its words, without the laws of runs.
use Rattle.std.specs.Prelude.{IfSome, Option}
use Rattle.xk_ports.specs.declared.store.SwapStore.{Ghosts as SwapStore}
use Rattle.xous_program.specs.Outcome.Ends.{Ends}
use Rattle.xous_program.specs.Outcome.InRam.{EndsInRam}
use Rattle.xous_program.specs.Outcome.Said.{IsInLimits}
use Rattle.xous_program.specs.Outcome.Sides.{Call}
use Rattle.xous_program.specs.Words.{Command}

-- The call ended as its words say, with a kernel for each state of the run that it played, and the numbers among these words are within
-- their limits. The store is the one that is handed back.
pub record DoesCommand {W : Type 0} (S : SwapStore W) (command : Option Command) (call : Call) (store : W) : Type 0 where
  pub ends : Ends command call
  pub in_ram : EndsInRam S command call store
  pub limits : IfSome command IsInLimits
