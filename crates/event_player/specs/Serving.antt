-- What every call keeps that plays events on a kernel and tells of them on a sink.
use Rattle.std.specs.Prelude.{◌≡◌, ◌≤◌, ℕ, [], Result, Ok, Err, OnOk}
use Rattle.host_io.specs.Reading.{IsTold}
use Rattle.vm_memory.specs.Memory.{store_of}
use Rattle.xk_base.specs.Outside.{Rose}
use Rattle.xk_kernel.specs.Sound.{IsSound, IsUsable, Keeps}
use Rattle.xk_kernel.specs.State.{machine_of}
use Rattle.xk_kernel.specs.declared.kernel.Kernel.{Kernel}
use Rattle.xk_ports.specs.declared.host.FileSlot.TheVariants.{First, Second}
use Rattle.xk_ports.specs.declared.host.Host.{Ghosts as Host}
use Rattle.xk_ports.specs.declared.sink.Sink.{Ghosts as Sink}
use Rattle.xk_ports.specs.declared.store.SwapStore.{Ghosts as SwapStore}
use Rattle.event_player.specs.declared.ending.Ending.{Ending}
use Rattle.event_player.specs.declared.ending.Ending.TheVariants.{Played}
use Rattle.event_player.specs.declared.event_file.RunFault.{RunFault}
use Rattle.event_player.specs.declared.event_file.RunFault.TheVariants as faults
use Rattle.event_player.specs.declared.events.PlayFault.{PlayFault}
use Rattle.event_player.specs.declared.events.PlayFault.TheVariants.{Swap, Write}

-- which faults say that a write failed, and that the store did
pub record Faults (F : Type 0) : Type 0 where
  pub write : F
  pub swap : F

-- .. as events are played, and as a whole file is
abbrev pub of_events : Faults PlayFault
of_events = record { write = Write; swap = Swap }

abbrev pub of_file : Faults RunFault
of_file = record { write = faults.Write; swap = faults.Swap }

-- The kernel stays sound, it goes on within the step limit unless there is a fault, all is kept that every call keeps, and a fault comes only
-- where the count of faults of its object rose.
pub record Serves {W K A F : Type 0} (S : SwapStore W) (O : Sink K) (faults : Faults F) (limit : ℕ) (old new : Kernel W) (before after : K)
    (result : Result A F) : Type 0 where
  pub sound : IsSound S new
  pub usable : OnOk result (IsUsable new)
  pub keeps : Keeps S old new
  pub within : OnOk result ((machine_of S.held new).steps ≤ limit)
  pub write : result ≡ Err faults.write → Rose (O.faults before) (O.faults after)
  pub swap : result ≡ Err faults.swap → Rose (S.faults (store_of old.mem)) (S.faults (store_of new.mem))
  pub never_falls : O.faults before ≤ O.faults after

-- Of the host the file at the second slot alone is read, where all events were played to its end.
pub record ReadsFile {H : Type 0} (host : Host H) (old new : H) (result : Result Ending RunFault) : Type 0 where
  pub end : result ≡ Ok Played → IsTold (host.left new Second) []
  pub read : result ≡ Err faults.Read → Rose (host.faults old) (host.faults new)
  pub asked : host.asked new ≡ host.asked old
  pub first : host.left new First ≡ host.left old First
  pub never_falls : host.faults old ≤ host.faults new
