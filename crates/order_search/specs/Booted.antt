-- Kernels that were booted.
use Rattle.std.specs.Prelude.{◌≡◌}
use Rattle.event_player.specs.Gathering.{Text}
use Rattle.event_player.specs.Standing.{Begins, stand}
use Rattle.order_search.specs.declared.subject.Subject.{Subject}
use Rattle.xk_kernel.specs.Start.{start}
use Rattle.xk_kernel.specs.State.{machine_of}
use Rattle.xk_kernel.specs.declared.kernel.Kernel.{Kernel}
use Rattle.xk_ports.specs.declared.store.SwapStore.{Ghosts as SwapStore}

-- a kernel stands at the start of the image, and a run begins there
pub record IsBooted {W : Type 0} (S : SwapStore W) (s : Subject) (k : Kernel W) : Type 0 where
  pub machine : machine_of S.held k ≡ start s.plan s.file.items
  pub begins : (text : Text) → Begins (start s.plan s.file.items) (stand S k text)
