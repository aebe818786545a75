-- Where the walk of Sv32 in a process's page tables comes to a page.
use Rattle.std.specs.Prelude.{ℕ, ◌&&◌, Bool, true, false, not, is_some}
use Rattle.xk_base.specs.Numbers.Windows.{page_of}
use Rattle.xk_base.specs.declared.ids.Pid.{Pid}
use Rattle.xk_base.specs.declared.pages.Access.{Access}
use Rattle.ledger_model.specs.Reach.{reach}
use Rattle.sv32_space.specs.Spaces.{root_at}
use Rattle.sv32_space.specs.Tie.{Held}
use Rattle.sv32_space.specs.Walk.{walk_of}
use Rattle.sv32_space.specs.declared.walking.Walked.{Walked}
use Rattle.sv32_space.specs.declared.walking.Walked.TheVariants.{Reaches, PageFault}
use Rattle.vm_memory.specs.declared.memory.Memory.{Memory}
use Rattle.vm_memory.specs.Bytes.{is_out}
use Rattle.vm_memory.specs.Memory.{ledger, processes}

abbrev pub is_reached : Walked → Bool
is_reached PageFault = false
is_reached (Reaches address) = true

-- the walk of an access to an address, from the root table of the process, comes to a page
abbrev pub walk_reaches : {W : Type 0} → Memory W → Pid → ℕ → Access → Bool
walk_reaches m pid address access = is_reached (walk_of m.ram (root_at pid.0) address access)

-- *Reach* gives the process the access at the address, and the page there isn't out
abbrev pub is_reachable : {W : Type 0} → (W → Held) → Memory W → Pid → ℕ → Access → Bool
is_reachable held m pid address access =
    is_some (reach (processes m) (ledger held m) (page_of pid address) access) && not (is_out m (page_of pid address))
