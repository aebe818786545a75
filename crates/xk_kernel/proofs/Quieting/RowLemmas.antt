-- A thread in hand, and what its quiet steps keep of the kernel.
use Rattle.xk_ports.specs.declared.store.SwapStore.{Ghosts as SwapStore}
use Rattle.std.proofs.Common.{◌≡◌, ℕ, ◌%◌, Option, sym, subst}
use Rattle.machine_model.specs.Runs.Matched.{Matched}
use Rattle.machine_model.specs.State.Machine.{Machine}
use Rattle.xk_parts.specs.Shown.{thread_of}
use Rattle.sv32_space.specs.Tie.{Held}
use Rattle.thread_table.specs.declared.thread.Thread.{Thread}
use Rattle.vm_memory.specs.Using.UserView.{KeepsRest}
use Rattle.xk_base.specs.declared.ids.ThreadId.{ThreadId}
use Rattle.xk_kernel.specs.Quiet.{in_hand}
use Rattle.xk_kernel.specs.Sound.{IsWhole}
use Rattle.xk_kernel.specs.State.{machine_of}
use Rattle.xk_kernel.specs.declared.kernel.Kernel.{Kernel}
use Rattle.xk_kernel.proofs.Memory.MemoryPartLemmas.{whole_with}
use Rattle.xk_kernel.proofs.Running.RanLemmas.{matched_memory}

-- a thread in hand: the thread, and the address that it has reserved
pub record Hand : Type 0 where
  pub thread : Thread
  pub reserved : Option ℕ

-- the machine with it, after so many steps
abbrev pub hand_in : {W : Type 0} → (W → Held) → ThreadId → Kernel W → Hand → ℕ → Machine
hand_in held who k h n = in_hand who (thread_of h.thread) h.reserved n (machine_of held k)

module _ {W : Type 0} (S : SwapStore W) where
  -- What is kept by steps of a thread in hand: all but the memory, and of that what its instructions keep; and the thread is as
  -- ready as before.
  pub record KeepsHand (old new : Kernel W) (hand after : Hand) : Type 0 where
    pub same : new ≡ record old { mem = new.mem }
    pub rest : KeepsRest S old.cursor.pid old.mem new.mem
    pub state : after.thread.state ≡ hand.thread.state
    pub aligned : after.thread.pc % 4 ≡ 0

  module _ (old mid : Kernel W) (a b : Hand) (h : KeepsHand old mid a b) where
    pub whole_still : IsWhole S old → IsWhole S mid
    whole_still whole = subst (λ (x : Kernel W). IsWhole S x) (sym h.same)
        (whole_with S old mid.mem whole old.cursor.pid h.rest)

    pub matched_still : Matched (machine_of S.held old) → Matched (machine_of S.held mid)
    matched_still matched = subst (λ (x : Kernel W). Matched (machine_of S.held x)) (sym h.same)
        (matched_memory S old mid.mem old.cursor matched h.rest)
