-- The kernel with a memory that has the same rights and loans.
use Rattle.xk_ports.specs.declared.store.SwapStore.{Ghosts as SwapStore}
use Rattle.std.proofs.Common.{◌≡◌, refl, sym, ap, ◌∙◌}
use Rattle.boot_plan.specs.Capacity.{capacity}
use Rattle.xk_base.specs.declared.ids.Pid.{Pid}
use Rattle.xk_base.specs.Tables.Circle.{is_thread_id}
use Rattle.ledger_model.specs.Loans.{loans}
use Rattle.ledger_model.proofs.Stepping.WritingLemmas.{bare-loans}
use Rattle.sv32_space.specs.Tie.{Held}
use Rattle.vm_memory.specs.declared.memory.Memory.{Memory}
use Rattle.vm_memory.specs.Memory.{Size, size, processes, capacity_of, ledger}
use Rattle.vm_memory.specs.Using.UserView.{KeepsRest}
use Rattle.xk_kernel.specs.Sound.{IsWhole, Keeps}
use Rattle.xk_kernel.specs.State.{machine_of}
use Rattle.xk_kernel.specs.declared.kernel.Kernel.{Kernel}
use Rattle.xk_kernel.proofs.Memory.KeptLoanLemmas.{servers_over}

-- ---- the machine

-- the kernel with that memory, and nothing else changed
abbrev pub with_memory : {W : Type 0} → Memory W → Kernel W → Kernel W
with_memory mem k = record k { mem = mem }

pub memory_machine : {W : Type 0} (held : W → Held) (k : Kernel W) (mem : Memory W) → size mem ≡ size k.mem
    → machine_of held (with_memory mem k) ≡ record (machine_of held k) { ledger = ledger held mem }
unfolding machine_of
memory_machine held k mem e =
    let room : capacity_of mem ≡ capacity_of k.mem = ap (λ (s : Size). capacity s.area.frames s.procs s.slots) e in
    let procs : processes mem ≡ processes k.mem = ap (λ (s : Size). s.procs) e in
    λ i. record (machine_of held k) { capacity = room i; processes = procs i; ledger = ledger held mem }

-- ---- soundness

module _ {W : Type 0} (S : SwapStore W)
    (k : Kernel W) (mem : Memory W) (whole : IsWhole S k) (pid : Pid) (rest : KeepsRest S pid k.mem mem) where
  procs : processes mem ≡ processes k.mem
  procs = ap (λ (s : Size). s.procs) rest.sizes

  pub whole_with : IsWhole S (with_memory mem k)
  whole_with = record {
    mem = rest.sound whole.mem;
    threads = whole.threads ∙ sym procs;
    procs = whole.procs ∙ sym procs;
    cursor = ap (λ n. is_thread_id n k.cursor) procs ∙ whole.cursor;
    room = whole.room;
    servers = servers_over k.servers k.queues (processes k.mem) (processes mem) (loans (ledger S.held k.mem)) (loans (ledger S.held mem)) procs
        (bare-loans (ledger S.held k.mem) (ledger S.held mem) rest.rights) whole.servers;
  }

  pub keeps_with : Keeps S k (with_memory mem k)
  keeps_with = record { size = rest.sizes; store = rest.store; room = refl }
