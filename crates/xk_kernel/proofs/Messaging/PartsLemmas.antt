-- The parts of a kernel that a call on messages takes: they are sound, the machine that they stand for is the kernel's, and a kernel
-- with sound parts is whole.
use Rattle.std.proofs.Common.{◌≡◌, ℕ, ◌≤◌, true, refl, sym, ap, subst, ◌∙◌, arith}
use Rattle.kill_path.proofs.FitLemmas.{open_loans, sound_servers}
use Rattle.ledger_model.specs.Loans.{loans}
use Rattle.machine_model.specs.Runs.Matched.{Matched}
use Rattle.machine_model.specs.State.Order.{ready_at}
use Rattle.send_path.proofs.Taken.{CallParts, CallTables, over, without_processes, parts_of, tables_of, taken, without_memory}
use Rattle.send_path.specs.Sending.{with_number}
use Rattle.std.specs.Prelude.{unwrap_or}
use Rattle.xk_parts.specs.Sound.{AreSound}
use Rattle.send_path.specs.Keeping.{KeepsMemory}
use Rattle.sv32_space.specs.Tie.{Held}
use Rattle.thread_table.specs.Shown.{process_count}
use Rattle.vm_memory.specs.Memory.{ledger, processes, size, store_of}
use Rattle.xk_base.specs.Tables.Circle.{is_thread_id}
use Rattle.xk_base.specs.declared.limits.TheConstants.{RECORD_LIMIT}
use Rattle.xk_ports.specs.declared.store.SwapStore.{Ghosts as SwapStore}
use Rattle.xk_ports.specs.Keeping.{KeepsStore}
use Rattle.xk_kernel.specs.Sound.{IsUsable, IsWhole, Keeps}
use Rattle.xk_kernel.specs.State.{machine_of}
use Rattle.xk_kernel.specs.declared.kernel.Kernel.{Kernel}
use Rattle.xk_parts.specs.Parts.{machine_at, no_store}

-- the parts of the kernel
abbrev pub parts : {W : Type 0} → Kernel W → CallParts W
parts k = parts_of k.mem k.threads k.servers k.queues k.log

abbrev pub tables : {W : Type 0} → Kernel W → CallTables
tables k = tables_of k.threads k.servers k.queues k.log

-- the kernel with these parts, whose next accepted message gets that number
abbrev pub with_new : {W : Type 0} → Kernel W → CallParts W → ℕ → Kernel W
with_new k new next = record k {
  mem = new.mem;
  threads = new.tables.threads;
  servers = new.tables.servers;
  queues = new.tables.queues;
  log = new.tables.log;
  next = next;
}

-- THE MACHINE of these parts, all else as in the kernel, is that of the kernel with them
module _ {W : Type 0} (held : W → Held) (k : Kernel W) (new : CallParts W) (same : process_count new.tables.threads ≡ processes new.mem) where
  pub machine_given : machine_at held k.cursor (taken new) (machine_of held k) ≡ machine_of held (with_new k new k.next)
  unfolding machine_of machine_at
  machine_given = λ i. record (machine_of held (with_new k new k.next)) { processes = same i }

  pub machine_with_processes : machine_at held k.cursor (over k.procs new) (machine_of held k) ≡ machine_of held (with_new k new k.next)
  unfolding machine_of machine_at
  machine_with_processes = λ i. record (machine_of held (with_new k new k.next)) { processes = same i }

  pub machine_next : (next : ℕ) → machine_at held k.cursor (over k.procs new) (with_number next (machine_of held k)) ≡ machine_of held (with_new k new next)
  unfolding machine_of machine_at
  machine_next next = λ i. record (machine_of held (with_new k new next)) { processes = same i }

-- .. and where no page moves
pub machine_tables : {W : Type 0} (held : W → Held) (k : Kernel W) (new : CallTables) → process_count new.threads ≡ processes k.mem
    → machine_at no_store.held k.cursor (without_memory new) (machine_of held k) ≡ machine_of held (with_new k (record { mem = k.mem; tables = new }) k.next)
unfolding machine_of machine_at
machine_tables held k new same = λ i. record (machine_of held (with_new k (record { mem = k.mem; tables = new }) k.next)) { processes = same i }

-- the kernel with its own parts is itself
pub left_alone : {W : Type 0} (k : Kernel W) (new : CallParts W) → taken new ≡ taken (parts k) → with_new k new k.next ≡ k
left_alone k new e = λ i. record k {
  mem = unwrap_or (e i).mem k.mem;
  threads = (e i).threads;
  servers = (e i).servers;
  queues = (e i).queues;
  log = (e i).log;
}

pub left_with_processes : {W : Type 0} (k : Kernel W) (new : CallParts W) → over k.procs new ≡ over k.procs (parts k) → with_new k new k.next ≡ k
left_with_processes k new e = λ i. record k {
  mem = unwrap_or (e i).mem k.mem;
  threads = (e i).threads;
  servers = (e i).servers;
  queues = (e i).queues;
  log = (e i).log;
}

pub left_without_memory : {W : Type 0} (k : Kernel W) (new : CallTables) → without_memory new ≡ without_memory (tables k)
    → with_new k (record { mem = k.mem; tables = new }) k.next ≡ k
left_without_memory k new e = λ i. record k {
  threads = (e i).threads;
  servers = (e i).servers;
  queues = (e i).queues;
  log = (e i).log;
}

-- ---- sound

module _ {W : Type 0} (S : SwapStore W) (k : Kernel W) (whole : IsWhole S k) (matched : Matched (machine_of S.held k)) where
  pub parts_sound : AreSound S k.cursor (taken (parts k))
  parts_sound = record {
    machine = machine_of S.held k;
    matched = subst Matched (sym (machine_given S.held k (parts k) whole.threads)) matched;
    mem = whole.mem;
    processes = whole.threads;
    procs = tt;
    seats = whole.servers.messages.seats;
    loans = open_loans (loans (ledger S.held k.mem)) k.servers k.queues whole.servers.messages;
  }

  pub parts_sound_over : AreSound S k.cursor (over k.procs (parts k))
  parts_sound_over = record {
    machine = machine_of S.held k;
    matched = subst Matched (sym (machine_with_processes S.held k (parts k) whole.threads)) matched;
    mem = whole.mem;
    processes = whole.threads;
    procs = whole.procs ∙ sym whole.threads;
    seats = whole.servers.messages.seats;
    loans = open_loans (loans (ledger S.held k.mem)) k.servers k.queues whole.servers.messages;
  }

  pub tables_matched : Matched (machine_at no_store.held k.cursor (without_memory (tables k)) (machine_of S.held k))
  tables_matched = subst Matched (sym (machine_tables S.held k (tables k) whole.threads)) matched

  pub tables_sound : AreSound no_store k.cursor (without_memory (tables k))
  tables_sound = record {
    machine = machine_of S.held k;
    matched = tables_matched;
    mem = tt;
    processes = tt;
    procs = tt;
    seats = whole.servers.messages.seats;
    loans = tt;
  }

-- the parts of a call with processes are sound without them
pub sound_without : {W : Type 0} (S : SwapStore W) (k : Kernel W) (new : CallParts W)
    → AreSound S k.cursor (over k.procs new) → AreSound S k.cursor (taken new)
sound_without S k new sound = without_processes S k.cursor k.procs new sound

-- a kernel with sound parts is whole
pub new_whole : {W : Type 0} (S : SwapStore W) (k : Kernel W) (new : CallParts W) (next : ℕ) → IsWhole S k
    → AreSound S k.cursor (taken new) → size new.mem ≡ size k.mem → new.tables.log.room ≡ k.log.room → IsWhole S (with_new k new next)
new_whole S k new next whole sound s room =
    let same : processes new.mem ≡ processes k.mem = ap (λ z. z.procs) s in
    record {
      mem = sound.mem;
      threads = sound.processes;
      procs = whole.procs ∙ sym same;
      cursor = ap (λ n. is_thread_id n k.cursor) same ∙ whole.cursor;
      room = subst (λ n. RECORD_LIMIT ≤ n) (sym room) whole.room;
      servers = sound_servers S k.cursor new sound;
    }

-- what a call keeps of the memory, it keeps of the kernel
pub new_keeps : {W : Type 0} (S : SwapStore W) (old new : Kernel W)
    → KeepsMemory S old.mem new.mem → new.log.room ≡ old.log.room → Keeps S old new
new_keeps S old new keeps room = record {
  size = keeps.size;
  store = subst (λ s. KeepsStore S (store_of old.mem) s) (sym keeps.store) (record {
    honest = refl;
    told = refl;
    slots = refl;
    preparations = refl;
    never_falls = omega arith;
  });
  room = room;
}

pub new_usable : {W : Type 0} (S : SwapStore W) (old new : Kernel W) → KeepsMemory S old.mem new.mem → IsUsable old → IsUsable new
new_usable S old new keeps usable = keeps.failed ∙ usable

-- .. and its caller is Ready as before
pub left_ready : {W : Type 0} (held : W → Held) (k new : Kernel W) → new ≡ k → ready_at (machine_of held k) k.cursor ≡ true
    → ready_at (machine_of held new) new.cursor ≡ true
left_ready held k new same ready = ap (λ x. ready_at (machine_of held x) x.cursor) same ∙ ready
