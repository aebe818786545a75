-- The order of the threads in the table is that of the machine.
use Rattle.xk_ports.specs.declared.store.SwapStore.{Ghosts as SwapStore}
use Rattle.std.proofs.Common.{◌≡◌, ℕ, true, false, Option, Some, None, IsSome, refl, sym, ap, subst, ◌∙◌}
use Rattle.std.specs.Prelude.{if◌then◌else◌, unwrap_or, IsTrue}
use Rattle.std.specs.Option.{option_map, option_map_or}
use Rattle.std.proofs.lemmas.Bool.{false≢true}
use Rattle.xk_base.specs.Tables.Circle.{is_thread_id}
use Rattle.xk_base.specs.declared.ids.ThreadId.{ThreadId}
use Rattle.xk_base.proofs.CircleLemmas.{next_id-same, next_id-valid}
use Rattle.machine_model.specs.State.Machine.{Machine, Thread}
use Rattle.machine_model.specs.State.Order.{actor, is_ready, next_ready, ready_at, turn}
use Rattle.machine_model.specs.Stepping.Events.{picked}
use Rattle.sv32_space.specs.Tie.{Held}
use Rattle.thread_table.specs.States.{is_ready_state}
use Rattle.thread_table.specs.ThreadMap as table
use Rattle.thread_table.specs.Shown.{process_count, threads_of}
use Rattle.thread_table.specs.declared.thread.Thread.{Thread as TableThread}
use Rattle.thread_table.specs.declared.thread.ThreadState.{ThreadState as TableState}
use Rattle.thread_table.specs.declared.thread.ThreadState.TheVariants.{Ready, Receiving, Waiting, Joining, Idle}
use Rattle.vm_memory.specs.Memory.{processes}
use Rattle.xk_parts.specs.Shown.{state_of, thread_of}
use Rattle.xk_kernel.specs.State.{machine_of}
use Rattle.xk_kernel.specs.Sound.{IsWhole}
use Rattle.xk_kernel.proofs.Acting.ThreadLemmas.{is_id}
use Rattle.xk_kernel.specs.declared.kernel.Kernel.{Kernel}

-- ---- who is ready

ready_state : (s : TableState) → is_ready_state s ≡ is_ready (state_of s)
ready_state Ready = refl
ready_state (Receiving serial) = refl
ready_state (Waiting number) = refl
ready_state (Joining tid) = refl
ready_state Idle = refl

ready_thread : (o : Option TableThread) → table.is_ready o ≡ option_map_or (λ t. is_ready t.state) (option_map thread_of o) false
ready_thread None = refl
ready_thread (Some t) = ready_state t.state

has_thread : (o : Option Thread) → option_map_or (λ t. is_ready t.state) o false ≡ true → IsSome o
has_thread None h = absurd (false≢true h)
has_thread (Some t) h = refl

module _ {W : Type 0} (held : W → Held) (k : Kernel W) where
  pub ready_is : (id : ThreadId) → table.is_ready (threads_of k.threads id) ≡ ready_at (machine_of held k) id
  unfolding machine_of
  ready_is id = ready_thread (threads_of k.threads id)

  -- ---- the next of them

  pub next_is : (c : ThreadId) → process_count k.threads ≡ processes k.mem
      → table.next_ready (process_count k.threads) (threads_of k.threads) c ≡ next_ready (machine_of held k) c
  unfolding machine_of next_ready
  next_is c e =
      next_id-same (process_count k.threads) (λ d. table.is_ready (threads_of k.threads d)) (ready_at (machine_of held k)) c (λ d h. ready_is d)
      ∙ ap (λ n. next_ready (record (machine_of held k) { processes = n }) c) e

  -- ---- who acts, and the turn

  pub acts_itself : ready_at (machine_of held k) k.cursor ≡ true → Some k.cursor ≡ actor (machine_of held k)
  unfolding machine_of actor
  acts_itself e = sym (ap (λ b. if b then Some k.cursor else next_ready (machine_of held k) k.cursor) e)

  pub acts_next : process_count k.threads ≡ processes k.mem → ready_at (machine_of held k) k.cursor ≡ false
      → table.next_ready (process_count k.threads) (threads_of k.threads) k.cursor ≡ actor (machine_of held k)
  unfolding machine_of actor
  acts_next n e = next_is k.cursor n ∙ sym (ap (λ b. if b then Some k.cursor else next_ready (machine_of held k) k.cursor) e)

  -- the cursor goes to the next ready thread ..
  pub turn_moves : process_count k.threads ≡ processes k.mem → (d : ThreadId)
      → table.next_ready (process_count k.threads) (threads_of k.threads) k.cursor ≡ Some d
      → machine_of held (record k { cursor = d }) ≡ turn (machine_of held k)
  unfolding machine_of turn
  turn_moves n d e = ap (λ o. record (machine_of held k) { cursor = unwrap_or o k.cursor }) (sym e ∙ next_is k.cursor n)

  -- .. and stays where there is none
  pub turn_stays : process_count k.threads ≡ processes k.mem
      → table.next_ready (process_count k.threads) (threads_of k.threads) k.cursor ≡ None
      → machine_of held k ≡ turn (machine_of held k)
  unfolding machine_of turn
  turn_stays n e = ap (λ o. record (machine_of held k) { cursor = unwrap_or o k.cursor }) (sym e ∙ next_is k.cursor n)

  -- ---- pick

  pub pick_moves : (who : ThreadId) → ready_at (machine_of held k) who ≡ true
      → machine_of held (record k { cursor = who }) ≡ (picked who (machine_of held k)).machine
  unfolding machine_of picked
  pick_moves who e = sym (ap (λ b. record (machine_of held k) { cursor = if b then who else k.cursor }) e)

  pub pick_stays : (who : ThreadId) → ready_at (machine_of held k) who ≡ false
      → machine_of held k ≡ (picked who (machine_of held k)).machine
  unfolding machine_of picked
  pick_stays who e = sym (ap (λ b. record (machine_of held k) { cursor = if b then who else k.cursor }) e)

  -- ---- ids

  -- a ready thread has an id of the processes
  pub ready_valid : (n : ℕ) (id : ThreadId) → process_count k.threads ≡ n → ready_at (machine_of held k) id ≡ true → IsTrue (is_thread_id n id)
  ready_valid n id e h = is_id held k n id e (has_thread ((machine_of held k).threads id) h)

-- so has the next ready one
pub next_valid : {W : Type 0} (k : Kernel W) (n : ℕ) (c d : ThreadId) → process_count k.threads ≡ n
    → table.next_ready (process_count k.threads) (threads_of k.threads) c ≡ Some d → IsTrue (is_thread_id n d)
next_valid k n c d n_is e =
    subst (λ n. is_thread_id n d ≡ true) n_is
    (next_id-valid (process_count k.threads) (λ d. table.is_ready (threads_of k.threads d)) c d e)

-- ---- machines

pub ready_missing : (m : Machine) (id : ThreadId) → m.threads id ≡ None → ready_at m id ≡ false
ready_missing m id e = ap (λ o. option_map_or (λ t. is_ready t.state) o false) e

pub ready_found : (m : Machine) (id : ThreadId) (t : TableThread) → m.threads id ≡ Some (thread_of t) → ready_at m id ≡ is_ready_state t.state
ready_found m id t e = ap (λ o. option_map_or (λ t. is_ready t.state) o false) e ∙ sym (ready_state t.state)

-- wherever the cursor goes among the ids of threads, the kernel stays whole
pub cursor_whole : {W : Type 0} (S : SwapStore W) (k : Kernel W) (d : ThreadId) → IsWhole S k
    → IsTrue (is_thread_id (processes k.mem) d) → IsWhole S (record k { cursor = d })
cursor_whole S k d h valid = record {
  mem = h.mem;
  threads = h.threads;
  procs = h.procs;
  cursor = valid;
  room = h.room;
  servers = h.servers;
}

-- no other state is ready
pub unready : (s : TableState) → (s ≡ Ready → ⊥) → is_ready_state s ≡ false
unready Ready f = absurd (f refl)
unready (Receiving serial) f = refl
unready (Waiting number) f = refl
unready (Joining tid) f = refl
unready Idle f = refl
