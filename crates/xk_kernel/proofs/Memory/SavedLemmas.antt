-- A kernel that was saved: its pages were brought in, and all else of it is as before.
use Rattle.std.proofs.Common.{◌≡◌, ℕ, Bool, true, false, Option, refl, sym, ap, subst, ◌∙◌}
use Rattle.std.proofs.lemmas.Bool.{false≢true}
use Rattle.ledger_model.proofs.Stepping.WritingLemmas.{bare-loans}
use Rattle.machine_model.specs.State.Machine.{Machine}
use Rattle.save_path.specs.Saved.{saved_machine, saved_parts}
use Rattle.save_path.specs.Written.{BringsPages}
use Rattle.save_path.specs.declared.numbers.Numbers.{Numbers}
use Rattle.sv32_space.specs.Tie.{Held}
use Rattle.vm_memory.specs.Bytes.{none_out}
use Rattle.vm_memory.specs.Memory.{has_failed, ledger}
use Rattle.vm_memory.specs.declared.memory.Memory.{Memory}
use Rattle.xk_kernel.proofs.Memory.KnownLemmas.{matched_alike}
use Rattle.xk_kernel.proofs.Memory.MemoryCallLemmas.{whole_with_mem}
use Rattle.xk_kernel.proofs.Memory.MemoryPartLemmas.{with_memory}
use Rattle.xk_kernel.specs.Knowing.{ComesTo}
use Rattle.xk_kernel.specs.Sound.{IsSound, IsUsable}
use Rattle.xk_kernel.specs.State.{machine_of}
use Rattle.xk_kernel.specs.declared.kernel.Kernel.{Kernel}
use Rattle.xk_ports.specs.declared.store.SwapStore.{Ghosts as SwapStore}

-- its numbers, with the timer's compare value
abbrev pub numbers_of : {W : Type 0} → Kernel W → Option ℕ → Numbers
numbers_of k compare = record { cursor = k.cursor; next = k.next; steps = k.steps; compare = compare; reserved = k.reserved }

-- the machine that is saved of its parts with this memory
abbrev saved_with : {W : Type 0} → (W → Held) → Kernel W → Option ℕ → Memory W → Machine
saved_with held k compare mem = saved_machine held (numbers_of k compare) (saved_parts mem k.threads k.procs k.servers k.queues k.claims)

module _ {W : Type 0} (held : W → Held) (k : Kernel W) (compare : Option ℕ) (e : compare ≡ k.timer) where
  -- THE MACHINE that is saved is the kernel's
  saved_is : (mem : Memory W) → saved_with held k compare mem ≡ machine_of held (with_memory mem k)
  unfolding machine_of saved_machine
  saved_is mem = λ i. record (machine_of held (with_memory mem k)) { compare = e i }

  -- so what holds of the one holds of the other
  pub of_kernel : (P : Machine → Type 0) (mem : Memory W) → P (saved_with held k compare mem) → P (machine_of held (with_memory mem k))
  of_kernel P mem x = subst P (saved_is mem) x

  pub of_saved : (P : Machine → Type 0) (mem : Memory W) → P (machine_of held (with_memory mem k)) → P (saved_with held k compare mem)
  of_saved P mem x = subst P (sym (saved_is mem)) x

  pub comes_saved : {known : Type 0} (mem : Memory W) → ComesTo known (saved_with held k compare mem) (saved_with held k compare k.mem)
      → ComesTo known (machine_of held (with_memory mem k)) (machine_of held k)
  comes_saved {known} mem comes =
      of_kernel (λ (m : Machine). ComesTo known m (machine_of held k)) mem
      (of_kernel (λ (m : Machine). ComesTo known (saved_with held k compare mem) m) k.mem comes)

module _ {W : Type 0} (S : SwapStore W)
    (k : Kernel W) (mem : Memory W) (x : BringsPages S k.mem mem) (usable : IsUsable k) where
  pub sound_saved : {known : Type 0} → ComesTo known (machine_of S.held (with_memory mem k)) (machine_of S.held k) → IsSound S k
      → IsSound S (with_memory mem k)
  sound_saved comes sound = record {
    whole = whole_with_mem S k mem sound.whole x.size x.sound (bare-loans (ledger S.held k.mem) (ledger S.held mem) x.rights);
    matched = λ now. matched_alike (machine_of S.held (with_memory mem k)) (machine_of S.held k) comes.alike (sound.matched usable);
  }

  pub none_saved : none_out k.mem ≡ true → none_out mem ≡ true
  none_saved none = ap none_out (x.none none) ∙ none

  -- it failed only where a page was out
  pub out_saved : has_failed mem ≡ true → none_out k.mem ≡ false
  out_saved failed = go (none_out k.mem) refl
    where
      go : (b : Bool) → none_out k.mem ≡ b → none_out k.mem ≡ false
      go false e = e
      go true e = absurd (false≢true (sym usable ∙ sym (ap (λ (m : Memory W). has_failed m) (x.none e)) ∙ failed))
