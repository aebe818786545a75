-- A machine that is another but for bytes is as matched; and when bytes are known over the parts of a call.
use Rattle.std.proofs.Common.{◌≡◌, Bool, true, false, refl, sym, ap, subst, ◌∙◌}
use Rattle.std.specs.Prelude.{◌==◌, ◌&&◌, ◌||◌}
use Rattle.std.proofs.lemmas.Bool.{false≢true, eqb-true}
use Rattle.save_path.proofs.AlikeLemmas.{matched_bare}
use Rattle.machine_model.specs.Runs.Matched.{Matched}
use Rattle.machine_model.specs.State.Machine.{Machine}
use Rattle.vm_memory.proofs.Changing.CallLemmas.{no_slots-none_out}
use Rattle.vm_memory.specs.Bytes.{MeansBytes, MeansBytesOver, is_known, none_out}
use Rattle.vm_memory.specs.Memory.{Size, size, store_of}
use Rattle.vm_memory.specs.declared.memory.Memory.{Memory}
use Rattle.xk_kernel.specs.Knowing.{ComesTo, IsTrusted, KnowsBytes, is_trusted}
use Rattle.machine_model.specs.Runs.Isolation.{without_bytes}
use Rattle.xk_kernel.specs.Sound.{Keeps}
use Rattle.xk_kernel.specs.declared.kernel.Kernel.{Kernel}
use Rattle.xk_ports.specs.declared.store.SwapStore.{Ghosts as SwapStore}
use Rattle.xk_ports.specs.Keeping.{KeepsStore}

-- ---- alike but for bytes

-- THE INVARIANT holds of it too: it speaks of no bytes
pub matched_alike : (new target : Machine) → without_bytes new ≡ without_bytes target → Matched target → Matched new
matched_alike new target e h =
    let there : Matched (record target { ledger = new.ledger }) =
    matched_bare target new.ledger (ap (λ (m : Machine). m.ledger) e) h in
    subst (λ (m : Machine). Matched (record m { ledger = new.ledger })) (sym e) there

pub comes_same : {known : Type 0} (new target : Machine) → new ≡ target → ComesTo known new target
comes_same new target e = record { alike = ap without_bytes e; whole = λ _. e }

-- what leaves the ledger alone comes to what it makes of the target
pub comes_through : {known : Type 0} {new target : Machine} (f : Machine → Machine) → ((m : Machine) → without_bytes (f m) ≡ f (without_bytes m))
    → ComesTo known new target → ComesTo known (f new) (f target)
comes_through {new = new} {target = target} f apart h = record {
  alike = apart new ∙ ap f h.alike ∙ sym (apart target);
  whole = λ k. ap f (h.whole k);
}

-- ---- over the parts of a call

parts_known : (ka kb na nb nc : Bool) → kb ≡ ka → (na ≡ true → nb ≡ true) → (ka || (na && nc)) ≡ true
    → ((ka || (na && nb)) ≡ true) × ((kb || (nb && nc)) ≡ true)
parts_known true kb na nb nc e f h = (refl, ap (λ k. k || (nb && nc)) e)
parts_known false kb true nb nc e f h = (f refl, (λ i. e i || (f refl i && h i)))
parts_known false kb false nb nc e f h = absurd (false≢true h)

ends_known : (ka kb na nb : Bool) → kb ≡ ka → (ka || (na && nb)) ≡ true → ((ka || na) ≡ true) × ((kb || nb) ≡ true)
ends_known true kb na nb e h = (refl, ap (λ k. k || nb) e)
ends_known false kb true nb e h = (refl, (λ i. e i || h i))
ends_known false kb false nb e h = absurd (false≢true h)

either_known : (k s na nb : Bool) → (k || s) ≡ true → (s ≡ true → na ≡ true) → (s ≡ true → nb ≡ true) → (k || (na && nb)) ≡ true
either_known true s na nb h f g = refl
either_known false s na nb h f g = λ i. f h i && g h i

pub known_none : (k na nb : Bool) → na ≡ true → nb ≡ true → (k || (na && nb)) ≡ true
known_none true na nb e f = refl
known_none false na nb e f = λ i. e i && f i

means_of : (k s n : Bool) → (k || s) ≡ true → (s ≡ true → n ≡ true) → (k || n) ≡ true
means_of true s n h f = refl
means_of false s n h f = f h

module _ {W : Type 0} (S : SwapStore W) where
  abbrev Stays : Memory W → Memory W → Type 0
  Stays a b = KeepsStore S (store_of a) (store_of b)

  pub known_same : (a b : Memory W) → Stays a b → is_known S b ≡ is_known S a
  known_same a b h = λ i. h.honest i && h.told i

  -- a call in two parts, of which the first puts no page out
  pub over_parts : (a b c : Memory W) → Stays a b → (none_out a ≡ true → none_out b ≡ true) → MeansBytesOver S a c
      → MeansBytesOver S a b × MeansBytesOver S b c
  over_parts a b c h none over =
      parts_known (is_known S a) (is_known S b) (none_out a) (none_out b) (none_out c) (known_same a b h) none over

  pub means_ends : (a b : Memory W) → Stays a b → MeansBytesOver S a b → MeansBytes S a × MeansBytes S b
  means_ends a b h over =
      ends_known (is_known S a) (is_known S b) (none_out a) (none_out b) (known_same a b h) over

  -- ---- a store that is trusted

  trusted_none : (m : Memory W) → ((size m).slots == 0) ≡ true → none_out m ≡ true
  trusted_none m e = no_slots-none_out m (eqb-true (size m).slots 0 e)

  pub stays_trusted : (old new : Kernel W) → Keeps S old new → is_trusted S new ≡ is_trusted S old
  stays_trusted old new h = λ i. known_same old.mem new.mem h.store i || ((h.size i).slots == 0)

  pub trusted_knows : (old new : Kernel W) → IsTrusted S old → Keeps S old new → KnowsBytes S old new
  trusted_knows old new trusted h =
      either_known (is_known S old.mem) ((size old.mem).slots == 0) (none_out old.mem) (none_out new.mem) trusted
      (trusted_none old.mem) (λ e. trusted_none new.mem (ap (λ (s : Size). s.slots == 0) h.size ∙ e))

pub trusted_means : {W : Type 0} (S : SwapStore W) (k : Kernel W) → IsTrusted S k → MeansBytes S k.mem
trusted_means S k trusted =
    means_of (is_known S k.mem) ((size k.mem).slots == 0) (none_out k.mem) trusted
    (λ e. no_slots-none_out k.mem (eqb-true (size k.mem).slots 0 e))

pub near_knows : {W : Type 0} (S : SwapStore W) (old new : Kernel W) → none_out old.mem ≡ true → none_out new.mem ≡ true
    → KnowsBytes S old new
near_knows S old new e f = known_none (is_known S old.mem) (none_out old.mem) (none_out new.mem) e f
