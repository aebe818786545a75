-- Pages are brought in one after the other.
use Rattle.std.proofs.Common.{◌≡◌, ℕ, ◌≤◌, refl, ap, ◌∙◌, arith}
use Rattle.vm_memory.specs.Bytes.{none_out}
use Rattle.std.specs.Prelude.{◌||◌, Err, Ok, OnErr, Result}
use Rattle.vm_memory.proofs.Using.NearLemmas.{brings_reaches}
use Rattle.vm_memory.specs.Memory.{Size, ledger, processes, store_of}
use Rattle.vm_memory.specs.Using.Access.{reaches_bytes}
use Rattle.xk_base.specs.Outside.{Rose}
use Rattle.xk_base.specs.declared.ids.Place.{Place}
use Rattle.xk_base.specs.declared.pages.Access.{Access}
use Rattle.vm_memory.specs.Sound.{IsSound}
use Rattle.vm_memory.specs.declared.memory.Memory.{Memory}
use Rattle.save_path.specs.Written.{BringsPages}
use Rattle.xk_ports.specs.declared.store.SwapStore.{Ghosts as SwapStore}
use Rattle.xk_ports.specs.Keeping.{KeepsStore}

module _ {W : Type 0} (S : SwapStore W) where
  pub store_same : (a : W) → KeepsStore S a a
  store_same a = record { honest = refl; told = refl; slots = refl; preparations = refl; never_falls = omega arith }

  pub store_both : (a b c : W) → KeepsStore S a b → KeepsStore S b c
      → KeepsStore S a c
  store_both a b c x y =
      let low = x.never_falls in
      let high = y.never_falls in
      record {
        honest = y.honest ∙ x.honest;
        told = y.told ∙ x.told;
        slots = y.slots ∙ x.slots;
        preparations = y.preparations ∙ x.preparations;
        never_falls = omega arith;
      }

  -- nothing was brought in
  pub brings_none : (m : Memory W) → IsSound S.slot_count m → BringsPages S m m
  brings_none m sound = record {
    sound = sound;
    rights = refl;
    whole = λ _. refl;
    means = λ means. means;
    none = λ _. refl;
    no_more = omega arith;
    size = refl;
    store = store_same (store_of m);
  }

  pub brings_both : (a b c : Memory W) → BringsPages S a b → BringsPages S b c
      → BringsPages S a c
  brings_both a b c x y = record {
    sound = y.sound;
    rights = y.rights ∙ x.rights;
    whole = λ means. y.whole (x.means means) ∙ x.whole means;
    means = λ means. y.means (x.means means);
    none = λ none. y.none (ap none_out (x.none none) ∙ none) ∙ x.none none;
    no_more = omega (arith, x.no_more, y.no_more);
    size = y.size ∙ x.size;
    store = store_both (store_of a) (store_of b) (store_of c) x.store y.store;
  }

  -- what a process reaches stays
  pub brings_may : (a b : Memory W) → BringsPages S a b → (at : Place) (access : Access)
      → reaches_bytes (processes b) (ledger S.held b) at access ≡ reaches_bytes (processes a) (ledger S.held a) at access
  brings_may a b x at access = brings_reaches S a b (record {
    moves = record {
      sound = x.sound;
      rights = x.rights;
      whole = λ known. x.whole (ap (λ k. k || none_out a) known);
      size = x.size;
      store = x.store;
    };
    no_more = x.no_more;
    none = x.none;
  }) at access

  pub brings_procs : (a b : Memory W) → BringsPages S a b → processes b ≡ processes a
  brings_procs a b x = ap (λ (s : Size). s.procs) x.size

pub rose_later : (a b c : ℕ) → a ≤ b → Rose b c → Rose a c
rose_later a b c le rose = omega arith

pub on_err : {T E : Type 0} (r : Result T E) (P : Type 0) → P → OnErr r P
on_err (Ok x) P p = tt
on_err (Err e) P p = p
