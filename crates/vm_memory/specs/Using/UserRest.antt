-- What is kept over two changes.
use Rattle.std.specs.Prelude.{◌≡◌, ℕ, Bool}
use Rattle.std.proofs.Common.{◌∙◌, sym, ap, subst, arith}
use Rattle.xk_base.specs.declared.ids.Pid.{Pid}
use Rattle.ledger_model.specs.Ledger.{PageName}
use Rattle.ledger_model.specs.Loans.{bare}
use Rattle.sv32_space.specs.Tie.{Held}
use Rattle.vm_memory.specs.declared.memory.Memory.{Memory}
use Rattle.xk_ports.specs.declared.store.SwapStore.{Ghosts as SwapStore}
use Rattle.xk_ports.specs.Keeping.{KeepsStore}
use Rattle.vm_memory.specs.Memory.{Size, processes, ledger, store_of}
use Rattle.vm_memory.specs.Using.UserView.{KeepsRest, IsUnseen}

store_over : {W : Type 0} (S : SwapStore W) (a b c : W)
    → KeepsStore S a b → KeepsStore S b c
    → KeepsStore S a c
store_over S a b c x y = record {
  honest = y.honest ∙ x.honest;
  told = y.told ∙ x.told;
  slots = y.slots ∙ x.slots;
  preparations = y.preparations ∙ x.preparations;
  never_falls = omega (arith, x.never_falls, y.never_falls);
}

pub rest_over : {W : Type 0} {pid : Pid} {a b c : Memory W} (S : SwapStore W) → KeepsRest S pid a b → KeepsRest S pid b c
    → KeepsRest S pid a c
rest_over {W} {pid} {a} {b} {c} S x y = record {
  rights = y.rights ∙ x.rights;
  sizes = y.sizes ∙ x.sizes;
  means = λ m. y.means (x.means m);
  unseen = λ m name unseen. y.unseen (x.means m) name (still name unseen) ∙ x.unseen m name unseen;
  sound = λ s. y.sound (x.sound s);
  tie = λ s. y.tie (x.sound s);
  out = λ none usable. y.out (x.none none) (x.out none usable);
  none = λ none. y.none (x.none none);
  no_more = omega (arith, x.no_more, y.no_more);
  still = λ none. y.still (x.none none) ∙ x.still none;
  store = store_over S (store_of a) (store_of b) (store_of c) x.store y.store;
}
  where
    still : (name : PageName) → IsUnseen (processes a) (bare (ledger S.held a)) pid name
        → IsUnseen (processes b) (bare (ledger S.held b)) pid name
    still name unseen =
        subst (λ l. IsUnseen (processes b) l pid name) (sym x.rights)
        (subst (λ n. IsUnseen n (bare (ledger S.held a)) pid name) (sym (ap (λ (s : Size). s.procs) x.sizes)) unseen)

-- .. also where the process is told by two numbers that are the same
pub pid_rest_over : {W : Type 0} {pid other : Pid} {a b c : Memory W} (S : SwapStore W) → other ≡ pid → KeepsRest S pid a b
    → KeepsRest S other b c → KeepsRest S pid a c
pid_rest_over {W} {pid} {other} {a} {b} {c} S same x y = rest_over S x (subst (λ p. KeepsRest S p b c) same y)
