-- What a call tells over bytes that may not be known.
use Rattle.std.proofs.Common.{◌≡◌, List, ◌∷◌, [], sym, ap, ◌∙◌}
use Rattle.std.proofs.lemmas.List.{append_assoc}
use Rattle.std.proofs.lemmas.Result.{on_err_weaker}
use Rattle.std.specs.Prelude.{Result}
use Rattle.machine_model.specs.State.Changes.{Told}
use Rattle.machine_model.specs.State.Machine.{Machine}
use Rattle.machine_model.specs.Stepping.Step.{after}
use Rattle.sv32_space.specs.Tie.{Held}
use Rattle.xk_base.specs.declared.records.What.{What}
use Rattle.xk_kernel.specs.Knowing.{ComesTo}
use Rattle.machine_model.specs.Runs.Isolation.{without_bytes}
use Rattle.xk_kernel.specs.State.{machine_of}
use Rattle.xk_kernel.specs.Telling.{Leaves, Tells, TellsOver, log_with}
use Rattle.xk_kernel.specs.declared.kernel.Kernel.{Kernel}
use Rattle.xk_ports.specs.declared.store.SwapStore.{Ghosts as SwapStore}
use Rattle.xk_kernel.proofs.Memory.KnownLemmas.{comes_same, comes_through}

module _ {W : Type 0} (held : W → Held) (old new : Kernel W) where
  -- what is exact is so over any bytes
  pub tells_exactly : {known : Type 0} (done : Told) → Tells held old new done → TellsOver known held old new done
  tells_exactly done tells = record { machine = comes_same (machine_of held new) done.machine tells.machine; log = tells.log }

  -- what a part comes to, and then a change of the machine that leaves the ledger alone
  pub tells_over : {known less : Type 0} → (less → known) → (next target : Machine) → ComesTo known next target
      → (f : Machine → Machine) → ((m : Machine) → without_bytes (f m) ≡ f (without_bytes m))
      → (done : Told) (told : List What) → done ≡ record { machine = f target; told = told } → machine_of held new ≡ f next
      → new.log ≡ log_with told old.log → TellsOver less held old new done
  tells_over {known = known} weaker next target comes f apart done told is same log =
      let through : ComesTo known (f next) (f target) = comes_through f apart comes in
      let ends : f target ≡ done.machine = sym (ap (λ (d : Told). d.machine) is) in
      record {
        machine = record {
          alike = ap without_bytes same ∙ through.alike ∙ ap without_bytes ends;
          whole = λ k. same ∙ through.whole (weaker k) ∙ ends;
        };
        log = log ∙ sym (ap (λ (d : Told). log_with d.told old.log) is);
      }

  -- .. after a first record
  pub tells_first_over : {known : Type 0} (first : What) (mid : Kernel W) (done : Told) → mid.log ≡ log_with (first ∷ []) old.log
      → TellsOver known held mid new done → TellsOver known held old new (after first done)
  tells_first_over first mid done log tells = record {
    machine = tells.machine;
    log = tells.log ∙ ap (log_with done.told) log ∙ ap (λ records. record old.log { records = records }) (append_assoc old.log.records _ _);
  }

-- where pages may move for what follows
pub leaves_where : {W A E : Type 0} {S : SwapStore W} {old new : Kernel W} {a b : Type 0} (result : Result A E) → (a → b)
    → Leaves S old new a result → Leaves S old new b result
leaves_where result follows leaves = record {
  whole = leaves.whole;
  usable = leaves.usable;
  keeps = leaves.keeps;
  failed = leaves.failed;
  cause = leaves.cause;
  crowded = on_err_weaker result follows leaves.crowded;
  near = λ none out. follows (leaves.near none out);
}
