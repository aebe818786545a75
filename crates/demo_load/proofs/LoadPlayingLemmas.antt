-- The records of a load are counted as they come.
use Rattle.xk_ports.specs.declared.store.SwapStore.{Ghosts as SwapStore}
use Rattle.std.proofs.Common.{◌≡◌, ◌≤◌, ◌+◌, ℕ, List, [], ◌++◌, length, sym, ap, ◌∙◌, arith, append_assoc, append-nil}
use Rattle.machine_model.specs.State.Machine.{Machine}
use Rattle.machine_model.specs.Stepping.Events.{nothing}
use Rattle.machine_model.specs.Stepping.Step.{step}
use Rattle.sv32_space.specs.Tie.{Held}
use Rattle.vm_memory.specs.Memory.{processes}
use Rattle.xk_base.specs.declared.records.Rec.{Rec}
use Rattle.machine_laws.specs.History.{History, behind, reached}
use Rattle.xk_kernel.specs.Sound.{IsSound}
use Rattle.xk_kernel.specs.State.{machine_of}
use Rattle.xk_kernel.specs.declared.kernel.Kernel.{Kernel}
use Rattle.demo_load.specs.Totals.{IsWithin, step_records, totals_of}
use Rattle.demo_load.specs.declared.totals.Totals.{Totals}
use Rattle.demo_load.proofs.LoadHistoryLemmas.{few_stepped}

-- no record is left of a tick
pub tick_over : (totals : Totals) (before mid : List Rec) (rest whole : History) → totals ≡ totals_of mid → mid ++ rest.records ≡ before ++ whole.records
    → rest.records ≡ [] → totals ≡ totals_of (before ++ whole.records)
tick_over totals before mid rest whole is joined none =
    is ∙ ap totals_of (sym (append-nil mid) ∙ (ap (λ (l : List Rec). mid ++ l) (sym none) ∙ joined))

-- the records of a step come from the front of what is left
pub tick_on : (before mid records : List Rec) (rest next whole : History) → mid ++ rest.records ≡ before ++ whole.records → rest ≡ behind records next
    → (mid ++ records) ++ next.records ≡ before ++ whole.records
tick_on before mid records rest next whole joined one =
    append_assoc mid records next.records ∙ (ap (λ (h : History). mid ++ h.records) (sym one) ∙ joined)

-- one step more, of which so few records tell
pub within_more : (steps after told : ℕ) (old new : Totals) → IsWithin steps old → after ≡ steps + 1 → told ≤ step_records
    → new.sends ≤ old.sends + told → new.gone ≤ old.gone + told → IsWithin after new
within_more steps after told old new within one few sends gone = record {
  sends = omega (arith, within.sends, one, few, sends);
  gone = omega (arith, within.gone, one, few, gone);
}

pub within_same : (steps after : ℕ) (totals : Totals) → IsWithin steps totals → after ≡ steps → IsWithin after totals
within_same steps after totals within same = record { sends = omega (arith, within.sends, same); gone = omega (arith, within.gone, same) }

-- the records of an event behind those of the events before it
pub event_counted : (totals : Totals) (before : List Rec) (event whole : History) → totals ≡ totals_of (before ++ event.records)
    → whole ≡ behind before (behind event.records (reached (nothing event.machine))) → totals ≡ totals_of whole.records
event_counted totals before event whole is more =
    is ∙ (ap (λ (l : List Rec). totals_of (before ++ l)) (sym (append-nil event.records)) ∙ sym (ap (λ (h : History). totals_of h.records) more))

-- a step of a sound kernel told little
pub few_told : {W : Type 0} (S : SwapStore W) (m : Machine) (new : Kernel W) (records : List Rec) → IsSound S new
    → machine_of S.held new ≡ (step m).machine → records ≡ (step m).records → length records ≤ step_records
unfolding machine_of
few_told S m new records sound to is =
    let few = few_stepped m in
    let procs : processes new.mem ≡ (step m).machine.processes = ap (λ (x : Machine). x.processes) to in
    let most : processes new.mem ≤ 64 = sound.whole.mem.few in
    let long : length records ≡ length (step m).records = ap (λ (l : List Rec). length l) is in
    omega (arith, few, procs, most, long)
