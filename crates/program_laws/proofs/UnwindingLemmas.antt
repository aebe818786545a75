-- Images whose starts are related by an unwinding write the same; so do two that differ in a secret sum alone.
use Rattle.std.proofs.Common.{◌≡◌, ◌≢◌, ℕ, false, List, refl, sym, ap, ◌∙◌}
use Rattle.std.proofs.lemmas.Bool.{eq-eqb, false≢true}
use Rattle.boot_plan.specs.declared.plans.BootPlan.{BootPlan}
use Rattle.event_text.specs.EventFile.{input_of}
use Rattle.ledger_model.specs.Ledger.{Homed, Ledger, Orphaned}
use Rattle.machine_model.specs.Runs.Isolation.{without_bytes}
use Rattle.machine_model.specs.State.Machine.{Machine}
use Rattle.noninterference_laws.specs.Inside.{Group}
use Rattle.noninterference_laws.specs.SecretSum.{DifferInSumAlone, HoldSameBut, only_process, sum_place}
use Rattle.noninterference_laws.specs.Unwinding.{IsUnwinding}
use Rattle.noninterference_laws.proofs.Unwound.GroupLemmas.{unwound_act}
use Rattle.noninterference_laws.proofs.Unwound.SumLemmas.{begins_program, sum_unwinds}
use Rattle.program_laws.specs.Exchanged.{WriteAlike}
use Rattle.program_laws.specs.Unwinding.{DifferInSumPage, StartRelated, StartWithSums}
use Rattle.program_laws.proofs.ExchangedStartLemmas.{held_alike, same_bare, starts_alike}
use Rattle.program_laws.proofs.OutputLemmas.{outputs_alike}
use Rattle.vm_memory.specs.FirstLedger.{first_ledger}
use Rattle.xk_base.specs.declared.ids.Pid.{Pid}
use Rattle.xk_base.specs.declared.ids.Place.{Place}
use Rattle.xk_kernel.specs.Start.{start}
use Rattle.xk_kernel.proofs.Starting.BootLemmas.{start_is_start}
use Rattle.xk_kernel.proofs.Starting.FirstLawfulLemmas.{first_lawful, start_of_plan_matched}

pub unwound_services : (group : Group) (related : Machine → Machine → Type 0) (plan : BootPlan) (one other events : List ℕ) (limit : ℕ)
    → IsUnwinding group related → StartRelated group related plan one other → WriteAlike plan one other events limit
unwound_services group related plan one other events limit unwinding s =
    outputs_alike group plan one other events limit (record {
      lawful = s.lawful;
      can_start = s.can_start;
      differ = s.differ;
      acts = unwound_act group related (input_of events).events limit (start plan one) (start plan other) unwinding
          (start_of_plan_matched plan one s.lawful s.can_start) (starts_alike group plan one other s.differ) s.starts;
    })

-- ---- a secret sum

module _ (pid : Pid) (plan : BootPlan) (one other : List ℕ) where
  starts_but_bytes : without_bytes (start plan one) ≡ without_bytes (start plan other)
  unfolding start
  starts_but_bytes = ap (λ (l : Ledger). record (start plan one) { ledger = l }) (same_bare plan one other)

  module _ (differ : DifferInSumPage pid plan one other) where
    starts_but_sum : HoldSameBut (sum_place pid) (start plan one).ledger (start plan other).ledger
    unfolding start first_ledger
    starts_but_sum (Homed p) apart =
        held_alike plan one other p (λ process page there planned. differ p process page (λ is. apart (ap Homed is)) there planned)
    starts_but_sum (Orphaned p) apart = refl

    -- a place of another process isn't that of the sum
    other_place : (n vpn : ℕ) → only_process pid n ≡ false → record { pid = record { 0 = n }; vpn = record { 0 = vpn } } ≢ sum_place pid
    other_place n vpn outer is = false≢true (sym outer ∙ eq-eqb n pid.0 (ap (λ (p : Place). p.pid.0) is))

    pub sums_related : StartWithSums pid plan one other → StartRelated (only_process pid) (DifferInSumAlone pid) plan one other
    sums_related s = record {
      lawful = s.lawful;
      can_start = s.can_start;
      differ = λ n process vpn page there outer planned.
          differ (record { pid = record { 0 = n }; vpn = record { 0 = vpn } }) process page (other_place n vpn outer) there planned;
      starts = λ lives. record {
        runs = begins_program pid (start plan one) (record {
          start = start_is_start plan one s.can_start s.lawful.few (first_lawful plan one s.lawful);
          loaded = s.loaded;
          begins = s.begins;
        });
        but_bytes = starts_but_bytes;
        but_sum = starts_but_sum;
      };
    }

pub sums_write_alike : (pid : Pid) (plan : BootPlan) (one other events : List ℕ) (limit : ℕ) → StartWithSums pid plan one other
    → WriteAlike plan one other events limit
sums_write_alike pid plan one other events limit s =
    unwound_services (only_process pid) (DifferInSumAlone pid) plan one other events limit (sum_unwinds pid)
    (sums_related pid plan one other s.differ s)
