-- The plan without pages is lawful, and a memory booted from it has an empty ledger.
use Rattle.xk_ports.specs.declared.store.SwapStore.{Ghosts as SwapStore}
use Rattle.std.proofs.Common.{◌≡◌, ℕ, zero, suc, ◌-◌, ◌≤◌, Bool, true, false, List, [], length, None, Result, Ok, Err, refl, sym, ap, subst, ◌∙◌, arith, inl, inr}
use Rattle.std.specs.Prelude.{◌||◌, IfOk, nat_le, replicate, slice_get, sum_by, if◌then◌else◌}
use Rattle.std.specs.Option.{option_and_then, option_map}
use Rattle.std.proofs.lemmas.Bool.{cases_Bool}
use Rattle.std.proofs.lemmas.List.{get_or-replicate, length-replicate}
use Rattle.std.proofs.lemmas.List.Elements.{All-nil}
use Rattle.std.proofs.lemmas.List.Sums.{sum_by-cons}
use Rattle.boot_plan.specs.Capacity.{page_frames}
use Rattle.boot_plan.specs.FirstPages.{planned_pages}
use Rattle.boot_plan.specs.Lawful.{IsLawfulPage, IsLawfulPlan, IsLawfulProcess}
use Rattle.boot_plan.specs.declared.plans.BootPlan.{BootPlan}
use Rattle.boot_plan.specs.declared.plans.ProcPlan.{ProcPlan}
use Rattle.ledger_model.specs.Ledger.{empty_ledger}
use Rattle.ledger_model.specs.Loans.{bare}
use Rattle.snapshot_rows.specs.declared.state.State.{State}
use Rattle.vm_memory.specs.Bytes.{MeansBytes, is_known, none_out}
use Rattle.vm_memory.specs.FirstLedger.{first_ledger, first_page, planned_page, process_of}
use Rattle.vm_memory.specs.Memory.{IsUsable, ledger}
use Rattle.vm_memory.specs.Sound.{IsSound}
use Rattle.vm_memory.specs.declared.memory.BootFault.{BootFault}
use Rattle.vm_memory.specs.declared.memory.Memory.{Memory}
use Rattle.resume_path.specs.Coming.{HasCome}
use Rattle.resume_path.specs.Resumable.{CanResume, CanSplit, plan_without_pages, process_without_pages}

no_pages : (n : ℕ) → sum_by (λ (p : ProcPlan). length p.pages) (replicate n process_without_pages) ≡ 0
no_pages zero = refl
no_pages (suc n) =
    let one = sum_by-cons (λ (p : ProcPlan). length p.pages) process_without_pages (replicate n process_without_pages) in
    let rest = no_pages n in
    omega (arith, one, rest)

no_process_pages : IsLawfulProcess 0 process_without_pages
no_process_pages = record { pages = All-nil (IsLawfulPage 0); different = λ i j d low within. absurd (omega (arith, within)) }

none_planned_in : (n k vpn : ℕ) → option_and_then (planned_page vpn) (slice_get (replicate n process_without_pages) k) ≡ None
none_planned_in zero k vpn = refl
none_planned_in (suc n) zero vpn = refl
none_planned_in (suc n) (suc k) vpn = none_planned_in n k vpn

module _ (s : State) (slots : ℕ) where
  abbrev plan : BootPlan
  plan = plan_without_pages s slots

  counted : length plan.procs ≡ s.n
  counted = length-replicate s.n process_without_pages

  pub none_planned : planned_pages plan ≡ 0
  none_planned = no_pages s.n

  pub first_is_empty : (file : List ℕ) → first_ledger plan file ≡ empty_ledger
  unfolding first_ledger
  first_is_empty file = λ i. record {
    home = λ p. (ap (option_map (first_page file)) (at p.pid.0 p.vpn.0)) i;
    orphan = λ p. None;
  }
    where
      at : (pid vpn : ℕ) → option_and_then (planned_page vpn) (process_of plan pid) ≡ None
      at pid vpn = elim (cases_Bool (nat_le 2 pid)) [
        | inl high ↦ ap (λ b. option_and_then (planned_page vpn) (if b then slice_get plan.procs (pid - 2) else None)) high ∙ none_planned_in s.n (pid - 2) vpn
        | inr low ↦ ap (λ b. option_and_then (planned_page vpn) (if b then slice_get plan.procs (pid - 2) else None)) low
      ]

  module _ (can : CanResume s) (split : CanSplit s slots) where
    pub plan_lawful : IsLawfulPlan 0 plan
    plan_lawful =
        let n = can.resumable.spelled.form.n in
        let count = counted in
        let frames = split.frames in
        let fewer = split.fewer in
        record {
          some = omega (arith, count, n.at_least);
          few = omega (arith, count, n.at_most);
          tables = omega (arith, count, fewer);
          frames = frames;
          start_whole = refl;
          below = omega (arith, frames);
          slots = split.few;
          procs = λ k d low. subst (IsLawfulProcess 0) (sym (get_or-replicate s.n k process_without_pages d (omega (arith, count, low)))) no_process_pages;
          fits = let none = none_planned in omega (arith, none);
        }

-- there are frames for no page
fits_in_frames : (s : State) (slots : ℕ) (p : BootPlan) → p ≡ plan_without_pages s slots → planned_pages p ≤ page_frames p.frames (length p.procs)
fits_in_frames s slots p is = let none : planned_pages p ≡ 0 = ap planned_pages is ∙ none_planned s slots in omega (arith, none)

or_true : (a b : Bool) → b ≡ true → (a || b) ≡ true
or_true true b e = refl
or_true false b e = e

pub empty_comes : {W : Type 0} (S : SwapStore W) (s : State) (slots : ℕ) (file : List ℕ) (m : Memory W)
    → IsSound S.slot_count m → IsUsable m → bare (ledger S.held m) ≡ bare (first_ledger (plan_without_pages s slots) file)
    → (MeansBytes S m → ledger S.held m ≡ first_ledger (plan_without_pages s slots) file) → none_out m ≡ true
    → (total : ℕ) → HasCome S total m empty_ledger
empty_comes S s slots file m sound usable rights whole none total = record {
  sound = sound;
  usable = usable;
  rights = rights ∙ ap bare (first_is_empty s slots file);
  whole = λ known. whole (or_true (is_known S m) (none_out m) none) ∙ first_is_empty s slots file;
  near = λ has. none;
}

-- so it is with the answer of boot
pub booted_empty : {W : Type 0} (S : SwapStore W) (s : State) (slots : ℕ) (plan : BootPlan) → plan ≡ plan_without_pages s slots
    → (result : Result (Memory W) (BootFault W))
    → IfOk result (λ m. IsSound S.slot_count m) → IfOk result (λ m. IsUsable m)
    → IfOk result (λ m. bare (ledger S.held m) ≡ bare (first_ledger plan []))
    → IfOk result (λ m. MeansBytes S m → ledger S.held m ≡ first_ledger plan [])
    → (planned_pages plan ≤ page_frames plan.frames (length plan.procs) → IfOk result (λ m. none_out m ≡ true))
    → IfOk result (λ m. (total : ℕ) → HasCome S total m empty_ledger)
booted_empty S s slots booted is (Ok m) sound usable rights whole near =
    empty_comes S s slots [] m sound usable (rights ∙ ap (λ p. bare (first_ledger p [])) is)
    (λ means. whole means ∙ ap (λ p. first_ledger p []) is) (near (fits_in_frames s slots booted is))
booted_empty S s slots booted is (Err fault) sound usable rights whole near = tt
