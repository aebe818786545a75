-- The ledger at the start: it is lawful, nothing is on loan, and no page lies in the Heap window.
use Rattle.std.proofs.Common.{◌≡◌, ◌≢◌, ℕ, ◌+◌, ◌-◌, ◌<◌, ◌≤◌, true, List, [], ◌∷◌, length, Option, Some, None, refl, sym, ap, subst, ◌∙◌, arith, inl, inr}
use Rattle.std.specs.Prelude.{◌==◌, nat_le, find, slice_get, IsTrue, IsFalse}
use Rattle.std.specs.List.{All}
use Rattle.std.specs.Option.{option_and_then, option_map}
use Rattle.std.proofs.lemmas.Bool.{cases_Bool, cond-true, cond-false, eqb-true}
use Rattle.std.proofs.lemmas.Bool.Decides.{nat_tests}
use Rattle.std.proofs.lemmas.List.Elements.{All-head, All-tail}
use Rattle.std.proofs.lemmas.Option.{none-some, same_Some, slice_get_cases}
use Rattle.boot_plan.specs.Lawful.{CanStart}
use Rattle.boot_plan.specs.declared.plans.BootPlan.{BootPlan}
use Rattle.boot_plan.specs.declared.plans.PagePlan.{PagePlan}
use Rattle.boot_plan.specs.declared.plans.ProcPlan.{ProcPlan}
use Rattle.ledger_model.specs.Ledger.{Page, loan_of}
use Rattle.vm_memory.specs.FirstLedger.{first_ledger, first_page, planned_page, process_of}
use Rattle.vm_memory.specs.Starting.{IsUnlent}
use Rattle.xk_base.specs.Tables.Circle.{is_pid}
use Rattle.xk_base.specs.Numbers.Windows.{in_window, window_at}
use Rattle.xk_base.specs.declared.ids.Place.{Place}
use Rattle.xk_base.specs.declared.windows.Window.TheVariants.{Heap}

-- ---- the processes of a plan

-- what holds of all of them holds of that of a pid, which is a pid of the processes
pub record IsPlanned (P : ProcPlan → Type 0) (plan : BootPlan) (pid : ℕ) : Type 0 where
  pub process : ProcPlan
  pub there : process_of plan pid ≡ Some process
  pub holds : P process

module _ (P : ProcPlan → Type 0) (plan : BootPlan) (each : All P plan.procs) where
  pub planned_of_pid : (pid : ℕ) → IsTrue (is_pid (length plan.procs) pid) → IsPlanned P plan pid
  planned_of_pid pid lies = elim (slice_get_cases plan.procs (pid - 2)).1 [
    | inl found ↦ record {
      process = found.0;
      there = cond-true (nat_le 2 pid) (slice_get plan.procs (pid - 2)) None above ∙ found.2;
      holds = subst P found.3 (each (pid - 2) found.0 found.1);
    }
    | inr past ↦ let far : length plan.procs ≤ pid - 2 = past.0 in absurd (omega (arith, low, two))
  ]
    where
      above : nat_le 2 pid ≡ true
      above = grind (arith, nat_tests)

      two : 2 ≤ pid
      two = grind (arith, nat_tests)

      low : pid < length plan.procs + 2
      low = grind (arith, nat_tests)

  -- a process is found at a pid of the processes alone
  pub pid_of_planned : (pid : ℕ) (process : ProcPlan) → process_of plan pid ≡ Some process → IsTrue (is_pid (length plan.procs) pid) × P process
  pid_of_planned pid process there = elim (cases_Bool (nat_le 2 pid)) [
    | inl above ↦ at (cond-true (nat_le 2 pid) (slice_get plan.procs (pid - 2)) None above) above
    | inr below ↦ absurd (none-some process (sym (cond-false (nat_le 2 pid) (slice_get plan.procs (pid - 2)) None below) ∙ there))
  ]
    where
      is_there : nat_le 2 pid ≡ true → pid - 2 < length plan.procs → IsTrue (is_pid (length plan.procs) pid)
      is_there above low = grind (arith, nat_tests)

      at : process_of plan pid ≡ slice_get plan.procs (pid - 2) → nat_le 2 pid ≡ true → IsTrue (is_pid (length plan.procs) pid) × P process
      at is above = elim (slice_get_cases plan.procs (pid - 2)).1 [
        | inl found ↦ (
          is_there above found.1,
          subst P (found.3 ∙ same_Some found.0 process (sym found.2 ∙ (sym is ∙ there))) (each (pid - 2) found.0 found.1),
        )
        | inr past ↦ absurd (none-some process (sym past.1 ∙ (sym is ∙ there)))
      ]

-- ---- the pages of a plan

-- what holds of all pages holds of the one that is found, which has the page number
pub found : (P : PagePlan → Type 0) (vpn : ℕ) (xs : List PagePlan) (x : PagePlan) → All P xs → find (λ page. page.vpn.0 == vpn) xs ≡ Some x → P x × (x.vpn.0 ≡ vpn)
found P vpn [] x each e = absurd (none-some x e)
found P vpn (y ∷ xs) x each e = elim (cases_Bool (y.vpn.0 == vpn)) [
  | inl is ↦ at (same_Some y x (sym (cond-true (y.vpn.0 == vpn) (Some y) (find (λ page. page.vpn.0 == vpn) xs) is) ∙ e)) is
  | inr other ↦ found P vpn xs x (All-tail P y xs each) (sym (cond-false (y.vpn.0 == vpn) (Some y) (find (λ page. page.vpn.0 == vpn) xs) other) ∙ e)
]
  where
    at : y ≡ x → (y.vpn.0 == vpn) ≡ true → P x × (x.vpn.0 ≡ vpn)
    at same is = (subst P same (All-head P y xs each), ap (λ (page : PagePlan). page.vpn.0) (sym same) ∙ eqb-true y.vpn.0 vpn is)

-- a page of the first ledger is one of the plan
pub record IsPlannedPage (plan : BootPlan) (file : List ℕ) (p : Place) (page : Page) : Type 0 where
  pub process : ProcPlan
  pub there : process_of plan p.pid.0 ≡ Some process
  pub planned : PagePlan
  pub found : planned_page p.vpn.0 process ≡ Some planned
  pub is : first_page file planned ≡ page

planned_at : (plan : BootPlan) (file : List ℕ) (p : Place) (page : Page) (o : Option ProcPlan) → process_of plan p.pid.0 ≡ o
    → option_map (first_page file) (option_and_then (planned_page p.vpn.0) o) ≡ Some page → IsPlannedPage plan file p page
planned_at plan file p page None there e = absurd (none-some page e)
planned_at plan file p page (Some process) there e = go (planned_page p.vpn.0 process) refl e
  where
    go : (o : Option PagePlan) → planned_page p.vpn.0 process ≡ o → option_map (first_page file) o ≡ Some page → IsPlannedPage plan file p page
    go None is e = absurd (none-some page e)
    go (Some planned) is e = record { process = process; there = there; planned = planned; found = is; is = same_Some (first_page file planned) page e }

pub first_home : (plan : BootPlan) (file : List ℕ) (p : Place) (page : Page) → (first_ledger plan file).home p ≡ Some page → IsPlannedPage plan file p page
unfolding first_ledger
first_home plan file p page e = planned_at plan file p page (process_of plan p.pid.0) refl e

-- ---- nothing is on loan

unlent_page : (file : List ℕ) (o : Option PagePlan) → loan_of (option_map (first_page file) o) ≡ None
unlent_page file None = refl
unlent_page file (Some page) = refl

pub first_unlent : (plan : BootPlan) (file : List ℕ) → IsUnlent (first_ledger plan file)
unfolding first_ledger
first_unlent plan file = record {
  loans = λ q. unlent_page file (option_and_then (planned_page q.vpn.0) (process_of plan q.pid.0));
  orphans = λ q. refl;
}

-- ---- no page lies in the Heap window

heap_window : (v : ℕ) → in_window Heap v ≡ true → window_at v ≡ Some Heap
heap_window v e = grind (arith, nat_tests)

pub first_no_heap : (plan : BootPlan) (file : List ℕ) → All CanStart plan.procs → (p : Place) (page : Page) → (first_ledger plan file).home p ≡ Some page
    → IsFalse (in_window Heap p.vpn.0)
first_no_heap plan file can p page e =
    let home : IsPlannedPage plan file p page = first_home plan file p page e in
    let starts : CanStart home.process = (pid_of_planned CanStart plan can p.pid.0 home.process home.there).1 in
    let here = found (λ (x : PagePlan). window_at x.vpn.0 ≢ Some Heap) p.vpn.0 home.process.pages home.planned starts.no_heap home.found in
    elim (cases_Bool (in_window Heap p.vpn.0)) [
      | inl heap ↦ absurd (here.0 (ap window_at here.1 ∙ heap_window p.vpn.0 heap))
      | inr other ↦ other
    ]
