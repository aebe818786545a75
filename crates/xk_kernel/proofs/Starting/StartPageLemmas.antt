-- The start of a plan has as many pages as the plan: each is put at a place that had none.
use Rattle.std.proofs.Common.{◌≡◌, ◌≢◌, ℕ, zero, suc, ◌+◌, ◌≤◌, ◌<◌, true, false, List, [], ◌∷◌, length, Some, None, refl, sym, ap, ◌∙◌, arith, get_or}
use Rattle.std.specs.Prelude.{is_some, sum_by, AllPairs}
use Rattle.std.specs.List.{All}
use Rattle.std.proofs.lemmas.Bool.{and_from}
use Rattle.std.proofs.lemmas.Bool.Decides.{nat_tests}
use Rattle.std.proofs.lemmas.List.Elements.{All-head, All-tail}
use Rattle.std.proofs.lemmas.List.Sums.{sum_by-cons}
use Rattle.boot_plan.specs.FirstPages.{planned_pages}
use Rattle.boot_plan.specs.Lawful.{IsLawfulPage, IsLawfulPlan, IsLawfulProcess}
use Rattle.boot_plan.specs.declared.plans.BootPlan.{BootPlan}
use Rattle.boot_plan.specs.declared.plans.PagePlan.{PagePlan}
use Rattle.boot_plan.specs.declared.plans.ProcPlan.{ProcPlan}
use Rattle.ledger_model.specs.Ledger.{Ledger, Page, empty_ledger, is_counted, pages}
use Rattle.ledger_model.specs.Places.{count_places, is_user_place}
use Rattle.ledger_model.proofs.Loans.NumberingLemmas.{count_places-none, count_places-one}
use Rattle.sv32_space.specs.PageSteps.{place_page}
use Rattle.vm_memory.specs.FirstLedger.{first_ledger, first_page}
use Rattle.vm_memory.specs.Starting.{place_pages, place_processes}
use Rattle.vm_memory.proofs.Booting.FirstPageLemmas.{first_is, home_else, home_placed, pages_home_other}
use Rattle.xk_base.specs.Numbers.Windows.{window_at}
use Rattle.xk_base.specs.Tables.Circle.{is_pid}
use Rattle.xk_base.specs.declared.ids.Pid.{Pid}
use Rattle.xk_base.specs.declared.ids.Place.{Place}
use Rattle.xk_kernel.specs.Start.{start}
use Rattle.xk_kernel.proofs.Starting.FirstLedgerLemmas.{first_unlent}

abbrev homes : ℕ → Ledger → ℕ
homes procs l = count_places procs (λ p. is_counted (l.home p))

-- a page at a place without one is one more
one_more : (procs : ℕ) (at : Place) (page : Page) (l : Ledger) → is_user_place procs at ≡ true → is_counted (Some page) ≡ true → l.home at ≡ None
    → homes procs (place_page at page l) ≡ homes procs l + 1
one_more procs at page l lies counted none =
    count_places-one procs at (λ p. is_counted ((place_page at page l).home p)) (λ p. is_counted (l.home p)) lies
    (ap is_counted (home_placed at at page l refl) ∙ counted) (ap is_counted none)
    (λ p apart. ap is_counted (home_else at p page l apart))

module _ (file : List ℕ) (len procs : ℕ) where
  abbrev place : Pid → PagePlan → Place
  place pid x = record { pid = pid; vpn = x.vpn }

  -- none of these places has a page
  abbrev AreFree : Pid → List PagePlan → Ledger → Type 0
  AreFree pid xs l = (i : ℕ) (d : PagePlan) → i < length xs → l.home (place pid (get_or xs i d)) ≡ None

  pages_more : (pid : Pid) (xs : List PagePlan) (l : Ledger) → is_pid procs pid.0 ≡ true → All (IsLawfulPage len) xs
      → AllPairs (λ (a b : PagePlan). a.vpn.0 ≢ b.vpn.0) xs → AreFree pid xs l
      → homes procs (place_pages file pid xs l) ≡ homes procs l + length xs
  pages_more pid [] l process lawful different free = omega arith
  pages_more pid (x ∷ xs) l process lawful different free =
      let page : IsLawfulPage len x = All-head (IsLawfulPage len) x xs lawful in
      let lies : is_user_place procs (place pid x) ≡ true = and_from (is_pid procs pid.0) (is_some (window_at x.vpn.0)) process page.in_window in
      let one = one_more procs (place pid x) (first_page file x) l lies refl (free zero x (omega arith)) in
      let more = pages_more pid xs (place_page (place pid x) (first_page file x) l) process (All-tail (IsLawfulPage len) x xs lawful)
      (λ i j d low high. different (suc i) (suc j) d (omega arith) (omega arith))
      (λ i d low. home_else (place pid x) (place pid (get_or xs i d)) (first_page file x) l
      (λ same. different zero (suc i) d (omega arith) (omega arith) (sym (ap (λ (p : Place). p.vpn.0) same)))
      ∙ free (suc i) d (omega arith)) in
      omega (arith, one, more)

  is_process : (n : ℕ) → 2 ≤ n → n + 1 ≤ procs + 2 → is_pid procs n ≡ true
  is_process n two low = grind (arith, nat_tests)

  -- no process from this pid on has a page
  abbrev IsBare : ℕ → Ledger → Type 0
  IsBare n l = (p : Place) → n ≤ p.pid.0 → l.home p ≡ None

  processes_more : (n : ℕ) (ps : List ProcPlan) (l : Ledger) → 2 ≤ n → n + length ps ≤ procs + 2 → All (IsLawfulProcess len) ps → IsBare n l
      → homes procs (place_processes file n ps l) ≡ homes procs l + sum_by (λ (p : ProcPlan). length p.pages) ps
  processes_more n [] l two low lawful bare = omega arith
  processes_more n (p ∷ ps) l two low lawful bare =
      let process : IsLawfulProcess len p = All-head (IsLawfulProcess len) p ps lawful in
      let pid : Pid = record { 0 = n } in
      let one = pages_more pid p.pages l (is_process n two (omega arith)) process.pages process.different (λ i d within. bare (place pid (get_or p.pages i d)) (omega arith)) in
      let more = processes_more (n + 1) ps (place_pages file pid p.pages l) (omega arith) (omega arith) (All-tail (IsLawfulProcess len) p ps lawful)
      (λ q above. pages_home_other file pid p.pages l q (λ same. absurd (omega (arith, above, same))) ∙ bare q (omega (arith, above))) in
      let all : sum_by (λ (q : ProcPlan). length q.pages) (p ∷ ps) ≡ length p.pages + sum_by (λ (q : ProcPlan). length q.pages) ps = sum_by-cons (λ (q : ProcPlan). length q.pages) p ps in
      omega (arith, one, more, all)

pub start_pages : (plan : BootPlan) (file : List ℕ) → IsLawfulPlan (length file) plan → pages (start plan file).processes (start plan file).ledger ≡ planned_pages plan
unfolding pages start
start_pages plan file lawful =
    let count : ℕ = length plan.procs in
    let same : homes count (place_processes file 2 plan.procs empty_ledger) ≡ homes count (first_ledger plan file) = ap (homes count) (first_is file (length file) plan lawful.procs) in
    let all : homes count (place_processes file 2 plan.procs empty_ledger) ≡ homes count empty_ledger + planned_pages plan =
    processes_more file (length file) count 2 plan.procs empty_ledger (omega arith) (omega arith) lawful.procs (λ p above. refl) in
    let none : homes count empty_ledger ≡ 0 = count_places-none count (λ p. false) (λ p. refl) in
    let orphans : count_places count (λ p. is_some ((first_ledger plan file).orphan p)) ≡ 0 =
    count_places-none count (λ p. is_some ((first_ledger plan file).orphan p)) (λ p. ap is_some ((first_unlent plan file).orphans p)) in
    omega (arith, same, all, none, orphans)
