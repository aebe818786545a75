-- The first ledger is lawful: its pages lie at places of the processes, nothing is on loan, and there is room for them all. So the
-- start of a plan is matched.
use Rattle.std.proofs.Common.{◌≡◌, ℕ, ◌+◌, ◌≤◌, Bool, true, false, List, [], ◌∷◌, length, Option, Some, refl, sym, ap, subst, ◌∙◌, arith, inl, inr}
use Rattle.std.specs.Prelude.{IsTrue, is_some, sum_by}
use Rattle.std.specs.List.{All}
use Rattle.std.specs.Option.{option_map}
use Rattle.std.proofs.lemmas.Bool.{and_from, cases_Bool}
use Rattle.std.proofs.lemmas.Bool.Decides.{nat_tests}
use Rattle.std.proofs.lemmas.List.Elements.{All-head, All-tail}
use Rattle.std.proofs.lemmas.List.Sums.{sum_by-cons}
use Rattle.std.proofs.lemmas.Option.{none-some}
use Rattle.boot_plan.specs.Capacity.{capacity}
use Rattle.boot_plan.specs.FirstPages.{planned_pages}
use Rattle.boot_plan.specs.Lawful.{CanStart, IsLawfulPage, IsLawfulPlan, IsLawfulProcess}
use Rattle.boot_plan.specs.declared.plans.BootPlan.{BootPlan}
use Rattle.boot_plan.specs.declared.plans.PagePlan.{PagePlan}
use Rattle.boot_plan.specs.declared.plans.ProcPlan.{ProcPlan}
use Rattle.ledger_model.specs.Lawful.{IsLawful}
use Rattle.ledger_model.specs.Ledger.{Bytes, Console, Ledger, Orphan, Page, PageLoan, empty_ledger, is_counted, loan_at, loan_of, pages}
use Rattle.ledger_model.specs.Loans.{loan_of_orphan, loans, of_number, orphan_of_number}
use Rattle.ledger_model.specs.Places.{count_places, is_user_place}
use Rattle.ledger_model.proofs.Loans.NumberingLemmas.{count_places-le, count_places-none, count_places-one}
use Rattle.ledger_model.proofs.PlaceLemmas.{same_place_tells}
use Rattle.machine_model.specs.Runs.Matched.{Matched}
use Rattle.machine_model.proofs.State.StartLemmas.{start_matched}
use Rattle.sv32_space.specs.PageSteps.{place_page}
use Rattle.vm_memory.specs.FirstLedger.{first_ledger, first_page, page_bytes}
use Rattle.vm_memory.specs.Starting.{IsUnlent, place_pages, place_processes}
use Rattle.vm_memory.proofs.Booting.FirstPageLemmas.{first_is, home_else, home_placed}
use Rattle.xk_base.specs.Numbers.Windows.{window_at}
use Rattle.xk_base.specs.Tables.Circle.{is_pid}
use Rattle.xk_base.specs.declared.ids.Pid.{Pid}
use Rattle.xk_base.specs.declared.ids.Place.{Place}
use Rattle.xk_kernel.specs.Start.{start}
use Rattle.xk_kernel.proofs.Starting.BootLemmas.{start_is_start}
use Rattle.xk_kernel.proofs.Starting.FirstLedgerLemmas.{IsPlannedPage, first_home, first_unlent, found, pid_of_planned}

-- ---- how many pages it has

abbrev homes : ℕ → Ledger → ℕ
homes procs l = count_places procs (λ p. is_counted (l.home p))

-- a page at a place is at most one more
one_home : (procs : ℕ) (at : Place) (page : Page) (l : Ledger) → is_user_place procs at ≡ true → is_counted (Some page) ≡ true
    → homes procs (place_page at page l) ≤ homes procs l + 1
one_home procs at page l lies counted = elim (cases_Bool (is_counted (l.home at))) [
  | inl there ↦ let no_more : homes procs (place_page at page l) ≤ homes procs l = count_places-le procs new old (still there) in omega arith
  | inr none ↦ let one : homes procs (place_page at page l) ≡ homes procs l + 1 = count_places-one procs at new old lies here none elsewhere in omega arith
]
  where
    new : Place → Bool
    new p = is_counted ((place_page at page l).home p)

    old : Place → Bool
    old p = is_counted (l.home p)

    here : new at ≡ true
    here = ap is_counted (home_placed at at page l refl) ∙ counted

    elsewhere : (p : Place) → (p ≡ at → ⊥) → new p ≡ old p
    elsewhere p apart = ap is_counted (home_else at p page l apart)

    still : old at ≡ true → (p : Place) → new p ≡ true → old p ≡ true
    still there p e = elim (same_place_tells p at) [
      | inl k ↦ ap old k.1 ∙ there
      | inr k ↦ sym (elsewhere p k.1) ∙ e
    ]

module _ (file : List ℕ) (len procs : ℕ) where
  pages_counted : (pid : Pid) (xs : List PagePlan) (l : Ledger) → is_pid procs pid.0 ≡ true → All (IsLawfulPage len) xs
      → homes procs (place_pages file pid xs l) ≤ homes procs l + length xs
  pages_counted pid [] l process lawful = omega arith
  pages_counted pid (x ∷ xs) l process lawful =
      let at : Place = record { pid = pid; vpn = x.vpn } in
      let page : IsLawfulPage len x = All-head (IsLawfulPage len) x xs lawful in
      let lies : is_user_place procs at ≡ true = and_from (is_pid procs pid.0) (is_some (window_at x.vpn.0)) process page.in_window in
      let one = one_home procs at (first_page file x) l lies refl in
      let more = pages_counted pid xs (place_page at (first_page file x) l) process (All-tail (IsLawfulPage len) x xs lawful) in
      omega (arith, one, more)

  is_process : (n : ℕ) → 2 ≤ n → n + 1 ≤ procs + 2 → is_pid procs n ≡ true
  is_process n two low = grind (arith, nat_tests)

  processes_counted : (n : ℕ) (ps : List ProcPlan) (l : Ledger) → 2 ≤ n → n + length ps ≤ procs + 2 → All (IsLawfulProcess len) ps
      → homes procs (place_processes file n ps l) ≤ homes procs l + sum_by (λ (p : ProcPlan). length p.pages) ps
  processes_counted n [] l two low lawful = omega arith
  processes_counted n (p ∷ ps) l two low lawful =
      let process : IsLawfulProcess len p = All-head (IsLawfulProcess len) p ps lawful in
      let one = pages_counted (record { 0 = n }) p.pages l (is_process n two (omega arith)) process.pages in
      let more = processes_counted (n + 1) ps (place_pages file (record { 0 = n }) p.pages l) (omega arith) (omega arith) (All-tail (IsLawfulProcess len) p ps lawful) in
      let all : sum_by (λ (q : ProcPlan). length q.pages) (p ∷ ps) ≡ length p.pages + sum_by (λ (q : ProcPlan). length q.pages) ps = sum_by-cons (λ (q : ProcPlan). length q.pages) p ps in
      omega (arith, one, more, all)

module _ (plan : BootPlan) (file : List ℕ) (lawful : IsLawfulPlan (length file) plan) where
  abbrev count : ℕ
  count = length plan.procs

  first_within : pages count (first_ledger plan file) ≤ capacity plan.frames count plan.slots
  unfolding pages
  first_within =
      let placed : Ledger = place_processes file 2 plan.procs empty_ledger in
      let same : homes count placed ≡ homes count (first_ledger plan file) = ap (homes count) (first_is file (length file) plan lawful.procs) in
      let few : homes count placed ≤ homes count empty_ledger + planned_pages plan =
      processes_counted file (length file) count 2 plan.procs empty_ledger (omega arith) (omega arith) lawful.procs in
      let none : homes count empty_ledger ≡ 0 = count_places-none count (λ p. false) (λ p. refl) in
      let orphans : count_places count (λ p. is_some ((first_ledger plan file).orphan p)) ≡ 0 =
      count_places-none count (λ p. is_some ((first_ledger plan file).orphan p)) (λ p. ap is_some ((first_unlent plan file).orphans p)) in
      omega (arith, same, few, none, orphans, lawful.fits)

  -- ---- it is lawful

  first_lies : (p : Place) (page : Page) → (first_ledger plan file).home p ≡ Some page → IsTrue (is_user_place count p)
  first_lies p page e =
      let home : IsPlannedPage plan file p page = first_home plan file p page e in
      let process = pid_of_planned (IsLawfulProcess (length file)) plan lawful.procs p.pid.0 home.process home.there in
      let in_windows : All (λ (x : PagePlan). is_some (window_at x.vpn.0) ≡ true) home.process.pages = λ i d low. (process.1.pages i d low).in_window in
      let here = found (λ (x : PagePlan). is_some (window_at x.vpn.0) ≡ true) p.vpn.0 home.process.pages home.planned in_windows home.found in
      and_from (is_pid count p.pid.0) (is_some (window_at p.vpn.0)) process.0 (subst (λ (v : ℕ). is_some (window_at v) ≡ true) here.1 here.0)

  first_no_console : (p : Place) (page : Page) → (first_ledger plan file).home p ≡ Some page → page.contents ≡ Console → ⊥
  first_no_console p page e console =
      let home : IsPlannedPage plan file p page = first_home plan file p page e in
      let both : Bytes (page_bytes file home.planned) ≡ Console = ap (λ (x : Page). x.contents) home.is ∙ console in
      cc

  unlent : IsUnlent (first_ledger plan file)
  unlent = first_unlent plan file

  no_loan : (p : Place) (loan : PageLoan) → loan_at (first_ledger plan file) p ≡ Some loan → ⊥
  no_loan p loan e = none-some loan (sym (unlent.loans p) ∙ e)

  pub first_lawful : IsLawful count (capacity plan.frames count plan.slots) (first_ledger plan file)
  unfolding loans
  first_lawful = record {
    home_lies = first_lies;
    holder_lies = λ p loan e. absurd (no_loan p loan e);
    orphan_lies = λ p orphan e. absurd (none-some orphan (sym (unlent.orphans p) ∙ e));
    holders_differ = λ p q a b e f h. absurd (no_loan p a e);
    holder_no_home = λ p loan e. absurd (no_loan p loan e);
    holder_no_orphan = λ p loan e. absurd (no_loan p loan e);
    orphan_no_home = λ p orphan e. absurd (none-some orphan (sym (unlent.orphans p) ∙ e));
    one_console = λ p q a b e f g h. absurd (first_no_console p a e g);
    console_lies = λ p page e console. absurd (first_no_console p page e console);
    console_no_loan = λ p page e console. absurd (first_no_console p page e console);
    console_no_fetch = λ p page e console. absurd (first_no_console p page e console);
    within = first_within;
    one_run = λ number. inl (record {
      homes = λ p. ap (of_number number) (unlent.loans p);
      orphans = λ p. ap (λ (o : Option Orphan). orphan_of_number number (option_map loan_of_orphan o)) (unlent.orphans p);
    });
    exclusive_writable = λ p page loan e f kind. absurd (no_loan p loan (ap loan_of e ∙ f));
  }

pub start_of_plan_matched : (plan : BootPlan) (file : List ℕ) → IsLawfulPlan (length file) plan → All CanStart plan.procs → Matched (start plan file)
start_of_plan_matched plan file lawful can =
    start_matched (start plan file) (start_is_start plan file can lawful.few (first_lawful plan file lawful))
