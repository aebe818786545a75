-- Pages placed one after the other are the pages of the plan.
use Rattle.std.proofs.Common.{◌≡◌, ◌≢◌, ℕ, zero, suc, ◌+◌, ◌-◌, ◌<◌, ◌≤◌, ◌==◌, if◌then◌else◌, Bool, true, false, nat_le, List, [], ◌∷◌, ◌++◌, length, get_or, Option, Some, None, refl, sym, ap, ◌∙◌, inl, inr, arith}
use Rattle.std.specs.Prelude.{find, slice_get, All, AllPairs}
use Rattle.std.specs.Option.{option_and_then, option_map, option_or}
use Rattle.std.proofs.lemmas.Bool.{cases_eq, cases_lt, cond-true, cond-false, eq-eqb, ne_eqb}
use Rattle.std.proofs.lemmas.Bool.Decides.{nat_tests}
use Rattle.std.proofs.lemmas.Option.{none-some}
use Rattle.xk_base.specs.declared.ids.Pid.{Pid}
use Rattle.xk_base.specs.declared.ids.Place.{Place}
use Rattle.boot_plan.specs.Lawful.{IsLawfulProcess}
use Rattle.boot_plan.specs.declared.plans.BootPlan.{BootPlan}
use Rattle.boot_plan.specs.declared.plans.PagePlan.{PagePlan}
use Rattle.boot_plan.specs.declared.plans.ProcPlan.{ProcPlan}
use Rattle.ledger_model.specs.Ledger.{Ledger, Page, loan_of, empty_ledger}
use Rattle.ledger_model.specs.Places.{same_place}
use Rattle.ledger_model.specs.Reach.{is_free}
use Rattle.ledger_model.proofs.LedgerLemmas.{same_ledger}
use Rattle.ledger_model.proofs.PlaceLemmas.{same_place_tells}
use Rattle.ledger_model.proofs.ReachingLemmas.{is_free-all}
use Rattle.sv32_space.specs.PageSteps.{place_page}
use Rattle.vm_memory.specs.FirstLedger.{first_ledger, first_page, planned_page}
use Rattle.vm_memory.specs.Starting.{IsUnlent, place_pages, place_processes}

-- ---- one page

pub home_placed : (at q : Place) (page : Page) (l : Ledger) → q ≡ at → (place_page at page l).home q ≡ Some page
unfolding place_page
home_placed at q page l e = let t = same_place_tells q at in grind (arith, t)

pub home_else : (at q : Place) (page : Page) (l : Ledger) → q ≢ at → (place_page at page l).home q ≡ l.home q
unfolding place_page
home_else at q page l e = let t = same_place_tells q at in grind (arith, t)

unlent_page : (at : Place) (page : Page) (l : Ledger) → page.loan ≡ None → IsUnlent l → IsUnlent (place_page at page l)
unfolding place_page
unlent_page at page l none u = record {
  loans = λ q. by_test (same_place q at) q;
  orphans = u.orphans;
}
  where
    by_test : (b : Bool) (q : Place) → loan_of (if b then Some page else l.home q) ≡ None
    by_test true q = none
    by_test false q = u.loans q

-- a place without a page is free where nothing is on loan
pub free_there : (procs : ℕ) (l : Ledger) (p : Place) → IsUnlent l → l.home p ≡ None → is_free procs l p ≡ true
free_there procs l p u h = is_free-all procs l p h (u.orphans p) (λ q loan e same. none-some loan (sym (u.loans q) ∙ e))

-- ---- the pages of a process

module _ (file : List ℕ) (pid : Pid) where
  abbrev at : PagePlan → Place
  at page = record { pid = pid; vpn = page.vpn }

  pub pages_unlent : (xs : List PagePlan) (l : Ledger) → IsUnlent l → IsUnlent (place_pages file pid xs l)
  pages_unlent [] l u = u
  pages_unlent (x ∷ xs) l u = pages_unlent xs (place_page (at x) (first_page file x) l) (unlent_page (at x) (first_page file x) l refl u)

  pub pages_more : (xs : List PagePlan) (x : PagePlan) (l : Ledger)
      → place_pages file pid (xs ++ x ∷ []) l ≡ place_page (at x) (first_page file x) (place_pages file pid xs l)
  pages_more [] x l = refl
  pages_more (y ∷ xs) x l = pages_more xs x (place_page (at y) (first_page file y) l)

  -- a page number that none of them has
  pub pages_home_else : (xs : List PagePlan) (l : Ledger) (q : Place) → ((i : ℕ) (d : PagePlan) → i < length xs → (get_or xs i d).vpn.0 ≢ q.vpn.0)
      → (place_pages file pid xs l).home q ≡ l.home q
  pages_home_else [] l q h = refl
  pages_home_else (x ∷ xs) l q h =
      pages_home_else xs (place_page (at x) (first_page file x) l) q (λ i d low. h (suc i) d (omega arith))
      ∙ home_else (at x) q (first_page file x) l (λ e. h zero x (omega arith) (sym (ap (λ (p : Place). p.vpn.0) e)))

  -- another process
  pub pages_home_other : (xs : List PagePlan) (l : Ledger) (q : Place) → q.pid.0 ≢ pid.0 → (place_pages file pid xs l).home q ≡ l.home q
  pages_home_other [] l q ne = refl
  pages_home_other (x ∷ xs) l q ne =
      pages_home_other xs (place_page (at x) (first_page file x) l) q ne
      ∙ home_else (at x) q (first_page file x) l (λ e. ne (ap (λ (p : Place). p.pid.0) e))

  -- none is found where none has the page number
  none_found : (v : ℕ) (xs : List PagePlan) → ((i : ℕ) (d : PagePlan) → i < length xs → (get_or xs i d).vpn.0 ≢ v) → find (λ page. page.vpn.0 == v) xs ≡ None
  none_found v [] h = refl
  none_found v (x ∷ xs) h =
      cond-false (x.vpn.0 == v) (Some x) (find (λ page. page.vpn.0 == v) xs) (ne_eqb x.vpn.0 v (h zero x (omega arith)))
      ∙ none_found v xs (λ i d low. h (suc i) d (omega arith))

  -- where they are different, each is found at its place
  pub pages_home : (xs : List PagePlan) (l : Ledger) (v : ℕ) → AllPairs (λ (a b : PagePlan). a.vpn.0 ≢ b.vpn.0) xs
      → (place_pages file pid xs l).home (record { pid = pid; vpn = record { 0 = v } })
      ≡ option_or (option_map (first_page file) (find (λ page. page.vpn.0 == v) xs)) (l.home (record { pid = pid; vpn = record { 0 = v } }))
  pages_home [] l v different = refl
  pages_home (x ∷ xs) l v different = pages_home xs (place_page (at x) (first_page file x) l) v later ∙ elim (cases_eq x.vpn.0 v) [
    | inl same ↦
        let none : find (λ page. page.vpn.0 == v) xs ≡ None = none_found v xs (λ i d low e. different zero (suc i) d (omega arith) (omega arith) (same ∙ sym e)) in
        ap (λ o. option_or (option_map (first_page file) o) ((place_page (at x) (first_page file x) l).home q)) none
        ∙ home_placed (at x) q (first_page file x) l (ap (λ n. record { pid = pid; vpn = record { 0 = n } }) (sym same))
        ∙ sym (ap (λ o. option_or (option_map (first_page file) o) (l.home q))
        (cond-true (x.vpn.0 == v) (Some x) (find (λ page. page.vpn.0 == v) xs) (eq-eqb x.vpn.0 v same)))
    | inr apart ↦
        ap (option_or (option_map (first_page file) (find (λ page. page.vpn.0 == v) xs))) (home_else (at x) q (first_page file x) l (λ e. apart (sym (ap (λ (p : Place). p.vpn.0) e))))
        ∙ sym (ap (λ o. option_or (option_map (first_page file) o) (l.home q))
        (cond-false (x.vpn.0 == v) (Some x) (find (λ page. page.vpn.0 == v) xs) (ne_eqb x.vpn.0 v apart)))
  ]
    where
      q : Place
      q = record { pid = pid; vpn = record { 0 = v } }

      later : AllPairs (λ (a b : PagePlan). a.vpn.0 ≢ b.vpn.0) xs
      later i j d low high = different (suc i) (suc j) d (omega arith) (omega arith)

-- ---- the pages of all processes

module _ (file : List ℕ) where
  pub processes_unlent : (n : ℕ) (ps : List ProcPlan) (l : Ledger) → IsUnlent l → IsUnlent (place_processes file n ps l)
  processes_unlent n [] l u = u
  processes_unlent n (p ∷ ps) l u = processes_unlent (n + 1) ps (place_pages file (record { 0 = n }) p.pages l) (pages_unlent file (record { 0 = n }) p.pages l u)

  pub processes_more : (n : ℕ) (ps : List ProcPlan) (p : ProcPlan) (l : Ledger)
      → place_processes file n (ps ++ p ∷ []) l ≡ place_pages file (record { 0 = n + length ps }) p.pages (place_processes file n ps l)
  processes_more n [] p l = let e : n + 0 ≡ n = omega arith in ap (λ k. place_pages file (record { 0 = k }) p.pages l) (sym e)
  processes_more n (q ∷ ps) p l =
      let e : n + 1 + length ps ≡ n + suc (length ps) = omega arith in
      processes_more (n + 1) ps p (place_pages file (record { 0 = n }) q.pages l)
      ∙ ap (λ k. place_pages file (record { 0 = k }) p.pages (place_processes file (n + 1) ps (place_pages file (record { 0 = n }) q.pages l))) e

  -- a process behind them has no page yet
  pub processes_home_other : (n : ℕ) (ps : List ProcPlan) (l : Ledger) (q : Place) → n + length ps ≤ q.pid.0 → (place_processes file n ps l).home q ≡ l.home q
  processes_home_other n [] l q high = refl
  processes_home_other n (p ∷ ps) l q high =
      processes_home_other (n + 1) ps (place_pages file (record { 0 = n }) p.pages l) q (omega arith)
      ∙ pages_home_other file (record { 0 = n }) p.pages l q (λ e. omega arith)

  abbrev place_at : ℕ → ℕ → Place
  place_at pid v = record { pid = record { 0 = pid }; vpn = record { 0 = v } }

  abbrev planned : List ProcPlan → ℕ → ℕ → Option Page
  planned ps k v = option_map (first_page file) (option_and_then (planned_page v) (slice_get ps k))

  or_none : (o : Option Page) → option_or o None ≡ o
  or_none None = refl
  or_none (Some page) = refl

  -- each process has the pages of its plan, and no other has any
  homes : (len n : ℕ) (ps : List ProcPlan) (l : Ledger) → All (IsLawfulProcess len) ps → ((q : Place) → n ≤ q.pid.0 → l.home q ≡ None) → (pid v : ℕ)
      → (place_processes file n ps l).home (place_at pid v) ≡ (if nat_le n pid then planned ps (pid - n) v else l.home (place_at pid v))
  homes len n [] l lawful empty pid v = elim (cases_lt pid n) [
    | inl below ↦
        let test : nat_le n pid ≡ false = grind (arith, nat_tests) in
        sym (cond-false (nat_le n pid) (planned [] (pid - n) v) (l.home (place_at pid v)) test)
    | inr above ↦
        let test : nat_le n pid ≡ true = grind (arith, nat_tests) in
        empty (place_at pid v) above ∙ sym (cond-true (nat_le n pid) (planned [] (pid - n) v) (l.home (place_at pid v)) test)
  ]
  homes len n (p ∷ ps) l lawful empty pid v = homes len (n + 1) ps m later still pid v ∙ elim (cases_lt pid n) [
    | inl below ↦
        let test : nat_le n pid ≡ false = grind (arith, nat_tests) in
        let next : nat_le (n + 1) pid ≡ false = grind (arith, nat_tests) in
        cond-false (nat_le (n + 1) pid) (planned ps (pid - (n + 1)) v) (m.home (place_at pid v)) next
        ∙ pages_home_other file (record { 0 = n }) p.pages l (place_at pid v) (λ e. omega arith)
        ∙ sym (cond-false (nat_le n pid) (planned (p ∷ ps) (pid - n) v) (l.home (place_at pid v)) test)
    | inr above ↦ elim (cases_eq pid n) [
      | inl same ↦
          let test : nat_le n pid ≡ true = grind (arith, nat_tests) in
          let next : nat_le (n + 1) pid ≡ false = grind (arith, nat_tests) in
          let first : pid - n ≡ zero = omega arith in
          cond-false (nat_le (n + 1) pid) (planned ps (pid - (n + 1)) v) (m.home (place_at pid v)) next
          ∙ ap (λ k. m.home (place_at k v)) same
          ∙ pages_home file (record { 0 = n }) p.pages l v (lawful zero p (omega arith)).different
          ∙ ap (option_or (option_map (first_page file) (planned_page v p))) (empty (place_at n v) (omega arith))
          ∙ or_none (option_map (first_page file) (planned_page v p))
          ∙ sym (cond-true (nat_le n pid) (planned (p ∷ ps) (pid - n) v) (l.home (place_at pid v)) test ∙ ap (λ k. planned (p ∷ ps) k v) first)
      | inr apart ↦
          let test : nat_le n pid ≡ true = grind (arith, nat_tests) in
          let next : nat_le (n + 1) pid ≡ true = grind (arith, nat_tests) in
          let step : pid - n ≡ suc (pid - (n + 1)) = omega arith in
          cond-true (nat_le (n + 1) pid) (planned ps (pid - (n + 1)) v) (m.home (place_at pid v)) next
          ∙ sym (cond-true (nat_le n pid) (planned (p ∷ ps) (pid - n) v) (l.home (place_at pid v)) test ∙ ap (λ k. planned (p ∷ ps) k v) step)
    ]
  ]
    where
      m : Ledger
      m = place_pages file (record { 0 = n }) p.pages l

      later : All (IsLawfulProcess len) ps
      later k d low = lawful (suc k) d (omega arith)

      still : (q : Place) → n + 1 ≤ q.pid.0 → m.home q ≡ None
      still q high = pages_home_other file (record { 0 = n }) p.pages l q (λ e. omega arith) ∙ empty q (omega arith)

  empty_unlent : IsUnlent empty_ledger
  empty_unlent = record { loans = λ q. refl; orphans = λ q. refl }

  -- THE FIRST LEDGER is made of the pages of all processes
  pub first_is : (len : ℕ) (plan : BootPlan) → All (IsLawfulProcess len) plan.procs → place_processes file 2 plan.procs empty_ledger ≡ first_ledger plan file
  unfolding first_ledger
  first_is len plan lawful = same_ledger (place_processes file 2 plan.procs empty_ledger) (first_ledger plan file)
      (λ p. homes len 2 plan.procs empty_ledger lawful (λ q high. refl) p.pid.0 p.vpn.0 ∙ by_test p (nat_le 2 p.pid.0))
      (λ p. (processes_unlent 2 plan.procs empty_ledger empty_unlent).orphans p)
    where
      by_test : (p : Place) (b : Bool) → (if b then planned plan.procs (p.pid.0 - 2) p.vpn.0 else None)
          ≡ option_map (first_page file) (option_and_then (planned_page p.vpn.0) (if b then slice_get plan.procs (p.pid.0 - 2) else None))
      by_test p true = refl
      by_test p false = refl
