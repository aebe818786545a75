-- Steps over a run of places, one page after another.
use Rattle.std.proofs.Common.{◌≡◌, ℕ, ◌+◌, ◌-◌, ◌<◌, if◌then◌else◌, Bool, true, false, ◌&&◌, ◌||◌, Option, None, refl, sym, ap, subst, inl, inr, arith}
use Rattle.std.specs.Prelude.{◌==◌, nat_le, nat_lt}
use Rattle.std.proofs.lemmas.Bool.{cases_Bool}
use Rattle.std.proofs.lemmas.Bool.Decides.{nat_tests}
use Rattle.xk_base.specs.declared.ids.Number.{Number}
use Rattle.xk_base.specs.declared.ids.Place.{Place}
use Rattle.xk_base.specs.declared.pages.LoanKind.{LoanKind}
use Rattle.xk_base.specs.declared.pages.Right.{Right}
use Rattle.ledger_model.specs.Ledger.{Ledger, Page}
use Rattle.ledger_model.specs.Places.{in_run, moved, place_after}
use Rattle.ledger_model.specs.Steps.{make, remove, reduce, lend, give}
use Rattle.ledger_model.proofs.LedgerLemmas.{same_ledger}
use Rattle.ledger_model.proofs.PlaceLemmas.{place_from, in_run-none, in_run-index, moved-in_run}
use Rattle.sv32_space.specs.PageSteps.{end_at, forget_orphans, orphan_run, pass_run}

-- a place of a run of one more is one of the run or the next place
next_test : (first : Place) (i : ℕ) (p : Place) → in_run first (i + 1) p ≡ (in_run first i p || in_run (place_after first i) 1 p)
next_test first i p = numbers p.pid.0 first.pid.0 p.vpn.0 first.vpn.0
  where
    numbers : (a b c d : ℕ) → ((a == b) && (nat_le d c && nat_lt c (d + (i + 1))))
        ≡ (((a == b) && (nat_le d c && nat_lt c (d + i))) || ((a == b) && (nat_le (d + i) c && nat_lt c ((d + i) + 1))))
    numbers a b c d = grind (arith, nat_tests)

next_apart : (first : Place) (i : ℕ) (p : Place) → in_run (place_after first i) 1 p ≡ true → in_run first i p ≡ false
next_apart first i p = numbers p.pid.0 first.pid.0 p.vpn.0 first.vpn.0
  where
    numbers : (a b c d : ℕ) → ((a == b) && (nat_le (d + i) c && nat_lt c ((d + i) + 1))) ≡ true
        → ((a == b) && (nat_le d c && nat_lt c (d + i))) ≡ false
    numbers a b c d h = grind (arith, nat_tests)

-- where the next place goes
next_moved : (from to : Place) (i : ℕ) (p : Place) → in_run (place_after from i) 1 p ≡ true
    → moved (place_after from i) (place_after to i) p ≡ moved from to p
next_moved from to i p h =
    let k : (p.vpn.0 - (place_after from i).vpn.0 < 1) × (p ≡ place_after (place_after from i) (p.vpn.0 - (place_after from i).vpn.0)) = in_run-index (place_after from i) 1 p h in
    let e : p.vpn.0 ≡ (from.vpn.0 + i) + (p.vpn.0 - (from.vpn.0 + i)) = ap (λ (q : Place). q.vpn.0) k.1 in
    let l : p.vpn.0 - (from.vpn.0 + i) < 1 = k.0 in
    place_from (moved (place_after from i) (place_after to i) p) (moved from to p) refl (omega arith)

-- ---- steps on a run of one more

pub make_next : (first : Place) (i : ℕ) (right : Right) (l : Ledger)
    → make first (i + 1) right l
    ≡ make (place_after first i) 1 right (make first i right l)
unfolding make
make_next first i right l = same_ledger (make first (i + 1) right l) (make (place_after first i) 1 right (make first i right l)) homes (λ p. refl)
  where
    homes : (p : Place) → (make first (i + 1) right l).home p
        ≡ (make (place_after first i) 1 right (make first i right l)).home p
    homes p = let t = next_test first i p in let n = next_apart first i p in grind (arith, t)

pub remove_next : (first : Place) (i : ℕ) (l : Ledger)
    → remove (in_run first (i + 1)) l
    ≡ remove (in_run (place_after first i) 1) (remove (in_run first i) l)
unfolding remove
remove_next first i l = same_ledger (remove (in_run first (i + 1)) l) (remove (in_run (place_after first i) 1) (remove (in_run first i) l)) homes (λ p. refl)
  where
    homes : (p : Place) → (remove (in_run first (i + 1)) l).home p
        ≡ (remove (in_run (place_after first i) 1) (remove (in_run first i) l)).home p
    homes p = let t = next_test first i p in let n = next_apart first i p in grind (arith, t)

pub reduce_next : (first : Place) (i : ℕ) (right : Right) (l : Ledger)
    → reduce (in_run first (i + 1)) right l
    ≡ reduce (in_run (place_after first i) 1) right (reduce (in_run first i) right l)
unfolding reduce
reduce_next first i right l = same_ledger (reduce (in_run first (i + 1)) right l) (reduce (in_run (place_after first i) 1) right (reduce (in_run first i) right l)) homes (λ p. refl)
  where
    homes : (p : Place) → (reduce (in_run first (i + 1)) right l).home p
        ≡ (reduce (in_run (place_after first i) 1) right (reduce (in_run first i) right l)).home p
    homes p = let t = next_test first i p in let n = next_apart first i p in grind (arith, t)

pub lend_next : (from to : Place) (i : ℕ) (kind : LoanKind) (number : Number) (l : Ledger)
    → lend from (i + 1) to kind number l
    ≡ lend (place_after from i) 1 (place_after to i) kind number (lend from i to kind number l)
unfolding lend
lend_next from to i kind number l = same_ledger (lend from (i + 1) to kind number l) (lend (place_after from i) 1 (place_after to i) kind number (lend from i to kind number l)) homes (λ p. refl)
  where
    homes : (p : Place) → (lend from (i + 1) to kind number l).home p
        ≡ (lend (place_after from i) 1 (place_after to i) kind number (lend from i to kind number l)).home p
    homes p = let t = next_test from i p in let n = next_apart from i p in let m = next_moved from to i p in grind (arith, t)

pub pass_next : (from to : Place) (i : ℕ) (l : Ledger)
    → pass_run from (i + 1) to l ≡ pass_run (place_after from i) 1 (place_after to i) (pass_run from i to l)
unfolding pass_run
pass_next from to i l = same_ledger (pass_run from (i + 1) to l) (pass_run (place_after from i) 1 (place_after to i) (pass_run from i to l)) homes (λ p. refl)
  where
    homes : (p : Place) → (pass_run from (i + 1) to l).home p ≡ (pass_run (place_after from i) 1 (place_after to i) (pass_run from i to l)).home p
    homes p = let t = next_test from i p in let n = next_apart from i p in let m = next_moved from to i p in grind (arith, t)

pub end_next : (first : Place) (i : ℕ) (l : Ledger)
    → end_at (in_run first (i + 1)) l
    ≡ end_at (in_run (place_after first i) 1) (end_at (in_run first i) l)
unfolding end_at
end_next first i l = same_ledger (end_at (in_run first (i + 1)) l) (end_at (in_run (place_after first i) 1) (end_at (in_run first i) l)) homes (λ p. refl)
  where
    homes : (p : Place) → (end_at (in_run first (i + 1)) l).home p
        ≡ (end_at (in_run (place_after first i) 1) (end_at (in_run first i) l)).home p
    homes p = let t = next_test first i p in let n = next_apart first i p in grind (arith, t)

pub forget_next : (first : Place) (i : ℕ) (l : Ledger)
    → forget_orphans (in_run first (i + 1)) l
    ≡ forget_orphans (in_run (place_after first i) 1) (forget_orphans (in_run first i) l)
unfolding forget_orphans
forget_next first i l = same_ledger (forget_orphans (in_run first (i + 1)) l) (forget_orphans (in_run (place_after first i) 1) (forget_orphans (in_run first i) l)) (λ p. refl) orphans
  where
    orphans : (p : Place) → (forget_orphans (in_run first (i + 1)) l).orphan p
        ≡ (forget_orphans (in_run (place_after first i) 1) (forget_orphans (in_run first i) l)).orphan p
    orphans p = let t = next_test first i p in let n = next_apart first i p in grind (arith, t)

-- the next place's page is where it was before the places below it were orphaned
pub orphan_next : (from to : Place) (i : ℕ) (l : Ledger)
    → orphan_run from (i + 1) to l ≡ orphan_run (place_after from i) 1 (place_after to i) (orphan_run from i to l)
unfolding orphan_run
orphan_next from to i l = same_ledger (orphan_run from (i + 1) to l) (orphan_run (place_after from i) 1 (place_after to i) (orphan_run from i to l)) homes orphans
  where
    homes : (p : Place) → (orphan_run from (i + 1) to l).home p
        ≡ (orphan_run (place_after from i) 1 (place_after to i) (orphan_run from i to l)).home p
    homes p = let t = next_test from i p in grind (arith, t)

    orphans : (q : Place) → (orphan_run from (i + 1) to l).orphan q
        ≡ (orphan_run (place_after from i) 1 (place_after to i) (orphan_run from i to l)).orphan q
    orphans q = let t = next_test to i q in let n = next_apart to i q in let m = next_moved to from i q in
        let back : in_run (place_after to i) 1 q ≡ true → in_run from i (moved to from q) ≡ false =
        λ h. next_apart from i (moved to from q) (subst (λ r. in_run (place_after from i) 1 r ≡ true) (next_moved to from i q h) (moved-in_run (place_after to i) (place_after from i) q 1 h)) in
        grind (arith, t)

-- no place is in both runs
pub give_next : (from to : Place) (i : ℕ) (l : Ledger)
    → ((p : Place) → in_run from (i + 1) p ≡ true → in_run to (i + 1) p ≡ false)
    → give from (i + 1) to l ≡ give (place_after from i) 1 (place_after to i) (give from i to l)
unfolding give
give_next from to i l apart = same_ledger (give from (i + 1) to l) (give (place_after from i) 1 (place_after to i) (give from i to l)) homes (λ p. refl)
  where
    in_from : (p : Place) → in_run (place_after to i) 1 p ≡ true → in_run (place_after from i) 1 (moved to from p) ≡ true
    in_from p h = subst (λ r. in_run (place_after from i) 1 r ≡ true) (next_moved to from i p h) (moved-in_run (place_after to i) (place_after from i) p 1 h)

    -- a next place of the one run is no place of the other
    not_to : (q : Place) → in_run (place_after from i) 1 q ≡ true → in_run to i q ≡ false
    not_to q h = let t = next_test from i q in let u = next_test to i q in let a = apart q in grind (arith, t, u)

    homes : (p : Place) → (give from (i + 1) to l).home p ≡ (give (place_after from i) 1 (place_after to i) (give from i to l)).home p
    homes p = elim (cases_Bool (in_run (place_after to i) 1 p)) [
      | inl h ↦
          let u = next_test to i p in let m = next_moved to from i p h in let b = in_from p h in
          let c = next_apart from i (moved to from p) b in let d = not_to (moved to from p) b in
          let e : (give from i to l).home (moved (place_after to i) (place_after from i) p) ≡ (give from i to l).home (moved to from p) = ap (λ q. (give from i to l).home q) m in
          grind (arith, u, h, c, d, e)
      | inr h ↦ let t = next_test from i p in let u = next_test to i p in let d = not_to p in grind (arith, t, u, h)
    ]

-- ---- steps on a run of no places

pub make_none : (first : Place) (right : Right) (l : Ledger) → make first 0 right l ≡ l
unfolding make
make_none first right l = same_ledger (make first 0 right l) l (λ p. rw (in_run-none first p) refl) (λ p. refl)

pub remove_none : (first : Place) (l : Ledger) → remove (in_run first 0) l ≡ l
unfolding remove
remove_none first l = same_ledger (remove (in_run first 0) l) l (λ p. rw (in_run-none first p) refl) (λ p. refl)

pub reduce_none : (first : Place) (right : Right) (l : Ledger) → reduce (in_run first 0) right l ≡ l
unfolding reduce
reduce_none first right l = same_ledger (reduce (in_run first 0) right l) l (λ p. rw (in_run-none first p) refl) (λ p. refl)

pub give_none : (first to : Place) (l : Ledger) → give first 0 to l ≡ l
unfolding give
give_none first to l = same_ledger (give first 0 to l) l (λ p. rw (in_run-none to p, in_run-none first p) refl) (λ p. refl)

pub lend_none : (first to : Place) (kind : LoanKind) (number : Number) (l : Ledger) → lend first 0 to kind number l ≡ l
unfolding lend
lend_none first to kind number l = same_ledger (lend first 0 to kind number l) l (λ p. rw (in_run-none first p) refl) (λ p. refl)

pub end_none : (first : Place) (l : Ledger) → end_at (in_run first 0) l ≡ l
unfolding end_at
end_none first l = same_ledger (end_at (in_run first 0) l) l (λ p. rw (in_run-none first p) refl) (λ p. refl)

pub pass_none : (first to : Place) (l : Ledger) → pass_run first 0 to l ≡ l
unfolding pass_run
pass_none first to l = same_ledger (pass_run first 0 to l) l (λ p. rw (in_run-none first p) refl) (λ p. refl)

pub forget_none : (first : Place) (l : Ledger) → forget_orphans (in_run first 0) l ≡ l
unfolding forget_orphans
forget_none first l = same_ledger (forget_orphans (in_run first 0) l) l (λ p. refl) (λ p. rw (in_run-none first p) refl)

pub orphan_none : (first to : Place) (l : Ledger) → orphan_run first 0 to l ≡ l
unfolding orphan_run
orphan_none first to l = same_ledger (orphan_run first 0 to l) l (λ p. rw (in_run-none first p) refl) (λ p. rw (in_run-none to p) refl)

-- ---- steps at places, joined

pub remove_joined : (a b : Place → Bool) (l : Ledger) → remove a (remove b l) ≡ remove (λ p. a p || b p) l
unfolding remove
remove_joined a b l = same_ledger (remove a (remove b l)) (remove (λ p. a p || b p) l) (λ p. tests (a p) (b p) (l.home p)) (λ p. refl)
  where
    tests : (x y : Bool) (o : Option Page) → (if x then None else (if y then None else o)) ≡ (if x || y then None else o)
    tests true y o = refl
    tests false y o = refl

-- where no page stands there is nothing to remove
pub remove_nothing : (places : Place → Bool) (l : Ledger) → ((p : Place) → places p ≡ true → l.home p ≡ None) → remove places l ≡ l
unfolding remove
remove_nothing places l h = same_ledger (remove places l) l (λ p. tests (places p) (l.home p) (h p)) (λ p. refl)
  where
    tests : (x : Bool) (o : Option Page) → (x ≡ true → o ≡ None) → (if x then None else o) ≡ o
    tests true o k = sym (k refl)
    tests false o k = refl
