-- What the first answer of a call at each number from 0 on says.
use Rattle.std.proofs.Common.{◌≡◌, ap, subst, ℕ, ◌+◌, ◌<◌, ◌-◌, Option, Some, None, arith}
use Rattle.std.proofs.iter.Yields.{nat_range_steps}
use Rattle.std.proofs.iter.runs.Sources.{range_runs}
use Rattle.std.proofs.lemmas.Option.{none-some, same_Some}
use Rattle.std.specs.Fn.{Called}
use Rattle.std.specs.Iterator.Runs.{Run, SomeRun, ItemsCountUp, AllItemsGive, IsFirstToGive, CallKeepsClosure}
use Rattle.std.specs.Option.{MatchOption, IfSome, IsSomeAnd, option_map}
use Rattle.std.specs.Prelude.{IsTrue}
use denote.Param.Members.{Mut}

-- an item of a run over numbers from 0 on is its place
placed : (p : Run nat_range_steps) (n k : ℕ) → ItemsCountUp p 0 n → k < p.len → p.at k ≡ Some k
placed p n k up low = go (p.at k) (up.3 k low)
  where
    go : (o : Option ℕ) → option_map (λ y. y) o ≡ Some (0 + k) → o ≡ Some k
    go None e = absurd (none-some (0 + k) e)
    go (Some x) e = let same : x ≡ 0 + k = same_Some x (0 + k) e in ap Some (omega arith)

module _ {F B : Type 0} (g : Mut F (ℕ × Unit {0}) (Option B)) (f : F) (n : ℕ) (P : ℕ → Option B → Type 0)
    (calls : (x : ℕ) (o : Option B) (q : F) → Called g f (x, tt) o q → (q ≡ f) × P x o) where
  keeps : CallKeepsClosure g f
  keeps a o q called = (calls a.0 o q called).0

  -- a call at each number found nothing, or the first that found something is this one
  pub first_mapped : (r : Option B)
      → SomeRun nat_range_steps (record { start = 0; end = n }) (λ p. MatchOption r (IsTrue p.whole × AllItemsGive p g f None)
      (λ y. (i : ℕ) × (i < p.len) × (p.len ≡ i + 1) × IsFirstToGive p g f (Some y) None i))
      → MatchOption r ((k : ℕ) → k < n → P k None) (λ y. (i : ℕ) × (i < n) × P i (Some y) × ((k : ℕ) → k < i → P k None))
  first_mapped r run = go r run.2
    where
      p : Run nat_range_steps
      p = run.0

      up : ItemsCountUp p 0 n
      up = subst (λ s. ItemsCountUp p s.start s.end) run.1 (range_runs p p.seen)

      at : (k : ℕ) → k < p.len → p.at k ≡ Some k
      at k low = placed p n k up low

      go : (o : Option B) → MatchOption o (IsTrue p.whole × AllItemsGive p g f None)
          (λ y. (i : ℕ) × (i < p.len) × (p.len ≡ i + 1) × IsFirstToGive p g f (Some y) None i)
          → MatchOption o ((k : ℕ) → k < n → P k None) (λ y. (i : ℕ) × (i < n) × P i (Some y) × ((k : ℕ) → k < i → P k None))
      go None h = λ k low. let long : p.len ≡ n - 0 = up.1 h.0 in
          (calls k None f (subst (λ o. IfSome o (λ x. Called g f (x, tt) None f)) (at k (omega arith)) (h.1 keeps k))).1
      go (Some y) h =
          let short : p.len ≡ h.0 + 1 = h.2 in
          let bound : p.len < n + 1 = let most : p.len < n - 0 + 1 = omega (arith, up.0) in omega arith in
          let found = h.3 keeps in (
            h.0,
            omega arith,
            (calls h.0 (Some y) f (subst (λ o. IsSomeAnd o (λ x. Called g f (x, tt) (Some y) f)) (at h.0 (omega arith)) found.0)).1,
            λ k low. (calls k None f (subst (λ o. IsSomeAnd o (λ x. Called g f (x, tt) None f)) (at k (omega arith)) (found.1 k low))).1,
          )
