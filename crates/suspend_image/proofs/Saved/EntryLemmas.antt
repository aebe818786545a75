-- What a finite map has at keys: each beside its key, no more than there are keys, and found again by its key.
use Rattle.std.proofs.Common.{◌≡◌, zero, suc, ◌≤◌, Bool, true, false, cond, List, [], ◌∷◌, ◌++◌, map, length, Option, Some, None, refl, sym, ap, subst, ◌∙◌, arith, ◌⊎◌, inl, inr}
use Rattle.std.specs.List.{find, AllByRecursion, Contains}
use Rattle.std.specs.Option.{option_map, option_map_or}
use Rattle.std.proofs.lemmas.Bool.{cases_Bool, both_ways}
use Rattle.suspend_image.specs.StateBytes.{entries}

abbrev pub some : {A : Type 0} → A → Option A
some x = Some x

clash : {A B : Type 0} (o : Option A) (x : A) → o ≡ None → o ≡ Some x → B
clash None x none is = absurd cc
clash (Some y) x none is = absurd cc

-- the key is one of these
abbrev pub Has : {K : Type 0} → K → List K → Type 0
Has k [] = ⊥
Has k (a ∷ keys) = (a ≡ k) ⊎ Has k keys

pub has_of : {K : Type 0} (k : K) (keys : List K) → Contains keys k → Has k keys
has_of k [] (i, within, is) = absurd (omega (arith, within))
has_of k (a ∷ keys) (zero, within, is) = inl is
has_of k (a ∷ keys) (suc i, within, is) = inr (has_of k keys (i, omega (arith, within), is))

module _ {K V : Type 0} (f : K → Option V) where
  abbrev pub At : K × V → Type 0
  At e = f e.0 ≡ Some e.1

  pub entries_hold : (keys : List K) → AllByRecursion At (entries f keys)
  entries_hold [] = tt
  entries_hold (k ∷ keys) = go (f k) refl (entries_hold keys)
    where
      go : (o : Option V) → f k ≡ o → AllByRecursion At (entries f keys) → AllByRecursion At (option_map_or (λ v. (k, v) ∷ []) o [] ++ entries f keys)
      go None e rest = rest
      go (Some v) e rest = (e, rest)

  pub entries_few : (keys : List K) → length (entries f keys) ≤ length keys
  entries_few [] = omega arith
  entries_few (k ∷ keys) = go (f k) (entries_few keys)
    where
      go : (o : Option V) → length (entries f keys) ≤ length keys → length (option_map_or (λ v. (k, v) ∷ []) o [] ++ entries f keys) ≤ length (k ∷ keys)
      go None few = omega (arith, few)
      go (Some v) few = omega (arith, few)

  -- ---- found again

  module _ (same : K → K → Bool) (same_is : (a b : K) → same a b ≡ true → a ≡ b) (same_own : (a : K) → same a a ≡ true) where
    abbrev pub lookup : K → List (K × V) → Option V
    lookup k [] = None
    lookup k (e ∷ es) = cond (same e.0 k) (Some e.1) (lookup k es)

    lookup_none : (k : K) → f k ≡ None → (keys : List K) → lookup k (entries f keys) ≡ None
    lookup_none k none [] = refl
    lookup_none k none (a ∷ keys) = go (f a) refl (lookup_none k none keys)
      where
        go : (o : Option V) → f a ≡ o → lookup k (entries f keys) ≡ None → lookup k (option_map_or (λ v. (a, v) ∷ []) o [] ++ entries f keys) ≡ None
        go None e rest = rest
        go (Some v) e rest = elim (cases_Bool (same a k)) [
          | inl one ↦ clash (f k) v none (subst (λ (z : K). f z ≡ Some v) (same_is a k one) e)
          | inr other ↦ rw other rest
        ]

    lookup_some : (k : K) (v : V) → f k ≡ Some v → (keys : List K) → Has k keys → lookup k (entries f keys) ≡ Some v
    lookup_some k v is [] has = absurd has
    lookup_some k v is (a ∷ keys) has = go (f a) refl has (lookup_some k v is keys)
      where
        go : (o : Option V) → f a ≡ o → (a ≡ k) ⊎ Has k keys → (Has k keys → lookup k (entries f keys) ≡ Some v)
            → lookup k (option_map_or (λ w. (a, w) ∷ []) o [] ++ entries f keys) ≡ Some v
        go None e (inl here) rest = clash (f k) v (subst (λ (z : K). f z ≡ None) here e) is
        go None e (inr there) rest = rest there
        go (Some w) e has rest = elim (cases_Bool (same a k)) [
          | inl one ↦ (let at : f a ≡ Some v = subst (λ (z : K). f z ≡ Some v) (sym (same_is a k one)) is in rw one (sym e ∙ at))
          | inr other ↦ elim has [
            | inl here ↦ absurd (both_ways (same a k) other (subst (λ (z : K). same a z ≡ true) here (same_own a)))
            | inr there ↦ rw other (rest there)
          ]
        ]

    -- where all keys are listed, the list has what the map has
    pub lookup_told : (keys : List K) → ((k : K) (v : V) → f k ≡ Some v → Has k keys) → (k : K) → lookup k (entries f keys) ≡ f k
    lookup_told keys all k = go (f k) refl
      where
        go : (o : Option V) → f k ≡ o → lookup k (entries f keys) ≡ o
        go None e = lookup_none k e keys
        go (Some v) e = lookup_some k v e keys (all k v e)

    -- rows say entries: by their keys, and each for itself
    module _ {R : Type 0} (view : R → V) (test : K → R → Bool) where
      abbrev pub Tells : List R → List (K × V) → Type 0
      Tells [] [] = Unit {0}
      Tells [] (e ∷ es) = ⊥
      Tells (r ∷ rows) [] = ⊥
      Tells (r ∷ rows) (e ∷ es) = ((k : K) → test k r ≡ same e.0 k) × (view r ≡ e.1) × Tells rows es

      pub found_told : (rows : List R) (es : List (K × V)) → Tells rows es → (k : K) → option_map view (find (test k) rows) ≡ lookup k es
      found_told [] [] tells k = refl
      found_told [] (e ∷ es) tells k = absurd tells
      found_told (r ∷ rows) [] tells k = absurd tells
      found_told (r ∷ rows) (e ∷ es) tells k = elim (cases_Bool (same e.0 k)) [
        | inl one ↦ (let does : test k r ≡ true = tells.0 k ∙ one in rw (does, one) (ap some tells.1))
        | inr other ↦ (let doesnt : test k r ≡ false = tells.0 k ∙ other in rw (doesnt, other) (found_told rows es tells.2 k))
      ]

      pub tells_each : (row : K × V → R) → ((k : K) (e : K × V) → test k (row e) ≡ same e.0 k) → (es : List (K × V))
          → AllByRecursion (λ e. view (row e) ≡ e.1) es → Tells (map row es) es
      tells_each row tests [] all = tt
      tells_each row tests (e ∷ es) all = ((λ k. tests k e), all.0, tells_each row tests es all.1)
