-- What holds of all that a finite map has, of its changes, and of parts of lists.
use Rattle.std.proofs.Common.{◌≡◌, Bool, true, false, List, [], ◌∷◌, ◌++◌, Option, Some, None, refl, subst}
use Rattle.std.specs.Prelude.{All, find, if◌then◌else◌}
use Rattle.std.specs.Option.{option_and_then, option_map}
use Rattle.std.proofs.lemmas.List.Elements.{All-nil, All-cons, All-head, All-tail}
use Rattle.std.proofs.lemmas.Option.{none-some, same_Some}
use Rattle.xk_base.specs.Tables.Counting.{put_at}

module _ {V : Type 0} (P : V → Type 0) where
  -- of what is there
  abbrev pub Holds : Option V → Type 0
  Holds o = (v : V) → o ≡ Some v → P v

  pub some_holds : (v : V) → P v → Holds (Some v)
  some_holds v h u e = subst P (same_Some v u e) h

  pub none_holds : Holds None
  none_holds u e = absurd (none-some u e)

  pub map_holds : {U : Type 0} (f : U → V) (o : Option U) → ((u : U) → o ≡ Some u → P (f u)) → Holds (option_map f o)
  map_holds f None h = none_holds
  map_holds f (Some u) h = some_holds (f u) (h u refl)

  pub then_holds : {U : Type 0} (f : U → Option V) (o : Option U) → ((u : U) → o ≡ Some u → Holds (f u)) → Holds (option_and_then f o)
  then_holds f None h = none_holds
  then_holds f (Some u) h = h u refl

  pub if_holds : (b : Bool) (x y : Option V) → Holds x → Holds y → Holds (if b then x else y)
  if_holds true x y h k = h
  if_holds false x y h k = k

  pub put_holds : {K : Type 0} (same : K → K → Bool) (f : K → Option V) (key : K) (o : Option V) → Holds o → ((k : K) → Holds (f k))
      → (k : K) → Holds (put_at same f key o k)
  put_holds same f key o new old k = if_holds (same k key) o (f k) new (old k)

  -- ---- lists

  pub left_all : (xs ys : List V) → All P (xs ++ ys) → All P xs
  left_all [] ys h = All-nil P
  left_all (x ∷ xs) ys h = All-cons P x xs (All-head P x (xs ++ ys) h) (left_all xs ys (All-tail P x (xs ++ ys) h))

  pub right_all : (xs ys : List V) → All P (xs ++ ys) → All P ys
  right_all [] ys h = h
  right_all (x ∷ xs) ys h = right_all xs ys (All-tail P x (xs ++ ys) h)

  pub find_holds : (test : V → Bool) (xs : List V) → All P xs → Holds (find test xs)
  find_holds test [] h = none_holds
  find_holds test (x ∷ xs) h =
      if_holds (test x) (Some x) (find test xs) (some_holds x (All-head P x xs h)) (find_holds test xs (All-tail P x xs h))
