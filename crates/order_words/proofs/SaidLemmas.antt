-- What arguments say, one by one.
use Rattle.std.proofs.Common.{◌≡◌, ◌∙◌, ◌<◌, ◌+◌, ℕ, zero, suc, Bool, true, false, List, [], ◌∷◌, ◌++◌, get_or, length, map, take, take-suc, Bor, Option, None, Some, refl, ap, arith}
use Rattle.std.specs.Prelude.{◌&&◌, ◌||◌}
use Rattle.std.specs.List.{cons_option, filter_map, list_all, list_any}
use Rattle.std.specs.Option.{option_to_list}
use Rattle.std.proofs.lemmas.List.{map-append}
use Rattle.std.proofs.lemmas.List.Elements.{filter_map-append}
use Rattle.xk_base.specs.declared.events.Event.{Event}
use Rattle.order_words.specs.Arguments.{Arg, argument_in}
use Rattle.order_words.specs.Values.{event_at, events_in}
use Rattle.order_words.specs.declared.arguments.Argument.{Argument}

-- what one argument more says
pub told_more : {B : Type 0} (f : Arg → Option B) (args : List Argument) (i : ℕ) (d : Argument) → i < length args
    → filter_map f (map argument_in (take (i + 1) args)) ≡ filter_map f (map argument_in (take i args)) ++ option_to_list (f (argument_in (get_or args i d)))
told_more f args i d low =
    let next : i + 1 ≡ suc i = omega arith in
    let further : take (i + 1) args ≡ take i args ++ get_or args i d ∷ [] = ap (λ (n : ℕ). take n args) next ∙ take-suc args i d low in
    ap (λ (xs : List Argument). filter_map f (map argument_in xs)) further
    ∙ (ap (filter_map f) (map-append argument_in (take i args) (get_or args i d ∷ []))
    ∙ (filter_map-append f (map argument_in (take i args)) (argument_in (get_or args i d) ∷ [])
    ∙ ap (λ ys. filter_map f (map argument_in (take i args)) ++ ys) (one (f (argument_in (get_or args i d))))))
  where
    one : {B : Type 0} (x : Option B) → cons_option x [] ≡ option_to_list x
    one None = refl
    one (Some x) = refl

-- an argument is so
pub any_at : (p : Arg → Bool) (args : List Argument) (i : ℕ) (d : Argument) → i < length args → p (argument_in (get_or args i d)) ≡ true
    → list_any p (map argument_in args) ≡ true
any_at p [] i d low is = absurd (omega arith)
any_at p (a ∷ args) zero d low is = rw is refl
any_at p (a ∷ args) (suc i) d low is = either (p (argument_in a)) (any_at p args i d (omega arith) is)
  where
    either : (b : Bool) {c : Bool} → c ≡ true → (b || c) ≡ true
    either true e = refl
    either false e = e

-- an argument that asks for an event, and names none
pub no_event : (args : List Argument) (i : ℕ) (d : Argument) → i < length args → event_at (argument_in (get_or args i d)) ≡ Some None
    → (once : List Event) → map Some once ≡ events_in (map argument_in args) → ⊥
no_event [] i d low is once e = absurd (omega arith)
no_event (a ∷ args) zero d low is once e = none_first once (events_in (map argument_in args)) (e ∙ ap (λ (x : Option (Option Event)). cons_option x (events_in (map argument_in args))) is)
  where
    none_first : (once : List Event) (rest : List (Option Event)) → map Some once ≡ None ∷ rest → ⊥
    none_first [] rest e = cc
    none_first (event ∷ once) rest e = cc
no_event (a ∷ args) (suc i) d low is once e = behind (event_at (argument_in a)) once e (no_event args i d (omega arith) is)
  where
    behind : (x : Option (Option Event)) (once : List Event) → map Some once ≡ cons_option x (events_in (map argument_in args))
        → ((more : List Event) → map Some more ≡ events_in (map argument_in args) → ⊥) → ⊥
    behind None once e none = none once e
    behind (Some x) [] e none = cc
    behind (Some x) (event ∷ once) e none = let t : map Some once ≡ events_in (map argument_in args) = cc in none once t

-- a word isn't so
pub not_all_at : (p : List ℕ → Bool) (words : List (Bor (List ℕ))) (i : ℕ) (d : Bor (List ℕ)) → i < length words → p (get_or words i d).now ≡ false
    → list_all p (map (λ word. word.now) words) ≡ false
not_all_at p [] i d low is = absurd (omega arith)
not_all_at p (w ∷ words) zero d low is = rw is refl
not_all_at p (w ∷ words) (suc i) d low is = both (p w.now) (not_all_at p words i d (omega arith) is)
  where
    both : (b : Bool) {c : Bool} → c ≡ false → (b && c) ≡ false
    both true e = e
    both false e = refl

-- a word is so
pub any_word_at : (p : List ℕ → Bool) (words : List (Bor (List ℕ))) (i : ℕ) (d : Bor (List ℕ)) → i < length words → p (get_or words i d).now ≡ true
    → list_any p (map (λ word. word.now) words) ≡ true
any_word_at p [] i d low is = absurd (omega arith)
any_word_at p (w ∷ words) zero d low is = rw is refl
any_word_at p (w ∷ words) (suc i) d low is = either (p w.now) (any_word_at p words i d (omega arith) is)
  where
    either : (b : Bool) {c : Bool} → c ≡ true → (b || c) ≡ true
    either true e = refl
    either false e = e
