-- What a command line asks for can be searched.
use Rattle.std.proofs.Common.{◌≡◌, ◌≤◌, ℕ, Bool, true, false, List, [], ◌∷◌, map, Option, None, Some, refl, subst, arith}
use Rattle.std.specs.Prelude.{◌&&◌, codes, if◌then◌else◌, nat_le}
use Rattle.std.specs.List.{cons_option}
use Rattle.std.specs.Option.{option_map}
use Rattle.std.specs.Str.{bytes_eq}
use Rattle.std.proofs.lemmas.Bool.Decides.{nat_tests}
use Rattle.event_text.specs.Lines.{number_of}
use Rattle.event_text.specs.Spelling.{AreAskable, IsAskable}
use Rattle.xk_base.specs.declared.events.Event.{Event}
use Rattle.xk_base.specs.declared.events.Event.TheVariants.{Irq, Kill}
use Rattle.order_words.specs.Arguments.{Alone, Arg, Name, Valued}
use Rattle.order_words.specs.Values.{event_at, events_in, in_bounds, number_within}

-- a number in bounds
within_bounds : (least most : ℕ) (x : Option ℕ) (n : ℕ) → in_bounds least most x ≡ Some n → n ≤ most
within_bounds least most None n e = absurd (let no : None ≡ Some n = e in cc)
within_bounds least most (Some m) n e = go (nat_le least m) (nat_le m most) refl e
  where
    go : (a b : Bool) → nat_le m most ≡ b → (if a && b then Some m else None) ≡ Some n → n ≤ most
    go true true below same = (let is : m ≡ n = cc in let low : m ≤ most = grind (arith, nat_tests) in omega (arith, is, low))
    go true false below same = absurd (let no : None ≡ Some n = same in cc)
    go false b below same = absurd (let no : None ≡ Some n = same in cc)

number_low : (least most : ℕ) (word : List ℕ) (n : ℕ) → number_within least most word ≡ Some n → n ≤ most
unfolding number_within
number_low least most word n e = within_bounds least most (number_of word) n e

none_inside : (event : Event) → Some None ≡ Some (Some event) → ⊥
none_inside event e = cc

-- an event that an argument asks for can be spelled
asked_askable : (a : Arg) (event : Event) → event_at a ≡ Some (Some event) → IsAskable event
asked_askable (Name name) event e = absurd (let no : None ≡ Some (Some event) = e in cc)
asked_askable (Alone option) event e = absurd (let no : None ≡ Some (Some event) = e in cc)
asked_askable (Valued option value) event e = go (bytes_eq option (codes "--irq")) (bytes_eq option (codes "--kill")) e
  where
    irq : (x : Option ℕ) → ((n : ℕ) → x ≡ Some n → n ≤ 31) → Some (option_map Irq x) ≡ Some (Some event) → IsAskable event
    irq None low same = absurd (none_inside event same)
    irq (Some n) low same = (let is : Irq n ≡ event = cc in subst IsAskable is (low n refl))

    kill : (x : Option ℕ) → ((n : ℕ) → x ≡ Some n → n ≤ 255) → Some (option_map (λ pid. Kill (record { 0 = pid })) x) ≡ Some (Some event)
        → IsAskable event
    kill None low same = absurd (none_inside event same)
    kill (Some n) low same = (let is : Kill (record { 0 = n }) ≡ event = cc in let small : n ≤ 255 = low n refl in subst IsAskable is (omega arith))

    go : (a b : Bool)
        → (if a then Some (option_map Irq (number_within 0 31 value)) else (
        if b then Some (option_map (λ pid. Kill (record { 0 = pid })) (number_within 0 255 value)) else None)) ≡ Some (Some event)
        → IsAskable event
    go true b same = irq (number_within 0 31 value) (λ n is. number_low 0 31 value n is) same
    go false true same = kill (number_within 0 255 value) (λ n is. number_low 0 255 value n is) same
    go false false same = absurd (let no : None ≡ Some (Some event) = same in cc)

-- .. and so all of them
pub once_askable : (args : List Arg) (once : List Event) → map Some once ≡ events_in args → AreAskable once
unfolding AreAskable
once_askable [] [] e = tt
once_askable [] (event ∷ once) e = absurd (let no : Some event ∷ map Some once ≡ [] = e in cc)
once_askable (a ∷ args) once e = go (event_at a) refl once e (λ more. once_askable args more)
  where
    go : (x : Option (Option Event)) → event_at a ≡ x → (once : List Event) → map Some once ≡ cons_option x (events_in args)
        → ((more : List Event) → map Some more ≡ events_in args → AreAskable more) → AreAskable once
    go None is once e rest = rest once e
    go (Some x) is [] e rest = tt
    go (Some None) is (event ∷ once) e rest = absurd (let no : Some event ≡ None = cc in cc)
    go (Some (Some y)) is (event ∷ once) e rest =
        let same : y ≡ event = cc in
        let more : map Some once ≡ events_in args = cc in
        (subst IsAskable same (asked_askable a y is), rest once more)
