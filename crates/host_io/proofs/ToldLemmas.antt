-- Growing and consuming, one piece after another.
use Rattle.std.proofs.Common.{◌≡◌, ◌↔◌, ◌<◌, ◌≤◌, ◌+◌, ℕ, suc, List, [], ◌∷◌, ◌++◌, length, length-append, take, drop, get_or, Option, Some, None, Result, Ok, Err, OnErr, OnOk, refl, sym, ap, ◌∙◌, arith, append_assoc, append-nil, drop-cons}
use Rattle.std.proofs.lemmas.Option.{none-some, same_Some}
use Rattle.std.proofs.lemmas.List.{take-append-drop, take_more}
use Rattle.std.proofs.lemmas.Grind.{common_steps, flat_map-append}
use Rattle.xk_ports.specs.Told.{Grows, GrowsByProperPrefix, Consumes}
use Rattle.xk_ports.proofs.ToldLemmas.{Grows-append}
use Rattle.host_io.specs.Reading.{IsTold}

-- nothing is consumed
pub Consumes-none : (old : Option (List ℕ)) → Consumes old old []
Consumes-none None = refl
Consumes-none (Some xs) = refl

-- one piece after another
pub Consumes-append : (old mid new : Option (List ℕ)) (xs ys : List ℕ) → Consumes old mid xs → Consumes mid new ys → Consumes old new (xs ++ ys)
Consumes-append old None None xs ys first second = first
Consumes-append old (Some m) None xs ys first second = absurd (none-some m (sym second))
Consumes-append old None (Some rest) xs ys first second = absurd (none-some (ys ++ rest) second)
Consumes-append old (Some m) (Some rest) xs ys first second =
    let same : m ≡ ys ++ rest = same_Some _ _ second in
    first ∙ ap (λ (zs : List ℕ). Some zs) (ap (λ (zs : List ℕ). xs ++ zs) same ∙ sym (append_assoc xs ys rest))

-- where nothing is left, what was consumed is the whole
pub consumed_whole : (old new : Option (List ℕ)) (xs : List ℕ) → Consumes old new xs → IsTold new [] → IsTold old xs
consumed_whole None new xs used empty = tt
consumed_whole (Some whole) None xs used empty = absurd (none-some whole (sym used))
consumed_whole (Some whole) (Some rest) xs used empty =
    same_Some _ _ used ∙ (ap (λ (zs : List ℕ). xs ++ zs) empty ∙ append-nil xs)

-- the whole has at least what was consumed
pub consumed_front : (old new : Option (List ℕ)) (xs : List ℕ) → Consumes old new xs → (whole : List ℕ) × (length xs ≤ length whole) × IsTold old whole
consumed_front None new xs used = (xs, omega arith, tt)
consumed_front (Some whole) None xs used = absurd (none-some whole (sym used))
consumed_front (Some whole) (Some rest) xs used =
    let same : whole ≡ xs ++ rest = same_Some _ _ used in (whole, grind (arith, common_steps), refl)

-- the whole is what was consumed and some rest
pub consumed_rest : (old new : Option (List ℕ)) (xs : List ℕ) → Consumes old new xs → (rest : List ℕ) × IsTold old (xs ++ rest)
consumed_rest None new xs used = ([], tt)
consumed_rest (Some whole) None xs used = absurd (none-some whole (sym used))
consumed_rest (Some whole) (Some rest) xs used = (rest, same_Some _ _ used)

-- nothing is left where a read gave no byte
pub nothing_left : (left : Option (List ℕ)) (count : ℕ) → ((bytes : List ℕ) → left ≡ Some bytes → ((count ≡ 0) ↔ (bytes ≡ []))) → count ≡ 0 → IsTold left []
nothing_left None count end none = tt
nothing_left (Some bytes) count end none = (end bytes refl).0 none

-- a rest of one item or more has them with more behind it
pub left_longer : (rest more : List ℕ) → 0 < length rest → 0 < length (rest ++ more)
left_longer rest more some = omega (arith, length-append rest more, some)

-- a front of what comes after
pub prefix_after : (old mid new : Option (List ℕ)) (xs ys zs : List ℕ) → Grows old mid xs → GrowsByProperPrefix mid new ys
    → GrowsByProperPrefix old new (xs ++ (ys ++ zs))
prefix_after old mid new xs ys zs first second = (
  xs ++ second.0,
  second.1 ++ zs,
  left_longer second.1 zs second.2,
  rw second.3 (simp append_assoc),
  Grows-append old mid new xs second.0 first second.4,
)

-- a fact under either answer
pub on_err : {T E : Type 0} (r : Result T E) (P : Type 0) → P → OnErr r P
on_err (Ok x) P p = tt
on_err (Err e) P p = p

pub on_err_map : {T E : Type 0} (r : Result T E) (P Q : Type 0) → (P → Q) → OnErr r P → OnErr r Q
on_err_map (Ok x) P Q f p = tt
on_err_map (Err e) P Q f p = f p

-- a front of some text is a front of it with more behind it
pub front_longer : (old new : Option (List ℕ)) (xs ys : List ℕ) → GrowsByProperPrefix old new xs → GrowsByProperPrefix old new (xs ++ ys)
front_longer old new xs ys front = (
  front.0,
  front.1 ++ ys,
  left_longer front.1 ys front.2,
  ap (λ (text : List ℕ). text ++ ys) front.3 ∙ append_assoc front.0 front.1 ys,
  front.4,
)

-- a whole text, and then a front of what comes behind it
pub front_later : (old mid new : Option (List ℕ)) (xs ys : List ℕ) → Grows old mid xs → GrowsByProperPrefix mid new ys
    → GrowsByProperPrefix old new (xs ++ ys)
front_later old mid new xs ys first second = (
  xs ++ second.0,
  second.1,
  second.2,
  ap (λ (text : List ℕ). xs ++ text) second.3 ∙ sym (append_assoc xs second.0 second.1),
  Grows-append old mid new xs second.0 first second.4,
)

pub on_ok_map : {T E : Type 0} (r : Result T E) (P Q : Type 0) → (P → Q) → OnOk r P → OnOk r Q
on_ok_map (Ok x) P Q f p = f p
on_ok_map (Err e) P Q f p = tt
