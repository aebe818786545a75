-- Items that stand one after the other: what was joined is cut again, and what was cut is joined again.
use Rattle.std.proofs.Common.{◌≡◌, ℕ, zero, suc, ◌-◌, ◌<◌, ◌≤◌, List, [], ◌∷◌, ◌++◌, length, Option, Some, None, refl, sym, ap, ◌∙◌, append_assoc, arith, inl, inr, ◌⊎◌}
use Rattle.std.proofs.lemmas.List.{nil_from_length, append-nil}
use Rattle.std.proofs.lemmas.Grind.{flat_map-append}
use Rattle.std.specs.List.{flat_map, AllByRecursion}
use Rattle.std.specs.Option.{option_map_or}
use Rattle.kernel_args.specs.Joined.{Cut, behind, cut_up_to, cut}
use Rattle.kernel_args.proofs.NumberLemmas.{IsBytes}

-- what front took, where it is spelled by spelling
pub record Takes {A : Type 0} (spelling : A → List ℕ) (Fits : A → Type 0) (bytes : List ℕ) (item : A) (rest : List ℕ) : Type 0 where
  pub parts : bytes ≡ spelling item ++ rest
  pub fits : Fits item
  pub rest_bytes : IsBytes rest

-- front gives the item that spelling spells
pub record IsFront {A : Type 0} (front : List ℕ → Option (A × List ℕ)) (spelling : A → List ℕ) (Fits : A → Type 0) : Type 0 where
  pub nothing : front [] ≡ None
  pub again : (item : A) (rest : List ℕ) → Fits item → front (spelling item ++ rest) ≡ Some (item, rest)
  pub some : (item : A) → Fits item → 0 < length (spelling item)
  pub shrinks : (bytes : List ℕ) (item : A) (rest : List ℕ) → front bytes ≡ Some (item, rest) → length rest < length bytes
  pub takes : (bytes : List ℕ) (item : A) (rest : List ℕ) → IsBytes bytes → front bytes ≡ Some (item, rest) → Takes spelling Fits bytes item rest

abbrev ended : {A : Type 0} → List ℕ → Cut A
ended rest = record { items = []; rest = rest }

pub option_cases : {A : Type 0} (o : Option A) → (o ≡ None) ⊎ ((x : A) × (o ≡ Some x))
option_cases None = inl refl
option_cases (Some x) = inr (x, refl)

at_none : {A : Type 0} (front : List ℕ → Option (A × List ℕ)) (n : ℕ) (bytes : List ℕ) → front bytes ≡ None → cut_up_to n front bytes ≡ ended bytes
unfolding cut_up_to
at_none {A = A} front zero bytes e = refl
at_none {A = A} front (suc n) bytes e = ap (λ (o : Option (A × List ℕ)). option_map_or (λ x. behind x.0 (cut_up_to n front x.1)) o (ended bytes)) e

at_some : {A : Type 0} (front : List ℕ → Option (A × List ℕ)) (n : ℕ) (bytes : List ℕ) (item : A) (rest : List ℕ) → front bytes ≡ Some (item, rest)
    → cut_up_to (suc n) front bytes ≡ behind item (cut_up_to n front rest)
unfolding cut_up_to
at_some {A = A} front n bytes item rest e = ap (λ (o : Option (A × List ℕ)). option_map_or (λ x. behind x.0 (cut_up_to n front x.1)) o (ended bytes)) e

front_of_nothing : {A : Type 0} (front : List ℕ → Option (A × List ℕ)) (bytes : List ℕ) → front [] ≡ None → length bytes ≤ 0 → front bytes ≡ None
front_of_nothing front bytes nothing short = ap front (nil_from_length bytes (omega arith)) ∙ nothing

-- a cut with room for all items is the cut
same_cut : {A : Type 0} (front : List ℕ → Option (A × List ℕ)) (spelling : A → List ℕ) (Fits : A → Type 0) → IsFront front spelling Fits
    → (m n : ℕ) (bytes : List ℕ) → length bytes ≤ m → length bytes ≤ n → cut_up_to m front bytes ≡ cut_up_to n front bytes
same_cut front spelling Fits h zero n bytes p q =
    let e = front_of_nothing front bytes h.nothing p in at_none front 0 bytes e ∙ sym (at_none front n bytes e)
same_cut front spelling Fits h (suc m) zero bytes p q =
    let e = front_of_nothing front bytes h.nothing q in at_none front (suc m) bytes e ∙ sym (at_none front 0 bytes e)
same_cut front spelling Fits h (suc m) (suc n) bytes p q =
    elim (option_cases (front bytes)) [
      | inl e ↦ at_none front (suc m) bytes e ∙ sym (at_none front (suc n) bytes e)
      | inr x ↦
          let shorter = h.shrinks bytes x.0.0 x.0.1 x.1 in
          at_some front m bytes x.0.0 x.0.1 x.1
          ∙ ap (behind x.0.0) (same_cut front spelling Fits h m n x.0.1 (omega arith) (omega arith))
          ∙ sym (at_some front n bytes x.0.0 x.0.1 x.1)
    ]

pub cut_none : {A : Type 0} (front : List ℕ → Option (A × List ℕ)) (bytes : List ℕ) → front bytes ≡ None → cut front bytes ≡ ended bytes
cut_none front bytes e = at_none front (length bytes) bytes e

-- the first item, and the cut of what follows it
pub cut_some : {A : Type 0} (front : List ℕ → Option (A × List ℕ)) (spelling : A → List ℕ) (Fits : A → Type 0) → IsFront front spelling Fits
    → (bytes : List ℕ) (item : A) (rest : List ℕ) → front bytes ≡ Some (item, rest) → cut front bytes ≡ behind item (cut front rest)
cut_some front spelling Fits h bytes item rest e =
    let shorter = h.shrinks bytes item rest e in
    let more : length bytes ≡ suc (length bytes - 1) = omega arith in
    ap (λ (k : ℕ). cut_up_to k front bytes) more
    ∙ at_some front (length bytes - 1) bytes item rest e
    ∙ ap (behind item) (same_cut front spelling Fits h (length bytes - 1) (length rest) rest (omega arith) (omega arith))

-- what was joined is cut again
pub cut_joined : {A : Type 0} (front : List ℕ → Option (A × List ℕ)) (spelling : A → List ℕ) (Fits : A → Type 0) → IsFront front spelling Fits
    → (items : List A) (rest : List ℕ) → AllByRecursion Fits items → front rest ≡ None
    → cut front (flat_map spelling items ++ rest) ≡ record { items = items; rest = rest }
cut_joined front spelling Fits h [] rest fits e = cut_none front rest e
cut_joined front spelling Fits h (x ∷ xs) rest fits e =
    let grouped : flat_map spelling (x ∷ xs) ++ rest ≡ spelling x ++ (flat_map spelling xs ++ rest) = append_assoc (spelling x) (flat_map spelling xs) rest in
    ap (cut front) grouped
    ∙ cut_some front spelling Fits h (spelling x ++ (flat_map spelling xs ++ rest)) x (flat_map spelling xs ++ rest) (h.again x (flat_map spelling xs ++ rest) fits.0)
    ∙ ap (behind x) (cut_joined front spelling Fits h xs rest fits.1 e)

pub record IsCut {A : Type 0} (front : List ℕ → Option (A × List ℕ)) (spelling : A → List ℕ) (Fits : A → Type 0) (bytes : List ℕ) (c : Cut A) : Type 0 where
  pub parts : bytes ≡ flat_map spelling c.items ++ c.rest
  pub fits : AllByRecursion Fits c.items
  pub ends : front c.rest ≡ None
  pub rest_bytes : IsBytes c.rest

cut_up_to_joins : {A : Type 0} (front : List ℕ → Option (A × List ℕ)) (spelling : A → List ℕ) (Fits : A → Type 0) → IsFront front spelling Fits
    → (n : ℕ) (bytes : List ℕ) → length bytes ≤ n → IsBytes bytes → IsCut front spelling Fits bytes (cut_up_to n front bytes)
cut_up_to_joins front spelling Fits h zero bytes short fits =
    let e = front_of_nothing front bytes h.nothing short in
    rw (at_none front 0 bytes e) (record { parts = refl; fits = tt; ends = e; rest_bytes = fits })
cut_up_to_joins front spelling Fits h (suc n) bytes short fits =
    elim (option_cases (front bytes)) [
      | inl e ↦ rw (at_none front (suc n) bytes e) (record { parts = refl; fits = tt; ends = e; rest_bytes = fits })
      | inr x ↦
          let shorter = h.shrinks bytes x.0.0 x.0.1 x.1 in
          let first = h.takes bytes x.0.0 x.0.1 fits x.1 in
          let others = cut_up_to_joins front spelling Fits h n x.0.1 (omega arith) first.rest_bytes in
          let c = cut_up_to n front x.0.1 in
          rw (at_some front n bytes x.0.0 x.0.1 x.1) (record {
            parts = first.parts ∙ ap (λ (l : List ℕ). spelling x.0.0 ++ l) others.parts ∙ sym (append_assoc (spelling x.0.0) (flat_map spelling c.items) c.rest);
            fits = (first.fits, others.fits);
            ends = others.ends;
            rest_bytes = others.rest_bytes;
          })
    ]

-- what was cut is joined again
pub cut_joins : {A : Type 0} (front : List ℕ → Option (A × List ℕ)) (spelling : A → List ℕ) (Fits : A → Type 0) → IsFront front spelling Fits
    → (bytes : List ℕ) → IsBytes bytes → IsCut front spelling Fits bytes (cut front bytes)
cut_joins front spelling Fits h bytes fits = cut_up_to_joins front spelling Fits h (length bytes) bytes (omega arith) fits

-- two lists of items that join to the same bytes are one
pub joined_once : {A : Type 0} (front : List ℕ → Option (A × List ℕ)) (spelling : A → List ℕ) (Fits : A → Type 0) → IsFront front spelling Fits
    → (xs ys : List A) → AllByRecursion Fits xs → AllByRecursion Fits ys → flat_map spelling xs ≡ flat_map spelling ys → xs ≡ ys
joined_once {A = A} front spelling Fits h xs ys p q e =
    let first = cut_joined front spelling Fits h xs [] p h.nothing in
    let second = cut_joined front spelling Fits h ys [] q h.nothing in
    ap (λ (c : Cut A). c.items) (sym first ∙ ap (λ (l : List ℕ). cut front (l ++ [])) e ∙ second)

-- one more item at the end
pub joined_more : {A : Type 0} (spelling : A → List ℕ) (bytes : List ℕ) (items : List A) (item : A) (rest more : List ℕ)
    → bytes ≡ flat_map spelling items ++ rest → rest ≡ spelling item ++ more → bytes ≡ flat_map spelling (items ++ item ∷ []) ++ more
joined_more spelling bytes items item rest more e f =
    let last : flat_map spelling (items ++ item ∷ []) ≡ flat_map spelling items ++ spelling item =
    flat_map-append spelling items (item ∷ []) ∙ ap (λ (l : List ℕ). flat_map spelling items ++ l) (append-nil (spelling item)) in
    e
    ∙ ap (λ (l : List ℕ). flat_map spelling items ++ l) f
    ∙ sym (append_assoc (flat_map spelling items) (spelling item) more)
    ∙ ap (λ (l : List ℕ). l ++ more) (sym last)

pub AllByRecursion-append : {A : Type 0} (P : A → Type 0) (xs ys : List A) → AllByRecursion P xs → AllByRecursion P ys → AllByRecursion P (xs ++ ys)
AllByRecursion-append P [] ys p q = q
AllByRecursion-append P (x ∷ xs) ys p q = (p.0, AllByRecursion-append P xs ys p.1 q)
