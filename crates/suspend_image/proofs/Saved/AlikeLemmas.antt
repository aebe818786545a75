-- Entries that rise and have the same value at each key are one list; so a table of rows is what its map lists.
use Rattle.std.proofs.Common.{◌≡◌, ℕ, Bool, true, false, cond, List, [], ◌∷◌, ◌++◌, map, length, Option, Some, None, refl, sym, ap, subst, ◌∙◌, inl, inr}
use Rattle.std.specs.List.{flat_map, find, AllByRecursion}
use Rattle.std.specs.Option.{option_map}
use Rattle.std.proofs.lemmas.Bool.{cases_Bool, both_ways}
use Rattle.std.proofs.lemmas.List.{length-map}
use Rattle.std.proofs.lemmas.List.Folds.{flat_map-map}
use Rattle.suspend_image.specs.Words.{word_bytes}
use Rattle.suspend_image.specs.Spelling.{rows_bytes}
use Rattle.suspend_image.specs.StateBytes.{entries}
use Rattle.snapshot_rows.specs.Order.{AreInOrder}
use Rattle.suspend_image.specs.Forms.{ArePlaced}
use Rattle.snapshot_rows.proofs.KeyLemmas.{some_same}
use Rattle.suspend_image.proofs.Saved.EntryLemmas.{some, Has, lookup, lookup_told}
use Rattle.suspend_image.proofs.Saved.RiseLemmas.{Rises, rises_map, entries_rise}
use Rattle.suspend_image.proofs.Saved.RoomLemmas.{all_by}

-- ---- rows in order

module _ {R K : Type 0} (less : K → K → Type 0) (through : (a b c : K) → less a b → less b c → less a c) (key : R → K) where
  -- a form lets a row stand behind a key that is below its own
  rows_above : (form : Option K → R → Type 0) → ((b : K) (r : R) → form (Some b) r → less b (key r)) → (b : K) (rows : List R)
      → AreInOrder form key (Some b) rows → AllByRecursion (λ r. less b (key r)) rows
  rows_above form behind b [] forms = tt
  rows_above form behind b (r ∷ rows) forms =
      let low = behind b r forms.0 in (
        low,
        all_by (λ z. less (key r) (key z)) (λ z. less b (key z)) (λ z high. through b (key r) (key z) low high) rows
            (rows_above form behind (key r) rows forms.1),
      )

  pub rows_rise : (form : Option K → R → Type 0) → ((b : K) (r : R) → form (Some b) r → less b (key r)) → (before : Option K) (rows : List R)
      → AreInOrder form key before rows → Rises (λ a b. less (key a) (key b)) rows
  rows_rise form behind before [] forms = tt
  rows_rise form behind before (r ∷ rows) forms = (rows_above form behind (key r) rows forms.1, rows_rise form behind (Some (key r)) rows forms.1)

pub rows_all : {R K : Type 0} (form : Option K → R → Type 0) (key : R → K) (P : R → Type 0) → ((before : Option K) (r : R) → form before r → P r)
    → (before : Option K) (rows : List R) → AreInOrder form key before rows → AllByRecursion P rows
rows_all form key P keeps before [] forms = tt
rows_all form key P keeps before (r ∷ rows) forms = (keeps before r forms.0, rows_all form key P keeps (Some (key r)) rows forms.1)

pub placed_all : {R K : Type 0} (form : Option K → ℕ → R → Type 0) (key : R → K) (spell : R → List ℕ) (P : R → Type 0)
    → ((before : Option K) (left : ℕ) (r : R) → form before left r → P r)
    → (left : ℕ) (before : Option K) (rows : List R) → ArePlaced form key spell left before rows → AllByRecursion P rows
placed_all form key spell P keeps left before [] forms = tt
placed_all form key spell P keeps left before (r ∷ rows) forms = (keeps before _ r forms.0, placed_all form key spell P keeps left (Some (key r)) rows forms.1)

-- ---- entries

module _ {K V : Type 0} (f : K → Option V) (same : K → K → Bool) (same_is : (a b : K) → same a b ≡ true → a ≡ b) (same_own : (a : K) → same a a ≡ true)
    (less : K → K → Type 0) (apart : (k : K) → less k k → ⊥) (through : (a b c : K) → less a b → less b c → less a c) where
  abbrev look : K → List (K × V) → Option V
  look k es = lookup f same same_is same_own k es

  none_behind : (k : K) (es : List (K × V)) → AllByRecursion (λ e. less k e.0) es → look k es ≡ None
  none_behind k [] all = refl
  none_behind k (e ∷ es) all = elim (cases_Bool (same e.0 k)) [
    | inl is ↦ absurd (apart k (subst (λ (z : K). less k z) (same_is e.0 k is) all.0))
    | inr isnt ↦ rw isnt (none_behind k es all.1)
  ]

  looked : (P : K → Type 0) (k : K) (v : V) (es : List (K × V)) → AllByRecursion (λ e. P e.0) es → look k es ≡ Some v → P k
  looked P k v [] all is = absurd cc
  looked P k v (e ∷ es) all is = elim (cases_Bool (same e.0 k)) [
    | inl here ↦ subst P (same_is e.0 k here) all.0
    | inr other ↦ looked P k v es all.1 (sym (ap (λ (b : Bool). cond b (some e.1) (look k es)) other) ∙ is)
  ]

  look_first : (e : K × V) (es : List (K × V)) → look e.0 (e ∷ es) ≡ Some e.1
  look_first e es = ap (λ (b : Bool). cond b (some e.1) (look e.0 es)) (same_own e.0)

  behind : (k : K) (v : V) (e : K × V) (es : List (K × V)) → AllByRecursion (λ z. less e.0 z.0) es → same e.0 k ≡ false → look k (e ∷ es) ≡ Some v → less e.0 k
  behind k v e es all isnt is = looked (λ z. less e.0 z) k v es all (sym (ap (λ (b : Bool). cond b (some e.1) (look k es)) isnt) ∙ is)

  differs_back : (a b : K) → same a b ≡ false → same b a ≡ false
  differs_back a b differ = elim (cases_Bool (same b a)) [
    | inl is ↦ absurd (both_ways (same a b) differ (subst (λ (z : K). same z b ≡ true) (same_is b a is) (same_own b)))
    | inr isnt ↦ isnt
  ]

  module _ (x : K × V) (xs : List (K × V)) (y : K × V) (ys : List (K × V)) (p : Rises (λ a b. less a.0 b.0) (x ∷ xs)) (q : Rises (λ a b. less a.0 b.0) (y ∷ ys))
      (alike : (k : K) → look k (x ∷ xs) ≡ look k (y ∷ ys)) where
    first_key : x.0 ≡ y.0
    first_key = elim (cases_Bool (same x.0 y.0)) [
      | inl one ↦ same_is x.0 y.0 one
      | inr differ ↦ (
          let high = behind y.0 y.1 x xs p.0 differ (alike y.0 ∙ look_first y ys) in
          let low = behind x.0 x.1 y ys q.0 (differs_back x.0 y.0 differ) (sym (alike x.0) ∙ look_first x xs) in
          absurd (apart x.0 (through x.0 y.0 x.0 high low))
          )
    ]

    first_value : x.1 ≡ y.1
    first_value =
        some_same x.1 y.1 (sym (look_first x xs) ∙ alike x.0 ∙ ap (λ (k : K). look k (y ∷ ys)) first_key ∙ look_first y ys)

    rest_alike : (k : K) → look k xs ≡ look k ys
    rest_alike k = elim (cases_Bool (same x.0 k)) [
      | inl one ↦ (
          let here = same_is x.0 k one in
          none_behind k xs (subst (λ (z : K). AllByRecursion (λ e. less z e.0) xs) here p.0)
          ∙ sym (none_behind k ys (subst (λ (z : K). AllByRecursion (λ e. less z e.0) ys) (sym first_key ∙ here) q.0))
          )
      | inr other ↦
          sym (ap (λ (b : Bool). cond b (some x.1) (look k xs)) other) ∙ alike k
          ∙ ap (λ (b : Bool). cond b (some y.1) (look k ys)) (subst (λ (z : K). same z k ≡ false) first_key other)
    ]

  pub entries_same : (xs ys : List (K × V)) → Rises (λ a b. less a.0 b.0) xs → Rises (λ a b. less a.0 b.0) ys → ((k : K) → look k xs ≡ look k ys) → xs ≡ ys
  entries_same [] [] p q alike = refl
  entries_same [] (y ∷ ys) p q alike = (let never = alike y.0 ∙ look_first y ys in absurd cc)
  entries_same (x ∷ xs) [] p q alike = (let never = sym (look_first x xs) ∙ alike x.0 in absurd cc)
  entries_same (x ∷ xs) (y ∷ ys) p q alike =
      let key = first_key x xs y ys p q alike in
      let value = first_value x xs y ys p q alike in
      let rest = entries_same xs ys p.1 q.1 (rest_alike x xs y ys p q alike) in
      λ i. (key i, value i) ∷ rest i

  -- ---- a table

  module _ {R : Type 0} (view : R → V) (keyed : R → K) (test : K → R → Bool) (tests : (k : K) (r : R) → test k r ≡ same (keyed r) k) where
    abbrev pub said : R → K × V
    said r = (keyed r, view r)

    found_back : (rows : List R) (k : K) → look k (map said rows) ≡ option_map view (find (test k) rows)
    found_back [] k = refl
    found_back (r ∷ rows) k = elim (cases_Bool (same (keyed r) k)) [
      | inl one ↦ (let does : test k r ≡ true = tests k r ∙ one in rw (does, one) refl)
      | inr other ↦ (let doesnt : test k r ≡ false = tests k r ∙ other in rw (doesnt, other) (found_back rows k))
    ]

    -- what the map of the rows lists are the rows
    pub table_same : (rows : List R) (keys : List K) → Rises less keys → ((k : K) (v : V) → f k ≡ Some v → Has k keys)
        → Rises (λ a b. less (keyed a) (keyed b)) rows → ((k : K) → option_map view (find (test k) rows) ≡ f k) → entries f keys ≡ map said rows
    table_same rows keys rise all rows_up is =
        entries_same (entries f keys) (map said rows) (entries_rise f less keys rise)
        (rises_map (λ a b. less (keyed a) (keyed b)) (λ a b. less a.0 b.0) said (λ a b low. low) rows rows_up)
        (λ k. lookup_told f same same_is same_own keys all k ∙ sym (found_back rows k ∙ is k))

-- ---- spelled alike

pub flat_map_alike : {A : Type 0} (f g : A → List ℕ) (xs : List A) → AllByRecursion (λ x. f x ≡ g x) xs → flat_map f xs ≡ flat_map g xs
flat_map_alike f g [] all = refl
flat_map_alike f g (x ∷ xs) all = (let rest = flat_map_alike f g xs all.1 in λ i. all.0 i ++ rest i)

pub rows_alike : {A B : Type 0} (spell : B → List ℕ) (other : A → List ℕ) (said : A → B) (es : List B) (rows : List A) → es ≡ map said rows
    → AllByRecursion (λ r. spell (said r) ≡ other r) rows → rows_bytes spell es ≡ rows_bytes other rows
unfolding rows_bytes
rows_alike spell other said es rows same all =
    let mapped : rows_bytes spell (map said rows) ≡ word_bytes (length rows ∷ []) ++ flat_map (λ r. spell (said r)) rows =
    λ i. word_bytes (length-map rows said i ∷ []) ++ flat_map-map spell said rows i in
    ap (rows_bytes spell) same ∙ mapped
    ∙ ap (λ (b : List ℕ). word_bytes (length rows ∷ []) ++ b) (flat_map_alike (λ r. spell (said r)) other rows all)
