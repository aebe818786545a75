-- What was read from the front of bytes is what its spelling says: words, and rows one after the other.
use Rattle.std.proofs.Common.{◌≡◌, ℕ, zero, suc, ◌+◌, ◌≤◌, Bool, true, false, cond, ltb, List, [], ◌∷◌, ◌++◌, length, take, drop, Option, Some, None, Result, Ok, Err, refl, sym, ap, subst, ◌∙◌, append_assoc, arith}
use Rattle.std.specs.Prelude.{◌||◌}
use Rattle.std.specs.List.{flat_map, AllByRecursion}
use Rattle.std.proofs.lemmas.Bool.{ltb-false}
use Rattle.std.proofs.lemmas.List.{take-append-drop, length-append, length-take, drop_all, append-nil}
use Rattle.std.proofs.lemmas.List.Concat.{flat_map-cons}
use Rattle.byteorder.specs.Endian.{little_number}
use Rattle.kernel_args.proofs.NumberLemmas.{IsBytes, IsBytes-take, IsBytes-right, word_split, number_lt}
use Rattle.suspend_image.specs.Words.{word, word_bytes}
use Rattle.suspend_image.specs.Reading.{Found, ◌>>=◌, word_at, word_in, word_if, four_at, rows_at, items_at}
use Rattle.suspend_image.specs.Forms.{IsWithin, IsWord, IsField, ArePlaced}
use Rattle.snapshot_rows.specs.Order.{AreInOrder}
use Rattle.suspend_image.proofs.Sheets.SpellingLemmas.{word_bytes-nil, word_bytes-append}

-- the value of a step that did not fail
pub bind_ok : {A B : Type 0} (r : Result A ℕ) (f : A → Result B ℕ) (y : B) → (r >>= f) ≡ Ok y → (x : A) × (r ≡ Ok x) × (f x ≡ Ok y)
bind_ok (Ok x) f y e = (x, refl, e)
bind_ok (Err left) f y e = absurd cc

-- what follows from its value and the next steps
pub step : {A B P : Type 0} (r : Result A ℕ) (f : A → Result B ℕ) (y : B) → (r >>= f) ≡ Ok y → ((x : A) → r ≡ Ok x → f x ≡ Ok y → P) → P
step r f y e next = let b = bind_ok r f y e in next b.0 b.1 b.2

-- a test that did not fail
pub guard_ok : {A : Type 0} (b : Bool) (left : ℕ) (x y : A) → cond b (Err left) (Ok x) ≡ Ok y → (b ≡ false) × (x ≡ y)
guard_ok true left x y e = absurd cc
guard_ok false left x y e = (refl, cc)

pub neither : (a b : Bool) → (a || b) ≡ false → (a ≡ false) × (b ≡ false)
neither true b e = absurd cc
neither false b e = (refl, e)

abbrev pub done : {A : Type 0} → A → Result A ℕ
done x = Ok x

pub ok_is : {A : Type 0} (x y : A) → done x ≡ done y → x ≡ y
ok_is x y e = cc

-- ---- where bytes stand

-- the last bytes of a file
pub record IsEnd (file bytes : List ℕ) : Type 0 where
  pub front : List ℕ
  pub parts : file ≡ front ++ bytes
  pub fits : IsBytes bytes

-- a text was taken from their front
pub record Takes (file bytes text rest : List ℕ) : Type 0 where
  pub parts : bytes ≡ text ++ rest
  pub ended : IsEnd file rest

pub taken : (file bytes text rest : List ℕ) → IsEnd file bytes → bytes ≡ text ++ rest → Takes file bytes text rest
taken file bytes text rest ended parts = record {
  parts = parts;
  ended = record {
    front = ended.front ++ text;
    parts = ended.parts ∙ ap (λ (b : List ℕ). ended.front ++ b) parts ∙ sym (append_assoc ended.front text rest);
    fits = IsBytes-right text rest (subst IsBytes parts ended.fits);
  };
}

pub taken_both : (file a x b y c : List ℕ) → Takes file a x b → Takes file b y c → Takes file a (x ++ y) c
taken_both file a x b y c p q = record { parts = p.parts ∙ ap (λ (t : List ℕ). x ++ t) q.parts ∙ sym (append_assoc x y c); ended = q.ended }

-- ---- words

-- words were taken
abbrev pub Words : List ℕ → List ℕ → List ℕ → List ℕ → Type 0
Words file bytes numbers rest = Takes file bytes (word_bytes numbers) rest

pub no_words : (file bytes : List ℕ) → IsEnd file bytes → Words file bytes [] bytes
no_words file bytes ended = record { parts = ap (λ (b : List ℕ). b ++ bytes) (sym word_bytes-nil); ended = ended }

word_is : (number : ℕ) → word number ≡ word_bytes (number ∷ [])
unfolding word_bytes
word_is number = sym (append-nil (word number))

more_words : (file bytes numbers more rest behind : List ℕ) → Words file bytes numbers rest → Words file rest more behind → Words file bytes (numbers ++ more) behind
more_words file bytes numbers more rest behind p q =
    rw (word_bytes-append numbers more) (taken_both file bytes (word_bytes numbers) rest (word_bytes more) behind p q)

word_alone : (file bytes : List ℕ) (x : ℕ × List ℕ) → IsEnd file bytes → word_at bytes ≡ Ok x → Words file bytes (x.0 ∷ []) x.1 × IsWord x.0
unfolding word_at
word_alone file bytes x ended e =
    let g = guard_ok (ltb (length bytes) 4) (length bytes) (little_number 4 (take 4 bytes), drop 4 bytes) x e in
    let long : 4 ≤ length bytes = ltb-false _ _ g.0 in
    let front = take 4 bytes in
    let four : length front ≡ 4 = omega (arith, length-take 4 bytes) in
    let fits = IsBytes-take 4 bytes ended.fits in
    let whole : front ≡ word (little_number 4 front) =
    word_split front fits (omega arith) ∙ ap (λ (b : List ℕ). word (little_number 4 front) ++ b) (drop_all 4 front (omega arith)) ∙ append-nil (word (little_number 4 front)) in
    let parts : bytes ≡ word_bytes (little_number 4 front ∷ []) ++ drop 4 bytes =
    sym (take-append-drop 4 bytes) ∙ ap (λ (b : List ℕ). b ++ drop 4 bytes) (whole ∙ word_is (little_number 4 front)) in
    let small = number_lt front fits in
    let is_word : IsWord (little_number 4 front) = record { at_least = omega arith; at_most = omega arith } in
    subst (λ (y : ℕ × List ℕ). Words file bytes (y.0 ∷ []) y.1 × IsWord y.0) g.1
    (taken file bytes (word_bytes (little_number 4 front ∷ [])) (drop 4 bytes) ended parts, is_word)

pub word_taken : (file bytes numbers rest : List ℕ) (x : ℕ × List ℕ) → Words file bytes numbers rest → word_at rest ≡ Ok x
    → Words file bytes (numbers ++ x.0 ∷ []) x.1 × IsWord x.0
word_taken file bytes numbers rest x so_far e =
    let one = word_alone file rest x so_far.ended e in
    (more_words file bytes numbers (x.0 ∷ []) rest x.1 so_far one.0, one.1)

pub in_taken : (file bytes numbers rest : List ℕ) (least most : ℕ) (x : ℕ × List ℕ) → Words file bytes numbers rest → word_in least most rest ≡ Ok x
    → Words file bytes (numbers ++ x.0 ∷ []) x.1 × IsWithin least most x.0
unfolding word_in
in_taken file bytes numbers rest least most x so_far e =
    let a = bind_ok (word_at rest) _ x e in
    let g = guard_ok (ltb a.0.0 least || ltb most a.0.0) (length rest) a.0 x a.2 in
    let both = neither (ltb a.0.0 least) (ltb most a.0.0) g.0 in
    let within : IsWithin least most a.0.0 = record { at_least = ltb-false _ _ both.0; at_most = ltb-false _ _ both.1 } in
    subst (λ (y : ℕ × List ℕ). Words file bytes (numbers ++ y.0 ∷ []) y.1 × IsWithin least most y.0) g.1
    ((word_taken file bytes numbers rest a.0 so_far a.1).0, within)

pub if_taken : (file bytes numbers rest : List ℕ) (applies : Bool) (least most : ℕ) (x : ℕ × List ℕ) → Words file bytes numbers rest → word_if applies least most rest ≡ Ok x
    → Words file bytes (numbers ++ x.0 ∷ []) x.1 × IsField applies least most x.0
unfolding word_if
if_taken file bytes numbers rest true least most x so_far e = in_taken file bytes numbers rest least most x so_far e
if_taken file bytes numbers rest false least most x so_far e = in_taken file bytes numbers rest 0 0 x so_far e

pub record Four (file bytes numbers : List ℕ) (x : List ℕ × List ℕ) : Type 0 where
  pub words : Words file bytes (numbers ++ x.0) x.1
  pub four : length x.0 ≡ 4
  pub fit : AllByRecursion IsWord x.0

pub four_taken : (file bytes numbers rest : List ℕ) (x : List ℕ × List ℕ) → Words file bytes numbers rest → four_at rest ≡ Ok x → Four file bytes numbers x
unfolding four_at
four_taken file bytes numbers rest x so_far e =
    step _ _ _ e (λ a ra ea. step _ _ _ ea (λ b rb eb. step _ _ _ eb (λ c rc ec. step _ _ _ ec (λ d rd ed. (
    let t1 = word_taken file rest [] rest a (no_words file rest so_far.ended) ra in
    let t2 = word_taken file rest (a.0 ∷ []) a.1 b t1.0 rb in
    let t3 = word_taken file rest (a.0 ∷ b.0 ∷ []) b.1 c t2.0 rc in
    let t4 = word_taken file rest (a.0 ∷ b.0 ∷ c.0 ∷ []) c.1 d t3.0 rd in
    let four = a.0 ∷ b.0 ∷ c.0 ∷ d.0 ∷ [] in
    let made : List ℕ × List ℕ = (four, d.1) in
    subst (Four file bytes numbers) (ok_is made x ed)
    (record { words = more_words file bytes numbers four rest d.1 so_far t4.0; four = refl; fit = (t1.1, (t2.1, (t3.1, (t4.1, tt)))) })
    )))))

-- ---- rows

-- a row that was read is what its spelling says, and has the form that one has at its place
abbrev pub RowTaken : {A K : Type 0} → List ℕ → (Option K → List ℕ → Found A) → (A → List ℕ) → (Option K → ℕ → A → Type 0) → Type 0
RowTaken {A = A} {K = K} file row spell form =
    (before : Option K) (bytes : List ℕ) (x : A × List ℕ) → IsEnd file bytes → row before bytes ≡ Ok x → Takes file bytes (spell x.0) x.1 × form before (length x.1) x.0

pub record RowsTaken {A K : Type 0} (file : List ℕ) (key : A → K) (spell : A → List ℕ) (form : Option K → ℕ → A → Type 0) (n : ℕ) (before : Option K) (bytes : List ℕ)
    (x : List A × List ℕ) : Type 0 where
  pub takes : Takes file bytes (flat_map spell x.0) x.1
  pub many : length x.0 ≡ n
  pub forms : ArePlaced form key spell (length x.1) before x.0

pub rows_taken : {A K : Type 0} (file : List ℕ) (row : Option K → List ℕ → Found A) (key : A → K) (spell : A → List ℕ) (form : Option K → ℕ → A → Type 0)
    → RowTaken file row spell form → (n : ℕ) (before : Option K) (bytes : List ℕ) (x : List A × List ℕ) → IsEnd file bytes → rows_at row key n before bytes ≡ Ok x
    → RowsTaken file key spell form n before bytes x
unfolding rows_at
rows_taken {A = A} file row key spell form one zero before bytes x ended e =
    let made : List A × List ℕ = ([], bytes) in
    subst (RowsTaken file key spell form zero before bytes) (ok_is made x e) (record { takes = record { parts = refl; ended = ended }; many = refl; forms = tt })
rows_taken {A = A} file row key spell form one (suc n) before bytes x ended e =
    let a = bind_ok (row before bytes) _ x e in
    let b = bind_ok (rows_at row key n (Some (key a.0.0)) a.0.1) _ x a.2 in
    let first = one before bytes a.0 ended a.1 in
    let others = rows_taken file row key spell form one n (Some (key a.0.0)) a.0.1 b.0 first.0.ended b.1 in
    let left : length a.0.1 ≡ length (flat_map spell b.0.0) + length b.0.1 = ap (λ (l : List ℕ). length l) others.takes.parts ∙ length-append (flat_map spell b.0.0) b.0.1 in
    let both = taken_both file bytes (spell a.0.0) a.0.1 (flat_map spell b.0.0) b.0.1 first.0 others.takes in
    let made : List A × List ℕ = (a.0.0 ∷ b.0.0, b.0.1) in
    subst (RowsTaken file key spell form (suc n) before bytes) (ok_is made x b.2) (record {
      takes = subst (λ (text : List ℕ). Takes file bytes text b.0.1) (sym (flat_map-cons spell a.0.0 b.0.0)) both;
      many = ap suc others.many;
      forms = (subst (λ (k : ℕ). form before k a.0.0) left first.1, others.forms);
    })

-- where the form doesn't depend on the place
pub in_order : {A K : Type 0} (form : Option K → A → Type 0) (key : A → K) (spell : A → List ℕ) (left : ℕ) (before : Option K) (xs : List A)
    → ArePlaced (λ before left x. form before x) key spell left before xs → AreInOrder form key before xs
in_order form key spell left before [] forms = tt
in_order form key spell left before (x ∷ xs) forms = (forms.0, in_order form key spell left (Some (key x)) xs forms.1)

-- where it doesn't depend on the order either
all_fit : {A : Type 0} (form : A → Type 0) (spell : A → List ℕ) (left : ℕ) (before : Option ℕ) (xs : List A)
    → ArePlaced (λ before left x. form x) (λ x. 0) spell left before xs → AllByRecursion form xs
all_fit form spell left before [] forms = tt
all_fit form spell left before (x ∷ xs) forms = (forms.0, all_fit form spell left (Some 0) xs forms.1)

pub record ItemsTaken {A : Type 0} (file : List ℕ) (spell : A → List ℕ) (form : A → Type 0) (n : ℕ) (bytes : List ℕ) (x : List A × List ℕ) : Type 0 where
  pub takes : Takes file bytes (flat_map spell x.0) x.1
  pub many : length x.0 ≡ n
  pub forms : AllByRecursion form x.0

pub items_taken : {A : Type 0} (file : List ℕ) (item : List ℕ → Found A) (spell : A → List ℕ) (form : A → Type 0)
    → ((bytes : List ℕ) (x : A × List ℕ) → IsEnd file bytes → item bytes ≡ Ok x → Takes file bytes (spell x.0) x.1 × form x.0)
    → (n : ℕ) (bytes : List ℕ) (x : List A × List ℕ) → IsEnd file bytes → items_at item n bytes ≡ Ok x → ItemsTaken file spell form n bytes x
items_taken {A = A} file item spell form one n bytes x ended e =
    let rows = rows_taken file (λ (before : Option ℕ). item) (λ (y : A). 0) spell (λ (before : Option ℕ) (left : ℕ). form) (λ before b y is r. one b y is r) n None bytes x ended e in
    record { takes = rows.takes; many = rows.many; forms = all_fit form spell (length x.1) None x.0 rows.forms }

-- words, as many as there are to be
pub record Many (file bytes numbers : List ℕ) (n : ℕ) (x : List ℕ × List ℕ) : Type 0 where
  pub words : Words file bytes (numbers ++ x.0) x.1
  pub many : length x.0 ≡ n
  pub fit : AllByRecursion IsWord x.0

word_item : (file bytes : List ℕ) (x : ℕ × List ℕ) → IsEnd file bytes → word_at bytes ≡ Ok x → Takes file bytes (word x.0) x.1 × IsWord x.0
word_item file bytes x ended e =
    let one = word_alone file bytes x ended e in
    (subst (λ (text : List ℕ). Takes file bytes text x.1) (sym (word_is x.0)) one.0, one.1)

words_are : (numbers : List ℕ) → flat_map word numbers ≡ word_bytes numbers
unfolding word_bytes
words_are numbers = refl

pub many_taken : (file bytes numbers rest : List ℕ) (n : ℕ) (x : List ℕ × List ℕ) → Words file bytes numbers rest → items_at word_at n rest ≡ Ok x → Many file bytes numbers n x
many_taken file bytes numbers rest n x so_far e =
    let items = items_taken file word_at word IsWord (word_item file) n rest x so_far.ended e in
    record {
      words = more_words file bytes numbers x.0 rest x.1 so_far (subst (λ (text : List ℕ). Takes file rest text x.1) (words_are x.0) items.takes);
      many = items.many;
      fit = items.forms;
    }
