-- Words are arguments in one way alone.
use Rattle.std.proofs.Common.{◌≡◌, ◌∙◌, ℕ, Bool, true, false, List, [], ◌∷◌, ◌++◌, append_assoc, arith, length, IfNone, Option, None, Some, refl, sym, ap, subst}
use Rattle.std.specs.Prelude.{◌&&◌, ◌||◌, not, string_bytes}
use Rattle.std.specs.List.{AllByRecursion, flat_map, list_all, list_any}
use Rattle.std.specs.Str.{bytes_eq}
use Rattle.std.specs.declared.string.String.{String}
use Rattle.std.specs.declared.alloc.Global.{Global}
use Rattle.std.proofs.lemmas.Bool.{false≢true}
use Rattle.std.proofs.lemmas.Slice.Eq.{bytes_eq-Decides}
use Rattle.order_words.specs.Arguments.{Alone, AreArguments, Arg, IsArgument, Name, Valued, has_value, is_one_of, is_option, options_alone, options_with_value, spelled, stands_alone, texts}

-- ---- the kinds of words

and_first : (a b : Bool) → (a && b) ≡ true → a ≡ true
and_first true b e = refl
and_first false b e = e

and_second : (a b : Bool) → (a && b) ≡ true → b ≡ true
and_second true b e = e
and_second false b e = absurd (false≢true e)

-- what holds of each of these texts holds of a word that is one of them
one_of_all : (P : List ℕ → Bool) (ts : List (List ℕ)) (word : List ℕ) → list_all P ts ≡ true → is_one_of ts word ≡ true → P word ≡ true
one_of_all P [] word all is = absurd (false≢true is)
one_of_all P (t ∷ ts) word all is = go (bytes_eq word t) refl is (one_of_all P ts word (and_second (P t) (list_all P ts) all))
  where
    go : (b : Bool) → bytes_eq word t ≡ b → (b || list_any (bytes_eq word) ts) ≡ true → (list_any (bytes_eq word) ts ≡ true → P word ≡ true)
        → P word ≡ true
    go true e one rest = ap P ((bytes_eq-Decides word t).0 e) ∙ and_first (P t) (list_all P ts) all
    go false e one rest = rest one

valued_is_option : (word : List ℕ) → has_value word ≡ true → is_option word ≡ true
valued_is_option word has = one_of_all is_option options_with_value word refl has

alone_is_option : (word : List ℕ) → stands_alone word ≡ true → is_option word ≡ true
alone_is_option word is = one_of_all is_option options_alone word refl is

pub valued_not_alone : (word : List ℕ) → has_value word ≡ true → stands_alone word ≡ true → ⊥
valued_not_alone word has is =
    let e : not (stands_alone word) ≡ true = one_of_all (λ w. not (stands_alone w)) options_with_value word refl has in
    false≢true (ap not (sym is) ∙ e)

pub valued_not_name : (word : List ℕ) → has_value word ≡ true → is_option word ≡ false → ⊥
valued_not_name word has is = false≢true (sym is ∙ valued_is_option word has)

pub alone_not_name : (word : List ℕ) → stands_alone word ≡ true → is_option word ≡ false → ⊥
alone_not_name word alone is = false≢true (sym is ∙ alone_is_option word alone)

-- ---- one way alone

at : (P : List ℕ → Bool) (b : Bool) (m n : List ℕ) → m ≡ n → P m ≡ b → P n ≡ b
at P b m n e h = ap P (sym e) ∙ h

same_head : (a b : Arg) (xs ys : List (List ℕ)) → IsArgument a → IsArgument b → spelled a ++ xs ≡ spelled b ++ ys → (a ≡ b) × (xs ≡ ys)
same_head (Name m) (Name n) xs ys u v e =
    let h : m ≡ n = cc in let t : xs ≡ ys = cc in (ap Name h, t)
same_head (Name m) (Alone n) xs ys u v e =
    let h : m ≡ n = cc in absurd (alone_not_name n v (at is_option false m n h u))
same_head (Name m) (Valued n w) xs ys u v e =
    let h : m ≡ n = cc in absurd (valued_not_name n v (at is_option false m n h u))
same_head (Alone m) (Name n) xs ys u v e =
    let h : m ≡ n = cc in absurd (alone_not_name n (at stands_alone true m n h u) v)
same_head (Alone m) (Alone n) xs ys u v e =
    let h : m ≡ n = cc in let t : xs ≡ ys = cc in (ap Alone h, t)
same_head (Alone m) (Valued n w) xs ys u v e =
    let h : m ≡ n = cc in absurd (valued_not_alone n v (at stands_alone true m n h u))
same_head (Valued m l) (Name n) xs ys u v e =
    let h : m ≡ n = cc in absurd (valued_not_name n (at has_value true m n h u) v)
same_head (Valued m l) (Alone n) xs ys u v e =
    let h : m ≡ n = cc in absurd (valued_not_alone n (at has_value true m n h u) v)
same_head (Valued m l) (Valued n w) xs ys u v e =
    let h : m ≡ n = cc in let k : l ≡ w = cc in let t : xs ≡ ys = cc in ((λ i. Valued (h i) (k i)), t)

no_words : (a : Arg) (xs : List (List ℕ)) → [] ≡ spelled a ++ xs → ⊥
no_words (Name m) xs e = cc
no_words (Alone m) xs e = cc
no_words (Valued m l) xs e = cc

pub same_arguments : (args brgs : List Arg) (words : List (List ℕ)) → AreArguments args words → AreArguments brgs words → args ≡ brgs
same_arguments [] [] words are bre = refl
same_arguments [] (b ∷ brgs) words are bre = absurd (no_words b (flat_map spelled brgs) (sym are.whole ∙ bre.whole))
same_arguments (a ∷ args) [] words are bre = absurd (no_words a (flat_map spelled args) (sym bre.whole ∙ are.whole))
same_arguments (a ∷ args) (b ∷ brgs) words are bre =
    let one = same_head a b (flat_map spelled args) (flat_map spelled brgs) are.each.0 bre.each.0 (sym are.whole ∙ bre.whole) in
    let rest = same_arguments args brgs (flat_map spelled brgs) (record { each = are.each.1; whole = sym one.1 }) (record { each = bre.each.1; whole = refl }) in
    λ i. one.0 i ∷ rest i

-- the words behind arguments are arguments, where all are
pub rest_are : (front : List Arg) (rest : List (List ℕ)) (args : List Arg) (words : List (List ℕ)) → AllByRecursion IsArgument front
    → words ≡ flat_map spelled front ++ rest → AreArguments args words → (more : List Arg) × AreArguments more rest
rest_are [] rest args words all e are = (args, subst (AreArguments args) e are)
rest_are (a ∷ front) rest [] words all e are =
    absurd (no_words a (flat_map spelled front ++ rest) (sym are.whole ∙ e ∙ append_assoc (spelled a) (flat_map spelled front) rest))
rest_are (a ∷ front) rest (b ∷ args) words all e are =
    let one = same_head a b (flat_map spelled front ++ rest) (flat_map spelled args) all.0 are.each.0
    (sym (append_assoc (spelled a) (flat_map spelled front) rest) ∙ sym e ∙ are.whole) in
    rest_are front rest args (flat_map spelled args) all.1 (sym one.1) (record { each = are.each.1; whole = refl })

-- ---- words that begin no argument

-- an option that has a value, without one
pub no_value : (word : List ℕ) (args : List Arg) → has_value word ≡ true → AreArguments args (word ∷ []) → ⊥
no_value word [] has are = no_list word [] are.whole
  where
    no_list : (w : List ℕ) (ws : List (List ℕ)) → w ∷ ws ≡ [] → ⊥
    no_list w ws e = cc
no_value word (Name m ∷ args) has are = let h : word ≡ m = (let e = are.whole in cc) in valued_not_name m (at has_value true word m h has) are.each.0
no_value word (Alone m ∷ args) has are = let h : word ≡ m = (let e = are.whole in cc) in valued_not_alone m (at has_value true word m h has) are.each.0
no_value word (Valued m l ∷ args) has are = (let e = are.whole in cc)

-- an option that is unknown
pub unknown : (word : List ℕ) (rest : List (List ℕ)) (args : List Arg) → has_value word ≡ false → stands_alone word ≡ false → is_option word ≡ true
    → AreArguments args (word ∷ rest) → ⊥
unknown word rest [] has alone is are = (let e = are.whole in cc)
unknown word rest (Name m ∷ args) has alone is are =
    let h : word ≡ m = (let e = are.whole in cc) in false≢true (sym are.each.0 ∙ at is_option true word m h is)
unknown word rest (Alone m ∷ args) has alone is are =
    let h : word ≡ m = (let e = are.whole in cc) in false≢true (sym (at stands_alone false word m h alone) ∙ are.each.0)
unknown word rest (Valued m l ∷ args) has alone is are =
    let h : word ≡ m = (let e = are.whole in cc) in false≢true (sym (at has_value false word m h has) ∙ are.each.0)

no_texts : (rest : List (String Global)) → length rest ≡ 0 → texts rest ≡ []
no_texts [] none = refl
no_texts (word ∷ rest) none = absurd (omega arith)

-- the option is the last word
pub no_value_behind : (text : List ℕ) (word : String Global) (rest : List (String Global)) (args : List Arg) → text ≡ string_bytes word → has_value text ≡ true
    → length rest ≡ 0 → AreArguments args (texts (word ∷ rest)) → ⊥
no_value_behind text word rest args is has none are =
    no_value (string_bytes word) args (at has_value true text (string_bytes word) is has)
    (subst (λ (ws : List (List ℕ)). AreArguments args (string_bytes word ∷ ws)) (no_texts rest none) are)

pub if_none : {T : Type 0} (r : Option T) (P : Type 0) → P → IfNone r P
if_none None P h = h
if_none (Some x) P h = tt

-- the option is unknown
pub unknown_behind : (text : List ℕ) (word : String Global) (rest : List (String Global)) (args : List Arg) → text ≡ string_bytes word → has_value text ≡ false
    → stands_alone text ≡ false → is_option text ≡ true → AreArguments args (texts (word ∷ rest)) → ⊥
unknown_behind text word rest args same has alone is are =
    unknown (string_bytes word) (texts rest) args (at has_value false text (string_bytes word) same has)
    (at stands_alone false text (string_bytes word) same alone) (at is_option true text (string_bytes word) same is) are
