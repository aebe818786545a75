-- Bytes are told by marks and no others are: from marked bytes they can be read again, where it is known how many they are.
use Rattle.std.proofs.Common.{◌≡◌, ◌≤◌, ◌<◌, ◌+◌, ◌*◌, ◌/◌, ◌==◌, ◌&&◌, ◌∙◌, ℕ, zero, suc, Bool, true, false, List, [], ◌∷◌, ◌++◌, length, take, drop, replicate, refl, sym, ap, append_assoc, arith, if◌then◌else◌, bit_or, get_or}
use Rattle.std.specs.List.{flat_map, list_all}
use Rattle.std.specs.Simd.{first_chunks}
use Rattle.std.proofs.Math.Seq.{drop-append_seam, take-append_seam, take-suc}
use Rattle.std.proofs.lemmas.List.Folds.{list_all-append}
use Rattle.std.proofs.lemmas.Nat.{le_or_l}
use Rattle.std.proofs.lemmas.Bool.{false≢true}
use Rattle.std.proofs.lemmas.Bool.Decides.{nat_tests}
use Rattle.std.proofs.lemmas.List.{drop-drop, length-drop, take-append-drop}
use Rattle.std.proofs.lemmas.List.Concat.{flat_map-cons}
use Rattle.order_search.specs.Marks.{block_bytes, block_size, is_zeros, marked}

-- two lists that begin with as many elements
pub same_front : (a b x y : List ℕ) → length a ≡ length b → a ++ x ≡ b ++ y → (a ≡ b) × (x ≡ y)
same_front a b x y long same = (
  sym (take-append_seam a x) ∙ ((λ i. take (long i) (same i)) ∙ take-append_seam b y),
  sym (drop-append_seam a x) ∙ ((λ i. drop (long i) (same i)) ∙ drop-append_seam b y),
)

-- ---- blocks

-- bits are all 0 in two numbers where they are in both together
or_zero : (a b : ℕ) → (bit_or a b == 0) ≡ ((a == 0) && (b == 0))
or_zero zero b = refl
or_zero (suc a) b = let some : suc a ≤ bit_or (suc a) b = le_or_l (suc a) b in grind (arith, nat_tests, some)

-- one more byte
pub zeros_more : (block : List ℕ) (k all byte : ℕ) (d : ℕ) → k < length block → (all == 0) ≡ is_zeros (take k block) → byte ≡ get_or block k d
    → (bit_or all byte == 0) ≡ is_zeros (take (k + 1) block)
zeros_more block k all byte d low so_far is =
    let next : k + 1 ≡ suc k = omega arith in
    let further : take (k + 1) block ≡ take k block ++ get_or block k d ∷ [] = ap (λ (n : ℕ). take n block) next ∙ take-suc block k d low in
    or_zero all byte
    ∙ ((λ i. so_far i && (is i == 0))
    ∙ (here (list_all (λ (b : ℕ). b == 0) (take k block)) (get_or block k d == 0)
    ∙ (sym (list_all-append (λ (b : ℕ). b == 0) (take k block) (get_or block k d ∷ []))
    ∙ ap is_zeros (sym further))))
  where
    here : (p q : Bool) → (p && q) ≡ (p && (q && true))
    here true true = refl
    here true false = refl
    here false q = refl

zeros_are : (block : List ℕ) → is_zeros block ≡ true → block ≡ replicate (length block) 0
zeros_are [] all = refl
zeros_are (zero ∷ block) all = ap (λ (xs : List ℕ). 0 ∷ xs) (zeros_are block all)
zeros_are (suc n ∷ block) all =
    let some : (suc n == 0) ≡ false = grind (arith, nat_tests) in
    absurd (false≢true (ap (λ (b : Bool). b && is_zeros block) (sym some) ∙ all))

same_zeros : (a b : List ℕ) → length a ≡ length b → is_zeros a ≡ true → is_zeros b ≡ true → a ≡ b
same_zeros a b long all all' = zeros_are a all ∙ (ap (λ (n : ℕ). replicate n 0) long ∙ sym (zeros_are b all'))

-- a block and what follows it are read from its mark on
block_tells : (a b x y : List ℕ) → length a ≡ length b → block_bytes a ++ x ≡ block_bytes b ++ y → (a ≡ b) × (x ≡ y)
unfolding block_bytes
block_tells a b x y long same = go (is_zeros a) (is_zeros b) refl refl same
  where
    go : (p q : Bool) → is_zeros a ≡ p → is_zeros b ≡ q
        → (if p then 0 ∷ [] else 1 ∷ a) ++ x ≡ (if q then 0 ∷ [] else 1 ∷ b) ++ y → (a ≡ b) × (x ≡ y)
    go true true e f same = (same_zeros a b long e f, ap (drop 1) same)
    go true false e f same = absurd (cc)
    go false true e f same = absurd (cc)
    go false false e f same = same_front a b x y long (ap (drop 1) same)

length_taken : (n : ℕ) (a b : List ℕ) → length a ≡ length b → length (take n a) ≡ length (take n b)
length_taken zero a b long = refl
length_taken (suc n) [] [] long = refl
length_taken (suc n) [] (y ∷ b) long = absurd (omega (arith, long))
length_taken (suc n) (x ∷ a) [] long = absurd (omega (arith, long))
length_taken (suc n) (x ∷ a) (y ∷ b) long = ap suc (length_taken n a b (omega (arith, long)))

module _ (size : ℕ) where
  abbrev told : ℕ → List ℕ → List ℕ → List ℕ
  told k a x = flat_map block_bytes (first_chunks size k a) ++ (drop (k * size) a ++ x)

  one_more : (k : ℕ) (a x : List ℕ) → told (suc k) a x ≡ block_bytes (take size a) ++ told k (drop size a) x
  one_more k a x =
      let behind : drop (suc k * size) a ≡ drop (k * size) (drop size a) =
      ap (λ (m : ℕ). drop m a) (omega arith) ∙ sym (drop-drop (k * size) size a) in
      (λ i. flat_map-cons block_bytes (take size a) (first_chunks size k (drop size a)) i ++ (behind i ++ x))
      ∙ append_assoc (block_bytes (take size a)) (flat_map block_bytes (first_chunks size k (drop size a))) (drop (k * size) (drop size a) ++ x)

  told_once : (k : ℕ) (a b x y : List ℕ) → length a ≡ length b → told k a x ≡ told k b y → (a ≡ b) × (x ≡ y)
  told_once zero a b x y long same =
      let none : 0 * size ≡ 0 = omega arith in
      same_front a b x y long (ap (λ (m : ℕ). drop m a ++ x) (sym none) ∙ (same ∙ ap (λ (m : ℕ). drop m b ++ y) none))
  told_once (suc k) a b x y long same =
      let here : block_bytes (take size a) ++ told k (drop size a) x ≡ block_bytes (take size b) ++ told k (drop size b) y =
      sym (one_more k a x) ∙ (same ∙ one_more k b y) in
      let block = block_tells (take size a) (take size b) (told k (drop size a) x) (told k (drop size b) y) (length_taken size a b long) here in
      let short : length (drop size a) ≡ length (drop size b) = omega (arith, long, length-drop size a, length-drop size b) in
      let rest = told_once k (drop size a) (drop size b) x y short block.1 in
      (sym (take-append-drop size a) ∙ ((λ i. block.0 i ++ rest.0 i) ∙ take-append-drop size b), rest.1)

-- **Marks tell bytes**: those that are as many and told alike, whatever follows, are the same.
pub marks_tell : (a b x y : List ℕ) → length a ≡ length b → marked a ++ x ≡ marked b ++ y → (a ≡ b) × (x ≡ y)
unfolding marked
marks_tell a b x y long same =
    let k : ℕ = length a / block_size in
    let one : (flat_map block_bytes (first_chunks block_size k a) ++ drop (k * block_size) a) ++ x ≡ told block_size k a x =
    append_assoc (flat_map block_bytes (first_chunks block_size k a)) (drop (k * block_size) a) x in
    let other : (flat_map block_bytes (first_chunks block_size k b) ++ drop (k * block_size) b) ++ y ≡ told block_size k b y =
    append_assoc (flat_map block_bytes (first_chunks block_size k b)) (drop (k * block_size) b) y in
    let alike : marked b ≡ flat_map block_bytes (first_chunks block_size k b) ++ drop (k * block_size) b =
    ap (λ (n : ℕ). flat_map block_bytes (first_chunks block_size (n / block_size) b) ++ drop (n / block_size * block_size) b) (sym long) in
    told_once block_size k a b x y long (sym one ∙ (same ∙ (ap (λ (m : List ℕ). m ++ y) alike ∙ other)))

-- ---- bytes that are written

-- a block of zeros, and another
pub zero_bytes : (block bytes more : List ℕ) (told : Bool) → told ≡ is_zeros block → told ≡ true → more ≡ bytes ++ 0 ∷ []
    → more ≡ bytes ++ block_bytes block
unfolding block_bytes
zero_bytes block bytes more told is all added =
    added ∙ ap (λ (b : Bool). bytes ++ (if b then 0 ∷ [] else 1 ∷ block)) (sym all ∙ is)

pub some_bytes : (block bytes next more : List ℕ) (told : Bool) → told ≡ is_zeros block → told ≡ false → next ≡ bytes ++ 1 ∷ []
    → more ≡ next ++ block → more ≡ bytes ++ block_bytes block
unfolding block_bytes
some_bytes block bytes next more told is some mark added =
    added ∙ (ap (λ (b : List ℕ). b ++ block) mark
    ∙ (append_assoc bytes (1 ∷ []) block
    ∙ ap (λ (b : Bool). bytes ++ (if b then 0 ∷ [] else 1 ∷ block)) (sym some ∙ is)))

-- all blocks, and the bytes behind them
pub all_bytes : (of bytes next more rest : List ℕ) (blocks : List (List ℕ)) → blocks ≡ first_chunks block_size (length of / block_size) of
    → rest ≡ drop (length of / block_size * block_size) of → next ≡ bytes ++ flat_map block_bytes blocks → more ≡ next ++ rest
    → more ≡ bytes ++ marked of
unfolding marked
all_bytes of bytes next more rest blocks front back told added =
    added ∙ ((λ i. told i ++ rest)
    ∙ (append_assoc bytes (flat_map block_bytes blocks) rest
    ∙ (λ i. bytes ++ (flat_map block_bytes (front i) ++ back i))))
