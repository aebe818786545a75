-- The register after eight bytes at once, by what zero bytes make of each byte.
use Rattle.std.proofs.Common.{◌≡◌, ℕ, zero, suc, ◌+◌, ◌*◌, ◌/◌, ◌%◌, ◌<◌, List, [], ◌∷◌, ◌++◌, length, take, drop, get_or, refl, sym, ap, ap₂, ◌∙◌, arith, bit_xor, inl, inr, map, drop-cons, add-one}
use Rattle.std.specs.Prelude.{All}
use Rattle.std.specs.List.{flat_map}
use Rattle.std.specs.Simd.{first_chunks}
use Rattle.std.specs.Int.Bits.{xor_assoc, xor_zero_r, xor_self}
use Rattle.std.proofs.lemmas.Nat.{xor_shr, xor_comm, xor_lt}
use Rattle.std.proofs.lemmas.Bool.Decides.{eqb_tells}
use Rattle.std.proofs.lemmas.List.{drop_all, drop-drop, get_or-map, take-append-drop}
use Rattle.std.proofs.lemmas.List.Elements.{All-from_get_or}
use Rattle.std.proofs.lemmas.List.Concat.{flat_map-cons}
use Rattle.std.proofs.lemmas.Grind.{flat_map-append}
use Rattle.kernel_args.specs.CheckNumber.{bits, register_after, shifted}
use Rattle.kernel_args.specs.declared.check_tables.TheConstants.{AFTER_ONE, AFTER_TWO, AFTER_THREE, AFTER_FOUR, AFTER_FIVE, AFTER_SIX, AFTER_SEVEN, AFTER_EIGHT}
use Rattle.kernel_args.proofs.TableLemmas.{third_apart, parity_of, in_table, zeros_by_parts, byte_mixed_in}
use Rattle.kernel_args.proofs.CheckLemmas.{register_after-append}

-- what two registers share falls out of their sum
shared_falls_out : (a b p : ℕ) → bit_xor (bit_xor a p) (bit_xor b p) ≡ bit_xor a b
shared_falls_out a b p =
    sym (xor_assoc (bit_xor a p) b p) ∙ ap (λ (n : ℕ). bit_xor n p) (third_apart a p b)
    ∙ xor_assoc (bit_xor a b) p p ∙ ap (bit_xor (bit_xor a b)) (xor_self p) ∙ xor_zero_r (bit_xor a b)

-- a step over a zero keeps sums
shifted_apart : (a b : ℕ) → shifted (bit_xor a b) 0 ≡ bit_xor (shifted a 0) (shifted b 0)
shifted_apart a b =
    let parity : bit_xor a b % 2 ≡ (a % 2 + b % 2) % 2 = parity_of a b in
    let half : bit_xor a b / 2 ≡ bit_xor (a / 2) (b / 2) = xor_shr a b 1 in
    elim (eqb_tells (a % 2) 0) [
      | inl f ↦
          elim (eqb_tells (b % 2) 0) [
            | inl s ↦ let even : bit_xor a b % 2 ≡ 0 = omega (arith, f.1, s.1) in rw (f.0, s.0, even, half) refl
            | inr s ↦
                let odd : bit_xor a b % 2 ≡ 1 = omega (arith, f.1, s.1) in
                rw (f.0, s.0, odd, half) (xor_assoc (a / 2) (b / 2) 0x8408)
          ]
      | inr f ↦
          elim (eqb_tells (b % 2) 0) [
            | inl s ↦
                let odd : bit_xor a b % 2 ≡ 1 = omega (arith, f.1, s.1) in
                rw (f.0, s.0, odd, half) (third_apart (a / 2) (b / 2) 0x8408)
            | inr s ↦
                let even : bit_xor a b % 2 ≡ 0 = omega (arith, f.1, s.1) in
                rw (f.0, s.0, even, half) (sym (shared_falls_out (a / 2) (b / 2) 0x8408))
          ]
    ]

zeros_apart : (k a b : ℕ) → register_after (bit_xor a b) (bits k 0) ≡ bit_xor (register_after a (bits k 0)) (register_after b (bits k 0))
unfolding bits
zeros_apart zero a b = refl
zeros_apart (suc k) a b = ap (λ (n : ℕ). register_after n (bits k 0)) (shifted_apart a b) ∙ zeros_apart k (shifted a 0) (shifted b 0)

-- the register after k zero bytes
unfoldable pub zero_bytes : ℕ → ℕ → ℕ
zero_bytes zero r = r
zero_bytes (suc k) r = zero_bytes k (register_after r (bits 8 0))

zero_bytes_apart : (k a b : ℕ) → zero_bytes k (bit_xor a b) ≡ bit_xor (zero_bytes k a) (zero_bytes k b)
unfolding zero_bytes
zero_bytes_apart zero a b = refl
zero_bytes_apart (suc k) a b = ap (zero_bytes k) (zeros_apart 8 a b) ∙ zero_bytes_apart k (register_after a (bits 8 0)) (register_after b (bits 8 0))

one_zero_byte_more : (k r : ℕ) → zero_bytes (suc k) r ≡ register_after (zero_bytes k r) (bits 8 0)
unfolding zero_bytes
one_zero_byte_more zero r = refl
one_zero_byte_more (suc k) r = one_zero_byte_more k (register_after r (bits 8 0))

-- ---- the tables

-- a table of a zero byte more, from a table
abbrev one_more : ℕ → ℕ
one_more z = bit_xor (z / 256) (get_or AFTER_ONE (z % 256) 0)

one_more_is : (z : ℕ) → one_more z ≡ register_after z (bits 8 0)
one_more_is z =
    let low : z % 256 < 256 = omega arith in
    ap (bit_xor (z / 256)) (in_table (z % 256) low) ∙ sym (zeros_by_parts z)

-- the table has 256 words, and each is what k zero bytes make of its place
abbrev pub IsTable : ℕ → List ℕ → Type 0
IsTable k table = (length table ≡ 256) × ((i : ℕ) → i < 256 → get_or table i 0 ≡ zero_bytes k i)

next_table : (k : ℕ) (table more : List ℕ) → IsTable k table → length more ≡ 256 → more ≡ map one_more table → IsTable (suc k) more
next_table k table more is long made = (
  long,
  λ i lt.
      let here : i < length table = omega (arith, is.0) in
      ap (λ (xs : List ℕ). get_or xs i 0) made ∙ get_or-map one_more table i 0 0 here ∙ one_more_is (get_or table i 0)
      ∙ ap (λ (n : ℕ). register_after n (bits 8 0)) (is.1 i lt) ∙ sym (one_zero_byte_more k i),
)

table_one : IsTable 1 AFTER_ONE
unfolding zero_bytes
table_one = (refl, in_table)

table_two : IsTable 2 AFTER_TWO
table_two = next_table 1 AFTER_ONE AFTER_TWO table_one refl refl

table_three : IsTable 3 AFTER_THREE
table_three = next_table 2 AFTER_TWO AFTER_THREE table_two refl refl

table_four : IsTable 4 AFTER_FOUR
table_four = next_table 3 AFTER_THREE AFTER_FOUR table_three refl refl

table_five : IsTable 5 AFTER_FIVE
table_five = next_table 4 AFTER_FOUR AFTER_FIVE table_four refl refl

table_six : IsTable 6 AFTER_SIX
table_six = next_table 5 AFTER_FIVE AFTER_SIX table_five refl refl

pub table_seven : IsTable 7 AFTER_SEVEN
table_seven = next_table 6 AFTER_SIX AFTER_SEVEN table_six refl refl

pub table_eight : IsTable 8 AFTER_EIGHT
table_eight = next_table 7 AFTER_SEVEN AFTER_EIGHT table_seven refl refl

-- ---- eight bytes

-- each byte mixed into m as the zero bytes from it to the end make it
unfoldable mixed_bytes : ℕ → List ℕ → ℕ
mixed_bytes m [] = m
mixed_bytes m (b ∷ bs) = mixed_bytes (bit_xor m (zero_bytes (suc (length bs)) b)) bs

by_bytes : (r : ℕ) (bs : List ℕ) → All (λ b. b < 256) bs → register_after r (flat_map (bits 8) bs) ≡ mixed_bytes (zero_bytes (length bs) r) bs
unfolding zero_bytes mixed_bytes
by_bytes r [] fit = refl
by_bytes r (b ∷ bs) fit =
    let mixed : ℕ = bit_xor r b in
    let first : b < 256 = fit 0 0 (omega arith) in
    let others : All (λ x. x < 256) bs = λ k d lt. fit (suc k) d (omega arith) in
    ap (register_after r) (flat_map-cons (bits 8) b bs) ∙ register_after-append r (bits 8 b) (flat_map (bits 8) bs)
    ∙ ap (λ (n : ℕ). register_after n (flat_map (bits 8) bs)) (sym (byte_mixed_in r b first))
    ∙ by_bytes (register_after mixed (bits 8 0)) bs others
    ∙ ap (λ (n : ℕ). mixed_bytes n bs) (zero_bytes_apart (suc (length bs)) r b)

-- the elements from place i on, n of them
abbrev places : ℕ → ℕ → List ℕ → List ℕ
places i zero xs = []
places i (suc n) xs = get_or xs i 0 ∷ places (suc i) n xs

by_places : (i n : ℕ) (xs : List ℕ) → i + n ≡ length xs → drop i xs ≡ places i n xs
by_places i zero xs all = drop_all i xs (omega (arith, all))
by_places i (suc n) xs all =
    let lt : i < length xs = omega (arith, all) in
    drop-cons xs i 0 lt ∙ ap (λ (ys : List ℕ). get_or xs i 0 ∷ ys) (by_places (suc i) n xs (omega (arith, all)))

-- zero bytes go over the low byte of a register; the high one comes down over the first of them
pub zero_bytes_by_parts : (k r : ℕ) → zero_bytes (suc k) r ≡ bit_xor (zero_bytes (suc k) (r % 256)) (zero_bytes k (r / 256))
unfolding zero_bytes
zero_bytes_by_parts k r =
    ap (zero_bytes k) (zeros_by_parts r) ∙ zero_bytes_apart k (r / 256) (register_after (r % 256) (bits 8 0))
    ∙ xor_comm (zero_bytes k (r / 256)) (zero_bytes (suc k) (r % 256))

-- the register's two bytes are mixed into the first two
front_by_tables : (r b c : ℕ) → r < 65536 → b < 256 → c < 256
    → bit_xor (get_or AFTER_EIGHT (bit_xor (r % 256) b) 0) (get_or AFTER_SEVEN (bit_xor (r / 256) c) 0)
    ≡ bit_xor (bit_xor (zero_bytes 8 r) (zero_bytes 8 b)) (zero_bytes 7 c)
front_by_tables r b c r_fits b_fits c_fits =
    let low : bit_xor (r % 256) b < 256 = xor_lt 8 (r % 256) b (omega arith) (omega arith) in
    let high : bit_xor (r / 256) c < 256 = xor_lt 8 (r / 256) c (omega arith) (omega arith) in
    let l : ℕ = zero_bytes 8 (r % 256) in
    let h : ℕ = zero_bytes 7 (r / 256) in
    let parts : zero_bytes 8 r ≡ bit_xor l h = zero_bytes_by_parts 7 r in
    ap₂ bit_xor (table_eight.1 (bit_xor (r % 256) b) low ∙ zero_bytes_apart 8 (r % 256) b) (table_seven.1 (bit_xor (r / 256) c) high ∙ zero_bytes_apart 7 (r / 256) c)
    ∙ sym (xor_assoc (bit_xor l (zero_bytes 8 b)) h (zero_bytes 7 c))
    ∙ ap (λ (n : ℕ). bit_xor n (zero_bytes 7 c)) (third_apart l (zero_bytes 8 b) h ∙ ap (λ (n : ℕ). bit_xor n (zero_bytes 8 b)) (sym parts))

pub after_group_by_tables : (r : ℕ) (xs : List ℕ) → r < 65536 → length xs ≡ 8 → ((i : ℕ) → i < length xs → get_or xs i 0 < 256)
    → bit_xor (bit_xor (bit_xor (bit_xor (bit_xor (bit_xor (bit_xor
    (get_or AFTER_EIGHT (bit_xor (r % 256) (get_or xs 0 0)) 0)
    (get_or AFTER_SEVEN (bit_xor (r / 256) (get_or xs 1 0)) 0))
    (get_or AFTER_SIX (get_or xs 2 0) 0))
    (get_or AFTER_FIVE (get_or xs 3 0) 0))
    (get_or AFTER_FOUR (get_or xs 4 0) 0))
    (get_or AFTER_THREE (get_or xs 5 0) 0))
    (get_or AFTER_TWO (get_or xs 6 0) 0))
    (get_or AFTER_ONE (get_or xs 7 0) 0)
    ≡ register_after r (flat_map (bits 8) xs)
unfolding mixed_bytes
after_group_by_tables r xs r_fits eight fit =
    let at : (i : ℕ) → i < 8 → get_or xs i 0 < 256 = λ i lt. fit i (omega (arith, eight)) in
    let front = front_by_tables r (get_or xs 0 0) (get_or xs 1 0) r_fits (at 0 (omega arith)) (at 1 (omega arith)) in
    let listed : xs ≡ places 0 8 xs = by_places 0 8 xs (sym eight) in
    ap₂ bit_xor (ap₂ bit_xor (ap₂ bit_xor (ap₂ bit_xor (ap₂ bit_xor (ap₂ bit_xor front
    (table_six.1 (get_or xs 2 0) (at 2 (omega arith)))) (table_five.1 (get_or xs 3 0) (at 3 (omega arith))))
    (table_four.1 (get_or xs 4 0) (at 4 (omega arith)))) (table_three.1 (get_or xs 5 0) (at 5 (omega arith))))
    (table_two.1 (get_or xs 6 0) (at 6 (omega arith)))) (table_one.1 (get_or xs 7 0) (at 7 (omega arith)))
    ∙ ap (λ (ys : List ℕ). mixed_bytes (zero_bytes (length ys) r) ys) (sym listed)
    ∙ sym (by_bytes r xs (All-from_get_or (λ b. b < 256) xs 0 fit))

-- ---- groups of a slice

-- one more group of groups
pub one_more_group : (r total i : ℕ) (groups : List (List ℕ)) → i < length groups → register_after r (flat_map (flat_map (bits 8)) (drop i groups)) ≡ total
    → register_after (register_after r (flat_map (bits 8) (get_or groups i []))) (flat_map (flat_map (bits 8)) (drop (i + 1) groups)) ≡ total
one_more_group r total i groups lt h =
    let split : drop i groups ≡ get_or groups i [] ∷ drop (i + 1) groups = rw (add-one, drop-cons groups i []) refl in
    let group : List ℕ = get_or groups i [] in
    let joined : flat_map (flat_map (bits 8)) (drop i groups) ≡ flat_map (bits 8) group ++ flat_map (flat_map (bits 8)) (drop (i + 1) groups) = ap (flat_map (flat_map (bits 8))) split ∙ flat_map-cons (flat_map (bits 8)) group (drop (i + 1) groups) in
    sym (register_after-append r (flat_map (bits 8) group) (flat_map (flat_map (bits 8)) (drop (i + 1) groups))) ∙ ap (register_after r) (sym joined) ∙ h

-- groups of n, and then what they leave, are the whole
pub groups_and_rest : (n k r : ℕ) (xs : List ℕ)
    → register_after (register_after r (flat_map (flat_map (bits 8)) (first_chunks n k xs))) (flat_map (bits 8) (drop (k * n) xs)) ≡ register_after r (flat_map (bits 8) xs)
groups_and_rest n zero r xs = let none : 0 * n ≡ 0 = omega arith in ap (λ (m : ℕ). register_after r (flat_map (bits 8) (drop m xs))) none
groups_and_rest n (suc k) r xs =
    let group : List ℕ = take n xs in
    let others : List ℕ = drop n xs in
    let behind : drop (suc k * n) xs ≡ drop (k * n) others = ap (λ (m : ℕ). drop m xs) (omega arith) ∙ sym (drop-drop (k * n) n xs) in
    let front : register_after r (flat_map (flat_map (bits 8)) (first_chunks n (suc k) xs)) ≡ register_after (register_after r (flat_map (bits 8) group)) (flat_map (flat_map (bits 8)) (first_chunks n k others)) =
    ap (register_after r) (flat_map-cons (flat_map (bits 8)) group (first_chunks n k others)) ∙ register_after-append r (flat_map (bits 8) group) (flat_map (flat_map (bits 8)) (first_chunks n k others)) in
    ap₂ (λ (m : ℕ) (ys : List ℕ). register_after m (flat_map (bits 8) ys)) front behind
    ∙ groups_and_rest n k (register_after r (flat_map (bits 8) group)) others
    ∙ sym (register_after-append r (flat_map (bits 8) group) (flat_map (bits 8) others))
    ∙ ap (register_after r) (sym (flat_map-append (bits 8) group others) ∙ ap (flat_map (bits 8)) (take-append-drop n xs))
