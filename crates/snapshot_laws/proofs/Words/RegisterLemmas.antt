-- Lists of words, and the registers of a thread: 32 words, of which the first is 0.
use Rattle.std.proofs.Common.{◌≡◌, ℕ, zero, suc, ◌+◌, ◌-◌, ◌≤◌, Bool, true, false, List, [], ◌∷◌, ◌++◌, length, take, drop, replicate, refl, sym, ap, ◌∙◌, arith, length-append, length-drop}
use Rattle.std.specs.Prelude.{◌==◌, min, slice_index, slice_set, if◌then◌else◌}
use Rattle.std.specs.List.{AllByRecursion}
use Rattle.std.proofs.lemmas.Bool.{false≢true}
use Rattle.std.proofs.lemmas.List.{length-set, length-take, length-replicate}
use Rattle.std.proofs.lemmas.List.Elements.{All-from_recursion, All-head, All-tail, All-append, All-take, All-drop, All-set, All-replicate}
use Rattle.xk_base.specs.Calls.Registers.{arguments_of, with_arguments, with_reg}
use Rattle.syscall_codec.specs.ReplyWords.{eight_words}
use Rattle.snapshot_laws.specs.Words.{AreRegisters, AreWords, greatest}

-- ---- lists of words

-- any of them, and 0 past the end
pub word_at : (xs : List ℕ) (i : ℕ) → AreWords xs → slice_index xs i ≤ greatest
word_at [] i h = omega arith
word_at (x ∷ xs) zero h = All-head (λ x. x ≤ greatest) x xs h
word_at (x ∷ xs) (suc i) h = word_at xs i (All-tail (λ x. x ≤ greatest) x xs h)

-- ---- the eight words of a call or of a reply

pub record AreEightWords (xs : List ℕ) : Type 0 where
  pub eight : length xs ≡ 8
  pub words : AreWords xs

-- those of a reply that names some of them
pub eight_are : (named : List ℕ) → AllByRecursion (λ x. x ≤ greatest) named → AreEightWords (eight_words named)
eight_are named each =
    let h : AreWords named = All-from_recursion (λ x. x ≤ greatest) named each in
    let padded : List ℕ = named ++ replicate 8 0 in
    let size : length padded ≡ length named + length (replicate {A = ℕ} 8 0) = length-append named (replicate 8 0) in
    let zeros : length (replicate {A = ℕ} 8 0) ≡ 8 = length-replicate {A = ℕ} 8 0 in
    record {
      eight = length-take 8 padded ∙ at_least (length padded) (omega arith);
      words = All-take (λ x. x ≤ greatest) 8 padded
          (All-append (λ x. x ≤ greatest) named (replicate 8 0) h (All-replicate (λ x. x ≤ greatest) 8 0 (omega arith)));
    }
  where
    at_least : (n : ℕ) → 8 ≤ n → min 8 n ≡ 8
    at_least n le = omega arith

-- ---- registers

pub zeros_are : AreRegisters (replicate 32 0)
zeros_are = record { many = refl; x0 = refl; words = All-replicate (λ x. x ≤ greatest) 32 0 (omega arith) }

first_stays : (regs : List ℕ) (r v : ℕ) → (r == 0) ≡ false → slice_index (slice_set regs r v) 0 ≡ slice_index regs 0
first_stays regs zero v e = absurd (false≢true (sym e))
first_stays [] (suc r) v e = refl
first_stays (x ∷ regs) (suc r) v e = refl

pub with_reg_are : (regs : List ℕ) (r v : ℕ) → v ≤ greatest → AreRegisters regs → AreRegisters (with_reg regs r v)
with_reg_are regs r v fits h = go (r == 0) refl
  where
    go : (b : Bool) → (r == 0) ≡ b → AreRegisters (if b then regs else slice_set regs r v)
    go true e = h
    go false e = record {
      many = length-set regs r v ∙ h.many;
      x0 = first_stays regs r v e ∙ h.x0;
      words = All-set (λ x. x ≤ greatest) regs r v fits h.words;
    }

-- what an answer or the words of a beginning leave
pub with_arguments_are : (words regs : List ℕ) → AreEightWords words → AreRegisters regs → AreRegisters (with_arguments words regs)
with_arguments_are words regs w h = record {
  many = all;
  x0 = front regs h.many ∙ h.x0;
  words = All-append (λ x. x ≤ greatest) (take 10 regs) (words ++ drop 18 regs) (All-take (λ x. x ≤ greatest) 10 regs h.words)
      (All-append (λ x. x ≤ greatest) words (drop 18 regs) w.words (All-drop (λ x. x ≤ greatest) 18 regs h.words));
}
  where
    size : (a b n : ℕ) → n ≡ 32 → a ≡ min 10 n → b ≡ n - 18 → a + (8 + b) ≡ 32
    size a b n is p q = omega arith

    all : length (take 10 regs ++ (words ++ drop 18 regs)) ≡ 32
    all =
        length-append (take 10 regs) (words ++ drop 18 regs)
        ∙ ap (λ k. length (take 10 regs) + k) (length-append words (drop 18 regs) ∙ ap (λ k. k + length (drop 18 regs)) w.eight)
        ∙ size (length (take 10 regs)) (length (drop 18 regs)) (length regs) h.many (length-take 10 regs) (length-drop 18 regs)

    front : (xs : List ℕ) → length xs ≡ 32 → slice_index (take 10 xs ++ (words ++ drop 18 regs)) 0 ≡ slice_index xs 0
    front [] e = absurd (let d : 0 ≡ 32 = e in omega arith)
    front (x ∷ xs) e = refl

-- the words of a call
pub arguments_are : (regs : List ℕ) → AreRegisters regs → AreWords (arguments_of regs)
arguments_are regs h = All-take (λ x. x ≤ greatest) 8 (drop 10 regs) (All-drop (λ x. x ≤ greatest) 10 regs h.words)

-- ---- x0

pub x0_first : (regs : List ℕ) → AreRegisters regs → (others : List ℕ) × (regs ≡ 0 ∷ others)
x0_first regs h = go regs h.many h.x0
  where
    go : (xs : List ℕ) → length xs ≡ 32 → slice_index xs 0 ≡ 0 → (others : List ℕ) × (xs ≡ 0 ∷ others)
    go [] e f = absurd (let d : 0 ≡ 32 = e in omega arith)
    go (x ∷ xs) e f = (xs, ap (λ y. y ∷ xs) f)

pub first_x0 : (regs : List ℕ) → (others : List ℕ) × (regs ≡ 0 ∷ others) → slice_index regs 0 ≡ 0
first_x0 regs h = ap (λ xs. slice_index xs 0) h.1
