-- The bytes that tell what is beside a state are read one from another.
use Rattle.std.proofs.Common.{◌≡◌, ◌<◌, ◌≤◌, ◌+◌, ◌^◌, ◌∙◌, ◌⊎◌, inl, inr, ℕ, zero, suc, Bool, true, false, List, [], ◌∷◌, ◌++◌, map, drop, Option, Some, None, refl, sym, ap, subst, append_assoc, arith}
use Rattle.std.specs.Int.{from_le_bytes, to_le_bytes, w32}
use Rattle.std.specs.List.{flat_map}
use Rattle.std.proofs.lemmas.Grind.{flat_map-append}
use Rattle.std.proofs.lemmas.Nat.{from_le_bytes-to_le_bytes_4}
use Rattle.order_model.specs.declared.exits.Exit.{Exit}
use Rattle.order_model.specs.declared.exits.Exit.TheVariants.{Exited, Faulted, Killed}
use Rattle.order_search.proofs.MarkLemmas.{same_front}
use Rattle.order_search.specs.Keys.{came_byte, came_list, exit_bytes, exits_bytes}
use Rattle.order_search.specs.Spelled.{IsExitTold}
use Rattle.xk_base.specs.Tables.Counting.{listed_below}

-- ---- which events came

byte_tells : (a b : Bool) → came_byte a ≡ came_byte b → a ≡ b
byte_tells true true same = refl
byte_tells false false same = refl
byte_tells true false same = absurd (cc)
byte_tells false true same = absurd (cc)

pub came_tell : (n : ℕ) (a b : ℕ → Bool) (x y : List ℕ) → map came_byte (came_list n a) ++ x ≡ map came_byte (came_list n b) ++ y
    → ((k : ℕ) → k < n → a k ≡ b k) × (x ≡ y)
unfolding came_list
came_tell zero a b x y same = (λ k low. absurd (omega (arith, low)), same)
came_tell (suc n) a b x y same =
    let first : came_byte (a 0) ≡ came_byte (b 0) = cc in
    let rest = came_tell n (λ k. a (k + 1)) (λ k. b (k + 1)) x y (ap (drop 1) same) in
    (go (byte_tells (a 0) (b 0) first) rest.0, rest.1)
  where
    go : a 0 ≡ b 0 → ((k : ℕ) → k < n → a (k + 1) ≡ b (k + 1)) → (k : ℕ) → k < suc n → a k ≡ b k
    go here there zero low = here
    go here there (suc k) low =
        let next : k + 1 ≡ suc k = omega arith in
        subst (λ (j : ℕ). a j ≡ b j) next (there k (omega (arith, low)))

-- ---- words

pub bytes_tell_word : (m n : ℕ) (x y : List ℕ) → m < 2 ^ 32 → n < 2 ^ 32 → to_le_bytes w32 m ++ x ≡ to_le_bytes w32 n ++ y → (m ≡ n) × (x ≡ y)
bytes_tell_word m n x y fits fits' same =
    let front = same_front (to_le_bytes w32 m) (to_le_bytes w32 n) x y refl same in
    (sym (from_le_bytes-to_le_bytes_4 m fits) ∙ (ap (from_le_bytes w32) front.0 ∙ from_le_bytes-to_le_bytes_4 n fits'), front.1)

-- ---- what processes ended with

exit_tells : (pid : ℕ) (a b : Option Exit) (x y : List ℕ) → IsExitTold pid a → IsExitTold pid b → exit_bytes a ++ x ≡ exit_bytes b ++ y
    → (a ≡ b) × (x ≡ y)
exit_tells pid None None x y f g same = (refl, ap (drop 1) same)
exit_tells pid (Some (Exited m)) (Some (Exited n)) x y f g same =
    let word = bytes_tell_word m n x y f.1 g.1 (ap (drop 1) same) in
    (ap (λ (w : ℕ). Some (Exited w)) word.0, word.1)
exit_tells pid (Some (Faulted c v)) (Some (Faulted d w)) x y f g same =
    let word = bytes_tell_word v w x y f.1 g.1 (ap (drop 2) same) in
    let cause : c ≡ d = cc in
    ((λ i. Some (Faulted (cause i) (word.0 i))), word.1)
exit_tells pid (Some Killed) (Some Killed) x y f g same = (refl, ap (drop 1) same)
exit_tells pid None (Some (Exited n)) x y f g same = absurd (cc)
exit_tells pid None (Some (Faulted d w)) x y f g same = absurd (cc)
exit_tells pid None (Some Killed) x y f g same = absurd (cc)
exit_tells pid (Some (Exited m)) None x y f g same = absurd (cc)
exit_tells pid (Some (Exited m)) (Some (Faulted d w)) x y f g same = absurd (cc)
exit_tells pid (Some (Exited m)) (Some Killed) x y f g same = absurd (cc)
exit_tells pid (Some (Faulted c v)) None x y f g same = absurd (cc)
exit_tells pid (Some (Faulted c v)) (Some (Exited n)) x y f g same = absurd (cc)
exit_tells pid (Some (Faulted c v)) (Some Killed) x y f g same = absurd (cc)
exit_tells pid (Some Killed) None x y f g same = absurd (cc)
exit_tells pid (Some Killed) (Some (Exited n)) x y f g same = absurd (cc)
exit_tells pid (Some Killed) (Some (Faulted d w)) x y f g same = absurd (cc)

module _ (a b : ℕ → Option Exit) (told : (pid : ℕ) → IsExitTold pid (a pid)) (told' : (pid : ℕ) → IsExitTold pid (b pid)) where
  abbrev below : (ℕ → Option Exit) → ℕ → List ℕ
  below exits n = flat_map (λ pid. exit_bytes (exits pid)) (listed_below n (λ pid. true))

  one_more : (exits : ℕ → Option Exit) (n : ℕ) (x : List ℕ) → below exits (suc n) ++ x ≡ below exits n ++ (exit_bytes (exits n) ++ x)
  unfolding listed_below
  one_more exits n x =
      let last : flat_map (λ (pid : ℕ). exit_bytes (exits pid)) (n ∷ []) ++ x ≡ exit_bytes (exits n) ++ x =
      append_assoc (exit_bytes (exits n)) [] x in
      ap (λ (xs : List ℕ). xs ++ x) (flat_map-append (λ (pid : ℕ). exit_bytes (exits pid)) (listed_below n (λ pid. true)) (n ∷ []))
      ∙ (append_assoc (below exits n) (flat_map (λ (pid : ℕ). exit_bytes (exits pid)) (n ∷ [])) x
      ∙ ap (λ (xs : List ℕ). below exits n ++ xs) last)

  below_tell : (n : ℕ) (x y : List ℕ) → below a n ++ x ≡ below b n ++ y → ((pid : ℕ) → pid < n → a pid ≡ b pid) × (x ≡ y)
  unfolding listed_below
  below_tell zero x y same = (λ pid low. absurd (omega (arith, low)), same)
  below_tell (suc n) x y same =
      let here = below_tell n (exit_bytes (a n) ++ x) (exit_bytes (b n) ++ y) (sym (one_more a n x) ∙ (same ∙ one_more b n y)) in
      let last = exit_tells n (a n) (b n) x y (told n) (told' n) here.1 in
      (λ pid low. go pid (split n pid low) here.0 last.0, last.1)
    where
      split : (n pid : ℕ) → pid < suc n → (pid < n) ⊎ (n ≡ pid)
      split n pid low = grind (arith, low)

      go : (pid : ℕ) → (pid < n) ⊎ (n ≡ pid) → ((k : ℕ) → k < n → a k ≡ b k) → a n ≡ b n → a pid ≡ b pid
      go pid (inl low) before last = before pid low
      go pid (inr same) before last = subst (λ (k : ℕ). a k ≡ b k) same last

  none_told : (pid : ℕ) (exit : Option Exit) → 2 ^ 8 ≤ pid → IsExitTold pid exit → exit ≡ None
  none_told pid None high f = refl
  none_told pid (Some exit) high f = absurd (omega (arith, high, f.0))

  -- all that they ended with, and what follows
  pub exits_tell : (x y : List ℕ) → exits_bytes a ++ x ≡ exits_bytes b ++ y → (a ≡ b) × (x ≡ y)
  unfolding exits_bytes
  exits_tell x y same =
      let all = below_tell (2 ^ 8) x y same in
      ((λ i pid. go pid (half pid) all.0 i), all.1)
    where
      half : (pid : ℕ) → (pid < 2 ^ 8) ⊎ (2 ^ 8 ≤ pid)
      half pid = grind arith

      go : (pid : ℕ) → (pid < 2 ^ 8) ⊎ (2 ^ 8 ≤ pid) → ((k : ℕ) → k < 2 ^ 8 → a k ≡ b k) → a pid ≡ b pid
      go pid (inl low) each = each pid low
      go pid (inr high) each = none_told pid (a pid) high (told pid) ∙ sym (none_told pid (b pid) high (told' pid))
