-- How many messages pass a test once others were taken out of a list.
use Rattle.std.proofs.Common.{◌≡◌, ◌+◌, ◌≤◌, Bool, true, false, List, [], ◌∷◌, cond, filter, length, refl, sym, ap, ◌∙◌, arith}
use Rattle.std.specs.List.{All}
use Rattle.std.proofs.lemmas.Bool.{false≢true}
use Rattle.std.proofs.lemmas.List.Elements.{All-head, All-tail}
use Rattle.xk_base.specs.declared.messages.Message.{Message}
use Rattle.machine_model.specs.Messaging.MessageCounts.{count_in}
use Rattle.machine_model.proofs.Matching.CountLemmas.{one_if}

-- those that pass are all kept
pub filter_others : (test keep : Message → Bool) → ((x : Message) → test x ≡ true → keep x ≡ true) → (xs : List Message)
    → count_in test (filter keep xs) ≡ count_in test xs
unfolding count_in
filter_others test keep h [] = refl
filter_others test keep h (x ∷ xs) = go (keep x) (test x) refl refl (filter_others test keep h xs)
  where
    go : (k b : Bool) → keep x ≡ k → test x ≡ b → count_in test (filter keep xs) ≡ count_in test xs
        → count_in test (cond k (x ∷ filter keep xs) (filter keep xs)) ≡ one_if (test x) + count_in test xs
    go true b p q r = ap (λ n. one_if (test x) + n) r
    go false true p q r = absurd (false≢true (sym p ∙ h x q))
    go false false p q r = let nothing : one_if (test x) ≡ 0 = ap one_if q in omega arith

-- those that pass are all taken out
pub filter_none : (test keep : Message → Bool) → ((x : Message) → test x ≡ true → keep x ≡ false) → (xs : List Message)
    → count_in test (filter keep xs) ≡ 0
unfolding count_in
filter_none test keep h [] = refl
filter_none test keep h (x ∷ xs) = go (keep x) (test x) refl refl (filter_none test keep h xs)
  where
    go : (k b : Bool) → keep x ≡ k → test x ≡ b → count_in test (filter keep xs) ≡ 0
        → count_in test (cond k (x ∷ filter keep xs) (filter keep xs)) ≡ 0
    go false b p q r = r
    go true true p q r = absurd (false≢true (sym (h x q) ∙ p))
    go true false p q r = let nothing : one_if (test x) ≡ 0 = ap one_if q in omega arith

pub filter_shorter : (keep : Message → Bool) (xs : List Message) → length (filter keep xs) ≤ length xs
filter_shorter keep [] = omega arith
filter_shorter keep (x ∷ xs) = go (keep x) (filter_shorter keep xs)
  where
    go : (k : Bool) → length (filter keep xs) ≤ length xs → length (cond k (x ∷ filter keep xs) (filter keep xs)) ≤ length (x ∷ xs)
    go true r = omega arith
    go false r = omega arith

-- two tests that agree on a list keep the same of it
pub filter_alike : (f g : Message → Bool) (xs : List Message) → All (λ x. f x ≡ g x) xs → filter f xs ≡ filter g xs
filter_alike f g [] all = refl
filter_alike f g (x ∷ xs) all =
    (λ i. cond (All-head (λ y. f y ≡ g y) x xs all i) (x ∷ filter f xs) (filter f xs))
    ∙ (λ i. cond (g x) (x ∷ filter_alike f g xs (All-tail (λ y. f y ≡ g y) x xs all) i) (filter_alike f g xs (All-tail (λ y. f y ≡ g y) x xs all) i))
