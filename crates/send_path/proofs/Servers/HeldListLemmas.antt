-- Lists of held messages: the one of a number, and the others.
use Rattle.std.proofs.Common.{◌≡◌, ℕ, suc, ◌+◌, ◌<◌, ◌≤◌, Bool, true, false, List, [], ◌∷◌, cond, get_or, length, map, Some, None, refl, sym, ap, subst, ◌∙◌, arith}
use Rattle.std.specs.Prelude.{◌&&◌, ◌||◌, All, filter, find, if◌then◌else◌, not}
use Rattle.std.specs.List.{list_any, position_or_len, remove}
use Rattle.std.specs.Option.{option_map}
use Rattle.std.proofs.lemmas.Bool.{false≢true}
use Rattle.std.proofs.lemmas.List.{get_or-map, length-map}
use Rattle.std.proofs.lemmas.List.Elements.{All-cons}
use Rattle.std.proofs.lemmas.Option.{none-some, same_Some}
use Rattle.machine_model.specs.Messaging.MessageCounts.{count_in}
use Rattle.msg_queue.specs.Seats.{message_of}
use Rattle.msg_queue.specs.declared.held.Held.{Held}
use Rattle.xk_base.specs.declared.messages.Message.{Message}

-- the first that passes, as messages
pub find_shown : (p : Message → Bool) (hs : List Held) → find p (map message_of hs) ≡ option_map message_of (find (λ h. p h.msg) hs)
find_shown p [] = refl
find_shown p (h ∷ hs) = go (find_shown p hs) (p h.msg)
  where
    go : find p (map message_of hs) ≡ option_map message_of (find (λ y. p y.msg) hs) → (b : Bool)
        → cond b (Some h.msg) (find p (map message_of hs)) ≡ option_map message_of (cond b (Some h) (find (λ y. p y.msg) hs))
    go rest true = refl
    go rest false = rest

module _ (p c : Message → Bool) where
  abbrev both : Message → Bool
  both x = p x && c x

  -- the first that passes the one test, where it passes the other too
  pub find_both : (xs : List Message) (x : Message) → find p xs ≡ Some x → c x ≡ true → find both xs ≡ Some x
  find_both [] x e f = absurd (none-some x e)
  find_both (y ∷ ys) x e f = go (λ q. find_both ys x q f) (p y) e
    where
      here : (b : Bool) → b ≡ true → y ≡ x → cond b (Some y) (find both ys) ≡ Some x
      here true q s = ap Some s
      here false q s = absurd (false≢true q)

      go : (find p ys ≡ Some x → find both ys ≡ Some x) → (b : Bool) → cond b (Some y) (find p ys) ≡ Some x
          → cond (b && c y) (Some y) (find both ys) ≡ Some x
      go rest true q = here (c y) (ap c (same_Some y x q) ∙ f) (same_Some y x q)
      go rest false q = rest q

  pub none_both : (xs : List Message) → find p xs ≡ None → list_any both xs ≡ false
  none_both [] e = refl
  none_both (y ∷ ys) e = go (none_both ys) (p y) e
    where
      go : (find p ys ≡ None → list_any both ys ≡ false) → (b : Bool) → cond b (Some y) (find p ys) ≡ None → ((b && c y) || list_any both ys) ≡ false
      go rest true q = absurd (none-some y (sym q))
      go rest false q = rest q

-- ---- without the one of a number

module _ (p : Message → Bool) where
  -- none passes
  abbrev Fails : Message → Type 0
  Fails x = p x ≡ false

  kept : (xs : List Message) → count_in p xs ≡ 0 → filter (λ x. not (p x)) xs ≡ xs
  unfolding count_in
  kept [] e = refl
  kept (x ∷ xs) e = go (kept xs) (p x) e
    where
      go : (count_in p xs ≡ 0 → filter (λ y. not (p y)) xs ≡ xs) → (b : Bool) → (if b then 1 else 0) + count_in p xs ≡ 0
          → cond (not b) (x ∷ filter (λ y. not (p y)) xs) (filter (λ y. not (p y)) xs) ≡ x ∷ xs
      go rest true q = absurd (omega arith)
      go rest false q = let none : count_in p xs ≡ 0 = omega arith in ap (λ ys. x ∷ ys) (rest none)

  -- at most one passes: taking the first out leaves the others
  pub removed_shown : (hs : List Held) → count_in p (map message_of hs) ≤ 1
      → map message_of (remove hs (position_or_len (λ h. p h.msg) hs)) ≡ filter (λ x. not (p x)) (map message_of hs)
  unfolding count_in
  removed_shown [] l = refl
  removed_shown (h ∷ hs) l = go (removed_shown hs) (p h.msg) l
    where
      go : (count_in p (map message_of hs) ≤ 1 → map message_of (remove hs (position_or_len (λ y. p y.msg) hs)) ≡ filter (λ x. not (p x)) (map message_of hs))
          → (b : Bool) → (if b then 1 else 0) + count_in p (map message_of hs) ≤ 1
          → map message_of (remove (h ∷ hs) (cond (not b) (1 + position_or_len (λ y. p y.msg) hs) 0))
          ≡ cond (not b) (h.msg ∷ filter (λ x. not (p x)) (map message_of hs)) (filter (λ x. not (p x)) (map message_of hs))
      go rest true q = let none : count_in p (map message_of hs) ≡ 0 = omega arith in sym (kept (map message_of hs) none)
      go rest false q =
          let few : count_in p (map message_of hs) ≤ 1 = omega arith in
          let next : 1 + position_or_len (λ y. p y.msg) hs ≡ suc (position_or_len (λ y. p y.msg) hs) = omega arith in
          ap (λ n. map message_of (remove (h ∷ hs) n)) next ∙ ap (λ ys. h.msg ∷ ys) (rest few)

  filtered_fail : (xs : List Message) → All Fails (filter (λ x. not (p x)) xs)
  filtered_fail [] = λ k d l. absurd (omega arith)
  filtered_fail (x ∷ xs) = go (filtered_fail xs) (p x) refl
    where
      go : All Fails (filter (λ y. not (p y)) xs) → (b : Bool) → p x ≡ b
          → All Fails (cond (not b) (x ∷ filter (λ y. not (p y)) xs) (filter (λ y. not (p y)) xs))
      go rest true e = rest
      go rest false e = All-cons Fails x (filter (λ y. not (p y)) xs) e rest

  -- none that stays passes
  pub others_fail : (hs : List Held) → count_in p (map message_of hs) ≤ 1
      → All Fails (map message_of (remove hs (position_or_len (λ h. p h.msg) hs)))
  others_fail hs l = subst (All Fails) (sym (removed_shown hs l)) (filtered_fail (map message_of hs))

-- what holds of all messages holds of all that are held
pub of_shown : (P : Message → Type 0) (hs : List Held) → All P (map message_of hs) → All (λ h. P h.msg) hs
of_shown P hs all k d l = go (all k (message_of d) (bound hs k l))
  where
    bound : (xs : List Held) (i : ℕ) → i < length xs → i < length (map message_of xs)
    bound xs i b = let same : length (map message_of xs) ≡ length xs = length-map xs message_of in omega arith

    go : P (get_or (map message_of hs) k (message_of d)) → P (get_or hs k d).msg
    go x = subst P (get_or-map message_of hs k d (message_of d) l) x
