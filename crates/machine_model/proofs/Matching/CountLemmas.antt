-- How many messages of a list pass a test: what it takes that one is found, and a list with one message more.
use Rattle.std.proofs.Common.{◌≡◌, ℕ, suc, ◌+◌, ◌<◌, ◌≤◌, get_or, length, Bool, true, false, List, [], ◌∷◌, ◌++◌, refl, sym, ap, ◌∙◌, arith, subst}
use Rattle.std.specs.Prelude.{if◌then◌else◌}
use Rattle.std.specs.List.{All}
use Rattle.std.proofs.lemmas.List.Elements.{All-append, All-cons, All-head, All-nil, All-tail}
use Rattle.xk_base.specs.declared.messages.Message.{Message}
use Rattle.machine_model.specs.Messaging.MessageCounts.{count_in}

-- 1 where the test holds, and else 0
abbrev pub one_if : Bool → ℕ
one_if b = if b then 1 else 0

-- ---- parts of lists

pub all_left : (P : Message → Type 0) (xs ys : List Message) → All P (xs ++ ys) → All P xs
all_left P [] ys all = All-nil P
all_left P (x ∷ xs) ys all = All-cons P x xs (All-head P x (xs ++ ys) all) (all_left P xs ys (All-tail P x (xs ++ ys) all))

pub all_right : (P : Message → Type 0) (xs ys : List Message) → All P (xs ++ ys) → All P ys
all_right P [] ys all = all
all_right P (x ∷ xs) ys all = all_right P xs ys (All-tail P x (xs ++ ys) all)

pub count_in-append : (test : Message → Bool) (xs ys : List Message) → count_in test (xs ++ ys) ≡ count_in test xs + count_in test ys
unfolding count_in
count_in-append test [] ys = omega arith
count_in-append test (x ∷ xs) ys =
    let rest : count_in test (xs ++ ys) ≡ count_in test xs + count_in test ys = count_in-append test xs ys in
    omega arith

-- ---- found

-- where a message that passes stands
pub first_in : (test : Message → Bool) (xs : List Message) → 1 ≤ count_in test xs
    → (k : ℕ) × (d : Message) × (k < length xs) × (test (get_or xs k d) ≡ true)
unfolding count_in
first_in test [] l = absurd (omega arith)
first_in test (x ∷ xs) l = go (λ below. first_in test xs below) (test x) refl l
  where
    go : (1 ≤ count_in test xs → (k : ℕ) × (d : Message) × (k < length xs) × (test (get_or xs k d) ≡ true))
        → (b : Bool) → test x ≡ b → 1 ≤ one_if b + count_in test xs
        → (k : ℕ) × (d : Message) × (k < length (x ∷ xs)) × (test (get_or (x ∷ xs) k d) ≡ true)
    go rest true e l = (0, x, omega arith, e)
    go rest false e l =
        let later = rest (omega arith) in
        let low : later.0 < length xs = later.2 in
        (suc later.0, later.1, omega arith, later.3)

-- where none passes, each fails the test
pub none_pass : (test : Message → Bool) (xs : List Message) → count_in test xs ≡ 0 → All (λ x. test x ≡ false) xs
unfolding count_in
none_pass test [] e = All-nil (λ x. test x ≡ false)
none_pass test (x ∷ xs) e = go (λ none. none_pass test xs none) (test x) refl e
  where
    go : (count_in test xs ≡ 0 → All (λ y. test y ≡ false) xs) → (b : Bool) → test x ≡ b → one_if b + count_in test xs ≡ 0
        → All (λ y. test y ≡ false) (x ∷ xs)
    go rest true q e = absurd (omega arith)
    go rest false q e = All-cons (λ y. test y ≡ false) x xs q (rest (omega arith))

pub none_counted : (test : Message → Bool) (xs : List Message) → All (λ x. test x ≡ false) xs → count_in test xs ≡ 0
unfolding count_in
none_counted test [] all = refl
none_counted test (x ∷ xs) all =
    let here : one_if (test x) ≡ 0 = ap one_if (All-head (λ y. test y ≡ false) x xs all) in
    let rest : count_in test xs ≡ 0 = none_counted test xs (All-tail (λ y. test y ≡ false) x xs all) in
    omega arith

-- ---- one message more

-- the new list has the message somewhere, and else the old one
pub record HasMore (old new : List Message) (x : Message) : Type 0 where
  pub before : List Message
  pub behind : List Message
  pub less : old ≡ before ++ behind
  pub more : new ≡ before ++ (x ∷ behind)

module _ (old new : List Message) (x : Message) (h : HasMore old new x) where
  pub more_count : (test : Message → Bool) → count_in test new ≡ one_if (test x) + count_in test old
  unfolding count_in
  more_count test =
      let without : count_in test old ≡ count_in test h.before + count_in test h.behind =
      ap (count_in test) h.less ∙ count_in-append test h.before h.behind in
      let with : count_in test new ≡ count_in test h.before + (one_if (test x) + count_in test h.behind) =
      ap (count_in test) h.more ∙ count_in-append test h.before (x ∷ h.behind) in
      omega arith

  pub more_all : (P : Message → Type 0) → P x → All P old → All P new
  more_all P here all =
      let parts : All P (h.before ++ h.behind) = subst (All P) h.less all in
      subst (All P) (sym h.more) (All-append P h.before (x ∷ h.behind) (all_left P h.before h.behind parts)
      (All-cons P x h.behind here (all_right P h.before h.behind parts)))

  pub less_all : (P : Message → Type 0) → All P new → All P old
  less_all P all =
      let parts : All P (h.before ++ (x ∷ h.behind)) = subst (All P) h.more all in
      subst (All P) (sym h.less) (All-append P h.before h.behind (all_left P h.before (x ∷ h.behind) parts)
      (All-tail P x h.behind (all_right P h.before (x ∷ h.behind) parts)))

  pub more_here : (P : Message → Type 0) → All P new → P x
  more_here P all = All-head P x h.behind (all_right P h.before (x ∷ h.behind) (subst (All P) h.more all))
