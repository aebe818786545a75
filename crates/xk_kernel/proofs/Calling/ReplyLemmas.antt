-- The replies that are told of answers, in ascending order of thread.
use Rattle.std.proofs.Common.{◌≡◌, ℕ, zero, suc, ◌<◌, ◌≤◌, Bool, true, false, List, [], ◌∷◌, ◌++◌, Option, Some, None, refl, ap, ◌∙◌, arith, append-nil, inl, inr}
use Rattle.std.specs.Prelude.{is_some, map, unwrap_or, if◌then◌else◌}
use Rattle.std.specs.Option.{option_map, option_or}
use Rattle.std.proofs.lemmas.Bool.{cases_lt}
use Rattle.std.proofs.lemmas.List.{map-append}
use Rattle.machine_model.specs.State.Changes.{replies}
use Rattle.machine_model.specs.State.Machine.{Machine, Thread}
use Rattle.machine_model.specs.State.Threads.{Answers, both_answers, give_answers, no_answers, with_answer}
use Rattle.xk_base.specs.Tables.Circle.{id_at, listed_ids, thread_ids}
use Rattle.xk_base.specs.Tables.Counting.{listed_below}
use Rattle.xk_base.specs.declared.ids.ThreadId.{ThreadId}
use Rattle.xk_base.specs.declared.records.What.{What}
use Rattle.xk_base.specs.declared.records.What.TheVariants.{Reply}

-- ---- listings

pub listed-none : (n : ℕ) (f : ℕ → Bool) → ((k : ℕ) → k < n → f k ≡ false) → listed_below n f ≡ []
unfolding listed_below
listed-none zero f h = refl
listed-none (suc n) f h = λ i. listed-none n f (λ k l. h k (omega arith)) i ++ (if h n (omega arith) i then n ∷ [] else [])

-- none passes from n on
pub listed-all : (m n : ℕ) (f : ℕ → Bool) → n ≤ m → ((k : ℕ) → n ≤ k → f k ≡ false) → listed_below m f ≡ listed_below n f
unfolding listed_below
listed-all zero n f l h = let e : zero ≡ n = omega arith in ap (λ x. listed_below x f) e
listed-all (suc m) n f l h = elim (cases_lt m n) [
  | inl low ↦ let e : suc m ≡ n = omega arith in ap (λ x. listed_below x f) e
  | inr high ↦
      ap (λ b. listed_below m f ++ (if b then m ∷ [] else [])) (h m high)
      ∙ append-nil (listed_below m f) ∙ listed-all m n f high h
]

listed-next : (p q : ℕ) (f : ℕ → Bool) (b : Bool) → q ≡ suc p → f p ≡ b → listed_below q f ≡ listed_below p f ++ (if b then p ∷ [] else [])
unfolding listed_below
listed-next p q f b e h = ap (λ x. listed_below x f) e ∙ ap (λ x. listed_below p f ++ (if x then p ∷ [] else [])) h

-- ---- replies

abbrev pub reply_of : Answers → ThreadId → What
reply_of answers id = Reply id (unwrap_or (answers id) [])

-- those to the ids at the first places
abbrev pub replies_until : ℕ → Answers → List What
replies_until p answers = map (reply_of answers) (map id_at (listed_below p (λ k. is_some (answers (id_at k)))))

pub replies-are : (n : ℕ) (answers : Answers) → replies n answers ≡ replies_until (thread_ids n) answers
unfolding listed_ids
replies-are n answers = refl

abbrev of_places : Answers → List ℕ → List What
of_places answers places = map (reply_of answers) (map id_at places)

pub replies-none : (p : ℕ) (answers : Answers) → ((k : ℕ) → k < p → answers (id_at k) ≡ None) → replies_until p answers ≡ []
replies-none p answers h = ap (of_places answers) (listed-none p (λ k. is_some (answers (id_at k))) (λ k l. ap is_some (h k l)))

pub replies-all : (m n : ℕ) (answers : Answers) → n ≤ m → ((k : ℕ) → n ≤ k → answers (id_at k) ≡ None) → replies_until m answers ≡ replies_until n answers
replies-all m n answers l h = ap (of_places answers) (listed-all m n (λ k. is_some (answers (id_at k))) l (λ k high. ap is_some (h k high)))

pub replies-skip : (p q : ℕ) (answers : Answers) → q ≡ suc p → answers (id_at p) ≡ None → replies_until q answers ≡ replies_until p answers
replies-skip p q answers e h =
    ap (of_places answers)
    (listed-next p q (λ k. is_some (answers (id_at k))) false e (ap is_some h) ∙ append-nil (listed_below p (λ k. is_some (answers (id_at k)))))

module _ (p q : ℕ) (answers : Answers) (words : List ℕ) (e : q ≡ suc p) (h : answers (id_at p) ≡ Some words) where
  abbrev before : List ℕ
  before = listed_below p (λ k. is_some (answers (id_at k)))

  pub replies-more : replies_until q answers ≡ replies_until p answers ++ Reply (id_at p) words ∷ []
  replies-more =
      ap (of_places answers) (listed-next p q (λ k. is_some (answers (id_at k))) true e (ap is_some h))
      ∙ ap (map (reply_of answers)) (map-append id_at before (p ∷ []))
      ∙ map-append (reply_of answers) (map id_at before) (id_at p ∷ [])
      ∙ ap (λ o. replies_until p answers ++ Reply (id_at p) (unwrap_or o []) ∷ []) h

pub nobody_told : (n : ℕ) → replies n no_answers ≡ []
nobody_told n = replies-are n no_answers ∙ replies-none (thread_ids n) no_answers (λ k l. refl)

-- ---- answers

-- who is there is answered the same
pub same_answers : (a b : Answers) (m : Machine) → ((id : ThreadId) (t : Thread) → m.threads id ≡ Some t → a id ≡ b id) → give_answers a m ≡ give_answers b m
same_answers a b m h = λ i. record m { threads = λ id. there id (m.threads id) refl i }
  where
    there : (id : ThreadId) (o : Option Thread) → m.threads id ≡ o → option_map (with_answer (a id)) o ≡ option_map (with_answer (b id)) o
    there id None e = refl
    there id (Some t) e = ap (λ x. Some (with_answer x t)) (h id t e)

pub unanswered : (o : Option Thread) → option_map (with_answer None) o ≡ o
unanswered None = refl
unanswered (Some t) = refl

pub nobody_answered : (m : Machine) → give_answers no_answers m ≡ m
nobody_answered m = λ i. record m { threads = λ id. unanswered (m.threads id) i }

pub both_with_none : (answers : Answers) → both_answers answers no_answers ≡ answers
both_with_none answers = λ i id. same (answers id) i
  where
    same : (o : Option (List ℕ)) → option_or o None ≡ o
    same None = refl
    same (Some words) = refl
