-- Those who joined a thread are answered one after the other, in ascending order.
use Rattle.std.proofs.Common.{◌≡◌, ℕ, ◌+◌, ◌-◌, ◌*◌, ◌/◌, ◌<◌, ◌≤◌, Bool, true, false, List, [], ◌∷◌, ◌++◌, Option, Some, None, refl, sym, ap, ◌∙◌, arith, ◌⊎◌, inl, inr}
use Rattle.std.specs.Prelude.{◌==◌, ◌&&◌, ◌≢◌, nat_le, nat_lt, if◌then◌else◌}
use Rattle.std.specs.Option.{option_map}
use Rattle.std.proofs.lemmas.Bool.{eq-eqb, ne_eqb, eqb-true, false≢true, and_parts}
use Rattle.std.proofs.lemmas.Bool.Decides.{nat_tests}
use Rattle.machine_model.specs.State.Changes.{replies}
use Rattle.machine_model.specs.Ending.Ends.{is_joining, joiners_answered, waits_for_end}
use Rattle.machine_model.specs.State.Machine.{Machine, Thread}
use Rattle.machine_model.specs.State.Threads.{Answers, answer_to, give_answers, no_answers, thread_id, with_answer}
use Rattle.xk_base.proofs.CircleLemmas.{same_ids}
use Rattle.xk_base.specs.Tables.Circle.{id_at, is_thread_id, same_thread, thread_ids}
use Rattle.syscall_codec.specs.ReplyWords.{scalar1_words}
use Rattle.xk_base.specs.declared.ids.ThreadId.{ThreadId}
use Rattle.xk_base.specs.declared.records.What.TheVariants.{Reply}
use Rattle.xk_kernel.proofs.Calling.ReplyLemmas.{nobody_answered, replies-all, replies-are, replies-more, replies-none, replies-skip, replies_until, same_answers}

-- the threads of the machine have tids from 1 on
pub record HasThreadIds (m : Machine) : Type 0 where
  pub known : (id : ThreadId) (t : Thread) → m.threads id ≡ Some t → is_thread_id m.processes id ≡ true

-- the place of the process's first thread id
abbrev pub first_place : ThreadId → ℕ
first_place who = (who.pid.0 - 2) * 31

-- a value where both tests hold
abbrev pub where_both : {A : Type 0} → Bool → Bool → A → Option A
where_both a b x = if a && b then Some x else None

same_where : {A : Type 0} (a b w : Bool) (x : A) → (a ≡ b) ⊎ (w ≡ false) → where_both a w x ≡ where_both b w x
same_where a b w x (inl e) = ap (λ y. where_both y w x) e
same_where true true w x (inr e) = refl
same_where false false w x (inr e) = refl
same_where true false w x (inr e) = ap (λ y. if y then Some x else None) e
same_where false true w x (inr e) = sym (ap (λ y. if y then Some x else None) e)

none_where : {A : Type 0} (a w : Bool) (x : A) → (a ≡ false) ⊎ (w ≡ false) → where_both a w x ≡ None
none_where false w x h = refl
none_where true w x (inl e) = cc
none_where true w x (inr e) = ap (λ y. if y then Some x else None) e

-- ---- answers up to a tid

module _ (m : Machine) (who : ThreadId) (a0 : ℕ) where
  abbrev joined : ThreadId → Bool
  joined id = waits_for_end who id (m.threads id)

  -- those of the first k tids
  abbrev pub joiners_until : ℕ → Answers
  joiners_until k id = where_both (nat_le id.tid.0 k) (joined id) (scalar1_words a0)

  elsewhere : (id : ThreadId) → id.pid.0 ≢ who.pid.0 → joined id ≡ false
  elsewhere id ne = by_thread (m.threads id)
    where
      by_thread : (o : Option Thread) → waits_for_end who id o ≡ false
      by_thread None = refl
      by_thread (Some t) = ap (λ b. b && is_joining who.tid t.state) (ne_eqb id.pid.0 who.pid.0 ne)

  none_elsewhere : (id : ThreadId) → id.pid.0 ≢ who.pid.0 → joiners_answered m who a0 id ≡ None
  none_elsewhere id ne = ap (λ b. if b then Some (scalar1_words a0) else None) (elsewhere id ne)

  -- the next tid changes the answer of that thread alone
  abbrev next : ℕ → ThreadId
  next k = thread_id who.pid (k + 1)

  other_tid : (k tid : ℕ) → tid ≢ k + 1 → nat_le tid k ≡ nat_le tid (k + 1)
  other_tid k tid ne = grind (arith, nat_tests)

  until-other : (k : ℕ) (id : ThreadId) → same_thread id (next k) ≡ false → joiners_until k id ≡ joiners_until (k + 1) id
  until-other k id e = same_where (nat_le id.tid.0 k) (nat_le id.tid.0 (k + 1)) (joined id) (scalar1_words a0) (go (id.pid.0 == who.pid.0) refl e)
    where
      differ : (a b : ℕ) → (a == b) ≡ false → a ≢ b
      differ a b q p = false≢true (sym q ∙ eq-eqb a b p)

      go : (b : Bool) → (id.pid.0 == who.pid.0) ≡ b → (b && (id.tid.0 == k + 1)) ≡ false → (nat_le id.tid.0 k ≡ nat_le id.tid.0 (k + 1)) ⊎ (joined id ≡ false)
      go true q h = inl (other_tid k id.tid.0 (differ id.tid.0 (k + 1) h))
      go false q h = inr (elsewhere id (differ id.pid.0 who.pid.0 q))

  same_as_next : (k : ℕ) (id : ThreadId) → same_thread id (next k) ≡ true → id ≡ next k
  same_as_next k id e =
      let parts : ((id.pid.0 == who.pid.0) ≡ true) × ((id.tid.0 == k + 1) ≡ true) = and_parts (id.pid.0 == who.pid.0) (id.tid.0 == k + 1) e in
      same_ids id (next k) (eqb-true id.pid.0 who.pid.0 parts.0) (eqb-true id.tid.0 (k + 1) parts.1)

  too_high : (k : ℕ) → nat_le (k + 1) k ≡ false
  too_high k = grind (arith, nat_tests)

  next_counts : (k : ℕ) → nat_le (k + 1) (k + 1) ≡ true
  next_counts k = grind (arith, nat_tests)

  pub not_yet : (k : ℕ) → joiners_until k (next k) ≡ None
  not_yet k = none_where (nat_le (k + 1) k) (joined (next k)) (scalar1_words a0) (inl (too_high k))

  -- it is answered where it waits
  by_second : (x : Option (List ℕ)) (o : Option Thread) → option_map (with_answer x) (option_map (with_answer None) o) ≡ option_map (with_answer x) o
  by_second x None = refl
  by_second x (Some t) = refl

  by_first : (x : Option (List ℕ)) (o : Option Thread) → option_map (with_answer None) (option_map (with_answer x) o) ≡ option_map (with_answer x) o
  by_first None None = refl
  by_first None (Some t) = refl
  by_first (Some w) None = refl
  by_first (Some w) (Some t) = refl

  abbrev given : Option (List ℕ) → Option (List ℕ) → ThreadId → Option Thread
  given x y id = option_map (with_answer x) (option_map (with_answer y) (m.threads id))

  pub one_more : (k : ℕ) → joined (next k) ≡ true
      → give_answers (answer_to (next k) (scalar1_words a0)) (give_answers (joiners_until k) m) ≡ give_answers (joiners_until (k + 1)) m
  one_more k w = λ i. record m { threads = λ id. at id (same_thread id (next k)) refl i }
    where
      own : (id : ThreadId) → id ≡ next k → given (Some (scalar1_words a0)) (joiners_until k id) id ≡ option_map (with_answer (joiners_until (k + 1) id)) (m.threads id)
      own id e =
          ap (λ y. given (Some (scalar1_words a0)) y id) (ap (joiners_until k) e ∙ not_yet k)
          ∙ by_second (Some (scalar1_words a0)) (m.threads id)
          ∙ sym (ap (λ x. option_map (with_answer x) (m.threads id)) (ap (joiners_until (k + 1)) e ∙ (λ j. where_both (next_counts k j) (w j) (scalar1_words a0))))

      at : (id : ThreadId) (b : Bool) → same_thread id (next k) ≡ b
          → given (answer_to (next k) (scalar1_words a0) id) (joiners_until k id) id ≡ option_map (with_answer (joiners_until (k + 1) id)) (m.threads id)
      at id true e = ap (λ b. given (if b then Some (scalar1_words a0) else None) (joiners_until k id) id) e ∙ own id (same_as_next k id e)
      at id false e =
          ap (λ b. given (if b then Some (scalar1_words a0) else None) (joiners_until k id) id) e ∙ by_first (joiners_until k id) (m.threads id)
          ∙ ap (λ x. option_map (with_answer x) (m.threads id)) (until-other k id e)

  pub none_more : (k : ℕ) → joined (next k) ≡ false → give_answers (joiners_until k) m ≡ give_answers (joiners_until (k + 1)) m
  none_more k w = λ i. record m { threads = λ id. option_map (with_answer (at id (same_thread id (next k)) refl i)) (m.threads id) }
    where
      at : (id : ThreadId) (b : Bool) → same_thread id (next k) ≡ b → joiners_until k id ≡ joiners_until (k + 1) id
      at id true e = same_where (nat_le id.tid.0 k) (nat_le id.tid.0 (k + 1)) (joined id) (scalar1_words a0) (inr (ap joined (same_as_next k id e) ∙ w))
      at id false e = until-other k id e

  -- ---- none at first, and all in the end

  module _ (ids : HasThreadIds m) where
    below_one : (tid : ℕ) (a b : Bool) → (a && (nat_le 1 tid && b)) ≡ true → nat_le tid 0 ≡ false
    below_one tid true true h = grind (arith, nat_tests)
    below_one tid true false h = grind (arith, nat_tests)
    below_one tid false b h = cc

    up_to_limit : (tid : ℕ) (a b : Bool) → (a && (b && nat_le tid 31)) ≡ true → nat_le tid 31 ≡ true
    up_to_limit tid true true h = h
    up_to_limit tid true false h = cc
    up_to_limit tid false b h = cc

    pub none_at_first : m ≡ give_answers (joiners_until 0) m
    none_at_first =
        sym (nobody_answered m)
        ∙ same_answers no_answers (joiners_until 0) m (λ id t e.
        sym (none_where (nat_le id.tid.0 0) (joined id) (scalar1_words a0) (inl (below_one id.tid.0 (nat_le 2 id.pid.0 && nat_lt id.pid.0 (m.processes + 2)) (nat_le id.tid.0 31) (ids.known id t e)))))

    pub all_at_last : give_answers (joiners_until 31) m ≡ give_answers (joiners_answered m who a0) m
    all_at_last =
        same_answers (joiners_until 31) (joiners_answered m who a0) m (λ id t e.
        ap (λ a. where_both a (joined id) (scalar1_words a0)) (up_to_limit id.tid.0 (nat_le 2 id.pid.0 && nat_lt id.pid.0 (m.processes + 2)) (nat_le 1 id.tid.0) (ids.known id t e)))

  -- ---- their replies

  module _ (high : 2 ≤ who.pid.0) where
    below : (k : ℕ) → k < first_place who → k / 31 + 2 ≢ who.pid.0
    below k l e = omega arith

    above : (k : ℕ) → first_place who + 31 ≤ k → k / 31 + 2 ≢ who.pid.0
    above k l e = omega arith

    id_there : (k : ℕ) → k < 31 → id_at (first_place who + k) ≡ next k
    id_there k l = same_ids (id_at (first_place who + k)) (next k) (omega arith) (omega arith)

    pub none_told_first : replies_until (first_place who + 0) (joiners_answered m who a0) ≡ []
    none_told_first = replies-none (first_place who + 0) (joiners_answered m who a0) (λ k l. none_elsewhere (id_at k) (below k (omega arith)))

    pub all_told_last : first_place who + 31 ≤ thread_ids m.processes → replies_until (first_place who + 31) (joiners_answered m who a0) ≡ replies m.processes (joiners_answered m who a0)
    all_told_last l =
        sym (replies-are m.processes (joiners_answered m who a0)
        ∙ replies-all (thread_ids m.processes) (first_place who + 31) (joiners_answered m who a0) l (λ k far. none_elsewhere (id_at k) (above k far)))

    abbrev answer_by : Bool → Option (List ℕ)
    answer_by b = if b then Some (scalar1_words a0) else None

    pub one_told : (k : ℕ) → k < 31 → joined (next k) ≡ true
        → replies_until (first_place who + (k + 1)) (joiners_answered m who a0) ≡ replies_until (first_place who + k) (joiners_answered m who a0) ++ Reply (next k) (scalar1_words a0) ∷ []
    one_told k l w =
        replies-more (first_place who + k) (first_place who + (k + 1)) (joiners_answered m who a0) (scalar1_words a0) (omega arith)
        (ap (joiners_answered m who a0) (id_there k l) ∙ ap answer_by w)
        ∙ ap (λ id. replies_until (first_place who + k) (joiners_answered m who a0) ++ Reply id (scalar1_words a0) ∷ []) (id_there k l)

    pub none_told : (k : ℕ) → k < 31 → joined (next k) ≡ false
        → replies_until (first_place who + (k + 1)) (joiners_answered m who a0) ≡ replies_until (first_place who + k) (joiners_answered m who a0)
    none_told k l w =
        replies-skip (first_place who + k) (first_place who + (k + 1)) (joiners_answered m who a0) (omega arith)
        (ap (joiners_answered m who a0) (id_there k l) ∙ ap answer_by w)
