-- Threads that are answered one after another in ascending order, and their records.
use Rattle.std.proofs.Common.{◌≡◌, ℕ, zero, suc, ◌+◌, ◌<◌, ◌≤◌, Bool, true, false, List, [], ◌∷◌, ◌++◌, length, map, Option, Some, None, refl, sym, ap, ◌∙◌, arith, append_assoc, append-nil, inl, inr}
use Rattle.std.specs.Prelude.{◌≢◌, ◌⊎◌, ◌-◌, is_some, nat_lt, unwrap_or, if◌then◌else◌}
use Rattle.std.specs.Option.{option_map}
use Rattle.std.proofs.lemmas.Bool.{cases_eq, false≢true, le-ltb, lt-ltb, ltb-false, ltb-true}
use Rattle.std.proofs.lemmas.List.{length-map, map-append}
use Rattle.machine_laws.proofs.Threading.ThreadAnswerLemmas.{same_thread-self}
use Rattle.machine_laws.proofs.Threading.ThreadPutLemmas.{alike}
use Rattle.machine_model.specs.State.Changes.{replies}
use Rattle.machine_model.specs.State.Machine.{Thread}
use Rattle.machine_model.specs.State.Threads.{Answers, answer_to, with_answer}
use Rattle.machine_model.specs.Stepping.Step.{record_of}
use Rattle.send_path.specs.Rows.{log_with}
use Rattle.xk_parts.specs.Threads.{ThreadMap, answered}
use Rattle.xk_base.proofs.CircleLemmas.{id_at-place_of, place_of-bound, place_of-id_at}
use Rattle.xk_base.proofs.CountingLemmas.{count_below-bound, length-listed_below}
use Rattle.xk_base.specs.Log.{LogState}
use Rattle.xk_base.specs.Tables.Circle.{id_at, is_thread_id, listed_ids, place_of, same_thread, thread_ids}
use Rattle.xk_base.specs.Tables.Counting.{listed_below}
use Rattle.xk_base.specs.declared.ids.ThreadId.{ThreadId}
use Rattle.xk_base.specs.declared.limits.TheConstants.{PROCESS_LIMIT}
use Rattle.xk_base.specs.declared.records.What.{What}
use Rattle.xk_base.specs.declared.records.What.TheVariants.{Reply}
use Rattle.kill_path.specs.Telling.{told_to, words_for}
use Rattle.kill_path.specs.ThreadSets.{ThreadSet}

-- how many ids there are, of as many processes as there can be
abbrev pub ids_of_all : ℕ
ids_of_all = thread_ids PROCESS_LIMIT

-- the answers to the threads at the places below k
abbrev pub below : ℕ → Answers → Answers
below k answers id = if nat_lt (place_of id) k then answers id else None

-- their records
abbrev pub replies_below : ℕ → Answers → List What
replies_below k answers = map (λ id. Reply id (unwrap_or (answers id) [])) (map id_at (listed_below k (λ j. is_some (answers (id_at j)))))

pub no_replies : (answers : Answers) → replies_below 0 answers ≡ []
unfolding listed_below
no_replies answers = refl

-- ---- the log

pub log_both : (xs ys : List What) (l : LogState) → log_with (xs ++ ys) l ≡ log_with ys (log_with xs l)
log_both xs ys l = λ i. record l {
  records = (ap (λ rs. l.records ++ rs) (map-append (record_of l.step) xs ys) ∙ sym (append_assoc l.records (map (record_of l.step) xs) (map (record_of l.step) ys))) i;
}

pub log_none : (l : LogState) → log_with [] l ≡ l
log_none l = λ i. record l { records = append-nil l.records i }

-- ---- threads

pub unanswered : (o : Option Thread) → option_map (with_answer None) o ≡ o
unanswered None = refl
unanswered (Some t) = refl

module _ (n : ℕ) (answers : Answers) (known : (id : ThreadId) → is_some (answers id) ≡ true → is_thread_id n id ≡ true) (few : n ≤ 64) where
  none_unknown : (id : ThreadId) → is_thread_id n id ≡ false → answers id ≡ None
  none_unknown id e = go (answers id) refl
    where
      go : (o : Option (List ℕ)) → answers id ≡ o → o ≡ None
      go None q = refl
      go (Some words) q = absurd (false≢true (sym e ∙ known id (ap is_some q)))

  -- nobody is answered at first
  pub none_below : (threads : ThreadMap) → answered (below 0 answers) threads ≡ threads
  none_below threads = λ i id.
      (ap (λ b. option_map (with_answer (if b then answers id else None)) (threads id)) (le-ltb (place_of id) 0 (omega arith)) ∙ unanswered (threads id)) i

  -- and all in the end
  pub all_below : below ids_of_all answers ≡ answers
  all_below = λ i id. go id (is_thread_id n id) refl i
    where
      go : (id : ThreadId) (b : Bool) → is_thread_id n id ≡ b → below ids_of_all answers id ≡ answers id
      go id true e =
          let low : place_of id < thread_ids n = place_of-bound n id e in
          ap (λ b. if b then answers id else None) (lt-ltb (place_of id) ids_of_all (omega arith))
      go id false e = same (nat_lt (place_of id) ids_of_all)
        where
          same : (b : Bool) → (if b then answers id else None) ≡ answers id
          same true = refl
          same false = sym (none_unknown id e)

  module _ (k : ℕ) (threads : ThreadMap) where
    -- the ids at other places, and those that are none of these processes'
    other_place : (id : ThreadId) → place_of id ≢ k → same_thread id (id_at k) ≡ false
    other_place id ne = go (same_thread id (id_at k)) refl
      where
        go : (b : Bool) → same_thread id (id_at k) ≡ b → b ≡ false
        go false e = refl
        go true e = absurd (ne (ap place_of (alike id (id_at k) e) ∙ place_of-id_at k))

    none_there : (id : ThreadId) → place_of id ≡ k → same_thread id (id_at k) ≡ false → answers id ≡ None
    none_there id at apart = go (is_thread_id n id) refl
      where
        go : (b : Bool) → is_thread_id n id ≡ b → answers id ≡ None
        go false e = none_unknown id e
        go true e =
            absurd (false≢true (sym apart ∙ ap (λ x. same_thread x (id_at k)) (sym (id_at-place_of n id e) ∙ ap id_at at) ∙ same_thread-self (id_at k)))

    below_now : (id : ThreadId) (o : Option (List ℕ)) → place_of id ≡ k → below (suc k) answers id ≡ answers id
    below_now id o at = ap (λ b. if b then answers id else None) (lt-ltb (place_of id) (suc k) (omega arith))

    -- the places below the next one are those below this one, and this one
    same_below : (id : ThreadId) → place_of id ≢ k → below (suc k) answers id ≡ below k answers id
    same_below id ne = go (nat_lt (place_of id) k) refl
      where
        go : (b : Bool) → nat_lt (place_of id) k ≡ b → below (suc k) answers id ≡ (if b then answers id else None)
        go true e =
            let low : place_of id < k = ltb-true (place_of id) k e in
            ap (λ b. if b then answers id else None) (lt-ltb (place_of id) (suc k) (omega arith))
        go false e =
            let high : k ≤ place_of id = ltb-false (place_of id) k e in
            let above : suc k ≤ place_of id = omega (arith, ne) in
            ap (λ b. if b then answers id else None) (le-ltb (place_of id) (suc k) above)

    not_below : (id : ThreadId) → place_of id ≡ k → below k answers id ≡ None
    not_below id at = ap (λ b. if b then answers id else None) (le-ltb (place_of id) k (omega arith))

    none_more_at : answers (id_at k) ≡ None → (id : ThreadId) → below (suc k) answers id ≡ below k answers id
    none_more_at none id = by_place (cases_eq (place_of id) k)
      where
        here : place_of id ≡ k → (b : Bool) → same_thread id (id_at k) ≡ b → answers id ≡ None
        here at true e = ap answers (alike id (id_at k) e) ∙ none
        here at false e = none_there id at e

        by_place : (place_of id ≡ k) ⊎ (place_of id ≡ k → ⊥) → below (suc k) answers id ≡ below k answers id
        by_place (inl at) = below_now id None at ∙ here at (same_thread id (id_at k)) refl ∙ sym (not_below id at)
        by_place (inr ne) = same_below id ne

    -- the thread at the place isn't answered
    none_more : answers (id_at k) ≡ None → answered (below (suc k) answers) threads ≡ answered (below k answers) threads
    none_more none = λ i id. option_map (with_answer (none_more_at none id i)) (threads id)

    one_more : (words : List ℕ) → answers (id_at k) ≡ Some words
        → answered (below (suc k) answers) threads ≡ answered (answer_to (id_at k) words) (answered (below k answers) threads)
    one_more words some = λ i id. at id i
      where
        twice : (o : Option Thread) → option_map (with_answer (Some words)) o ≡ option_map (with_answer (Some words)) (option_map (with_answer None) o)
        twice o = sym (ap (option_map (with_answer (Some words))) (unanswered o))

        here : (id : ThreadId) → place_of id ≡ k → (b : Bool) → same_thread id (id_at k) ≡ b
            → option_map (with_answer (answers id)) (threads id)
            ≡ option_map (with_answer (if b then Some words else None)) (option_map (with_answer None) (threads id))
        here id at true e = ap (λ o. option_map (with_answer o) (threads id)) (ap answers (alike id (id_at k) e) ∙ some) ∙ twice (threads id)
        here id at false e =
            ap (λ o. option_map (with_answer o) (threads id)) (none_there id at e) ∙ sym (unanswered (option_map (with_answer None) (threads id)))

        by_place : (id : ThreadId) → (place_of id ≡ k) ⊎ (place_of id ≡ k → ⊥)
            → option_map (with_answer (below (suc k) answers id)) (threads id)
            ≡ option_map (with_answer (if same_thread id (id_at k) then Some words else None)) (option_map (with_answer (below k answers id)) (threads id))
        by_place id (inl at) =
            ap (λ o. option_map (with_answer o) (threads id)) (below_now id None at)
            ∙ here id at (same_thread id (id_at k)) refl
            ∙ ap (λ o. option_map (with_answer (if same_thread id (id_at k) then Some words else None)) (option_map (with_answer o) (threads id)))
            (sym (not_below id at))
        by_place id (inr ne) =
            ap (λ o. option_map (with_answer o) (threads id)) (same_below id ne)
            ∙ sym (unanswered (option_map (with_answer (below k answers id)) (threads id)))
            ∙ ap (λ b. option_map (with_answer (if b then Some words else None)) (option_map (with_answer (below k answers id)) (threads id)))
            (sym (other_place id ne))

        at : (id : ThreadId) → option_map (with_answer (below (suc k) answers id)) (threads id)
            ≡ option_map (with_answer (if same_thread id (id_at k) then Some words else None)) (option_map (with_answer (below k answers id)) (threads id))
        at id = by_place id (cases_eq (place_of id) k)

  -- nobody is answered at the places from a on, up to b
  pub none_between : (a b : ℕ) → a ≤ b → (threads : ThreadMap) → ((j : ℕ) → a ≤ j → j < b → answers (id_at j) ≡ None)
      → answered (below b answers) threads ≡ answered (below a answers) threads
  none_between a b order threads none =
      let whole : a + (b - a) ≡ b = omega (arith, order) in
      sym (ap (λ k. answered (below k answers) threads) whole) ∙ go (b - a) (λ j low high. none j low (omega (arith, high, whole)))
    where
      go : (more : ℕ) → ((j : ℕ) → a ≤ j → j < a + more → answers (id_at j) ≡ None) → answered (below (a + more) answers) threads ≡ answered (below a answers) threads
      go zero h = let same : a + 0 ≡ a = omega arith in ap (λ k. answered (below k answers) threads) same
      go (suc more) h =
          let next : a + suc more ≡ suc (a + more) = omega arith in
          ap (λ k. answered (below k answers) threads) next
          ∙ none_more (a + more) threads (h (a + more) (omega arith) (omega arith))
          ∙ go more (λ j low high. h j low (omega (arith, high)))

  -- ---- records

  pub no_record : (k : ℕ) → answers (id_at k) ≡ None → replies_below (suc k) answers ≡ replies_below k answers
  unfolding listed_below
  no_record k none =
      ap (λ b. map (λ id. Reply id (unwrap_or (answers id) [])) (map id_at (listed_below k (λ j. is_some (answers (id_at j))) ++ (if b then k ∷ [] else [])))) (ap is_some none)
      ∙ ap (λ ks. map (λ id. Reply id (unwrap_or (answers id) [])) (map id_at ks)) (append-nil (listed_below k (λ j. is_some (answers (id_at j)))))

  pub one_record : (k : ℕ) (words : List ℕ) → answers (id_at k) ≡ Some words
      → replies_below (suc k) answers ≡ replies_below k answers ++ Reply (id_at k) words ∷ []
  unfolding listed_below
  one_record k words some =
      ap (λ b. map (λ id. Reply id (unwrap_or (answers id) [])) (map id_at (listed_below k (λ j. is_some (answers (id_at j))) ++ (if b then k ∷ [] else [])))) (ap is_some some)
      ∙ ap (map (λ id. Reply id (unwrap_or (answers id) []))) (map-append id_at (listed_below k (λ j. is_some (answers (id_at j)))) (k ∷ []))
      ∙ map-append (λ id. Reply id (unwrap_or (answers id) [])) (map id_at (listed_below k (λ j. is_some (answers (id_at j))))) (id_at k ∷ [])
      ∙ ap (λ o. replies_below k answers ++ Reply (id_at k) (unwrap_or o []) ∷ []) some

  pub no_records_between : (a b : ℕ) → a ≤ b → ((j : ℕ) → a ≤ j → j < b → answers (id_at j) ≡ None)
      → replies_below b answers ≡ replies_below a answers
  no_records_between a b order none =
      let whole : a + (b - a) ≡ b = omega (arith, order) in
      sym (ap (λ k. replies_below k answers) whole) ∙ go (b - a) (λ j low high. none j low (omega (arith, high, whole)))
    where
      go : (more : ℕ) → ((j : ℕ) → a ≤ j → j < a + more → answers (id_at j) ≡ None) → replies_below (a + more) answers ≡ replies_below a answers
      go zero h = let same : a + 0 ≡ a = omega arith in ap (λ k. replies_below k answers) same
      go (suc more) h =
          let next : a + suc more ≡ suc (a + more) = omega arith in
          ap (λ k. replies_below k answers) next
          ∙ no_record (a + more) (h (a + more) (omega arith) (omega arith))
          ∙ go more (λ j low high. h j low (omega (arith, high)))

  none_past : (j : ℕ) → thread_ids n ≤ j → is_some (answers (id_at j)) ≡ false
  none_past j high = go (is_some (answers (id_at j))) refl
    where
      go : (b : Bool) → is_some (answers (id_at j)) ≡ b → b ≡ false
      go false e = refl
      go true e =
          let low : place_of (id_at j) < thread_ids n = place_of-bound n (id_at j) (known (id_at j) e) in
          let at : place_of (id_at j) ≡ j = place_of-id_at j in
          absurd (omega arith)

  listed_more : (more : ℕ) → listed_below (more + thread_ids n) (λ j. is_some (answers (id_at j))) ≡ listed_below (thread_ids n) (λ j. is_some (answers (id_at j)))
  unfolding listed_below
  listed_more zero = let same : 0 + thread_ids n ≡ thread_ids n = omega arith in ap (λ m. listed_below m (λ j. is_some (answers (id_at j)))) same
  listed_more (suc more) =
      let next : suc more + thread_ids n ≡ suc (more + thread_ids n) = omega arith in
      ap (λ m. listed_below m (λ j. is_some (answers (id_at j)))) next
      ∙ ap (λ b. listed_below (more + thread_ids n) (λ j. is_some (answers (id_at j))) ++ (if b then (more + thread_ids n) ∷ [] else []))
      (none_past (more + thread_ids n) (let high : thread_ids n ≤ more + thread_ids n = omega arith in high))
      ∙ append-nil (listed_below (more + thread_ids n) (λ j. is_some (answers (id_at j)))) ∙ listed_more more

  -- all records are those of the answers
  pub all_records : replies_below ids_of_all answers ≡ replies n answers
  unfolding listed_ids
  all_records =
      let whole : ids_of_all ≡ ids_of_all - thread_ids n + thread_ids n = omega arith in
      ap (λ ks. map (λ id. Reply id (unwrap_or (answers id) [])) (map id_at ks))
      (ap (λ m. listed_below m (λ j. is_some (answers (id_at j)))) whole ∙ listed_more (ids_of_all - thread_ids n))

  pub records_few : (k : ℕ) → length (replies_below k answers) ≤ k
  records_few k =
      let a : length (replies_below k answers) ≡ length (map id_at (listed_below k (λ j. is_some (answers (id_at j))))) =
      length-map (map id_at (listed_below k (λ j. is_some (answers (id_at j))))) (λ id. Reply id (unwrap_or (answers id) [])) in
      let b : length (map id_at (listed_below k (λ j. is_some (answers (id_at j))))) ≡ length (listed_below k (λ j. is_some (answers (id_at j)))) =
      length-map (listed_below k (λ j. is_some (answers (id_at j)))) id_at in
      let c = length-listed_below k (λ j. is_some (answers (id_at j))) in
      let d = count_below-bound k (λ j. is_some (answers (id_at j))) in
      omega arith

  -- ---- one more place, whose thread is answered

  module _ (k next : ℕ) (counted : next ≡ suc k) (words : List ℕ) (is : answers (id_at k) ≡ Some words) where
    pub threads_next : (before now after : ThreadMap) → now ≡ answered (below k answers) before
        → after ≡ answered (answer_to (id_at k) words) now → after ≡ answered (below next answers) before
    threads_next before now after e f =
        f ∙ ap (answered (answer_to (id_at k) words)) e ∙ sym (one_more k before words is) ∙ ap (λ m. answered (below m answers) before) (sym counted)

    pub log_next : (before now after : LogState) → now ≡ log_with (replies_below k answers) before
        → after ≡ log_with (Reply (id_at k) words ∷ []) now → after ≡ log_with (replies_below next answers) before
    log_next before now after e f =
        f ∙ ap (log_with (Reply (id_at k) words ∷ [])) e ∙ sym (log_both (replies_below k answers) (Reply (id_at k) words ∷ []) before)
        ∙ ap (λ told. log_with told before) (sym (one_record k words is)) ∙ ap (λ m. log_with (replies_below m answers) before) (sym counted)

-- whoever is told is noted
pub told_noted : (served : Option ThreadId) (noted : ThreadSet) (id : ThreadId) → is_some (told_to served noted id) ≡ true → noted id ≡ true
told_noted served noted id e = go (noted id) e
  where
    go : (b : Bool) → is_some {T = List ℕ} (if b then Some (words_for served id) else None) ≡ true → b ≡ true
    go true q = refl
    go false q = q
