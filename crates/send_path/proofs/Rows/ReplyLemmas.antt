-- The records of the answers of one call, in ascending order of thread.
use Rattle.std.proofs.Common.{◌≡◌, ℕ, zero, suc, ◌<◌, ◌≤◌, Bool, true, false, List, [], ◌∷◌, ◌++◌, Option, Some, None, refl, sym, ap, ◌∙◌, arith, append_assoc, inl, inr}
use Rattle.std.specs.Prelude.{◌≢◌, ◌==◌, ◌&&◌, ◌||◌, is_some, map, nat_le, nat_lt, unwrap_or, if◌then◌else◌}
use Rattle.std.specs.Option.{option_map, option_or}
use Rattle.std.proofs.lemmas.Bool.{and_parts, cases_lt, eq-eqb, eqb-true, false≢true}
use Rattle.std.proofs.lemmas.Bool.Decides.{nat_tests}
use Rattle.machine_laws.proofs.Threading.ThreadAnswerLemmas.{same_thread-self}
use Rattle.machine_laws.proofs.Threading.ThreadPutLemmas.{alike}
use Rattle.machine_model.specs.State.Changes.{replies}
use Rattle.machine_model.specs.State.Machine.{Thread}
use Rattle.machine_model.specs.State.Threads.{Answers, answer_to, both_answers, no_answers, with_answer}
use Rattle.machine_model.specs.Stepping.Step.{record_of}
use Rattle.xk_base.proofs.CircleLemmas.{id_at-place_of, is_pid-bounds, place_of-bound, place_of-id_at}
use Rattle.xk_base.specs.Tables.Circle.{id_at, is_pid, is_thread_id, is_tid, listed_ids, place_of, same_thread, thread_ids}
use Rattle.xk_base.specs.Tables.Counting.{listed_below}
use Rattle.xk_base.specs.declared.ids.ThreadId.{ThreadId}
use Rattle.xk_base.specs.Log.{LogState}
use Rattle.xk_base.specs.declared.records.What.{What}
use Rattle.xk_base.specs.declared.records.What.TheVariants.{Reply}
use Rattle.send_path.specs.Rows.{log_with}
use Rattle.xk_parts.specs.Threads.{ThreadMap, answered}
use Rattle.send_path.specs.Threads.{is_before}

pub none_listed : (n : ℕ) (f : ℕ → Bool) → ((j : ℕ) → j < n → f j ≡ false) → listed_below n f ≡ []
unfolding listed_below
none_listed zero f none = refl
none_listed (suc n) f none = λ i. (none_listed n f (λ j l. none j (omega arith)) i) ++ (if none n (omega arith) i then n ∷ [] else [])

pub one_listed : (n k : ℕ) (f : ℕ → Bool) → k < n → f k ≡ true → ((j : ℕ) → j < n → j ≢ k → f j ≡ false) → listed_below n f ≡ k ∷ []
unfolding listed_below
one_listed zero k f l here others = absurd (omega arith)
one_listed (suc n) k f l here others =
    elim (cases_lt k n) [
      | inl below ↦
          let last : f n ≡ false = others n (omega arith) (λ e. absurd (omega arith)) in
          λ i. (one_listed n k f below here (λ j b. others j (omega arith)) i) ++ (if last i then n ∷ [] else [])
      | inr above ↦
          let same : n ≡ k = omega arith in
          let last : f n ≡ true = ap f same ∙ here in
          (λ i. (none_listed n f (λ j b. others j (omega arith) (λ e. absurd (omega arith))) i) ++ (if last i then n ∷ [] else []))
          ∙ ap (λ j. j ∷ []) same
    ]

answered_alone : (n : ℕ) (who : ThreadId) (words : List ℕ) → is_thread_id n who ≡ true
    → listed_ids n (λ id. is_some (answer_to who words id)) ≡ who ∷ []
unfolding listed_ids
answered_alone n who words h =
    ap (map id_at) (one_listed (thread_ids n) (place_of who) (λ k. is_some (answer_to who words (id_at k))) (place_of-bound n who h)
    (ap (λ id. is_some (answer_to who words id)) (id_at-place_of n who h) ∙ ap (λ b. is_some (if b then Some words else None)) (same_thread-self who))
    (λ j l other. go j other (same_thread (id_at j) who) refl))
    ∙ ap (λ id. id ∷ []) (id_at-place_of n who h)
  where
    go : (j : ℕ) → j ≢ place_of who → (b : Bool) → same_thread (id_at j) who ≡ b → is_some (if b then Some words else None) ≡ false
    go j other true e = absurd (other (sym (place_of-id_at j) ∙ ap place_of (alike (id_at j) who e)))
    go j other false e = refl

-- one answer has one record
pub one_reply : (n : ℕ) (who : ThreadId) (words : List ℕ) → is_thread_id n who ≡ true → replies n (answer_to who words) ≡ Reply who words ∷ []
one_reply n who words h =
    ap (map (λ id. Reply id (unwrap_or (answer_to who words id) []))) (answered_alone n who words h)
    ∙ ap (λ b. Reply who (unwrap_or (if b then Some words else None) []) ∷ []) (same_thread-self who)

-- and none has none
pub no_reply : (n : ℕ) → replies n no_answers ≡ []
unfolding listed_ids
no_reply n = ap (λ ks. map (λ id. Reply id (unwrap_or (no_answers id) [])) (map id_at ks)) (none_listed (thread_ids n) (λ k. false) (λ j l. refl))

-- ---- two answers

two_listed : (n j k : ℕ) (f : ℕ → Bool) → j < k → k < n → f j ≡ true → f k ≡ true
    → ((i : ℕ) → i < n → i ≢ j → i ≢ k → f i ≡ false) → listed_below n f ≡ j ∷ k ∷ []
unfolding listed_below
two_listed zero j k f l m first second others = absurd (omega arith)
two_listed (suc n) j k f l m first second others =
    elim (cases_lt k n) [
      | inl below ↦
          let last : f n ≡ false = others n (omega arith) (λ e. absurd (omega arith)) (λ e. absurd (omega arith)) in
          λ i. (two_listed n j k f l below first second (λ q b. others q (omega arith)) i) ++ (if last i then n ∷ [] else [])
      | inr above ↦
          let same : n ≡ k = omega arith in
          let last : f n ≡ true = ap f same ∙ second in
          (λ i. (one_listed n j f (omega arith) first (λ q b ne. others q (omega arith) ne (λ e. absurd (omega arith))) i) ++ (if last i then n ∷ [] else []))
          ∙ ap (λ q. j ∷ q ∷ []) same
    ]

module _ (n : ℕ) (a b : ThreadId) (x y : List ℕ) (answers : Answers) (va : is_thread_id n a ≡ true) (vb : is_thread_id n b ≡ true)
    (first : answers a ≡ Some x) (second : answers b ≡ Some y)
    (others : (id : ThreadId) → same_thread id a ≡ false → same_thread id b ≡ false → answers id ≡ None) where
  elsewhere : (c : ThreadId) (j : ℕ) → j ≢ place_of c → same_thread (id_at j) c ≡ false
  elsewhere c j ne = go (same_thread (id_at j) c) refl
    where
      go : (t : Bool) → same_thread (id_at j) c ≡ t → t ≡ false
      go false e = refl
      go true e = absurd (ne (sym (place_of-id_at j) ∙ ap place_of (alike (id_at j) c e)))

  pub two_told : place_of a < place_of b → replies n answers ≡ Reply a x ∷ Reply b y ∷ []
  unfolding listed_ids
  two_told l =
      ap (λ ks. map (λ id. Reply id (unwrap_or (answers id) [])) (map id_at ks))
      (two_listed (thread_ids n) (place_of a) (place_of b) (λ k. is_some (answers (id_at k))) l (place_of-bound n b vb)
      (ap (λ id. is_some (answers id)) (id_at-place_of n a va) ∙ ap is_some first)
      (ap (λ id. is_some (answers id)) (id_at-place_of n b vb) ∙ ap is_some second)
      (λ j low na nb. ap is_some (others (id_at j) (elsewhere a j na) (elsewhere b j nb))))
      ∙ (λ i. Reply (id_at-place_of n a va i) (unwrap_or (answers (id_at-place_of n a va i)) [])
      ∷ Reply (id_at-place_of n b vb i) (unwrap_or (answers (id_at-place_of n b vb i)) []) ∷ [])
      ∙ (λ i. Reply a (unwrap_or (first i) []) ∷ Reply b (unwrap_or (second i) []) ∷ [])

-- ---- the order of two threads

record HasBounds (id : ThreadId) : Type 0 where
  pid : 2 ≤ id.pid.0
  low : 1 ≤ id.tid.0
  high : id.tid.0 ≤ 31

bounds : (n : ℕ) (id : ThreadId) → is_thread_id n id ≡ true → HasBounds id
bounds n id h =
    let parts : (is_pid n id.pid.0 ≡ true) × (is_tid id.tid.0 ≡ true) = and_parts (is_pid n id.pid.0) (is_tid id.tid.0) h in
    let tids : (nat_le 1 id.tid.0 ≡ true) × (nat_le id.tid.0 31 ≡ true) = and_parts (nat_le 1 id.tid.0) (nat_le id.tid.0 31) parts.1 in
    record { pid = (is_pid-bounds n id.pid.0 parts.0).0; low = le_of 1 id.tid.0 tids.0; high = le_of id.tid.0 31 tids.1 }
  where
    le_of : (p q : ℕ) → nat_le p q ≡ true → p ≤ q
    le_of p q e = grind (arith, nat_tests)

lt_of : (p q : ℕ) → nat_lt p q ≡ true → p < q
lt_of p q e = grind (arith, nat_tests)

not_lt_of : (p q : ℕ) → nat_lt p q ≡ false → q ≤ p
not_lt_of p q e = grind (arith, nat_tests)

pub before_place : (n : ℕ) (a b : ThreadId) → is_thread_id n a ≡ true → is_thread_id n b ≡ true → is_before a b ≡ true → place_of a < place_of b
before_place n a b va vb e = go (nat_lt a.pid.0 b.pid.0) refl e
  where
    x : HasBounds a
    x = bounds n a va

    y : HasBounds b
    y = bounds n b vb

    lower_pid : a.pid.0 < b.pid.0 → place_of a < place_of b
    lower_pid l = omega (arith, x.pid, x.low, x.high, y.pid, y.low, y.high)

    lower_tid : a.pid.0 ≡ b.pid.0 → a.tid.0 < b.tid.0 → place_of a < place_of b
    lower_tid s l = omega (arith, x.pid, x.low, x.high, y.pid, y.low, y.high)

    go : (t : Bool) → nat_lt a.pid.0 b.pid.0 ≡ t → (t || ((a.pid.0 == b.pid.0) && nat_lt a.tid.0 b.tid.0)) ≡ true → place_of a < place_of b
    go true q r = lower_pid (lt_of a.pid.0 b.pid.0 q)
    go false q r =
        let parts = and_parts (a.pid.0 == b.pid.0) (nat_lt a.tid.0 b.tid.0) r in
        lower_tid (eqb-true a.pid.0 b.pid.0 parts.0) (lt_of a.tid.0 b.tid.0 parts.1)

pub not_before_place : (n : ℕ) (a b : ThreadId) → is_thread_id n a ≡ true → is_thread_id n b ≡ true → same_thread a b ≡ false
    → is_before a b ≡ false → place_of b < place_of a
not_before_place n a b va vb apart e = by_pid (nat_lt a.pid.0 b.pid.0) refl e
  where
    x : HasBounds a
    x = bounds n a va

    y : HasBounds b
    y = bounds n b vb

    lower_pid : b.pid.0 ≤ a.pid.0 → a.pid.0 ≢ b.pid.0 → place_of b < place_of a
    lower_pid l ne = let m : b.pid.0 < a.pid.0 = omega arith in omega (arith, x.pid, x.low, x.high, y.pid, y.low, y.high)

    lower_tid : a.pid.0 ≡ b.pid.0 → b.tid.0 ≤ a.tid.0 → a.tid.0 ≢ b.tid.0 → place_of b < place_of a
    lower_tid s l ne = let m : b.tid.0 < a.tid.0 = omega arith in omega (arith, x.pid, x.low, x.high, y.pid, y.low, y.high)

    by_same : (s : Bool) → (a.pid.0 == b.pid.0) ≡ s → (s && (a.tid.0 == b.tid.0)) ≡ false → (s && nat_lt a.tid.0 b.tid.0) ≡ false
        → b.pid.0 ≤ a.pid.0 → place_of b < place_of a
    by_same true q r t l =
        lower_tid (eqb-true a.pid.0 b.pid.0 q) (not_lt_of a.tid.0 b.tid.0 t) (λ same. false≢true (sym r ∙ eq-eqb a.tid.0 b.tid.0 same))
    by_same false q r t l = lower_pid l (λ same. false≢true (sym q ∙ eq-eqb a.pid.0 b.pid.0 same))

    by_pid : (t : Bool) → nat_lt a.pid.0 b.pid.0 ≡ t → (t || ((a.pid.0 == b.pid.0) && nat_lt a.tid.0 b.tid.0)) ≡ false → place_of b < place_of a
    by_pid true q r = absurd (false≢true (sym r))
    by_pid false q r = by_same (a.pid.0 == b.pid.0) refl apart r (not_lt_of a.pid.0 b.pid.0 q)

-- ---- both are answered

pub not_same : (a b : ThreadId) → same_thread a b ≡ false → same_thread b a ≡ false
not_same a b e = go (same_thread b a) refl
  where
    go : (t : Bool) → same_thread b a ≡ t → t ≡ false
    go false q = refl
    go true q = absurd (false≢true (sym e ∙ ap (λ c. same_thread c b) (sym (alike b a q)) ∙ same_thread-self b))

module _ (a b : ThreadId) (x y : List ℕ) (apart : same_thread a b ≡ false) where
  both_first : both_answers (answer_to a x) (answer_to b y) a ≡ Some x
  both_first = ap (λ t. option_or (if t then Some x else None) (answer_to b y a)) (same_thread-self a)

  both_second : both_answers (answer_to a x) (answer_to b y) b ≡ Some y
  both_second =
      ap (λ t. option_or (if t then Some x else None) (answer_to b y b)) (not_same a b apart)
      ∙ ap (λ t. if t then Some y else None) (same_thread-self b)

  both_none : (id : ThreadId) → same_thread id a ≡ false → same_thread id b ≡ false → both_answers (answer_to a x) (answer_to b y) id ≡ None
  both_none id p q = λ i. option_or (if p i then Some x else None) (if q i then Some y else None)

  -- the records, in ascending order
  pub both_told : (n : ℕ) → is_thread_id n a ≡ true → is_thread_id n b ≡ true → is_before a b ≡ true
      → replies n (both_answers (answer_to a x) (answer_to b y)) ≡ Reply a x ∷ Reply b y ∷ []
  both_told n va vb e =
      two_told n a b x y (both_answers (answer_to a x) (answer_to b y)) va vb both_first both_second both_none (before_place n a b va vb e)

  pub both_told_back : (n : ℕ) → is_thread_id n a ≡ true → is_thread_id n b ≡ true → is_before a b ≡ false
      → replies n (both_answers (answer_to a x) (answer_to b y)) ≡ Reply b y ∷ Reply a x ∷ []
  both_told_back n va vb e =
      two_told n b a y x (both_answers (answer_to a x) (answer_to b y)) vb va both_second both_first (λ id p q. both_none id q p)
      (not_before_place n a b va vb apart e)

  -- the threads
  pub both_given : (threads : ThreadMap)
      → answered (answer_to b y) (answered (answer_to a x) threads) ≡ answered (both_answers (answer_to a x) (answer_to b y)) threads
  both_given threads = λ i id. at id (same_thread id a) (same_thread id b) refl refl (threads id) i
    where
      second : (o : Option Thread) → option_map (with_answer (Some y)) (option_map (with_answer None) o) ≡ option_map (with_answer (Some y)) o
      second None = refl
      second (Some t) = refl

      first : (w : Option (List ℕ)) (o : Option Thread) → option_map (with_answer None) (option_map (with_answer w) o) ≡ option_map (with_answer w) o
      first w None = refl
      first None (Some t) = refl
      first (Some v) (Some t) = refl

      at : (id : ThreadId) (p q : Bool) → same_thread id a ≡ p → same_thread id b ≡ q → (o : Option Thread)
          → option_map (with_answer (if q then Some y else None)) (option_map (with_answer (if p then Some x else None)) o)
          ≡ option_map (with_answer (option_or (if p then Some x else None) (if q then Some y else None))) o
      at id true true e f o =
          absurd (false≢true (sym apart ∙ ap (λ c. same_thread c b) (sym (alike id a e)) ∙ f))
      at id true false e f o = first (Some x) o
      at id false true e f o = second o
      at id false false e f o = first None o

pub both_with_none : (answers : Answers) → both_answers answers no_answers ≡ answers
both_with_none answers = λ i id. same (answers id) i
  where
    same : (o : Option (List ℕ)) → option_or o None ≡ o
    same None = refl
    same (Some words) = refl

-- ---- two records in the log

abbrev pub pushed : What → LogState → LogState
pushed what log = record log { records = log.records ++ record_of log.step what ∷ [] }

pub pushed_two : (old mid new : LogState) (p q : What) → mid ≡ pushed p old → new ≡ pushed q mid → new ≡ log_with (p ∷ q ∷ []) old
pushed_two old mid new p q e f =
    f ∙ ap (pushed q) e
    ∙ (λ i. record old { records = append_assoc old.records (record_of old.step p ∷ []) (record_of old.step q ∷ []) i })
