-- The threads of one process that are answered, as part of all in ascending order.
use Rattle.std.proofs.Common.{◌≡◌, ℕ, zero, suc, ◌+◌, ◌-◌, ◌*◌, ◌<◌, ◌≤◌, Bool, true, false, List, [], ◌∷◌, ◌++◌, length, map, Option, Some, None, refl, sym, ap, ◌∙◌, arith, append_assoc, append-nil, inl, inr}
use Rattle.std.specs.Prelude.{◌≢◌, ◌⊎◌, ◌==◌, ◌&&◌, is_some, nat_lt, if◌then◌else◌}
use Rattle.std.specs.Option.{option_map}
use Rattle.std.proofs.lemmas.Bool.{cases_eq, cases_lt, eq-eqb, eqb-true, false≢true, le-ltb, lt-ltb, ne_eqb}
use Rattle.std.proofs.lemmas.Bool.Decides.{nat_tests}
use Rattle.std.proofs.lemmas.List.{length-append, length-map}
use Rattle.machine_model.specs.State.Changes.{replies}
use Rattle.machine_model.specs.State.Machine.{Thread}
use Rattle.machine_model.specs.State.Threads.{Answers, answer_to, with_answer}
use Rattle.machine_model.specs.Stepping.Step.{record_of}
use Rattle.send_path.specs.Rows.{log_with}
use Rattle.xk_parts.specs.Threads.{ThreadMap, answered}
use Rattle.xk_base.proofs.CircleLemmas.{is_pid-bounds, same_ids}
use Rattle.xk_base.specs.Log.{LogState}
use Rattle.xk_base.specs.Tables.Circle.{id_at, is_pid, is_thread_id, place_of, thread_ids}
use Rattle.xk_base.specs.declared.ids.Pid.{Pid}
use Rattle.xk_base.specs.declared.ids.ThreadId.{ThreadId}
use Rattle.xk_base.specs.declared.limits.TheConstants.{PROCESS_LIMIT}
use Rattle.xk_base.specs.declared.records.What.{What}
use Rattle.xk_base.specs.declared.records.What.TheVariants.{Reply}
use Rattle.kill_path.proofs.Threads.TellLemmas.{all_below, all_records, below, ids_of_all, log_both, log_next, log_none, no_record, no_records_between, no_replies, none_below, none_between, one_record, records_few, replies_below, threads_next, told_noted, unanswered}
use Rattle.kill_path.specs.Telling.{told_to, words_for}
use Rattle.kill_path.specs.ThreadSets.{ThreadSet, of_process, thread_of}

and_false : (a : Bool) → (a && false) ≡ false
and_false true = refl
and_false false = refl

both_true : (a b : Bool) → (a && b) ≡ true → b ≡ true
both_true true b e = e
both_true false b e = absurd (false≢true e)

-- how many processes there may be
most : 64 ≤ 64
most = omega arith

-- the process of a row
abbrev pub row_pid : ℕ → Pid
row_pid row = record { 0 = row + 2 }

pub pid_of_row : (row : ℕ) → row < 64 → is_pid PROCESS_LIMIT (row + 2) ≡ true
pid_of_row row few = grind (arith, nat_tests)

-- whoever of the process is in the set is
pub noted_of : (pid : Pid) (set : ThreadSet) (id : ThreadId) → of_process pid set id ≡ true → set id ≡ true
noted_of pid set id e = both_true (id.pid.0 == pid.0) (set id) e

-- one more record is written
pub one_written : (what : What) (now after : LogState) → after ≡ log_with (what ∷ []) now → (length after.records ≡ length now.records + 1) × (after.room ≡ now.room)
one_written what now after e =
    (ap (λ (l : LogState). length l.records) e ∙ length-append now.records (map (record_of now.step) (what ∷ [])), ap (λ (l : LogState). l.room) e)

module _ (served : Option ThreadId) (set : ThreadSet) (known : (id : ThreadId) → set id ≡ true → is_thread_id PROCESS_LIMIT id ≡ true) (pid : Pid) where
  -- the answers to the threads of the process
  abbrev pub mine : Answers
  mine = told_to served (of_process pid set)

  -- the place of the tid, of the process
  abbrev pub place_in : ℕ → ℕ
  place_in tid = (pid.0 - 2) * 31 + (tid - 1)

  mine_known : (id : ThreadId) → is_some (mine id) ≡ true → is_thread_id PROCESS_LIMIT id ≡ true
  mine_known id e = known id (noted_of pid set id (told_noted served (of_process pid set) id e))

  unnoted : (id : ThreadId) → set id ≡ false → mine id ≡ None
  unnoted id e = ap (λ b. if b then Some (words_for served id) else None) (ap (λ b. (id.pid.0 == pid.0) && b) e ∙ and_false (id.pid.0 == pid.0))

  strange : (id : ThreadId) → id.pid.0 ≢ pid.0 → mine id ≡ None
  strange id ne = ap (λ b. if b && set id then Some (words_for served id) else None) (ne_eqb id.pid.0 pid.0 ne)

  own : (id : ThreadId) → id.pid.0 ≡ pid.0 → mine id ≡ told_to served set id
  own id same = ap (λ b. if b && set id then Some (words_for served id) else None) (eq-eqb id.pid.0 pid.0 same)

  pub own_noted : (tid : ℕ) → set (thread_of pid tid) ≡ true → of_process pid set (thread_of pid tid) ≡ true
  own_noted tid e = λ i. eq-eqb pid.0 pid.0 refl i && e i

  module _ (is : is_pid PROCESS_LIMIT pid.0 ≡ true) where
    bounds : (2 ≤ pid.0) × (pid.0 < 66)
    bounds = is_pid-bounds PROCESS_LIMIT pid.0 is

    -- nobody at the places of the processes before ..
    none_before : (j : ℕ) → 0 ≤ j → j < place_in 1 → mine (id_at j) ≡ None
    none_before j low early = strange (id_at j) (λ same. let b : 2 ≤ pid.0 = bounds.0 in omega (arith, early, same, b))

    -- .. and behind
    none_behind : (j : ℕ) → place_in 32 ≤ j → j < ids_of_all → mine (id_at j) ≡ None
    none_behind j late high = strange (id_at j) (λ same. let b : 2 ≤ pid.0 = bounds.0 in omega (arith, late, same, b))

    at_place : (tid : ℕ) → 1 ≤ tid → tid ≤ 31 → id_at (place_in tid) ≡ thread_of pid tid
    at_place tid low few =
        let b : 2 ≤ pid.0 = bounds.0 in
        same_ids (id_at (place_in tid)) (thread_of pid tid) (omega (arith, low, few, b)) (omega (arith, low, few, b))

    -- the tids from this one on, up to that one, aren't noted
    module _ (from to : ℕ) (some : 1 ≤ from) (few : to ≤ 32) (none : (tid : ℕ) → from ≤ tid → tid < to → set (thread_of pid tid) ≡ false) where
      none_in : (j : ℕ) → place_in from ≤ j → j < place_in to → mine (id_at j) ≡ None
      none_in j low high =
          let tid : ℕ = j - (pid.0 - 2) * 31 + 1 in
          let place : j ≡ place_in tid = omega (arith, low, some) in
          let early : tid < to = omega (arith, low, high, some) in
          let late : from ≤ tid = omega (arith, low, some) in
          let top : tid ≤ 31 = omega (arith, early, few) in
          let bottom : 1 ≤ tid = omega (arith, late, some) in
          let there : id_at j ≡ thread_of pid tid = ap id_at place ∙ at_place tid bottom top in
          ap mine there ∙ unnoted (thread_of pid tid) (none tid late early)

      threads_past : from ≤ to → (before : ThreadMap) → answered (below (place_in to) mine) before ≡ answered (below (place_in from) mine) before
      threads_past order before =
          let up : place_in from ≤ place_in to = omega (arith, order) in
          none_between PROCESS_LIMIT mine mine_known most (place_in from) (place_in to) up before none_in

      records_past : from ≤ to → replies_below (place_in to) mine ≡ replies_below (place_in from) mine
      records_past order =
          let up : place_in from ≤ place_in to = omega (arith, order) in
          no_records_between PROCESS_LIMIT mine mine_known most (place_in from) (place_in to) up none_in

    high : place_in 32 ≤ ids_of_all
    high = let b : pid.0 < 66 = bounds.1 in let c : 2 ≤ pid.0 = bounds.0 in omega (arith, b, c)

    -- ---- nobody is told at first, and all are in the end

    pub threads_first : (before : ThreadMap) → before ≡ answered (below (place_in 1) mine) before
    threads_first before =
        sym (none_between PROCESS_LIMIT mine mine_known most 0 (place_in 1) (omega arith) before none_before
        ∙ none_below PROCESS_LIMIT mine mine_known most before)

    records_first : replies_below (place_in 1) mine ≡ []
    records_first = no_records_between PROCESS_LIMIT mine mine_known most 0 (place_in 1) (omega arith) none_before ∙ no_replies mine

    pub log_first : (before : LogState) → before ≡ log_with (replies_below (place_in 1) mine) before
    log_first before = sym (ap (λ told. log_with told before) records_first ∙ log_none before)

    threads_last : (before : ThreadMap) → answered (below (place_in 32) mine) before ≡ answered mine before
    threads_last before =
        sym (none_between PROCESS_LIMIT mine mine_known most (place_in 32) ids_of_all high before none_behind)
        ∙ ap (λ a. answered a before) (all_below PROCESS_LIMIT mine mine_known most)

    records_last : replies_below (place_in 32) mine ≡ replies PROCESS_LIMIT mine
    records_last =
        sym (no_records_between PROCESS_LIMIT mine mine_known most (place_in 32) ids_of_all high none_behind)
        ∙ all_records PROCESS_LIMIT mine mine_known most

    -- the tids from this one on aren't noted
    module _ (from : ℕ) (some : 1 ≤ from) (few : from ≤ 32) (none : (tid : ℕ) → from ≤ tid → set (thread_of pid tid) ≡ false) where
      pub threads_done : (before now : ThreadMap) → now ≡ answered (below (place_in from) mine) before → now ≡ answered mine before
      threads_done before now e =
          e ∙ sym (threads_past from 32 some (omega arith) (λ tid low early. none tid low) few before) ∙ threads_last before

      pub log_done : (before now : LogState) → now ≡ log_with (replies_below (place_in from) mine) before → now ≡ log_with (replies PROCESS_LIMIT mine) before
      log_done before now e =
          e ∙ ap (λ rs. log_with rs before) (sym (records_past from 32 some (omega arith) (λ tid low early. none tid low) few) ∙ records_last)

    -- ---- the next tid that is noted

    module _ (from tid next : ℕ) (some : 1 ≤ from) (order : from ≤ tid) (few : tid ≤ 31) (counted : next ≡ tid + 1)
        (noted : set (thread_of pid tid) ≡ true)
        (none : (other : ℕ) → from ≤ other → other < tid → set (thread_of pid other) ≡ false) where
      there : id_at (place_in tid) ≡ thread_of pid tid
      there = at_place tid (omega (arith, some, order)) few

      told : mine (id_at (place_in tid)) ≡ Some (words_for served (id_at (place_in tid)))
      told =
          ap mine there ∙ own (thread_of pid tid) refl ∙ ap (λ b. if b then Some (words_for served (thread_of pid tid)) else None) noted
          ∙ ap (λ id. Some (words_for served id)) (sym there)

      one_on : place_in next ≡ suc (place_in tid)
      one_on = omega (arith, counted, some, order)

      pub threads_on : (before now after : ThreadMap) → now ≡ answered (below (place_in from) mine) before
          → after ≡ answered (answer_to (thread_of pid tid) (words_for served (thread_of pid tid))) now
          → after ≡ answered (below (place_in next) mine) before
      threads_on before now after e f =
          threads_next PROCESS_LIMIT mine mine_known most (place_in tid) (place_in next) one_on (words_for served (id_at (place_in tid))) told before now after
          (e ∙ sym (threads_past from tid some (omega (arith, few)) none order before))
          (f ∙ ap (λ id. answered (answer_to id (words_for served id)) now) (sym there))

      pub log_on : (before now after : LogState) → now ≡ log_with (replies_below (place_in from) mine) before
          → after ≡ log_with (Reply (thread_of pid tid) (words_for served (thread_of pid tid)) ∷ []) now
          → after ≡ log_with (replies_below (place_in next) mine) before
      log_on before now after e f =
          log_next PROCESS_LIMIT mine mine_known most (place_in tid) (place_in next) one_on (words_for served (id_at (place_in tid))) told before now after
          (e ∙ ap (λ rs. log_with rs before) (sym (records_past from tid some (omega (arith, few)) none order)))
          (f ∙ ap (λ id. log_with (Reply id (words_for served id) ∷ []) now) (sym there))

    -- ---- the process among all

    module _ (row : ℕ) (n : ℕ) (few : n ≤ 64) (all_known : (id : ThreadId) → is_some (told_to served set id) ≡ true → is_thread_id n id ≡ true)
        (at : pid.0 ≡ row + 2) where
      abbrev all : Answers
      all = told_to served set

      nobody_there : (id : ThreadId) → set id ≡ false → (k : ℕ) → below k all id ≡ None
      nobody_there id e k = go (nat_lt (place_of id) k)
        where
          unsaid : all id ≡ None
          unsaid = ap (λ b. if b then Some (words_for served id) else None) e

          go : (b : Bool) → (if b then all id else None) ≡ None
          go true = unsaid
          go false = refl

      twice : (a b : Option (List ℕ)) (o : Option Thread) → a ≡ None → option_map (with_answer a) (option_map (with_answer b) o) ≡ option_map (with_answer b) o
      twice a b o e = ap (λ x. option_map (with_answer x) (option_map (with_answer b) o)) e ∙ unanswered (option_map (with_answer b) o)

      after_none : (a b c : Option (List ℕ)) (o : Option Thread) → b ≡ None → a ≡ c → option_map (with_answer a) (option_map (with_answer b) o) ≡ option_map (with_answer c) o
      after_none a b c o e f =
          ap (λ x. option_map (with_answer a) (option_map (with_answer x) o)) e ∙ ap (option_map (with_answer a)) (unanswered o) ∙ ap (λ x. option_map (with_answer x) o) f

      abbrev IsToldTo : ThreadMap → ThreadId → Type 0
      IsToldTo before id =
          option_map (with_answer (mine id)) (option_map (with_answer (below (row * 31) all id)) (before id))
          ≡ option_map (with_answer (below ((row + 1) * 31) all id)) (before id)

      pub threads_of_process : (before now after : ThreadMap) → now ≡ answered (below (row * 31) all) before → after ≡ answered mine now
          → after ≡ answered (below ((row + 1) * 31) all) before
      threads_of_process before now after e f = f ∙ ap (answered mine) e ∙ (λ i id. by_set id (set id) refl i)
        where
          by_pid : (id : ThreadId) → is_thread_id PROCESS_LIMIT id ≡ true → (id.pid.0 ≡ pid.0) ⊎ (id.pid.0 ≡ pid.0 → ⊥) → IsToldTo before id
          by_pid id h (inl same) =
              let low : row * 31 ≤ place_of id = grind (arith, nat_tests) in
              let up : place_of id < (row + 1) * 31 = grind (arith, nat_tests) in
              after_none (mine id) (below (row * 31) all id) (below ((row + 1) * 31) all id) (before id)
              (ap (λ b. if b then all id else None) (le-ltb (place_of id) (row * 31) low))
              (own id same ∙ sym (ap (λ b. if b then all id else None) (lt-ltb (place_of id) ((row + 1) * 31) up)))
          by_pid id h (inr ne) =
              twice (mine id) (below (row * 31) all id) (before id) (strange id ne)
              ∙ ap (λ o. option_map (with_answer o) (before id)) (side (cases_lt (place_of id) (row * 31)))
            where
              side : (place_of id < row * 31) ⊎ (row * 31 ≤ place_of id) → below (row * 31) all id ≡ below ((row + 1) * 31) all id
              side (inl l) =
                  let up : place_of id < (row + 1) * 31 = omega (arith, l) in
                  ap (λ b. if b then all id else None) (lt-ltb (place_of id) (row * 31) l ∙ sym (lt-ltb (place_of id) ((row + 1) * 31) up))
              side (inr l) =
                  let up : (row + 1) * 31 ≤ place_of id = grind (arith, nat_tests) in
                  ap (λ b. if b then all id else None) (le-ltb (place_of id) (row * 31) l ∙ sym (le-ltb (place_of id) ((row + 1) * 31) up))

          by_set : (id : ThreadId) (b : Bool) → set id ≡ b → IsToldTo before id
          by_set id true q = by_pid id (known id q) (cases_eq id.pid.0 pid.0)
          by_set id false q =
              after_none (mine id) (below (row * 31) all id) (below ((row + 1) * 31) all id) (before id)
              (nobody_there id q (row * 31)) (unnoted id q ∙ sym (nobody_there id q ((row + 1) * 31)))

      -- the record of one more place of the process
      record_on : (k : ℕ) → k < 31 → replies_below (row * 31 + k) all ≡ replies_below (row * 31) all ++ replies_below (row * 31 + k) mine
          → replies_below (suc (row * 31 + k)) all ≡ replies_below (row * 31) all ++ replies_below (suc (row * 31 + k)) mine
      record_on k low before = step (set (id_at (row * 31 + k))) refl
        where
          there : k < 31 → (id_at (row * 31 + k)).pid.0 ≡ pid.0
          there l = omega (arith, l, at)

          step : (b : Bool) → set (id_at (row * 31 + k)) ≡ b
              → replies_below (suc (row * 31 + k)) all ≡ replies_below (row * 31) all ++ replies_below (suc (row * 31 + k)) mine
          step true q =
              let id : ThreadId = id_at (row * 31 + k) in
              let said : all id ≡ Some (words_for served id) = ap (λ b. if b then Some (words_for served id) else None) q in
              one_record n all all_known few (row * 31 + k) (words_for served id) said
              ∙ ap (λ rs. rs ++ Reply id (words_for served id) ∷ []) before
              ∙ append_assoc (replies_below (row * 31) all) (replies_below (row * 31 + k) mine) (Reply id (words_for served id) ∷ [])
              ∙ ap (λ rs. replies_below (row * 31) all ++ rs)
              (sym (one_record PROCESS_LIMIT mine mine_known most (row * 31 + k) (words_for served id) (own id (there low) ∙ said)))
          step false q =
              let id : ThreadId = id_at (row * 31 + k) in
              no_record n all all_known few (row * 31 + k) (ap (λ b. if b then Some (words_for served id) else None) q) ∙ before
              ∙ ap (λ rs. replies_below (row * 31) all ++ rs) (sym (no_record PROCESS_LIMIT mine mine_known most (row * 31 + k) (unnoted id q)))

      records_up_to : (k : ℕ) → k ≤ 31 → replies_below (row * 31 + k) all ≡ replies_below (row * 31) all ++ replies_below (row * 31 + k) mine
      records_up_to zero low =
          let same : row * 31 + 0 ≡ row * 31 = omega arith in
          let start : row * 31 + 0 ≡ place_in 1 = omega (arith, at) in
          ap (λ k. replies_below k all) same ∙ sym (append-nil (replies_below (row * 31) all))
          ∙ ap (λ rs. replies_below (row * 31) all ++ rs) (sym (ap (λ k. replies_below k mine) start ∙ records_first))
      records_up_to (suc k) low =
          let next : row * 31 + suc k ≡ suc (row * 31 + k) = omega arith in
          ap (λ m. replies_below m all) next
          ∙ record_on k (omega (arith, low)) (records_up_to k (omega (arith, low)))
          ∙ ap (λ m. replies_below (row * 31) all ++ replies_below m mine) (sym next)

      pub log_of_process : (before now after : LogState) → now ≡ log_with (replies_below (row * 31) all) before
          → after ≡ log_with (replies PROCESS_LIMIT mine) now → after ≡ log_with (replies_below ((row + 1) * 31) all) before
      log_of_process before now after e f =
          let next : row * 31 + 31 ≡ (row + 1) * 31 = omega arith in
          let last : row * 31 + 31 ≡ place_in 32 = omega (arith, at) in
          f ∙ ap (log_with (replies PROCESS_LIMIT mine)) e
          ∙ sym (log_both (replies_below (row * 31) all) (replies PROCESS_LIMIT mine) before)
          ∙ ap (λ rs. log_with (replies_below (row * 31) all ++ rs) before) (sym (ap (λ k. replies_below k mine) last ∙ records_last))
          ∙ ap (λ rs. log_with rs before) (sym (records_up_to 31 (omega arith)) ∙ ap (λ k. replies_below k all) next)

      -- where one of the process is noted, there is room for all
      pub room_for_process : (before now : LogState) → now ≡ log_with (replies_below (row * 31) all) before
          → length before.records + thread_ids n ≤ before.room → (id : ThreadId) → is_thread_id n id ≡ true → of_process pid set id ≡ true
          → length now.records + 31 ≤ now.room
      room_for_process before now e room id h q =
          let same_room : now.room ≡ before.room = ap (λ (l : LogState). l.room) e in
          let a : length now.records ≡ length (before.records ++ map (record_of before.step) (replies_below (row * 31) all)) = ap (λ (l : LogState). length l.records) e in
          let b : length (before.records ++ map (record_of before.step) (replies_below (row * 31) all))
          ≡ length before.records + length (map (record_of before.step) (replies_below (row * 31) all)) =
          length-append before.records (map (record_of before.step) (replies_below (row * 31) all)) in
          let c : length (map (record_of before.step) (replies_below (row * 31) all)) ≡ length (replies_below (row * 31) all) =
          length-map (replies_below (row * 31) all) (record_of before.step) in
          let d : length (replies_below (row * 31) all) ≤ row * 31 = records_few n all all_known few (row * 31) in
          let same : id.pid.0 ≡ pid.0 = eqb-true id.pid.0 pid.0 (first_true (id.pid.0 == pid.0) (set id) q) in
          let f : row < n = row_below id h same in
          omega arith
        where
          first_true : (x y : Bool) → (x && y) ≡ true → x ≡ true
          first_true true y t = refl
          first_true false y t = t

          row_below : (id : ThreadId) → is_thread_id n id ≡ true → id.pid.0 ≡ pid.0 → row < n
          row_below id h same = grind (arith, nat_tests)
