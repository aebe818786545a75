-- The threads of a state, as they are started row after row.
use Rattle.std.proofs.Common.{◌≡◌, ℕ, zero, suc, ◌+◌, ◌<◌, ◌≤◌, Bool, true, false, ◌&&◌, List, [], ◌∷◌, length, take, get_or, Option, Some, None, refl, sym, ap, subst, ◌∙◌, arith, inl, inr, add-one}
use Rattle.std.specs.Prelude.{◌==◌, if◌then◌else◌, replicate, slice_index, slice_set}
use Rattle.std.specs.List.{find}
use Rattle.std.specs.Option.{option_map}
use Rattle.std.proofs.lemmas.Bool.{cases_Bool, cases_eq, cond-false, eqb-true, eqb-false, eq-eqb, ne_eqb}
use Rattle.std.proofs.lemmas.Grind.{get_or-set_at}
use Rattle.std.proofs.lemmas.List.{ext_get_or, get_or-set_other, length-set}
use Rattle.std.proofs.lemmas.Option.{none-some}
use Rattle.xk_parts.specs.Shown.{thread_of}
use Rattle.snapshot_rows.proofs.KeyLemmas.{Less, less_apart, less_behind, less_through, pair_is}
use Rattle.snapshot_rows.specs.Order.{AreInOrder, least_first, least_second, thread_key}
use Rattle.suspend_image.specs.Forms.{IsThreadRow}
use Rattle.snapshot_rows.specs.Machines.{thread_at_id, thread_of as row_thread, threads_of as state_threads}
use Rattle.snapshot_rows.specs.declared.state.ThreadRow.{ThreadRow}
use Rattle.thread_table.specs.ThreadMap.{no_threads}
use Rattle.thread_table.specs.Shown.{process_count, threads_of}
use Rattle.thread_table.specs.declared.table.Threads.{Threads}
use Rattle.thread_table.specs.declared.thread.Thread.{Thread as TableThread}
use Rattle.xk_base.specs.Calls.Registers.{with_reg}
use Rattle.xk_base.specs.Tables.Circle.{same_thread}
use Rattle.xk_base.specs.declared.ids.ThreadId.{ThreadId}
use Rattle.resume_path.proofs.Rows.RowLemmas.{next_found, none_before}

-- ---- the form of a row

-- a row has the form that it has as a first one, behind whatever row
from_first : (n : ℕ) (before : Option (ℕ × ℕ)) (t : ThreadRow) → 2 ≤ least_first 2 before → 1 ≤ least_second 1 before t.pid → IsThreadRow n before t → IsThreadRow n None t
from_first n before t one two is = record {
  pid = record { at_least = omega (arith, one, is.pid.at_least); at_most = is.pid.at_most };
  tid = record { at_least = omega (arith, two, is.tid.at_least); at_most = is.tid.at_most };
  pc = is.pc;
  state = is.state;
  waits = is.waits;
  registers = is.registers;
  regs = is.regs;
}

second_low : (b : Bool) (next : ℕ) → 1 ≤ next → 1 ≤ (if b then next else 1)
second_low true next low = low
second_low false next low = omega arith

-- what the key of the row before says of the next one's
pub record IsLow (before : Option (ℕ × ℕ)) : Type 0 where
  pub first : 2 ≤ least_first 2 before
  pub second : (pid : ℕ) → 1 ≤ least_second 1 before pid

low_none : IsLow None
low_none = record { first = omega arith; second = λ pid. omega arith }

low_behind : (n : ℕ) (t : ThreadRow) → IsThreadRow n None t → IsLow (Some (thread_key t))
low_behind n t is = record { first = is.pid.at_least; second = λ pid. second_low (t.pid == pid) (t.tid + 1) (omega arith) }

row_form : (n : ℕ) (before : Option (ℕ × ℕ)) (rows : List ThreadRow) (k : ℕ) (d : ThreadRow) → IsLow before → AreInOrder (IsThreadRow n) thread_key before rows
    → k < length rows → IsThreadRow n None (get_or rows k d)
row_form n before [] k d low forms within = absurd (omega arith)
row_form n before (t ∷ rows) zero d low forms within = from_first n before t low.first (low.second t.pid) forms.0
row_form n before (t ∷ rows) (suc k) d low forms within =
    row_form n (Some (thread_key t)) rows k d (low_behind n t (from_first n before t low.first (low.second t.pid) forms.0)) forms.1 (omega (arith, within))

-- ---- the threads of the first rows

-- the first k rows have their threads, and there are no others
pub record AreBackTo (n : ℕ) (rows : List ThreadRow) (threads : Threads) (k : ℕ) : Type 0 where
  pub count : process_count threads ≡ n
  pub there : (id : ThreadId) → option_map thread_of (threads_of threads id) ≡ state_threads (take k rows) id

pub none_back : (n : ℕ) (rows : List ThreadRow) (threads : Threads) → process_count threads ≡ n → threads_of threads ≡ no_threads → AreBackTo n rows threads 0
none_back n rows threads count none = record { count = count; there = λ id. ap (λ m. option_map thread_of (m id)) none }

pub same_number : (a b : ℕ) → (a == b) ≡ (b == a)
same_number a b = elim (cases_Bool (a == b)) [
  | inl same ↦ same ∙ sym (eq-eqb b a (sym (eqb-true a b same)))
  | inr differ ↦ differ ∙ sym (ne_eqb b a (λ e. eqb-false a b differ (sym e)))
]

mapped_none : (o : Option TableThread) → option_map thread_of o ≡ None → o ≡ None
mapped_none None e = refl
mapped_none (Some t) e = absurd (none-some (thread_of t) (sym e))

abbrev test_of : ℕ × ℕ → ThreadRow → Bool
test_of k t = (t.pid == k.0) && (t.tid == k.1)

abbrev Form : ℕ → Option (ℕ × ℕ) → ThreadRow → Type 0
Form n before t = IsThreadRow n before t

behind_form : (n : ℕ) (before : ℕ × ℕ) (t : ThreadRow) → IsThreadRow n (Some before) t → Less before (thread_key t)
behind_form n before t is = less_behind 2 1 before (thread_key t) is.pid.at_least is.tid.at_least

module _ (n : ℕ) (rows : List ThreadRow) (forms : AreInOrder (IsThreadRow n) thread_key None rows) (k : ℕ) (d : ThreadRow) (low : k < length rows) where
  abbrev row : ThreadRow
  row = get_or rows k d

  pub next_form : IsThreadRow n None row
  next_form = row_form n None rows k d low_none forms low

  unfound : find (test_of (thread_key row)) (take k rows) ≡ None
  unfound =
      none_before thread_key test_of Less (IsThreadRow n) (behind_form n) (pair_is thread_key) less_apart less_through None rows k d forms low

  module _ (threads : Threads) (back : AreBackTo n rows threads k) where
    -- the thread of the next row isn't there yet
    pub next_free : threads_of threads (thread_at_id row.pid row.tid) ≡ None
    next_free = mapped_none (threads_of threads (thread_at_id row.pid row.tid)) (back.there (thread_at_id row.pid row.tid) ∙ ap (option_map row_thread) unfound)

    -- .. and then it is
    pub next_back : (new : Threads) → process_count new ≡ process_count threads
        → ((id : ThreadId) → option_map thread_of (threads_of new id)
        ≡ (if same_thread id (thread_at_id row.pid row.tid) then Some (row_thread row) else option_map thread_of (threads_of threads id)))
        → AreBackTo n rows new (k + 1)
    next_back new count after = record {
      count = count ∙ back.count;
      there = λ id. after id ∙ (ap (λ o. if same_thread id (thread_at_id row.pid row.tid) then Some (row_thread row) else o) (back.there id)
          ∙ (ap (λ b. if b then Some (row_thread row) else state_threads (take k rows) id) (flipped id) ∙ sym (next_found row_thread (test_of (id.pid.0, id.tid.0)) rows k d low (alone id))));
    }
      where
        flipped : (id : ThreadId) → same_thread id (thread_at_id row.pid row.tid) ≡ test_of (id.pid.0, id.tid.0) row
        flipped id = λ i. same_number id.pid.0 row.pid i && same_number id.tid.0 row.tid i

        alone : (id : ThreadId) → test_of (id.pid.0, id.tid.0) row ≡ true → find (test_of (id.pid.0, id.tid.0)) (take k rows) ≡ None
        alone id e = subst (λ key. find (test_of key) (take k rows) ≡ None) (pair_is thread_key (id.pid.0, id.tid.0) row e) unfound

-- ---- the registers

-- x0 is 0, and the first k words stand from x1 on
pub record AreSet (words regs : List ℕ) (k : ℕ) : Type 0 where
  pub all : length regs ≡ 32
  pub zero_there : slice_index regs 0 ≡ 0
  pub there : (i : ℕ) → i < k → slice_index regs (i + 1) ≡ slice_index words i

pub none_set : (words regs : List ℕ) → regs ≡ replicate 32 0 → AreSet words regs 0
none_set words regs e = record {
  all = ap length e;
  zero_there = ap (λ xs. slice_index xs 0) e;
  there = λ i low. absurd (omega (arith, low));
}

-- the next word is set
pub next_set : (words old new : List ℕ) (k w : ℕ) → k < 31 → AreSet words old k → w ≡ slice_index words k → new ≡ with_reg old (k + 1) w → AreSet words new (k + 1)
next_set words old new k w few set is after = record {
  all = ap length now ∙ (length-set old (k + 1) w ∙ set.all);
  zero_there = ap (λ xs. slice_index xs 0) now ∙ (get_or-set_other old (k + 1) 0 w 0 (λ e. absurd (omega arith)) ∙ set.zero_there);
  there = λ i low. ap (λ xs. slice_index xs (i + 1)) now ∙ elim (cases_eq i k) [
    | inl e ↦ get_or-set_at old (k + 1) (i + 1) w 0 (ap (λ n. n + 1) e) (let all = set.all in omega arith) ∙ (is ∙ ap (slice_index words) (sym e))
    | inr ne ↦ get_or-set_other old (k + 1) (i + 1) w 0 (λ e. ne (omega (arith, e))) ∙ set.there i (omega (arith, low, ne))
  ];
}
  where
    now : new ≡ slice_set old (k + 1) w
    now = after ∙ cond-false ((k + 1) == 0) old (slice_set old (k + 1) w) (ne_eqb (k + 1) 0 (λ e. absurd (omega arith)))

pub all_set : (words regs : List ℕ) (k : ℕ) → length words ≡ 31 → 31 ≤ k → AreSet words regs k → regs ≡ 0 ∷ words
all_set words regs k many all set = ext_get_or 0 regs (0 ∷ words) (set.all ∙ sym (ap suc many)) each
  where
    each : (i : ℕ) → i < length regs → get_or regs i 0 ≡ get_or (0 ∷ words) i 0
    each zero low = set.zero_there
    each (suc i) low = ap (λ n. get_or regs n 0) (sym (add-one i)) ∙ set.there i (let long = set.all in omega (arith, low, all))
