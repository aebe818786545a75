-- Bits of threads in the words of their processes, read and written as a set of ids.
use Rattle.std.proofs.Common.{◌≡◌, ℕ, ◌-◌, ◌*◌, ◌%◌, ◌^◌, ◌<◌, ◌≤◌, w32, Bool, true, false, List, length, set, replicate, get_or, ap, sym, refl, ◌∙◌, arith, inl, inr, Option, Some, None}
use Rattle.std.specs.Prelude.{◌&&◌, ◌==◌, ◌⊎◌, if◌then◌else◌, IfNone, IfSome}
use Rattle.std.specs.Int.{bit_at}
use Rattle.std.specs.Int.Bits.{bit_or}
use Rattle.std.proofs.lemmas.Bool.{cases_eq, cases_lt, eq-eqb, false≢true}
use Rattle.std.proofs.lemmas.Bool.Decides.{nat_tests}
use Rattle.std.proofs.lemmas.List.{get_or-replicate, get_or-set_same, get_or-set_other, get_or_past, length-replicate}
use Rattle.std.proofs.lemmas.Nat.Bits.{bit_at-zero, bit_at_set_other, bit_at_set_same}
use Rattle.thread_table.proofs.PlaceLemmas.{same_thread-true}
use Rattle.xk_base.specs.Tables.Circle.{is_pid, is_thread_id, same_thread}
use Rattle.xk_base.specs.Tables.Counting.{put_at}
use Rattle.xk_base.specs.declared.ids.Pid.{Pid}
use Rattle.xk_base.specs.declared.ids.ThreadId.{ThreadId}
use Rattle.xk_base.specs.declared.limits.TheConstants.{PROCESS_LIMIT}
use Rattle.kill_path.specs.ThreadSets.{marked, nobody, thread_of}

and_false : (a : Bool) → (a && false) ≡ false
and_false true = refl
and_false false = refl

no_word : (n k : ℕ) → let none : ℕ = 0 in get_or (replicate n none) k none ≡ none
no_word n k = elim (cases_lt k n) [
  | inl inside ↦ get_or-replicate n k 0 0 inside
  | inr past ↦ get_or_past (replicate {A = ℕ} n 0) k 0 (omega (arith, length-replicate {A = ℕ} n 0))
]

pub marked-nobody : (n : ℕ) → marked (replicate {A = ℕ} n 0) ≡ nobody
marked-nobody n = λ i id.
    (ap (λ word. is_thread_id PROCESS_LIMIT id && (bit_at word id.tid.0 == 1)) (no_word n (id.pid.0 - 2))
    ∙ ap (λ bit. is_thread_id PROCESS_LIMIT id && (bit == 1)) (bit_at-zero id.tid.0)
    ∙ and_false (is_thread_id PROCESS_LIMIT id)) i

-- a bit that isn't set ..
pub unmarked-bit : (words : List ℕ) (pid : Pid) (tid : ℕ) → (bit_at (get_or words (pid.0 - 2) 0) tid == 1) ≡ false
    → marked words (thread_of pid tid) ≡ false
unmarked-bit words pid tid e = ap (λ b. is_thread_id PROCESS_LIMIT (thread_of pid tid) && b) e ∙ and_false (is_thread_id PROCESS_LIMIT (thread_of pid tid))

-- .. and one that is
pub marked-bit : (words : List ℕ) (pid : Pid) (tid : ℕ) → is_pid PROCESS_LIMIT pid.0 ≡ true → 1 ≤ tid → tid ≤ 31
    → (bit_at (get_or words (pid.0 - 2) 0) tid == 1) ≡ true → marked words (thread_of pid tid) ≡ true
marked-bit words pid tid h low few e =
    let known : is_thread_id PROCESS_LIMIT (thread_of pid tid) ≡ true = grind (arith, nat_tests) in
    λ i. known i && e i

-- whoever is marked is a thread of a process that there may be
pub marked_known : (words : List ℕ) (id : ThreadId) → marked words id ≡ true → is_thread_id PROCESS_LIMIT id ≡ true
marked_known words id e = go (is_thread_id PROCESS_LIMIT id) e
  where
    go : (b : Bool) → (b && (bit_at (get_or words (id.pid.0 - 2) 0) id.tid.0 == 1)) ≡ true → b ≡ true
    go true q = refl
    go false q = q

module _ (words : List ℕ) (id : ThreadId) (size : length words ≡ 64) (h : is_thread_id PROCESS_LIMIT id ≡ true) where
  abbrev row : ℕ
  row = id.pid.0 - 2

  abbrev word : ℕ
  word = get_or words row 0

  abbrev more : ℕ
  more = bit_or word (1 * 2 ^ id.tid.0 % 4294967296)

  here : row < length words
  here = let l : row < 64 = grind (arith, nat_tests) in omega arith

  short : id.tid.0 < 32
  short = grind (arith, nat_tests)

  low : 2 ≤ id.pid.0
  low = grind (arith, nat_tests)

  same_bit : (bit_at (get_or (set words row more) row 0) id.tid.0 == 1) ≡ true
  same_bit = ap (λ w. bit_at w id.tid.0 == 1) (get_or-set_same words row more 0 here) ∙ ap (λ b. b == 1) (bit_at_set_same w32 word id.tid.0 short)

  other_bit : (d : ThreadId) → same_thread d id ≡ false → is_thread_id PROCESS_LIMIT d ≡ true
      → (bit_at (get_or (set words row more) (d.pid.0 - 2) 0) d.tid.0 == 1) ≡ (bit_at (get_or words (d.pid.0 - 2) 0) d.tid.0 == 1)
  other_bit d e f = by_pid (cases_eq d.pid.0 id.pid.0)
    where
      low_too : 2 ≤ d.pid.0
      low_too = grind (arith, nat_tests)

      by_pid : (d.pid.0 ≡ id.pid.0) ⊎ (d.pid.0 ≡ id.pid.0 → ⊥)
          → (bit_at (get_or (set words row more) (d.pid.0 - 2) 0) d.tid.0 == 1) ≡ (bit_at (get_or words (d.pid.0 - 2) 0) d.tid.0 == 1)
      by_pid (inl p) =
          ap (λ k. bit_at (get_or (set words row more) (k - 2) 0) d.tid.0 == 1) p
          ∙ ap (λ w. bit_at w d.tid.0 == 1) (get_or-set_same words row more 0 here)
          ∙ ap (λ b. b == 1)
          (bit_at_set_other w32 word id.tid.0 short d.tid.0 (λ t. false≢true (sym e ∙ (λ i. eq-eqb d.pid.0 id.pid.0 p i && eq-eqb d.tid.0 id.tid.0 t i))))
          ∙ ap (λ k. bit_at (get_or words (k - 2) 0) d.tid.0 == 1) (sym p)
      by_pid (inr ne) =
          ap (λ w. bit_at w d.tid.0 == 1) (get_or-set_other words row (d.pid.0 - 2) more 0 (λ same. ne (omega (arith, low, low_too, same))))

  -- one more bit is one more thread
  pub marked-set : marked (set words row more) ≡ put_at same_thread (marked words) id true
  marked-set = λ i d. at d (same_thread d id) refl (is_thread_id PROCESS_LIMIT d) refl i
    where
      at : (d : ThreadId) (b : Bool) → same_thread d id ≡ b → (v : Bool) → is_thread_id PROCESS_LIMIT d ≡ v
          → (v && (bit_at (get_or (set words row more) (d.pid.0 - 2) 0) d.tid.0 == 1))
          ≡ (if b then true else (v && (bit_at (get_or words (d.pid.0 - 2) 0) d.tid.0 == 1)))
      at d true e v f =
          (λ i. (sym f ∙ ap (is_thread_id PROCESS_LIMIT) (same_thread-true d id e) ∙ h) i
          && (bit_at (get_or (set words row more) ((same_thread-true d id e i).pid.0 - 2) 0) (same_thread-true d id e i).tid.0 == 1))
          ∙ same_bit
      at d false e true f = other_bit d e f
      at d false e false f = refl

-- the least bit of the word of a process from one on is the least tid of its threads that are marked
module _ (words : List ℕ) (pid : Pid) (h : is_pid PROCESS_LIMIT pid.0 ≡ true) (from : ℕ) (some : 1 ≤ from) where
  abbrev has : ℕ → Bool
  has bit = bit_at (get_or words (pid.0 - 2) 0) bit == 1

  pub least-none : (o : Option ℕ) → IfNone o ((bit : ℕ) → from ≤ bit → has bit ≡ false)
      → IfNone o ((tid : ℕ) → from ≤ tid → marked words (thread_of pid tid) ≡ false)
  least-none None e = λ tid low. unmarked-bit words pid tid (e tid low)
  least-none (Some least) e = e

  pub least-found : (o : Option ℕ) → IfSome o (λ least. (from ≤ least) × (least ≤ 31) × (has least ≡ true))
      → IfSome o (λ least. (from ≤ least) × (least ≤ 31) × (marked words (thread_of pid least) ≡ true))
  least-found None e = e
  least-found (Some least) e = let low : from ≤ least = e.0 in (low, e.1, marked-bit words pid least h (omega (arith, low, some)) e.1 e.2)

  pub least-first : (o : Option ℕ) → IfSome o (λ least. (bit : ℕ) → from ≤ bit → bit < least → has bit ≡ false)
      → IfSome o (λ least. (tid : ℕ) → from ≤ tid → tid < least → marked words (thread_of pid tid) ≡ false)
  least-first None e = e
  least-first (Some least) e = λ tid low early. unmarked-bit words pid tid (e tid low early)
