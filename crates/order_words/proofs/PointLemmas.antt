-- Words with a point between two numbers.
use Rattle.std.proofs.Common.{◌≡◌, ◌∙◌, ◌<◌, ◌≢◌, ℕ, List, ◌∷◌, ◌++◌, get_or, length, length-append, Bor, Option, None, Some, MatchOption, lit<, sym, ap, subst, arith}
use Rattle.std.proofs.Math.Dec.{lit≤}
use Rattle.std.proofs.Math.Seq.{get_or-append_seam}
use Rattle.std.proofs.lemmas.Str.Pattern.{IsSplitOnceResult, split_after, split_parts}
use Rattle.order_model.specs.declared.failing.Waiter.{Waiter}
use Rattle.order_model.specs.declared.failing.Waiter.TheVariants.{Any, Process, Thread}
use Rattle.xk_base.specs.declared.ids.ThreadId.{ThreadId}
use Rattle.order_words.specs.Values.{IsPlainNumber, IsThread, NamesWaiter}
use Rattle.order_words.proofs.NumberLemmas.{no_point}

-- a word without a point, which is no number of a process
pub no_process : (word : List ℕ) (r : Option (Bor (List ℕ) × Bor (List ℕ))) → IsSplitOnceResult 46 word r → r ≡ None
    → ((n : ℕ) → IsPlainNumber 2 65 word n → ⊥) → (waiter : Waiter) → NamesWaiter word waiter → ⊥
no_process word r split is none Any named = named
no_process word r split is none (Process pid) named = none pid.0 named
no_process word r split is none (Thread who) named =
    subst (λ (x : Option (Bor (List ℕ) × Bor (List ℕ))). MatchOption x ⊥ (λ x. (x.0.now ≡ named.0) × (x.1.now ≡ named.1))) is
    (split_after 46 word named.0 named.1 r split (lit< tt) named.2 (no_point named.0 who.pid.0 2 65 (lit≤ tt) named.3.process))

-- a word with a point, whose parts name no thread
pub no_thread : (word : List ℕ) (pid tid : Bor (List ℕ)) (r : Option (Bor (List ℕ) × Bor (List ℕ))) → IsSplitOnceResult 46 word r → r ≡ Some (pid, tid)
    → ((who : ThreadId) → IsThread pid.now tid.now who → ⊥) → (waiter : Waiter) → NamesWaiter word waiter → ⊥
no_thread word pid tid r split is none Any named = named
no_thread word pid tid r split is none (Process p) named =
    let parts = subst (λ (x : Option (Bor (List ℕ) × Bor (List ℕ))).
    MatchOption x ((i : ℕ) → i < length word → get_or word i 0 ≢ 46)
    (λ x. (word ≡ x.0.now ++ (46 ∷ x.1.now)) × ((i : ℕ) → i < length x.0.now → get_or x.0.now i 0 ≢ 46))) is
    (split_parts 46 word r split (lit< tt)) in
    no_point word p.0 2 65 (lit≤ tt) named (length pid.now) (at_end pid.now tid.now parts.0) (point_at word pid.now tid.now parts.0)
  where
    at_end : (xs ys : List ℕ) {word : List ℕ} → word ≡ xs ++ 46 ∷ ys → length xs < length word
    at_end xs ys e = (let n = length-append xs (46 ∷ ys) in omega (arith, n, ap length e))

    point_at : (word xs ys : List ℕ) → word ≡ xs ++ 46 ∷ ys → get_or word (length xs) 0 ≡ 46
    point_at word xs ys e = ap (λ (w : List ℕ). get_or w (length xs) 0) e ∙ get_or-append_seam xs 46 ys 0
no_thread word pid tid r split is none (Thread who) named =
    let parts = subst (λ (x : Option (Bor (List ℕ) × Bor (List ℕ))). MatchOption x ⊥ (λ x. (x.0.now ≡ named.0) × (x.1.now ≡ named.1))) is
    (split_after 46 word named.0 named.1 r split (lit< tt) named.2 (no_point named.0 who.pid.0 2 65 (lit≤ tt) named.3.process)) in
    none who (record {
      process = subst (λ (w : List ℕ). IsPlainNumber 2 65 w who.pid.0) (sym parts.0) named.3.process;
      thread = subst (λ (w : List ℕ). IsPlainNumber 1 31 w who.tid.0) (sym parts.1) named.3.thread;
    })
