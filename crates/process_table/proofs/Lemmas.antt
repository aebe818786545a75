-- The living processes as a list, and the numbers of connections.
use Rattle.std.proofs.Common.{◌≡◌, ◌+◌, ◌-◌, ◌<◌, ℕ, List, length, get_or, map, Some, None, true, nat_lt, slice_get, ap, ◌∙◌, arith}
use Rattle.std.specs.List.{All, Contains}
use Rattle.std.specs.List.Sorted.{IsStrictlyIncreasing}
use Rattle.std.proofs.lemmas.Bool.{cond-false}
use Rattle.std.proofs.lemmas.Bool.Decides.{nat_tests}
use Rattle.std.proofs.lemmas.List.{length-map, get_or-map}
use Rattle.std.proofs.lemmas.List.Elements.{All-map, All-weaker}
use Rattle.std.proofs.lemmas.Option.{slice_get_past, slice_get-get_or}
use Rattle.xk_base.specs.Tables.Circle.{IsPid}
use Rattle.xk_base.specs.Tables.Counting.{listed_below}
use Rattle.xk_base.specs.declared.ids.Serial.{Serial}
use Rattle.xk_base.proofs.CountingLemmas.{listed_below-ascends, listed_below-passes, listed_below-contains}
use Rattle.process_table.specs.ProcessMap.{ProcessMap, is_alive, living_pids}
use Rattle.xk_base.specs.Tables.Connections.{connected_to}

-- ---- the living processes

-- the list ascends, so that it has each pid once
pub living_pids-ascends : (n : ℕ) (m : ProcessMap) → IsStrictlyIncreasing (living_pids n m)
living_pids-ascends n m = raised (listed_below n (λ k. is_alive (m (k + 2)))) (listed_below-ascends n (λ k. is_alive (m (k + 2))))
  where
    raised : (ks : List ℕ) → IsStrictlyIncreasing ks → IsStrictlyIncreasing (map (λ k. k + 2) ks)
    raised ks up k l =
        let size : length (map (λ j. j + 2) ks) ≡ length ks = length-map ks (λ j. j + 2) in
        let last : k + 1 < length ks = omega arith in
        let here : get_or (map (λ j. j + 2) ks) k 0 ≡ get_or ks k 0 + 2 = get_or-map (λ j. j + 2) ks k 0 0 (omega arith) in
        let next : get_or (map (λ j. j + 2) ks) (k + 1) 0 ≡ get_or ks (k + 1) 0 + 2 = get_or-map (λ j. j + 2) ks (k + 1) 0 0 last in
        let rises : get_or ks k 0 < get_or ks (k + 1) 0 = up k last in
        omega arith

-- it has living processes alone ..
pub living_pids-alive : (n : ℕ) (m : ProcessMap) → All (λ pid. IsPid n pid × (is_alive (m pid) ≡ true)) (living_pids n m)
living_pids-alive n m =
    let ks : List ℕ = listed_below n (λ k. is_alive (m (k + 2))) in
    All-map (λ pid. IsPid n pid × (is_alive (m pid) ≡ true)) (λ k. k + 2) ks
    (All-weaker (λ k. (k < n) × (is_alive (m (k + 2)) ≡ true)) (λ k. IsPid n (k + 2) × (is_alive (m (k + 2)) ≡ true))
    (λ k h. let l : k < n = h.0 in ((omega arith, omega arith), h.1)) ks (listed_below-passes n (λ k. is_alive (m (k + 2)))))

-- .. and each of them
pub living_pids-contains : (n : ℕ) (m : ProcessMap) (k : ℕ) → k < n → is_alive (m (k + 2)) ≡ true → Contains (living_pids n m) (k + 2)
living_pids-contains n m k l here =
    let ks : List ℕ = listed_below n (λ j. is_alive (m (j + 2))) in
    let at : Contains ks k = listed_below-contains n k (λ j. is_alive (m (j + 2))) l here in
    (at.0, rw length-map at.1, get_or-map (λ j. j + 2) ks at.0 k (k + 2) at.1 ∙ ap (λ j. j + 2) at.2)

-- ---- the numbers of connections

-- each number from 2 to that of the last connection is used ..
pub connected_to-used : (servers : List Serial) (k : ℕ) (d : Serial) → k < length servers → connected_to servers (k + 2) ≡ Some (get_or servers k d)
connected_to-used servers k d l =
    let e : k + 2 - 2 ≡ k = omega arith in
    cond-false (nat_lt (k + 2) 2) None (slice_get servers (k + 2 - 2)) (grind (arith, nat_tests))
    ∙ ap (slice_get servers) e ∙ slice_get-get_or servers k d l

-- .. and the next one isn't: a new connection has the least unused number
pub connected_to-next : (servers : List Serial) → connected_to servers (length servers + 2) ≡ None
connected_to-next servers =
    cond-false (nat_lt (length servers + 2) 2) None (slice_get servers (length servers + 2 - 2)) (grind (arith, nat_tests))
    ∙ slice_get_past servers (length servers + 2 - 2) (omega arith)
