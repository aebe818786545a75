use Rattle.std.proofs.Common.{rules, tests, ◌≡◌, ◌<◌, ◌≤◌, ℕ, Bool, true, false, Some, None, is_none, ap, ◌∙◌, arith}
use Rattle.std.proofs.lemmas.Iterator.{first_from_Range}
use Rattle.std.specs.Option.{option_map}
use Rattle.xk_base.specs.Tables.Counting.{least_below}
use Rattle.thread_table.specs.ThreadMap.{thread_above, tid_above, tids_above}
use Rattle.thread_table.specs.Shown.{threads_of}
use Rattle.thread_table.proofs.CountLemmas.{least_found}
use Rattle.thread_table.proofs.table.Threads.free_tid.Goals as goal

pub returns-in_err-free : goal.returns-in_err-free
returns-in_err-free c =
    let test : ℕ → Bool = λ k. is_none (threads_of c.args.self.now (thread_above c.args.pid k)) in
    let none : None ≡ least_below tids_above test =
    least_found tids_above test None (first_from_Range _ _ _ None (λ k. test k ≡ true) (λ k. test k ≡ false) c.in_err-free.ensures.ran
    (λ x q k. search (rules, tests)) (λ x q k. search (rules, tests))) in
    c.from_residual.ensures ∙ ap (option_map tid_above) none

pub overflow_add-result : goal.overflow_add-result
overflow_add-result c =
    let test : ℕ → Bool = λ k. is_none (threads_of c.args.self.now (thread_above c.args.pid k)) in
    let found : (0 ≤ c.in_ok-free.field-0) × (c.in_ok-free.field-0 < 30) × (test c.in_ok-free.field-0 ≡ true) × ((k : ℕ) → 0 ≤ k → k < c.in_ok-free.field-0 → test k ≡ false) =
    first_from_Range _ _ _ (Some c.in_ok-free.field-0) (λ k. test k ≡ true) (λ k. test k ≡ false) c.in_ok-free.ensures.ran
    (λ x q k. search (rules, tests)) (λ x q k. search (rules, tests)) in
    omega (arith, found.1)

pub returns : goal.returns
returns c =
    let test : ℕ → Bool = λ k. is_none (threads_of c.args.self.now (thread_above c.args.pid k)) in
    ap (option_map tid_above) (least_found tids_above test (Some c.in_ok-free.field-0)
    (first_from_Range _ _ _ (Some c.in_ok-free.field-0) (λ k. test k ≡ true) (λ k. test k ≡ false) c.in_ok-free.ensures.ran
    (λ x q k. search (rules, tests)) (λ x q k. search (rules, tests))))
