use Rattle.std.proofs.Common.{rules, tests, ◌≡◌, ◌<◌, ◌≤◌, ℕ, Bool, true, false, Some, None, ap, ◌∙◌}
use Rattle.std.proofs.lemmas.Iterator.{first_from_Range}
use Rattle.std.specs.Option.{option_map}
use Rattle.xk_base.specs.Tables.Circle.{id_by_tid, thread_ids}
use Rattle.xk_base.specs.Tables.Counting.{least_below}
use Rattle.thread_table.specs.ThreadMap.{is_receiving}
use Rattle.thread_table.specs.Shown.{process_count, threads_of}
use Rattle.thread_table.proofs.CountLemmas.{least_found}
use Rattle.thread_table.proofs.table.Threads.receiver.Goals as goal

pub returns-in_err-least : goal.returns-in_err-least
unfolding process_count
returns-in_err-least c =
    let n = c.args.self.now.procs in
    let test : ℕ → Bool = λ k. is_receiving c.args.serial (threads_of c.args.self.now (id_by_tid n k)) in
    let none : None ≡ least_below (thread_ids n) test =
    least_found (thread_ids n) test None (first_from_Range _ _ _ None (λ k. test k ≡ true) (λ k. test k ≡ false) c.in_err-least.ensures.ran
    (λ x q k. search (rules, tests)) (λ x q k. search (rules, tests))) in
    c.from_residual.ensures ∙ ap (option_map (id_by_tid n)) none

pub returns : goal.returns
unfolding process_count
returns c =
    let n = c.args.self.now.procs in
    let test : ℕ → Bool = λ k. is_receiving c.args.serial (threads_of c.args.self.now (id_by_tid n k)) in
    ap Some c.id_by_tid.ensures
    ∙ ap (option_map (id_by_tid n)) (least_found (thread_ids n) test (Some c.in_ok-least.field-0)
    (first_from_Range _ _ _ (Some c.in_ok-least.field-0) (λ k. test k ≡ true) (λ k. test k ≡ false) c.in_ok-least.ensures.ran
    (λ x q k. search (rules, tests)) (λ x q k. search (rules, tests))))

pub id_by_tid-requires : goal.id_by_tid-requires
unfolding process_count
id_by_tid-requires c =
    let n = c.args.self.now.procs in
    let test : ℕ → Bool = λ k. is_receiving c.args.serial (threads_of c.args.self.now (id_by_tid n k)) in
    let at = c.in_ok-least.field-0 in
    let found : (0 ≤ at) × (at < thread_ids n) × (test at ≡ true) × ((k : ℕ) → 0 ≤ k → k < at → test k ≡ false) =
    first_from_Range _ _ _ (Some at) (λ k. test k ≡ true) (λ k. test k ≡ false) c.in_ok-least.ensures.ran
    (λ x q k. search (rules, tests)) (λ x q k. search (rules, tests)) in
    found.1
