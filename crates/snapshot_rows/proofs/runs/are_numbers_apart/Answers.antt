use Rattle.std.proofs.Common.{◌++◌, List, ℕ, ap, subst, ◌∙◌, ◌↔◌}
use Rattle.std.specs.Prelude.{IsTrue}
use Rattle.std.specs.List.{IsDistinct}
use Rattle.snapshot_rows.specs.PageParts.{same_key}
use Rattle.snapshot_rows.specs.RunParts.{run_keys}
use Rattle.snapshot_rows.proofs.LoanRuns.JoinLemmas.{apart_told}
use Rattle.snapshot_rows.proofs.runs.are_numbers_apart.Goals as goal

pub returns : goal.returns
returns c =
    let keys = c.in_ok-add_numbers-2.ensures
    ∙ ap (λ (xs : List (ℕ × ℕ)). xs ++ run_keys c.args.orphans.now)
    (c.in_ok-add_numbers.ensures ∙ ap (λ (xs : List (ℕ × ℕ)). xs ++ run_keys c.args.loans.now) c.new-keys.ensures.items) in
    apart_told c.args.loans.now c.args.orphans.now c.are_different.result
    (subst (λ (xs : List (ℕ × ℕ)). IsTrue c.are_different.result ↔ IsDistinct same_key xs) keys c.are_different.ensures)
