-- What functions tell of runs that are listed from the last to the first.
use Rattle.std.proofs.Common.{◌≡◌, ℕ, Bool, List, reverse, Result, Ok, Err, ◌↔◌}
use Rattle.std.specs.Prelude.{IsTrue, IfOk}
use Rattle.ledger_model.specs.Loans.{loans}
use Rattle.xk_base.specs.declared.errors.NoMemory.{NoMemory}
use Rattle.snapshot_rows.specs.declared.state.OrphanRow.{OrphanRow}
use Rattle.snapshot_rows.specs.declared.state.PageRow.{PageRow}
use Rattle.snapshot_rows.specs.declared.runs.Run.{Run}
use Rattle.snapshot_rows.specs.Order.{page_key, orphan_key, AscendInTwo}
use Rattle.snapshot_rows.specs.Machines.{ledger_of}
use Rattle.snapshot_rows.specs.RunParts.{run_of, orphan_run, loan_runs, orphan_runs, AreNumbersApart, AreOneRuns}
use Rattle.std.specs.List.{flat_map}
use Rattle.std.specs.Prelude.{map}
use Rattle.snapshot_rows.proofs.LoanRuns.JoinLemmas.{apart_back}
use Rattle.snapshot_rows.proofs.LoanRuns.SaidLemmas.{says_of}
use Rattle.snapshot_rows.proofs.LoanRuns.StandsLemmas.{one_run_told}

pub if_ok : {A : Type 0} (P Q : A → Type 0) (r : Result A NoMemory) → ((x : A) → P x → Q x) → IfOk r P → IfOk r Q
if_ok P Q (Ok x) f p = f x p
if_ok P Q (Err e) f p = p

pub one_run_of : (file : List ℕ) (pages : List PageRow) (orphans : List OrphanRow) → AscendInTwo page_key pages → AscendInTwo orphan_key orphans
    → (listed left : List Run) → reverse listed ≡ loan_runs pages → reverse left ≡ orphan_runs orphans → (told : Result Bool NoMemory)
    → IfOk told (λ b. IsTrue b ↔ AreNumbersApart listed left) → IfOk told (λ b. IsTrue b ↔ AreOneRuns (ledger_of file pages orphans))
one_run_of file pages orphans p q listed left e f told =
    if_ok (λ b. IsTrue b ↔ AreNumbersApart listed left) (λ b. IsTrue b ↔ AreOneRuns (ledger_of file pages orphans)) told (λ b is. (
    let back = apart_back listed left (loan_runs pages) (orphan_runs orphans) e f in
    let one = one_run_told (loans (ledger_of file pages orphans)) (flat_map run_of pages) (map orphan_run orphans) (says_of file pages orphans p q) in
    (λ holds. one.0 (back.0 (is.0 holds)), λ runs. is.1 (back.1 (one.1 runs)))
    ))
