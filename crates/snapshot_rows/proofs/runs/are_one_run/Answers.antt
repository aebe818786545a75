use Rattle.std.proofs.Common.{ap, ◌∙◌, reverse}
use Rattle.snapshot_rows.proofs.LoanRuns.ToldLemmas.{one_run_of}
use Rattle.snapshot_rows.proofs.runs.are_one_run.Goals as goal

pub returns : goal.returns
returns c file =
    one_run_of file c.args.pages.now c.args.orphans.now c.requires.pages c.requires.orphans c.as_slice.result.now c.as_slice-2.result.now
    (ap reverse c.as_slice.ensures.value ∙ c.in_ok-loans.ensures) (ap reverse c.as_slice-2.ensures.value ∙ c.in_ok-left.ensures)
    c.are_numbers_apart.result c.are_numbers_apart.ensures
