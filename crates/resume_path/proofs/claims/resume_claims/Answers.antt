use Rattle.std.proofs.Common.{◌≡◌, ◌<◌, List, length, get_or, Some, None, sym, ap, subst, arith}
use Rattle.std.specs.Prelude.{nat_eq}
use Rattle.irq_claims.specs.ClaimsOf.{claims_of}
use Rattle.snapshot_rows.specs.declared.state.ClaimRow.{ClaimRow}
use Rattle.xk_base.specs.Tables.Counting.{put_at}
use Rattle.resume_path.specs.Tables.{row_claim}
use Rattle.resume_path.proofs.Rows.ClaimRowLemmas.{all_claimed, claims_back, next_claimed, next_number, next_pid_small, next_unclaimed, none_claimed, pending_back}
use Rattle.resume_path.proofs.claims.resume_claims.Goals as goal

abbrev no_row : ClaimRow
no_row = record { number = 0; pid = 0; handler = 0; arg = 0; pending = 0 }

-- src/claims.rt
pub rows-init : goal.rows-init
rows-init c = none_claimed c.args.state.now.claims c.new-claims.result c.new-claims.ensures

pub claim_again-requires-clause-number : goal.claim_again-requires-clause-number
claim_again-requires-clause-number c =
    subst (λ (rows : List ClaimRow). (get_or rows c.rows.row-index no_row).number < 32) (sym c.as_slice-row-items.ensures)
    (next_number c.requires.resumable.file c.args.state.now c.requires.resumable.resumable c.rows.row-index no_row
    (omega (arith, c.rows-test.true, ap length c.as_slice-row-items.ensures)))

pub claim_again-requires-clause-pid : goal.claim_again-requires-clause-pid
claim_again-requires-clause-pid c =
    subst (λ (rows : List ClaimRow). (get_or rows c.rows.row-index no_row).pid < 256) (sym c.as_slice-row-items.ensures)
    (next_pid_small c.requires.resumable.file c.args.state.now c.requires.resumable.resumable c.rows.row-index no_row
    (omega (arith, c.rows-test.true, ap length c.as_slice-row-items.ensures)))

pub claim_again-requires-clause-free : goal.claim_again-requires-clause-free
claim_again-requires-clause-free c =
    subst (λ (rows : List ClaimRow). claims_of c.rows.claims (get_or rows c.rows.row-index no_row).number ≡ None) (sym c.as_slice-row-items.ensures)
    (next_unclaimed c.args.state.now.n c.args.state.now.claims c.requires.resumable.resumable.spelled.form.claims c.rows.row-index no_row
    (omega (arith, c.rows-test.true, ap length c.as_slice-row-items.ensures)) c.rows.claims c.rows.invariant)

pub rows-preserved : goal.rows-preserved
rows-preserved c =
    next_claimed c.args.state.now.n c.args.state.now.claims c.requires.resumable.resumable.spelled.form.claims c.rows.row-index no_row
    (omega (arith, c.rows-test.true, ap length c.as_slice-row-items.ensures)) c.rows.claims c.rows.invariant c.claim_again.new.claims
    (subst (λ (rows : List ClaimRow). claims_of c.claim_again.new.claims
    ≡ put_at nat_eq (claims_of c.rows.claims) (get_or rows c.rows.row-index no_row).number (Some (row_claim (get_or rows c.rows.row-index no_row))))
    c.as_slice-row-items.ensures c.claim_again.ensures)

pub returns-clause-claims : goal.returns-clause-claims
returns-clause-claims c =
    claims_back c.args.state.now.n c.args.state.now.claims c.requires.resumable.resumable.spelled.form.claims c.rows.claims
    (all_claimed c.args.state.now.claims c.rows.claims c.rows.row-index (omega (arith, c.rows-test.false, ap length c.as_slice-row-items.ensures)) c.rows.invariant)

pub returns-clause-pending : goal.returns-clause-pending
returns-clause-pending c =
    pending_back c.args.state.now.n c.args.state.now.claims c.requires.resumable.resumable.spelled.form.claims c.rows.claims
    (all_claimed c.args.state.now.claims c.rows.claims c.rows.row-index (omega (arith, c.rows-test.false, ap length c.as_slice-row-items.ensures)) c.rows.invariant)
