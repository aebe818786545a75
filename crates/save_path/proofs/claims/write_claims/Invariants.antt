use Rattle.xk_parts.specs.Shown.{claims_shown, pending_shown}
use Rattle.suspend_image.specs.Sheets.{appended}
use Rattle.suspend_image.specs.Spelling.{claim_bytes}
use Rattle.suspend_image.specs.Words.{word}
use Rattle.save_path.proofs.SheetLemmas.{HasWritten}
use Rattle.suspend_image.specs.Saveable.{IsClaimSaveable}
use Rattle.save_path.specs.Fitting.{EachBelow}
use Rattle.save_path.specs.Rows.{claim_at}
use Rattle.save_path.proofs.claims.write_claims.Given as goal

-- the claims of the numbers so far were appended, and each fits
abbrev pub invariant-loop-number : goal.invariant-loop-number
invariant-loop-number l = record {
  written : HasWritten claim_bytes 20 (claim_at (pending_shown l.claims) (claims_shown l.claims)) l.number (appended (word 0) l.fn.sheet) l.sheet l.many;
  fit : EachBelow l.number (claims_shown l.claims) IsClaimSaveable;
}
