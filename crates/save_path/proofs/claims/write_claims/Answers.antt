use Rattle.std.proofs.Common.{◌≡◌, ◌∙◌, length, Some, None, sym, ap, arith}
use Rattle.std.specs.Option.{option_map}
use Rattle.irq_claims.specs.ClaimsOf.{claims_of}
use Rattle.xk_parts.specs.Shown.{claim_of, claims_shown, pending_shown}
use Rattle.suspend_image.specs.Saveable.{IsClaimSaveable}
use Rattle.suspend_image.specs.Sheets.{appended}
use Rattle.suspend_image.specs.Spelling.{claim_bytes}
use Rattle.suspend_image.specs.Words.{word}
use Rattle.save_path.specs.Rows.{claim_at}
use Rattle.save_path.proofs.FittingLemmas.{each_gone, each_none, each_this}
use Rattle.save_path.proofs.SheetLemmas.{fits_rows, next_has_room, written_done, written_first, written_more, written_skip}
use Rattle.save_path.proofs.SizeLemmas.{length-claim}
use Rattle.save_path.proofs.TableLemmas.{claim_gone, claim_there}
use Rattle.save_path.proofs.claims.write_claims.Goals.{in-Some, in_default}
use Rattle.save_path.proofs.claims.write_claims.Goals as goal

pub loop-number-init : goal.loop-number-init
loop-number-init c = record {
  written = written_first claim_bytes 20 (claim_at (pending_shown c.args.claims.now) (claims_shown c.args.claims.now)) (appended (word 0) c.args.sheet.now)
      c.push_word.new.self c.push_word.ensures;
  fit = each_none (claims_shown c.args.claims.now) IsClaimSaveable;
}

pub write_claim-requires : goal.write_claim-requires
write_claim-requires c =
    let written = c.loop-number.invariant.written in
    next_has_room claim_bytes 20 (claim_at (pending_shown c.args.claims.now) (claims_shown c.args.claims.now)) c.loop-number.number 32
    (appended (word 0) c.args.sheet.now) c.loop-number.sheet c.loop-number.many c.claim_row.result written
    (omega (arith, written.below, c.loop-number-test.true)) (fits_rows c.args.sheet.now 640 c.requires) (length-claim c.claim_row.result)

pub loop-number-preserved : goal.loop-number-preserved
loop-number-preserved c =
    let row = claim_at (pending_shown c.args.claims.now) (claims_shown c.args.claims.now) in
    let start = appended (word 0) c.args.sheet.now in
    let written = c.loop-number.invariant.written in
    let fit = c.loop-number.invariant.fit in
    elim c.match-get.branch [
      | in-Some w ↦
          let there : claims_of c.args.claims.now c.loop-number.number ≡ Some w.in-Some.claim = sym c.get.ensures ∙ w.in-Some.is in
          rw (w.sheet-is, w.many-is)
          (record {
            written = written_more claim_bytes 20 row c.loop-number.number start c.loop-number.sheet w.write_claim.new.sheet c.loop-number.many
                w.claim_row.result written (claim_there c.args.claims.now c.loop-number.number w.in-Some.claim there ∙ ap Some (sym w.claim_row.ensures.row))
                w.write_claim.ensures (length-claim w.claim_row.result);
            fit = each_this (claims_shown c.args.claims.now) IsClaimSaveable c.loop-number.number (claim_of w.in-Some.claim) fit
                (ap (option_map claim_of) there) w.claim_row.ensures.fit;
          })
      | in_default w ↦
          let gone : claims_of c.args.claims.now c.loop-number.number ≡ None = sym c.get.ensures ∙ w.in_default.is in
          rw (w.sheet-is, w.many-is)
          (record {
            written = written_skip claim_bytes 20 row c.loop-number.number start c.loop-number.sheet c.loop-number.many written
                (claim_gone c.args.claims.now c.loop-number.number gone);
            fit = each_gone (claims_shown c.args.claims.now) IsClaimSaveable c.loop-number.number fit (ap (option_map claim_of) gone);
          })
    ]

pub returns-clause-rows : goal.returns-clause-rows
returns-clause-rows c =
    let written = c.loop-number.invariant.written in
    written_done claim_bytes 20 (claim_at (pending_shown c.args.claims.now) (claims_shown c.args.claims.now)) c.loop-number.number 32 32 c.args.sheet.now
    c.loop-number.sheet c.set_word.new.self c.loop-number.many (length c.as_slice.result.now) written (omega arith) (omega (arith, written.below))
    (ap length c.as_slice.ensures) c.set_word.ensures

pub returns-clause-fit : goal.returns-clause-fit
returns-clause-fit c k claim low e = c.loop-number.invariant.fit k claim (omega arith) e
