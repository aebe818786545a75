use Rattle.std.proofs.Common.{◌≡◌, Some, None, sym, ap, ◌∙◌, arith}
use Rattle.std.specs.Option.{option_map, option_and_then}
use Rattle.xk_base.specs.declared.limits.TheConstants.{INTERRUPT_LIMIT}
use Rattle.xk_base.specs.Tables.RowMap.{row_map}
use Rattle.xk_base.proofs.CountingLemmas.{least_below-None}
use Rattle.xk_base.proofs.RowMapLemmas.{row_map_set}
use Rattle.irq_claims.specs.ClaimMap.{is_due_to, delivery, lowest_due, settle_any}
use Rattle.irq_claims.specs.ClaimsOf.{claims_of}
use Rattle.irq_claims.proofs.LowestLemmas.{lowest_due_is, delivered, settled}
use Rattle.irq_claims.proofs.claims.Claims.take_lowest.Goals as goal

found : (c : goal.Then-claim) → (row_map c.args.self.now.by_number c.loop-k.k ≡ Some c.in-Some.claim) × (lowest_due c.args.pid (row_map c.args.self.now.by_number) ≡ Some c.loop-k.k)
found c =
    let here : row_map c.args.self.now.by_number c.loop-k.k ≡ Some c.in-Some.claim =
    ap (λ t. row_map t.by_number c.loop-k.k) (sym c.loop-k.invariant.same) ∙ c.in-Some.is in (
      here,
      lowest_due_is c.args.pid (row_map c.args.self.now.by_number) c.loop-k.k c.in-Some.claim c.loop-k-test.true here
          (sym c.eq.ensures ∙ c.if-eq.true) c.if-claim.true c.loop-k.invariant.none,
    )

pub returns-in-loop-k-clause-answer : goal.returns-in-loop-k-clause-answer
unfolding claims_of
returns-in-loop-k-clause-answer c =
    sym (delivered c.args.pid (row_map c.args.self.now.by_number) c.loop-k.k c.in-Some.claim (found c).1 (found c).0)

pub returns-in-loop-k-clause-after : goal.returns-in-loop-k-clause-after
unfolding claims_of
returns-in-loop-k-clause-after c =
    rw c.loop-k.invariant.same
    (row_map_set c.args.self.now.by_number c.loop-k.k _ (omega arith)
    ∙ sym (settled c.args.pid (row_map c.args.self.now.by_number) c.loop-k.k c.in-Some.claim (found c).1 (found c).0))

none_due : (c : goal.After-loop-k) → lowest_due c.args.pid (row_map c.args.self.now.by_number) ≡ None
none_due c = least_below-None INTERRUPT_LIMIT (λ k. is_due_to c.args.pid (row_map c.args.self.now.by_number k)) (λ k l. c.loop-k.invariant.none k (omega arith))

pub returns-clause-answer : goal.returns-clause-answer
unfolding claims_of
returns-clause-answer c =
    sym (ap (option_and_then (λ k. option_map (delivery k) (row_map c.args.self.now.by_number k))) (none_due c))

pub returns-clause-after : goal.returns-clause-after
unfolding claims_of
returns-clause-after c =
    ap (λ t. row_map t.by_number) c.loop-k.invariant.same ∙ sym (ap (λ o. settle_any o (row_map c.args.self.now.by_number)) (none_due c))
