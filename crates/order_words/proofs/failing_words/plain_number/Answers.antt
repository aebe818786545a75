use Rattle.std.proofs.Common.{◌≡◌, ◌∙◌, List, ℕ, true, false, arith, rules, ap, subst, sym}
use Rattle.std.specs.Prelude.{codes, nat_eq}
use Rattle.std.specs.List.{starts_with}
use Rattle.event_text.specs.Lines.{is_number, number_after}
use Rattle.order_words.proofs.ArgumentLemmas.{if_none}
use Rattle.order_words.proofs.NumberLemmas.{no_digits, no_zero, same_number, spelled_plainly}
use Rattle.order_words.proofs.failing_words.plain_number.Goals as goal
use Rattle.order_words.proofs.failing_words.plain_number.Goals.{then-number-from-via-then-number-from, then-number-from-via-else-number-from+then-number-from-2}

pub returns-in_err-number-clause-none : goal.returns-in_err-number-clause-none
returns-in_err-number-clause-none c =
    let none : is_number c.args.word.now ≡ false =
    subst (λ (w : List ℕ). is_number w ≡ false) c.as_bytes.ensures.value (c.in_err-number.ensures.none (search rules)) in
    if_none c.from_residual.result _ (λ n plain. no_digits c.args.word.now n c.args.least c.args.most (omega arith) none plain)

pub returns-then-number-from-clause-none : goal.returns-then-number-from-clause-none
returns-then-number-from-clause-none c n plain =
    let is : is_number c.args.word.now ≡ true =
    subst (λ (w : List ℕ). is_number w ≡ true) c.as_bytes.ensures.value (c.in_ok-number.ensures.found (search rules)) in
    let value : c.in_ok-number.number ≡ number_after 0 c.args.word.now =
    c.in_ok-number.ensures.value ∙ ap (number_after 0) c.as_bytes.ensures.value in
    let same : c.in_ok-number.number ≡ n = same_number c.args.word.now _ n c.args.least c.args.most (omega arith) is value plain in
    let above = plain.within.0 in
    let below = plain.within.1 in
    elim c.then-number-from.branch [
      | then-number-from-via-then-number-from w ↦ omega (arith, same, above, below)
      | then-number-from-via-else-number-from+then-number-from-2 w ↦ omega (arith, same, above, below)
    ]

pub returns-then-starts_with-clause-none : goal.returns-then-starts_with-clause-none
returns-then-starts_with-clause-none c n plain =
    let zero : starts_with nat_eq c.args.word.now (codes "0") ≡ true =
    subst (λ (w : List ℕ). starts_with nat_eq w (codes "0") ≡ true) c.as_bytes-2.ensures.value (sym c.starts_with.ensures.value ∙ c.if-starts_with.true) in
    no_zero c.args.word.now n c.args.least c.args.most (omega arith) (omega arith) zero plain

pub returns-clause-some : goal.returns-clause-some
returns-clause-some c =
    let is : is_number c.args.word.now ≡ true =
    subst (λ (w : List ℕ). is_number w ≡ true) c.as_bytes.ensures.value (c.in_ok-number.ensures.found (search rules)) in
    let value : c.in_ok-number.number ≡ number_after 0 c.args.word.now =
    c.in_ok-number.ensures.value ∙ ap (number_after 0) c.as_bytes.ensures.value in
    let first : starts_with nat_eq c.args.word.now (codes "0") ≡ false =
    subst (λ (w : List ℕ). starts_with nat_eq w (codes "0") ≡ false) c.as_bytes-2.ensures.value (sym c.starts_with.ensures.value ∙ c.if-starts_with.false) in
    record {
      within = (omega arith, omega arith);
      spelled = spelled_plainly c.args.word.now c.in_ok-number.number is value (omega arith) first;
    }
