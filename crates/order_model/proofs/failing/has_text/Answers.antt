use Rattle.std.proofs.Common.{◌≡◌, ◌+◌, ◌-◌, ◌∙◌, Bool, List, ap, arith, drop, length, sym, take, take_all, ℕ}
use Rattle.std.specs.Prelude.{nat_eq}
use Rattle.std.specs.List.{starts_with}
use Rattle.std.proofs.lemmas.List.{length-drop}
use Rattle.order_model.proofs.FailingLemmas.{none_found, some_found}
use Rattle.order_model.proofs.failing.has_text.Goals as goal

pub returns-then-starts_with : goal.returns-then-starts_with
returns-then-starts_with c =
    let stands : ℕ → Bool = λ k. starts_with nat_eq (drop k c.args.bytes.now) c.args.text.now in
    let rest : List ℕ = drop c.loop-start.start c.args.bytes.now in
    let size = length-drop c.loop-start.start c.args.bytes.now in
    let all : take (length c.args.bytes.now - c.loop-start.start) rest ≡ rest =
    take_all (length c.args.bytes.now - c.loop-start.start) rest (omega (arith, size)) in
    some_found (length c.args.bytes.now + 1) c.loop-start.start stands (omega arith)
    (ap (λ (bytes : List ℕ). starts_with nat_eq bytes c.args.text.now) (sym all) ∙ (sym c.starts_with.ensures.value ∙ c.if-starts_with.true))

pub returns : goal.returns
returns c =
    let stands : ℕ → Bool = λ k. starts_with nat_eq (drop k c.args.bytes.now) c.args.text.now in
    none_found (length c.args.bytes.now + 1) stands (λ k low. c.loop-start.invariant k (omega (arith, low)))
