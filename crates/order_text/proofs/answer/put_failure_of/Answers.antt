use Rattle.std.proofs.Common.{◌≡◌, ◌++◌, ◌∙◌, [], List, OnOk, Option, subst, sym, ℕ}
use Rattle.std.specs.Option.{option_map_or}
use Rattle.order_model.specs.declared.failing.Failing.{Failing}
use Rattle.order_model.specs.declared.moves.Move.{Move}
use Rattle.order_text.specs.Lines.{failure_line}
use Rattle.order_text.proofs.answer.put_failure_of.Goals as goal

pub returns-in-Some : goal.returns-in-Some
returns-in-Some c =
    let line : List Move → List ℕ = λ order. failure_line c.in-Some.failing c.args.number order in
    subst (λ (o : Option Failing). OnOk c.put_failure.result (c.put_failure.new.text.items
    ≡ c.args.text.now.items ++ option_map_or (λ (failing : Failing). failure_line failing c.args.number c.args.ending.now.order.items) o []))
    (sym c.in-Some.is ∙ c.failing_of.ensures)
    (subst (λ (order : List Move). OnOk c.put_failure.result (c.put_failure.new.text.items ≡ c.args.text.now.items ++ line order)) c.deref.ensures.value
    c.put_failure.ensures)
