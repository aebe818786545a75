use Rattle.std.proofs.Common.{◌≡◌, ◌++◌, ◌∙◌, List, OnOk, ap, refl, subst, sym, ℕ}
use Rattle.std.specs.Prelude.{codes}
use Rattle.order_model.specs.declared.failing.Failing.{Failing}
use Rattle.order_text.specs.Failings.{failing_text}
use Rattle.order_text.proofs.TextLemmas.{two_pieces}
use Rattle.order_text.proofs.failings.put_failing.Goals as goal

pub returns-in_ok-put-in-ConsoleNot : goal.returns-in_ok-put-in-ConsoleNot
returns-in_ok-put-in-ConsoleNot c =
    let old = c.args.text.now.items in
    subst (λ (xs : List ℕ). OnOk c.put-in-ConsoleNot-2.result (c.put-in-ConsoleNot-2.new.text.items ≡ xs))
    (two_pieces old (codes "console-not=") c.as_bytes-in-ConsoleNot.result.now c.put-in-ConsoleNot.new.text.items _
    c.in_ok-put-in-ConsoleNot.ensures refl
    ∙ (ap (λ (xs : List ℕ). old ++ (codes "console-not=" ++ xs)) c.as_bytes-in-ConsoleNot.ensures.value
    ∙ ap (λ (f : Failing). old ++ failing_text f) (sym c.in-ConsoleNot.is)))
    c.put-in-ConsoleNot-2.ensures
