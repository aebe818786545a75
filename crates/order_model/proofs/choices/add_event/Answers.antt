use Rattle.std.proofs.Common.{◌++◌, ◌∷◌, [], Bool, List, sym, ap, ◌∙◌, append-nil}
use Rattle.std.specs.Prelude.{if◌then◌else◌}
use Rattle.order_model.specs.declared.choices.Choice.{Choice}
use Rattle.order_model.specs.declared.choices.Choice.TheVariants.{Comes}
use Rattle.order_model.proofs.choices.add_event.Goals as goal

pub returns-then-not-may_come : goal.returns-then-not-may_come
returns-then-not-may_come c p stand =
    let choices : List Choice = c.args.choices.now.items in
    let no = sym (c.may_come.ensures p stand) ∙ c.if-not-may_come.true in
    sym (append-nil choices) ∙ ap (λ (b : Bool). choices ++ (if b then Comes c.args.number ∷ [] else [])) (sym no)

pub returns : goal.returns
returns c p stand =
    let choices : List Choice = c.args.choices.now.items in
    let yes = sym (c.may_come.ensures p stand) ∙ c.if-not-may_come.false in
    c.in_ok-push.ensures.items ∙ ap (λ (b : Bool). choices ++ (if b then Comes c.args.number ∷ [] else [])) (sym yes)
