use Rattle.std.proofs.Common.{◌++◌, ◌∙◌, [], ◌∷◌, Bool, List, ap, sym}
use Rattle.std.specs.Prelude.{if◌then◌else◌}
use Rattle.std.proofs.lemmas.List.{append-nil}
use Rattle.order_model.specs.Endings.{is_busy_of}
use Rattle.snapshot_rows.specs.Machines.{machine_of}
use Rattle.xk_base.specs.declared.ids.ThreadId.{ThreadId}
use Rattle.xk_base.specs.Tables.Circle.{id_at}
use Rattle.order_text.proofs.threads.add_if_busy.Goals as goal

abbrev added : List ThreadId → ThreadId → Bool → List ThreadId
added ids who b = ids ++ (if b then who ∷ [] else [])

pub returns-then-not-is_busy_of : goal.returns-then-not-is_busy_of
returns-then-not-is_busy_of c file =
    let tells = c.is_busy_of.ensures file ∙ ap (is_busy_of (machine_of file c.args.state.now) c.args.pid) c.id_at-who.ensures in
    sym (append-nil c.args.ids.now.items) ∙ ap (added c.args.ids.now.items (id_at c.args.place)) (sym c.if-not-is_busy_of.true ∙ tells)

pub returns : goal.returns
returns c file =
    let tells = c.is_busy_of.ensures file ∙ ap (is_busy_of (machine_of file c.args.state.now) c.args.pid) c.id_at-who.ensures in
    c.in_ok-push.ensures.items
    ∙ (ap (λ (who : ThreadId). c.args.ids.now.items ++ who ∷ []) c.id_at-who.ensures
    ∙ ap (added c.args.ids.now.items (id_at c.args.place)) (sym c.if-not-is_busy_of.false ∙ tells))
