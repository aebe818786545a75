use Rattle.std.proofs.Common.{◌≡◌, ◌++◌, List, sym, ap, ◌∙◌}
use Rattle.std.specs.Prelude.{map}
use Rattle.order_model.specs.Endings.{turns_at}
use Rattle.order_model.specs.Moves.{Asked}
use Rattle.order_model.specs.Nodes.{goes_on}
use Rattle.order_model.specs.declared.choices.Choice.{Choice}
use Rattle.order_model.specs.declared.choices.Choice.TheVariants.{Comes, Goes}
use Rattle.order_model.specs.Asking.{asked_of}
use Rattle.order_model.specs.Choosing.{events_at}
use Rattle.order_model.proofs.choices.see.Goals as goal

pub returns-clause-seen : goal.returns-clause-seen
returns-clause-seen c p stand =
    let asked : Asked = asked_of c.args.orders.now in
    let ids : c.in-Ok.ids.items ≡ turns_at asked p.state = c.in-Ok.ensures stand.file ∙ ap (turns_at asked) stand.rows in
    let turns : c.deref-2.result.now ≡ turns_at asked p.state = c.deref-2.ensures.value ∙ ids in
    let none : c.deref.result.now ≡ turns_at asked p.state = c.deref.ensures.value ∙ ids in
    record {
      goes_on = sym (ap (goes_on asked.bound) stand.rows) ∙ (sym (c.go_on.ensures stand.file) ∙ c.if-not-go_on.false);
      choices_are =
          c.in-Ok-add_events.ensures p stand
          ∙ ap (λ (xs : List Choice). xs ++ map Comes (events_at asked p))
          (c.in-Ok-add_turns.ensures ∙ (λ i. c.new-choices.ensures.items i ++ map Goes (turns i)));
      note_is = c.note_of-note.ensures asked p.state none;
    }

pub returns-then-not-go_on-clause-timer : goal.returns-then-not-go_on-clause-timer
returns-then-not-go_on-clause-timer c p stand is =
    let asked : Asked = asked_of c.args.orders.now in
    sym (ap (goes_on asked.bound) stand.rows) ∙ (sym (c.go_on.ensures stand.file) ∙ c.if-not-go_on.true)
