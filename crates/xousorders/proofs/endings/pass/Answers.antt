use Rattle.std.proofs.Common.{◌∙◌, List, Option, ap, false, get_or, sym}
use Rattle.std.specs.Option.{option_map_or}
use Rattle.std.proofs.lemmas.Option.{slice_get-get_or}
use Rattle.order_model.specs.declared.moves.Note.{Note}
use Rattle.xousorders.specs.Searched.{telling_at}
use Rattle.xousorders.proofs.EndingLemmas.{node_passed}
use Rattle.xousorders.proofs.endings.pass.Goals as goal

pub returns-else-note-clause-adds : goal.returns-else-note-clause-adds
returns-else-note-clause-adds c =
    let notes : List Note = c.args.search.now.notes.items in
    let t = telling_at c.args.quest.now.subject c.args.search.now in
    let none : Note = record { ends = false; slices = 0 } in
    node_passed t c.args.view.now c.args.node c.args.endings.now
    (ap (λ (o : Option Note). option_map_or (λ (note : Note). note.ends) o false) (slice_get-get_or notes c.args.node none c.requires.node)
    ∙ (ap (λ (ns : List Note). (get_or ns c.args.node none).ends) (sym c.notes.ensures) ∙ c.if-note.false))
