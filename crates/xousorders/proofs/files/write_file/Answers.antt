use Rattle.std.proofs.Common.{◌∷◌, ◌∙◌, [], List, ℕ, ap, subst}
use Rattle.event_text.specs.Spelling.{AreAskable}
use Rattle.order_model.specs.declared.moves.Move.{Move}
use Rattle.order_model.specs.Moves.{events_of}
use Rattle.xk_ports.specs.Told.{Grows}
use Rattle.xousorders.specs.Files.{order_file}
use Rattle.xousorders.proofs.files.write_file.Goals as goal

pub returns-in-Ok-clause-filed : goal.returns-in-Ok-clause-filed
returns-in-Ok-clause-filed g c asked same =
    subst (λ (bytes : List ℕ). Grows (g.F.EventFiles.written c.args.files.now) (g.F.EventFiles.written c.write.new.self)
    ((record { folder = c.args.folder.now; number = c.args.number; bytes = bytes }) ∷ []))
    (c.as_slice.ensures.value ∙ (c.in_ok-file.ensures.file asked same ∙ ap (order_file asked c.args.before.now) c.deref.ensures.value))
    c.in-Ok.ensures.written

pub returns-in-Ok-clause-spelled : goal.returns-in-Ok-clause-spelled
returns-in-Ok-clause-spelled g c asked same once =
    subst (λ (order : List Move). AreAskable (events_of asked order)) c.deref.ensures.value (c.in_ok-file.ensures.spelled asked same once)
