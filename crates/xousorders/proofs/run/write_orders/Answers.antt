use Rattle.std.proofs.Common.{All, List, ℕ, OnOk, Option, Result, Ok, Err, ap, subst, sym}
use Rattle.std.specs.Option.{option_copied}
use Rattle.event_text.specs.Spelling.{AreAskable}
use Rattle.order_model.specs.Asking.{asked_of}
use Rattle.order_model.specs.Moves.{Asked, events_of}
use Rattle.xk_ports.specs.Told.{Grows}
use Rattle.xousorders.specs.Reports.{Report, files_in, report_of}
use Rattle.xousorders.specs.Files.{EventFile, order_files}
use Rattle.order_text.specs.declared.endings.Ending.{Ending}
use Rattle.xousorders.proofs.FileLemmas.{no_files_in}
use Rattle.xousorders.proofs.run.write_orders.Goals as goal

pub returns-in_default-clause-filed : goal.returns-in_default-clause-filed
returns-in_default-clause-filed g c =
    no_files_in (option_copied c.args.folder) (report_of c.args.quest.now.subject c.args.told.now) (g.F.EventFiles.written c.args.files.now)
    (ap option_copied c.in_default.is)

pub returns-clause-filed : goal.returns-clause-filed
returns-clause-filed g c =
    let s = c.args.quest.now.subject in
    let report : Report = report_of s c.args.told.now in
    let asked : Asked = asked_of s.orders in
    let old : Option (List EventFile) = g.F.EventFiles.written c.args.files.now in
    let new : Option (List EventFile) = g.F.EventFiles.written c.write_files.new.files in
    let name : List ℕ = c.in-Some.folder.now in
    let behind = subst (λ (bytes : List ℕ). OnOk c.write_files.result (Grows old new (order_files name asked bytes c.deref.result.now))) c.before-2.ensures
    (c.write_files.ensures.filed asked (sym c.once.ensures)) in
    let all = subst (λ (es : List Ending). OnOk c.write_files.result (Grows old new (order_files name asked s.before.items es))) c.deref.ensures.value behind in
    subst (λ (f : Option (List ℕ)). OnOk c.write_files.result (Grows old new (files_in f report))) (sym (ap option_copied c.in-Some.is)) all

pub returns-clause-spelled : goal.returns-clause-spelled
returns-clause-spelled g c askable =
    let s = c.args.quest.now.subject in
    let asked : Asked = asked_of s.orders in
    let all = c.write_files.ensures.spelled asked (sym c.once.ensures) (subst AreAskable (sym c.once.ensures) askable) in
    weaker c.write_files.result _ _ (λ spelled folder. subst (λ (es : List Ending). All (λ (e : Ending). AreAskable (events_of asked e.order.items)) es)
    c.deref.ensures.value spelled) all
  where
    weaker : {E : Type 0} (r : Result (Unit {0}) E) (P Q : Type 0) → (P → Q) → OnOk r P → OnOk r Q
    weaker (Ok x) P Q f h = f h
    weaker (Err e) P Q f h = tt
