use Rattle.std.proofs.Common.{◌≡◌, ◌∙◌, ◌<◌, All, List, length, arith, refl, subst, take_all}
use Rattle.std.proofs.lemmas.List.Elements.{All-more, All-nil}
use Rattle.std.proofs.lemmas.Option.{slice_get_read}
use Rattle.event_text.specs.Spelling.{AreAskable}
use Rattle.order_model.specs.Moves.{events_of}
use Rattle.xk_base.specs.Outside.{Rose}
use Rattle.xk_ports.specs.Told.{Grows}
use Rattle.xousorders.specs.Files.{files_below}
use Rattle.xousorders.specs.Outcomes.{IsUnfiled}
use Rattle.order_text.specs.declared.endings.Ending.{Ending}
use Rattle.xousorders.proofs.CallLemmas.{unfiled_later}
use Rattle.xousorders.proofs.ResultLemmas.{exit_says}
use Rattle.xousorders.proofs.FileLemmas.{file_more, no_files}
use Rattle.xousorders.proofs.files.write_files.Goals as goal

pub loop-place-init : goal.loop-place-init
loop-place-init g c = record {
  filed = λ asked same. no_files c.args.folder.now asked c.args.before.now c.args.endings.now (g.F.EventFiles.written c.args.files.now);
  spelled = λ asked same once. All-nil (λ (e : Ending). AreAskable (events_of asked e.order.items));
  never_falls = omega arith;
  opened = refl;
}

pub loop-place-preserved : goal.loop-place-preserved
loop-place-preserved g c =
    let low : c.loop-place.place < length c.args.endings.now = omega arith in
    record {
      filed = λ asked same.
          file_more c.args.folder.now asked c.args.before.now c.args.endings.now c.loop-place.place c.index-endings-place.result _ _ _ _
          (slice_get_read c.args.endings.now (length c.args.endings.now) c.loop-place.place c.index-endings-place.result refl low
          c.index-endings-place.is)
          refl (c.loop-place.invariant.filed asked same) (c.in_ok-write_file.ensures.filed asked same);
      spelled = λ asked same once.
          All-more (λ (e : Ending). AreAskable (events_of asked e.order.items)) c.args.endings.now c.loop-place.place c.index-endings-place.result low
          (c.loop-place.invariant.spelled asked same once)
          (subst (λ (e : Ending). AreAskable (events_of asked e.order.items)) c.index-endings-place.is
          (c.in_ok-write_file.ensures.spelled asked same once));
      never_falls = (let a = c.loop-place.invariant.never_falls in let b = c.write_file.ensures.never_falls in omega (arith, a, b));
      opened = c.write_file.ensures.opened ∙ c.loop-place.invariant.opened;
    }

pub returns-in_err-write_file-clause-unfiled : goal.returns-in_err-write_file-clause-unfiled
returns-in_err-write_file-clause-unfiled g c =
    let rose = Rose (g.F.EventFiles.faults c.args.files.now) (g.F.EventFiles.faults c.write_file.new.files) in
    exit_says c.from_residual.result _ (IsUnfiled rose) c.from_residual.ensures.1
    (unfiled_later _ _ _ c.loop-place.invariant.never_falls _ c.in_err-write_file.ensures.unfiled)

pub returns-clause-filed : goal.returns-clause-filed
returns-clause-filed g c asked same =
    let done : c.loop-place.place ≡ length c.args.endings.now = omega arith in
    subst (λ n. Grows (g.F.EventFiles.written c.args.files.now) (g.F.EventFiles.written c.loop-place.files)
    (files_below c.args.folder.now asked c.args.before.now c.args.endings.now n)) done (c.loop-place.invariant.filed asked same)

pub returns-clause-spelled : goal.returns-clause-spelled
returns-clause-spelled g c asked same once =
    subst (λ (es : List Ending). All (λ (e : Ending). AreAskable (events_of asked e.order.items)) es)
    (take_all c.loop-place.place c.args.endings.now (omega arith)) (c.loop-place.invariant.spelled asked same once)

pub returns-in_err-write_file-clause-opened : goal.returns-in_err-write_file-clause-opened
returns-in_err-write_file-clause-opened g c = c.write_file.ensures.opened ∙ c.loop-place.invariant.opened
