use Rattle.std.proofs.Common.{◌∙◌, IsSome, List, Option, inl, inr, refl, sym, ap, subst, length, ℕ}
use Rattle.std.specs.Cmp.Lexicographic.{slice_cmp}
use Rattle.std.specs.Ordering.{nat_cmp}
use Rattle.event_text.specs.Spelling.{AreAskable}
use Rattle.order_text.specs.declared.endings.Ending.{Ending}
use Rattle.program_status.specs.Notes.{sink_side}
use Rattle.program_status.specs.declared.status.Status.TheVariants.{WriteFault}
use Rattle.xk_base.specs.Outside.{Rose}
use Rattle.xk_ports.specs.Told.{Grows}
use Rattle.xousorders.specs.Calls.{Command, Ends, IsSubject, Sides, command_in, outcome_in, sides_of}
use Rattle.xousorders.specs.Failures.{asks_failure, tells_failure}
use Rattle.xousorders.specs.Files.{EventFile}
use Rattle.xousorders.specs.Halts.{EndsIn, TellsAll}
use Rattle.xousorders.specs.Outcomes.{IsUnfiled, is_whole, outcome_of}
use Rattle.xousorders.specs.Reports.{AreSpelled, Report, files_in, report_of}
use Rattle.xousorders.specs.declared.limits.Limits.{Limits}
use Rattle.xousorders.proofs.CallLemmas.{early_ends, halted_ends, stops_so, told_ends}
use Rattle.xousorders.proofs.ReplayLemmas.{files_written}
use Rattle.xousorders.proofs.run.run.Goals as goal

pub returns-in-Err : goal.returns-in-Err
returns-in-Err g c =
    let command : Command = command_in c.args.words in
    let sides : Sides = sides_of g.H.Host g.K.Sink g.F.EventFiles c.args.host.now c.quest_of.new.host c.args.out.now c.args.out.now c.args.files.now
    c.args.files.now in
    early_ends (slice_cmp nat_cmp) command sides c.in-Err.status (inl (record {
      unwritten = refl;
      stops = stops_so sides.files command.asking (Rose sides.host_faults sides.host_faults_after) (Rose sides.unopened sides.unopened_after)
          c.in-Err.status c.in-Err.ensures.stops;
    }))

pub returns-in-Err-open_folder : goal.returns-in-Err-open_folder
returns-in-Err-open_folder g c =
    let command : Command = command_in c.args.words in
    let sides : Sides = sides_of g.H.Host g.K.Sink g.F.EventFiles c.args.host.now c.quest_of.new.host c.args.out.now c.args.out.now c.args.files.now
    c.open_folder.new.files in
    early_ends (slice_cmp nat_cmp) command sides WriteFault (inl (record { unwritten = refl; stops = c.in-Err-open_folder.ensures.cause }))

pub returns-in-Err-search_levels : goal.returns-in-Err-search_levels
returns-in-Err-search_levels g c =
    let command : Command = command_in c.args.words in
    let sides : Sides = sides_of g.H.Host g.K.Sink g.F.EventFiles c.args.host.now c.quest_of.new.host c.args.out.now c.search_levels.new.out
    c.args.files.now c.open_folder.new.files in
    let s = c.in-Ok.quest.subject in
    subst (Ends (slice_cmp nat_cmp) command sides) (sym c.halted.ensures)
    (halted_ends (slice_cmp nat_cmp) command sides c.in-Err-search_levels.halt (record {
      asked = s;
      is_asked = record { is_asked = c.in-Ok.ensures.asked; begun = c.in-Ok.ensures.begun };
      ends = subst (λ (limits : Limits). EndsIn (slice_cmp nat_cmp) limits command.view s (sink_side g.K.Sink c.args.out.now c.search_levels.new.out)
          c.in-Err-search_levels.halt) c.limits_of-limits.ensures c.in-Err-search_levels.ensures.ends;
    }))

pub returns-in-Ok-write_orders : goal.returns-in-Ok-write_orders
returns-in-Ok-write_orders g c =
    let command : Command = command_in c.args.words in
    let sides : Sides = sides_of g.H.Host g.K.Sink g.F.EventFiles c.args.host.now c.quest_of.new.host c.args.out.now c.search_levels.new.out
    c.args.files.now c.write_orders.new.files in
    let s = c.in-Ok.quest.subject in
    let told = c.in-Ok-search_levels.told in
    let searched = c.search_levels.new.quest.subject in
    let tells = subst (λ (limits : Limits). TellsAll (slice_cmp nat_cmp) limits command.view s searched (sink_side g.K.Sink c.args.out.now
    c.search_levels.new.out) told) c.limits_of-limits.ensures c.in-Ok-search_levels.ensures.tells in
    let is_asked : IsSubject sides.files command s = record { is_asked = c.in-Ok.ensures.asked; begun = c.in-Ok.ensures.begun } in
    let filed = subst (λ (w : Option (List EventFile)). Grows w sides.filed_after (files_in command.folder (report_of searched told))) c.open_folder.ensures.written
    c.in-Ok-write_orders.ensures.filed in
    told_ends (slice_cmp nat_cmp) command sides tells.account c.ended.result
    (record { asked = s; is_asked = is_asked; right = tells.right; is_last = tells.is_last; written = tells.written })
    (files_written (slice_cmp nat_cmp) c.orders_are_replayed.ensures command sides s (length tells.account.levels) tells.account.last is_asked
    tells.right.last c.requires.askable
    (subst (λ (r : Report). Grows sides.filed sides.filed_after (files_in command.folder r)) (sym tells.report_is) filed)
    (subst (λ (r : Report). AreAskable r.finding.searched.orders.once.items → IsSome command.folder → AreSpelled r) (sym tells.report_is)
    c.in-Ok-write_orders.ensures.spelled))
    (c.ended.ensures
    ∙ (ap (λ (list : List Ending). outcome_of (tells_failure command.view.fails.items command.view.differ list)
    (asks_failure command.view.fails.items command.view.differ) (is_whole told.found.extent)) c.deref.ensures.value
    ∙ ap (outcome_in command.view) (sym tells.report_is)))

pub returns : goal.returns
returns g c =
    let command : Command = command_in c.args.words in
    let sides : Sides = sides_of g.H.Host g.K.Sink g.F.EventFiles c.args.host.now c.quest_of.new.host c.args.out.now c.search_levels.new.out
    c.args.files.now c.write_orders.new.files in
    let s = c.in-Ok.quest.subject in
    let told = c.in-Ok-search_levels.told in
    let searched = c.search_levels.new.quest.subject in
    let tells = subst (λ (limits : Limits). TellsAll (slice_cmp nat_cmp) limits command.view s searched (sink_side g.K.Sink c.args.out.now
    c.search_levels.new.out) told) c.limits_of-limits.ensures c.in-Ok-search_levels.ensures.tells in
    early_ends (slice_cmp nat_cmp) command sides c.in-Err-write_orders.status (inr (inr (record {
      account = tells.account;
      told = record {
        asked = s;
        is_asked = record { is_asked = c.in-Ok.ensures.asked; begun = c.in-Ok.ensures.begun };
        right = tells.right;
        is_last = tells.is_last;
        written = tells.written;
      };
      opened = c.write_orders.ensures.opened ∙ c.in-Ok-open_folder.ensures.opened;
      unfiled = subst (λ (n : ℕ). IsUnfiled (Rose n sides.folder_faults_after) c.in-Err-write_orders.status) c.open_folder.ensures.faults
          c.in-Err-write_orders.ensures.unfiled;
    })))
