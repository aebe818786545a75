use Rattle.std.proofs.Common.{ap, ◌∙◌}
use Rattle.suspend_image.specs.Sheets.{appended}
use Rattle.suspend_image.specs.Spelling.{message_bytes}
use Rattle.snapshot_rows.specs.declared.state.MessageRow.{MessageRow}
use Rattle.save_path.proofs.MessageLemmas.{all_appended, all_fit, none_so_far, one_more, room_for_next}
use Rattle.save_path.proofs.servers.write_messages.Goals as goal

pub loop-message-init : goal.loop-message-init
loop-message-init c =
    none_so_far c.args.messages c.into_iter-message-iterator.result c.args.sheet.now c.into_iter-message-iterator.ensures.into_iter_gives

pub write_message-requires : goal.write_message-requires
write_message-requires c =
    room_for_next c.args.messages c.loop-message.message-iterator c.next.new.self c.in-Some.message.now c.message_row.result c.args.sheet.now
    c.loop-message.sheet c.loop-message.invariant c.in-Some.ensures.steps c.message_row.ensures.four c.requires

pub loop-message-preserved : goal.loop-message-preserved
loop-message-preserved c =
    one_more c.args.messages c.loop-message.message-iterator c.next.new.self c.in-Some.message.now c.args.sheet.now c.loop-message.sheet
    c.write_message.new.sheet c.loop-message.invariant c.in-Some.ensures.steps
    (c.write_message.ensures ∙ ap (λ (row : MessageRow). appended (message_bytes row) c.loop-message.sheet) c.message_row.ensures.row)
    c.message_row.ensures.fit

pub returns-clause-rows : goal.returns-clause-rows
returns-clause-rows c =
    all_appended c.args.messages c.loop-message.message-iterator c.args.sheet.now c.loop-message.sheet c.loop-message.invariant
    c.in-None.ensures.steps.0

pub returns-clause-fit : goal.returns-clause-fit
returns-clause-fit c =
    all_fit c.args.messages c.loop-message.message-iterator c.args.sheet.now c.loop-message.sheet c.loop-message.invariant c.in-None.ensures.steps.0
