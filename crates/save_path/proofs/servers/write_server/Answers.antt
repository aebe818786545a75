use Rattle.std.proofs.Common.{◌∙◌, length, sym, ap, refl, arith}
use Rattle.std.proofs.lemmas.List.Elements.{All-append, All-same}
use Rattle.std.specs.Prelude.{map}
use Rattle.msg_queue.specs.Seats.{message_of, seat_of}
use Rattle.xk_parts.specs.Shown.{server_with}
use Rattle.suspend_image.specs.SavedRows.{server_row}
use Rattle.save_path.specs.Fitting.{IsMessageFit}
use Rattle.save_path.specs.Servers.{table_server}
use Rattle.save_path.proofs.MessageLemmas.{seat_room, server_appended, told_appended, told_length, told_many}
use Rattle.save_path.proofs.servers.write_server.Goals as goal

pub push_words-requires : goal.push_words-requires
push_words-requires c = (seat_room c.args.sheet.now c.sid_words.result c.sid_words.ensures.four c.requires.room).sid

pub push_words-requires-2 : goal.push_words-requires-2
push_words-requires-2 c =
    (seat_room c.args.sheet.now c.sid_words.result c.sid_words.ensures.four c.requires.room).middle c.push_words.new.self _ _ _ _ c.push_words.ensures

pub write_messages-requires : goal.write_messages-requires
write_messages-requires c =
    let few = c.is_full-few.ensures.few in
    let seat = seat_of c.args.queues.now c.args.seated.seat in
    let queued = told_length seat.queued c.queued_messages-queued.result c.queued_messages-queued.ensures in
    (seat_room c.args.sheet.now c.sid_words.result c.sid_words.ensures.four c.requires.room).queued c.push_words.new.self c.push_words-2.new.self _ _ _ _
    c.push_words.ensures c.push_words-2.ensures
    (length c.queued_messages-queued.result) (omega arith)

pub write_messages-requires-2 : goal.write_messages-requires-2
write_messages-requires-2 c =
    let few = c.is_full-few.ensures.few in
    let seat = seat_of c.args.queues.now c.args.seated.seat in
    let queued = told_length seat.queued c.queued_messages-queued.result c.queued_messages-queued.ensures in
    let held = told_length seat.held c.held_messages-held.result c.held_messages-held.ensures in
    (seat_room c.args.sheet.now c.sid_words.result c.sid_words.ensures.four c.requires.room).held c.push_words.new.self c.push_words-2.new.self
    c.write_messages.new.sheet _ _ _ _ c.push_words.ensures c.push_words-2.ensures
    _ (length c.queued_messages-queued.result) (length c.held_messages-held.result) c.write_messages.ensures.rows (omega arith)

pub returns-clause-row : goal.returns-clause-row
returns-clause-row c =
    let seat = seat_of c.args.queues.now c.args.seated.seat in
    let row = server_row c.args.seated.server.serial.0 (server_with seat (table_server c.args.seated)) in
    let few = c.is_full-few.ensures.few in
    let told = c.queued_messages-queued in
    let told_held = c.held_messages-held in
    let queued = told_length seat.queued told.result told.ensures in
    let held = told_length seat.held told_held.result told_held.ensures in
    let many = c.left.ensures.many in
    let many_held = c.left-2.ensures.many in
    server_appended row c.args.sheet.now c.push_words.new.self c.push_words-2.new.self c.write_messages.new.sheet c.write_messages-2.new.sheet
    c.sid_words.result _ _ c.left.result c.left-2.result c.sid_words.ensures.are c.sid_words.ensures.four refl c.from.ensures
    (told_many seat.queued told.result c.left.result told.ensures many)
    (told_many seat.held told_held.result c.left-2.result told_held.ensures many_held) c.push_words.ensures c.push_words-2.ensures
    (told_appended seat.queued told.result c.left.result c.push_words-2.new.self c.write_messages.new.sheet told.ensures many c.write_messages.ensures.rows)
    (told_appended seat.held told_held.result c.left-2.result c.write_messages.new.sheet c.write_messages-2.new.sheet told_held.ensures many_held
    c.write_messages-2.ensures.rows)
    (omega arith)

pub returns-clause-fit : goal.returns-clause-fit
returns-clause-fit c =
    let seat = seat_of c.args.queues.now c.args.seated.seat in
    let told = c.queued_messages-queued in
    let told_held = c.held_messages-held in
    record {
      four = ap length (sym c.sid_words.ensures.are) ∙ c.sid_words.ensures.four;
      sid = c.sid_words.ensures.fit;
      messages = All-append IsMessageFit (map message_of seat.queued) (map message_of seat.held)
          (All-same IsMessageFit (map message_of seat.queued) told.result (sym told.ensures) c.write_messages.ensures.fit)
          (All-same IsMessageFit (map message_of seat.held) told_held.result (sym told_held.ensures) c.write_messages-2.ensures.fit);
    }
