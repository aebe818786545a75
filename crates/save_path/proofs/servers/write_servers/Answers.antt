use Rattle.std.proofs.Common.{◌*◌, length, ap, refl, arith}
use Rattle.server_table.specs.ServersOf.{servers_of}
use Rattle.xk_parts.specs.Shown.{servers_shown}
use Rattle.suspend_image.specs.Sheets.{appended}
use Rattle.suspend_image.specs.Spelling.{server_bytes}
use Rattle.suspend_image.specs.Words.{word}
use Rattle.save_path.specs.Fitting.{IsServerFit}
use Rattle.save_path.specs.Rows.{server_at}
use Rattle.save_path.proofs.FittingLemmas.{each_none}
use Rattle.save_path.proofs.ServerLoopLemmas.{one_more, serial_below, server_room, server_written, servers_end, servers_fit_all, servers_fit_next, servers_written}
use Rattle.save_path.proofs.SheetLemmas.{fits_rows, written_done, written_first}
use Rattle.save_path.proofs.servers.write_servers.Goals as goal

pub loop-seated-init : goal.loop-seated-init
loop-seated-init c = record {
  written = written_first server_bytes 5664 (server_at (servers_shown c.args.servers.now c.args.queues.now)) (appended (word 0) c.args.sheet.now)
      c.push_word.new.self c.push_word.ensures;
  within = omega arith;
  fit = each_none (servers_shown c.args.servers.now c.args.queues.now) IsServerFit;
}

pub write_server-requires-clause-room : goal.write_server-requires-clause-room
write_server-requires-clause-room c =
    server_room c.args.servers.now c.args.queues.now c.loop-seated.from (appended (word 0) c.args.sheet.now) c.loop-seated.sheet c.loop-seated.many
    c.loop-seated.invariant.written
    c.in-Some.seated c.in-Some.ensures c.requires.few (fits_rows c.args.sheet.now (5664 * 64) c.requires.room)

pub overflow_add-many : goal.overflow_add-many
overflow_add-many c =
    let more = one_more c.args.servers.now c.args.queues.now c.loop-seated.from (appended (word 0) c.args.sheet.now) c.loop-seated.sheet c.loop-seated.many
    c.loop-seated.invariant.written
    c.in-Some.seated c.in-Some.ensures c.requires.few in
    omega arith

pub overflow_add-from : goal.overflow_add-from
overflow_add-from c =
    let low = serial_below c.args.servers.now c.args.queues.now c.loop-seated.from (appended (word 0) c.args.sheet.now) c.loop-seated.sheet c.loop-seated.many
    c.loop-seated.invariant.written
    c.in-Some.seated c.in-Some.ensures in
    let next = c.next_serial-end.ensures in
    omega arith

pub loop-seated-preserved : goal.loop-seated-preserved
loop-seated-preserved c =
    let low = serial_below c.args.servers.now c.args.queues.now c.loop-seated.from (appended (word 0) c.args.sheet.now) c.loop-seated.sheet c.loop-seated.many
    c.loop-seated.invariant.written
    c.in-Some.seated c.in-Some.ensures in
    record {
      written = server_written c.args.servers.now c.args.queues.now c.loop-seated.from (appended (word 0) c.args.sheet.now) c.loop-seated.sheet
          c.loop-seated.many c.loop-seated.invariant.written
          c.in-Some.seated c.in-Some.ensures c.write_server.new.sheet c.write_server.ensures.row;
      within = omega arith;
      fit = servers_fit_next c.args.servers.now c.args.queues.now c.loop-seated.from c.in-Some.seated c.in-Some.ensures c.loop-seated.invariant.fit
          c.write_server.ensures.fit;
    }

pub loop-seated-smaller : goal.loop-seated-smaller
loop-seated-smaller c =
    let low = serial_below c.args.servers.now c.args.queues.now c.loop-seated.from (appended (word 0) c.args.sheet.now) c.loop-seated.sheet c.loop-seated.many
    c.loop-seated.invariant.written
    c.in-Some.seated c.in-Some.ensures in
    let from = c.in-Some.ensures.behind in
    omega arith

pub returns-clause-rows : goal.returns-clause-rows
returns-clause-rows c =
    let t = c.args.servers.now in
    let q = c.args.queues.now in
    let start = appended (word 0) c.args.sheet.now in
    written_done server_bytes 5664 (server_at (servers_shown t q)) (servers_of t).next (servers_of t).next 64 c.args.sheet.now c.loop-seated.sheet
    c.set_word.new.self
    c.loop-seated.many (length c.as_slice.result.now)
    (servers_end t q c.loop-seated.from start c.loop-seated.sheet c.loop-seated.many c.loop-seated.invariant.written c.in_default.ensures
    c.loop-seated.invariant.within)
    refl (servers_written t q c.loop-seated.from start c.loop-seated.sheet c.loop-seated.many c.loop-seated.invariant.written c.requires.few)
    (ap length c.as_slice.ensures) c.set_word.ensures

pub returns-clause-fit : goal.returns-clause-fit
returns-clause-fit c = servers_fit_all c.args.servers.now c.args.queues.now c.loop-seated.from c.in_default.ensures c.loop-seated.invariant.fit
