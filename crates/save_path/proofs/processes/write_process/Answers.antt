use Rattle.std.proofs.Common.{◌∙◌, sym, ap, arith}
use Rattle.std.specs.Option.{option_map}
use Rattle.process_table.specs.Shown.{processes_of}
use Rattle.xk_parts.specs.Shown.{processes_shown}
use Rattle.suspend_image.specs.Words.{word}
use Rattle.xk_base.specs.declared.ids.Serial.{Serial}
use Rattle.suspend_image.specs.SavedRows.{flag}
use Rattle.save_path.proofs.ProcessLemmas.{connections_room, front_room, process_appended, serial_row}
use Rattle.save_path.proofs.SheetLemmas.{written_more, written_none}
use Rattle.save_path.proofs.TableLemmas.{byte_is, connection_at}
use Rattle.save_path.proofs.processes.write_process.Goals as goal

pub push_words-requires : goal.push_words-requires
push_words-requires c = front_room c.args.sheet.now _ _ _ c.requires.room

pub loop-k-init : goal.loop-k-init
loop-k-init c = written_none word 4 (serial_row (processes_shown c.args.procs.now c.args.pid.0).connections) c.push_words.new.self

pub push_word-requires : goal.push_word-requires
push_word-requires c =
    let many = c.connection_count-many.ensures in
    let few = c.requires.few in
    (connections_room c.args.sheet.now c.push_words.new.self c.loop-k.sheet (processes_shown c.args.procs.now c.args.pid.0).connections _ _ _ c.loop-k.k
    c.push_words.ensures
    c.loop-k.invariant (omega arith) c.requires.room).room

pub loop-k-preserved : goal.loop-k-preserved
loop-k-preserved c =
    let cs = (processes_shown c.args.procs.now c.args.pid.0).connections in
    written_more word 4 (serial_row cs) c.loop-k.k c.push_words.new.self c.loop-k.sheet c.push_word.new.self c.loop-k.k c.in-Some.serial.0 c.loop-k.invariant
    (ap (option_map (λ (s : Serial). s.0)) (sym (connection_at (processes_of c.args.procs.now c.args.pid.0) c.loop-k.k) ∙ sym c.server_of.ensures
    ∙ c.in-Some.is))
    c.push_word.ensures (omega arith)

pub returns : goal.returns
returns c =
    let many = c.connection_count-many.ensures in
    let few = c.requires.few in
    process_appended (processes_of c.args.procs.now c.args.pid.0) c.args.sheet.now c.push_words.new.self c.loop-k.sheet _ _ c.connection_count-many.result
    c.loop-k.k
    (c.from.ensures ∙ byte_is c.alive.result ∙ ap flag c.alive.ensures) c.heap.ensures c.connection_count-many.ensures c.push_words.ensures c.loop-k.invariant
    (omega arith) (omega arith)
