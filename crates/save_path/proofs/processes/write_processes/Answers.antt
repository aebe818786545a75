use Rattle.std.proofs.Common.{◌+◌, refl, arith}
use Rattle.xk_parts.specs.Shown.{processes_shown}
use Rattle.suspend_image.specs.Spelling.{proc_bytes}
use Rattle.save_path.specs.Rows.{proc_at}
use Rattle.save_path.proofs.SheetLemmas.{written_more, written_none, written_room, written_appends}
use Rattle.save_path.proofs.processes.write_processes.Goals as goal

pub loop-k-init : goal.loop-k-init
loop-k-init c = written_none proc_bytes 140 (proc_at (processes_shown c.args.procs.now)) c.args.sheet.now

pub write_process-requires-clause-few : goal.write_process-requires-clause-few
write_process-requires-clause-few c = c.requires.few (record { 0 = c.loop-k.k + 2 })

pub write_process-requires-clause-room : goal.write_process-requires-clause-room
write_process-requires-clause-room c =
    written_room proc_bytes 140 (proc_at (processes_shown c.args.procs.now)) c.loop-k.k c.args.many c.args.sheet.now c.loop-k.sheet c.loop-k.k
    c.loop-k.invariant (omega arith) c.requires.room

pub loop-k-preserved : goal.loop-k-preserved
loop-k-preserved c =
    written_more proc_bytes 140 (proc_at (processes_shown c.args.procs.now)) c.loop-k.k c.args.sheet.now c.loop-k.sheet c.write_process.new.sheet c.loop-k.k _
    c.loop-k.invariant
    refl c.write_process.ensures.is c.write_process.ensures.few

pub returns : goal.returns
returns c =
    written_appends proc_bytes 140 (proc_at (processes_shown c.args.procs.now)) c.loop-k.k c.args.many c.args.sheet.now c.loop-k.sheet c.loop-k.invariant
    (omega arith)
