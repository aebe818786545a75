use Rattle.std.proofs.Common.{arith}
use Rattle.process_table.specs.Shown.{processes_of}
use Rattle.resume_path.proofs.Rows.ProcessRowLemmas.{connecting_all, connecting_next, connecting_none, never_refused}
use Rattle.resume_path.proofs.processes.connect_all.Goals as goal

-- src/processes.rt
pub serials-init : goal.serials-init
serials-init c = connecting_none c.args.serials.now c.args.pid.0 c.args.procs.now c.requires.none

pub connect-requires : goal.connect-requires
connect-requires c = (c.requires.pid.0, omega (arith, c.requires.pid.1, c.serials.invariant.count))

pub unreachable-requires : goal.unreachable-requires
unreachable-requires c =
    never_refused c.args.serials.now c.serials.serial-index 0 c.requires.apart c.serials-test.true c.requires.few c.args.pid.0
    (processes_of c.args.procs.now) (processes_of c.serials.procs) c.serials.invariant.connects c.in-Err.field-0 c.in-Err.ensures.answer

pub serials-preserved : goal.serials-preserved
serials-preserved c =
    connecting_next c.args.serials.now c.args.pid.0 c.serials.serial-index 0 c.args.procs.now c.serials.procs c.connect.new.self c.requires.apart
    c.serials-test.true c.serials.invariant c.connect.ensures.count c.in-Ok.ensures.ok

pub returns-clause-after : goal.returns-clause-after
returns-clause-after c = connecting_all c.args.serials.now c.args.pid.0 c.serials.serial-index c.args.procs.now c.serials.procs (omega arith) c.serials.invariant

pub returns-clause-count : goal.returns-clause-count
returns-clause-count c = c.serials.invariant.count
