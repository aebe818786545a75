use Rattle.std.proofs.Common.{◌∙◌, sym, ap}
use Rattle.std.specs.Prelude.{is_some, not}
use Rattle.process_table.specs.Shown.{processes_of}
use Rattle.xk_parts.specs.Shown.{processes_shown}
use Rattle.save_path.proofs.TableLemmas.{connection_at, count_ends, count_more}
use Rattle.save_path.proofs.processes.connection_count.Goals as goal

pub loop-k-preserved : goal.loop-k-preserved
loop-k-preserved c =
    count_more (processes_shown c.args.procs.now c.args.pid.0).connections c.loop-k.k
    (ap is_some (sym (connection_at (processes_of c.args.procs.now c.args.pid.0) c.loop-k.k) ∙ sym c.server_of.ensures) ∙ c.is_none.ensures
    ∙ ap not c.if-is_none.false)

pub returns-then-is_none : goal.returns-then-is_none
returns-then-is_none c =
    count_ends (processes_shown c.args.procs.now c.args.pid.0).connections c.loop-k.k
    (ap is_some (sym (connection_at (processes_of c.args.procs.now c.args.pid.0) c.loop-k.k) ∙ sym c.server_of.ensures) ∙ c.is_none.ensures
    ∙ ap not c.if-is_none.true)
    c.loop-k.invariant
