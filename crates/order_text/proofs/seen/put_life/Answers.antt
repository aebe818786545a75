use Rattle.std.proofs.Common.{◌≡◌, ◌++◌, ◌∙◌, List, OnOk, ap, subst, sym, true, ℕ}
use Rattle.order_model.specs.Exits.{exit_in}
use Rattle.snapshot_rows.specs.declared.state.ProcRow.{ProcRow}
use Rattle.snapshot_rows.specs.Machines.{machine_of, processes_of}
use Rattle.order_text.proofs.AboutLemmas.{living_text}
use Rattle.order_text.proofs.seen.put_life.Goals as goal

pub returns-then-is_alive : goal.returns-then-is_alive
returns-then-is_alive c file =
    let alive : (processes_of c.args.state.now.procs c.args.pid.0).alive ≡ true =
    sym (c.is_alive.ensures
    ∙ (ap (λ (rows : List ProcRow). (processes_of rows c.from.result).alive) c.as_slice.ensures
    ∙ ap (λ (n : ℕ). (processes_of c.args.state.now.procs n).alive) c.from.ensures))
    ∙ c.if-is_alive.true in
    subst (λ (xs : List ℕ). OnOk c.put_living.result (c.put_living.new.text.items ≡ c.args.text.now.items ++ xs))
    (living_text c.args.sights (machine_of file c.args.state.now) (exit_in c.args.ends.now) c.args.pid alive)
    (c.put_living.ensures file)
