use Rattle.std.proofs.Common.{◌++◌, ℕ, subst, sym}
use Rattle.std.specs.Prelude.{OnErr}
use Rattle.machine_model.specs.State.Machine.{Machine}
use Rattle.xk_kernel.specs.State.{machine_of}
use Rattle.xk_ports.specs.Told.{GrowsByProperPrefix}
use Rattle.event_player.specs.declared.telling.Telling.{Telling}
use Rattle.event_player.specs.Table.{table_of}
use Rattle.event_player.specs.Telling.{closing, last_line}
use Rattle.host_io.proofs.ToldLemmas.{front_later, front_longer, on_err, on_err_map}
use Rattle.event_player.proofs.transcript.write_closing.Goals as goal

pub returns-in_err-write_table-in-Ledger-clause-front : goal.returns-in_err-write_table-in-Ledger-clause-front
returns-in_err-write_table-in-Ledger-clause-front g c =
    let m : Machine = machine_of g.W.SwapStore.held c.args.kernel.now in
    let before = g.K.Sink.written c.args.out.now in
    let after = g.K.Sink.written c.write_table.new.out in
    let P : Telling → Type 0 = λ tells. GrowsByProperPrefix before after (closing tells m c.args.ending) in
    on_err c.from_residual.result (P c.args.tells)
    (subst P (sym c.in-Ledger.is) (front_longer before after (table_of m) (last_line m.steps c.args.ending) c.in_err-write_table-in-Ledger.ensures.front))

pub returns-in_ok-write_table-in-Ledger-clause-front : goal.returns-in_ok-write_table-in-Ledger-clause-front
returns-in_ok-write_table-in-Ledger-clause-front g c =
    let m : Machine = machine_of g.W.SwapStore.held c.args.kernel.now in
    let before = g.K.Sink.written c.args.out.now in
    let mid = g.K.Sink.written c.write_table.new.out in
    let after = g.K.Sink.written c.write_last_line-in-Ledger.new.out in
    let F : ℕ → Type 0 = λ steps. OnErr c.write_last_line-in-Ledger.result (GrowsByProperPrefix mid after (last_line steps c.args.ending)) in
    let P : Telling → Type 0 = λ tells. OnErr c.write_last_line-in-Ledger.result (GrowsByProperPrefix before after (closing tells m c.args.ending)) in
    subst P (sym c.in-Ledger.is)
    (on_err_map c.write_last_line-in-Ledger.result (GrowsByProperPrefix mid after (last_line m.steps c.args.ending)) (GrowsByProperPrefix before after (table_of m ++ last_line m.steps c.args.ending))
    (λ front. front_later before mid after (table_of m) (last_line m.steps c.args.ending) c.in_ok-write_table-in-Ledger.ensures.appended front)
    (subst F c.steps-in-Ledger.ensures c.write_last_line-in-Ledger.ensures.front))
