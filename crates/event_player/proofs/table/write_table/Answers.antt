use Rattle.machine_model.specs.State.Machine.{Machine}
use Rattle.xk_kernel.specs.State.{machine_of}
use Rattle.xk_ports.specs.Told.{GrowsByProperPrefix}
use Rattle.event_player.specs.Table.{orphans_text, pages_text, table_of}
use Rattle.host_io.proofs.ToldLemmas.{front_later, front_longer, on_err, on_err_map}
use Rattle.event_player.proofs.table.write_table.Goals as goal

pub returns-in_err-write_pages-clause-front : goal.returns-in_err-write_pages-clause-front
returns-in_err-write_pages-clause-front g c =
    let m : Machine = machine_of g.W.SwapStore.held c.args.kernel.now in
    on_err c.from_residual.result (GrowsByProperPrefix (g.K.Sink.written c.args.out.now) (g.K.Sink.written c.write_pages.new.out) (table_of m))
    (front_longer (g.K.Sink.written c.args.out.now) (g.K.Sink.written c.write_pages.new.out) (pages_text m) (orphans_text m) c.in_err-write_pages.ensures.front)

pub returns-clause-front : goal.returns-clause-front
returns-clause-front g c =
    let m : Machine = machine_of g.W.SwapStore.held c.args.kernel.now in
    let before = g.K.Sink.written c.args.out.now in
    let mid = g.K.Sink.written c.write_pages.new.out in
    let after = g.K.Sink.written c.write_orphans.new.out in
    on_err_map c.write_orphans.result (GrowsByProperPrefix mid after (orphans_text m)) (GrowsByProperPrefix before after (table_of m))
    (λ front. front_later before mid after (pages_text m) (orphans_text m) c.in_ok-write_pages.ensures.appended front)
    c.write_orphans.ensures.front
