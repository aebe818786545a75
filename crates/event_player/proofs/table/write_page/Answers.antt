use Rattle.std.proofs.Common.{◌∙◌, List, ℕ, subst, sym}
use Rattle.std.specs.Prelude.{OnErr}
use Rattle.page_views.specs.declared.places.Here.{Here}
use Rattle.page_views.specs.declared.places.Here.TheVariants.{Own}
use Rattle.xk_ports.specs.Told.{GrowsByProperPrefix}
use Rattle.event_player.specs.Table.{page_line}
use Rattle.event_player.proofs.table.write_page.Goals as goal

pub returns-in-Own-clause-front : goal.returns-in-Own-clause-front
returns-in-Own-clause-front g c =
    let T : List ℕ → Type 0 = λ text. OnErr c.put_all.result (GrowsByProperPrefix (g.K.Sink.written c.args.out.now) (g.K.Sink.written c.put_all.new.out) text) in
    let H : Here → Type 0 = λ here. T (page_line c.args.place here) in
    let line : H (Own c.in-Own.right c.in-Own.console c.in-Own.loan) = subst T (c.as_slice.ensures.value ∙ c.home_line.ensures) c.put_all.ensures.front in
    subst H (sym c.in-Own.is) line
