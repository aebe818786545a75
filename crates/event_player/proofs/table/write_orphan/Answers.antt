use Rattle.std.proofs.Common.{◌∙◌, List, Option, ℕ, subst, sym}
use Rattle.std.specs.Prelude.{None, OnErr}
use Rattle.page_views.specs.declared.places.Here.{Here}
use Rattle.page_views.specs.declared.places.Here.TheVariants.{Lent}
use Rattle.xk_base.specs.declared.ids.Place.{Place}
use Rattle.xk_ports.specs.Told.{GrowsByProperPrefix}
use Rattle.event_player.specs.Table.{orphan_line}
use Rattle.event_player.proofs.table.write_orphan.Goals as goal

pub returns-in-None-clause-front : goal.returns-in-None-clause-front
returns-in-None-clause-front g c =
    let T : List ℕ → Type 0 = λ text. OnErr c.put_all.result (GrowsByProperPrefix (g.K.Sink.written c.args.out.now) (g.K.Sink.written c.put_all.new.out) text) in
    let H : Here → Type 0 = λ here. T (orphan_line c.args.place here) in
    let O : Option Place → Type 0 = λ lender. H (Lent c.in-Lent.kind lender c.in-Lent.number) in
    let line : O None = subst T (c.as_slice.ensures.value ∙ c.held_line.ensures) c.put_all.ensures.front in
    subst H (sym c.in-Lent.is) (subst O (sym c.in-None.is) line)
