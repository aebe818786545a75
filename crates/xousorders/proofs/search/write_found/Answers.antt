use Rattle.std.proofs.Common.{◌≡◌, ◌++◌, ◌∙◌, List, ap, subst, ℕ}
use Rattle.xk_ports.specs.Told.{GrowsByProperPrefix}
use Rattle.order_text.specs.Lines.{found_line}
use Rattle.xousorders.proofs.search.write_found.Goals as goal

pub returns-clause-untold : goal.returns-clause-untold
returns-clause-untold g c =
    let line : List ℕ = found_line c.args.fails.now c.args.number c.args.ending.now in
    let is : c.as_slice.result.now ≡ line = c.as_slice.ensures.value ∙ (c.in-Ok.ensures ∙ ap (λ (xs : List ℕ). xs ++ line) c.new-line.ensures.items) in (
      subst (GrowsByProperPrefix (g.K.Sink.written c.args.out.now) (g.K.Sink.written c.put_all.new.out)) is c.in-Err-put_all.ensures.front,
      c.in-Err-put_all.ensures.cause,
    )
