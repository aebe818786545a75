use Rattle.std.proofs.Common.{subst, ◌↔◌}
use Rattle.std.specs.Prelude.{IsTrue}
use Rattle.std.specs.List.{IsDistinct}
use Rattle.snapshot_rows.specs.PageParts.{same_key}
use Rattle.snapshot_rows.proofs.Pages.AloneLemmas.{holders_apart_told}
use Rattle.snapshot_rows.proofs.holders.are_holders_apart.Goals as goal

pub returns : goal.returns
returns c file orphans =
    holders_apart_told file orphans c.args.pages.now c.are_different.result c.requires
    (subst (λ l. IsTrue c.are_different.result ↔ IsDistinct same_key l) c.in_ok-keys.ensures c.are_different.ensures)
