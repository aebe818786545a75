use Rattle.std.proofs.Common.{◌∙◌, ◌+◌, ◌*◌}
use Rattle.save_path.proofs.PageReadLemmas.{right_is}
use Rattle.save_path.proofs.TableLemmas.{byte_is}
use Rattle.save_path.proofs.pages.right_number.Goals as goal

pub returns : goal.returns
returns c = (λ i. 4 * (c.from.ensures ∙ byte_is c.args.console) i + 2 * (c.from-2.ensures ∙ byte_is c.args.right.x) i + (c.from-3.ensures
    ∙ byte_is c.args.right.w) i) ∙ right_is c.args.right c.args.console
