use Rattle.std.proofs.Common.{◌∙◌}
use Rattle.xk_base.specs.declared.pages.Access.TheVariants.{Load}
use Rattle.save_path.proofs.BringsLemmas.{brings_may}
use Rattle.save_path.proofs.pages.write_contents.Goals as goal

pub bytes-requires-clause-may : goal.bytes-requires-clause-may
bytes-requires-clause-may g c =
    brings_may g.W.SwapStore c.args.mem.now c.reach.new.self
    (record {
      sound = c.in_ok-reach.ensures.sound;
      rights = c.in_ok-reach.ensures.rights;
      whole = c.in_ok-reach.ensures.whole;
      means = c.in_ok-reach.ensures.means;
      none = c.in_ok-reach.ensures.none;
      no_more = c.in_ok-reach.ensures.no_more;
      size = c.in_ok-reach.ensures.size;
      store = c.in_ok-reach.ensures.store;
    }) c.args.at Load ∙ c.requires.may
