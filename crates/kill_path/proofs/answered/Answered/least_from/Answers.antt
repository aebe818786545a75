use Rattle.kill_path.proofs.Threads.MarkLemmas.{least-first, least-found, least-none}
use Rattle.kill_path.specs.Noted.{noted}
use Rattle.kill_path.proofs.answered.Answered.least_from.Goals as goal

pub returns : goal.returns
unfolding noted
returns c =
    let words = c.args.self.now.words in
    record {
      none = least-none words c.args.pid c.requires.pid c.args.from c.requires.some c.least_bit_from.result c.least_bit_from.ensures.none;
      found = least-found words c.args.pid c.requires.pid c.args.from c.requires.some c.least_bit_from.result c.least_bit_from.ensures.found;
      first = least-first words c.args.pid c.requires.pid c.args.from c.requires.some c.least_bit_from.result c.least_bit_from.ensures.first;
    }
