use Rattle.std.proofs.Common.{arith}
use Rattle.save_path.proofs.servers.message_row.Goals as goal

pub returns-clause-fit : goal.returns-clause-fit
returns-clause-fit c = record {
  four = omega arith;
  words = record {
    number = omega arith;
    id = omega arith;
    words = c.message_words-words.ensures.fit;
    first = omega arith;
    count = omega arith;
  };
}
