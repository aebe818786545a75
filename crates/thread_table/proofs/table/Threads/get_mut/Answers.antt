use Rattle.std.proofs.Common.{refl, sym}
use Rattle.thread_table.proofs.LendingLemmas.{count_stays, given_back}
use Rattle.thread_table.proofs.table.Threads.get_mut.Goals as goal

pub returns-then-is_some : goal.returns-then-is_some
returns-then-is_some c = (
  refl,
  record {
    lends = tt;
    value = sym c.thread_mut.ensures.value;
    writes = given_back c.args.self.now c.args.id;
    count = count_stays c.args.self.now c.args.id;
  },
)
