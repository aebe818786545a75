use Rattle.std.proofs.Common.{rules}
use Rattle.xk_ports.proofs.PageLemmas.{SpoilsSlot_kept}
use Rattle.xk_ports.proofs.mem_store.MemStoreSwapStore.TheImpl.Goals as goal

pub put_page-tells : goal.put_page-tells
put_page-tells c =
    record {
      put = search rules;
      spoilt = search (rules, SpoilsSlot_kept);
      told = search rules;
      honest = search rules;
      count = search rules;
      asked = search rules;
      cause = search rules;
      never_falls = search rules;
    }
