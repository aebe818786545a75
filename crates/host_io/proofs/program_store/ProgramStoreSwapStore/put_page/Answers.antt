use Rattle.std.proofs.Common.{ap}
use Rattle.std.proofs.lemmas.Result.{on_err_weaker}
use Rattle.xk_ports.specs.MemStore.{MemStoreState}
use Rattle.xk_ports.proofs.PageLemmas.{SpoilsSlot_kept}
use Rattle.host_io.proofs.program_store.ProgramStoreSwapStore.put_page.Goals as goal

pub returns-then-is_err-clause-spoilt : goal.returns-then-is_err-clause-spoilt
returns-then-is_err-clause-spoilt g c =
    λ _.
    on_err_weaker
    c.put_page-put.result
    (λ failed.
    rw c.in-Memory.is
    (SpoilsSlot_kept c.in-Memory.pages.pages.bytes c.put_page-put.new.self.pages.bytes c.args.s.0 (ap (λ (store : MemStoreState). store.pages.bytes) failed)))
    c.put_page-put.ensures.err
