use Rattle.std.proofs.Common.{ap}
use Rattle.vm_memory.specs.Bytes.{means_bytes}
use Rattle.vm_memory.specs.Using.UserView.{user_view}
use Rattle.vm_memory.proofs.Using.NearLemmas.{brings_bytes, brings_may, loads_back}
use Rattle.vm_memory.proofs.memory.Memory.load_known.Goals as goal

pub returns-clause-gives : goal.returns-clause-gives
returns-clause-gives g c =
    let old = c.args.self.now in
    let new = c.find_known.new.self in
    loads_back (means_bytes g.W.SwapStore old) ((user_view g.W.SwapStore.held old c.args.pid).may c.args.access c.args.va)
    ((user_view g.W.SwapStore.held new c.args.pid).may c.args.access c.args.va)
    (user_view g.W.SwapStore.held old c.args.pid).byte (user_view g.W.SwapStore.held new c.args.pid).byte c.args.va c.args.width c.read_at.result
    (ap (λ may. may c.args.access c.args.va) (brings_may g.W.SwapStore old new c.find_known.ensures.brings c.args.pid))
    (brings_bytes g.W.SwapStore old new c.find_known.ensures.brings c.args.pid)
    c.read_at.ensures
