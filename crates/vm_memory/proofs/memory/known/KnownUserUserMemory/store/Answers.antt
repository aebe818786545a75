use Rattle.std.proofs.Common.{refl}
use Rattle.vm_memory.proofs.Using.KnownPageLemmas.{known_fit, known_unfit}
use Rattle.vm_memory.proofs.memory.known.KnownUserUserMemory.store.Goals as goal

pub returns-clause-rest : goal.returns-clause-rest
returns-clause-rest g c = (refl, refl, c.store_known.ensures.rest, λ _. c.store_known.ensures.known)

pub returns-clause-fit : goal.returns-clause-fit
returns-clause-fit g c = known_fit g.W.SwapStore.slot_count c.store_known.new.self c.args.self.now.pid c.store_known.new.known c.store_known.result (c.store_known.ensures.rest.sound c.requires.fit.0) c.store_known.ensures.known c.store_known.ensures.usable

pub returns-clause-unfit : goal.returns-clause-unfit
returns-clause-unfit g c = known_unfit g.W.SwapStore.slot_count c.store_known.new.self c.args.self.now.pid c.store_known.new.known c.store_known.result c.store_known.ensures.failed

pub returns-clause-never_falls : goal.returns-clause-never_falls
returns-clause-never_falls g c = c.store_known.ensures.rest.store.never_falls
