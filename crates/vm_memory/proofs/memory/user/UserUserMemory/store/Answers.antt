use Rattle.std.proofs.Common.{refl}
use Rattle.vm_memory.proofs.Using.NearLemmas.{fit_if, unfit_if}
use Rattle.vm_memory.proofs.memory.user.UserUserMemory.store.Goals as goal

pub returns-clause-rest : goal.returns-clause-rest
returns-clause-rest g c = (refl, refl, c.store_number.ensures.rest)

pub returns-clause-fit : goal.returns-clause-fit
returns-clause-fit g c = fit_if g.W.SwapStore.slot_count c.store_number.new.self c.store_number.result (c.store_number.ensures.rest.sound c.requires.fit.0) c.store_number.ensures.usable

pub returns-clause-unfit : goal.returns-clause-unfit
returns-clause-unfit g c = unfit_if g.W.SwapStore.slot_count c.store_number.new.self c.store_number.result c.store_number.ensures.failed

pub returns-clause-never_falls : goal.returns-clause-never_falls
returns-clause-never_falls g c = c.store_number.ensures.rest.store.never_falls
