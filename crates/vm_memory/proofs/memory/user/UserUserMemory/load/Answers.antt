use Rattle.std.proofs.Common.{refl}
use Rattle.vm_memory.proofs.Using.NearLemmas.{brings_content, brings_console, brings_may, brings_rest, fit_if, unfit_if}
use Rattle.vm_memory.proofs.memory.user.UserUserMemory.load.Goals as goal

pub returns-clause-kept : goal.returns-clause-kept
returns-clause-kept g c = brings_content g.W.SwapStore c.args.self.now.mem.now c.load_number.new.self c.load_number.ensures.brings c.args.self.now.pid

pub returns-clause-may : goal.returns-clause-may
returns-clause-may g c = brings_may g.W.SwapStore c.args.self.now.mem.now c.load_number.new.self c.load_number.ensures.brings c.args.self.now.pid

pub returns-clause-console : goal.returns-clause-console
returns-clause-console g c = brings_console g.W.SwapStore c.args.self.now.mem.now c.load_number.new.self c.load_number.ensures.brings c.args.self.now.pid

pub returns-clause-rest : goal.returns-clause-rest
returns-clause-rest g c = (refl, refl, brings_rest g.W.SwapStore c.args.self.now.mem.now c.load_number.new.self c.load_number.ensures.brings c.args.self.now.pid)

pub returns-clause-fit : goal.returns-clause-fit
returns-clause-fit g c = fit_if g.W.SwapStore.slot_count c.load_number.new.self c.load_number.result c.load_number.ensures.brings.moves.sound c.load_number.ensures.usable

pub returns-clause-unfit : goal.returns-clause-unfit
returns-clause-unfit g c = unfit_if g.W.SwapStore.slot_count c.load_number.new.self c.load_number.result c.load_number.ensures.failed

pub returns-clause-never_falls : goal.returns-clause-never_falls
returns-clause-never_falls g c = c.load_number.ensures.brings.moves.store.never_falls
