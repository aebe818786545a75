use Rattle.std.proofs.Common.{sym, ap, ◌∙◌}
use Rattle.sv32_space.specs.SpelledEntries.{entries}
use Rattle.vm_memory.specs.Memory.{processes}
use Rattle.page_views.specs.EntryAccess.{is_given_target}
use Rattle.xk_base.specs.Numbers.Windows.{page_of}
use Rattle.vm_memory.proofs.Using.KnownPageLemmas.{known_leads}
use Rattle.vm_memory.proofs.Using.NearLemmas.{given_may}
use Rattle.vm_memory.proofs.memory.Memory.find_known.Goals as goal

-- src/memory/known.rt
pub returns-in-Some-clause-target : goal.returns-in-Some-clause-target
returns-in-Some-clause-target g c = sym (known_leads c.args.self.now c.args.pid c.args.va c.args.access c.args.known.now c.in-Some.frame c.requires.known (sym c.frame.ensures ∙ c.in-Some.is))

pub returns-in-Some-clause-given : goal.returns-in-Some-clause-given
returns-in-Some-clause-given g c =
    sym (given_may (entries (processes c.args.self.now) c.args.self.now.ram (page_of c.args.pid c.args.va)) c.args.access
    (ap is_given_target (known_leads c.args.self.now c.args.pid c.args.va c.args.access c.args.known.now c.in-Some.frame c.requires.known (sym c.frame.ensures ∙ c.in-Some.is))))
