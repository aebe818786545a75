use Rattle.timer_device.proofs.PageLemmas.{view_is_memory}
use Rattle.timer_device.proofs.laws.view_is_memory.Goals as goal

-- src/laws.rt
pub returns : goal.returns
returns c = view_is_memory
