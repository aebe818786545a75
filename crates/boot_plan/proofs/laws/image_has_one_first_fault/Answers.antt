use Rattle.boot_plan.proofs.ImageFaultLemmas.{image_fault_some, image_fault_once}
use Rattle.boot_plan.proofs.laws.image_has_one_first_fault.Goals as goal

pub returns-clause-some : goal.returns-clause-some
returns-clause-some c = λ bytes asked are_bytes. image_fault_some bytes asked (c.spelled_once_or_faulty.ensures.spelled bytes are_bytes)

pub returns-clause-once : goal.returns-clause-once
returns-clause-once c = λ bytes asked. image_fault_once bytes asked (c.spelled_once_or_faulty.ensures.once bytes)
