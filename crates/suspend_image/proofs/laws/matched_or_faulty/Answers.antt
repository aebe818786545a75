use Rattle.suspend_image.proofs.FaultLemmas.{fault_once, matched_has_no_fault}
use Rattle.suspend_image.proofs.laws.matched_or_faulty.Goals as goal

pub returns : goal.returns
returns c = record { once = fault_once; never_both = matched_has_no_fault }
