use Rattle.suspend_image.proofs.SpellsLemmas.{spelled_when_right, spelled_once, spelled_has_no_fault, read_again}
use Rattle.suspend_image.proofs.laws.spelled_once_or_faulty.Goals as goal

pub returns : goal.returns
returns c = record { spelled = spelled_when_right; once = spelled_once; never_both = spelled_has_no_fault; read = read_again }
