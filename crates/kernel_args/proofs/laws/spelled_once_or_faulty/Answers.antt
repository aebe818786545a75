use Rattle.kernel_args.proofs.ImageLemmas.{image_spells, spelled_once, spelled_has_no_fault}
use Rattle.kernel_args.proofs.laws.spelled_once_or_faulty.Goals as goal

pub returns : goal.returns
returns c = record { spelled = image_spells; once = spelled_once; never_both = spelled_has_no_fault }
