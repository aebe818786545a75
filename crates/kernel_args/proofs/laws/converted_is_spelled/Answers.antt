use Rattle.kernel_args.proofs.ConvertedSpells.{converted_spells, bytes_kept}
use Rattle.kernel_args.proofs.laws.converted_is_spelled.Goals as goal

pub returns : goal.returns
returns c = record { spelled = converted_spells; bytes_kept = bytes_kept }
