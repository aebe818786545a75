use Rattle.loan_laws.proofs.Fates.CauseFateLemmas.{all_have_fates}
use Rattle.loan_laws.proofs.fate_laws.every_number_has_its_fate.Goals as goal

-- src/fate_laws.rt
pub returns : goal.returns
returns c = all_have_fates
