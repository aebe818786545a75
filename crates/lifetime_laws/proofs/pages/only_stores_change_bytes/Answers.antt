use Rattle.lifetime_laws.proofs.Lives.BytesLemmas.{bytes_pass}
use Rattle.lifetime_laws.proofs.pages.only_stores_change_bytes.Goals as goal

-- src/pages.rt
pub returns : goal.returns
returns c = bytes_pass
