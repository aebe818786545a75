use Rattle.host_io.proofs.PageFileLemmas.{IsZeroPage-replicate}
use Rattle.host_io.proofs.file_store.zero_page.Goals as goal

pub returns : goal.returns
returns c = IsZeroPage-replicate
