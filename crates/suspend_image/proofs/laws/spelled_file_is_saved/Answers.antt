use Rattle.suspend_image.proofs.Saved.StateBackLemmas.{spelled_is_saved}
use Rattle.suspend_image.proofs.laws.spelled_file_is_saved.Goals as goal

pub returns : goal.returns
returns c = spelled_is_saved
