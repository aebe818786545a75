-- The log after some records of its step, and then others.
use Rattle.std.proofs.Common.{◌≡◌, List, ◌++◌, ap, ◌∙◌}
use Rattle.xk_base.specs.Log.{LogState}
use Rattle.xk_base.specs.declared.records.What.{What}
use Rattle.xk_kernel.specs.Telling.{log_with}
use Rattle.xk_kernel.proofs.Calling.TellingLemmas.{told_both}

pub log_with-next : (first later : List What) (log mid new : LogState) → mid ≡ log_with first log → new ≡ log_with later mid → new ≡ log_with (first ++ later) log
log_with-next first later log mid new e f = f ∙ ap (log_with later) e ∙ told_both log first later
