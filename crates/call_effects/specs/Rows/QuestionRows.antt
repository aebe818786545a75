-- The verdict on a call that only asks.
use Rattle.std.specs.Prelude.{[]}
use Rattle.machine_model.specs.Calling.Questions.{Question}
use Rattle.call_effects.specs.Verdicts.{Row, answers_caller}

-- its caller is answered, and nothing is done
abbrev pub question_row : Question → Row
question_row question m w = answers_caller m (question m) []
