-- The threads that a set of the code has.
use Rattle.kill_path.specs.ThreadSets.{ThreadSet, marked}
use Rattle.kill_path.specs.declared.answered.Answered.{Answered}

unfoldable pub noted : Answered → ThreadSet
noted a = marked a.words
