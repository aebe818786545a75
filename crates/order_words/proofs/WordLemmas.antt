-- How a command line is read, by how its arguments are.
use Rattle.std.proofs.Common.{List, ℕ, Result, Ok, Err, subst}
use Rattle.order_words.specs.Answers.{Answers}
use Rattle.order_words.specs.Arguments.{Arg, AreArguments}
use Rattle.order_words.specs.Words.{Asks, Reads}
use Rattle.order_words.specs.declared.arguments.Unread.{Unread}
use Rattle.order_words.specs.declared.arguments.Unread.TheVariants.{NoMemory, Usage}
use Rattle.order_words.specs.declared.words.Words.{Words}
use Rattle.order_words.proofs.ArgumentLemmas.{same_arguments}

pub asked_is_read : (args : List Arg) (line : List (List ℕ)) (r : Result Words Unread) → AreArguments args line → Answers (Asks args) (Asks args) r
    → Reads line r
asked_is_read args line (Ok words) are asks = record { args = args; are = are; ask = asks }
asked_is_read args line (Err Usage) are asks =
    λ words spells. asks words (subst (λ (a : List Arg). Asks a words) (same_arguments spells.args args line spells.are are) spells.ask)
asked_is_read args line (Err NoMemory) are asks = tt
