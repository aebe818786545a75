-- How a call of the program ends, by the words of its command line.
use Rattle.std.specs.Prelude.{◌≡◌, ◌⊎◌, ℕ, List}
use Rattle.std.specs.declared.cmp.Ordering.{Ordering}
use Rattle.order_words.specs.Words.{IsFaulty, Spells}
use Rattle.order_words.specs.declared.words.Words.{Words}
use Rattle.program_status.specs.declared.status.Status.{Status}
use Rattle.program_status.specs.declared.status.Status.TheVariants.{NoMemory, Usage}
use Rattle.xousorders.specs.Calls.{Ends, IsUnwritten, Sides, command_in}
use Rattle.xousorders.specs.declared.outcome.Outcome.{Outcome}
use Rattle.xousorders.specs.declared.outcome.Outcome.TheVariants.{Ended}

-- why nothing is done: the command line is faulty, or there is no memory to read it
abbrev pub IsRefused : List (List ℕ) → Status → Type 0
IsRefused line Usage = IsFaulty line
IsRefused line NoMemory = Unit {0}
IsRefused line status = ⊥

-- nothing was done, for this reason, and nothing was written
pub record EndsUndone (line : List (List ℕ)) (sides : Sides) (outcome : Outcome) : Type 0 where
  pub status : Status
  pub is : outcome ≡ Ended status
  pub why : IsRefused line status
  pub unwritten : IsUnwritten sides
  pub unfiled : sides.filed_after ≡ sides.filed

module _ (cmp : List ℕ → List ℕ → Ordering) where
  -- what the command line asks for was done
  pub record EndsAsAsked (line : List (List ℕ)) (sides : Sides) (outcome : Outcome) : Type 0 where
    pub words : Words
    pub spells : Spells line words
    pub ends : Ends cmp (command_in words) sides outcome

  -- **How a call ends**: a faulty command line with `Usage`; else as what it asks for does.
  abbrev pub EndsFor : List (List ℕ) → Sides → Outcome → Type 0
  EndsFor line sides outcome = EndsUndone line sides outcome ⊎ EndsAsAsked line sides outcome
