-- The grammar of the command line.
use Rattle.std.specs.Prelude.{◌≡◌, ◌≤◌, ◌<◌, ◌||◌, ℕ, Bool, true, List, codes, length, map, Option, Some, IfSome, Result, Ok, Err}
use Rattle.std.specs.Option.{option_copied}
use Rattle.order_model.specs.declared.failing.Failing.{Failing}
use Rattle.xk_base.specs.declared.events.Event.{Event}
use Rattle.xk_base.specs.declared.limits.TheConstants.{STEP_LIMIT}
use Rattle.order_words.specs.Arguments.{Arg, AreArguments, is_given, is_one_of, names_in, values_in}
use Rattle.order_words.specs.Values.{AskForAll, at_most_one, events_in, given_number_in, number_in, only, others_than_differ, sights_in}
use Rattle.order_words.specs.declared.arguments.Unread.{Unread}
use Rattle.order_words.specs.declared.arguments.Unread.TheVariants.{NoMemory, Usage}
use Rattle.order_words.specs.declared.words.Words.{Words}

-- one folder at most, which has a name
pub record IsFolder (names : List (List ℕ)) (folder : Option (List ℕ)) : Type 0 where
  pub one : at_most_one names ≡ Some folder
  pub named : IfSome folder (λ name. 0 < length name)

-- the events that arguments ask for, at most 255
pub record AreOnce (args : List Arg) (once : List Event) : Type 0 where
  pub all : map Some once ≡ events_in args
  pub few : length once ≤ 255

-- The failures that words ask for, at most 255. What processes ended with fails only if it is seen.
pub record AreFailures (words : List (List ℕ)) (exits : Bool) (fails : List Failing) : Type 0 where
  pub all : AskForAll (others_than_differ words) fails
  pub few : length words ≤ 255
  pub exit : is_one_of words (codes "exit") ≡ true → exits ≡ true
  pub fault : is_one_of words (codes "fault") ≡ true → exits ≡ true

-- **What arguments ask for**: an image; numbers in their bounds, or their defaults, or none; an event file that is played before, or none,
-- and a folder, or none; events that may come; what is seen, and told in which digits; and failures. `--one` is another word for
-- `--fails differ`.
pub record Asks (args : List Arg) (words : Words) : Type 0 where
  pub image : only (names_in args) ≡ Some words.image.now
  pub quantum : number_in 1 STEP_LIMIT 1000 (values_in (codes "--quantum") args) ≡ Some words.quantum
  pub steps : number_in 1 STEP_LIMIT 100000 (values_in (codes "--steps") args) ≡ Some words.steps
  pub states : number_in 1 4294967295 100000 (values_in (codes "--states") args) ≡ Some words.states
  pub preemptions : given_number_in 0 255 (values_in (codes "--preemptions") args) ≡ Some words.preemptions
  pub seconds : given_number_in 1 4000000000 (values_in (codes "--seconds") args) ≡ Some words.seconds
  pub before : at_most_one (values_in (codes "--from") args) ≡ Some (option_copied words.before)
  pub folder : IsFolder (values_in (codes "--write") args) (option_copied words.folder)
  pub once : AreOnce args words.once.items
  pub see : sights_in (values_in (codes "--see") args) ≡ Some words.see
  pub hex : words.hex ≡ is_given (codes "--hex") args
  pub fails : AreFailures (values_in (codes "--fails") args) words.see.exits words.fails.items
  pub differ : words.differ ≡ (is_given (codes "--one") args || is_one_of (values_in (codes "--fails") args) (codes "differ"))
  pub first : words.first ≡ is_given (codes "--first") args

-- the command line asks for this
pub record Spells (line : List (List ℕ)) (words : Words) : Type 0 where
  pub args : List Arg
  pub are : AreArguments args line
  pub ask : Asks args words

-- it is faulty: it asks for nothing
abbrev pub IsFaulty : List (List ℕ) → Type 0
IsFaulty line = (words : Words) → Spells line words → ⊥

-- **How a command line is read**: as what it asks for, or as a faulty one; or there is no memory.
abbrev pub Reads : List (List ℕ) → Result Words Unread → Type 0
Reads line (Ok words) = Spells line words
Reads line (Err Usage) = IsFaulty line
Reads line (Err NoMemory) = Unit {0}
