-- The words of the command line as arguments.
use Rattle.std.specs.Prelude.{◌≡◌, ℕ, Bool, true, false, List, [], ◌∷◌, codes, if◌then◌else◌, map, nat_eq, Option, Some, None, string_bytes}
use Rattle.std.specs.List.{AllByRecursion, filter_map, flat_map, list_any, starts_with}
use Rattle.std.specs.Str.{bytes_eq}
use Rattle.std.specs.declared.string.String.{String}
use Rattle.std.specs.declared.alloc.Global.{Global}
use Rattle.order_words.specs.declared.arguments.Argument.{Argument}
use Rattle.order_words.specs.declared.arguments.Argument.TheVariants as words

-- An argument: the name of the image, an option that stands alone, or an option and the value behind it. Words are lists of bytes.
pub data Arg : Type 0 where
  Name : List ℕ → Arg
  Alone : List ℕ → Arg
  Valued : List ℕ → List ℕ → Arg

-- .. as it was read
abbrev pub argument_in : Argument → Arg
argument_in (words.Name name) = Name name.now
argument_in (words.Alone option) = Alone option.now
argument_in (words.Valued option value) = Valued option.now value.now

abbrev pub texts : List (String Global) → List (List ℕ)
texts words = map (λ word. string_bytes word) words

-- ---- which words are options

abbrev pub is_one_of : List (List ℕ) → List ℕ → Bool
is_one_of texts word = list_any (bytes_eq word) texts

-- an option begins with two dashes
abbrev pub is_option : List ℕ → Bool
is_option word = starts_with nat_eq word (codes "--")

-- these have a value, which is the word behind them, whatever it is
abbrev pub options_with_value : List (List ℕ)
options_with_value =
    codes "--quantum" ∷ codes "--preemptions" ∷ codes "--steps" ∷ codes "--states" ∷ codes "--seconds" ∷ codes "--from" ∷ codes "--irq"
    ∷ codes "--kill" ∷ codes "--write" ∷ codes "--see" ∷ codes "--fails" ∷ []

abbrev pub has_value : List ℕ → Bool
has_value word = is_one_of options_with_value word

-- these stand alone
abbrev pub options_alone : List (List ℕ)
options_alone = codes "--hex" ∷ codes "--one" ∷ codes "--first" ∷ []

abbrev pub stands_alone : List ℕ → Bool
stands_alone word = is_one_of options_alone word

-- ---- arguments

-- no name of an image is an option
abbrev pub IsArgument : Arg → Type 0
IsArgument (Name name) = is_option name ≡ false
IsArgument (Alone option) = stands_alone option ≡ true
IsArgument (Valued option value) = has_value option ≡ true

-- its words
abbrev pub spelled : Arg → List (List ℕ)
spelled (Name name) = name ∷ []
spelled (Alone option) = option ∷ []
spelled (Valued option value) = option ∷ value ∷ []

-- these arguments are these words
pub record AreArguments (args : List Arg) (words : List (List ℕ)) : Type 0 where
  pub each : AllByRecursion IsArgument args
  pub whole : words ≡ flat_map spelled args

-- ---- what arguments say

abbrev pub name_at : Arg → Option (List ℕ)
name_at (Name name) = Some name
name_at (Alone option) = None
name_at (Valued option value) = None

-- the names of images
abbrev pub names_in : List Arg → List (List ℕ)
names_in args = filter_map name_at args

abbrev pub value_at : List ℕ → Arg → Option (List ℕ)
value_at option (Name name) = None
value_at option (Alone other) = None
value_at option (Valued other value) = if bytes_eq other option then Some value else None

-- the values of the option, in their order
abbrev pub values_in : List ℕ → List Arg → List (List ℕ)
values_in option args = filter_map (value_at option) args

abbrev pub is_alone : List ℕ → Arg → Bool
is_alone option (Name name) = false
is_alone option (Alone other) = bytes_eq other option
is_alone option (Valued other value) = false

-- the option stands among them, alone
abbrev pub is_given : List ℕ → List Arg → Bool
is_given option args = list_any (is_alone option) args
