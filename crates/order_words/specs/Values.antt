-- What the values of options ask for.
use Rattle.std.specs.Prelude.{◌≡◌, ◌<◌, ◌==◌, ◌&&◌, ℕ, Bool, true, List, [], ◌∷◌, ◌++◌, codes, decimal, if◌then◌else◌, length, nat_le, not, Option, Some, None}
use Rattle.std.specs.List.{count_by, filter, filter_map, list_all, slice_split}
use Rattle.std.specs.Int.{IsInRange}
use Rattle.std.specs.Option.{option_map}
use Rattle.std.specs.Str.{bytes_eq}
use Rattle.event_text.specs.Lines.{number_of}
use Rattle.order_model.specs.declared.failing.Failing.{Failing}
use Rattle.order_model.specs.declared.failing.Failing.TheVariants.{Console, ConsoleNot, Exit, Fault, Waits}
use Rattle.order_model.specs.declared.failing.Waiter.{Waiter}
use Rattle.order_model.specs.declared.failing.Waiter.TheVariants.{Any, Process, Thread}
use Rattle.order_model.specs.declared.sights.Sights.{Sights}
use Rattle.order_text.specs.Failings.{failing_text}
use Rattle.xk_base.specs.declared.events.Event.{Event}
use Rattle.xk_base.specs.declared.events.Event.TheVariants.{Irq, Kill}
use Rattle.xk_base.specs.declared.ids.ThreadId.{ThreadId}
use Rattle.order_words.specs.Arguments.{Alone, Arg, Name, Valued, is_one_of}

-- ---- one value

-- the only one
abbrev pub only : List (List ℕ) → Option (List ℕ)
only [] = None
only (word ∷ []) = Some word
only (word ∷ other ∷ words) = None

-- one, or none
abbrev pub at_most_one : List (List ℕ) → Option (Option (List ℕ))
at_most_one [] = Some None
at_most_one (word ∷ []) = Some (Some word)
at_most_one (word ∷ other ∷ words) = None

-- ---- numbers

abbrev pub in_bounds : ℕ → ℕ → Option ℕ → Option ℕ
in_bounds least most None = None
in_bounds least most (Some n) = if nat_le least n && nat_le n most then Some n else None

-- the number of one to ten decimal digits that a word spells, in these bounds
unfoldable pub number_within : ℕ → ℕ → List ℕ → Option ℕ
number_within least most word = in_bounds least most (number_of word)

-- the number that the only value spells; without one it is the default
abbrev pub number_in : ℕ → ℕ → ℕ → List (List ℕ) → Option ℕ
number_in least most default [] = Some default
number_in least most default (word ∷ []) = number_within least most word
number_in least most default (word ∷ other ∷ words) = None

-- the number that the only value spells; without one it is none
abbrev pub given_number_in : ℕ → ℕ → List (List ℕ) → Option (Option ℕ)
given_number_in least most [] = Some None
given_number_in least most (word ∷ []) = option_map Some (number_within least most word)
given_number_in least most (word ∷ other ∷ words) = None

-- ---- events that may come

-- the event that an argument asks for, if it is `--irq K` or `--kill PID`; Some None if its value is no such number
abbrev pub event_at : Arg → Option (Option Event)
event_at (Name name) = None
event_at (Alone option) = None
event_at (Valued option value) =
    if bytes_eq option (codes "--irq") then Some (option_map Irq (number_within 0 31 value)) else (
    if bytes_eq option (codes "--kill") then Some (option_map (λ pid. Kill (record { 0 = pid })) (number_within 0 255 value)) else None)

-- the events that arguments ask for, in their order
abbrev pub events_in : List Arg → List (Option Event)
events_in args = filter_map event_at args

-- ---- what is seen

abbrev pub sight_words : List (List ℕ)
sight_words = codes "console" ∷ codes "exits" ∷ codes "waits" ∷ codes "servers" ∷ []

-- how often it stands among the parts
abbrev pub times : List ℕ → List (List ℕ) → ℕ
times sight parts = count_by (λ part. bytes_eq part sight) parts

-- whether it stands there, which may be once
abbrev pub given_once : List ℕ → List (List ℕ) → Option Bool
given_once sight parts = if nat_le (times sight parts) 1 then Some (times sight parts == 1) else None

abbrev pub sights_by : Option Bool → Option Bool → Option Bool → Option Bool → Option Sights
sights_by (Some console) (Some exits) (Some waits) (Some servers) =
    Some (record { console = console; exits = exits; waits = waits; servers = servers })
sights_by console exits waits servers = None

-- each part is one of the four, and none is there twice
abbrev pub sights_with : List (List ℕ) → Option Sights
sights_with parts =
    if list_all (is_one_of sight_words) parts
    then sights_by (given_once (codes "console") parts) (given_once (codes "exits") parts) (given_once (codes "waits") parts)
    (given_once (codes "servers") parts)
    else None

abbrev pub all_sights : Sights
all_sights = record { console = true; exits = true; waits = true; servers = true }

-- what the only list names, whose parts have commas (44) between them; without one it is all
abbrev pub sights_in : List (List ℕ) → Option Sights
sights_in [] = Some all_sights
sights_in (word ∷ []) = sights_with (slice_split (λ byte. byte == 44) word)
sights_in (word ∷ other ∷ words) = None

-- ---- failures

-- threads can be asked about: a process has a pid of 2 to 65, and its threads have numbers of 1 to 31
abbrev pub IsWaiter : Waiter → Type 0
IsWaiter Any = Unit {0}
IsWaiter (Process pid) = IsInRange 2 65 pid.0
IsWaiter (Thread who) = IsInRange 2 65 who.pid.0 × IsInRange 1 31 who.tid.0

-- .. and failures: no text is empty
abbrev pub CanBeAsked : Failing → Type 0
CanBeAsked Exit = Unit {0}
CanBeAsked Fault = Unit {0}
CanBeAsked (Waits who) = IsWaiter who
CanBeAsked (Console text) = 0 < length text.now
CanBeAsked (ConsoleNot text) = 0 < length text.now

-- a word asks for it
pub record AsksFor (word : List ℕ) (failing : Failing) : Type 0 where
  pub spelled : word ≡ failing_text failing
  pub can_be : CanBeAsked failing

-- the words that ask for an ending's failure, without those that ask for one ending
abbrev pub others_than_differ : List (List ℕ) → List (List ℕ)
others_than_differ words = filter (λ word. not (bytes_eq word (codes "differ"))) words

-- each of the words asks for the failure at its place
abbrev pub AskForAll : List (List ℕ) → List Failing → Type 0
AskForAll [] [] = Unit {0}
AskForAll [] (failing ∷ failings) = ⊥
AskForAll (word ∷ words) [] = ⊥
AskForAll (word ∷ words) (failing ∷ failings) = AsksFor word failing × AskForAll words failings

-- ---- parts of such words

-- a word spells a number in these bounds, without leading zeros
pub record IsPlainNumber (least most : ℕ) (word : List ℕ) (n : ℕ) : Type 0 where
  pub within : IsInRange least most n
  pub spelled : word ≡ decimal n

-- two words name a thread, by its process and its number there
pub record IsThread (pid tid : List ℕ) (who : ThreadId) : Type 0 where
  pub process : IsPlainNumber 2 65 pid who.pid.0
  pub thread : IsPlainNumber 1 31 tid who.tid.0

-- a word names the threads of a process, as in `2`, or one of them, as in `2.3`
abbrev pub NamesWaiter : List ℕ → Waiter → Type 0
NamesWaiter word Any = ⊥
NamesWaiter word (Process pid) = IsPlainNumber 2 65 word pid.0
NamesWaiter word (Thread who) = (pid tid : List ℕ) × (word ≡ pid ++ 46 ∷ tid) × IsThread pid tid who

-- a word asks for none that has a text
pub record HasNoText (word : List ℕ) : Type 0 where
  pub console : (text : List ℕ) → 0 < length text → word ≡ codes "console=" ++ text → ⊥
  pub console_not : (text : List ℕ) → 0 < length text → word ≡ codes "console-not=" ++ text → ⊥
