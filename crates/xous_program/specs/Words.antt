-- The words of the command line, and the command that they are.
use Rattle.std.specs.Prelude.{ℕ, Bool, ◌&&◌, List, [], ◌∷◌, Option, Some, None, if◌then◌else◌, codes, nat_eq, nat_le, string_bytes}
use Rattle.std.specs.Option.{option_and_then, option_map}
use Rattle.std.specs.declared.string.String.{String}
use Rattle.std.specs.declared.alloc.Global.{Global}
use Rattle.std.specs.Cmp.Lexicographic.{pointwise}
use Rattle.event_text.specs.Lines.{number_of}
use Rattle.xk_base.specs.declared.limits.TheConstants.{DEFAULT_STEPS, SLOT_LIMIT, STEP_LIMIT}
use Rattle.xous_program.specs.declared.commands.command.CheckWords.{CheckWords}
use Rattle.xous_program.specs.declared.commands.command.CommandWords.{CommandWords}
use Rattle.xous_program.specs.declared.commands.command.CommandWords.TheVariants as words
use Rattle.xous_program.specs.declared.commands.command.PlayWords.{PlayWords}
use Rattle.xous_program.specs.declared.commands.command.ResumeWords.{ResumeWords}
use Rattle.xous_program.specs.declared.commands.command.SuspendWords.{SuspendWords}
use Rattle.event_player.specs.declared.telling.Telling.{Telling}
use Rattle.event_player.specs.declared.telling.Telling.TheVariants.{Ledger, Run, Trace}
use Rattle.demo_load.specs.declared.TheConstants.{CLIENT_LIMIT}

-- ---- commands

-- `trace`, `run` or `ledger`: what is told of the events, the names of the image and of the event file, the step limit, the slots of
-- the swap store where they are asked for, and the name of its file where one is named. Names are bytes of UTF-8.
pub record Play : Type 0 where
  pub tells : Telling
  pub image : List ℕ
  pub events : List ℕ
  pub limit : ℕ
  pub slots : Option ℕ
  pub store : Option (List ℕ)

-- `check`: the name of the image, and the slots of the swap store where they are asked for
pub record Check : Type 0 where
  pub image : List ℕ
  pub slots : Option ℕ

-- `suspend`: the names of the image and of the event file, the step limit, and the slots of the swap store where they are asked for
pub record Suspend : Type 0 where
  pub image : List ℕ
  pub events : List ℕ
  pub limit : ℕ
  pub slots : Option ℕ

-- `resume`: the names of the state file and of the event file, the step limit, and the slots of the swap store
pub record Resume : Type 0 where
  pub state : List ℕ
  pub events : List ℕ
  pub limit : ℕ
  pub slots : ℕ

-- .. and `convert` with the name of the image
pub data Command : Type 0 where
  Plays : Play → Command
  Checks : Check → Command
  Converts : List ℕ → Command
  Demo : ℕ → Command
  Suspends : Suspend → Command
  Resumes : Resume → Command

-- ---- numbers

-- a number in these bounds
abbrev pub in_bounds : ℕ → ℕ → Option ℕ → Option ℕ
in_bounds least most None = None
in_bounds least most (Some n) = if nat_le least n && nat_le n most then Some n else None

-- the number of one to ten decimal digits that a word spells, in these bounds
unfoldable pub number_within : ℕ → ℕ → List ℕ → Option ℕ
number_within least most word = in_bounds least most (number_of word)

abbrev pub Word : Type 0
Word = String Global

abbrev pub limit_of : Word → Option ℕ
limit_of word = number_within 1 STEP_LIMIT (string_bytes word)

abbrev pub slots_of : Word → Option ℕ
slots_of word = number_within 0 SLOT_LIMIT (string_bytes word)

-- the slots that a word asks for, where it is a number of slots
abbrev pub asked_of : Word → Option (Option ℕ)
asked_of word = option_map Some (slots_of word)

-- ---- the forms

-- a command whose numbers may be none
abbrev pub play_with : Telling → Word → Word → Option ℕ → Option (Option ℕ) → Option Word → Option Play
play_with tells image events limit slots store =
    option_and_then (λ limit. option_map (λ slots. record {
      tells = tells;
      image = string_bytes image;
      events = string_bytes events;
      limit = limit;
      slots = slots;
      store = option_map (λ word. string_bytes word) store;
    }) slots) limit

-- `IMAGE EVENTS [STEPS [SLOTS [STORE]]]`
abbrev pub play_of : Telling → List Word → Option Play
play_of tells (image ∷ events ∷ []) = play_with tells image events (Some DEFAULT_STEPS) (Some None) None
play_of tells (image ∷ events ∷ steps ∷ []) = play_with tells image events (limit_of steps) (Some None) None
play_of tells (image ∷ events ∷ steps ∷ slots ∷ []) = play_with tells image events (limit_of steps) (asked_of slots) None
play_of tells (image ∷ events ∷ steps ∷ slots ∷ store ∷ []) = play_with tells image events (limit_of steps) (asked_of slots) (Some store)
play_of tells words = None

abbrev pub check_with : Word → Option (Option ℕ) → Option Check
check_with image slots = option_map (λ slots. record { image = string_bytes image; slots = slots }) slots

-- `IMAGE [SLOTS]`
abbrev pub check_of : List Word → Option Check
check_of (image ∷ []) = check_with image (Some None)
check_of (image ∷ slots ∷ []) = check_with image (asked_of slots)
check_of words = None

-- `IMAGE`
abbrev pub convert_of : List Word → Option (List ℕ)
convert_of (image ∷ []) = Some (string_bytes image)
convert_of words = None

-- `suspend` whose numbers may be none
abbrev pub suspend_with : Word → Word → Option ℕ → Option (Option ℕ) → Option Suspend
suspend_with image events limit slots =
    option_and_then (λ limit. option_map (λ slots. record {
      image = string_bytes image;
      events = string_bytes events;
      limit = limit;
      slots = slots;
    }) slots) limit

-- `IMAGE EVENTS [STEPS [SLOTS]]`
abbrev pub suspend_of : List Word → Option Suspend
suspend_of (image ∷ events ∷ []) = suspend_with image events (Some DEFAULT_STEPS) (Some None)
suspend_of (image ∷ events ∷ steps ∷ []) = suspend_with image events (limit_of steps) (Some None)
suspend_of (image ∷ events ∷ steps ∷ slots ∷ []) = suspend_with image events (limit_of steps) (asked_of slots)
suspend_of words = None

-- `resume` whose numbers may be none
abbrev pub resume_with : Word → Word → Option ℕ → Option ℕ → Option Resume
resume_with state events limit slots =
    option_and_then (λ limit. option_map (λ slots. record {
      state = string_bytes state;
      events = string_bytes events;
      limit = limit;
      slots = slots;
    }) slots) limit

-- `STATE EVENTS [STEPS [SLOTS]]`: a run that is resumed has no slots where none are asked for
abbrev pub resume_of : List Word → Option Resume
resume_of (state ∷ events ∷ []) = resume_with state events (Some DEFAULT_STEPS) (Some 0)
resume_of (state ∷ events ∷ steps ∷ []) = resume_with state events (limit_of steps) (Some 0)
resume_of (state ∷ events ∷ steps ∷ slots ∷ []) = resume_with state events (limit_of steps) (slots_of slots)
resume_of words = None

-- `N`, the clients of the load
abbrev pub demo_of : List Word → Option ℕ
demo_of (clients ∷ []) = number_within 1 CLIENT_LIMIT (string_bytes clients)
demo_of words = None

abbrev pub is_word : Word → List ℕ → Bool
is_word word text = pointwise nat_eq (string_bytes word) text

-- the words of a command, by their first
abbrev pub command_after : Word → List Word → Option Command
command_after first rest =
    if is_word first (codes "trace") then option_map Plays (play_of Trace rest) else (
    if is_word first (codes "run") then option_map Plays (play_of Run rest) else (
    if is_word first (codes "ledger") then option_map Plays (play_of Ledger rest) else (
    if is_word first (codes "check") then option_map Checks (check_of rest) else (
    if is_word first (codes "convert") then option_map Converts (convert_of rest) else (
    if is_word first (codes "demo") then option_map Demo (demo_of rest) else (
    if is_word first (codes "suspend") then option_map Suspends (suspend_of rest) else (
    if is_word first (codes "resume") then option_map Resumes (resume_of rest) else None)))))))

-- the command that words are, or None where they have no stated form
unfoldable pub command_of : List Word → Option Command
command_of [] = None
command_of (first ∷ rest) = command_after first rest

-- ---- commands as they were read

abbrev pub play_in : PlayWords → Play
play_in play = record {
  tells = play.tells;
  image = play.image.now;
  events = play.events.now;
  limit = play.limit;
  slots = play.slots;
  store = option_map (λ name. name.now) play.store;
}

abbrev pub check_in : CheckWords → Check
check_in check = record { image = check.image.now; slots = check.slots }

abbrev pub suspend_in : SuspendWords → Suspend
suspend_in suspend = record {
  image = suspend.image.now;
  events = suspend.events.now;
  limit = suspend.limit;
  slots = suspend.slots;
}

abbrev pub resume_in : ResumeWords → Resume
resume_in resume = record {
  state = resume.state.now;
  events = resume.events.now;
  limit = resume.limit;
  slots = resume.slots;
}

abbrev pub command_in : CommandWords → Command
command_in (words.Play play) = Plays (play_in play)
command_in (words.Check check) = Checks (check_in check)
command_in (words.Convert image) = Converts image.now
command_in (words.Demo demo) = Demo demo.clients
command_in (words.Suspend suspend) = Suspends (suspend_in suspend)
command_in (words.Resume resume) = Resumes (resume_in resume)
