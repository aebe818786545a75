-- Event files of orders.
use Rattle.std.specs.Prelude.{ℕ, zero, suc, ◌+◌, List, [], ◌∷◌, ◌++◌, if◌then◌else◌, length, slice_get}
use Rattle.std.specs.Option.{option_map_or}
use Rattle.event_text.specs.Spelling.{event_lines}
use Rattle.event_text.specs.Lines.{is_last}
use Rattle.order_model.specs.declared.moves.Move.{Move}
use Rattle.order_model.specs.Moves.{Asked, events_of}
use Rattle.order_text.specs.declared.endings.Ending.{Ending}

-- the last line ends with a line feed too
abbrev pub with_feed : List ℕ → List ℕ
with_feed [] = []
with_feed (byte ∷ bytes) = if is_last 10 (byte ∷ bytes) then byte ∷ bytes else (byte ∷ bytes) ++ 10 ∷ []

-- the lines of the events before, and then those of the order
abbrev pub order_file : Asked → List ℕ → List Move → List ℕ
order_file asked before order = with_feed before ++ event_lines (events_of asked order)

-- the event file of an ending, by its folder and its number, which is one more than its place
pub record EventFile : Type 0 where
  pub folder : List ℕ
  pub number : ℕ
  pub bytes : List ℕ

-- that of this order
abbrev pub event_file_of : List ℕ → Asked → List ℕ → ℕ → List Move → EventFile
event_file_of folder asked before number order = record { folder = folder; number = number; bytes = order_file asked before order }

-- the files of the first n endings
unfoldable pub files_below : List ℕ → Asked → List ℕ → List Ending → ℕ → List EventFile
files_below folder asked before endings zero = []
files_below folder asked before endings (suc n) =
    files_below folder asked before endings n
    ++ option_map_or (λ ending. event_file_of folder asked before (n + 1) ending.order.items ∷ []) (slice_get endings n) []

-- .. and of all
abbrev pub order_files : List ℕ → Asked → List ℕ → List Ending → List EventFile
order_files folder asked before endings = files_below folder asked before endings (length endings)
