-- What a command tells of a history: something as each record comes, and something at the end.
use Rattle.std.specs.Prelude.{ℕ, Bool, true, false, List, [], ◌∷◌, ◌++◌}
use Rattle.std.specs.List.{flat_map}
use Rattle.machine_model.specs.State.Machine.{Machine}
use Rattle.trace_text.specs.declared.lines.EndWord.TheVariants as words
use Rattle.trace_text.specs.Lines.{end_line_of, line_of}
use Rattle.xk_base.specs.declared.records.Rec.{Rec}
use Rattle.xk_base.specs.declared.records.What.{What}
use Rattle.xk_base.specs.declared.records.What.TheVariants.{Byte, Call, End, Fault, Gone, Irq, Reply, Retry}
use Rattle.event_player.specs.declared.telling.Telling.{Telling}
use Rattle.event_player.specs.declared.telling.Telling.TheVariants.{Ledger, Nothing, Run, Trace}
use Rattle.event_player.specs.declared.ending.Ending.{Ending}
use Rattle.event_player.specs.declared.ending.Ending.TheVariants.{BadLine, LimitMet, Played}
use Rattle.event_player.specs.History.{History}
use Rattle.event_player.specs.Table.{table_of}

-- the byte that went to the console, if one did
abbrev pub console_byte : What → List ℕ
console_byte (Byte thread byte) = byte ∷ []
console_byte (Call thread words) = []
console_byte (Reply thread words) = []
console_byte (Retry thread) = []
console_byte (Fault thread cause value) = []
console_byte (End thread) = []
console_byte (Irq pid number) = []
console_byte (Gone pid) = []

-- what is told as a record comes: its line, its console byte, or nothing
abbrev pub told_of : Telling → Rec → List ℕ
told_of Trace rec = line_of rec
told_of Run rec = console_byte rec.what
told_of Ledger rec = []
told_of Nothing rec = []

-- .. of records in order
abbrev pub told : Telling → List Rec → List ℕ
told tells records = flat_map (told_of tells) records

-- Nothing is told as records come: all that is told of a history is told at its end.
abbrev pub is_silent : Telling → Bool
is_silent Trace = false
is_silent Run = false
is_silent Ledger = true
is_silent Nothing = true

-- the last line; a history that ends at a bad line has none
abbrev pub last_line : ℕ → Ending → List ℕ
last_line steps Played = end_line_of steps words.Done
last_line steps LimitMet = end_line_of steps words.Limit
last_line steps (BadLine line) = []

-- what is told at the end, by the last state: the last line, nothing, or the table of the pages and the last line
abbrev pub closing : Telling → Machine → Ending → List ℕ
closing Trace machine ending = last_line machine.steps ending
closing Run machine ending = []
closing Ledger machine ending = table_of machine ++ last_line machine.steps ending
closing Nothing machine ending = []

-- All that a command writes of a history: `trace` the lines of its records and the last line, `run` the bytes for the
-- console, `ledger` the table of the pages of its last state and the last line.
abbrev pub output : Telling → History → List ℕ
output tells h = told tells h.records ++ closing tells h.machine h.ending
