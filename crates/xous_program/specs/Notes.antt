-- The texts of the program's statuses on the notes.
use Rattle.std.specs.Prelude.{ℕ, List, ◌++◌, codes}
use Rattle.program_status.specs.Notes.{note_with}
use Rattle.program_status.specs.declared.status.Status.{Status}

abbrev pub usage_line : List ℕ
usage_line =
    codes "usage: xousim trace|run|ledger IMAGE EVENTS [STEPS [SLOTS [STORE]]] | check IMAGE [SLOTS] | convert IMAGE | demo N | "
    ++ codes "suspend IMAGE EVENTS [STEPS [SLOTS]] | resume STATE EVENTS [STEPS [SLOTS]]\n"

-- the text of a status on the notes; a run to its end has none
abbrev pub note_of : Status → List ℕ
note_of status = note_with usage_line status
