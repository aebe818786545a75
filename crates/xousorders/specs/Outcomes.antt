-- How the program ends where it tells nothing, and how it ends by what it told; its numbers, and its texts on the notes.
use Rattle.std.specs.Prelude.{ℕ, Bool, true, false, if◌then◌else◌, List, [], ◌++◌, codes}
use Rattle.graph_search.specs.declared.found.Extent.{Extent}
use Rattle.graph_search.specs.declared.found.Extent.TheVariants.{Cut as CutOff, Whole}
use Rattle.program_status.specs.Notes.{note_with}
use Rattle.program_status.specs.Status.{number_of as number_of_status}
use Rattle.program_status.specs.declared.status.Status.{Status}
use Rattle.program_status.specs.declared.status.Status.TheVariants.{Done, NoMemory, WriteFault}
use Rattle.xousorders.specs.declared.outcome.Outcome.{Outcome}
use Rattle.xousorders.specs.declared.outcome.Outcome.TheVariants.{Cut, Ended, Failed}

-- an event file can't be written, as the folder failed, or there is no memory
abbrev pub IsUnfiled : Type 0 → Status → Type 0
IsUnfiled folder_rose WriteFault = folder_rose
IsUnfiled folder_rose NoMemory = Unit {0}
IsUnfiled folder_rose status = ⊥

abbrev pub is_whole : Extent → Bool
is_whole Whole = true
is_whole (CutOff why) = false

-- where no failure was told, though one was asked about, it matters whether the search is whole
abbrev pub passed : Bool → Bool → Outcome
passed true false = Cut
passed true true = Ended Done
passed false whole = Ended Done

-- a failure was told, or none was
abbrev pub outcome_of : Bool → Bool → Bool → Outcome
outcome_of tells asks whole = if tells then Failed else passed asks whole

-- the number with which the program ends
abbrev pub number_of : Outcome → ℕ
number_of (Ended status) = number_of_status status
number_of Failed = 1
number_of Cut = 10

abbrev pub usage_line : List ℕ
usage_line =
    codes "usage: xousorders IMAGE [--quantum N] [--preemptions P] [--steps N] [--states N] [--seconds N] [--from EVENTS] "
    ++ codes "[--irq K].. [--kill PID].. [--write DIR] [--see WHAT,..] [--hex] [--fails WHAT].. [--first] [--one]\n"

-- the text on the notes; there is none where all was told
abbrev pub note_of : Outcome → List ℕ
note_of (Ended status) = note_with usage_line status
note_of Failed = []
note_of Cut = codes "cut\n"
