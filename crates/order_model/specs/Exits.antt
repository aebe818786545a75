-- What processes end with, as records tell it.
use Rattle.std.specs.Prelude.{ℕ, ◌==◌, Bool, true, false, List, [], ◌∷◌, if◌then◌else◌, Option}
use Rattle.std.specs.List.{find, flat_map}
use Rattle.std.specs.Option.{option_map, option_or}
use Rattle.syscall_codec.specs.CallNumbers.{terminate_process}
use Rattle.syscall_codec.specs.CallWords.{call_number, exit_word}
use Rattle.xk_base.specs.declared.ids.ThreadId.{ThreadId}
use Rattle.xk_base.specs.declared.records.Rec.{Rec}
use Rattle.xk_base.specs.declared.records.What.{What}
use Rattle.xk_base.specs.declared.records.What.TheVariants.{Byte, Call, End, Fault, Gone, Irq, Reply, Retry}
use Rattle.order_model.specs.declared.exits.Ended.{Ended}
use Rattle.order_model.specs.declared.exits.Exit.{Exit}
use Rattle.order_model.specs.declared.exits.Exit.TheVariants.{Exited, Faulted, Killed}

-- a process ends with its call TerminateProcess
abbrev pub end_of_call : ThreadId → List ℕ → List Ended
end_of_call thread words =
    if call_number words == terminate_process then record { pid = thread.pid; exit = Exited (exit_word words) } ∷ [] else []

-- Three records tell the end of a process: that call, a fault of one of its threads, and its death. The first two stand before the death
-- that they cause, in the same step.
abbrev pub end_of_what : What → List Ended
end_of_what (Call thread words) = end_of_call thread words
end_of_what (Fault thread cause value) = record { pid = thread.pid; exit = Faulted cause value } ∷ []
end_of_what (Gone pid) = record { pid = pid; exit = Killed } ∷ []
end_of_what (Byte thread byte) = []
end_of_what (Reply thread words) = []
end_of_what (Retry thread) = []
end_of_what (End thread) = []
end_of_what (Irq pid number) = []

abbrev pub ends_of : List Rec → List Ended
ends_of records = flat_map (λ told. end_of_what told.what) records

-- .. where they are kept
abbrev pub kept_ends : Bool → List Rec → List Ended
kept_ends true records = ends_of records
kept_ends false records = []

-- **What a process ended with** is what the first record of its end tells.
abbrev pub exit_in : List Ended → ℕ → Option Exit
exit_in ends pid = option_map (λ end. end.exit) (find (λ end. end.pid.0 == pid) ends)

-- what processes ended with that ended before, or else as these tell
abbrev pub exits_on : (ℕ → Option Exit) → List Ended → ℕ → Option Exit
exits_on exits ends pid = option_or (exits pid) (exit_in ends pid)
