-- The row of the call table that the end of a server is.
use Rattle.std.specs.Prelude.{Ok}
use Rattle.machine_model.specs.Ending.Closing.{destroyed}
use Rattle.machine_model.specs.State.Changes.{Change, Outcome, Served}
use Rattle.machine_model.specs.State.Machine.{Machine}
use Rattle.machine_model.specs.State.Threads.{answer_to, both_answers}
use Rattle.send_path.specs.Rows.{IsRow}
use Rattle.sv32_space.specs.Tie.{Held}
use Rattle.syscall_codec.specs.ReplyWords.{plain_words}
use Rattle.xk_base.specs.declared.ids.Serial.{Serial}
use Rattle.xk_base.specs.declared.ids.ThreadId.{ThreadId}
use Rattle.xk_parts.specs.Parts.{Parts}

-- DestroyServer of the server with that serial: it is destroyed, and the caller is answered that it was served
abbrev pub destroy_change : Serial → Machine → Change
destroy_change serial m =
    let left = destroyed serial m in
    record left { answers = both_answers (answer_to m.cursor plain_words) left.answers }

abbrev pub destroy_row : Serial → Machine → Outcome
destroy_row serial m = Served (destroy_change serial m)

-- A call of the thread that always succeeds is this row, whatever the rest of the machine is.
abbrev pub DoesRow : {W : Type 0} → (W → Held) → (Machine → Outcome) → ThreadId → Parts W → Parts W → Type 0
DoesRow held row who old new = IsRow held row who old new (Ok (tt {0}))
