-- What the states of threads mean for the order of steps and for messages.
use Rattle.std.specs.Prelude.{Bool, true, false, ◌==◌}
use Rattle.xk_base.specs.declared.ids.Serial.{Serial}
use Rattle.thread_table.specs.declared.thread.ThreadState.{ThreadState}
use Rattle.thread_table.specs.declared.thread.ThreadState.TheVariants.{Ready, Receiving, Waiting, Joining, Idle}

-- the thread may do the next step
abbrev pub is_ready_state : ThreadState → Bool
is_ready_state Ready = true
is_ready_state (Receiving serial) = false
is_ready_state (Waiting number) = false
is_ready_state (Joining tid) = false
is_ready_state Idle = false

-- the thread waits for a message at the server
abbrev pub is_receiving_state : Serial → ThreadState → Bool
is_receiving_state serial Ready = false
is_receiving_state serial (Receiving at) = at.0 == serial.0
is_receiving_state serial (Waiting number) = false
is_receiving_state serial (Joining tid) = false
is_receiving_state serial Idle = false
