-- The row of pending interrupts: they are a set.
use Rattle.std.specs.Prelude.{List, [], ◌∷◌, ◌++◌, replicate}
use Rattle.xk_base.specs.declared.records.What.TheVariants.{End, Irq, Reply}
use Rattle.syscall_codec.specs.ReplyWords.{eight_words}
use Rattle.machine_model.specs.State.Machine.{Machine, Thread, Ready}
use Rattle.machine_model.specs.Worked.Rows.{id_of, pid_of}
use Rattle.worked_examples.specs.Playing.{Line, calls, steps, raises, return_address, left_by, coded_machine}

-- 2.2 claims interrupt 4, with argument 9. It comes, and the handler starts.
abbrev pub handler_begun : List Line
handler_begun =
    calls (id_of 2 2) (5 ∷ 4 ∷ return_address ∷ 9 ∷ []) (Reply (id_of 2 2) (eight_words (0 ∷ [])) ∷ [])
    ∷ raises 4 (Irq (pid_of 2) 4 ∷ [])
    ∷ []

-- It comes twice more while the handler runs. The handler's only instruction is its return; its end starts it once more, and the
-- second end starts nothing.
abbrev pub pending_row : List Line
pending_row = handler_begun ++ (
    raises 4 []
    ∷ raises 4 []
    ∷ steps []
    ∷ steps (End (id_of 2 1) ∷ Irq (pid_of 2) 4 ∷ [])
    ∷ steps []
    ∷ steps (End (id_of 2 1) ∷ [])
    ∷ [])

-- the machine as the handler starts
abbrev pub handling : Machine
handling = left_by handler_begun (coded_machine 1)

-- The handler's thread as it starts: ra, which is x1, is where a fetch ends the handler; sp, which is x2, is the end of the interrupt
-- page; a0 and a1, which are x10 and x11, are the number and the argument; and all else is 0.
abbrev pub begun_thread : Thread
begun_thread = record {
  pc = return_address;
  regs = (0 ∷ 0xFF80_2000 ∷ 0x7F00_1000 ∷ replicate 7 0) ++ (4 ∷ 9 ∷ replicate 20 0);
  state = Ready;
}
