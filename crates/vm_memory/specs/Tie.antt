-- Stands for, of a memory.
use Rattle.std.specs.Prelude.{MatchBool}
use Rattle.sv32_space.specs.Tie.{Held, stands_for, stands_without_room}
use Rattle.vm_memory.specs.declared.memory.Memory.{Memory}
use Rattle.vm_memory.specs.Memory.{processes, ledger}

-- THE TIE: the bytes of RAM, with what the store's slots hold, stand for the ledger. That a frame is free isn't claimed
-- after Failed.
abbrev pub IsTied : {W : Type 0} → (W → Held) → Memory W → Type 0
IsTied held m = MatchBool m.failed
    (stands_without_room m.ram (processes m) (held m.store) (ledger held m))
    (stands_for m.ram (processes m) (held m.store) (ledger held m))
