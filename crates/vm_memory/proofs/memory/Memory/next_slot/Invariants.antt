use Rattle.vm_memory.proofs.memory.Memory.next_slot.Given as goal

-- nothing is said of the slots so far: where they are all used, the least free one is before them
abbrev pub invariant-loop-k : goal.invariant-loop-k
invariant-loop-k g l = Unit {0}
