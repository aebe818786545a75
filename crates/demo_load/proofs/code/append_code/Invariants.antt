use Rattle.std.proofs.Common.{◌≡◌, ◌++◌, take}
use Rattle.demo_load.specs.Code.{code_bytes}
use Rattle.demo_load.proofs.code.append_code.Given as goal

abbrev pub invariant-loop-insn : goal.invariant-loop-insn
invariant-loop-insn l = l.image ≡ l.fn.image ++ code_bytes (take l.insn-index l.code)
