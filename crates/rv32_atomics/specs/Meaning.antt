-- The atomic instruction of the machine that an instruction of the table stands for.
use Rattle.std.specs.Prelude.{ℕ, Option, Some, None}
use Rattle.machine_model.specs.Hart.Atomics as model
use Rattle.rv32_atomics.specs.declared.atomic.Atomic.{Atomic}
use Rattle.rv32_atomics.specs.declared.atomic.Atomic.TheVariants.{Lr, Sc, AmoSwap, AmoAdd, AmoXor, AmoAnd, AmoOr, AmoMin, AmoMax, AmoMinu}
use Rattle.rv32_atomics.specs.declared.atomic.Atomic.TheVariants.{AmoMaxu}
use Rattle.rv32_atomics.specs.declared.fields.Fields.{Fields}
use Rattle.rv32_atomics.specs.declared.kind.Kind.{Kind}
use Rattle.rv32_atomics.specs.declared.kind.Kind.TheVariants.{LoadReserved, StoreConditional, Amo}
use Rattle.rv32_atomics.specs.declared.kind.Operation.{Operation}
use Rattle.rv32_atomics.specs.declared.kind.Operation.TheVariants.{Swap, Add, Xor, And, Or, Min, Max, Minu, Maxu}
use Rattle.rv32_atomics.specs.Table.{fields_of}

abbrev pub operation_of : Operation → model.Operation
operation_of Swap = model.Swap
operation_of Add = model.Add
operation_of Xor = model.Xor
operation_of And = model.And
operation_of Or = model.Or
operation_of Min = model.Min
operation_of Max = model.Max
operation_of Minu = model.Minu
operation_of Maxu = model.Maxu

-- what an instruction is about
abbrev pub kind_of : Atomic → Kind
kind_of (Lr rd rs1 aq rl) = LoadReserved
kind_of (Sc rd rs1 rs2 aq rl) = StoreConditional
kind_of (AmoSwap rd rs1 rs2 aq rl) = Amo Swap
kind_of (AmoAdd rd rs1 rs2 aq rl) = Amo Add
kind_of (AmoXor rd rs1 rs2 aq rl) = Amo Xor
kind_of (AmoAnd rd rs1 rs2 aq rl) = Amo And
kind_of (AmoOr rd rs1 rs2 aq rl) = Amo Or
kind_of (AmoMin rd rs1 rs2 aq rl) = Amo Min
kind_of (AmoMax rd rs1 rs2 aq rl) = Amo Max
kind_of (AmoMinu rd rs1 rs2 aq rl) = Amo Minu
kind_of (AmoMaxu rd rs1 rs2 aq rl) = Amo Maxu

-- the instruction of the machine of this kind, with these fields
abbrev pub of_kind : Kind → Fields → model.Atomic
of_kind LoadReserved f = model.LoadReserved f.rd f.rs1
of_kind StoreConditional f = model.StoreConditional f.rd f.rs1 f.rs2
of_kind (Amo operation) f = model.Amo (operation_of operation) f.rd f.rs1 f.rs2

abbrev pub meaning : Atomic → model.Atomic
meaning a = of_kind (kind_of a) (fields_of a)

-- the reservation that an instruction of this kind, of this address, leaves unless it traps
abbrev pub reserves_by : Kind → ℕ → Option ℕ → Option ℕ
reserves_by LoadReserved address reserved = Some address
reserves_by StoreConditional address reserved = None
reserves_by (Amo operation) address reserved = reserved
