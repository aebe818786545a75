-- The instruction table: A 2.1 of the RISC-V Unprivileged ISA, as its chapter "RV32/64G Instruction Set Listings" lists it and
-- its chapter "A" draws it.
use Rattle.std.specs.Prelude.{◌≡◌, ℕ, Bool, [], ◌∷◌}
use Rattle.xk_base.specs.Numbers.Fields.{Drawing, word_of}
use Rattle.rv32_words.specs.Formats.{IsRegister}
use Rattle.machine_model.specs.Hart.Instructions.{flag_of}
use Rattle.rv32_atomics.specs.declared.atomic.Atomic.{Atomic}
use Rattle.rv32_atomics.specs.declared.atomic.Atomic.TheVariants.{Lr, Sc, AmoSwap, AmoAdd, AmoXor, AmoAnd, AmoOr, AmoMin, AmoMax, AmoMinu}
use Rattle.rv32_atomics.specs.declared.atomic.Atomic.TheVariants.{AmoMaxu}
use Rattle.rv32_atomics.specs.declared.fields.Fields.{Fields}

-- a row of the table: its funct5, and the fields of the instruction
abbrev pub row : (funct5 rd rs1 rs2 : ℕ) (aq rl : Bool) → Fields
row funct5 rd rs1 rs2 aq rl = record { funct5 = funct5; aq = aq; rl = rl; rs2 = rs2; rs1 = rs1; rd = rd }

-- the table; LR has 0 in place of rs2
abbrev pub fields_of : Atomic → Fields
fields_of (Lr rd rs1 aq rl) = row 0b00010 rd rs1 0 aq rl
fields_of (Sc rd rs1 rs2 aq rl) = row 0b00011 rd rs1 rs2 aq rl
fields_of (AmoSwap rd rs1 rs2 aq rl) = row 0b00001 rd rs1 rs2 aq rl
fields_of (AmoAdd rd rs1 rs2 aq rl) = row 0b00000 rd rs1 rs2 aq rl
fields_of (AmoXor rd rs1 rs2 aq rl) = row 0b00100 rd rs1 rs2 aq rl
fields_of (AmoAnd rd rs1 rs2 aq rl) = row 0b01100 rd rs1 rs2 aq rl
fields_of (AmoOr rd rs1 rs2 aq rl) = row 0b01000 rd rs1 rs2 aq rl
fields_of (AmoMin rd rs1 rs2 aq rl) = row 0b10000 rd rs1 rs2 aq rl
fields_of (AmoMax rd rs1 rs2 aq rl) = row 0b10100 rd rs1 rs2 aq rl
fields_of (AmoMinu rd rs1 rs2 aq rl) = row 0b11000 rd rs1 rs2 aq rl
fields_of (AmoMaxu rd rs1 rs2 aq rl) = row 0b11100 rd rs1 rs2 aq rl

-- The parts of the word, from bit 31 down to bit 0. The funct3 010 says that the access is of a word, and the opcode is AMO.
abbrev pub drawing : Fields → Drawing
drawing f =
    (5, f.funct5) ∷ (1, flag_of f.aq) ∷ (1, flag_of f.rl) ∷ (5, f.rs2) ∷ (5, f.rs1) ∷ (3, 0b010) ∷ (5, f.rd) ∷ (7, 0b0101111) ∷ []

-- the word of an instruction
abbrev pub spelling : Atomic → ℕ
spelling a = word_of (drawing (fields_of a))

-- the registers of the instruction are registers
abbrev pub IsInRange : Atomic → Type 0
IsInRange a = IsRegister (fields_of a).rd × IsRegister (fields_of a).rs1 × IsRegister (fields_of a).rs2

-- the instruction is one of the table, and this is its word
abbrev pub Spells : Atomic → ℕ → Type 0
Spells a word = IsInRange a × (spelling a ≡ word)
