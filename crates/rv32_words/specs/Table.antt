-- The instruction table: RV32I 2.1, M 2.0 and Zifencei 2.0 of the RISC-V Unprivileged ISA, as its chapter
-- "RV32/64G Instruction Set Listings" lists them. A row has the opcode, then funct3, then funct7 where the
-- format has it, then the instruction's fields.
use Rattle.std.specs.Prelude.{◌≡◌, ℕ, pos}
use Rattle.xk_base.specs.Numbers.Fields.{word_of}
use Rattle.rv32_words.specs.Formats.{Layout, RType, IType, ShiftType, SType, BType, UType, JType, drawing, FieldsFit}
use Rattle.rv32_words.specs.declared.insn.Insn.{Insn}
use Rattle.rv32_words.specs.declared.insn.Insn.TheVariants.{Lui, Auipc, Jal, Jalr, Beq, Bne, Blt, Bge, Bltu, Bgeu, Lb, Lh, Lw, Lbu, Lhu, Sb}
use Rattle.rv32_words.specs.declared.insn.Insn.TheVariants.{Sh, Sw, Addi, Slti, Sltiu, Xori, Ori, Andi, Slli, Srli, Srai, Add, Sub, Sll}
use Rattle.rv32_words.specs.declared.insn.Insn.TheVariants.{Slt, Sltu, Xor, Srl, Sra, Or, And, Mul, Mulh, Mulhsu, Mulhu, Div, Divu, Rem}
use Rattle.rv32_words.specs.declared.insn.Insn.TheVariants.{Remu, Fence, FenceI, Ecall, Ebreak}

-- the format of each instruction's word, with its opcode, its function codes and its fields
abbrev pub layout : Insn → Layout
-- 2.4 Integer Computational Instructions: LUI and AUIPC
layout (Lui rd imm) = UType 0b0110111 rd imm
layout (Auipc rd imm) = UType 0b0010111 rd imm
-- 2.5 Control Transfer Instructions: unconditional jumps
layout (Jal rd imm) = JType 0b1101111 rd imm
layout (Jalr rd rs1 imm) = IType 0b1100111 0b000 rd rs1 imm
-- 2.5 Control Transfer Instructions: conditional branches
layout (Beq rs1 rs2 imm) = BType 0b1100011 0b000 rs1 rs2 imm
layout (Bne rs1 rs2 imm) = BType 0b1100011 0b001 rs1 rs2 imm
layout (Blt rs1 rs2 imm) = BType 0b1100011 0b100 rs1 rs2 imm
layout (Bge rs1 rs2 imm) = BType 0b1100011 0b101 rs1 rs2 imm
layout (Bltu rs1 rs2 imm) = BType 0b1100011 0b110 rs1 rs2 imm
layout (Bgeu rs1 rs2 imm) = BType 0b1100011 0b111 rs1 rs2 imm
-- 2.6 Load and Store Instructions
layout (Lb rd rs1 imm) = IType 0b0000011 0b000 rd rs1 imm
layout (Lh rd rs1 imm) = IType 0b0000011 0b001 rd rs1 imm
layout (Lw rd rs1 imm) = IType 0b0000011 0b010 rd rs1 imm
layout (Lbu rd rs1 imm) = IType 0b0000011 0b100 rd rs1 imm
layout (Lhu rd rs1 imm) = IType 0b0000011 0b101 rd rs1 imm
layout (Sb rs1 rs2 imm) = SType 0b0100011 0b000 rs1 rs2 imm
layout (Sh rs1 rs2 imm) = SType 0b0100011 0b001 rs1 rs2 imm
layout (Sw rs1 rs2 imm) = SType 0b0100011 0b010 rs1 rs2 imm
-- 2.4 Integer Computational Instructions: register-immediate
layout (Addi rd rs1 imm) = IType 0b0010011 0b000 rd rs1 imm
layout (Slti rd rs1 imm) = IType 0b0010011 0b010 rd rs1 imm
layout (Sltiu rd rs1 imm) = IType 0b0010011 0b011 rd rs1 imm
layout (Xori rd rs1 imm) = IType 0b0010011 0b100 rd rs1 imm
layout (Ori rd rs1 imm) = IType 0b0010011 0b110 rd rs1 imm
layout (Andi rd rs1 imm) = IType 0b0010011 0b111 rd rs1 imm
layout (Slli rd rs1 shamt) = ShiftType 0b0010011 0b001 0b0000000 rd rs1 shamt
layout (Srli rd rs1 shamt) = ShiftType 0b0010011 0b101 0b0000000 rd rs1 shamt
layout (Srai rd rs1 shamt) = ShiftType 0b0010011 0b101 0b0100000 rd rs1 shamt
-- 2.4 Integer Computational Instructions: register-register
layout (Add rd rs1 rs2) = RType 0b0110011 0b000 0b0000000 rd rs1 rs2
layout (Sub rd rs1 rs2) = RType 0b0110011 0b000 0b0100000 rd rs1 rs2
layout (Sll rd rs1 rs2) = RType 0b0110011 0b001 0b0000000 rd rs1 rs2
layout (Slt rd rs1 rs2) = RType 0b0110011 0b010 0b0000000 rd rs1 rs2
layout (Sltu rd rs1 rs2) = RType 0b0110011 0b011 0b0000000 rd rs1 rs2
layout (Xor rd rs1 rs2) = RType 0b0110011 0b100 0b0000000 rd rs1 rs2
layout (Srl rd rs1 rs2) = RType 0b0110011 0b101 0b0000000 rd rs1 rs2
layout (Sra rd rs1 rs2) = RType 0b0110011 0b101 0b0100000 rd rs1 rs2
layout (Or rd rs1 rs2) = RType 0b0110011 0b110 0b0000000 rd rs1 rs2
layout (And rd rs1 rs2) = RType 0b0110011 0b111 0b0000000 rd rs1 rs2
-- chapter "M", Multiplication Operations and Division Operations
layout (Mul rd rs1 rs2) = RType 0b0110011 0b000 0b0000001 rd rs1 rs2
layout (Mulh rd rs1 rs2) = RType 0b0110011 0b001 0b0000001 rd rs1 rs2
layout (Mulhsu rd rs1 rs2) = RType 0b0110011 0b010 0b0000001 rd rs1 rs2
layout (Mulhu rd rs1 rs2) = RType 0b0110011 0b011 0b0000001 rd rs1 rs2
layout (Div rd rs1 rs2) = RType 0b0110011 0b100 0b0000001 rd rs1 rs2
layout (Divu rd rs1 rs2) = RType 0b0110011 0b101 0b0000001 rd rs1 rs2
layout (Rem rd rs1 rs2) = RType 0b0110011 0b110 0b0000001 rd rs1 rs2
layout (Remu rd rs1 rs2) = RType 0b0110011 0b111 0b0000001 rd rs1 rs2
-- 2.7 Memory Ordering Instructions, and chapter "Zifencei"; all fields are kept
layout (Fence rd rs1 imm) = IType 0b0001111 0b000 rd rs1 imm
layout (FenceI rd rs1 imm) = IType 0b0001111 0b001 rd rs1 imm
-- 2.8 Environment Call and Breakpoints: funct12 0 and 1, and all other fields 0
layout Ecall = IType 0b1110011 0b000 0 0 (pos 0)
layout Ebreak = IType 0b1110011 0b000 0 0 (pos 1)

-- the word of an instruction
abbrev pub spelling : Insn → ℕ
spelling i = word_of (drawing (layout i))

-- the fields of the instruction are in their ranges
abbrev pub IsInRange : Insn → Type 0
IsInRange i = FieldsFit (layout i)

-- the instruction is one of the table, and this is its word
abbrev pub Spells : Insn → ℕ → Type 0
Spells i word = IsInRange i × (spelling i ≡ word)
