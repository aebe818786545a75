-- The table read by a word's opcode and then by its function codes. It says no more than the table of `Table`:
-- the contract of `decode` has that it finds an instruction that spells the word, and the only one.
use Rattle.std.specs.Prelude.{ℕ, [], ◌∷◌, Option, Some, None, ◌==◌, if◌then◌else◌}
use Rattle.xk_base.specs.Numbers.Fields.{field, word_of, sign_extended}
use Rattle.rv32_words.specs.declared.insn.Insn.{Insn}
use Rattle.rv32_words.specs.declared.insn.Insn.TheVariants.{Lui, Auipc, Jal, Jalr, Beq, Bne, Blt, Bge, Bltu, Bgeu, Lb, Lh, Lw, Lbu, Lhu, Sb}
use Rattle.rv32_words.specs.declared.insn.Insn.TheVariants.{Sh, Sw, Addi, Slti, Sltiu, Xori, Ori, Andi, Slli, Srli, Srai, Add, Sub, Sll}
use Rattle.rv32_words.specs.declared.insn.Insn.TheVariants.{Slt, Sltu, Xor, Srl, Sra, Or, And, Mul, Mulh, Mulhsu, Mulhu, Div, Divu, Rem}
use Rattle.rv32_words.specs.declared.insn.Insn.TheVariants.{Remu, Fence, FenceI, Ecall, Ebreak}

-- the fields of a word (2.2)
abbrev pub opcode_of : ℕ → ℕ
opcode_of word = field 0 7 word

abbrev pub rd_of : ℕ → ℕ
rd_of word = field 7 5 word

abbrev pub funct3_of : ℕ → ℕ
funct3_of word = field 12 3 word

abbrev pub rs1_of : ℕ → ℕ
rs1_of word = field 15 5 word

abbrev pub rs2_of : ℕ → ℕ
rs2_of word = field 20 5 word

abbrev pub funct7_of : ℕ → ℕ
funct7_of word = field 25 7 word

-- the bits of a word's immediate, from the highest down (2.3)
abbrev pub i_bits : ℕ → ℕ
i_bits word = word_of ((12, field 20 12 word) ∷ [])

abbrev pub s_bits : ℕ → ℕ
s_bits word = word_of ((7, field 25 7 word) ∷ (5, field 7 5 word) ∷ [])

abbrev pub b_bits : ℕ → ℕ
b_bits word =
    word_of ((1, field 31 1 word) ∷ (1, field 7 1 word) ∷ (6, field 25 6 word) ∷ (4, field 8 4 word) ∷ (1, 0) ∷ [])

abbrev pub u_bits : ℕ → ℕ
u_bits word = word_of ((20, field 12 20 word) ∷ (12, 0) ∷ [])

abbrev pub j_bits : ℕ → ℕ
j_bits word =
    word_of ((1, field 31 1 word) ∷ (8, field 12 8 word) ∷ (1, field 20 1 word) ∷ (10, field 21 10 word) ∷ (1, 0) ∷ [])

-- what a word says under each opcode, by its function codes: BRANCH (2.5) ..
abbrev pub branch_at : ℕ → Option Insn
branch_at word =
    if funct3_of word == 0b000 then Some (Beq (rs1_of word) (rs2_of word) (sign_extended 13 (b_bits word))) else (
    if funct3_of word == 0b001 then Some (Bne (rs1_of word) (rs2_of word) (sign_extended 13 (b_bits word))) else (
    if funct3_of word == 0b100 then Some (Blt (rs1_of word) (rs2_of word) (sign_extended 13 (b_bits word))) else (
    if funct3_of word == 0b101 then Some (Bge (rs1_of word) (rs2_of word) (sign_extended 13 (b_bits word))) else (
    if funct3_of word == 0b110 then Some (Bltu (rs1_of word) (rs2_of word) (sign_extended 13 (b_bits word))) else (
    if funct3_of word == 0b111 then Some (Bgeu (rs1_of word) (rs2_of word) (sign_extended 13 (b_bits word))) else None)))))

-- .. LOAD and STORE (2.6) ..
abbrev pub load_at : ℕ → Option Insn
load_at word =
    if funct3_of word == 0b000 then Some (Lb (rd_of word) (rs1_of word) (sign_extended 12 (i_bits word))) else (
    if funct3_of word == 0b001 then Some (Lh (rd_of word) (rs1_of word) (sign_extended 12 (i_bits word))) else (
    if funct3_of word == 0b010 then Some (Lw (rd_of word) (rs1_of word) (sign_extended 12 (i_bits word))) else (
    if funct3_of word == 0b100 then Some (Lbu (rd_of word) (rs1_of word) (sign_extended 12 (i_bits word))) else (
    if funct3_of word == 0b101 then Some (Lhu (rd_of word) (rs1_of word) (sign_extended 12 (i_bits word))) else None))))

abbrev pub store_at : ℕ → Option Insn
store_at word =
    if funct3_of word == 0b000 then Some (Sb (rs1_of word) (rs2_of word) (sign_extended 12 (s_bits word))) else (
    if funct3_of word == 0b001 then Some (Sh (rs1_of word) (rs2_of word) (sign_extended 12 (s_bits word))) else (
    if funct3_of word == 0b010 then Some (Sw (rs1_of word) (rs2_of word) (sign_extended 12 (s_bits word))) else None))

-- .. OP-IMM, whose shifts have a code in the place of the immediate's high bits (2.4) ..
abbrev pub shift_left_at : ℕ → Option Insn
shift_left_at word =
    if funct7_of word == 0b0000000 then Some (Slli (rd_of word) (rs1_of word) (rs2_of word)) else None

abbrev pub shift_right_at : ℕ → Option Insn
shift_right_at word =
    if funct7_of word == 0b0000000 then Some (Srli (rd_of word) (rs1_of word) (rs2_of word)) else (
    if funct7_of word == 0b0100000 then Some (Srai (rd_of word) (rs1_of word) (rs2_of word)) else None)

abbrev pub op_imm_at : ℕ → Option Insn
op_imm_at word =
    if funct3_of word == 0b000 then Some (Addi (rd_of word) (rs1_of word) (sign_extended 12 (i_bits word))) else (
    if funct3_of word == 0b001 then shift_left_at word else (
    if funct3_of word == 0b010 then Some (Slti (rd_of word) (rs1_of word) (sign_extended 12 (i_bits word))) else (
    if funct3_of word == 0b011 then Some (Sltiu (rd_of word) (rs1_of word) (sign_extended 12 (i_bits word))) else (
    if funct3_of word == 0b100 then Some (Xori (rd_of word) (rs1_of word) (sign_extended 12 (i_bits word))) else (
    if funct3_of word == 0b101 then shift_right_at word else (
    if funct3_of word == 0b110 then Some (Ori (rd_of word) (rs1_of word) (sign_extended 12 (i_bits word))) else (
    if funct3_of word == 0b111 then Some (Andi (rd_of word) (rs1_of word) (sign_extended 12 (i_bits word))) else None)))))))

-- .. OP, by funct7 the base's, the base's other meaning, and multiplication and division (2.4, M) ..
abbrev pub base_op_at : ℕ → Option Insn
base_op_at word =
    if funct3_of word == 0b000 then Some (Add (rd_of word) (rs1_of word) (rs2_of word)) else (
    if funct3_of word == 0b001 then Some (Sll (rd_of word) (rs1_of word) (rs2_of word)) else (
    if funct3_of word == 0b010 then Some (Slt (rd_of word) (rs1_of word) (rs2_of word)) else (
    if funct3_of word == 0b011 then Some (Sltu (rd_of word) (rs1_of word) (rs2_of word)) else (
    if funct3_of word == 0b100 then Some (Xor (rd_of word) (rs1_of word) (rs2_of word)) else (
    if funct3_of word == 0b101 then Some (Srl (rd_of word) (rs1_of word) (rs2_of word)) else (
    if funct3_of word == 0b110 then Some (Or (rd_of word) (rs1_of word) (rs2_of word)) else (
    if funct3_of word == 0b111 then Some (And (rd_of word) (rs1_of word) (rs2_of word)) else None)))))))

abbrev pub alternate_op_at : ℕ → Option Insn
alternate_op_at word =
    if funct3_of word == 0b000 then Some (Sub (rd_of word) (rs1_of word) (rs2_of word)) else (
    if funct3_of word == 0b101 then Some (Sra (rd_of word) (rs1_of word) (rs2_of word)) else None)

abbrev pub muldiv_at : ℕ → Option Insn
muldiv_at word =
    if funct3_of word == 0b000 then Some (Mul (rd_of word) (rs1_of word) (rs2_of word)) else (
    if funct3_of word == 0b001 then Some (Mulh (rd_of word) (rs1_of word) (rs2_of word)) else (
    if funct3_of word == 0b010 then Some (Mulhsu (rd_of word) (rs1_of word) (rs2_of word)) else (
    if funct3_of word == 0b011 then Some (Mulhu (rd_of word) (rs1_of word) (rs2_of word)) else (
    if funct3_of word == 0b100 then Some (Div (rd_of word) (rs1_of word) (rs2_of word)) else (
    if funct3_of word == 0b101 then Some (Divu (rd_of word) (rs1_of word) (rs2_of word)) else (
    if funct3_of word == 0b110 then Some (Rem (rd_of word) (rs1_of word) (rs2_of word)) else (
    if funct3_of word == 0b111 then Some (Remu (rd_of word) (rs1_of word) (rs2_of word)) else None)))))))

abbrev pub op_at : ℕ → Option Insn
op_at word =
    if funct7_of word == 0b0000000 then base_op_at word else (
    if funct7_of word == 0b0100000 then alternate_op_at word else (
    if funct7_of word == 0b0000001 then muldiv_at word else None))

-- .. MISC-MEM (2.7, Zifencei) ..
abbrev pub misc_mem_at : ℕ → Option Insn
misc_mem_at word =
    if funct3_of word == 0b000 then Some (Fence (rd_of word) (rs1_of word) (sign_extended 12 (i_bits word))) else (
    if funct3_of word == 0b001 then Some (FenceI (rd_of word) (rs1_of word) (sign_extended 12 (i_bits word))) else None)

-- .. JALR (2.5) ..
abbrev pub jalr_at : ℕ → Option Insn
jalr_at word =
    if funct3_of word == 0b000 then Some (Jalr (rd_of word) (rs1_of word) (sign_extended 12 (i_bits word))) else None

-- .. and SYSTEM, of which these two words alone are instructions (2.8)
abbrev pub system_at : ℕ → Option Insn
system_at word =
    if word == 0x0000_0073 then Some Ecall else (
    if word == 0x0010_0073 then Some Ebreak else None)

-- the instruction that the word spells, if one does
unfoldable pub insn_at : ℕ → Option Insn
insn_at word =
    if opcode_of word == 0b0110111 then Some (Lui (rd_of word) (u_bits word)) else (
    if opcode_of word == 0b0010111 then Some (Auipc (rd_of word) (u_bits word)) else (
    if opcode_of word == 0b1101111 then Some (Jal (rd_of word) (sign_extended 21 (j_bits word))) else (
    if opcode_of word == 0b1100111 then jalr_at word else (
    if opcode_of word == 0b1100011 then branch_at word else (
    if opcode_of word == 0b0000011 then load_at word else (
    if opcode_of word == 0b0100011 then store_at word else (
    if opcode_of word == 0b0010011 then op_imm_at word else (
    if opcode_of word == 0b0110011 then op_at word else (
    if opcode_of word == 0b0001111 then misc_mem_at word else (
    if opcode_of word == 0b1110011 then system_at word else None))))))))))
