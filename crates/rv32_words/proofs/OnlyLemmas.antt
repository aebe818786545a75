-- The table read from a word finds each instruction by the word that it spells.
use Rattle.std.proofs.Common.{◌≡◌, ℕ, refl, ◌∙◌, subst, Some, lit<}
use Rattle.rv32_words.specs.Table.{Spells}
use Rattle.rv32_words.specs.Reading.{opcode_of, funct3_of, funct7_of, insn_at, branch_at, load_at, store_at, shift_left_at, shift_right_at, op_imm_at, base_op_at, alternate_op_at, muldiv_at, misc_mem_at, jalr_at}
use Rattle.rv32_words.specs.declared.insn.Insn.{Insn}
use Rattle.rv32_words.specs.declared.insn.Insn.TheVariants.{Lui, Auipc, Jal, Jalr, Beq, Bne, Blt, Bge, Bltu, Bgeu, Lb, Lh, Lw, Lbu, Lhu, Sb, Sh, Sw, Addi, Slti, Sltiu, Xori, Ori, Andi, Slli, Srli, Srai, Add, Sub, Sll, Slt, Sltu, Xor, Srl, Sra, Or, And, Mul, Mulh, Mulhsu, Mulhu, Div, Divu, Rem, Remu, Fence, FenceI, Ecall, Ebreak}
use Rattle.rv32_words.proofs.FormatFieldLemmas.{r_fields, i_fields, s_fields, b_fields, u_fields, j_fields}

-- ---- which part of the table is read, by the opcode and the codes above it

at_branch : (word : ℕ) → opcode_of word ≡ 0b1100011 → insn_at word ≡ branch_at word
unfolding insn_at
at_branch word o = rw o refl

at_load : (word : ℕ) → opcode_of word ≡ 0b0000011 → insn_at word ≡ load_at word
unfolding insn_at
at_load word o = rw o refl

at_store : (word : ℕ) → opcode_of word ≡ 0b0100011 → insn_at word ≡ store_at word
unfolding insn_at
at_store word o = rw o refl

at_misc_mem : (word : ℕ) → opcode_of word ≡ 0b0001111 → insn_at word ≡ misc_mem_at word
unfolding insn_at
at_misc_mem word o = rw o refl

at_jalr : (word : ℕ) → opcode_of word ≡ 0b1100111 → insn_at word ≡ jalr_at word
unfolding insn_at
at_jalr word o = rw o refl

at_op_imm : (word : ℕ) → opcode_of word ≡ 0b0010011 → insn_at word ≡ op_imm_at word
unfolding insn_at
at_op_imm word o = rw o refl

at_shift_left : (word : ℕ) → opcode_of word ≡ 0b0010011 → funct3_of word ≡ 0b001 → insn_at word ≡ shift_left_at word
unfolding insn_at
at_shift_left word o f = rw (o, f) refl

at_shift_right : (word : ℕ) → opcode_of word ≡ 0b0010011 → funct3_of word ≡ 0b101 → insn_at word ≡ shift_right_at word
unfolding insn_at
at_shift_right word o f = rw (o, f) refl

at_base : (word : ℕ) → opcode_of word ≡ 0b0110011 → funct7_of word ≡ 0b0000000 → insn_at word ≡ base_op_at word
unfolding insn_at
at_base word o f = rw (o, f) refl

at_alternate : (word : ℕ) → opcode_of word ≡ 0b0110011 → funct7_of word ≡ 0b0100000 → insn_at word ≡ alternate_op_at word
unfolding insn_at
at_alternate word o f = rw (o, f) refl

at_muldiv : (word : ℕ) → opcode_of word ≡ 0b0110011 → funct7_of word ≡ 0b0000001 → insn_at word ≡ muldiv_at word
unfolding insn_at
at_muldiv word o f = rw (o, f) refl

-- ---- the rows

pub insn_at-spelled : (i : Insn) (word : ℕ) → Spells i word → insn_at word ≡ Some i
unfolding insn_at
insn_at-spelled (Lui rd imm) word h =
    let f = u_fields 0b0110111 rd imm word (lit< tt) h.0 h.1 in
    rw (f.opcode_is, f.rd_is, f.imm_is) refl
insn_at-spelled (Auipc rd imm) word h =
    let f = u_fields 0b0010111 rd imm word (lit< tt) h.0 h.1 in
    rw (f.opcode_is, f.rd_is, f.imm_is) refl
insn_at-spelled (Jal rd imm) word h =
    let f = j_fields 0b1101111 rd imm word (lit< tt) h.0 h.1 in
    rw (f.opcode_is, f.rd_is, f.imm_is) refl
insn_at-spelled (Jalr rd rs1 imm) word h =
    let f = i_fields 0b1100111 0b000 rd rs1 imm word (lit< tt) (lit< tt) h.0 h.1 in
    at_jalr word f.opcode_is ∙ (rw (f.funct3_is, f.rd_is, f.rs1_is, f.imm_is) refl)
insn_at-spelled (Beq rs1 rs2 imm) word h =
    let f = b_fields 0b1100011 0b000 rs1 rs2 imm word (lit< tt) (lit< tt) h.0 h.1 in
    at_branch word f.opcode_is ∙ (rw (f.funct3_is, f.rs1_is, f.rs2_is, f.imm_is) refl)
insn_at-spelled (Bne rs1 rs2 imm) word h =
    let f = b_fields 0b1100011 0b001 rs1 rs2 imm word (lit< tt) (lit< tt) h.0 h.1 in
    at_branch word f.opcode_is ∙ (rw (f.funct3_is, f.rs1_is, f.rs2_is, f.imm_is) refl)
insn_at-spelled (Blt rs1 rs2 imm) word h =
    let f = b_fields 0b1100011 0b100 rs1 rs2 imm word (lit< tt) (lit< tt) h.0 h.1 in
    at_branch word f.opcode_is ∙ (rw (f.funct3_is, f.rs1_is, f.rs2_is, f.imm_is) refl)
insn_at-spelled (Bge rs1 rs2 imm) word h =
    let f = b_fields 0b1100011 0b101 rs1 rs2 imm word (lit< tt) (lit< tt) h.0 h.1 in
    at_branch word f.opcode_is ∙ (rw (f.funct3_is, f.rs1_is, f.rs2_is, f.imm_is) refl)
insn_at-spelled (Bltu rs1 rs2 imm) word h =
    let f = b_fields 0b1100011 0b110 rs1 rs2 imm word (lit< tt) (lit< tt) h.0 h.1 in
    at_branch word f.opcode_is ∙ (rw (f.funct3_is, f.rs1_is, f.rs2_is, f.imm_is) refl)
insn_at-spelled (Bgeu rs1 rs2 imm) word h =
    let f = b_fields 0b1100011 0b111 rs1 rs2 imm word (lit< tt) (lit< tt) h.0 h.1 in
    at_branch word f.opcode_is ∙ (rw (f.funct3_is, f.rs1_is, f.rs2_is, f.imm_is) refl)
insn_at-spelled (Lb rd rs1 imm) word h =
    let f = i_fields 0b0000011 0b000 rd rs1 imm word (lit< tt) (lit< tt) h.0 h.1 in
    at_load word f.opcode_is ∙ (rw (f.funct3_is, f.rd_is, f.rs1_is, f.imm_is) refl)
insn_at-spelled (Lh rd rs1 imm) word h =
    let f = i_fields 0b0000011 0b001 rd rs1 imm word (lit< tt) (lit< tt) h.0 h.1 in
    at_load word f.opcode_is ∙ (rw (f.funct3_is, f.rd_is, f.rs1_is, f.imm_is) refl)
insn_at-spelled (Lw rd rs1 imm) word h =
    let f = i_fields 0b0000011 0b010 rd rs1 imm word (lit< tt) (lit< tt) h.0 h.1 in
    at_load word f.opcode_is ∙ (rw (f.funct3_is, f.rd_is, f.rs1_is, f.imm_is) refl)
insn_at-spelled (Lbu rd rs1 imm) word h =
    let f = i_fields 0b0000011 0b100 rd rs1 imm word (lit< tt) (lit< tt) h.0 h.1 in
    at_load word f.opcode_is ∙ (rw (f.funct3_is, f.rd_is, f.rs1_is, f.imm_is) refl)
insn_at-spelled (Lhu rd rs1 imm) word h =
    let f = i_fields 0b0000011 0b101 rd rs1 imm word (lit< tt) (lit< tt) h.0 h.1 in
    at_load word f.opcode_is ∙ (rw (f.funct3_is, f.rd_is, f.rs1_is, f.imm_is) refl)
insn_at-spelled (Sb rs1 rs2 imm) word h =
    let f = s_fields 0b0100011 0b000 rs1 rs2 imm word (lit< tt) (lit< tt) h.0 h.1 in
    at_store word f.opcode_is ∙ (rw (f.funct3_is, f.rs1_is, f.rs2_is, f.imm_is) refl)
insn_at-spelled (Sh rs1 rs2 imm) word h =
    let f = s_fields 0b0100011 0b001 rs1 rs2 imm word (lit< tt) (lit< tt) h.0 h.1 in
    at_store word f.opcode_is ∙ (rw (f.funct3_is, f.rs1_is, f.rs2_is, f.imm_is) refl)
insn_at-spelled (Sw rs1 rs2 imm) word h =
    let f = s_fields 0b0100011 0b010 rs1 rs2 imm word (lit< tt) (lit< tt) h.0 h.1 in
    at_store word f.opcode_is ∙ (rw (f.funct3_is, f.rs1_is, f.rs2_is, f.imm_is) refl)
insn_at-spelled (Addi rd rs1 imm) word h =
    let f = i_fields 0b0010011 0b000 rd rs1 imm word (lit< tt) (lit< tt) h.0 h.1 in
    at_op_imm word f.opcode_is ∙ (rw (f.funct3_is, f.rd_is, f.rs1_is, f.imm_is) refl)
insn_at-spelled (Slti rd rs1 imm) word h =
    let f = i_fields 0b0010011 0b010 rd rs1 imm word (lit< tt) (lit< tt) h.0 h.1 in
    at_op_imm word f.opcode_is ∙ (rw (f.funct3_is, f.rd_is, f.rs1_is, f.imm_is) refl)
insn_at-spelled (Sltiu rd rs1 imm) word h =
    let f = i_fields 0b0010011 0b011 rd rs1 imm word (lit< tt) (lit< tt) h.0 h.1 in
    at_op_imm word f.opcode_is ∙ (rw (f.funct3_is, f.rd_is, f.rs1_is, f.imm_is) refl)
insn_at-spelled (Xori rd rs1 imm) word h =
    let f = i_fields 0b0010011 0b100 rd rs1 imm word (lit< tt) (lit< tt) h.0 h.1 in
    at_op_imm word f.opcode_is ∙ (rw (f.funct3_is, f.rd_is, f.rs1_is, f.imm_is) refl)
insn_at-spelled (Ori rd rs1 imm) word h =
    let f = i_fields 0b0010011 0b110 rd rs1 imm word (lit< tt) (lit< tt) h.0 h.1 in
    at_op_imm word f.opcode_is ∙ (rw (f.funct3_is, f.rd_is, f.rs1_is, f.imm_is) refl)
insn_at-spelled (Andi rd rs1 imm) word h =
    let f = i_fields 0b0010011 0b111 rd rs1 imm word (lit< tt) (lit< tt) h.0 h.1 in
    at_op_imm word f.opcode_is ∙ (rw (f.funct3_is, f.rd_is, f.rs1_is, f.imm_is) refl)
insn_at-spelled (Slli rd rs1 shamt) word h =
    let f = r_fields 0b0010011 0b001 0b0000000 rd rs1 shamt word (lit< tt) (lit< tt) (lit< tt) h.0 h.1 in
    at_shift_left word f.opcode_is f.funct3_is ∙ (rw (f.funct7_is, f.rd_is, f.rs1_is, f.rs2_is) refl)
insn_at-spelled (Srli rd rs1 shamt) word h =
    let f = r_fields 0b0010011 0b101 0b0000000 rd rs1 shamt word (lit< tt) (lit< tt) (lit< tt) h.0 h.1 in
    at_shift_right word f.opcode_is f.funct3_is ∙ (rw (f.funct7_is, f.rd_is, f.rs1_is, f.rs2_is) refl)
insn_at-spelled (Srai rd rs1 shamt) word h =
    let f = r_fields 0b0010011 0b101 0b0100000 rd rs1 shamt word (lit< tt) (lit< tt) (lit< tt) h.0 h.1 in
    at_shift_right word f.opcode_is f.funct3_is ∙ (rw (f.funct7_is, f.rd_is, f.rs1_is, f.rs2_is) refl)
insn_at-spelled (Add rd rs1 rs2) word h =
    let f = r_fields 0b0110011 0b000 0b0000000 rd rs1 rs2 word (lit< tt) (lit< tt) (lit< tt) h.0 h.1 in
    at_base word f.opcode_is f.funct7_is ∙ (rw (f.funct3_is, f.rd_is, f.rs1_is, f.rs2_is) refl)
insn_at-spelled (Sub rd rs1 rs2) word h =
    let f = r_fields 0b0110011 0b000 0b0100000 rd rs1 rs2 word (lit< tt) (lit< tt) (lit< tt) h.0 h.1 in
    at_alternate word f.opcode_is f.funct7_is ∙ (rw (f.funct3_is, f.rd_is, f.rs1_is, f.rs2_is) refl)
insn_at-spelled (Sll rd rs1 rs2) word h =
    let f = r_fields 0b0110011 0b001 0b0000000 rd rs1 rs2 word (lit< tt) (lit< tt) (lit< tt) h.0 h.1 in
    at_base word f.opcode_is f.funct7_is ∙ (rw (f.funct3_is, f.rd_is, f.rs1_is, f.rs2_is) refl)
insn_at-spelled (Slt rd rs1 rs2) word h =
    let f = r_fields 0b0110011 0b010 0b0000000 rd rs1 rs2 word (lit< tt) (lit< tt) (lit< tt) h.0 h.1 in
    at_base word f.opcode_is f.funct7_is ∙ (rw (f.funct3_is, f.rd_is, f.rs1_is, f.rs2_is) refl)
insn_at-spelled (Sltu rd rs1 rs2) word h =
    let f = r_fields 0b0110011 0b011 0b0000000 rd rs1 rs2 word (lit< tt) (lit< tt) (lit< tt) h.0 h.1 in
    at_base word f.opcode_is f.funct7_is ∙ (rw (f.funct3_is, f.rd_is, f.rs1_is, f.rs2_is) refl)
insn_at-spelled (Xor rd rs1 rs2) word h =
    let f = r_fields 0b0110011 0b100 0b0000000 rd rs1 rs2 word (lit< tt) (lit< tt) (lit< tt) h.0 h.1 in
    at_base word f.opcode_is f.funct7_is ∙ (rw (f.funct3_is, f.rd_is, f.rs1_is, f.rs2_is) refl)
insn_at-spelled (Srl rd rs1 rs2) word h =
    let f = r_fields 0b0110011 0b101 0b0000000 rd rs1 rs2 word (lit< tt) (lit< tt) (lit< tt) h.0 h.1 in
    at_base word f.opcode_is f.funct7_is ∙ (rw (f.funct3_is, f.rd_is, f.rs1_is, f.rs2_is) refl)
insn_at-spelled (Sra rd rs1 rs2) word h =
    let f = r_fields 0b0110011 0b101 0b0100000 rd rs1 rs2 word (lit< tt) (lit< tt) (lit< tt) h.0 h.1 in
    at_alternate word f.opcode_is f.funct7_is ∙ (rw (f.funct3_is, f.rd_is, f.rs1_is, f.rs2_is) refl)
insn_at-spelled (Or rd rs1 rs2) word h =
    let f = r_fields 0b0110011 0b110 0b0000000 rd rs1 rs2 word (lit< tt) (lit< tt) (lit< tt) h.0 h.1 in
    at_base word f.opcode_is f.funct7_is ∙ (rw (f.funct3_is, f.rd_is, f.rs1_is, f.rs2_is) refl)
insn_at-spelled (And rd rs1 rs2) word h =
    let f = r_fields 0b0110011 0b111 0b0000000 rd rs1 rs2 word (lit< tt) (lit< tt) (lit< tt) h.0 h.1 in
    at_base word f.opcode_is f.funct7_is ∙ (rw (f.funct3_is, f.rd_is, f.rs1_is, f.rs2_is) refl)
insn_at-spelled (Mul rd rs1 rs2) word h =
    let f = r_fields 0b0110011 0b000 0b0000001 rd rs1 rs2 word (lit< tt) (lit< tt) (lit< tt) h.0 h.1 in
    at_muldiv word f.opcode_is f.funct7_is ∙ (rw (f.funct3_is, f.rd_is, f.rs1_is, f.rs2_is) refl)
insn_at-spelled (Mulh rd rs1 rs2) word h =
    let f = r_fields 0b0110011 0b001 0b0000001 rd rs1 rs2 word (lit< tt) (lit< tt) (lit< tt) h.0 h.1 in
    at_muldiv word f.opcode_is f.funct7_is ∙ (rw (f.funct3_is, f.rd_is, f.rs1_is, f.rs2_is) refl)
insn_at-spelled (Mulhsu rd rs1 rs2) word h =
    let f = r_fields 0b0110011 0b010 0b0000001 rd rs1 rs2 word (lit< tt) (lit< tt) (lit< tt) h.0 h.1 in
    at_muldiv word f.opcode_is f.funct7_is ∙ (rw (f.funct3_is, f.rd_is, f.rs1_is, f.rs2_is) refl)
insn_at-spelled (Mulhu rd rs1 rs2) word h =
    let f = r_fields 0b0110011 0b011 0b0000001 rd rs1 rs2 word (lit< tt) (lit< tt) (lit< tt) h.0 h.1 in
    at_muldiv word f.opcode_is f.funct7_is ∙ (rw (f.funct3_is, f.rd_is, f.rs1_is, f.rs2_is) refl)
insn_at-spelled (Div rd rs1 rs2) word h =
    let f = r_fields 0b0110011 0b100 0b0000001 rd rs1 rs2 word (lit< tt) (lit< tt) (lit< tt) h.0 h.1 in
    at_muldiv word f.opcode_is f.funct7_is ∙ (rw (f.funct3_is, f.rd_is, f.rs1_is, f.rs2_is) refl)
insn_at-spelled (Divu rd rs1 rs2) word h =
    let f = r_fields 0b0110011 0b101 0b0000001 rd rs1 rs2 word (lit< tt) (lit< tt) (lit< tt) h.0 h.1 in
    at_muldiv word f.opcode_is f.funct7_is ∙ (rw (f.funct3_is, f.rd_is, f.rs1_is, f.rs2_is) refl)
insn_at-spelled (Rem rd rs1 rs2) word h =
    let f = r_fields 0b0110011 0b110 0b0000001 rd rs1 rs2 word (lit< tt) (lit< tt) (lit< tt) h.0 h.1 in
    at_muldiv word f.opcode_is f.funct7_is ∙ (rw (f.funct3_is, f.rd_is, f.rs1_is, f.rs2_is) refl)
insn_at-spelled (Remu rd rs1 rs2) word h =
    let f = r_fields 0b0110011 0b111 0b0000001 rd rs1 rs2 word (lit< tt) (lit< tt) (lit< tt) h.0 h.1 in
    at_muldiv word f.opcode_is f.funct7_is ∙ (rw (f.funct3_is, f.rd_is, f.rs1_is, f.rs2_is) refl)
insn_at-spelled (Fence rd rs1 imm) word h =
    let f = i_fields 0b0001111 0b000 rd rs1 imm word (lit< tt) (lit< tt) h.0 h.1 in
    at_misc_mem word f.opcode_is ∙ (rw (f.funct3_is, f.rd_is, f.rs1_is, f.imm_is) refl)
insn_at-spelled (FenceI rd rs1 imm) word h =
    let f = i_fields 0b0001111 0b001 rd rs1 imm word (lit< tt) (lit< tt) h.0 h.1 in
    at_misc_mem word f.opcode_is ∙ (rw (f.funct3_is, f.rd_is, f.rs1_is, f.imm_is) refl)
insn_at-spelled Ecall word h = subst (λ w. insn_at w ≡ Some Ecall) h.1 refl
insn_at-spelled Ebreak word h = subst (λ w. insn_at w ≡ Some Ebreak) h.1 refl
