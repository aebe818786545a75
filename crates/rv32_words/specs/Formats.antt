-- The instruction formats of RV32, drawn as in the RISC-V Unprivileged ISA, chapter "RV32I Base Integer
-- Instruction Set", 2.2 "Base Instruction Formats" and 2.3 "Immediate Encoding Variants": each part with its
-- width, from bit 31 down to bit 0.
use Rattle.std.specs.Prelude.{◌≡◌, ℕ, ◌<◌, ◌^◌, [], ◌∷◌, ℤ}
use Rattle.std.specs.Int.{w32, cast_unsigned}
use Rattle.xk_base.specs.Numbers.Fields.{bits_of, Drawing, FitsBits}

-- imm[high:low], of an immediate in two's complement
abbrev pub imm_bits : ℤ → ℕ → ℕ → ℕ
imm_bits imm high low = bits_of (cast_unsigned w32 imm) high low

-- A format with what stands in its fields. ShiftType is the I-type of the shifts by a constant, whose
-- immediate is a function code above the shift amount (2.4).
pub data Layout : Type 0 where
  RType : (opcode funct3 funct7 rd rs1 rs2 : ℕ) → Layout
  IType : (opcode funct3 rd rs1 : ℕ) (imm : ℤ) → Layout
  ShiftType : (opcode funct3 funct7 rd rs1 shamt : ℕ) → Layout
  SType : (opcode funct3 rs1 rs2 : ℕ) (imm : ℤ) → Layout
  BType : (opcode funct3 rs1 rs2 : ℕ) (imm : ℤ) → Layout
  UType : (opcode rd imm : ℕ) → Layout
  JType : (opcode rd : ℕ) (imm : ℤ) → Layout

-- the parts of the word, from bit 31 down to bit 0
abbrev pub drawing : Layout → Drawing
drawing (RType opcode funct3 funct7 rd rs1 rs2) =
    (7, funct7) ∷ (5, rs2) ∷ (5, rs1) ∷ (3, funct3) ∷ (5, rd) ∷ (7, opcode) ∷ []
drawing (IType opcode funct3 rd rs1 imm) =
    (12, imm_bits imm 11 0) ∷ (5, rs1) ∷ (3, funct3) ∷ (5, rd) ∷ (7, opcode) ∷ []
drawing (ShiftType opcode funct3 funct7 rd rs1 shamt) =
    (7, funct7) ∷ (5, shamt) ∷ (5, rs1) ∷ (3, funct3) ∷ (5, rd) ∷ (7, opcode) ∷ []
drawing (SType opcode funct3 rs1 rs2 imm) =
    (7, imm_bits imm 11 5) ∷ (5, rs2) ∷ (5, rs1) ∷ (3, funct3) ∷ (5, imm_bits imm 4 0) ∷ (7, opcode) ∷ []
drawing (BType opcode funct3 rs1 rs2 imm) =
    (1, imm_bits imm 12 12) ∷ (6, imm_bits imm 10 5) ∷ (5, rs2) ∷ (5, rs1) ∷ (3, funct3)
    ∷ (4, imm_bits imm 4 1) ∷ (1, imm_bits imm 11 11) ∷ (7, opcode) ∷ []
drawing (UType opcode rd imm) =
    (20, bits_of imm 31 12) ∷ (5, rd) ∷ (7, opcode) ∷ []
drawing (JType opcode rd imm) =
    (1, imm_bits imm 20 20) ∷ (10, imm_bits imm 10 1) ∷ (1, imm_bits imm 11 11) ∷ (8, imm_bits imm 19 12)
    ∷ (5, rd) ∷ (7, opcode) ∷ []

-- a number of a register, x0 to x31
abbrev pub IsRegister : ℕ → Type 0
IsRegister r = r < 32

-- The ranges of the fields that an instruction has besides its opcode and function codes. An immediate of
-- which a format drops the low bits has 0 there.
abbrev pub FieldsFit : Layout → Type 0
FieldsFit (RType opcode funct3 funct7 rd rs1 rs2) = IsRegister rd × IsRegister rs1 × IsRegister rs2
FieldsFit (IType opcode funct3 rd rs1 imm) = IsRegister rd × IsRegister rs1 × FitsBits 12 imm
FieldsFit (ShiftType opcode funct3 funct7 rd rs1 shamt) = IsRegister rd × IsRegister rs1 × (shamt < 32)
FieldsFit (SType opcode funct3 rs1 rs2 imm) = IsRegister rs1 × IsRegister rs2 × FitsBits 12 imm
FieldsFit (BType opcode funct3 rs1 rs2 imm) =
    IsRegister rs1 × IsRegister rs2 × FitsBits 13 imm × (imm_bits imm 0 0 ≡ 0)
FieldsFit (UType opcode rd imm) = IsRegister rd × (imm < 2 ^ 32) × (bits_of imm 11 0 ≡ 0)
FieldsFit (JType opcode rd imm) = IsRegister rd × FitsBits 21 imm × (imm_bits imm 0 0 ≡ 0)
