-- What stands in the fields of a word of each format, and which immediate they make.
use Rattle.std.proofs.Common.{◌≡◌, ℕ, ◌+◌, ◌*◌, ◌/◌, ◌%◌, ◌^◌, ◌<◌, refl, sym, ◌∙◌, ap, arith, ℤ, get_or, w32}
use Rattle.std.specs.Int.{cast_unsigned}
use Rattle.xk_base.specs.Numbers.Fields.{field, bits_of, Drawing, word_of, IsDrawn, drawn_like, sign_extended}
use Rattle.xk_base.proofs.FieldLemmas.{field_below, drawn_like-word_of, sign_extended-low}
use Rattle.rv32_words.specs.Formats.{imm_bits, RType, IType, SType, BType, UType, JType, drawing, FieldsFit}
use Rattle.rv32_words.specs.Reading.{opcode_of, rd_of, funct3_of, rs1_of, rs2_of, funct7_of, i_bits, s_bits, b_bits, u_bits, j_bits}

-- the number in part k of a drawing, counted from bit 31 down
part : ℕ → Drawing → ℕ
part k d = (get_or d k (0, 0)).1

-- what a word has in the part where a drawing of it has it
read_part : (k : ℕ) (d : Drawing) (word : ℕ) → IsDrawn d → word_of d ≡ word → part k (drawn_like d word) ≡ part k d
read_part k d word h e = ap (part k) (ap (drawn_like d) (sym e) ∙ drawn_like-word_of d h)

pub record RFields (opcode funct3 funct7 rd rs1 rs2 word : ℕ) : Type 0 where
  pub opcode_is : opcode_of word ≡ opcode
  pub funct3_is : funct3_of word ≡ funct3
  pub funct7_is : funct7_of word ≡ funct7
  pub rd_is : rd_of word ≡ rd
  pub rs1_is : rs1_of word ≡ rs1
  pub rs2_is : rs2_of word ≡ rs2

pub r_fields : (opcode funct3 funct7 rd rs1 rs2 word : ℕ) → opcode < 2 ^ 7 → funct3 < 2 ^ 3 → funct7 < 2 ^ 7 →
    FieldsFit (RType opcode funct3 funct7 rd rs1 rs2) →
    word_of (drawing (RType opcode funct3 funct7 rd rs1 rs2)) ≡ word → RFields opcode funct3 funct7 rd rs1 rs2 word
unfolding part
r_fields opcode funct3 funct7 rd rs1 rs2 word o f3 f7 h e =
    let d : Drawing = drawing (RType opcode funct3 funct7 rd rs1 rs2) in
    let drawn : IsDrawn d = (f7, (h.2, (h.1, (f3, (h.0, (o, tt)))))) in
    record {
      opcode_is = read_part 5 d word drawn e;
      funct3_is = read_part 3 d word drawn e;
      funct7_is = read_part 0 d word drawn e;
      rd_is = read_part 4 d word drawn e;
      rs1_is = read_part 2 d word drawn e;
      rs2_is = read_part 1 d word drawn e;
    }

pub record IFields (opcode funct3 rd rs1 : ℕ) (imm : ℤ) (word : ℕ) : Type 0 where
  pub opcode_is : opcode_of word ≡ opcode
  pub funct3_is : funct3_of word ≡ funct3
  pub rd_is : rd_of word ≡ rd
  pub rs1_is : rs1_of word ≡ rs1
  pub imm_is : sign_extended 12 (i_bits word) ≡ imm

i_low : (all c : ℕ) → all ≡ c / 2 ^ 0 % 2 ^ 12 → all * 1 + 0 ≡ c % 2 ^ 12
i_low all c e = omega arith

pub i_fields : (opcode funct3 rd rs1 : ℕ) (imm : ℤ) (word : ℕ) → opcode < 2 ^ 7 → funct3 < 2 ^ 3 →
    FieldsFit (IType opcode funct3 rd rs1 imm) →
    word_of (drawing (IType opcode funct3 rd rs1 imm)) ≡ word → IFields opcode funct3 rd rs1 imm word
unfolding part
i_fields opcode funct3 rd rs1 imm word o f3 h e =
    let d : Drawing = drawing (IType opcode funct3 rd rs1 imm) in
    let c : ℕ = cast_unsigned w32 imm in
    let drawn : IsDrawn d = (field_below 0 12 c, (h.1, (f3, (h.0, (o, tt))))) in
    let all : field 20 12 word ≡ imm_bits imm 11 0 = read_part 0 d word drawn e in
    record {
      opcode_is = read_part 4 d word drawn e;
      funct3_is = read_part 2 d word drawn e;
      rd_is = read_part 3 d word drawn e;
      rs1_is = read_part 1 d word drawn e;
      imm_is = ap (sign_extended 12) (i_low (field 20 12 word) c all) ∙ sign_extended-low 11 20 refl imm h.2;
    }

pub record SFields (opcode funct3 rs1 rs2 : ℕ) (imm : ℤ) (word : ℕ) : Type 0 where
  pub opcode_is : opcode_of word ≡ opcode
  pub funct3_is : funct3_of word ≡ funct3
  pub rs1_is : rs1_of word ≡ rs1
  pub rs2_is : rs2_of word ≡ rs2
  pub imm_is : sign_extended 12 (s_bits word) ≡ imm

s_low : (high low c : ℕ) → high ≡ c / 2 ^ 5 % 2 ^ 7 → low ≡ c / 2 ^ 0 % 2 ^ 5 → high * 2 ^ 5 + (low * 1 + 0) ≡ c % 2 ^ 12
s_low high low c p q = omega arith

pub s_fields : (opcode funct3 rs1 rs2 : ℕ) (imm : ℤ) (word : ℕ) → opcode < 2 ^ 7 → funct3 < 2 ^ 3 →
    FieldsFit (SType opcode funct3 rs1 rs2 imm) →
    word_of (drawing (SType opcode funct3 rs1 rs2 imm)) ≡ word → SFields opcode funct3 rs1 rs2 imm word
unfolding part
s_fields opcode funct3 rs1 rs2 imm word o f3 h e =
    let d : Drawing = drawing (SType opcode funct3 rs1 rs2 imm) in
    let c : ℕ = cast_unsigned w32 imm in
    let drawn : IsDrawn d = (field_below 5 7 c, (h.1, (h.0, (f3, (field_below 0 5 c, (o, tt)))))) in
    let high : field 25 7 word ≡ imm_bits imm 11 5 = read_part 0 d word drawn e in
    let low : field 7 5 word ≡ imm_bits imm 4 0 = read_part 4 d word drawn e in
    record {
      opcode_is = read_part 5 d word drawn e;
      funct3_is = read_part 3 d word drawn e;
      rs1_is = read_part 2 d word drawn e;
      rs2_is = read_part 1 d word drawn e;
      imm_is =
          ap (sign_extended 12) (s_low (field 25 7 word) (field 7 5 word) c high low)
          ∙ sign_extended-low 11 20 refl imm h.2;
    }

pub record BFields (opcode funct3 rs1 rs2 : ℕ) (imm : ℤ) (word : ℕ) : Type 0 where
  pub opcode_is : opcode_of word ≡ opcode
  pub funct3_is : funct3_of word ≡ funct3
  pub rs1_is : rs1_of word ≡ rs1
  pub rs2_is : rs2_of word ≡ rs2
  pub imm_is : sign_extended 13 (b_bits word) ≡ imm

b_low : (sign top high low c : ℕ) → sign ≡ c / 2 ^ 12 % 2 ^ 1 → top ≡ c / 2 ^ 11 % 2 ^ 1 → high ≡ c / 2 ^ 5 % 2 ^ 6 →
    low ≡ c / 2 ^ 1 % 2 ^ 4 → c / 2 ^ 0 % 2 ^ 1 ≡ 0 →
    sign * 2 ^ 12 + (top * 2 ^ 11 + (high * 2 ^ 5 + (low * 2 ^ 1 + (0 * 1 + 0)))) ≡ c % 2 ^ 13
b_low sign top high low c p q r s even = omega arith

pub b_fields : (opcode funct3 rs1 rs2 : ℕ) (imm : ℤ) (word : ℕ) → opcode < 2 ^ 7 → funct3 < 2 ^ 3 →
    FieldsFit (BType opcode funct3 rs1 rs2 imm) →
    word_of (drawing (BType opcode funct3 rs1 rs2 imm)) ≡ word → BFields opcode funct3 rs1 rs2 imm word
unfolding part
b_fields opcode funct3 rs1 rs2 imm word o f3 h e =
    let d : Drawing = drawing (BType opcode funct3 rs1 rs2 imm) in
    let c : ℕ = cast_unsigned w32 imm in
    let drawn : IsDrawn d =
    (field_below 12 1 c, (field_below 5 6 c, (h.1, (h.0, (f3, (field_below 1 4 c, (field_below 11 1 c, (o, tt)))))))) in
    let sign : field 31 1 word ≡ imm_bits imm 12 12 = read_part 0 d word drawn e in
    let high : field 25 6 word ≡ imm_bits imm 10 5 = read_part 1 d word drawn e in
    let low : field 8 4 word ≡ imm_bits imm 4 1 = read_part 5 d word drawn e in
    let top : field 7 1 word ≡ imm_bits imm 11 11 = read_part 6 d word drawn e in
    record {
      opcode_is = read_part 7 d word drawn e;
      funct3_is = read_part 4 d word drawn e;
      rs1_is = read_part 3 d word drawn e;
      rs2_is = read_part 2 d word drawn e;
      imm_is =
          ap (sign_extended 13) (b_low (field 31 1 word) (field 7 1 word) (field 25 6 word) (field 8 4 word) c sign top high low h.3)
          ∙ sign_extended-low 12 19 refl imm h.2;
    }

pub record UFields (opcode rd imm word : ℕ) : Type 0 where
  pub opcode_is : opcode_of word ≡ opcode
  pub rd_is : rd_of word ≡ rd
  pub imm_is : u_bits word ≡ imm

u_low : (high imm : ℕ) → high ≡ imm / 2 ^ 12 % 2 ^ 20 → imm < 2 ^ 32 → imm / 2 ^ 0 % 2 ^ 12 ≡ 0 → high * 2 ^ 12 + (0 * 1 + 0) ≡ imm
u_low high imm p below low = omega arith

pub u_fields : (opcode rd imm word : ℕ) → opcode < 2 ^ 7 → FieldsFit (UType opcode rd imm) →
    word_of (drawing (UType opcode rd imm)) ≡ word → UFields opcode rd imm word
unfolding part
u_fields opcode rd imm word o h e =
    let d : Drawing = drawing (UType opcode rd imm) in
    let drawn : IsDrawn d = (field_below 12 20 imm, (h.0, (o, tt))) in
    let high : field 12 20 word ≡ bits_of imm 31 12 = read_part 0 d word drawn e in
    record {
      opcode_is = read_part 2 d word drawn e;
      rd_is = read_part 1 d word drawn e;
      imm_is = u_low (field 12 20 word) imm high h.1 h.2;
    }

pub record JFields (opcode rd : ℕ) (imm : ℤ) (word : ℕ) : Type 0 where
  pub opcode_is : opcode_of word ≡ opcode
  pub rd_is : rd_of word ≡ rd
  pub imm_is : sign_extended 21 (j_bits word) ≡ imm

j_low : (sign top middle low c : ℕ) → sign ≡ c / 2 ^ 20 % 2 ^ 1 → top ≡ c / 2 ^ 12 % 2 ^ 8 → middle ≡ c / 2 ^ 11 % 2 ^ 1 →
    low ≡ c / 2 ^ 1 % 2 ^ 10 → c / 2 ^ 0 % 2 ^ 1 ≡ 0 →
    sign * 2 ^ 20 + (top * 2 ^ 12 + (middle * 2 ^ 11 + (low * 2 ^ 1 + (0 * 1 + 0)))) ≡ c % 2 ^ 21
j_low sign top middle low c p q r s even = omega arith

pub j_fields : (opcode rd : ℕ) (imm : ℤ) (word : ℕ) → opcode < 2 ^ 7 → FieldsFit (JType opcode rd imm) →
    word_of (drawing (JType opcode rd imm)) ≡ word → JFields opcode rd imm word
unfolding part
j_fields opcode rd imm word o h e =
    let d : Drawing = drawing (JType opcode rd imm) in
    let c : ℕ = cast_unsigned w32 imm in
    let drawn : IsDrawn d =
    (field_below 20 1 c, (field_below 1 10 c, (field_below 11 1 c, (field_below 12 8 c, (h.0, (o, tt)))))) in
    let sign : field 31 1 word ≡ imm_bits imm 20 20 = read_part 0 d word drawn e in
    let low : field 21 10 word ≡ imm_bits imm 10 1 = read_part 1 d word drawn e in
    let middle : field 20 1 word ≡ imm_bits imm 11 11 = read_part 2 d word drawn e in
    let top : field 12 8 word ≡ imm_bits imm 19 12 = read_part 3 d word drawn e in
    record {
      opcode_is = read_part 5 d word drawn e;
      rd_is = read_part 4 d word drawn e;
      imm_is =
          ap (sign_extended 21) (j_low (field 31 1 word) (field 12 8 word) (field 20 1 word) (field 21 10 word) c sign top middle low h.2)
          ∙ sign_extended-low 20 11 refl imm h.1;
    }
