-- What the table read from a word gives spells the word, with its fields in their ranges.
use Rattle.std.proofs.Common.{◌≡◌, ℕ, ◌+◌, ◌*◌, ◌/◌, ◌%◌, ◌^◌, ◌<◌, refl, sym, ◌∙◌, subst, arith, Bool, true, false, Option, Some, None, IfSome, MatchOption, if◌then◌else◌, w32, pos, lit<}
use Rattle.std.proofs.lemmas.Int.{ints}
use Rattle.std.proofs.lemmas.Bool.{eqb-true}
use Rattle.std.proofs.lemmas.Option.{none-some}
use Rattle.rv32_words.proofs.OnlyLemmas.{insn_at-spelled}
use Rattle.std.specs.Int.{cast_unsigned}
use Rattle.xk_base.specs.Numbers.Fields.{field, word_of, sign_extended, FitsBits}
use Rattle.xk_base.proofs.FieldLemmas.{field_below, field_whole, word_of-drawn_like, sign_extended-fits, low-sign_extended}
use Rattle.rv32_words.specs.Formats.{RType, IType, SType, BType, UType, JType, drawing, FieldsFit}
use Rattle.rv32_words.specs.Table.{Spells}
use Rattle.rv32_words.specs.Reading.{opcode_of, rd_of, funct3_of, rs1_of, rs2_of, funct7_of, i_bits, s_bits, b_bits, u_bits, j_bits, insn_at, branch_at, load_at, store_at, shift_left_at, shift_right_at, op_imm_at, base_op_at, alternate_op_at, muldiv_at, op_at, misc_mem_at, jalr_at, system_at}
use Rattle.rv32_words.specs.declared.insn.Insn.{Insn}
use Rattle.rv32_words.specs.declared.insn.Insn.TheVariants.{Ecall, Ebreak}

-- ---- a word of each format is spelled by what stands in its fields

module _ (opcode funct3 funct7 word : ℕ) (fits : word < 2 ^ 32) (o : opcode_of word ≡ opcode) (f : funct3_of word ≡ funct3) (g : funct7_of word ≡ funct7) where
  r_spells :
      FieldsFit (RType opcode funct3 funct7 (rd_of word) (rs1_of word) (rs2_of word))
      × (word_of (drawing (RType opcode funct3 funct7 (rd_of word) (rs1_of word) (rs2_of word))) ≡ word)
  r_spells = (
    (field_below 7 5 word, field_below 15 5 word, field_below 20 5 word),
    rw (← o, ← f, ← g)
        (word_of-drawn_like (drawing (RType opcode funct3 funct7 0 0 0)) word ∙ field_whole 32 word fits),
  )

i_below : (word : ℕ) → i_bits word < 2 ^ 12
i_below word = omega (arith, field_below 20 12 word)

i_parts : (all c : ℕ) → c % 2 ^ 12 ≡ all * 1 + 0 → c / 2 ^ 0 % 2 ^ 12 ≡ all
i_parts all c e = omega arith

s_below : (word : ℕ) → s_bits word < 2 ^ 12
s_below word = omega (arith, field_below 25 7 word, field_below 7 5 word)

s_parts : (high low c : ℕ) → high < 2 ^ 7 → low < 2 ^ 5 → c % 2 ^ 12 ≡ high * 2 ^ 5 + (low * 1 + 0) →
    (c / 2 ^ 5 % 2 ^ 7 ≡ high) × (c / 2 ^ 0 % 2 ^ 5 ≡ low)
s_parts high low c p q e = (omega arith, omega arith)

b_below : (word : ℕ) → b_bits word < 2 ^ 13
b_below word = omega (arith, field_below 31 1 word, field_below 7 1 word, field_below 25 6 word, field_below 8 4 word)

record BParts (sign top high low c : ℕ) : Type 0 where
  even : c / 2 ^ 0 % 2 ^ 1 ≡ 0
  sign_is : c / 2 ^ 12 % 2 ^ 1 ≡ sign
  top_is : c / 2 ^ 11 % 2 ^ 1 ≡ top
  high_is : c / 2 ^ 5 % 2 ^ 6 ≡ high
  low_is : c / 2 ^ 1 % 2 ^ 4 ≡ low

b_parts : (sign top high low c : ℕ) → sign < 2 ^ 1 → top < 2 ^ 1 → high < 2 ^ 6 → low < 2 ^ 4 →
    c % 2 ^ 13 ≡ sign * 2 ^ 12 + (top * 2 ^ 11 + (high * 2 ^ 5 + (low * 2 ^ 1 + (0 * 1 + 0)))) → BParts sign top high low c
b_parts sign top high low c p q r s e =
    record { even = omega arith; sign_is = omega arith; top_is = omega arith; high_is = omega arith; low_is = omega arith }

j_below : (word : ℕ) → j_bits word < 2 ^ 21
j_below word = omega (arith, field_below 31 1 word, field_below 12 8 word, field_below 20 1 word, field_below 21 10 word)

record JParts (sign top middle low c : ℕ) : Type 0 where
  even : c / 2 ^ 0 % 2 ^ 1 ≡ 0
  sign_is : c / 2 ^ 20 % 2 ^ 1 ≡ sign
  top_is : c / 2 ^ 12 % 2 ^ 8 ≡ top
  middle_is : c / 2 ^ 11 % 2 ^ 1 ≡ middle
  low_is : c / 2 ^ 1 % 2 ^ 10 ≡ low

j_parts : (sign top middle low c : ℕ) → sign < 2 ^ 1 → top < 2 ^ 8 → middle < 2 ^ 1 → low < 2 ^ 10 →
    c % 2 ^ 21 ≡ sign * 2 ^ 20 + (top * 2 ^ 12 + (middle * 2 ^ 11 + (low * 2 ^ 1 + (0 * 1 + 0)))) → JParts sign top middle low c
j_parts sign top middle low c p q r s e =
    record { even = omega arith; sign_is = omega arith; top_is = omega arith; middle_is = omega arith; low_is = omega arith }

module _ (opcode funct3 word : ℕ) (fits : word < 2 ^ 32) (o : opcode_of word ≡ opcode) (f : funct3_of word ≡ funct3) where
  i_spells :
      FieldsFit (IType opcode funct3 (rd_of word) (rs1_of word) (sign_extended 12 (i_bits word)))
      × (word_of (drawing (IType opcode funct3 (rd_of word) (rs1_of word) (sign_extended 12 (i_bits word)))) ≡ word)
  i_spells =
      let c : ℕ = cast_unsigned w32 (sign_extended 12 (i_bits word)) in
      let all : c / 2 ^ 0 % 2 ^ 12 ≡ field 20 12 word =
      i_parts (field 20 12 word) c (low-sign_extended 11 20 refl (i_bits word) (i_below word)) in (
        (field_below 7 5 word, field_below 15 5 word, sign_extended-fits 11 (i_bits word) (i_below word)),
        rw (all, ← o, ← f)
            (word_of-drawn_like (drawing (IType opcode funct3 0 0 (pos 0))) word ∙ field_whole 32 word fits),
      )

  s_spells :
      FieldsFit (SType opcode funct3 (rs1_of word) (rs2_of word) (sign_extended 12 (s_bits word)))
      × (word_of (drawing (SType opcode funct3 (rs1_of word) (rs2_of word) (sign_extended 12 (s_bits word)))) ≡ word)
  s_spells =
      let c : ℕ = cast_unsigned w32 (sign_extended 12 (s_bits word)) in
      let parts : (c / 2 ^ 5 % 2 ^ 7 ≡ field 25 7 word) × (c / 2 ^ 0 % 2 ^ 5 ≡ field 7 5 word) =
      s_parts (field 25 7 word) (field 7 5 word) c (field_below 25 7 word) (field_below 7 5 word)
      (low-sign_extended 11 20 refl (s_bits word) (s_below word)) in (
        (field_below 15 5 word, field_below 20 5 word, sign_extended-fits 11 (s_bits word) (s_below word)),
        rw (parts.0, parts.1, ← o, ← f)
            (word_of-drawn_like (drawing (SType opcode funct3 0 0 (pos 0))) word ∙ field_whole 32 word fits),
      )

  b_spells :
      FieldsFit (BType opcode funct3 (rs1_of word) (rs2_of word) (sign_extended 13 (b_bits word)))
      × (word_of (drawing (BType opcode funct3 (rs1_of word) (rs2_of word) (sign_extended 13 (b_bits word)))) ≡ word)
  b_spells =
      let c : ℕ = cast_unsigned w32 (sign_extended 13 (b_bits word)) in
      let parts : BParts (field 31 1 word) (field 7 1 word) (field 25 6 word) (field 8 4 word) c =
      b_parts (field 31 1 word) (field 7 1 word) (field 25 6 word) (field 8 4 word) c
      (field_below 31 1 word) (field_below 7 1 word) (field_below 25 6 word) (field_below 8 4 word)
      (low-sign_extended 12 19 refl (b_bits word) (b_below word)) in (
        (field_below 15 5 word, field_below 20 5 word, sign_extended-fits 12 (b_bits word) (b_below word), parts.even),
        rw (parts.sign_is, parts.high_is, parts.low_is, parts.top_is, ← o, ← f)
            (word_of-drawn_like (drawing (BType opcode funct3 0 0 (pos 0))) word ∙ field_whole 32 word fits),
      )

u_parts : (high : ℕ) → high < 2 ^ 20 →
    (high * 2 ^ 12 + (0 * 1 + 0) < 2 ^ 32) × ((high * 2 ^ 12 + (0 * 1 + 0)) / 2 ^ 0 % 2 ^ 12 ≡ 0)
    × ((high * 2 ^ 12 + (0 * 1 + 0)) / 2 ^ 12 % 2 ^ 20 ≡ high)
u_parts high h = (omega arith, omega arith, omega arith)

module _ (opcode word : ℕ) (fits : word < 2 ^ 32) (o : opcode_of word ≡ opcode) where
  u_spells :
      FieldsFit (UType opcode (rd_of word) (u_bits word))
      × (word_of (drawing (UType opcode (rd_of word) (u_bits word))) ≡ word)
  u_spells =
      let parts = u_parts (field 12 20 word) (field_below 12 20 word) in (
        (field_below 7 5 word, parts.0, parts.1),
        rw (parts.2, ← o)
            (word_of-drawn_like (drawing (UType opcode 0 0)) word ∙ field_whole 32 word fits),
      )

  j_spells :
      FieldsFit (JType opcode (rd_of word) (sign_extended 21 (j_bits word)))
      × (word_of (drawing (JType opcode (rd_of word) (sign_extended 21 (j_bits word)))) ≡ word)
  j_spells =
      let c : ℕ = cast_unsigned w32 (sign_extended 21 (j_bits word)) in
      let parts : JParts (field 31 1 word) (field 12 8 word) (field 20 1 word) (field 21 10 word) c =
      j_parts (field 31 1 word) (field 12 8 word) (field 20 1 word) (field 21 10 word) c
      (field_below 31 1 word) (field_below 12 8 word) (field_below 20 1 word) (field_below 21 10 word)
      (low-sign_extended 20 11 refl (j_bits word) (j_below word)) in (
        (field_below 7 5 word, sign_extended-fits 20 (j_bits word) (j_below word), parts.even),
        rw (parts.sign_is, parts.low_is, parts.middle_is, parts.top_is, ← o)
            (word_of-drawn_like (drawing (JType opcode 0 (pos 0))) word ∙ field_whole 32 word fits),
      )

-- ---- the table, by its tests

zero_fits : FitsBits 12 (pos 0)
zero_fits = omega (arith, ints)

one_fits : FitsBits 12 (pos 1)
one_fits = omega (arith, ints)

ecall_spells : (word : ℕ) → word ≡ 0x0000_0073 → Spells Ecall word
ecall_spells word e = ((lit< tt, lit< tt, zero_fits), sym e)

ebreak_spells : (word : ℕ) → word ≡ 0x0010_0073 → Spells Ebreak word
ebreak_spells word e = ((lit< tt, lit< tt, one_fits), sym e)

record Finds (o : Option Insn) (word : ℕ) : Type 0 where
  spelled : IfSome o (λ i. Spells i word)

finds_if : {b : Bool} {yes no : Option Insn} {word : ℕ} → (b ≡ true → Finds yes word) → Finds no word →
    Finds (if b then yes else no) word
finds_if {b = true} p q = p refl
finds_if {b = false} p q = q

finds_none : {word : ℕ} → Finds None word
finds_none = record { spelled = tt }

module _ (word : ℕ) (fits : word < 2 ^ 32) where
  branch_finds : opcode_of word ≡ 0b1100011 → Finds (branch_at word) word
  branch_finds o =
      finds_if (λ e. record { spelled = b_spells 0b1100011 0b000 word fits o (eqb-true _ _ e) })
      (finds_if (λ e. record { spelled = b_spells 0b1100011 0b001 word fits o (eqb-true _ _ e) })
      (finds_if (λ e. record { spelled = b_spells 0b1100011 0b100 word fits o (eqb-true _ _ e) })
      (finds_if (λ e. record { spelled = b_spells 0b1100011 0b101 word fits o (eqb-true _ _ e) })
      (finds_if (λ e. record { spelled = b_spells 0b1100011 0b110 word fits o (eqb-true _ _ e) })
      (finds_if (λ e. record { spelled = b_spells 0b1100011 0b111 word fits o (eqb-true _ _ e) })
      finds_none)))))

  load_finds : opcode_of word ≡ 0b0000011 → Finds (load_at word) word
  load_finds o =
      finds_if (λ e. record { spelled = i_spells 0b0000011 0b000 word fits o (eqb-true _ _ e) })
      (finds_if (λ e. record { spelled = i_spells 0b0000011 0b001 word fits o (eqb-true _ _ e) })
      (finds_if (λ e. record { spelled = i_spells 0b0000011 0b010 word fits o (eqb-true _ _ e) })
      (finds_if (λ e. record { spelled = i_spells 0b0000011 0b100 word fits o (eqb-true _ _ e) })
      (finds_if (λ e. record { spelled = i_spells 0b0000011 0b101 word fits o (eqb-true _ _ e) })
      finds_none))))

  store_finds : opcode_of word ≡ 0b0100011 → Finds (store_at word) word
  store_finds o =
      finds_if (λ e. record { spelled = s_spells 0b0100011 0b000 word fits o (eqb-true _ _ e) })
      (finds_if (λ e. record { spelled = s_spells 0b0100011 0b001 word fits o (eqb-true _ _ e) })
      (finds_if (λ e. record { spelled = s_spells 0b0100011 0b010 word fits o (eqb-true _ _ e) })
      finds_none))

  shift_left_finds : opcode_of word ≡ 0b0010011 → funct3_of word ≡ 0b001 → Finds (shift_left_at word) word
  shift_left_finds o f =
      finds_if (λ e. record { spelled = r_spells 0b0010011 0b001 0b0000000 word fits o f (eqb-true _ _ e) })
      finds_none

  shift_right_finds : opcode_of word ≡ 0b0010011 → funct3_of word ≡ 0b101 → Finds (shift_right_at word) word
  shift_right_finds o f =
      finds_if (λ e. record { spelled = r_spells 0b0010011 0b101 0b0000000 word fits o f (eqb-true _ _ e) })
      (finds_if (λ e. record { spelled = r_spells 0b0010011 0b101 0b0100000 word fits o f (eqb-true _ _ e) })
      finds_none)

  op_imm_finds : opcode_of word ≡ 0b0010011 → Finds (op_imm_at word) word
  op_imm_finds o =
      finds_if (λ e. record { spelled = i_spells 0b0010011 0b000 word fits o (eqb-true _ _ e) })
      (finds_if (λ e. shift_left_finds o (eqb-true _ _ e))
      (finds_if (λ e. record { spelled = i_spells 0b0010011 0b010 word fits o (eqb-true _ _ e) })
      (finds_if (λ e. record { spelled = i_spells 0b0010011 0b011 word fits o (eqb-true _ _ e) })
      (finds_if (λ e. record { spelled = i_spells 0b0010011 0b100 word fits o (eqb-true _ _ e) })
      (finds_if (λ e. shift_right_finds o (eqb-true _ _ e))
      (finds_if (λ e. record { spelled = i_spells 0b0010011 0b110 word fits o (eqb-true _ _ e) })
      (finds_if (λ e. record { spelled = i_spells 0b0010011 0b111 word fits o (eqb-true _ _ e) })
      finds_none)))))))

  base_op_finds : opcode_of word ≡ 0b0110011 → funct7_of word ≡ 0b0000000 → Finds (base_op_at word) word
  base_op_finds o g =
      finds_if (λ e. record { spelled = r_spells 0b0110011 0b000 0b0000000 word fits o (eqb-true _ _ e) g })
      (finds_if (λ e. record { spelled = r_spells 0b0110011 0b001 0b0000000 word fits o (eqb-true _ _ e) g })
      (finds_if (λ e. record { spelled = r_spells 0b0110011 0b010 0b0000000 word fits o (eqb-true _ _ e) g })
      (finds_if (λ e. record { spelled = r_spells 0b0110011 0b011 0b0000000 word fits o (eqb-true _ _ e) g })
      (finds_if (λ e. record { spelled = r_spells 0b0110011 0b100 0b0000000 word fits o (eqb-true _ _ e) g })
      (finds_if (λ e. record { spelled = r_spells 0b0110011 0b101 0b0000000 word fits o (eqb-true _ _ e) g })
      (finds_if (λ e. record { spelled = r_spells 0b0110011 0b110 0b0000000 word fits o (eqb-true _ _ e) g })
      (finds_if (λ e. record { spelled = r_spells 0b0110011 0b111 0b0000000 word fits o (eqb-true _ _ e) g })
      finds_none)))))))

  alternate_op_finds : opcode_of word ≡ 0b0110011 → funct7_of word ≡ 0b0100000 → Finds (alternate_op_at word) word
  alternate_op_finds o g =
      finds_if (λ e. record { spelled = r_spells 0b0110011 0b000 0b0100000 word fits o (eqb-true _ _ e) g })
      (finds_if (λ e. record { spelled = r_spells 0b0110011 0b101 0b0100000 word fits o (eqb-true _ _ e) g })
      finds_none)

  muldiv_finds : opcode_of word ≡ 0b0110011 → funct7_of word ≡ 0b0000001 → Finds (muldiv_at word) word
  muldiv_finds o g =
      finds_if (λ e. record { spelled = r_spells 0b0110011 0b000 0b0000001 word fits o (eqb-true _ _ e) g })
      (finds_if (λ e. record { spelled = r_spells 0b0110011 0b001 0b0000001 word fits o (eqb-true _ _ e) g })
      (finds_if (λ e. record { spelled = r_spells 0b0110011 0b010 0b0000001 word fits o (eqb-true _ _ e) g })
      (finds_if (λ e. record { spelled = r_spells 0b0110011 0b011 0b0000001 word fits o (eqb-true _ _ e) g })
      (finds_if (λ e. record { spelled = r_spells 0b0110011 0b100 0b0000001 word fits o (eqb-true _ _ e) g })
      (finds_if (λ e. record { spelled = r_spells 0b0110011 0b101 0b0000001 word fits o (eqb-true _ _ e) g })
      (finds_if (λ e. record { spelled = r_spells 0b0110011 0b110 0b0000001 word fits o (eqb-true _ _ e) g })
      (finds_if (λ e. record { spelled = r_spells 0b0110011 0b111 0b0000001 word fits o (eqb-true _ _ e) g })
      finds_none)))))))

  op_finds : opcode_of word ≡ 0b0110011 → Finds (op_at word) word
  op_finds o =
      finds_if (λ e. base_op_finds o (eqb-true _ _ e))
      (finds_if (λ e. alternate_op_finds o (eqb-true _ _ e))
      (finds_if (λ e. muldiv_finds o (eqb-true _ _ e))
      finds_none))

  misc_mem_finds : opcode_of word ≡ 0b0001111 → Finds (misc_mem_at word) word
  misc_mem_finds o =
      finds_if (λ e. record { spelled = i_spells 0b0001111 0b000 word fits o (eqb-true _ _ e) })
      (finds_if (λ e. record { spelled = i_spells 0b0001111 0b001 word fits o (eqb-true _ _ e) })
      finds_none)

  jalr_finds : opcode_of word ≡ 0b1100111 → Finds (jalr_at word) word
  jalr_finds o =
      finds_if (λ e. record { spelled = i_spells 0b1100111 0b000 word fits o (eqb-true _ _ e) })
      finds_none

  system_finds : Finds (system_at word) word
  system_finds =
      finds_if (λ e. record { spelled = ecall_spells word (eqb-true _ _ e) })
      (finds_if (λ e. record { spelled = ebreak_spells word (eqb-true _ _ e) })
      finds_none)

  insn_finds : Finds (insn_at word) word
  unfolding insn_at
  insn_finds =
      finds_if (λ e. record { spelled = u_spells 0b0110111 word fits (eqb-true _ _ e) })
      (finds_if (λ e. record { spelled = u_spells 0b0010111 word fits (eqb-true _ _ e) })
      (finds_if (λ e. record { spelled = j_spells 0b1101111 word fits (eqb-true _ _ e) })
      (finds_if (λ e. jalr_finds (eqb-true _ _ e))
      (finds_if (λ e. branch_finds (eqb-true _ _ e))
      (finds_if (λ e. load_finds (eqb-true _ _ e))
      (finds_if (λ e. store_finds (eqb-true _ _ e))
      (finds_if (λ e. op_imm_finds (eqb-true _ _ e))
      (finds_if (λ e. op_finds (eqb-true _ _ e))
      (finds_if (λ e. misc_mem_finds (eqb-true _ _ e))
      (finds_if (λ e. system_finds)
      finds_none))))))))))

  pub insn_at-found : IfSome (insn_at word) (λ i. Spells i word)
  insn_at-found = insn_finds.spelled

-- what is found spells the word, and where nothing is found no instruction does
pub found_or_none : (r : Option Insn) (word : ℕ) → word < 2 ^ 32 → r ≡ insn_at word →
    MatchOption r ((i : Insn) → ¬ Spells i word) (λ i. Spells i word)
found_or_none None word fits is = λ i h. none-some i (is ∙ insn_at-spelled i word h)
found_or_none (Some i) word fits is = subst (λ r. IfSome r (λ j. Spells j word)) (sym is) (insn_at-found word fits)
