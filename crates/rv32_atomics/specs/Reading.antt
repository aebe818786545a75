-- The table read by a word's fields. It says no more than the table of `Table`: the contract of `decode_atomic` has that it finds
-- an instruction that spells the word, and the only one.
use Rattle.std.specs.Prelude.{ℕ, ◌&&◌, ◌==◌, if◌then◌else◌, Option, Some, None}
use Rattle.xk_base.specs.Numbers.Fields.{field}
use Rattle.rv32_words.specs.Reading.{opcode_of, funct3_of, rd_of, rs1_of, rs2_of}
use Rattle.machine_model.specs.Hart.Atomics.{funct5_of}
use Rattle.rv32_atomics.specs.declared.atomic.Atomic.{Atomic}
use Rattle.rv32_atomics.specs.declared.atomic.Atomic.TheVariants.{Lr, Sc, AmoSwap, AmoAdd, AmoXor, AmoAnd, AmoOr, AmoMin, AmoMax, AmoMinu}
use Rattle.rv32_atomics.specs.declared.atomic.Atomic.TheVariants.{AmoMaxu}
use Rattle.rv32_atomics.specs.declared.fields.Fields.{Fields}

-- what stands in the fields of a word
abbrev pub fields_at : ℕ → Fields
fields_at word = record {
  funct5 = funct5_of word;
  aq = field 26 1 word == 1;
  rl = field 25 1 word == 1;
  rs2 = rs2_of word;
  rs1 = rs1_of word;
  rd = rd_of word;
}

-- the instruction of these fields
abbrev pub variant : Fields → Option Atomic
variant f =
    if f.funct5 == 0b00010 then (if f.rs2 == 0 then Some (Lr f.rd f.rs1 f.aq f.rl) else None) else (
    if f.funct5 == 0b00011 then Some (Sc f.rd f.rs1 f.rs2 f.aq f.rl) else (
    if f.funct5 == 0b00001 then Some (AmoSwap f.rd f.rs1 f.rs2 f.aq f.rl) else (
    if f.funct5 == 0b00000 then Some (AmoAdd f.rd f.rs1 f.rs2 f.aq f.rl) else (
    if f.funct5 == 0b00100 then Some (AmoXor f.rd f.rs1 f.rs2 f.aq f.rl) else (
    if f.funct5 == 0b01100 then Some (AmoAnd f.rd f.rs1 f.rs2 f.aq f.rl) else (
    if f.funct5 == 0b01000 then Some (AmoOr f.rd f.rs1 f.rs2 f.aq f.rl) else (
    if f.funct5 == 0b10000 then Some (AmoMin f.rd f.rs1 f.rs2 f.aq f.rl) else (
    if f.funct5 == 0b10100 then Some (AmoMax f.rd f.rs1 f.rs2 f.aq f.rl) else (
    if f.funct5 == 0b11000 then Some (AmoMinu f.rd f.rs1 f.rs2 f.aq f.rl) else (
    if f.funct5 == 0b11100 then Some (AmoMaxu f.rd f.rs1 f.rs2 f.aq f.rl) else None))))))))))

-- the instruction that the word spells, if one does
unfoldable pub reading : ℕ → Option Atomic
reading word =
    if opcode_of word == 0b0101111 && funct3_of word == 0b010 then variant (fields_at word) else None
