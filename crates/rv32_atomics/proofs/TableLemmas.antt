-- The opcode of the atomic instructions is no opcode of the base table.
use Rattle.std.proofs.Common.{◌≡◌, ℕ, ◌==◌, ◌&&◌, Bool, true, false, Some, None, refl, if◌then◌else◌}
use Rattle.std.proofs.lemmas.Bool.{and_parts, eqb-true}
use Rattle.rv32_words.specs.Reading.{opcode_of, funct3_of, rd_of, rs1_of, rs2_of, insn_at}
use Rattle.machine_model.specs.Hart.Atomics.{Atomic, atomic_at, atomic_of, funct5_of}

none_at : (word : ℕ) → opcode_of word ≡ 0b0101111 → insn_at word ≡ None
unfolding insn_at
none_at word o = rw o refl

pub apart : (word : ℕ) (atomic : Atomic) → atomic_at word ≡ Some atomic → insn_at word ≡ None
unfolding atomic_at
apart word atomic e = go (opcode_of word == 0b0101111 && funct3_of word == 0b010) refl e
  where
    go : (b : Bool) → (opcode_of word == 0b0101111 && funct3_of word == 0b010) ≡ b
        → (if b then atomic_of (funct5_of word) (rd_of word) (rs1_of word) (rs2_of word) else None) ≡ Some atomic → insn_at word ≡ None
    go false q h = absurd (cc)
    go true q h =
        let parts = and_parts (opcode_of word == 0b0101111) (funct3_of word == 0b010) q in
        none_at word (eqb-true _ _ parts.0)
