-- The length and the check number are set in front of the parts of a state.
use Rattle.std.proofs.Common.{◌≡◌, ℕ, ◌+◌, List, length, drop, ap, ◌∙◌, arith}
use Rattle.kernel_args.specs.CheckNumber.{check_number}
use Rattle.suspend_image.specs.Sheets.{with_word, begun}
use Rattle.suspend_image.specs.Spelling.{headed, with_header}

finished_of : (parts : List ℕ) → with_word 12 (check_number parts) (with_word 8 (length (begun parts)) (begun parts)) ≡ with_header parts
finished_of parts =
    let size : length (begun parts) ≡ 16 + length parts = omega arith in
    ap (λ (n : ℕ). headed n (check_number parts) parts) size

-- the two words are set
pub finished : (bytes : List ℕ) → bytes ≡ begun (drop 16 bytes)
    → with_word 12 (check_number (drop 16 bytes)) (with_word 8 (length bytes) bytes) ≡ with_header (drop 16 bytes)
finished bytes is = ap (λ (b : List ℕ). with_word 12 (check_number (drop 16 bytes)) (with_word 8 (length b) b)) is ∙ finished_of (drop 16 bytes)
