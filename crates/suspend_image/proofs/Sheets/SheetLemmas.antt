-- A word is written over bytes of a sheet.
use Rattle.std.proofs.Common.{◌≡◌, ◌+◌, ◌-◌, ◌≤◌, ℕ, List, [], ◌++◌, length, take, drop, ap, ◌∙◌, arith, length-drop}
use Rattle.std.proofs.lemmas.List.{drop_all, take_all, append-nil, drop-drop}
use borrow.Rule.Slice.PartMut.{put_mid}
use Rattle.byteorder.specs.Endian.{little_bytes}
use Rattle.suspend_image.specs.Sheets.{with_word}

-- a word written over the front of the rest of bytes
pub word_written : (bytes buf : List ℕ) (at k w : ℕ) → at + 4 ≤ length bytes → k ≡ length bytes - at
    → buf ≡ little_bytes 4 w ++ drop 4 (take k (drop at bytes)) → put_mid at k bytes buf ≡ with_word at w bytes
word_written bytes buf at k w within rest is =
    let n : length (drop at bytes) ≤ k = omega (arith, length-drop at bytes) in
    let none : drop k (drop at bytes) ≡ [] = drop_all k (drop at bytes) n in
    let all : take k (drop at bytes) ≡ drop at bytes = take_all k (drop at bytes) n in
    let tail : buf ≡ little_bytes 4 w ++ drop (at + 4) bytes =
    is ∙ ap (λ xs. little_bytes 4 w ++ drop 4 xs) all ∙ ap (λ xs. little_bytes 4 w ++ xs) (drop-drop 4 at bytes) in
    ap (λ xs. take at bytes ++ (buf ++ xs)) none ∙ ap (λ xs. take at bytes ++ xs) (append-nil buf ∙ tail)
