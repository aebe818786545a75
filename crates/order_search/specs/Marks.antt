-- Bytes of which most are zeros, told by marks.
use Rattle.std.specs.Prelude.{◌*◌, ◌/◌, ◌==◌, ◌++◌, ℕ, Bool, List, [], ◌∷◌, length, drop, if◌then◌else◌}
use Rattle.std.specs.List.{flat_map, list_all}
use Rattle.std.specs.Simd.{first_chunks}

-- how many bytes a block has
abbrev pub block_size : ℕ
block_size = 64

abbrev pub is_zeros : List ℕ → Bool
is_zeros block = list_all (λ byte. byte == 0) block

-- a block of zeros is told by the mark 0 alone, and any other by the mark 1 and its bytes
unfoldable pub block_bytes : List ℕ → List ℕ
block_bytes block = if is_zeros block then 0 ∷ [] else 1 ∷ block

-- each block of the bytes with its mark, and then the bytes that fill none
unfoldable pub marked : List ℕ → List ℕ
marked bytes =
    flat_map block_bytes (first_chunks block_size (length bytes / block_size) bytes)
    ++ drop (length bytes / block_size * block_size) bytes
